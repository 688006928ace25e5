use mathlib.Core.Path.{◌≡◌, refl, sym, ◌∙◌, ap}
use mathlib.Core.Bool.{Bool, true, false, false≢true}
use borrow.Author.Tests.{ne_eqb}
use Prim.Native.Nat.{ℕ}
use native.Mathlib.Omega.{arith}
use Rattle.std.proofs.Common.{rules}
use Rattle.token_list.specs.Byte.{code, bytes}
use Rattle.token_list.specs.Text.{member}
use Rattle.token_list.proofs.Texts.{chosen, passed_over, and_fails}
use Rattle.source.specs.Contract.{none}
use Rattle.source.proofs.Offsets.{stands, ends_behind}
use Rattle.source.proofs.Passed.{ends_takes}
use Rattle.source.proofs.Quotes.{escape_at}
use Rattle.source.proofs.quoted.escape_end.Goals as goal

abbrev plain : ℕ → Bool
plain b = member b (bytes "nrt\\0'\"")

pub returns-in-110 : goal.returns-in-110
returns-in-110 c =
    let one : plain c.byte_at.result ≡ true = search rules in
    let here = stands c.args.s.now c.args.i
    (λ z. false≢true (sym (ap plain (c.byte_at.ensures ∙ z)) ∙ one)) in
    let e = escape_at c.args.byte c.args.s.now c.args.i c.byte_at.ensures in
    ends_takes 1 (e ∙ chosen _ _ _ one) refl (omega arith) (omega arith)

pub returns-in-120 : goal.returns-in-120
returns-in-120 c =
    let e = escape_at c.args.byte c.args.s.now c.args.i c.byte_at.ensures in
    ends_behind 1 (e ∙ simp c.in-120.is) c.hex_escape_end.ensures

pub returns-in-117 : goal.returns-in-117
returns-in-117 c =
    let e = escape_at c.args.byte c.args.s.now c.args.i c.byte_at.ensures in
    ends_behind 1 (e ∙ simp (c.in-117.is, c.if-not-byte.true)) c.unicode_escape_end.ensures

pub returns-in_default : goal.returns-in_default
returns-in_default c =
    let e = escape_at c.args.byte c.args.s.now c.args.i c.byte_at.ensures in
    none (e ∙ simp (c.in-117.is, c.if-not-byte.false))

pub returns-in_default-2 : goal.returns-in_default-2
returns-in_default-2 c =
    let e = escape_at c.args.byte c.args.s.now c.args.i c.byte_at.ensures in
    let none_of : plain c.byte_at.result ≡ false = search rules in
    let x = ne_eqb c.byte_at.result (code "x") (λ z. search rules) in
    let u = ne_eqb c.byte_at.result (code "u") (λ z. search rules) in
    none (e ∙ passed_over _ _ _ none_of ∙ passed_over _ _ _ x ∙ passed_over _ _ _ (and_fails _ _ u))

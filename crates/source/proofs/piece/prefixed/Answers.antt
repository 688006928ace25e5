use mathlib.Core.Path.{refl, ap, ◌∙◌}
use Prim.Native.Nat.{◌-◌}
use native.Mathlib.Omega.{arith}
use borrow.Author.Tests.{ne_eqb}
use lib.ListN.{drop}
use Rattle.source.specs.Taken.{Taken, after}
use Rattle.source.specs.Piece.{literal}
use Rattle.source.specs.Contract.{none}
use Rattle.source.proofs.Offsets.{ends_to, ends_not, ends_behind}
use Rattle.source.proofs.Pieces.{piece_as, prefix_long, prefix_at, prefix_string, prefix_character, prefix_raw}
use Rattle.source.proofs.piece.prefixed.Goals as goal

pub returns-then-end-i-ne1 : goal.returns-then-end-i-ne1
returns-then-end-i-ne1 c =
    none (prefix_long c.args.s.now c.args.i (c.args.end - c.args.i)
    (omega (arith, c.requires.i_lt_end, c.requires.end_in_bounds)) c.if-end-i-ne1.true)

pub returns-in_err-string_end-in-98-eq34 : goal.returns-in_err-string_end-in-98-eq34
returns-in_err-string_end-in-98-eq34 c =
    let arm = c.in-98-eq34 in
    let whole = prefix_string c.args.s.now c.args.i _ (omega arith) c.if-end-i-ne1.false arm.is-0 arm.is-1 in
    let no = ap (λ (t : Taken). literal (drop c.args.i c.args.s.now) (after 2 t))
    (ends_not c.in_err-string_end-in-98-eq34.ensures) in
    rw c.from_residual.ensures (none (whole ∙ no))

pub returns-in_err-character_end-in-98-eq39 : goal.returns-in_err-character_end-in-98-eq39
returns-in_err-character_end-in-98-eq39 c =
    let arm = c.in-98-eq39 in
    let whole = prefix_character c.args.s.now c.args.i _ (omega arith) c.if-end-i-ne1.false arm.is-0 arm.is-1 in
    let no = ap (λ (t : Taken). literal (drop c.args.i c.args.s.now) (after 2 t))
    (ends_not c.in_err-character_end-in-98-eq39.ensures) in
    rw c.from_residual-in_err-character_end-in-98-eq39.ensures (none (whole ∙ no))

pub returns-in_ok-string_end-in-98-eq34 : goal.returns-in_ok-string_end-in-98-eq34
returns-in_ok-string_end-in-98-eq34 c =
    let arm = c.in-98-eq34 in
    let whole = prefix_string c.args.s.now c.args.i _ (omega arith) c.if-end-i-ne1.false arm.is-0 arm.is-1 in
    let to = ends_to (ends_behind 2 refl c.in_ok-string_end-in-98-eq34.ensures) in
    piece_as whole (c.literal.ensures c.args.i _ to)

pub returns-in_ok-character_end-in-98-eq39 : goal.returns-in_ok-character_end-in-98-eq39
returns-in_ok-character_end-in-98-eq39 c =
    let arm = c.in-98-eq39 in
    let whole = prefix_character c.args.s.now c.args.i _ (omega arith) c.if-end-i-ne1.false arm.is-0 arm.is-1 in
    let to = ends_to (ends_behind 2 refl c.in_ok-character_end-in-98-eq39.ensures) in
    piece_as whole (c.literal-in-98-eq39.ensures c.args.i _ to)

pub returns-in-114-eq35 : goal.returns-in-114-eq35
returns-in-114-eq35 c =
    let arm = c.in-114-eq35 in
    piece_as (prefix_raw c.args.s.now c.args.i _ (omega arith) c.if-end-i-ne1.false arm.is-0 arm.is-1)
    c.raw_name.ensures

pub returns-in_default : goal.returns-in_default
returns-in_default c =
    let arm = c.in_default in
    none
    (prefix_at c.args.s.now c.args.i _ (omega arith) c.if-end-i-ne1.false
    ∙ simp (arm.is-0, ne_eqb _ 34 arm.is-1.0.1, ne_eqb _ 39 arm.is-1.1))

pub returns-in_default-2 : goal.returns-in_default-2
returns-in_default-2 c =
    let arm = c.in_default in
    none
    (prefix_at c.args.s.now c.args.i _ (omega arith) c.if-end-i-ne1.false ∙ simp (arm.is-0, ne_eqb _ 35 arm.is-1.1))

pub returns-in_default-3 : goal.returns-in_default-3
returns-in_default-3 c =
    let arm = c.in_default in
    none
    (prefix_at c.args.s.now c.args.i _ (omega arith) c.if-end-i-ne1.false
    ∙ simp (ne_eqb _ 98 arm.is-0.0.1, ne_eqb _ 114 arm.is-0.1))

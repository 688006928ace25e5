use mathlib.Core.Path.{◌≡◌, sym, ap, ◌∙◌}
use Prim.Native.Nat.{◌+◌, ◌<◌, ◌≤◌}
use native.Mathlib.Omega.{arith}
use lib.Dec.{ltb}
use borrow.Author.Tests.{lt-ltb, le-ltb}
use Rattle.token_list.specs.Text.{digit_worth}
use Rattle.token_list.proofs.Texts.{chosen, passed_over, and_both}
use Rattle.source.specs.Contract.{none}
use Rattle.source.proofs.Offsets.{and_fails_last}
use Rattle.source.proofs.Passed.{ends_takes}
use Rattle.source.proofs.Quotes.{digit_there, limit, hex_none, hex_at}
use Rattle.source.proofs.quoted.hex_escape_end.Goals as goal
use Rattle.source.proofs.quoted.hex_escape_end.Goals.{then-byte, else-byte}
use Rattle.source.proofs.quoted.hex_escape_end.Goals.{then-limit-digit_worth-via-then-limit-digit_worth}

pub overflow_add-i : goal.overflow_add-i
overflow_add-i c =
    let p = c.digit_worth.ensures.value ∙ ap digit_worth c.byte_at.ensures in
    let most : c.if-byte.limit ≤ 16 = elim c.if-byte.branch [ then-byte w ↦ omega arith | else-byte w ↦ omega arith ] in
    omega (arith, digit_there c.args.s.now c.args.i (omega (arith, p)))

pub returns-then-limit-digit_worth : goal.returns-then-limit-digit_worth
returns-then-limit-digit_worth c =
    let byte = c.args.byte in
    let s = c.args.s.now in
    let i = c.args.i in
    let p = c.digit_worth.ensures.value ∙ ap digit_worth c.byte_at.ensures in
    let same : limit byte ≡ c.if-byte.limit = elim c.if-byte.branch [
      | then-byte w ↦ ap limit w.if-byte.true ∙ sym w.limit-is
      | else-byte w ↦ ap limit w.if-byte.false ∙ sym w.limit-is
    ] in
    elim c.then-limit-digit_worth.branch [
      | then-limit-digit_worth-via-then-limit-digit_worth w ↦ none (hex_none byte s i p (omega (arith, same)))
      | goal.then-limit-digit_worth-via-else-limit-digit_worth+then-digit_worth-ge16 w ↦
          let q = w.digit_worth-else-limit-digit_worth.ensures.value
          ∙ ap digit_worth w.byte_at-else-limit-digit_worth.ensures in
          none
          (hex_at byte s i p q ∙ passed_over _ _ _
          (and_fails_last (ltb c.digit_worth.result (limit byte)) (le-ltb _ _ w.if-digit_worth-ge16.true)))
    ]

pub overflow_add-result : goal.overflow_add-result
overflow_add-result c =
    let q = c.digit_worth-else-limit-digit_worth.ensures.value
    ∙ ap digit_worth c.byte_at-else-limit-digit_worth.ensures in
    omega (arith, digit_there c.args.s.now (c.args.i + 1) (omega (arith, q)))

pub returns : goal.returns
returns c =
    let byte = c.args.byte in
    let s = c.args.s.now in
    let i = c.args.i in
    let p = c.digit_worth.ensures.value ∙ ap digit_worth c.byte_at.ensures in
    let q = c.digit_worth-else-limit-digit_worth.ensures.value
    ∙ ap digit_worth c.byte_at-else-limit-digit_worth.ensures in
    let below : c.digit_worth.result < limit byte = elim c.if-byte.branch [
      | then-byte w ↦ omega (arith, ap limit w.if-byte.true)
      | else-byte w ↦ omega (arith, ap limit w.if-byte.false)
    ] in
    let h = digit_there s (i + 1) (omega (arith, q)) in
    let both = and_both _ _ (lt-ltb _ _ below) (lt-ltb _ _ c.if-digit_worth-ge16.false) in
    ends_takes 2 (hex_at byte s i p q ∙ chosen _ _ _ both) (omega arith) (omega arith) (omega arith)

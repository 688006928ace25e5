use mathlib.Core.Path.{◌≡◌, refl, sym, ap, ◌∙◌}
use Prim.Native.Nat.{◌-◌}
use native.Mathlib.Omega.{arith}
use borrow.Author.Tests.{eq-eqb, ne_eqb}
use lib.ListN.{get_or, drop}
use Rattle.std.proofs.Common.{rules}
use Rattle.token_list.specs.Byte.{QUOTE}
use Rattle.token_list.proofs.Texts.{chosen, passed_over}
use Rattle.source.specs.Bytes.{SLASH, DOUBLE_QUOTE, blank}
use Rattle.source.specs.Taken.{Taken, after, run}
use Rattle.source.specs.Piece.{gap as gap_of, literal}
use Rattle.source.specs.Contract.{gap, none}
use Rattle.source.proofs.Offsets.{ends_behind, ends_to, ends_not}
use Rattle.source.proofs.Runs.{run_on}
use Rattle.source.proofs.Pieces.{piece_as, piece_at, piece_none, by_digit, by_mark}
use Rattle.source.proofs.piece.piece_at.Goals as goal

pub returns-then-s-i : goal.returns-then-s-i
returns-then-s-i c = none (piece_none c.args.s.now c.args.i c.if-s-i.true)

pub returns-then-is_blank : goal.returns-then-is_blank
returns-then-is_blank c = let some = sym c.is_blank.ensures ∙ c.if-is_blank.true in
    let end = c.run_end.ensures in
    let here = c.if-s-i.false in
    let n : run blank (drop c.args.i c.args.s.now) ≡ c.run_end.result - c.args.i = omega (arith, end.told) in
    gap (record {
      told = piece_at c.args.s.now c.args.i ∙ chosen _ _ _ some ∙ ap gap_of n;
      forth = omega (arith, run_on blank c.args.s.now c.args.i here some, end.told);
      within = end.within (omega arith);
    })

pub word-requires : goal.word-requires
word-requires c = sym c.is_name_start.ensures ∙ c.if-is_name_start.true

pub returns-then-is_name_start : goal.returns-then-is_name_start
returns-then-is_name_start c = let blank = sym c.is_blank.ensures ∙ c.if-is_blank.false in
    let name = sym c.is_name_start.ensures ∙ c.if-is_name_start.true in
    piece_as (piece_at c.args.s.now c.args.i ∙ passed_over _ _ _ blank ∙ chosen _ _ _ name) c.word.ensures

pub number_end-requires : goal.number_end-requires
number_end-requires c = sym c.is_digit.ensures ∙ c.if-is_digit.true

pub returns-in_err-end : goal.returns-in_err-end
returns-in_err-end c =
    let number = by_digit c.args.s.now c.args.i (sym c.is_blank.ensures ∙ c.if-is_blank.false)
    (sym c.is_name_start.ensures ∙ c.if-is_name_start.false) (sym c.is_digit.ensures ∙ c.if-is_digit.true) in
    rw c.from_residual.ensures
    (none (number ∙ ap (literal (drop c.args.i c.args.s.now)) (ends_not c.in_err-end.ensures)))

pub returns-then-is_digit : goal.returns-then-is_digit
returns-then-is_digit c =
    let number = by_digit c.args.s.now c.args.i (sym c.is_blank.ensures ∙ c.if-is_blank.false)
    (sym c.is_name_start.ensures ∙ c.if-is_name_start.false) (sym c.is_digit.ensures ∙ c.if-is_digit.true) in
    piece_as number (c.literal.ensures c.args.i _ (ends_to c.in_ok-end.ensures))

pub returns-in_err-string_end-in-34 : goal.returns-in_err-string_end-in-34
returns-in_err-string_end-in-34 c =
    let mark = by_mark c.args.s.now c.args.i (sym c.is_blank.ensures ∙ c.if-is_blank.false)
    (sym c.is_name_start.ensures ∙ c.if-is_name_start.false) (sym c.is_digit.ensures ∙ c.if-is_digit.false) in
    let quoted = eq-eqb _ DOUBLE_QUOTE c.in-34.is in
    let no = ap (λ (t : Taken). literal (drop c.args.i c.args.s.now) (after 1 t))
    (ends_not c.in_err-string_end-in-34.ensures) in
    rw c.from_residual-in_err-string_end-in-34.ensures (none (mark ∙ chosen _ _ _ quoted ∙ no))

pub returns-in_ok-string_end-in-34 : goal.returns-in_ok-string_end-in-34
returns-in_ok-string_end-in-34 c =
    let mark = by_mark c.args.s.now c.args.i (sym c.is_blank.ensures ∙ c.if-is_blank.false)
    (sym c.is_name_start.ensures ∙ c.if-is_name_start.false) (sym c.is_digit.ensures ∙ c.if-is_digit.false) in
    let quoted = eq-eqb _ DOUBLE_QUOTE c.in-34.is in
    let to = ends_to (ends_behind 1 refl c.in_ok-string_end-in-34.ensures) in
    piece_as (mark ∙ chosen _ _ _ quoted) (c.literal-in-34.ensures c.args.i _ to)

pub returns-in-39 : goal.returns-in-39
returns-in-39 c =
    let mark = by_mark c.args.s.now c.args.i (sym c.is_blank.ensures ∙ c.if-is_blank.false)
    (sym c.is_name_start.ensures ∙ c.if-is_name_start.false) (sym c.is_digit.ensures ∙ c.if-is_digit.false) in
    let other = ne_eqb (get_or c.args.s.now c.args.i 0) DOUBLE_QUOTE (λ e. omega (arith, e, c.in-39.is)) in
    piece_as (mark ∙ passed_over _ _ _ other ∙ chosen _ _ _ (eq-eqb _ QUOTE c.in-39.is)) c.quote.ensures

pub returns-in-47 : goal.returns-in-47
returns-in-47 c =
    let mark = by_mark c.args.s.now c.args.i (sym c.is_blank.ensures ∙ c.if-is_blank.false)
    (sym c.is_name_start.ensures ∙ c.if-is_name_start.false) (sym c.is_digit.ensures ∙ c.if-is_digit.false) in
    let other = ne_eqb (get_or c.args.s.now c.args.i 0) DOUBLE_QUOTE (λ e. omega (arith, e, c.in-47.is)) in
    let quote = ne_eqb (get_or c.args.s.now c.args.i 0) QUOTE (λ e. omega (arith, e, c.in-47.is)) in
    let slash = eq-eqb _ SLASH c.in-47.is in
    piece_as (mark ∙ passed_over _ _ _ other ∙ passed_over _ _ _ quote ∙ chosen _ _ _ slash) c.slash.ensures

pub returns-in_default : goal.returns-in_default
returns-in_default c =
    let mark = by_mark c.args.s.now c.args.i (sym c.is_blank.ensures ∙ c.if-is_blank.false)
    (sym c.is_name_start.ensures ∙ c.if-is_name_start.false) (sym c.is_digit.ensures ∙ c.if-is_digit.false) in
    let b = get_or c.args.s.now c.args.i 0 in
    let other = ne_eqb b DOUBLE_QUOTE (λ e. search rules) in
    let quote = ne_eqb b QUOTE (λ e. search rules) in
    let slash = ne_eqb b SLASH (λ e. search rules) in
    piece_as (mark ∙ passed_over _ _ _ other ∙ passed_over _ _ _ quote ∙ passed_over _ _ _ slash) c.single.ensures

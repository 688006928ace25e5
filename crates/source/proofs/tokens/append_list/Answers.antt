use mathlib.Core.Path.{ap, ◌∙◌, sym}
use mathlib.Core.Bool.{false}
use mathlib.Core.List.{List, [], ◌++◌, append-nil}
use native.Mathlib.Omega.{arith}
use Rattle.token_list.specs.Row.{Row, written}
use Rattle.output.proofs.Appends.{appended_none, appended_join, appended_as}
use Rattle.source.specs.Lex.{Lexed}
use Rattle.source.specs.Answer.{rows_of}
use Rattle.source.proofs.Lexes.{rest_all, piece_forth, piece-within, piece-here}
use Rattle.source.proofs.Measures.{rows_none, written-piece}
use Rattle.source.proofs.tokens.append_list.Goals as goal

pub loop-p-init : goal.loop-p-init
loop-p-init c = (
  omega arith,
  [],
  appended_none,
  ap (λ (l : Lexed). written false (rows_of l)) (sym (rest_all c.args.s.now)),
)

pub append_piece-at-requires : goal.append_piece-at-requires
append_piece-at-requires c = (_, c.in-Some.ensures)

pub loop-p-smaller : goal.loop-p-smaller
loop-p-smaller c =
    let stands = c.in-Some.ensures in
    omega (arith, piece_forth stands, piece-within stands, c.piece_end-i.ensures)

pub loop-p-preserved : goal.loop-p-preserved
loop-p-preserved c =
    let stands = c.in-Some.ensures in
    let done = c.loop-p.invariant.1 in (
      omega (arith, piece-within stands, c.piece_end-i.ensures),
      done ++ _,
      appended_join c.loop-p.invariant.2 c.append_piece-at.ensures,
      written-piece c.args.s.now c.loop-p.i (piece-here stands) stands done c.piece_end-i.ensures
          ∙ c.loop-p.invariant.3,
    )

pub returns : goal.returns
returns c =
    let done = c.loop-p.invariant.1 in
    let none = ap (λ (t : List Row). done ++ written false t) (rows_none c.in_default.ensures) in
    let whole = sym (append-nil done) ∙ sym none ∙ c.loop-p.invariant.3 in
    appended_join c.append-at.ensures (appended_as whole c.loop-p.invariant.2)

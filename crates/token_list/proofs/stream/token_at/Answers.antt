use mathlib.Core.Path.{refl, ap, ◌∙◌}
use mathlib.Core.Bool.{Bool}
use lib.ListN.{drop}
use Rattle.token_list.specs.Layout.{text_offset}
use Rattle.token_list.specs.Row.{mark_of}
use Rattle.token_list.proofs.Streams.{token_of}
use Rattle.token_list.proofs.stream.token_at.Goals as goal

pub returns : goal.returns
returns c = let off = c.text_offset.ensures ∙ ap text_offset c.has_marks-marked.ensures in
    let joint = c.mark.ensures
    ∙ ap (λ (m : Bool). mark_of m (drop c.args.at c.args.s.now)) c.has_marks-marked.ensures in
    token_of c.args.s.now c.args.at c.row_end-end.result _ c.requires.right_rows c.row_end-end.ensures
    c.text_offset.result off joint refl refl refl
    refl refl

use mathlib.Core.Path.{sym, ◌∙◌, ap}
use mathlib.Core.List.{List}
use Prim.Native.Nat.{ℕ}
use Rattle.token_list.proofs.Texts.{chosen, passed_over}
use Rattle.source.specs.Taken.{after}
use Rattle.source.specs.Comment.{block, block_comment}
use Rattle.source.specs.Contract.{none}
use Rattle.source.proofs.Offsets.{drop_behind, ends_behind}
use Rattle.source.proofs.comment.block_comment_end.Goals as goal

pub returns-then-is_block_doc : goal.returns-then-is_block_doc
unfolding block_comment
returns-then-is_block_doc c = none (chosen _ _ _ (sym c.is_block_doc.ensures ∙ c.if-is_block_doc.true))

pub returns : goal.returns
unfolding block_comment
returns c = let e = passed_over _ _ _ (sym c.is_block_doc.ensures ∙ c.if-is_block_doc.false) in
    let rest = ap (λ (l : List ℕ). after 2 (block 0 0 l)) (drop_behind c.args.s.now c.args.i 2) in
    ends_behind 2 (e ∙ rest) c.block_end.ensures

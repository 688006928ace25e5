use lib.Seq.{slice}
use mathlib.Core.List.{◌++◌}
use mathlib.Core.Path.{◌≡◌, ◌∙◌, ap, sym}
use Rattle.parse.specs.Contract as contract
use Rattle.output.proofs.Writers.{then, writes_as}
use Rattle.output.specs.Text.{decimal}
use Rattle.describe.proofs.Lined.{put_line}
use Rattle.describe.specs.Listing.{line, kind_text}
use Rattle.describe.proofs.lines.put_item.Goals as goal
use Rattle.describe.proofs.lines.put_item.Goals.{in-Struct, in-Enum}

pub returns : goal.returns
returns c = let name = slice c.args.d.name.token.start c.args.d.name.token.end c.args.s.now in
    let kind = kind_text (contract.kind_of c.args.d.kind) in
    let part : c.match-d.part.now ≡ kind = elim c.match-d.branch [
      | in-Struct w ↦ ap (λ p. p.now) w.part-is ∙ ap (λ k. kind_text (contract.kind_of k)) (sym w.in-Struct.is)
      | in-Enum w ↦ ap (λ p. p.now) w.part-is ∙ ap (λ k. kind_text (contract.kind_of k)) (sym w.in-Enum.is)
    ] in
    λ x k.
    let named = put_line kind name (decimal c.args.d.count)
    (writes_as (ap (λ p. p ++ name) (sym part)) c.put_head.ensures) c.put_position.ensures in
    then c.bytes.ensures
    (writes_as (λ i. line (kind_text (k.kind i)) (k.name.bytes i) (decimal (sym k.count i))) named)

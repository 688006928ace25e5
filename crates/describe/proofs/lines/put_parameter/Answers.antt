use Rattle.token_list.specs.Byte.{QUOTE}
use Rattle.output.proofs.Writers.{writes_as}
use Rattle.parse.specs.Contract.{is_lifetime}
use lib.Seq.{slice}
use mathlib.Core.List.{◌∷◌, ◌++◌}
use mathlib.Core.Path.{sym, ◌∙◌, ap}
use Rattle.describe.proofs.Lined.{put_line, quoted, unquoted}
use Rattle.describe.specs.Listing.{PARAM, DASH, line}
use Rattle.describe.proofs.lines.put_parameter.Goals as goal
use Rattle.describe.proofs.lines.put_parameter.Goals.{then-is_lifetime, else-is_lifetime}

pub returns : goal.returns
returns c = let name = slice c.args.p.name.start c.args.p.name.end c.args.s.now in
    λ a k.
    elim c.if-is_lifetime.branch [
      | then-is_lifetime w ↦
          let same = quoted a (sym (ap is_lifetime k.kind) ∙ sym c.is_lifetime.ensures ∙ w.if-is_lifetime.true)
          ∙ ap (λ n. QUOTE ∷ n) k.text.bytes in
          writes_as (ap (λ n. line PARAM n DASH) same)
          (put_line PARAM (QUOTE ∷ name) DASH (writes_as (ap (λ p. p.now ++ name) (sym w.part-is)) c.put_head.ensures)
          c.bytes.ensures)
      | else-is_lifetime w ↦
          let same = unquoted a (sym (ap is_lifetime k.kind) ∙ sym c.is_lifetime.ensures ∙ w.if-is_lifetime.false)
          ∙ k.text.bytes in
          writes_as (ap (λ n. line PARAM n DASH) same)
          (put_line PARAM name DASH (writes_as (ap (λ p. p.now ++ name) (sym w.part-is)) c.put_head.ensures)
          c.bytes.ensures)
    ]

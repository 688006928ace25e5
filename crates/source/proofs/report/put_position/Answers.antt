use mathlib.Core.List.{◌∷◌, ◌++◌}
use mathlib.Core.Path.{sym}
use Rattle.token_list.specs.Byte.{COLON}
use Rattle.output.specs.Text.{decimal}
use Rattle.output.proofs.Writers.{then, writes_as}
use Rattle.source.specs.Report.{position_text}
use Rattle.source.proofs.report.put_position.Goals as goal

pub returns : goal.returns
unfolding position_text
returns c = writes_as (sym (λ j. decimal (c.position_of-p.ensures.line j) ++ COLON ∷ decimal
    (c.position_of-p.ensures.column j)))
    (then c.number.ensures (then c.byte.ensures c.number-2.ensures))

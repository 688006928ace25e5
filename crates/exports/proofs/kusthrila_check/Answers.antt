use mathlib.Core.Path.{◌∙◌, ap}
use Rattle.exports.specs.Code.{check_case}
use Rattle.exports.proofs.Codes.{checked_told, checked_case, low_case, case_coded}
use Rattle.exports.proofs.kusthrila_check.Goals as goal

pub coded-requires : goal.coded-requires
coded-requires c = low_case (checked_told c.args.list.now) c.check.result
    (checked_case c.check.result ∙ ap check_case c.check.ensures.answer)

pub returns : goal.returns
returns c = case_coded (checked_told c.args.list.now) c.check.result
    (checked_case c.check.result ∙ ap check_case c.check.ensures.answer) c.coded.ensures

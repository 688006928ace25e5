use mathlib.Core.Path.{ap, ◌∙◌}
use mir.Val.{bool_byte}
use lib.ListN.{length}
use Rattle.std.proofs.Common.{rules}
use Rattle.std.specs.Prelude.{is_some}
use Rattle.exports.specs.Code.{answer_case}
use Rattle.exports.proofs.Codes.{mapped, low_case, case_coded}
use Rattle.exports.proofs.TaggedCodes.{tagged_told, tagged_same}
use Rattle.exports.proofs.kusthrila_tagged.Goals as goal

pub coded-requires : goal.coded-requires
coded-requires c = let found = c.parse_tagged_attribute-found in
    low_case (tagged_told c.args.prefix.now c.args.list.now (length c.args.roles.now)) c.map.result
    (ap answer_case (mapped (λ o. bool_byte (is_some o)) found.result c.map.result c.map.ensures.cases
    (λ x n k. search rules)) ∙ tagged_same c.args.list.now found.result _ found.ensures.answered.answer)

pub returns : goal.returns
returns c = let found = c.parse_tagged_attribute-found in record {
  coded = case_coded (tagged_told c.args.prefix.now c.args.list.now (length c.args.roles.now)) c.map.result
      (ap answer_case (mapped (λ o. bool_byte (is_some o)) found.result c.map.result c.map.ensures.cases
      (λ x n k. search rules)) ∙ tagged_same c.args.list.now found.result _ found.ensures.answered.answer)
      c.coded.ensures;
  buffer = found.ensures.answered.buffer;
}

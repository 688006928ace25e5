use mathlib.Core.Path.{ap, ◌∙◌}
use lib.ListN.{length}
use Rattle.std.proofs.Common.{rules}
use Rattle.parse.specs.Contract.{kind_of}
use Rattle.exports.specs.Code.{answer_case, kind_code}
use Rattle.exports.proofs.Codes.{answered_told, mapped, read_same, low_case, case_coded}
use Rattle.exports.proofs.kusthrila_read.Goals as goal

pub coded-requires : goal.coded-requires
coded-requires c = low_case (answered_told c.args.list.now (length c.args.roles.now)) c.map.result
    (ap answer_case (mapped (λ i. kind_code (kind_of i.kind)) c.new.result c.map.result c.map.ensures.cases
    (λ x n k. search rules)) ∙ read_same c.args.list.now c.new.result _ c.new.ensures.answered.answer)

pub returns : goal.returns
returns c = record {
  coded = case_coded (answered_told c.args.list.now (length c.args.roles.now)) c.map.result
      (ap answer_case (mapped (λ i. kind_code (kind_of i.kind)) c.new.result c.map.result c.map.ensures.cases
      (λ x n k. search rules)) ∙ read_same c.args.list.now c.new.result _ c.new.ensures.answered.answer)
      c.coded.ensures;
  buffer = c.new.ensures.answered.buffer;
}

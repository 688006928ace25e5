use Rattle.std.proofs.Common.{rules}
use Rattle.parse.specs.Contract.{kind_of}
use Rattle.exports.specs.Code.{kind_code}
use Rattle.exports.proofs.Codes.{mapped}
use Rattle.exports.proofs.ReadSources.{read_low, read_into}
use Rattle.exports.proofs.kusthrila_read_source.Goals as goal

pub source_coded-requires : goal.source_coded-requires
source_coded-requires c = read_low c.args.text.now c.read.ensures c.map.result
    (mapped (λ k. kind_code (kind_of k)) c.read.result c.map.result c.map.ensures.cases (λ x n k. search rules))

pub returns : goal.returns
returns c = read_into c.args.text.now c.read.ensures c.map.result
    (mapped (λ k. kind_code (kind_of k)) c.read.result c.map.result c.map.ensures.cases (λ x n k. search rules))
    c.source_coded.ensures.number c.source_coded.ensures.place

use Rattle.exports.proofs.SourceCodes.{tokens_low, tokens_into}
use Rattle.exports.proofs.kusthrila_tokens.Goals as goal

pub source_coded-requires : goal.source_coded-requires
source_coded-requires c = tokens_low c.args.text.now c.write_tokens.result c.write_tokens.ensures

pub returns : goal.returns
returns c = tokens_into c.args.text.now c.write_tokens.result c.write_tokens.ensures c.source_coded.ensures.number
    c.source_coded.ensures.place

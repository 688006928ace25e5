use Rattle.tagged_attribute.proofs.Lines as lines
use Rattle.tagged_attribute.proofs.listing.put_tag.Goals as goal

pub returns : goal.returns
returns c = lines.tag-line c.bytes.ensures (lines.put_text {t = c.args.t} c.requires c.bytes-2.ensures)
    c.bytes-3.ensures

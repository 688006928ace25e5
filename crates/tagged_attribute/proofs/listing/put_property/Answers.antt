use Rattle.tagged_attribute.proofs.Lines as lines
use Rattle.tagged_attribute.proofs.listing.put_property.Goals as goal

pub returns : goal.returns
returns c = let name = lines.put_text {t = c.args.k} c.requires.readable c.bytes-2.ensures in
    let value = lines.put_text {t = c.args.l} c.requires.readable_2 c.bytes-4.ensures in
    lines.property_line c.bytes.ensures name c.bytes-3.ensures value c.bytes-5.ensures

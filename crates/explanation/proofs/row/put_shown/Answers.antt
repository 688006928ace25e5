use Rattle.explanation.proofs.Texts.{shown_plain, shown_hex}
use Rattle.explanation.proofs.row.put_shown.Goals as goal

pub returns-then-is_printable : goal.returns-then-is_printable
returns-then-is_printable c = shown_plain c.args.b c.is_printable.ensures c.if-is_printable.true c.byte.ensures

pub returns-else-is_printable : goal.returns-else-is_printable
returns-else-is_printable c = shown_hex c.args.b c.is_printable.ensures c.if-is_printable.false c.hex_digit.ensures
    c.hex_digit-else-is_printable.ensures c.bytes.ensures c.byte-else-is_printable.ensures
    c.byte-else-is_printable-2.ensures

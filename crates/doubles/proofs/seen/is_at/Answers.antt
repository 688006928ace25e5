use mathlib.Core.Path.{◌∙◌}
use Rattle.doubles.specs.Contract.{key_at}
use Rattle.doubles.proofs.Tables.{text_told}
use Rattle.doubles.proofs.seen.is_at.Goals as goal

pub returns-then-key-numbers : goal.returns-then-key-numbers
returns-then-key-numbers c =
    let key = key_at c.args.bytes.now c.args.words.now c.args.numbers.now c.args.k in
    (rw (c.from.ensures, c.from-then-key-numbers.ensures) at c.text_is.ensures)
    ∙ text_told c.args.bytes.now c.args.key key c.if-key-numbers.true

use mathlib.Core.Path.{sym}
use Rattle.output.proofs.Texts.{joined, retold, decimal_one, decimal-more}
use Rattle.output.proofs.put.+put_number.Goals as goal

pub returns-then-n-lt10 : goal.returns-then-n-lt10
returns-then-n-lt10 t c = retold (sym (decimal_one c.args.n c.if-n-lt10.true)) c.put_byte.ensures

pub returns-else-n-lt10 : goal.returns-else-n-lt10
returns-else-n-lt10 t c =
    retold (sym (decimal-more c.args.n c.if-n-lt10.false))
    (joined c.put_number-end.ensures c.put_byte-else-n-lt10.ensures)

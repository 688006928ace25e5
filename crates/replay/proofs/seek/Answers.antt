use borrow.Author.Tests.{ne_eqb, le-ltb}
use Rattle.token_list.proofs.Texts.{drop_of_take}
use Rattle.replay.proofs.seek.Goals as goal

pub returns-in_err-header : goal.returns-in_err-header
returns-in_err-header c = rw (
  c.from_residual.ensures,
  ne_eqb _ _ c.if-s.false,
  le-ltb _ _ c.if-s-gt0-2.false,
  drop_of_take c.args.s.at.from c.args.s.at.to c.args.buf.now,
  ← c.read_header.ensures,
  c.in_err-header.was,
)

pub returns : goal.returns
returns c = rw (
  c.begin.ensures,
  ne_eqb _ _ c.if-s.false,
  le-ltb _ _ c.if-s-gt0-2.false,
  drop_of_take c.args.s.at.from c.args.s.at.to c.args.buf.now,
  ← c.read_header.ensures,
  c.in_ok-header.was,
)

use mathlib.Core.Path.{◌∙◌}
use borrow.Author.Tests.{eq-eqb, ne_eqb}
use Rattle.token_list.proofs.Texts.{chosen, passed_over}
use Rattle.source.specs.Contract.{none}
use Rattle.source.proofs.Offsets.{ends_behind}
use Rattle.source.proofs.Quotes.{unicode_at}
use Rattle.source.proofs.quoted.unicode_escape_end.Goals as goal

pub returns-then-byte_at-ne123 : goal.returns-then-byte_at-ne123
returns-then-byte_at-ne123 c = let e = unicode_at c.args.s.now c.args.i c.byte_at.ensures in
    none (e ∙ passed_over _ _ _ (ne_eqb _ _ c.if-byte_at-ne123.true))

pub returns : goal.returns
returns c = let e = unicode_at c.args.s.now c.args.i c.byte_at.ensures in
    ends_behind 1 (e ∙ chosen _ _ _ (eq-eqb _ _ c.if-byte_at-ne123.false)) c.hex_digits_end.ensures

use mathlib.Core.Path.{refl, sym}
use Rattle.token_list.proofs.Texts.{chosen}
use Rattle.reading.specs.Reading.{punct_if}
use Rattle.parse.specs.Contract.{stream}
use Rattle.parse.proofs.Meeting.{stands-row, meets_same, meets_leaf}
use Rattle.parse.proofs.Looks.{no_punct}
use Rattle.parse.proofs.utils.consume_punct_if.Goals as goal

pub returns-then-not-stands_punct-clause-meets : goal.returns-then-not-stands_punct-clause-meets
returns-then-not-stands_punct-clause-meets c =
    meets_same (punct_if c.args.punct c.args.role) c.args.s.now c.args.c c.requires.in_list _ _ _ _ refl
    (no_punct c.args.punct c.args.role c.args.c.row (stream c.args.s.now c.args.c)
    (sym c.if-not-stands_punct.ensures)) refl

pub returns-clause-meets : goal.returns-clause-meets
returns-clause-meets c =
    meets_leaf (punct_if c.args.punct c.args.role) _ _ c.requires.in_list _ _ c.punct_at-t.ensures _ _ _ _
    c.take_token.ensures.value c.take_token.ensures.roles_after _
    (chosen _ _ _ (stands-row c.args.punct c.punct_at-t.ensures (sym c.if-not-stands_punct.ensures))) refl

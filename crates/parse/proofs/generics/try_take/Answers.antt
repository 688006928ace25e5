use mathlib.Core.Path.{refl, sym}
use Rattle.token_list.specs.Byte.{LESS}
use Rattle.token_list.proofs.Texts.{chosen}
use Rattle.reading.specs.Declaration.{angled}
use Rattle.reading.specs.Reading.{generics, generics_after}
use Rattle.parse.specs.Contract.{stream}
use Rattle.parse.proofs.Looks.{no_generics}
use Rattle.parse.proofs.Meeting.{stands-row, meets_same, meets_from, meets_map, past_in_of}
use Rattle.parse.proofs.generics.try_take.Goals as goal

pub returns-then-not-stands_punct : goal.returns-then-not-stands_punct
returns-then-not-stands_punct c =
    meets_same generics _ _ c.requires _ _ _ _ refl
    (no_generics c.args.c.row (stream c.args.s.now c.args.c) (sym c.if-not-stands_punct.ensures)) refl

pub every-requires : goal.every-requires
every-requires c = past_in_of _ _ _ _ c.take_token-next.ensures.value c.requires c.punct_at-t.ensures.token

pub returns : goal.returns
returns c =
    meets_from generics _ _ c.requires _ _ c.punct_at-t.ensures _ _ _ _ c.take_token-next.ensures.value
    c.take_token-next.ensures.roles_after _ _ (generics_after c.args.c.row)
    (chosen _ _ _ (stands-row LESS c.punct_at-t.ensures (sym c.if-not-stands_punct.ensures)))
    (meets_map _ angled (λ ps h. h) c.every.ensures)

-- The definitions give the answers of the examples, and the Reference's productions admit the first of them.
use mathlib.Core.Path.{◌≡◌, refl}
use mathlib.Core.Bool.{true}
use mathlib.Core.List.{[], ◌∷◌}
use Rattle.token_list.specs.Byte.{bytes}
use Rattle.token_list.specs.Check.{check}
use Rattle.token_list.specs.Layout.{marked, first_row}
use Rattle.token_list.specs.Row.{form_of}
use Rattle.token_list.specs.Stream.{before, at}
use Rattle.reading.specs.Keyword.{keyword}
use Rattle.tagged_reading.specs.Answer.{answer}
use Rattle.tagged_reading.specs.Examples.{all_agree, examples, ENTRIES}
use Rattle.tagged_reading.specs.Grammar as g
use Rattle.tagged_reading.specs.Grammar.{Obeys, nothing}

pub settled : all_agree examples ≡ true
unfolding answer check form_of before at marked first_row
settled = refl

-- with no difference allowed
pub plain : Obeys nothing (bytes "p") (at (bytes ENTRIES) (first_row (bytes ENTRIES))).here
    (23 ∷ 23 ∷ 23 ∷ 20 ∷ 23 ∷ 21 ∷ 23 ∷ 22 ∷ 23 ∷ 20 ∷ 23 ∷ 23 ∷ [])
unfolding before at keyword marked first_row
plain =
    g.Obeys.obeys refl
    (g.Attribute.attribute refl refl refl
    (g.Entries.next (g.Entry.tag refl (g.Separated.comma refl))
    (g.Entries.next (g.Entry.property refl refl refl (g.Separated.comma refl))
    (g.Entries.next (g.Entry.tag refl g.Separated.last) g.Entries.none)))
    refl)

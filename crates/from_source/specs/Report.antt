-- What a program prints of a source text: the listing, or the refusal with its line and column (document 02, card 1).
use Rattle.std.specs.Prelude.{cond, List, [], ◌∷◌, ◌++◌, ℕ, eqb, length}
use Rattle.token_list.specs.Byte.{SPACE, LF}
use Rattle.token_list.specs.Check.{END}
use Rattle.output.specs.Text.{REFUSED, decimal, place_text}
use Rattle.source.specs.Answer.{Answer, wrote, fault_at, refused}
use Rattle.source.specs.Place.{row_span}
use Rattle.source.specs.Report.{position_text, fault_text}

-- where the row of a refusal stands in the text s; the end mark stands at the text's end
unfoldable pub place_offset : List ℕ → ℕ → ℕ
place_offset s p = cond (eqb p END) (length s) (row_span s p).offset

-- the line of names, and a line with number and place, and the place's line and column
unfoldable pub placed_text : List ℕ → ℕ → ℕ → List ℕ
placed_text s n p =
    REFUSED ++
    (decimal n ++ SPACE ∷ (place_text p ++ SPACE ∷ (position_text s (place_offset s p) ++ LF ∷ [])))

abbrev pub listing_text : List ℕ → Answer → List ℕ
listing_text s (wrote t) = t
listing_text s (fault_at offset) = fault_text s offset
listing_text s (refused n p) = placed_text s n p

-- What a recorded answer is compared with.
use Rattle.std.specs.Prelude.{Bool, true, false, not, cond, ◌&&◌, List, [], ◌∷◌, ℕ, ◌+◌, eqb, take, drop}
use Rattle.token_list.specs.Byte.{code, bytes, DOT, LF}
use Rattle.token_list.specs.Layout.{MAX_ROWS}
use Rattle.token_list.specs.Text.{same, member}
use Rattle.token_list.specs.Check.{check}
use Rattle.output.specs.Text.{refusal_text}
use Rattle.output.specs.Answer as outputs
use Rattle.report.specs.Text.{answer_text}
use Rattle.reading.specs.Role as role
use Rattle.reading.specs.Answer.{Answer, declared, refused, answer}
use Rattle.describe.specs.Listing as listing
use Rattle.writing.specs.Answer as writing
use Rattle.tagged_reading.specs.Reading as tagged
use Rattle.tagged_reading.specs.Answer.{answer as tagged_answer}
use Rattle.replay.specs.declared.header.Topic.{Topic}
use Rattle.replay.specs.declared.header.Topic.TheVariants.{Check, Roles, Every, Listing, Tagged, Generics}
use Rattle.replay.specs.declared.header.Writer.{Writer}
use Rattle.replay.specs.declared.header.Writer.TheVariants as writers

-- the roles whose rows the Rust's answer always names
abbrev pub NAMED : List ℕ
NAMED = role.parameter-name ∷ role.bound ∷ role.where_run ∷ role.field_name ∷ role.type ∷ []

-- the role's letter; or `.` for a row that the Rust's answer need not name, except in `every`
unfoldable pub letter_fits : Bool → ℕ → ℕ → Bool
letter_fits every b r = cond (eqb b DOT) (cond every false (not (member r NAMED))) (eqb b (code "a" + r))

-- a letter for each role, then LF
abbrev pub letters_fit : Bool → List ℕ → List ℕ → Bool
letters_fit every [] [] = false
letters_fit every [] (r ∷ rs) = false
letters_fit every (b ∷ bs) [] = same (b ∷ bs) (LF ∷ [])
letters_fit every (b ∷ bs) (r ∷ rs) = letter_fits every b r && letters_fit every bs rs

-- the line before the letters, and its length
abbrev pub ACCEPTED : List ℕ
ACCEPTED = bytes "accepted\n"

abbrev pub LETTERS : ℕ
LETTERS = 9

-- the line `accepted`, then the letters
abbrev pub accepted_fits : Bool → List ℕ → List ℕ → Bool
accepted_fits every t rs = same (take LETTERS t) ACCEPTED && letters_fit every (drop LETTERS t) rs

abbrev pub roles_fit : List ℕ → Answer → Bool
roles_fit t (declared d rs) = accepted_fits false t rs
roles_fit t (refused n p) = same t (refusal_text n p)

-- a refusal has no such section
abbrev pub every_fits : List ℕ → Answer → Bool
every_fits t (declared d rs) = letters_fit true t rs
every_fits t (refused n p) = false

-- a text that is written, or the refusal
abbrev pub written_fits : List ℕ → outputs.Answer → Bool
written_fits t a = same t (outputs.answer_text a)

-- the bytes of the output that a listing or a list is written to: room for every one
abbrev pub OUTPUT : ℕ
OUTPUT = 262144

-- the writers, the last with the added names that the recorded answers are about
abbrev pub writer_of : Writer → writing.Writer
writer_of writers.Impl = writing.impl_generics_lem
writer_of writers.Type = writing.type_generics_lem
writer_of writers.Additional = writing.with_additional_lem (bytes "x\n") (bytes "Y\nZ")

-- the prefix that the recorded answers are about
abbrev pub PREFIX : List ℕ
PREFIX = bytes "p"

abbrev pub tagged_fits : List ℕ → tagged.Answer → Bool
tagged_fits t tagged.none = same t (bytes "none\n")
tagged_fits t (tagged.read es rs) = accepted_fits true t rs
tagged_fits t (tagged.refused n p) = same t (refusal_text n p)

-- whether a section's bytes are the answer to a list
abbrev pub right : Topic → List ℕ → List ℕ → Bool
right Check l t = same t (answer_text (check l))
right Roles l t = roles_fit t (answer l MAX_ROWS)
right Every l t = every_fits t (answer l MAX_ROWS)
right Listing l t = written_fits t (listing.answer l OUTPUT)
right Tagged l t = tagged_fits t (tagged_answer PREFIX l MAX_ROWS)
right (Generics w) l t = written_fits t (writing.answer (writer_of w) l OUTPUT)

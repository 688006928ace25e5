-- The report of the roles.
use Rattle.std.specs.Prelude.{◌≡◌, not, List, [], ◌∷◌, ◌++◌, ℕ, suc, ◌≤◌, eqb, length, take, Result, Ok, Err}
use Rattle.std.specs.List.{prefix_len}
use Rattle.token_list.specs.Byte.{bytes, SPACE, LF}
use Rattle.reading.specs.Role.{none}
use Rattle.reading.specs.Answer.{Answer, declared, refused}
use Rattle.output.specs.Text.{decimal, refusal_text}
use Rattle.token_list.specs.declared.check.Refusal.{Refusal}

-- how many bytes of a role buffer stand before the first that holds no role
abbrev pub assigned : List ℕ → ℕ
assigned rs = prefix_len (λ r. not (eqb r none)) rs

-- a row, one space and its role
unfoldable pub role_line : ℕ → ℕ → List ℕ
role_line row role = decimal row ++ SPACE ∷ (decimal role ++ LF ∷ [])

-- a line for each role, the first for the given row
abbrev pub role_lines : ℕ → List ℕ → List ℕ
role_lines row [] = []
role_lines row (r ∷ rs) = role_line row r ++ role_lines (suc row) rs

-- the line of names
abbrev pub NAMES : List ℕ
NAMES = bytes "row role\n"

-- the line of names and a line for each row, or the refusal
abbrev pub roles_text : Answer → List ℕ
roles_text (declared d rs) = NAMES ++ role_lines 0 rs
roles_text (refused n p) = refusal_text n p

-- the first n bytes of the buffer are the roles, or the refusal is the answer's
abbrev pub read_as_lem : Result ℕ Refusal → List ℕ → Answer → Type 0
read_as_lem (Ok n) after (declared d rs) = (n ≤ length after) × (take n after ≡ rs)
read_as_lem (Ok n) after (refused m p) = ⊥
read_as_lem (Err r) after (declared d rs) = ⊥
read_as_lem (Err r) after (refused m p) = (r.number ≡ m) × (r.place ≡ p)

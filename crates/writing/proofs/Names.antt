-- An argument is one name, never two.
use mathlib.Core.Path.{◌≡◌, refl, ap, ◌∙◌, sym}
use mathlib.Core.Bool.{Bool, true, false, cond, ◌||◌, true≢false}
use mathlib.Core.List.{List, [], ◌∷◌, ◌++◌, append_assoc}
use Prim.Native.Nat.{ℕ}
use borrow.Author.Tests.{eqb-false, ne_eqb}
use lib.Dec.{eqb}
use Rattle.token_list.specs.Byte.{LF}
use Rattle.token_list.specs.Text.{member}
use Rattle.token_list.specs.Row.{lines, line, byte}
use Rattle.writing.specs.Names.{line_names, names_of, name_line}

lines_without : (n t : List ℕ) → member LF n ≡ false → lines (n ++ LF ∷ t) ≡ line n (lines t)
lines_without [] t e = refl
lines_without (b ∷ n) t e = go (eqb LF b) refl e (lines_without n t)
  where
    other : eqb LF b ≡ false → eqb b LF ≡ false
    other q = ne_eqb b LF (λ e. eqb-false LF b q (sym e))

    go : (x : Bool) → eqb LF b ≡ x → (x || member LF n) ≡ false
        → (member LF n ≡ false → lines (n ++ LF ∷ t) ≡ line n (lines t)) → lines (b ∷ n ++ LF ∷ t) ≡ line (b ∷ n)
        (lines t)
    go true q h k = absurd (true≢false h)
    go false q h k = λ i. byte (other q i) b (k h i)

-- the line of a name, and what follows it
pub one_name : (n t : List ℕ) → names_of (name_line n ++ t) ≡ cond (member LF n) [] n ∷ names_of t
one_name n t = go (member LF n) refl
  where
    go : (x : Bool) → member LF n ≡ x
        → names_of (cond x (LF ∷ []) (n ++ LF ∷ []) ++ t) ≡ cond x [] n ∷ names_of t
    go true q = refl
    go false q = ap names_of (append_assoc n (LF ∷ []) t) ∙ ap line_names (lines_without n t q)

-- Runs of parameters: what a run holds is a run by itself, and reads the same before a `,`, or before a `>` where
-- its last
-- token is no `-`.
use mathlib.Core.Path.{◌≡◌, refl, ap, ◌∙◌, sym, subst}
use mathlib.Core.Bool.{Bool, true, false, false≢true}
use mathlib.Core.List.{List, [], ◌∷◌, ◌++◌}
use Prim.Native.Nat.{ℕ}
use native.Mathlib.Omega.{arith}
use lib.Dec.{eqb}
use lib.ListN.{length, length-append}
use Rattle.token_list.specs.Byte.{COMMA, MINUS, SEMICOLON, LESS, GREATER}
use Rattle.token_list.specs.Row.{Row}
use Rattle.token_list.specs.Rows.{punct}
use Rattle.token_list.specs.Stream.{Trees, end, leaf, group, size}
use Rattle.token_list.proofs.Texts.{and_parts}
use Rattle.reading.specs.Role as role
use Rattle.reading.specs.Token.{is_punct, is_end, copied, parameter_stops}
use Rattle.reading.specs.Grammar.{Difference, nothing, everything, Run, arrow, deeper, back, angle, comma, stop, token}
use Rattle.reading.specs.Grammar.{inside, ended}
use Rattle.reading.specs.Took.{took}
use Rattle.reading.specs.Reading as r
use Rattle.reading.proofs.Rounds.{copied_length}
use Rattle.reading.proofs.CompleteTokens.{punct-other, run_from_complete}
use Rattle.writing.specs.ReadBack.{ends_in_minus_lem}
use Rattle.writing.proofs.Joined.{joined, front_joined}

-- ## What a run holds

-- b, read alone: to its end, with no angle open there
abbrev pub Alone : ℕ → Bool → Trees → List ℕ → Type 0
Alone depth minus b rs = Run nothing parameter_stops role.bound depth minus b end rs

-- a run of ts that leaves us; at the end of its stream it may have open angles
pub record Held (depth : ℕ) (minus : Bool) (ts us : Trees) (rs : List ℕ) : Type 0 where
  pub tokens : Trees
  pub cut : ts ≡ joined tokens us
  pub counted : length rs ≡ size tokens
  pub alone : is_end us ≡ false → Alone depth minus tokens rs

held_none : {depth : ℕ} {minus : Bool} {us : Trees} → (is_end us ≡ false → eqb depth 0 ≡ true)
    → Held depth minus us us []
held_none z = record { tokens = end; cut = refl; counted = refl; alone = λ n. ended (z n) }

-- one token more
held_leaf : {depth e : ℕ} {minus m : Bool} {ts us : Trees} {rs : List ℕ} (q : Row) → Held e m ts us rs
    → ((b : Trees) → Alone e m b rs → Alone depth minus (leaf q b) (role.bound ∷ rs))
    → Held depth minus (leaf q ts) us (role.bound ∷ rs)
held_leaf q h k = record {
  tokens = leaf q h.tokens;
  cut = ap (leaf q) h.cut;
  counted = omega (arith, h.counted);
  alone = λ n. k h.tokens (h.alone n);
}

pub held : {depth : ℕ} {minus : Bool} {ts us : Trees} {rs : List ℕ}
    → Run everything parameter_stops role.bound depth minus ts us rs → Held depth minus ts us rs
held (arrow {q = q} e h) = held_leaf q (held h) (λ b. arrow e)
held (deeper {q = q} e h) = held_leaf q (held h) (λ b. deeper e)
held (back {q = q} e z h) = held_leaf q (held h) (λ b. back e z)
held (angle e z a) = held_none (λ n. z)
held (comma e z a) = held_none (λ n. z)
held (stop {depth = depth} e) = held_none (λ n. (and_parts (eqb depth 0) _ e).0)
held (token {q = q} e h) = held_leaf q (held h) (λ b. token e)
held (inside {d = d} {ts = ts} {rs = rs} e h) =
    let i = held h in
    record {
      tokens = group d ts i.tokens;
      cut = ap (group d ts) i.cut;
      counted = omega (arith, i.counted, length-append (copied role.bound ts) rs, copied_length role.bound ts);
      alone = λ n. inside e (i.alone n);
    }
held (ended u) = held_none (λ n. absurd (false≢true (sym n)))

-- ## The same run before another token

-- whether `-` is the last token; where there is none, whether it was before
abbrev pub last : Bool → Trees → Bool
last minus end = minus
last minus (leaf q us) = last (is_punct MINUS q) us
last minus (group d ts us) = last false us

pub ends_in_minus : (b : Trees) → ends_in_minus_lem b ≡ last false b
ends_in_minus end = refl
ends_in_minus (leaf q end) = refl
ends_in_minus (leaf q (leaf p us)) = ends_in_minus (leaf p us)
ends_in_minus (leaf q (group d ts us)) = ends_in_minus (group d ts us)
ends_in_minus (group d ts us) = ends_in_minus us

-- `<` and `>` are no `-`
after-angle : {v : Bool} (b : ℕ) (q : Row) (us : Trees) → is_punct b q ≡ true → eqb b MINUS ≡ false
    → last (is_punct MINUS q) us ≡ v → last false us ≡ v
after-angle {v} b q us e f h = subst (λ (m : Bool). last m us ≡ v) (punct-other b MINUS q e f) h

module _ (allowed : Difference → Bool) (q : Row) (us : Trees) where
  abbrev Before : ℕ → Bool → Trees → List ℕ → Type 0
  Before depth minus b rs = Run allowed parameter_stops role.bound depth minus (joined b (leaf q us)) (leaf q us) rs

  pub before-comma : {depth : ℕ} {minus : Bool} {b : Trees} {rs : List ℕ} → is_punct COMMA q ≡ true
      → Alone depth minus b rs → Before depth minus b rs
  before-comma c (arrow e h) = arrow e (before-comma c h)
  before-comma c (deeper e h) = deeper e (before-comma c h)
  before-comma c (back e z h) = back e z (before-comma c h)
  before-comma c (token e h) = token e (before-comma c h)
  before-comma c (inside e h) = inside e (before-comma c h)
  before-comma c (ended z) = comma c z refl

  -- a `>` ends the run where no `-` stands before it
  pub before-angle : {depth : ℕ} {minus : Bool} {b : Trees} {rs : List ℕ} → is_punct GREATER q ≡ true
      → last minus b ≡ false → Alone depth minus b rs → Before depth minus b rs
  before-angle c l (arrow {q = p} {us = ts} e h) = arrow e (before-angle c (after-angle GREATER p ts e refl l) h)
  before-angle c l (deeper {q = p} {us = ts} e h) = deeper e (before-angle c (after-angle LESS p ts e refl l) h)
  before-angle c l (back {q = p} {us = ts} e z h) = back e z (before-angle c (after-angle GREATER p ts e refl l) h)
  before-angle c l (token e h) = token e (before-angle c l h)
  before-angle c l (inside e h) = inside e (before-angle c l h)
  before-angle {depth} c l (ended z) =
      subst (λ (m : Bool). Run allowed parameter_stops role.bound depth m (leaf q us) (leaf q us) []) (sym l)
      (angle c z refl)

-- else it is an arrow's, and the run goes on past the `;` to the end
abbrev pub AFTER : Trees
AFTER = leaf (punct GREATER) (leaf (punct SEMICOLON) end)

pub before_arrow : {depth : ℕ} {minus : Bool} {b : Trees} {rs : List ℕ} → last minus b ≡ true → Alone depth minus b rs
    → (qs : List ℕ) × Run everything parameter_stops role.bound depth minus (joined b AFTER) end qs
before_arrow l (arrow {q = p} {us = ts} e h) =
    let i = before_arrow (after-angle GREATER p ts e refl l) h in (role.bound ∷ i.0, arrow e i.1)
before_arrow l (deeper {q = p} {us = ts} e h) =
    let i = before_arrow (after-angle LESS p ts e refl l) h in (role.bound ∷ i.0, deeper e i.1)
before_arrow l (back {q = p} {us = ts} e z h) =
    let i = before_arrow (after-angle GREATER p ts e refl l) h in (role.bound ∷ i.0, back e z i.1)
before_arrow l (token e h) = let i = before_arrow l h in (role.bound ∷ i.0, token e i.1)
before_arrow l (inside {ts = ts} e h) = let i = before_arrow l h in (copied role.bound ts ++ i.0, inside e i.1)
before_arrow {depth} l (ended z) = (
  role.bound ∷ role.bound ∷ [],
  subst (λ (m : Bool). Run everything parameter_stops role.bound depth m AFTER end (role.bound ∷ role.bound ∷ []))
      (sym l)
      (arrow refl (token refl (ended refl))),
)

-- ## The value of a run

pub alone_length : {depth : ℕ} {minus : Bool} {b : Trees} {rs : List ℕ} → Alone depth minus b rs → length rs ≡ size b
alone_length (arrow e h) = omega (arith, alone_length h)
alone_length (deeper e h) = omega (arith, alone_length h)
alone_length (back e z h) = omega (arith, alone_length h)
alone_length (token e h) = omega (arith, alone_length h)
alone_length (inside {ts = ts} {rs = rs} e h) =
    omega (arith, alone_length h, length-append (copied role.bound ts) rs, copied_length role.bound ts)
alone_length (ended z) = refl

pub run-taken : {ts us : Trees} {rs : List ℕ} → Run everything parameter_stops role.bound 0 false ts us rs → (row : ℕ)
    → r.run parameter_stops role.bound row ts ≡ took (r.first_rows ts (length rs)) rs us
run-taken {ts} h row = ap (r.kept ts) (run_from_complete parameter_stops role.bound h row).equal

pub run_value : {ts us : Trees} {rs : List ℕ} (b : Trees) → Run everything parameter_stops role.bound 0 false ts us rs
    → ts ≡ joined b us → length rs ≡ size b → (row : ℕ) → r.run parameter_stops role.bound row ts ≡ took b rs us
run_value {us = us} {rs = rs} b h e n row =
    run-taken h row
    ∙ ap (λ (t : Trees). took t rs us)
    (ap (λ (x : Trees). r.first_rows x (length rs)) e ∙ front_joined b us (length rs) n)

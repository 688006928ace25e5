-- Laws on headers: runs of bytes, the worth of a few digits, and where a section starts.
use mathlib.Core.Path.{◌≡◌, refl, ap, ◌∙◌, sym}
use mathlib.Core.Bool.{Bool, true, false, cond, ◌&&◌}
use mathlib.Core.List.{List, [], ◌∷◌}
use Prim.Native.Nat.{ℕ, zero, suc, ◌+◌, ◌-◌, ◌*◌, ◌≤◌, ◌<◌}
use native.Mathlib.Omega.{arith}
use borrow.Author.Tests.{le-leb, leb-true}
use lib.Dec.{eqb, ltb, leb}
use lib.ListN.{length, get_or, take, drop, length-take, length-drop}
use Rattle.std.specs.List.{AllWithin}
use Rattle.token_list.specs.Text.{all, same, between, digit}
use Rattle.token_list.proofs.Texts.{and_both, and_parts}
use Rattle.reading.specs.Token.{worth, worth_from, negatable}
use Rattle.token_list.proofs.Texts.{same_path}
use Rattle.replay.specs.Header.{LIST, topic_name, run, lower, section_named, ended, sized, named, header}
use Rattle.replay.specs.declared.header.Topic.{Topic}
use Rattle.replay.specs.declared.header.Topic.TheVariants.{Check, Roles, Every, Listing, Tagged, Generics}
use Rattle.replay.specs.declared.header.Writer.TheVariants as writers
use Rattle.replay.specs.declared.header.Section.{Section}
use Rattle.replay.specs.declared.header.Section.TheVariants.{Answer, Other}
use Rattle.replay.specs.declared.header.Header.{Header}
use Rattle.std.specs.Prelude.{Option, Some, None}
use Rattle.std.proofs.lemmas.List.Sums.{prefix_len-le-length}

-- ## Runs

pub run-all : (p : ℕ → Bool) (bs : List ℕ) → all p (take (run p bs) bs) ≡ true
run-all p [] = refl
run-all p (b ∷ bs) = go (run-all p bs) (p b) refl
  where
    go : all p (take (run p bs) bs) ≡ true → (q : Bool) → p b ≡ q
        → all p (take (cond q (1 + run p bs) 0) (b ∷ bs)) ≡ true
    go h true e = let n : 1 + run p bs ≡ suc (run p bs) = omega arith in rw n (and_both (p b) _ e h)
    go h false e = refl

-- ## Nine digits

-- the most that k digits go on to from n
abbrev nines : ℕ → ℕ → ℕ
nines zero n = n
nines (suc k) n = nines k (n * 10 + 9)

nines_grow : (k n : ℕ) → n ≤ nines k n
nines_grow zero n = omega arith
nines_grow (suc k) n = omega (arith, nines_grow k (n * 10 + 9))

worth-within : (k : ℕ) (t : List ℕ) (n m : ℕ) → all digit t ≡ true → length t ≤ k → n ≤ m → worth_from n t ≤ nines k m
worth-within k [] n m d l h = omega (arith, nines_grow k m)
worth-within zero (b ∷ t) n m d l h = absurd (omega arith)
worth-within (suc k) (b ∷ t) n m d l h =
    let parts = and_parts (digit b) (all digit t) d in
    let most : b ≤ 57 = leb-true _ _ (and_parts (leb 48 b) (leb b 57) parts.0).1 in
    worth-within k t (n * 10 + (b - 48)) (m * 10 + 9) parts.1 (omega arith) (omega arith)

pub nine_digits : (t : List ℕ) → all digit t ≡ true → length t ≤ 9 → negatable t ≡ true
unfolding negatable
nine_digits t d l =
    and_both _ _ d (le-leb (worth t) 9223372036854775807 (omega (arith, worth-within 9 t 0 0 d l (omega arith))))

-- the digits of a size
pub size-negatable : (t : List ℕ) (n : ℕ) → n ≡ run digit t → n ≤ 9 → negatable (take n t) ≡ true
size-negatable t n e h =
    nine_digits (take n t) (ap (λ (k : ℕ). all digit (take k t)) e ∙ run-all digit t)
    (omega (arith, length-take n t))

-- ## A section starts within the bytes that its header stands in

abbrev pub headed : ℕ → Option Header → Type 0
headed to None = Unit
headed to (Some h) = h.start ≤ to

ended-start : (k : Section) (start : ℕ) (t u : List ℕ) (to : ℕ) → (0 < length u → start ≤ to)
    → headed to (ended k start t u)
ended-start k start t [] to h = tt
ended-start k start t (b ∷ bs) to h = go (h (omega arith)) (eqb b 10 && between 1 9 (length t))
  where
    go : start ≤ to → (q : Bool)
        → headed to (cond q (Some (record { section = k; size = worth t; start = start })) None)
    go h true = h
    go h false = tt

sized-start : (k : Section) (at : ℕ) (u : List ℕ) (to : ℕ) → at + length u ≤ to → headed to (sized k at u)
sized-start k at u to h =
    ended-start k (at + run digit u + 1) (take (run digit u) u) (drop (run digit u) u) to
    (λ g. omega (arith, length-drop (run digit u) u))

named_start : (at : ℕ) (t u : List ℕ) (to : ℕ) → at + length u ≤ to → headed to (named at t u)
named_start at t [] to h = tt
named_start at t (b ∷ bs) to h =
    go (sized-start (section_named t) (at + 1) bs to (omega arith)) (eqb b 32 && ltb 0 (length t))
  where
    go : headed to (sized (section_named t) (at + 1) bs) → (q : Bool)
        → headed to (cond q (sized (section_named t) (at + 1) bs) None)
    go h true = h
    go h false = tt

pub header-start : (at : ℕ) (u : List ℕ) (to : ℕ) → at + length u ≤ to → headed to (header at u)
header-start at u to h =
    named_start (at + run lower u) _ (drop (run lower u) u) to
    (omega (arith, length-drop (run lower u) u, prefix_len-le-length lower u))

-- ## A topic's name

pub topic_few : (t : Topic) → length (topic_name t) ≤ 10
topic_few Check = omega arith
topic_few Roles = omega arith
topic_few Every = omega arith
topic_few Listing = omega arith
topic_few Tagged = omega arith
topic_few (Generics writers.Impl) = omega arith
topic_few (Generics writers.Type) = omega arith
topic_few (Generics writers.Additional) = omega arith

-- ## A name that is no topic's

abbrev TOPICS : List Topic
TOPICS =
    Check ∷ Roles ∷ Every ∷ Listing ∷ Tagged ∷ Generics writers.Impl ∷ Generics writers.Type ∷
    Generics writers.Additional ∷ []

own_name : (t : Topic) → section_named (topic_name t) ≡ Answer t
own_name Check = refl
own_name Roles = refl
own_name Every = refl
own_name Listing = refl
own_name Tagged = refl
own_name (Generics writers.Impl) = refl
own_name (Generics writers.Type) = refl
own_name (Generics writers.Additional) = refl

pub topic_named : (n : List ℕ) (t : Topic) → same n (topic_name t) ≡ true → Answer t ≡ section_named n
topic_named n t h = sym (own_name t) ∙ ap section_named (sym (same_path n (topic_name t) h))

pub other_named : (n : List ℕ) → same n LIST ≡ false
    → AllWithin (λ t. same n (topic_name t) ≡ false) TOPICS 0 (length TOPICS) → Other ≡ section_named n
other_named n list none =
    let no : (k : ℕ) → k < 8 → same n (topic_name (get_or TOPICS k Check)) ≡ false =
    λ k h. none k Check (omega arith) h in
    rw (
      list,
      no 0 (omega arith),
      no 1 (omega arith),
      no 2 (omega arith),
      no 3 (omega arith),
      no 4 (omega arith),
      no 5 (omega arith),
      no 6 (omega arith),
      no 7 (omega arith),
    )

-- One predicate on the answers of readers, `Conserved`: each row that is taken has one of the nineteen roles; these
-- rows and those that are left make up the stream, and what is left has no more texts than it; a refusal has a number
-- of the reader's own, at the end mark or at a row below a bound. A reader that goes round takes a row each time, so
-- that its fuel does not matter.
use mathlib.Core.Path.{◌≡◌, refl, ap}
use mathlib.Core.Bool.{Bool, true, false, cond, ◌&&◌}
use mathlib.Core.List.{List, [], ◌∷◌, ◌++◌}
use Prim.Native.Nat.{ℕ, zero, suc, ◌+◌, ◌≤◌, ◌<◌}
use native.Mathlib.Omega.{arith}
use lib.Dec.{leb, ltb}
use lib.ListN.{length, replicate, length-append, length-replicate}
use Rattle.token_list.specs.Text.{all}
use Rattle.token_list.specs.Row.{Row}
use Rattle.token_list.specs.Check.{END}
use Rattle.token_list.specs.Stream.{Trees, end, leaf, group, size}
use Rattle.token_list.proofs.Bounds.{texts}
use Rattle.token_list.proofs.Texts.{and_both, and_parts}
use Rattle.reading.specs.Role as role
use Rattle.reading.specs.Took.{Took, took, Cause, stopped, Reader, onward, after, ◌>>=◌, pure}
use Rattle.reading.specs.Reading as r
use Rattle.reading.specs.Reading.{Maybe, done, one, rounds, every, more}

-- ## Rows that are taken

abbrev pub IsRole : ℕ → Type 0
IsRole n = ltb n role.count ≡ true

abbrev pub AreRoles : List ℕ → Type 0
AreRoles rs = all (λ n. ltb n role.count) rs ≡ true

pub both_roles : (rs qs : List ℕ) → AreRoles rs → AreRoles qs → AreRoles (rs ++ qs)
both_roles [] qs h k = k
both_roles (n ∷ rs) qs h k = let p = and_parts (ltb n role.count) _ h in
    and_both _ _ p.0 (both_roles rs qs p.1 k)

pub same_roles : (k n : ℕ) → IsRole n → AreRoles (replicate k n)
same_roles zero n e = refl
same_roles (suc k) n e = and_both _ _ e (same_roles k n e)

-- rows with the roles rs are taken from ts, and us is left
pub record Parted (rs : List ℕ) (us ts : Trees) : Type 0 where
  pub roles : AreRoles rs
  pub rows : length rs + size us ≡ size ts
  pub lighter : texts us ≤ texts ts

pub past_none : (ts : Trees) → Parted [] ts ts
past_none ts = record { roles = refl; rows = omega arith; lighter = omega arith }

pub past_leaf : (n : ℕ) → IsRole n → (q : Row) (us : Trees) → Parted (n ∷ []) us (leaf q us)
past_leaf n e q us = record { roles = and_both _ _ e refl; rows = omega arith; lighter = omega arith }

pub copied_length : (n : ℕ) (ts : Trees) → length (r.copied n ts) ≡ 1 + size ts + 1
copied_length n ts = length-replicate (1 + size ts + 1) n

pub past_group : (n : ℕ) → IsRole n → (d : ℕ) (ts us : Trees) → Parted (r.copied n ts) us (group d ts us)
past_group n e d ts us = record {
  roles = same_roles (r.group_size ts) n e;
  rows = omega (arith, copied_length n ts);
  lighter = omega arith;
}

pub past_both : {ts us vs : Trees} (rs qs : List ℕ) → Parted rs us ts → Parted qs vs us → Parted (rs ++ qs) vs ts
past_both rs qs e f = record {
  roles = both_roles rs qs e.roles f.roles;
  rows = omega (arith, length-append rs qs);
  lighter = omega arith;
}

-- ## Answers

-- the numbers of the reader's refusals
abbrev pub own_number_lem : ℕ → Bool
own_number_lem n = leb 11 n && leb n 27

-- the end mark, or a row below b
pub data PlaceBelow (b : ℕ) : ℕ → Type 0 where
  at_end : PlaceBelow b END
  at_row : {p : ℕ} → p < b → PlaceBelow b p

-- where rows of ts are taken, T holds of the value and of what is left
pub data Conserved {A : Type 0} (b : ℕ) (T : A → Trees → Type 0) (ts : Trees) : Took A → Type 0 where
  taken : {a : A} (rs : List ℕ) (us : Trees) → Parted rs us ts → T a us → Conserved b T ts (took a rs us)
  refused : {w : Cause} {n p : ℕ} → own_number_lem n ≡ true → PlaceBelow b p → Conserved b T ts (stopped w n p)

pub conserved : {A : Type 0} {b : ℕ} {T : A → Trees → Type 0} {ts : Trees} {a : A} {rs : List ℕ} {us : Trees} →
    Conserved b T ts (took a rs us) → Parted rs us ts
conserved (taken rs us e h) = e

pub refusal-number : {A : Type 0} {b : ℕ} {T : A → Trees → Type 0} {ts : Trees} {w : Cause} {n p : ℕ} →
    Conserved b T ts (stopped w n p) → own_number_lem n ≡ true
refusal-number (refused n p) = n

pub refusal_place : {A : Type 0} {b : ℕ} {T : A → Trees → Type 0} {ts : Trees} {w : Cause} {n p : ℕ} →
    Conserved b T ts (stopped w n p) → PlaceBelow b p
refusal_place (refused n p) = p

-- what is left: whatever it is, or nothing
abbrev pub AnyRest : Trees → Type 0
AnyRest us = Unit {0}

abbrev pub Empty : Trees → Type 0
Empty us = us ≡ end

-- whatever was taken
abbrev pub Any : {A : Type 0} → A → Trees → Type 0
Any a us = Unit {0}

-- of a reader, where all rows are below b
abbrev pub Keeping : {A : Type 0} → ℕ → (A → Trees → Type 0) → Reader A → Type 0
Keeping b T m = (row : ℕ) (ts : Trees) → row + size ts ≤ b → Conserved b T ts (m row ts)

abbrev pub Conserving : {A : Type 0} → ℕ → Reader A → Type 0
Conserving b m = Keeping b Any m

-- ## Sequences and choices

module _ {b : ℕ} where
  pub onward_conserved : {A : Type 0} {T : A → Trees → Type 0} {ts us : Trees} {t : Took A} (rs : List ℕ) →
      Parted rs us ts → Conserved b T us t → Conserved b T ts (onward rs t)
  onward_conserved rs e (taken qs vs f h) = taken (rs ++ qs) vs (past_both rs qs e f) h
  onward_conserved rs e (refused n p) = refused n p

  pub after_conserved : {A B : Type 0} {T : A → Trees → Type 0} {U : B → Trees → Type 0} {ts : Trees} {t : Took A}
      {f : A → Reader B} (row : ℕ) → row + size ts ≤ b → Conserved b T ts t
      → ((a : A) (us : Trees) → T a us → size us ≤ size ts → (row : ℕ) → row + size us ≤ b →
      Conserved b U us (f a row us))
      → Conserved b U ts (after row t f)
  after_conserved row l (taken {a = a} rs us e h) k =
      onward_conserved rs e (k a us h (omega (arith, e.rows)) (row + length rs) (omega (arith, e.rows)))
  after_conserved row l (refused n p) k = refused n p

  pub looser : {A : Type 0} {T U : A → Trees → Type 0} {ts : Trees} {t : Took A} → Conserved b T ts t →
      ((a : A) (us : Trees) → size us ≤ size ts → T a us → U a us) → Conserved b U ts t
  looser (taken {a = a} rs us e h) k = taken rs us e (k a us (omega (arith, e.rows)) h)
  looser (refused n p) k = refused n p

  pub bind : {A B : Type 0} {T : A → Trees → Type 0} {U : B → Trees → Type 0} {m : Reader A} {f : A → Reader B} →
      Keeping b T m → ((a : A) → Keeping b U (f a)) → Keeping b U (m >>= f)
  bind c k row ts l = after_conserved row l (c row ts l) (λ a us h s row l. k a row us l)

  -- the value made into another
  pub bind_pure : {A B : Type 0} {E : Trees → Type 0} {m : Reader A} (f : A → B) → Keeping b (λ a us. E us) m →
      Keeping b (λ a us. E us) (m >>= λ a. pure (f a))
  bind_pure f c row ts l = after_conserved row l (c row ts l) (λ a us h s row l. taken [] us (past_none us) h)

  pub choice : {A : Type 0} {T : A → Trees → Type 0} {ts : Trees} (t : Bool) {u v : Took A} → Conserved b T ts u →
      Conserved b T ts v → Conserved b T ts (cond t u v)
  choice true c d = c
  choice false c d = d

  pub reader_choice : {A : Type 0} {m k : Reader A} (t : Bool) → Conserving b m → Conserving b k →
      Conserving b (cond t m k)
  reader_choice true c d = c
  reader_choice false c d = d

  -- ## Tokens

  pub nothing-taken : {A : Type 0} {a : A} {ts : Trees} → Conserved b Any ts (took a [] ts)
  nothing-taken {ts = ts} = taken [] ts (past_none ts) tt

  pub pure_conserving : {A : Type 0} (a : A) → Conserving b (pure a)
  pure_conserving a row ts l = nothing-taken

  pub one_row : {A : Type 0} {a : A} (n : ℕ) → IsRole n → (q : Row) (us : Trees) →
      Conserved b Any (leaf q us) (took a (n ∷ []) us)
  one_row n e q us = taken (n ∷ []) us (past_leaf n e q us) tt

  pub copied_alone : {A : Type 0} {a : A} (n : ℕ) → IsRole n → (d : ℕ) (ts us : Trees) →
      Conserved b Any (group d ts us) (took a (r.copied n ts) us)
  copied_alone n e d ts us = taken (r.copied n ts) us (past_group n e d ts us) tt

  pub copied_conserved : {A : Type 0} {T : A → Trees → Type 0} {t : Took A} (n : ℕ) → IsRole n
      → (d : ℕ) (ts us : Trees) →
      Conserved b T us t → Conserved b T (group d ts us) (onward (r.copied n ts) t)
  copied_conserved n e d ts us c = onward_conserved (r.copied n ts) (past_group n e d ts us) c

  -- the first token is taken, and a reader goes on
  pub from_conserved : {A : Type 0} {T : A → Trees → Type 0} {m : Reader A} (n : ℕ) → IsRole n → (row : ℕ) (q : Row)
      (us : Trees) → row + size (leaf q us) ≤ b → Keeping b T m → Conserved b T (leaf q us) (r.from n row us m)
  from_conserved n e row q us l k = onward_conserved (n ∷ []) (past_leaf n e q us) (k (row + 1) us (omega arith))

  -- a refusal at the end mark, and at a row
  pub told_end : {A : Type 0} {T : A → Trees → Type 0} {ts : Trees} {w : Cause} {n : ℕ} → own_number_lem n ≡ true →
      Conserved b T ts (stopped w n END)
  told_end own = refused own at_end

  pub told_row : {A : Type 0} {T : A → Trees → Type 0} {ts : Trees} {w : Cause} {n : ℕ} (p : ℕ)
      → own_number_lem n ≡ true →
      p < b → Conserved b T ts (stopped w n p)
  told_row p own l = refused own (at_row l)

  -- the inside of a group, to its end
  pub closing_conserved : {A : Type 0} {t : Took A} (d : ℕ) (ts us : Trees) → Conserved b (λ a. Empty) ts t →
      Conserved b Any (group d ts us) (r.closing us t)
  closing_conserved d ts us (taken rs vs e h) = taken (role.delimiter ∷ rs ++ role.delimiter ∷ []) us
      (record {
        roles = both_roles rs (role.delimiter ∷ []) e.roles refl;
        rows = omega (arith, length-append rs (role.delimiter ∷ []), e.rows, ap size h);
        lighter = omega arith;
      }) tt
  closing_conserved d ts us (refused n p) = refused n p

-- ## Going round

-- a reader that takes a row each round
abbrev pub Round : {A : Type 0} → Trees → Took (Maybe A) → Type 0
Round ts (took done rs us) = Unit {0}
Round ts (took (one a) rs us) = (size us < size ts) × (0 < length rs)
Round ts (stopped w n p) = Unit {0}

abbrev pub Rounding : {A : Type 0} → Reader (Maybe A) → Type 0
Rounding m = (row : ℕ) (ts : Trees) → Round ts (m row ts)

module _ {A : Type 0} (m : Reader (Maybe A)) (rd : Rounding m) where
  after_same : (g h : Reader (List A)) (row : ℕ) (ts : Trees) (t : Took (Maybe A)) → Round ts t
      → ((row : ℕ) (us : Trees) → size us < size ts → g row us ≡ h row us) → after row t (more g) ≡ after row t (more h)
  after_same g h row ts (took done rs us) l f = refl
  after_same g h row ts (took (one a) rs us) l f = ap
      (λ (u : Took (List A)). onward rs (after (row + length rs) u (λ xs. pure (a ∷ xs))))
      (f (row + length rs) us l.0)
  after_same g h row ts (stopped w n p) l f = refl

  -- fuel above the stream's size changes nothing
  pub fuel : (n k row : ℕ) (ts : Trees) → size ts < n → size ts < k → rounds n m row ts ≡ rounds k m row ts
  fuel zero k row ts h i = absurd (omega arith)
  fuel (suc n) zero row ts h i = absurd (omega arith)
  fuel (suc n) (suc k) row ts h i = after_same (rounds n m) (rounds k m) row ts (m row ts) (rd row ts)
      (λ row us l. fuel n k row us (omega arith) (omega arith))

  pub every-step : (row : ℕ) (ts : Trees) → every m row ts ≡ after row (m row ts) (more (every m))
  every-step row ts =
      after_same (rounds (size ts) m) (every m) row ts (m row ts) (rd row ts)
      (λ row us l. fuel (size ts) (suc (size us)) row us l (omega arith))

-- fewer rows than k are left after a round; where it is done, E holds of what is left
abbrev pub Turn : {A : Type 0} → (Trees → Type 0) → ℕ → Maybe A → Trees → Type 0
Turn E k done us = E us
Turn E k (one a) us = size us < k

abbrev pub Turning : {A : Type 0} → ℕ → (Trees → Type 0) → Reader (Maybe A) → Type 0
Turning b E m = (row : ℕ) (ts : Trees) → row + size ts ≤ b → Conserved b (Turn E (size ts)) ts (m row ts)

pub turn_round : {A : Type 0} {b : ℕ} {E : Trees → Type 0} {ts : Trees} {t : Took (Maybe A)} →
    Conserved b (Turn E (size ts)) ts t → Round ts t
turn_round (taken {a = done} rs us e h) = tt
turn_round (taken {a = one a} rs us e h) = (h, omega (arith, e.rows))
turn_round (refused n p) = tt

pub rounding : {A : Type 0} {E : Trees → Type 0} {m : Reader (Maybe A)} → ((b : ℕ) → Turning b E m) → Rounding m
rounding k row ts = turn_round (k (row + size ts) row ts (omega arith))

module _ {b : ℕ} {E : Trees → Type 0} where
  pub turn_wider : {A : Type 0} {j k : ℕ} {ts : Trees} {t : Took (Maybe A)} → j ≤ k → Conserved b (Turn E j) ts t →
      Conserved b (Turn E k) ts t
  turn_wider i (taken {a = done} rs us e h) = taken rs us e h
  turn_wider i (taken {a = one a} rs us e h) = taken {a = one a} rs us e (omega arith)
  turn_wider i (refused n p) = refused n p

  pub bind_turning : {A B : Type 0} {T : A → Trees → Type 0} {m : Reader A} {f : A → Reader (Maybe B)} →
      Keeping b T m → ((a : A) → Turning b E (f a)) → Turning b E (m >>= f)
  bind_turning c k row ts l = after_conserved row l (c row ts l) (λ a us h s row l. turn_wider s (k a row us l))

  module _ {A : Type 0} {m : Reader (Maybe A)} (k : Turning b E m) where
    rounds_conserved : (n row : ℕ) (ts : Trees) → size ts < n → row + size ts ≤ b →
        Conserved b (λ xs us. E us) ts (rounds n m row ts)
    rounds_conserved zero row ts h l = absurd (omega arith)
    rounds_conserved (suc n) row ts h l = after_conserved row l (k row ts l) (go (rounds_conserved n))
      where
        go : ((row : ℕ) (us : Trees) → size us < n → row + size us ≤ b →
            Conserved b (λ xs vs. E vs) us (rounds n m row us))
            → (v : Maybe A) (us : Trees) → Turn E (size ts) v us → size us ≤ size ts → (row : ℕ) → row + size us ≤ b →
            Conserved b (λ xs vs. E vs) us (more (rounds n m) v row us)
        go ih done us e s row l = taken [] us (past_none us) e
        go ih (one a) us e s row l =
            after_conserved row l (ih row us (omega arith) l) (λ xs vs f s row l. taken [] vs (past_none vs) f)

    pub every_conserving : Keeping b (λ xs us. E us) (every m)
    every_conserving row ts l = rounds_conserved (suc (size ts)) row ts (omega arith) l

-- ## To the end of the stream

abbrev pub Ended : {A : Type 0} → Took A → Type 0
Ended (took a rs us) = Empty us
Ended (stopped w n p) = Unit {0}

pub every-ended : {A : Type 0} {m : Reader (Maybe A)} → ((b : ℕ) → Turning b Empty m) → (row : ℕ) (ts : Trees) →
    Ended (every m row ts)
every-ended k row ts = go (every_conserving (k (row + size ts)) row ts (omega arith))
  where
    go : {A : Type 0} {b : ℕ} {ts : Trees} {t : Took A} → Conserved b (λ a. Empty) ts t → Ended t
    go (taken rs us e h) = h
    go (refused n p) = tt

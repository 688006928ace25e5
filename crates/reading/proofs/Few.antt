-- How many variants a stream may have: each has two rows or more, but for the last, which may have one.
use mathlib.Core.Path.{◌≡◌, refl, ap, sym, subst}
use mathlib.Core.Bool.{Bool, true, false, cond}
use mathlib.Core.List.{List, [], ◌∷◌, ◌++◌}
use Prim.Native.Nat.{ℕ, zero, suc, ◌+◌, ◌*◌, ◌≤◌, ◌<◌}
use native.Mathlib.Omega.{arith}
use lib.Dec.{eqb}
use lib.ListN.{length}
use Rattle.token_list.specs.Byte.{BRACE, COMMA, EQUALS, MINUS, PARENTHESIS, SEMICOLON}
use Rattle.token_list.specs.Row.{Row}
use Rattle.token_list.specs.Stream.{Trees, end, leaf, group, size}
use Rattle.reading.specs.Role as role
use Rattle.reading.specs.Declaration.{Kind, struct, enum, Fields, Value, literal, negative, absent, Variant, Body}
use Rattle.reading.specs.Declaration.{unit, fields, variants, Declaration}
use Rattle.reading.specs.Token.{worth}
use Rattle.reading.specs.Took.{Took, took, Cause, stopped, refuse, Reader, onward, after, ◌>>=◌, pure}
use Rattle.reading.specs.Reading as r
use Rattle.reading.specs.Reading.{Maybe, done, one, Word, missing, found, rounds, every, more}
use Rattle.reading.proofs.Rounds.{Conserved, Conserving, Any, taken, refused}
use Rattle.reading.proofs.Conserved as conserved

-- a row more than there are, where there are some
abbrev left : Trees → ℕ
left end = 0
left (leaf q us) = 1 + size (leaf q us)
left (group d ts us) = 1 + size (group d ts us)

left_most : (us : Trees) → left us ≤ 1 + size us
left_most end = omega arith
left_most (leaf q us) = omega arith
left_most (group d ts us) = omega arith

-- ## Parts of a variant

-- fewer rows than n are left
data Least {A : Type 0} (n : ℕ) : Took A → Type 0 where
  least : {a : A} (rs : List ℕ) (us : Trees) → size us < n → Least n (took a rs us)
  refuses : {w : Cause} {k p : ℕ} → Least n (stopped w k p)

least_onward : {A : Type 0} {n : ℕ} {t : Took A} (rs : List ℕ) → Least n t → Least n (onward rs t)
least_onward rs (least qs us h) = least (rs ++ qs) us h
least_onward rs refuses = refuses

-- a variant was read, and nothing is left, or fewer rows than n
data Short {A : Type 0} (n : ℕ) : Took (Maybe A) → Type 0 where
  short : {a : A} (rs : List ℕ) (us : Trees) → left us ≤ n → Short n (took (one a) rs us)
  stops : {w : Cause} {k p : ℕ} → Short n (stopped w k p)

short_wider : {A : Type 0} {k n : ℕ} {t : Took (Maybe A)} → k ≤ n → Short k t → Short n t
short_wider l (short qs us h) = short qs us (omega arith)
short_wider l stops = stops

onward-short : {A : Type 0} {k n : ℕ} {t : Took (Maybe A)} (rs : List ℕ) → k ≤ n → Short k t → Short n (onward rs t)
onward-short rs l (short qs us h) = short (rs ++ qs) us (omega arith)
onward-short rs l stops = stops

-- a `,` may follow
comma-short : {A : Type 0} (a : A) (n row : ℕ) (us : Trees) → size us < n → Short n (r.comma a row us)
comma-short a n row end h = short _ end (omega arith)
comma-short a n row (leaf q us) h = go (r.is_punct COMMA q)
  where
    go : (b : Bool) → Short n
        (after row (cond b (took true (role.separator ∷ []) us) (took false [] (leaf q us))) (λ t. pure (one a)))
    go true = short _ us (omega (arith, left_most us))
    go false = short _ (leaf q us) (omega arith)
comma-short a n row (group d ts us) h = short _ (group d ts us) (omega arith)

-- a `,` follows
comma_here : {A : Type 0} (a : A) (row : ℕ) (q : Row) (us : Trees) → r.is_punct COMMA q ≡ true →
    Short (1 + size us) (r.comma a row (leaf q us))
comma_here a row q us e =
    let taken : r.comma a row (leaf q us) ≡ took (one a) (role.separator ∷ []) us =
    ap (λ (b : Bool). after row (cond b (took true (role.separator ∷ []) us) (took false [] (leaf q us)))
    (λ t. pure (one a))) e in
    subst (Short (1 + size us)) (sym taken) (short _ us (left_most us))

negative_least : (row : ℕ) (us : Trees) → Least (size us) (r.negative_value row us)
negative_least row end = refuses
negative_least row (group d ts us) = refuses
negative_least row (leaf q us) = go (r.is_literal q) (r.negatable q.text)
  where
    go : (b c : Bool) → Least (1 + size us) (cond b
        (cond c (took (negative (worth q.text)) (role.value ∷ []) us) (refuse 26 row)) (refuse 21 row))
    go true true = least _ us (omega arith)
    go true false = refuses
    go false c = refuses

discriminant_least : (row : ℕ) (us : Trees) → Least (size us) (r.discriminant row us)
discriminant_least row end = refuses
discriminant_least row (group d ts us) = refuses
discriminant_least row (leaf q us) = go (r.is_literal q) (r.is_punct MINUS q)
  where
    wider : {A : Type 0} {t : Took A} → Least (size us) t → Least (1 + size us) t
    wider (least rs vs h) = least rs vs (omega arith)
    wider refuses = refuses

    go : (b c : Bool) → Least (1 + size us) (cond b (took (literal q.text) (role.value ∷ []) us)
        (cond c (r.from role.value row us r.negative_value) (refuse 21 row)))
    go true c = least _ us (omega arith)
    go false true = least_onward (role.value ∷ []) (wider (negative_least (row + 1) us))
    go false false = refuses

module _ {A : Type 0} (f : Value → A) where
  value-short : (row : ℕ) (us : Trees) → Short (size us) ((r.value_if >>= λ v. r.comma (f v)) row us)
  value-short row end = short _ end (omega arith)
  value-short row (group d ts us) = stops
  value-short row (leaf q us) = go (r.is_punct EQUALS q) (r.is_punct COMMA q) refl
    where
      valued : {t : Took Value} → Least (size us) t → Short (1 + size us) (after row t (λ v. r.comma (f v)))
      valued (least {a = v} rs vs h) =
          onward-short rs (omega arith) (comma-short (f v) (size us) (row + length rs) vs h)
      valued refuses = stops

      go : (b c : Bool) → r.is_punct COMMA q ≡ c → Short (1 + size us)
          (after row (cond b (r.from role.separator row us r.discriminant)
          (cond c (took absent [] (leaf q us)) (refuse 20 row))) (λ v. r.comma (f v)))
      go true c e = valued (least_onward (role.separator ∷ []) (discriminant_least (row + 1) us))
      go false true e = onward-short [] (omega arith) (comma_here (f absent) (row + 0) q us e)
      go false false e = stops

module _ {A : Type 0} (f : Fields → Value → A) where
  abbrev fields_rest : Reader (Maybe A)
  fields_rest = r.variant_fields >>= λ g. (r.value_if >>= λ v. r.comma (f g v))

  fields_short : (row : ℕ) (us : Trees) → Short (size us) (fields_rest row us)
  fields_short row end = onward-short [] (omega arith) (value-short (f unit) (row + 0) end)
  fields_short row (leaf q us) = onward-short [] (omega arith) (value-short (f unit) (row + 0) (leaf q us))
  fields_short row (group d ts us) = go (eqb d BRACE) (eqb d PARENTHESIS)
    where
      closed : (t : Took Fields) → Short (size (group d ts us))
          (after row (r.closing us t) (λ g. (r.value_if >>= λ v. r.comma (f g v))))
      closed (took g rs vs) =
          onward-short (role.delimiter ∷ rs ++ role.delimiter ∷ []) (omega arith) (value-short (f g) _ us)
      closed (stopped w n p) = stops

      go : (b c : Bool) → Short (size (group d ts us))
          (after row (cond b (r.enclosed r.named_fields row ts us)
          (cond c (r.enclosed r.tuple_fields row ts us) (refuse 19 row))) (λ g. (r.value_if >>= λ v. r.comma (f g v))))
      go true c = closed (r.named_fields (row + 1) ts)
      go false true = closed (r.tuple_fields (row + 1) ts)
      go false false = stops

-- ## A variant

abbrev name_rest : List Trees → Word → Reader (Maybe Variant)
name_rest a w = r.named! w >>= λ n. fields_rest (λ f v. record { attributes = a; name = n; fields = f; value = v })

module _ (a : List Trees) (k : ℕ) where
  named-short : (t : List ℕ) (p row : ℕ) (us : Trees) → size us ≤ k → Short k (name_rest a (found t p) row us)
  named-short t p row us h = onward-short [] h (fields_short _ _ us)

  name-short : (row : ℕ) (us : Trees) → size us ≤ k + 1 → Short k ((r.word role.variant-name >>= name_rest a) row us)
  name-short row end h = stops
  name-short row (leaf q us) h = go (r.is_ident q)
    where
      go : (b : Bool) → Short k (after row
          (cond b (took (found q.text row) (role.variant-name ∷ []) us) (took missing [] (leaf q us))) (name_rest a))
      go true = onward-short (role.variant-name ∷ []) (omega arith) (named-short q.text row _ us (omega arith))
      go false = stops
  name-short row (group d ts us) h = go (r.lone r.is_ident ts)
    where
      go : (b : Bool) → Short k (after row
          (cond b (took (found (r.first_text ts) (row + 1)) (r.copied role.variant-name ts) us)
          (took missing [] (group d ts us))) (name_rest a))
      go true =
          onward-short (r.copied role.variant-name ts) (omega arith)
          (named-short (r.first_text ts) (row + 1) _ us (omega arith))
      go false = stops

here_short : (k row : ℕ) (ts : Trees) → size ts ≤ k + 1 → Short k (r.variant_here row ts)
here_short k row ts h = go (conserved.attributes_conserving (row + size ts) row ts (omega arith))
  where
    go : {b : ℕ} {t : Took (List Trees)} → Conserved b Any ts t →
        Short k (after row t (λ a. (r.word role.variant-name >>= name_rest a)))
    go (taken {a = a} rs us e i) = onward-short rs (omega arith) (name-short a k _ us (omega (arith, e.rows)))
    go (refused n p) = stops

-- two less are left after a round
abbrev Pays : {A : Type 0} → Trees → Took (Maybe A) → Type 0
Pays ts (took done rs us) = Unit {0}
Pays ts (took (one a) rs us) = 2 + left us ≤ left ts
Pays ts (stopped w n p) = Unit {0}

paid : {A : Type 0} {t : Took (Maybe A)} (ts : Trees) (k : ℕ) → Short k t → 2 + k ≤ left ts → Pays ts t
paid ts k (short rs us h) l = omega arith
paid ts k stops l = tt

variant_pays : (row : ℕ) (ts : Trees) → Pays ts (r.variant row ts)
variant_pays row end = tt
variant_pays row (leaf q us) =
    paid (leaf q us) (size us) (here_short (size us) row (leaf q us) (omega arith)) (omega arith)
variant_pays row (group d ts us) =
    paid (group d ts us) (1 + size ts + size us) (here_short (1 + size ts + size us) row (group d ts us) (omega arith))
    (omega arith)

-- ## All variants

module _ {A : Type 0} (m : Reader (Maybe A)) (pays : (row : ℕ) (ts : Trees) → Pays ts (m row ts)) where
  abbrev Few : Trees → Took (List A) → Type 0
  Few ts (took xs rs us) = 2 * length xs ≤ left ts
  Few ts (stopped w n p) = Unit {0}

  rounds_few : (n row : ℕ) (ts : Trees) → Few ts (rounds n m row ts)
  rounds_few zero row ts = tt
  rounds_few (suc n) row ts = go (m row ts) (pays row ts) (rounds_few n)
    where
      go : (t : Took (Maybe A)) → Pays ts t → ((row : ℕ) (us : Trees) → Few us (rounds n m row us)) →
          Few ts (after row t (more (rounds n m)))
      go (took done rs us) p next = omega arith
      go (took (one a) rs us) p next = added (rounds n m (row + length rs) us) (next (row + length rs) us)
        where
          added : (t : Took (List A)) → Few us t →
              Few ts (onward rs (after (row + length rs) t (λ xs. pure (a ∷ xs))))
          added (took xs qs vs) h = omega arith
          added (stopped w n q) h = tt
      go (stopped w n q) p next = tt

-- ## The item

-- the variants of a body
abbrev pub variant_count : Body → ℕ
variant_count (fields f) = 0
variant_count (variants vs) = length vs

-- of what is read from n rows at most
data Fewer {A : Type 0} (count : A → ℕ) (n : ℕ) : Took A → Type 0 where
  fewer : {a : A} {rs : List ℕ} {us : Trees} → 2 * count a ≤ 1 + n → Fewer count n (took a rs us)
  halts : {w : Cause} {k p : ℕ} → Fewer count n (stopped w k p)

onward_fewer : {A : Type 0} {count : A → ℕ} {n : ℕ} {t : Took A} (rs : List ℕ) → Fewer count n t →
    Fewer count n (onward rs t)
onward_fewer rs (fewer h) = fewer h
onward_fewer rs halts = halts

-- after what has no variants
then : {A B : Type 0} {count : B → ℕ} {n : ℕ} {m : Reader A} {f : A → Reader B} → ((b : ℕ) → Conserving b m) →
    ((a : A) (row : ℕ) (us : Trees) → size us ≤ n → Fewer count n (f a row us)) → (row : ℕ) (ts : Trees) →
    size ts ≤ n → Fewer count n ((m >>= f) row ts)
then {A} {count = count} {n = n} {m = m} {f = f} k next row ts h = go (k (row + size ts) row ts (omega arith))
  where
    go : {b : ℕ} {t : Took A} → Conserved b Any ts t → Fewer count n (after row t f)
    go (taken {a = a} rs us e i) = onward_fewer rs (next a _ us (omega (arith, e.rows)))
    go (refused n p) = halts

made : {A B : Type 0} {count : A → ℕ} {of : B → ℕ} {n : ℕ} {t : Took A} (f : A → B) → ((a : A) → of (f a) ≡ count a) →
    (row : ℕ) → Fewer count n t → Fewer of n (after row t (λ a. pure (f a)))
made f e row (fewer {a = a} h) = fewer {a = f a} (omega (arith, e a))
made f e row halts = halts

variants_few : (n row : ℕ) (ts : Trees) → size ts ≤ n → Fewer length n (every r.variant row ts)
variants_few n row ts h = go (every r.variant row ts) (rounds_few r.variant variant_pays (suc (size ts)) row ts)
  where
    go : (t : Took (List Variant)) → Few r.variant variant_pays ts t → Fewer length n t
    go (took vs rs us) i = fewer {a = vs} (omega (arith, left_most ts))
    go (stopped w k p) i = halts

closing_fewer : {A : Type 0} {count : A → ℕ} {n : ℕ} {t : Took A} (us : Trees) → Fewer count n t →
    Fewer count n (r.closing us t)
closing_fewer us (fewer h) = fewer h
closing_fewer us halts = halts

choice : {A : Type 0} {count : A → ℕ} {n : ℕ} (b : Bool) {t u : Took A} → Fewer count n t → Fewer count n u →
    Fewer count n (cond b t u)
choice true h i = h
choice false h i = i

-- a struct's body has none
struct_fewer : (n : ℕ) (m : Reader Fields) (row : ℕ) (ts us : Trees) →
    Fewer variant_count n (r.enclosed (r.struct_fields_lem m) row ts us)
struct_fewer n m row ts us = go (m (row + 1) ts)
  where
    go : (t : Took Fields) → Fewer variant_count n (r.closing us (after (row + 1) t (λ f. pure (fields f))))
    go (took f rs vs) = fewer {a = fields f} (omega arith)
    go (stopped w k p) = halts

body_fewer : (k : Kind) (n row : ℕ) (ts : Trees) → size ts ≤ n → Fewer variant_count n (r.body_of k row ts)
body_fewer struct n row end h = halts
body_fewer struct n row (leaf q us) h = choice (r.is_punct SEMICOLON q) (fewer {a = fields unit} (omega arith)) halts
body_fewer struct n row (group d ts us) h =
    choice (eqb d BRACE) (struct_fewer n r.named_fields row ts us)
    (choice (eqb d PARENTHESIS) (struct_fewer n r.tuple_fields row ts us) halts)
body_fewer enum n row end h = halts
body_fewer enum n row (leaf q us) h = choice (r.is_punct SEMICOLON q) (fewer {a = variants []} (omega arith)) halts
body_fewer enum n row (group d ts us) h =
    closing_fewer us (made variants (λ vs. refl) (row + 1) (variants_few n (row + 1) ts (omega arith)))

abbrev declared : Declaration → ℕ
declared d = variant_count d.body

item_fewer : (row : ℕ) (ts : Trees) → Fewer declared (size ts) (r.item row ts)
item_fewer row ts =
    then conserved.attributes_conserving
    (λ a. then conserved.visibility_conserving
    (λ v. then conserved.data_type_conserving
    (λ h. then conserved.generics_conserving
    (λ p. then conserved.clause_conserving
    (λ c row us l. made _ (λ b. refl) row (body_fewer h.kind _ row us l))))))
    row ts (omega arith)

pub item_few : {d : Declaration} {rs : List ℕ} {us : Trees} (row : ℕ) (ts : Trees) → r.item row ts ≡ took d rs us →
    2 * variant_count d.body ≤ 1 + size ts
item_few {d} {rs} {us} row ts e = go (subst (Fewer declared (size ts)) e (item_fewer row ts))
  where
    go : Fewer declared (size ts) (took d rs us) → 2 * variant_count d.body ≤ 1 + size ts
    go (fewer h) = h

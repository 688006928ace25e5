-- A stream behind another one, and the rows of both.
use mathlib.Core.Path.{◌≡◌, refl, ap, ◌∙◌, sym}
use mathlib.Core.Bool.{Bool, true, false, not, ◌&&◌}
use mathlib.Core.List.{List, ◌∷◌, ◌++◌, append_assoc}
use Prim.Native.Nat.{ℕ, zero, suc, ◌+◌, ◌-◌}
use native.Mathlib.Omega.{arith}
use borrow.Author.Tests.{not-true, eqb-false}
use lib.Dec.{eqb}
use lib.ListN.{length, length-append}
use Rattle.token_list.specs.Layout.{OPEN, CLOSE}
use Rattle.token_list.specs.Row.{Row}
use Rattle.token_list.specs.Rows.{opening, closing}
use Rattle.token_list.specs.Stream.{Trees, end, leaf, group, Streams, before, streams, size}
use Rattle.token_list.proofs.Texts.{and_parts}
use Rattle.token_list.proofs.Streams.{before-close, before_open, before_leaf}
use Rattle.reading.specs.Reading.{first_rows}
use Rattle.writing.specs.Rows.{run_rows}

-- ## Rows

pub rows_length : (ts : Trees) → length (run_rows ts) ≡ size ts
rows_length end = refl
rows_length (leaf r us) = omega (arith, rows_length us)
rows_length (group d ts us) =
    omega (arith, rows_length ts, rows_length us, length-append (run_rows ts) (closing d ∷ run_rows us))

-- ## Streams

abbrev pub joined : Trees → Trees → Trees
joined end us = us
joined (leaf r ts) us = leaf r (joined ts us)
joined (group d ts vs) us = group d ts (joined vs us)

pub joined_end : (ts : Trees) → joined ts end ≡ ts
joined_end end = refl
joined_end (leaf r ts) = ap (leaf r) (joined_end ts)
joined_end (group d ts vs) = ap (group d ts) (joined_end vs)

pub joined_assoc : (a b c : Trees) → joined (joined a b) c ≡ joined a (joined b c)
joined_assoc end b c = refl
joined_assoc (leaf r a) b c = ap (leaf r) (joined_assoc a b c)
joined_assoc (group d ts a) b c = ap (group d ts) (joined_assoc a b c)

pub size_joined : (ts us : Trees) → size (joined ts us) ≡ size ts + size us
size_joined end us = omega arith
size_joined (leaf r ts) us = omega (arith, size_joined ts us)
size_joined (group d ts vs) us = omega (arith, size_joined vs us)

pub rows_joined : (ts us : Trees) → run_rows (joined ts us) ≡ run_rows ts ++ run_rows us
rows_joined end us = refl
rows_joined (leaf r ts) us = ap (λ (rs : List Row). r ∷ rs) (rows_joined ts us)
rows_joined (group d ts vs) us =
    ap (λ (rs : List Row). opening d ∷ run_rows ts ++ closing d ∷ rs) (rows_joined vs us)
    ∙ ap (λ (rs : List Row). opening d ∷ rs) (sym (append_assoc (run_rows ts) (closing d ∷ run_rows vs) (run_rows us)))

-- the first tokens
pub front_joined : (ts us : Trees) (n : ℕ) → n ≡ size ts → first_rows (joined ts us) n ≡ ts
front_joined end us n e = none us n e
  where
    none : (us : Trees) (n : ℕ) → n ≡ 0 → first_rows us n ≡ end
    none end n e = refl
    none (leaf r us) zero e = refl
    none (leaf r us) (suc n) e = absurd (omega arith)
    none (group d ts us) zero e = refl
    none (group d ts us) (suc n) e = absurd (omega arith)
front_joined (leaf r ts) us zero e = absurd (omega arith)
front_joined (leaf r ts) us (suc n) e = ap (leaf r) (front_joined ts us n (omega arith))
front_joined (group d ts vs) us zero e = absurd (omega arith)
front_joined (group d ts vs) us (suc n) e = ap (group d ts) (front_joined vs us (n - (1 + size ts)) (omega arith))

-- ## Streams of rows

-- a row that opens and closes no group
abbrev pub token : Row → Bool
token r = not (eqb r.kind OPEN) && not (eqb r.kind CLOSE)

pub token_kinds : (r : Row) → token r ≡ true → (eqb r.kind OPEN ≡ false) × (eqb r.kind CLOSE ≡ false)
token_kinds r e =
    let p = and_parts (not (eqb r.kind OPEN)) _ e in
    (not-true (eqb r.kind OPEN) p.0, not-true (eqb r.kind CLOSE) p.1)

abbrev pub tokens : Trees → Bool
tokens end = true
tokens (leaf r us) = token r && tokens us
tokens (group d ts us) = tokens ts && tokens us

-- a stream before others
abbrev pub prepended : Trees → Streams → Streams
prepended ts st = record { here = joined ts st.here; outer = st.outer }

pub streams-rows : (ts : Trees) (rs : List Row) → tokens ts ≡ true
    → streams (run_rows ts ++ rs) ≡ prepended ts (streams rs)
streams-rows end rs e = refl
streams-rows (leaf r us) rs e =
    let p = and_parts (token r) (tokens us) e in
    let k = token_kinds r p.0 in
    ap (before r) (streams-rows us rs p.1) ∙ before_leaf r (prepended us (streams rs))
    (eqb-false _ _ k.0) (eqb-false _ _ k.1)
streams-rows (group d ts us) rs e =
    let p = and_parts (tokens ts) (tokens us) e in
    let rest : List Row = run_rows us ++ rs in
    let inner : List Row = closing d ∷ rest in
    let closed = ap (before (closing d)) (streams-rows us rs p.1)
    ∙ before-close (closing d) (prepended us (streams rs)) refl in
    let after_run : streams (run_rows ts ++ inner) ≡ _ = streams-rows ts inner p.0 ∙ ap (prepended ts) closed in
    ap (λ (qs : List Row). streams (opening d ∷ qs)) (append_assoc (run_rows ts) (closing d ∷ run_rows us) rs)
    ∙ ap (before (opening d)) after_run
    ∙ before_open (opening d) _ refl
    ∙ ap (λ (t : Trees). record { here = group d t (joined us (streams rs).here); outer = (streams rs).outer })
    (joined_end ts)

-- The rows of a text piece by piece, and how much of a list they are.
use mathlib.Core.Path.{◌≡◌, refl, ap, ◌∙◌, sym, subst⁻¹}
use mathlib.Core.Bool.{Bool, true, false, cond, ◌&&◌, ◌||◌}
use mathlib.Core.List.{List, [], ◌∷◌, ◌++◌, append_assoc}
use Prim.Native.Nat.{ℕ, zero, suc, ◌+◌, ◌-◌, ◌≤◌, ◌<◌}
use native.Mathlib.Omega.{arith}
use native.Mathlib.Decide.{dec_le}
use borrow.Author.Tests.{lt-ltb, le-ltb, le-leb, lt-leb, leb-true, eq-eqb, eqb-true, eqb-false}
use lib.Dec.{leb, ltb, eqb}
use lib.ListN.{length, drop, get_or, replicate, length-append}
use lib.Seq.{slice, length-slice}
use Rattle.token_list.specs.Byte.{LF}
use Rattle.token_list.specs.Layout.{OPEN, CLOSE, names, MAX_BYTES, MAX_ROWS, MAX_TEXT, MAX_DEPTH}
use Rattle.token_list.specs.Row.{Row, written}
use Rattle.token_list.specs.Rows.{list_of}
use Rattle.token_list.proofs.Texts.{chosen, passed_over, and_both, and_fails, and_last, and_parts, or_holds, or_last}
use Rattle.token_list.proofs.Rows.{written_append}
use Rattle.source.specs.Piece.{Piece, piece, row, lifetime, doc}
use Rattle.source.specs.Answer.{rows_of, short, shallow, within_limits}
use Rattle.source.specs.Contract.{PieceTo, PieceAs, piece_tokens, piece_end}
use Rattle.source.specs.Contract.{row as Row-as, lifetime as lifetime-as, doc as doc-as}
use Rattle.source.specs.Stack.{rest}
use Rattle.source.specs.Tokens.{piece_rows, depth_after, row_more, rows_more_lem, NO_ROWS}
use Rattle.source.specs.declared.piece.Piece as code
use Rattle.source.specs.declared.piece.Piece.TheVariants as pieces
use Rattle.source.specs.declared.tokens.Size.{Size}
use Rattle.std.specs.Prelude.{Option, Some, None}
use Rattle.source.proofs.Offsets.{and_fails_last}
use Rattle.source.proofs.Lexes.{rest-piece, rest-stops, rest-none}

-- ## The rows from an offset on

rows_tokens : (s : List ℕ) (i : ℕ) (p : code.Piece)
    → rows_of (piece_tokens s i p (rest s (piece_end p))) ≡ piece_rows s i p ++ rows_of (rest s (piece_end p))
rows_tokens s i (pieces.Gap e) = refl
rows_tokens s i (pieces.Row k e) = refl
rows_tokens s i (pieces.Lifetime e) = refl
rows_tokens s i (pieces.Doc e) = refl

rows-piece : (s : List ℕ) (i : ℕ) {p : code.Piece} → i < length s → PieceAs s i (piece (drop i s)) (Some p)
    → rows_of (rest s i) ≡ piece_rows s i p ++ rows_of (rest s (piece_end p))
rows-piece s i {p} here h = ap rows_of (rest-piece s i here h) ∙ rows_tokens s i p

-- where no piece stands
pub rows_none : {s : List ℕ} {i : ℕ} → PieceAs s i (piece (drop i s)) None → rows_of (rest s i) ≡ []
rows_none {s} {i} h = go (dec_le (length s) i)
  where
    go : Dec (length s ≤ i) → rows_of (rest s i) ≡ []
    go (yes l) = ap rows_of (rest-none s i l)
    go (no l) = ap rows_of (rest-stops s i (omega arith) h)

-- ## The bytes of a piece

module _ {s : List ℕ} {i : ℕ} {t : Piece} where
  pub row_to : {k e : ℕ} → PieceAs s i t (Some (pieces.Row k e)) → PieceTo s i t (row k (e - i)) e
  row_to (Row-as h) = h

  pub lifetime_to : {e : ℕ} → PieceAs s i t (Some (pieces.Lifetime e)) → PieceTo s i t (lifetime (e - i)) e
  lifetime_to (lifetime-as h) = h

  pub doc_to : {e : ℕ} → PieceAs s i t (Some (pieces.Doc e)) → PieceTo s i t (doc (e - i)) e
  doc_to (doc-as h l) = h

  pub doc_long : {e : ℕ} → PieceAs s i t (Some (pieces.Doc e)) → i + 3 ≤ e
  doc_long (doc-as h l) = l

  pub row-bytes : {k e : ℕ} → PieceAs s i t (Some (pieces.Row k e)) → length (slice i e s) ≡ e - i
  row-bytes {k} {e} h = length-slice i e s (row_to h).within

  pub name-bytes : {e : ℕ} → PieceAs s i t (Some (pieces.Lifetime e)) → length (slice (i + 1) e s) ≡ e - i - 1
  name-bytes {e} h = omega (arith, length-slice (i + 1) e s (lifetime_to h).within)

  pub doc_bytes : {e : ℕ} → PieceAs s i t (Some (pieces.Doc e)) → length (slice (i + 3) e s) + 2 ≡ e - i - 1
  doc_bytes {e} h = omega (arith, length-slice (i + 3) e s (doc_to h).within, doc_long h)

-- ## Rows more

more_append : (m : Option Size) (rs us : List Row) → rows_more_lem m (rs ++ us) ≡ rows_more_lem (rows_more_lem m rs) us
more_append m [] us = refl
more_append m (r ∷ rs) us = more_append (row_more m r.kind (length r.text)) rs us

module _ (s : List ℕ) (i : ℕ) {p : code.Piece} (here : i < length s) (h : PieceAs s i (piece (drop i s)) (Some p)) where
  pub measured_piece : (m : Option Size) {n : Option Size} {e : ℕ} → n ≡ rows_more_lem m (piece_rows s i p)
      → e ≡ piece_end p
      → rows_more_lem n (rows_of (rest s e)) ≡ rows_more_lem m (rows_of (rest s i))
  measured_piece m q l =
      (λ j. rows_more_lem (q j) (rows_of (rest s (l j))))
      ∙ sym (more_append m (piece_rows s i p) (rows_of (rest s (piece_end p))))
      ∙ ap (rows_more_lem m) (sym (rows-piece s i here h))

  pub written-piece : {e : ℕ} (done : List ℕ) → e ≡ piece_end p
      → (done ++ written false (piece_rows s i p)) ++ written false (rows_of (rest s e))
      ≡ done ++ written false (rows_of (rest s i))
  written-piece done l =
      let first = piece_rows s i p in
      let behind = rows_of (rest s (piece_end p)) in
      let both = ap (written false) (rows-piece s i here h) ∙ written_append false first behind in
      (λ j. (done ++ written false first) ++ written false (rows_of (rest s (l j))))
      ∙ append_assoc done (written false first) (written false behind)
      ∙ ap (λ (t : List ℕ). done ++ t) (sym both)

over_stays : (rs : List Row) → rows_more_lem None rs ≡ None
over_stays [] = refl
over_stays (r ∷ rs) = over_stays rs

-- ## A row more

or_holds_last : (a : Bool) {b : Bool} → b ≡ true → (a || b) ≡ true
or_holds_last true e = refl
or_holds_last false e = e

over_last : (a : Bool) {m : Option Size} → m ≡ None → cond a None m ≡ None
over_last true e = refl
over_last false e = e

module _ (z : Size) (k n : ℕ) where
  pub more_long : MAX_TEXT < n → row_more (Some z) k n ≡ None
  more_long h = chosen (ltb MAX_TEXT n || leb MAX_ROWS z.rows) _ _ (or_holds _ _ (lt-ltb MAX_TEXT n h))

  pub more_rows : MAX_ROWS ≤ z.rows → row_more (Some z) k n ≡ None
  more_rows h =
      chosen (ltb MAX_TEXT n || leb MAX_ROWS z.rows) _ _
      (or_holds_last (ltb MAX_TEXT n) (le-leb MAX_ROWS z.rows h))

  pub more_bytes : MAX_BYTES < z.bytes + n + 3 → row_more (Some z) k n ≡ None
  more_bytes h =
      over_last (ltb MAX_TEXT n || leb MAX_ROWS z.rows) (chosen _ _ _ (lt-ltb MAX_BYTES (z.bytes + n + 3) h))

  pub more_deep : k ≡ OPEN → MAX_DEPTH ≤ z.depth → row_more (Some z) k n ≡ None
  more_deep e h =
      over_last (ltb MAX_TEXT n || leb MAX_ROWS z.rows)
      (over_last (ltb MAX_BYTES (z.bytes + n + 3))
      (chosen _ _ _ (and_both (eqb k OPEN) _ (eq-eqb k OPEN e) (le-leb MAX_DEPTH z.depth h))))

  abbrev larger : Size
  larger = record { rows = z.rows + 1; bytes = z.bytes + n + 3; depth = depth_after k z.depth }

  pub more_within : n ≤ MAX_TEXT → z.rows < MAX_ROWS → z.bytes + n + 3 ≤ MAX_BYTES → (k ≡ OPEN → z.depth < MAX_DEPTH)
      → row_more (Some z) k n ≡ Some larger
  more_within text rows bytes deep =
      passed_over (ltb MAX_TEXT n || leb MAX_ROWS z.rows) _ _
      (or_last (ltb MAX_TEXT n) _ (le-ltb MAX_TEXT n text) ∙ lt-leb MAX_ROWS z.rows rows)
      ∙ passed_over (ltb MAX_BYTES (z.bytes + n + 3)) _ _ (le-ltb MAX_BYTES _ bytes)
      ∙ passed_over (eqb k OPEN && leb MAX_DEPTH z.depth) _ _ (go (eqb k OPEN) refl)
    where
      go : (b : Bool) → eqb k OPEN ≡ b → (b && leb MAX_DEPTH z.depth) ≡ false
      go true e = lt-leb MAX_DEPTH z.depth (deep (eqb-true k OPEN e))
      go false e = refl

-- ## What the measure means

-- rows behind a list of this size keep the limits
abbrev fits : Size → List Row → Bool
fits z rs =
    (leb (z.bytes + length (written false rs)) MAX_BYTES && leb (z.rows + length rs) MAX_ROWS)
    && (short rs && shallow z.depth rs)

module _ (z : Size) (rs : List Row) where
  abbrev small : Bool
  small = leb (z.bytes + length (written false rs)) MAX_BYTES

  abbrev few : Bool
  few = leb (z.rows + length rs) MAX_ROWS

  too_large : MAX_BYTES < z.bytes + length (written false rs) → fits z rs ≡ false
  too_large h = and_fails (small && few) _ (and_fails small few (lt-leb _ MAX_BYTES h))

  too_many : MAX_ROWS < z.rows + length rs → fits z rs ≡ false
  too_many h = and_fails (small && few) _ (and_fails_last small (lt-leb _ MAX_ROWS h))

  too_long : short rs ≡ false → fits z rs ≡ false
  too_long h = and_fails_last (small && few) (and_fails (short rs) _ h)

  too_deep : shallow z.depth rs ≡ false → fits z rs ≡ false
  too_deep h = and_fails_last (small && few) (and_fails_last (short rs) h)

row_length : (r : Row) (rs : List Row)
    → length (written false (r ∷ rs)) ≡ length r.text + 3 + length (written false rs)
row_length r rs = omega (arith, length-append r.text (LF ∷ written false rs))

shallow-more : (d : ℕ) (r : Row) (rs : List Row) → (r.kind ≡ OPEN → d < MAX_DEPTH)
    → shallow d (r ∷ rs) ≡ shallow (depth_after r.kind d) rs
shallow-more d r rs h = go (eqb r.kind OPEN) (eqb r.kind CLOSE) (λ e. lt-ltb d MAX_DEPTH (h (eqb-true _ OPEN e)))
  where
    go : (a b : Bool) → (a ≡ true → ltb d MAX_DEPTH ≡ true)
        → cond a (ltb d MAX_DEPTH && shallow (d + 1) rs) (cond b (shallow (d - 1) rs) (shallow d rs))
        ≡ shallow (cond a (d + 1) (cond b (d - 1) d)) rs
    go true b q = and_last _ _ (q refl)
    go false true q = refl
    go false false q = refl

-- a row behind a list of this size
data Step (z : Size) (r : Row) : Option Size → Type 0 where
  past : ((rs : List Row) → fits z (r ∷ rs) ≡ false) → Step z r None
  on : {y : Size} → ((rs : List Row) → fits z (r ∷ rs) ≡ fits y rs)
      → ((rs : List Row) → z.bytes + length (written false (r ∷ rs)) ≡ y.bytes + length (written false rs))
      → y.rows ≤ MAX_ROWS → y.bytes ≤ MAX_BYTES → Step z r (Some y)

module _ (z : Size) (r : Row) where
  abbrev more : Option Size
  more = row_more (Some z) r.kind (length r.text)

  over_step : more ≡ None → ((rs : List Row) → fits z (r ∷ rs) ≡ false) → Step z r more
  over_step e h = subst⁻¹ (Step z r) e (past h)

  within_step : length r.text ≤ MAX_TEXT → z.rows < MAX_ROWS → z.bytes + length r.text + 3 ≤ MAX_BYTES
      → (r.kind ≡ OPEN → z.depth < MAX_DEPTH) → Step z r more
  within_step text rows bytes deep =
      let y = larger z r.kind (length r.text) in
      let sum : (rs : List Row) → z.bytes + length (written false (r ∷ rs)) ≡ y.bytes + length (written false rs) =
      λ rs. omega (arith, row_length r rs) in
      let same : (rs : List Row) → fits z (r ∷ rs) ≡ fits y rs =
      λ rs.
      let count : z.rows + length (r ∷ rs) ≡ y.rows + length rs = omega arith in
      let shorts : short (r ∷ rs) ≡ short rs = and_last _ _ (le-leb (length r.text) MAX_TEXT text) in
      λ j. (leb (sum rs j) MAX_BYTES && leb (count j) MAX_ROWS)
      && (shorts j && shallow-more z.depth r rs deep j) in
      subst⁻¹ (Step z r) (more_within z r.kind (length r.text) text rows bytes deep)
      (on same sum (omega arith) bytes)

  deep_step : length r.text ≤ MAX_TEXT → z.rows < MAX_ROWS → z.bytes + length r.text + 3 ≤ MAX_BYTES
      → Step z r more
  deep_step text rows bytes = go (eqb r.kind OPEN) refl (dec_le MAX_DEPTH z.depth)
    where
      go : (b : Bool) → eqb r.kind OPEN ≡ b → Dec (MAX_DEPTH ≤ z.depth) → Step z r more
      go true e (yes p) =
          let deep : (rs : List Row) → shallow z.depth (r ∷ rs) ≡ false =
          λ rs. chosen (eqb r.kind OPEN) _ _ e ∙ and_fails _ _ (le-ltb z.depth MAX_DEPTH p) in
          over_step (more_deep z r.kind (length r.text) (eqb-true r.kind OPEN e) p)
          (λ rs. too_deep z (r ∷ rs) (deep rs))
      go true e (no p) = within_step text rows bytes (λ o. omega arith)
      go false e d = within_step text rows bytes (λ o. absurd (eqb-false r.kind OPEN e o))

  step : Step z r more
  step = go (dec_le (length r.text) MAX_TEXT) (dec_le MAX_ROWS z.rows)
      (dec_le (z.bytes + length r.text + 3) MAX_BYTES)
    where
      go : Dec (length r.text ≤ MAX_TEXT) → Dec (MAX_ROWS ≤ z.rows)
          → Dec (z.bytes + length r.text + 3 ≤ MAX_BYTES) → Step z r more
      go (no p) d e =
          over_step (more_long z r.kind (length r.text) (omega arith))
          (λ rs. too_long z (r ∷ rs) (and_fails _ (short rs) (lt-leb (length r.text) MAX_TEXT (omega arith))))
      go (yes p) (yes q) e =
          over_step (more_rows z r.kind (length r.text) q) (λ rs. too_many z (r ∷ rs) (omega arith))
      go (yes p) (no q) (yes e) = deep_step p (omega arith) e
      go (yes p) (no q) (no e) =
          over_step (more_bytes z r.kind (length r.text) (omega arith))
          (λ rs. too_large z (r ∷ rs) (omega (arith, row_length r rs)))

-- what the measure says of rows behind a list of this size
data Judged (z : Size) (rs : List Row) : Option Size → Type 0 where
  past : fits z rs ≡ false → Judged z rs None
  kept : {y : Size} → fits z rs ≡ true → y.bytes ≡ z.bytes + length (written false rs) → Judged z rs (Some y)

judged-step : {z : Size} {r : Row} {m : Option Size} (rs : List Row) → Step z r m
    → ((y : Size) → y.rows ≤ MAX_ROWS → y.bytes ≤ MAX_BYTES → Judged y rs (rows_more_lem (Some y) rs))
    → Judged z (r ∷ rs) (rows_more_lem m rs)
judged-step {z} {r} rs (past h) go = subst⁻¹ (Judged z (r ∷ rs)) (over_stays rs) (past (h rs))
judged-step {z} {r} rs (on {y} same sum rows bytes) go = behind (go y rows bytes)
  where
    behind : {m : Option Size} → Judged y rs m → Judged z (r ∷ rs) m
    behind (past h) = past (same rs ∙ h)
    behind (kept h e) = kept (same rs ∙ h) (e ∙ sym (sum rs))

judged : (z : Size) (rs : List Row) → z.rows ≤ MAX_ROWS → z.bytes ≤ MAX_BYTES
    → Judged z rs (rows_more_lem (Some z) rs)
judged z [] rows bytes =
    let size = le-leb (z.bytes + 0) MAX_BYTES (omega arith) in
    let count = le-leb (z.rows + 0) MAX_ROWS (omega arith) in
    kept {y = z} (and_both _ _ (and_both _ _ size count) refl) (omega arith)
judged z (r ∷ rs) rows bytes = judged-step rs (step z r) (λ y p q. judged y rs p q)

-- ## The limits of a list

abbrev NONE : Size
NONE = record { rows = 0; bytes = length (names false); depth = 0 }

module _ (rs : List Row) where
  limits : within_limits rs ≡ fits NONE rs
  unfolding within_limits
  limits =
      let bytes = length-append (names false) (written false rs) in
      let count : length rs ≡ 0 + length rs = omega arith in
      λ j. (leb (bytes j) MAX_BYTES && leb (count j) MAX_ROWS) && (short rs && shallow 0 rs)

  whole : Judged NONE rs (rows_more_lem NO_ROWS rs)
  whole = judged NONE rs (omega arith) (omega arith)

  pub past_limits : None ≡ rows_more_lem NO_ROWS rs → within_limits rs ≡ false
  past_limits e = go (subst⁻¹ (Judged NONE rs) e whole)
    where
      go : Judged NONE rs None → within_limits rs ≡ false
      go (past h) = limits ∙ h

  pub keeps_limits : {z : Size} → Some z ≡ rows_more_lem NO_ROWS rs
      → (within_limits rs ≡ true) × (z.bytes ≡ length (list_of false rs))
  keeps_limits {z} e = go (subst⁻¹ (Judged NONE rs) e whole)
    where
      go : Judged NONE rs (Some z)
          → (within_limits rs ≡ true) × (z.bytes ≡ length (list_of false rs))
      go (kept h b) = (limits ∙ h, b ∙ sym (length-append (names false) (written false rs)))

-- ## The size of a list

-- as many rows more as are measured
rows_counted : (z : Size) (rs : List Row) {y : Size} → Some y ≡ rows_more_lem (Some z) rs
    → y.rows ≡ z.rows + length rs
rows_counted z [] {y} e = let same : y ≡ z = cc in omega (arith, ap (λ (x : Size). x.rows) same)
rows_counted z (r ∷ rs) {y} e =
    go (ltb MAX_TEXT (length r.text) || leb MAX_ROWS z.rows) (ltb MAX_BYTES (z.bytes + length r.text + 3))
    (eqb r.kind OPEN && leb MAX_DEPTH z.depth) (λ k. rows_counted (larger z r.kind (length r.text)) rs k) e
  where
    x : Size
    x = larger z r.kind (length r.text)

    never : Some y ≡ rows_more_lem None rs → y.rows ≡ z.rows + length (r ∷ rs)
    never f =
        let over : Some y ≡ None = f ∙ over_stays rs in
        let one : ◌≡◌ {A = ℕ} 0 1 = cc in absurd (omega arith)

    go : (a b c : Bool) → (Some y ≡ rows_more_lem (Some x) rs → y.rows ≡ x.rows + length rs)
        → Some y ≡ rows_more_lem (cond a None (cond b None (cond c None (Some x)))) rs
        → y.rows ≡ z.rows + length (r ∷ rs)
    go true b c h f = never f
    go false true c h f = never f
    go false false true h f = never f
    go false false false h f = omega (arith, h f)

-- the list of these rows keeps the limits, and has this size
pub record Sized (rs : List Row) (z : Size) : Type 0 where
  pub within : within_limits rs ≡ true
  pub bytes : z.bytes ≡ length (list_of false rs)
  pub few : z.bytes ≤ MAX_BYTES
  pub rows : z.rows ≡ length rs

few_bytes : (rs : List Row) → within_limits rs ≡ true → length (list_of false rs) ≤ MAX_BYTES
unfolding within_limits
few_bytes rs e =
    let sizes = (and_parts (leb (length (list_of false rs)) MAX_BYTES && leb (length rs) MAX_ROWS) _ e).0 in
    leb-true _ _ (and_parts (leb (length (list_of false rs)) MAX_BYTES) _ sizes).0

pub sized : (rs : List Row) {z : Size} → Some z ≡ rows_more_lem NO_ROWS rs → Sized rs z
sized rs {z} e =
    let known = keeps_limits rs e in
    record {
      within = known.0;
      bytes = known.1;
      few = omega (arith, known.1, few_bytes rs known.0);
      rows = omega (arith, rows_counted NONE rs e);
    }

-- ## Cells

pub all_zero : (n k : ℕ) → ◌≡◌ {A = ℕ} (get_or (replicate n 0) k 0) 0
all_zero zero k = refl
all_zero (suc n) zero = refl
all_zero (suc n) (suc k) = all_zero n k

-- How long an output each writer can need.
use mathlib.Core.Path.{◌≡◌, refl, ap}
use mathlib.Core.Bool.{Bool, true, false, cond}
use mathlib.Core.List.{List, [], ◌∷◌, ◌++◌, map}
use Prim.Native.Nat.{ℕ, suc, ◌+◌, ◌*◌, ◌≤◌}
use native.Mathlib.Omega.{arith}
use lib.Dec.{eqb}
use lib.ListN.{length, length-append, length-take, length-drop}
use Rattle.token_list.specs.Byte.{QUOTE, COMMA, LESS, GREATER, LF}
use Rattle.token_list.specs.Layout as layout
use Rattle.token_list.specs.Layout.{marked, first_row}
use Rattle.token_list.specs.Row.{Row, written, Lines, tail, line, lines, byte}
use Rattle.token_list.specs.Rows.{ident, punct, list_of}
use Rattle.token_list.specs.Check as list
use Rattle.token_list.specs.Stream.{Trees, at}
use Rattle.token_list.proofs.Passed.{passed_list}
use Rattle.token_list.proofs.Bounds.{bounds}
use Rattle.token_list.proofs.Columns.{first-row_by}
use Rattle.reading.specs.Token.{CONST}
use Rattle.reading.specs.Declaration.{Parameter, lifetime, constant, type, Generics, without, angled, Declaration}
use Rattle.reading.specs.Took.{Took, took, stopped}
use Rattle.reading.specs.Reading.{item}
use Rattle.reading.proofs.Frame.{framed_cases}
use Rattle.writing.specs.Generics as generics
use Rattle.writing.specs.Generics.{parameter_rows, parted, angled_rows, sent_parameter, generics_rows, named, names}
use Rattle.writing.specs.Generics.{added_lifetime, added_type, additional}
use Rattle.writing.specs.Names.{line_names, names_of}
use Rattle.output.specs.Answer.{Answer, wrote, refused}
use Rattle.output.proofs.Answers.{Within, fitted-same}
use Rattle.writing.specs.Answer.{Writer, impl_generics_lem, type_generics_lem, with_additional_lem, text}
use Rattle.writing.specs.Answer.{item_answer, full_answer, answer, MOST, added_bytes, most_with, most_added, Fits}
use Rattle.writing.proofs.Balanced.{list_stream}
use Rattle.writing.proofs.Declared.{single, row-bytes, rows-bytes, offset_high, cost, total, declared_of}

-- ## Bytes of parameters

module _ (m : Bool) where
  parted-bytes : (first : Bool) (ps : List Parameter) → length (written m (parted first ps)) ≤ total m ps
  parted-bytes first [] = omega arith
  parted-bytes true (p ∷ ps) = omega (arith, parted-bytes false ps, rows-bytes m (parameter_rows p) (parted false ps))
  parted-bytes false (p ∷ ps) =
      omega (
        arith,
        parted-bytes false ps,
        rows-bytes m (parameter_rows p) (parted false ps),
        row-bytes m (punct COMMA) (parameter_rows p ++ parted false ps),
      )

  -- past the line of names
  angled_bytes : (ps : List Parameter) → length (written m (angled_rows ps)) ≤ single m + single m + total m ps
  angled_bytes ps =
      omega (
        arith,
        parted-bytes true ps,
        row-bytes m (punct LESS) (parted true ps ++ punct GREATER ∷ []),
        rows-bytes m (parted true ps) (punct GREATER ∷ []),
        row-bytes m (punct GREATER) [],
      )

  total_append : (ps qs : List Parameter) → total m (ps ++ qs) ≡ total m ps + total m qs
  total_append [] qs = omega arith
  total_append (p ∷ ps) qs = omega (arith, total_append ps qs)

-- the declared parameters of a list
declared_total : (s : List ℕ) {n : ℕ} {d : Declaration} {rs : List ℕ} {us : Trees} (ps : List Parameter)
    → list.check s ≡ list.passed n
    → item 0 (at s (first_row s)).here ≡ took d rs us → d.generics ≡ angled ps
    → first_row s + (single (marked s) + single (marked s) + total (marked s) (map sent_parameter ps)) ≤ MOST
declared_total s {n} ps c e g =
    let d = declared_of s ps c e g in
    let p = passed_list s n c in
    let b = bounds s c in
    let rows = ap (λ (qs : List Row). length (written (marked s) qs)) (list_stream s c).rows in
    omega (
      arith,
      d.bytes,
      d.rows,
      p.size,
      b.rows,
      b.bytes,
      rows,
      ap length p.written,
      length-drop (first_row s) s,
      ap length p.names,
      length-take (first_row s) s,
      first-row_by s (marked s) refl,
    )

-- ## Added names

text_bytes : List (List ℕ) → ℕ
text_bytes [] = 0
text_bytes (t ∷ ts) = length t + text_bytes ts

names-bytes : (t : List ℕ) → text_bytes (names_of t) ≤ length t
unfolding text_bytes
names-bytes [] = omega arith
names-bytes (b ∷ bs) = go (eqb b LF) (lines bs) (names-bytes bs)
  where
    go : (lf : Bool) (ls : Lines) → text_bytes (line_names ls) ≤ length bs
        → text_bytes (line_names (byte lf b ls)) ≤ suc (length bs)
    go true ls h = omega arith
    go false (tail []) h = omega arith
    go false (tail (x ∷ xs)) h = omega arith
    go false (line l ls) h = omega arith

names-count : (t : List ℕ) → length (names_of t) ≤ length t
names-count [] = omega arith
names-count (b ∷ bs) = go (eqb b LF) (lines bs) (names-count bs)
  where
    go : (lf : Bool) (ls : Lines) → length (line_names ls) ≤ length bs
        → length (line_names (byte lf b ls)) ≤ suc (length bs)
    go true ls h = omega arith
    go false (tail []) h = omega arith
    go false (tail (x ∷ xs)) h = omega arith
    go false (line l ls) h = omega arith

module _ (m : Bool) where
  lifetimes_total : (ls : List (List ℕ)) → total m (map added_lifetime ls) ≤ text_bytes ls + 17 * length ls
  unfolding text_bytes
  lifetimes_total [] = omega arith
  lifetimes_total (l ∷ ls) =
      omega (
        arith,
        lifetimes_total ls,
        row-bytes m (punct QUOTE) (ident l ∷ []),
        row-bytes m (ident l) [],
        offset_high m,
      )

  types_total : (ts : List (List ℕ)) → total m (map added_type ts) ≤ text_bytes ts + 11 * length ts
  unfolding text_bytes
  types_total [] = omega arith
  types_total (t ∷ ts) = omega (arith, types_total ts, row-bytes m (ident t) [], offset_high m)

  -- ## The three writers

  named_cost : (p : Parameter) → cost m (named p) ≤ cost m p
  named_cost (lifetime n b) = omega (arith, rows-bytes m (punct QUOTE ∷ ident n ∷ []) (generics.bounds b))
  named_cost (constant n t) =
      omega (
        arith,
        row-bytes m (ident n) [],
        row-bytes m (ident CONST) (ident n ∷ generics.constraints t),
        row-bytes m (ident n) (generics.constraints t),
      )
  named_cost (type n b d) = omega (arith, rows-bytes m (ident n ∷ []) (generics.bounds b))

  named_total : (ps : List Parameter) → total m (names ps) ≤ total m ps
  named_total [] = omega arith
  named_total (p ∷ ps) = omega (arith, named_cost p, named_total ps)

never : {A : Type 0} {n p : ℕ} {t : List ℕ} → refused n p ≡ wrote t → A
never e = let z : ◌≡◌ {A = ℕ} 0 1 = cc in absurd (omega arith)

-- a writer that adds at most `more` to what the declared parameters take
module _ (w : Writer) (more : ℕ)
    (adds : (m : Bool) (ps : List Parameter) → total m (w.parameters ps) ≤ total m ps + more) (s : List ℕ) where
  abbrev Short : Answer → Type 0
  Short a = (t : List ℕ) → a ≡ wrote t → length t ≤ MOST + more

  -- the line of names and the rows
  list_bytes : (rs : List Row) → length (list_of (marked s) rs) ≡ first_row s + length (written (marked s) rs)
  list_bytes rs =
      omega (
        arith,
        length-append (layout.names (marked s)) (written (marked s) rs),
        first-row_by s (marked s) refl,
      )

  text-short : {n : ℕ} {d : Declaration} {rs : List ℕ} {us : Trees} → list.check s ≡ list.passed n
      → item 0 (at s (first_row s)).here ≡ took d rs us → length (text (marked s) w d) ≤ MOST + more
  text-short {n = n} {d = d} c e = go d.generics refl
    where
      go : (x : Generics) → d.generics ≡ x
          → length (list_of (marked s) (generics_rows w.parameters x)) ≤ MOST + more
      go without g =
          omega (
            arith,
            list_bytes [],
            (bounds s c).bytes,
            ap length (passed_list s n c).names,
            length-take (first_row s) s,
            first-row_by s (marked s) refl,
          )
      go (angled ps) g =
          let qs = map sent_parameter ps in
          omega (
            arith,
            list_bytes (angled_rows (w.parameters qs)),
            angled_bytes (marked s) (w.parameters qs),
            adds (marked s) qs,
            declared_total s ps c e g,
          )

  item-short : (n : ℕ) → list.check s ≡ list.passed n → (t : Took Declaration) → item 0 (at s (first_row s)).here ≡ t
      → Short (item_answer (marked s) w t)
  item-short n c (stopped k m p) e t q = never q
  item-short n c (took d rs us) e t q = by w.right q
    where
      by : (b : Bool) → cond b (wrote (text (marked s) w d)) (refused 30 list.END) ≡ wrote t → length t ≤ MOST + more
      by true q = let same : text (marked s) w d ≡ t = cc in omega (arith, ap length same, text-short c e)
      by false q = never q

  full_short : Short (full_answer w s)
  unfolding full_answer
  full_short =
      framed_cases Short refused (λ rows. false) (item_answer (marked s) w) s (λ n p c t e. never e)
      (λ rows c h t e. never e)
      (λ rows c h t e. item-short rows c t e)

  fits_by : (n : ℕ) → Fits w (MOST + more) s n
  unfolding answer
  fits_by n =
      record {
        longest = full_short;
        room = λ h. fitted-same n (full_answer w s) (within (full_answer w s) full_short) h;
      }
    where
      within : (a : Answer) → Short a → Within (MOST + more) a
      within (wrote t) k = k t refl
      within (refused m p) k = tt

pub impl_fits : (s : List ℕ) (n : ℕ) → Fits impl_generics_lem MOST s n
impl_fits s n = fits_by impl_generics_lem 0 (λ m ps. omega arith) s n

pub type_fits : (s : List ℕ) (n : ℕ) → Fits type_generics_lem MOST s n
type_fits s n = fits_by type_generics_lem 0 (λ m ps. omega (arith, named_total m ps)) s n

added_total : (ls ts : List ℕ) (m : Bool) (ps : List Parameter)
    → total m (additional (names_of ls) (names_of ts) ps) ≤ total m ps + added_bytes ls ts
added_total ls ts m ps =
    let lifetimes = map added_lifetime (names_of ls) in
    let types = map added_type (names_of ts) in
    omega (
      arith,
      total_append m lifetimes (ps ++ types),
      total_append m ps types,
      lifetimes_total m (names_of ls),
      types_total m (names_of ts),
      names-bytes ls,
      names-bytes ts,
    )

pub additional_fits : (ls ts s : List ℕ) (n : ℕ) → Fits (with_additional_lem ls ts) (most_with ls ts) s n
additional_fits ls ts s n = fits_by (with_additional_lem ls ts) (added_bytes ls ts) (added_total ls ts) s n

-- by the bytes of the texts alone
pub added_most : (ls ts : List ℕ) → most_with ls ts ≤ most_added (length ls) (length ts)
added_most ls ts = omega (arith, names-count ls, names-count ts)

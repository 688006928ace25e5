-- Pieces, from an offset on.
use mathlib.Core.Path.{◌≡◌, refl, ap, ◌∙◌, sym, subst}
use mathlib.Core.Bool.{true, false, cond, not, ◌&&◌, false≢true}
use mathlib.Core.List.{List, [], ◌∷◌}
use Prim.Native.Nat.{ℕ, ◌+◌, ◌-◌, ◌≤◌, ◌<◌}
use native.Mathlib.Omega.{arith}
use borrow.Author.Tests.{eq-eqb, eqb-true}
use lib.Dec.{eqb}
use lib.ListN.{length, get_or, take, drop, drop_of_length-le, length-drop}
use lib.Seq.{slice, length-take-le}
use Rattle.token_list.specs.Byte.{bytes, QUOTE, HASH, UNDERSCORE}
use Rattle.token_list.specs.Layout.{IDENT, LITERAL, PUNCT}
use Rattle.token_list.specs.Text.{member, same, digit, name_start, name_part, never_raw}
use Rattle.token_list.proofs.Texts.{drop_of_take, drop_next, chosen, passed_over, and_fails, and_parts, or_holds}
use Rattle.token_list.proofs.Texts.{same_length}
use Rattle.source.specs.Bytes.{SLASH, STAR, BANG, DOUBLE_QUOTE, blank, in_line, in_doc, opens, closes}
use Rattle.source.specs.Taken as taken
use Rattle.source.specs.Taken.{Taken, takes, after, run}
use Rattle.source.specs.Quoted.{character, string}
use Rattle.source.specs.Number.{number}
use Rattle.source.specs.Comment as comment
use Rattle.source.specs.Comment.{block_comment, outer_line, doc_line}
use Rattle.source.specs.Piece.{Piece, gap, row, lifetime, fault, suffix, suffix_of, literal, raw_name, prefixed}
use Rattle.source.specs.Piece.{word_of, word, lifetime_of, quoted_or, quote, gap_of, doc_of_lem, line_comment, slash}
use Rattle.source.specs.Piece.{single}
use Rattle.source.specs.Piece.{piece}
use Rattle.source.specs.Contract.{RunEnd, EndsTo, SuffixEnd, PieceAs}
use Rattle.source.specs.Contract.{gap as gap-as, row as Row-as}
use Rattle.std.specs.Prelude.{Option, Some}
use Rattle.source.specs.declared.piece.Piece as code
use Rattle.source.specs.declared.piece.Piece.TheVariants as pieces
use Rattle.source.proofs.Runs.{run_on}
use Rattle.source.proofs.Offsets.{stands, byte-first, byte_behind, drop_behind}

pub piece_as : {s : List ℕ} {i : ℕ} {t u : Piece} {r : Option code.Piece} → t ≡ u → PieceAs s i u r → PieceAs s i t r
piece_as {s} {i} {t} {u} {r} e h = subst (λ (p : Piece). PieceAs s i p r) (sym e) h

pub one_byte : {k : ℕ} (i : ℕ) → row k 1 ≡ row k (i + 1 - i)
one_byte {k} i = let n : 1 ≡ i + 1 - i = omega arith in ap (row k) n

after_least : (k : ℕ) (t : Taken) {n : ℕ} → after k t ≡ takes n → k ≤ n
after_least k (takes m) {n} e = let q : k + m ≡ n = cc in omega (arith, q)
after_least k taken.fault e = let z : ◌≡◌ {A = ℕ} 0 1 = cc in absurd (omega arith)

-- ## Suffixes

module _ {s : List ℕ} {i e : ℕ} (h : RunEnd name_part s i e) where
  suffix_at : suffix (drop i s) ≡ cond (name_start (get_or s i 0)) (suffix_of (get_or s i 0) (e - i)) 0
  unfolding suffix
  suffix_at =
      let n : run name_part (drop i s) ≡ e - i = omega (arith, h.told) in
      (λ j. cond (name_start (byte-first s i j)) (suffix_of (byte-first s i j) (n j)) 0)

  pub suffix-lone : name_start (get_or s i 0) ≡ true → get_or s i 0 ≡ UNDERSCORE → e - i ≡ 1 → SuffixEnd s i i
  suffix-lone q u one =
      let lone = suffix_at ∙ chosen _ _ _ q
      ∙ (λ j. cond (eq-eqb (get_or s i 0) UNDERSCORE u j && eq-eqb (e - i) 1 one j) 0 (e - i)) in
      record { told = omega (arith, lone); within = λ l. l }

  pub suffix_some : name_start (get_or s i 0) ≡ true → (eqb (get_or s i 0) UNDERSCORE && eqb (e - i) 1) ≡ false
      → SuffixEnd s i e
  suffix_some q other =
      let some = suffix_at ∙ chosen _ _ _ q ∙ passed_over _ _ _ other in
      record { told = omega (arith, some, h.told); within = h.within }

pub suffix-none : (s : List ℕ) (i : ℕ) → name_start (get_or s i 0) ≡ false → SuffixEnd s i i
unfolding suffix
suffix-none s i q =
    let none : suffix (drop i s) ≡ 0 = passed_over _ _ _ (ap name_start (byte-first s i) ∙ q) in
    record { told = omega (arith, none); within = λ l. l }

-- ## Literals

pub literal_to : {s : List ℕ} {i e r : ℕ} {t : Taken} → EndsTo s i t e → SuffixEnd s e r
    → PieceAs s i (literal (drop i s) t) (Some (pieces.Row LITERAL r))
literal_to {s} {i} {e} {r} h f =
    let place : i + (e - i) ≡ e = omega (arith, h.forth) in
    let rest = drop_behind s i (e - i) ∙ ap (λ (n : ℕ). drop n s) place in
    let whole : e - i + suffix (drop (e - i) (drop i s)) ≡ r - i =
    ap (λ (u : List ℕ). e - i + suffix u) rest ∙ omega (arith, f.told, h.forth) in
    Row-as (record {
      told = ap (literal (drop i s)) h.taken ∙ ap (row LITERAL) whole;
      forth = omega (arith, f.told, h.forth);
      within = f.within h.within;
    })

-- ## Names

-- a name has a byte at least
pub name_forth : {s : List ℕ} {i e : ℕ} → name_start (get_or s i 0) ≡ true → RunEnd name_part s i e → i < e
name_forth {s} {i} h r =
    let here = stands s i (λ z. false≢true (sym (ap name_start z) ∙ h)) in
    let some = run_on name_part s i here (or_holds _ _ h) in
    omega (arith, some, r.told)

module _ (s : List ℕ) (i : ℕ) where
  abbrev raw_at_lem : Piece
  raw_at_lem = raw_name (run name_part (drop 2 (drop i s))) (drop i s)

  pub raw_none : name_start (get_or s (i + 2) 0) ≡ false → raw_at_lem ≡ fault
  unfolding raw_name
  raw_none q = passed_over _ _ _ (and_fails _ _ (ap name_start (byte_behind s i 2) ∙ q))

  module _ {e : ℕ} (h : RunEnd name_part s (i + 2) e) where
    pub raw_at : raw_at_lem
        ≡ cond (name_start (get_or s (i + 2) 0) && not (never_raw (slice (i + 2) e s))) (row IDENT (e - i)) fault
    unfolding raw_name
    raw_at =
        let count : run name_part (drop (i + 2) s) ≡ e - (i + 2) = omega (arith, h.told) in
        let rest = drop_behind s i 2 in
        let n = ap (run name_part) rest ∙ count in
        let text = (λ j. take (n j) (rest j)) ∙ sym (drop_of_take (i + 2) e s) in
        let whole : run name_part (drop 2 (drop i s)) + 2 ≡ e - i = omega (arith, n, h.told) in
        (λ j. cond (name_start (byte_behind s i 2 j) && not (never_raw (text j))) (row IDENT (whole j)) fault)

  abbrev lifetime_at_lem : Piece
  lifetime_at_lem = lifetime_of (run name_part (drop 1 (drop i s))) (drop i s)

  pub lifetime_none : name_start (get_or s (i + 1) 0) ≡ false → lifetime_at_lem ≡ fault
  unfolding lifetime_of
  lifetime_none q = passed_over _ _ _ (and_fails _ _ (ap name_start (byte_behind s i 1) ∙ q))

  pub lifetime_at : {e : ℕ} → RunEnd name_part s (i + 1) e
      → lifetime_at_lem ≡ cond (name_start (get_or s (i + 1) 0) && not (eqb (get_or s e 0) QUOTE))
      (lifetime (e - i)) fault
  unfolding lifetime_of
  lifetime_at {e} h =
      let count = ap (run name_part) (drop_behind s i 1) in
      let whole : run name_part (drop 1 (drop i s)) + 1 ≡ e - i = omega (arith, count, h.told) in
      let place : i + (e - i) ≡ e = omega (arith, h.told) in
      let last = ap (λ (n : ℕ). get_or (drop i s) n 0) whole ∙ byte_behind s i (e - i)
      ∙ ap (λ (n : ℕ). get_or s n 0) place in
      (λ j. cond (name_start (byte_behind s i 1 j) && not (eqb (last j) QUOTE)) (lifetime (whole j)) fault)

  -- ## Prefixes

  -- a longer name is none
  pub prefix_long : (n : ℕ) → i + n ≤ length s → (n ≡ 1 → ⊥) → prefixed n (drop i s) ≡ fault
  unfolding prefixed
  prefix_long n l h =
      let long = length-take-le n (drop i s) (omega (arith, length-drop i s)) in
      let other : (t : List ℕ) → length t ≡ 1 → same (take n (drop i s)) t ≡ false =
      λ t one. same_length (take n (drop i s)) t (λ e. h (sym long ∙ e ∙ one)) in
      passed_over _ _ _ (other (bytes "b") refl) ∙ passed_over _ _ _ (and_fails _ _ (other (bytes "r") refl))

  -- with the byte directly behind, at e
  module _ (e : ℕ) (here : i < length s) (one_long : e - i ≡ 1) where
    pub prefix_at : prefixed (e - i) (drop i s)
        ≡ cond (eqb (get_or s i 0) 98 && true)
        (cond (eqb (get_or s e 0) DOUBLE_QUOTE) (literal (drop i s) (after 2 (string true 0 (drop (i + 2) s))))
        (cond (eqb (get_or s e 0) QUOTE) (literal (drop i s) (after 2 (character true (drop (i + 2) s)))) fault))
        (cond ((eqb (get_or s i 0) 114 && true) && eqb (get_or s e 0) HASH) raw_at_lem fault)
    unfolding prefixed
    prefix_at =
        let one : take 1 (drop i s) ≡ get_or s i 0 ∷ [] = ap (take 1) (drop_next s i here) in
        let place : i + 1 ≡ e = omega arith in
        let b = byte_behind s i 1 ∙ ap (λ (n : ℕ). get_or s n 0) place in
        let rest = drop_behind s i 2 in
        ap (λ (n : ℕ). prefixed n (drop i s)) one_long
        ∙ (λ j. cond (same (one j) (bytes "b"))
        (cond (eqb (b j) DOUBLE_QUOTE) (literal (drop i s) (after 2 (string true 0 (rest j))))
        (cond (eqb (b j) QUOTE) (literal (drop i s) (after 2 (character true (rest j)))) fault))
        (cond (same (one j) (bytes "r") && eqb (b j) HASH) raw_at_lem fault))

    pub prefix_string : get_or s i 0 ≡ 98 → get_or s e 0 ≡ DOUBLE_QUOTE
        → prefixed (e - i) (drop i s) ≡ literal (drop i s) (after 2 (string true 0 (drop (i + 2) s)))
    prefix_string p q = prefix_at ∙ simp (p, q)

    pub prefix_character : get_or s i 0 ≡ 98 → get_or s e 0 ≡ QUOTE
        → prefixed (e - i) (drop i s) ≡ literal (drop i s) (after 2 (character true (drop (i + 2) s)))
    prefix_character p q = prefix_at ∙ simp (p, q)

    pub prefix_raw : get_or s i 0 ≡ 114 → get_or s e 0 ≡ HASH → prefixed (e - i) (drop i s) ≡ raw_at_lem
    prefix_raw p q = prefix_at ∙ simp (p, q)

  pub name-stands : name_start (get_or s i 0) ≡ true → i < length s
  name-stands h = stands s i (λ z. false≢true (sym (ap name_start z) ∙ h))

  pub mark_stands : member (get_or s i 0) (bytes "\"'#") ≡ true → i < length s
  mark_stands h = stands s i (λ z. false≢true (sym (ap (λ (b : ℕ). member b (bytes "\"'#")) z) ∙ h))

  pub word_at : {e : ℕ} → RunEnd name_part s i e
      → word (drop i s) ≡ cond (member (get_or s e 0) (bytes "\"'#")) (prefixed (e - i) (drop i s)) (row IDENT (e - i))
  unfolding word
  word_at {e} h =
      let n : run name_part (drop i s) ≡ e - i = omega (arith, h.told) in
      let place : i + (e - i) ≡ e = omega (arith, h.told) in
      let last = byte_behind s i (e - i) ∙ ap (λ (k : ℕ). get_or s k 0) place in
      ap (λ (k : ℕ). word_of k (drop i s)) n
      ∙ ap (λ (b : ℕ). cond (member b (bytes "\"'#")) (prefixed (e - i) (drop i s)) (row IDENT (e - i))) last

  -- ## Quotes, comments, and pieces by their first byte

  pub slash-stands : get_or s i 0 ≡ SLASH → i < length s
  slash-stands e = stands s i (λ z. omega (arith, z, e))

  -- a doc line has its three slashes
  pub doc_long : {e : ℕ} → EndsTo s i (doc_line (drop i s)) e → i + 3 ≤ e
  unfolding doc_line
  doc_long {e} h =
      let t = comment.doc_of_lem (run in_doc (drop 3 (drop i s))) (drop 3 (drop i s)) in
      let long : 3 ≤ e - i = after_least 3 t h.taken in omega (arith, long, h.forth)

  pub outer-stands : outer_line (drop i s) ≡ true → i + 2 < length s
  unfolding outer_line
  outer-stands h =
      let third = eqb-true (get_or (drop i s) 2 0) SLASH (and_parts (eqb (get_or (drop i s) 2 0) SLASH) _ h).0 in
      stands s (i + 2) (λ z. omega (arith, z, third, byte_behind s i 2))

  pub quote_at : quote (drop i s) ≡ quoted_or (character false (drop (i + 1) s)) (drop i s)
  unfolding quote
  quote_at = ap (λ (t : List ℕ). quoted_or (character false t) (drop i s)) (drop_behind s i 1)

  pub line_at : line_comment (drop i s)
      ≡ cond (eqb (get_or s (i + 2) 0) BANG) fault
      (cond (outer_line (drop i s)) (doc_of_lem (doc_line (drop i s))) (gap (run in_line (drop i s))))
  unfolding line_comment
  line_at = rw (byte_behind s i 2)

  pub slash_at : slash (drop i s)
      ≡ cond (eqb (get_or s (i + 1) 0) SLASH) (line_comment (drop i s))
      (cond (eqb (get_or s (i + 1) 0) STAR) (gap_of (block_comment (drop i s))) (row PUNCT 1))
  unfolding slash
  slash_at = rw (byte_behind s i 1)

  pub piece_at : piece (drop i s)
      ≡ cond (blank (get_or s i 0)) (gap (run blank (drop i s)))
      (cond (name_start (get_or s i 0)) (word (drop i s))
      (cond (digit (get_or s i 0)) (literal (drop i s) (number (drop i s)))
      (cond (eqb (get_or s i 0) DOUBLE_QUOTE) (literal (drop i s) (after 1 (string false 0 (drop (i + 1) s))))
      (cond (eqb (get_or s i 0) QUOTE) (quote (drop i s))
      (cond (eqb (get_or s i 0) SLASH) (slash (drop i s)) (single (get_or s i 0)))))))
  unfolding piece
  piece_at = rw (byte-first s i, drop_behind s i 1)

module _ (s : List ℕ) (i : ℕ) (blanks : blank (get_or s i 0) ≡ false) (names : name_start (get_or s i 0) ≡ false) where
  pub by_digit : digit (get_or s i 0) ≡ true → piece (drop i s) ≡ literal (drop i s) (number (drop i s))
  by_digit d = piece_at s i ∙ passed_over _ _ _ blanks ∙ passed_over _ _ _ names ∙ chosen _ _ _ d

  pub by_mark : digit (get_or s i 0) ≡ false → piece (drop i s)
      ≡ cond (eqb (get_or s i 0) DOUBLE_QUOTE) (literal (drop i s) (after 1 (string false 0 (drop (i + 1) s))))
      (cond (eqb (get_or s i 0) QUOTE) (quote (drop i s))
      (cond (eqb (get_or s i 0) SLASH) (slash (drop i s)) (single (get_or s i 0))))
  by_mark d = piece_at s i ∙ passed_over _ _ _ blanks ∙ passed_over _ _ _ names ∙ passed_over _ _ _ d

-- at the end nothing stands
pub piece_none : (s : List ℕ) (i : ℕ) → length s ≤ i → piece (drop i s) ≡ fault
unfolding piece blank single opens closes
piece_none s i h = ap piece (drop_of_length-le s {i = i} h)

-- whitespace up to r
pub gap_at : {s : List ℕ} {i r : ℕ} → i < length s → blank (get_or s i 0) ≡ true → RunEnd blank s i r
    → PieceAs s i (piece (drop i s)) (Some (pieces.Gap r))
gap_at {s} {i} {r} here q h =
    let n : run blank (drop i s) ≡ r - i = omega (arith, h.told) in
    gap-as (record {
      told = piece_at s i ∙ chosen _ _ _ q ∙ ap gap n;
      forth = omega (arith, run_on blank s i here q, h.told);
      within = h.within (omega arith);
    })

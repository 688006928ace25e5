-- What each piece is to brackets, and the groups that are open at an offset.
use mathlib.Core.Path.{◌≡◌, refl, ap, ◌∙◌, sym, subst, subst⁻¹}
use mathlib.Core.Bool.{Bool, true, false, cond, not, ◌&&◌, true≢false}
use mathlib.Core.List.{List, [], ◌∷◌}
use Prim.Native.Nat.{ℕ, zero, suc, ◌+◌, ◌-◌, ◌≤◌, ◌<◌}
use native.Mathlib.Omega.{arith}
use borrow.Author.Tests.{lt-ltb, le-ltb, ltb-false, ne_eqb}
use lib.Dec.{ltb, eqb}
use lib.ListN.{length, get_or, drop, take}
use lib.Seq.{slice}
use Rattle.token_list.specs.Layout.{OPEN, CLOSE, PUNCT}
use Rattle.token_list.specs.Byte.{bytes, HASH, QUOTE}
use Rattle.token_list.specs.Text.{closer, same, digit, name_start, name_part, punctuation, member, never_raw}
use Rattle.token_list.specs.Row.{first}
use Rattle.token_list.proofs.Texts.{chosen, passed_over, slice_next}
use Rattle.source.specs.Bytes.{SLASH, STAR, BANG, DOUBLE_QUOTE, blank, opens, closes}
use Rattle.source.specs.Taken as taken
use Rattle.source.specs.Taken.{Taken, after, run}
use Rattle.source.specs.Quoted.{character, string}
use Rattle.source.specs.Number.{number}
use Rattle.source.specs.Comment.{block_comment, outer_line, doc_line}
use Rattle.source.specs.Piece.{Piece, gap, row, lifetime, doc, fault, literal, raw_name, prefixed, word}
use Rattle.source.specs.Piece.{lifetime_of}
use Rattle.source.specs.Piece.{quoted_or, quote, gap_of, doc_of_lem, line_comment, slash, single, piece}
use Rattle.source.specs.Lex.{token, row_at, found, lex_from}
use Rattle.source.specs.Brackets.{Open, Matched, faulty, brackets, close}
use Rattle.source.specs.Contract.{PieceTo, PieceAs, piece_end}
use Rattle.source.specs.Contract.{gap as gap-as, row as Row-as, lifetime as lifetime-as, doc as doc-as}
use Rattle.std.specs.Prelude.{Some}
use Rattle.source.specs.declared.piece.Piece as code
use Rattle.source.specs.declared.piece.Piece.TheVariants as pieces
use Rattle.source.specs.Stack.{rest, stack_to, Passing, Opening, close_at, Closing, Within, IsNot, StepAs}
use Rattle.source.proofs.Offsets.{byte-first}
use Rattle.source.proofs.Lexes.{rest-piece, piece_forth, piece-within}

-- ## A row that opens a group begins with an opening delimiter

data Opener (b : ℕ) : Piece → Type 0 where
  opener : {p : Piece} → opens b ≡ true → Opener b p
  gap_not : {n : ℕ} → Opener b (gap n)
  row_not : {k n : ℕ} → eqb k OPEN ≡ false → Opener b (row k n)
  lifetime_not : {n : ℕ} → Opener b (lifetime n)
  doc_not : {n : ℕ} → Opener b (doc n)
  fault_not : Opener b fault

module _ {b : ℕ} where
  either : (t : Bool) {p q : Piece} → Opener b p → Opener b q → Opener b (cond t p q)
  either true h k = h
  either false h k = k

  literal_not : (s : List ℕ) (t : Taken) → Opener b (literal s t)
  literal_not s (taken.takes n) = row_not refl
  literal_not s taken.fault = fault_not

  raw_not : (n : ℕ) (s : List ℕ) → Opener b (raw_name n s)
  unfolding raw_name
  raw_not n s = either (name_start (get_or s 2 0) && not (never_raw (take n (drop 2 s)))) (row_not refl) fault_not

  prefixed_not : (n : ℕ) (s : List ℕ) → Opener b (prefixed n s)
  unfolding prefixed
  prefixed_not n s =
      let text = take n s in
      let quoted = either (eqb (get_or s 1 0) QUOTE) (literal_not s (after 2 (character true (drop 2 s)))) fault_not in
      let byte = either (eqb (get_or s 1 0) DOUBLE_QUOTE) (literal_not s (after 2 (string true 0 (drop 2 s)))) quoted in
      let raw = raw_not (run name_part (drop 2 s)) s in
      either (same text (bytes "b")) byte (either (same text (bytes "r") && eqb (get_or s 1 0) HASH) raw fault_not)

  word_not : (s : List ℕ) → Opener b (word s)
  unfolding word
  word_not s =
      let n = run name_part s in
      either (member (get_or s n 0) (bytes "\"'#")) (prefixed_not n s) (row_not refl)

  quoted_not : (t : Taken) (s : List ℕ) → Opener b (quoted_or t s)
  unfolding lifetime_of
  quoted_not (taken.takes n) s = row_not refl
  quoted_not taken.fault s =
      let n = run name_part (drop 1 s) in
      either (name_start (get_or s 1 0) && not (eqb (get_or s (n + 1) 0) QUOTE)) lifetime_not fault_not

  quote_not : (s : List ℕ) → Opener b (quote s)
  unfolding quote
  quote_not s = quoted_not (character false (drop 1 s)) s

  gap_of_lem : (t : Taken) → Opener b (gap_of t)
  gap_of_lem (taken.takes n) = gap_not
  gap_of_lem taken.fault = fault_not

  doc_of : (t : Taken) → Opener b (doc_of_lem t)
  doc_of (taken.takes n) = doc_not
  doc_of taken.fault = fault_not

  slash_not : (s : List ℕ) → Opener b (slash s)
  unfolding slash line_comment
  slash_not s =
      let line = either (eqb (get_or s 2 0) BANG) fault_not (either (outer_line s) (doc_of (doc_line s)) gap_not) in
      let block = either (eqb (get_or s 1 0) STAR) (gap_of_lem (block_comment s)) (row_not refl) in
      either (eqb (get_or s 1 0) SLASH) line block

single_opener : (b : ℕ) → Opener b (single b)
unfolding single
single_opener b = go (opens b) refl
  where
    go : (t : Bool) → opens b ≡ t
        → Opener b (cond t (row OPEN 1) (cond (closes b) (row CLOSE 1) (cond (punctuation b) (row PUNCT 1) fault)))
    go true h = opener h
    go false h = either (closes b) (row_not refl) (either (punctuation b) (row_not refl) fault_not)

piece_opener : (s : List ℕ) → Opener (get_or s 0 0) (piece s)
unfolding piece
piece_opener s =
    let b = get_or s 0 0 in
    let text = literal_not s (after 1 (string false 0 (drop 1 s))) in
    either (blank b) gap_not (either (name_start b) (word_not s) (either (digit b) (literal_not s (number s))
    (either (eqb b DOUBLE_QUOTE) text (either (eqb b QUOTE) (quote_not s)
    (either (eqb b SLASH) (slash_not s) (single_opener b))))))

pub open_delimiter : (s : List ℕ) (n : ℕ) → piece s ≡ row OPEN n → opens (get_or s 0 0) ≡ true
open_delimiter s n e = go (subst (Opener (get_or s 0 0)) e (piece_opener s))
  where
    go : {b : ℕ} → Opener b (row OPEN n) → opens b ≡ true
    go (opener h) = h
    go (row_not h) = absurd (true≢false h)

-- ## The groups that are open at u are open at every later place where the text was read up to

stack_past : (u at k : ℕ) (os : List Open) (s : List ℕ) → u ≤ at → stack_to u os (lex_from at k s) ≡ os
stack_past u at k os [] h = refl
stack_past u at (suc k) os (b ∷ s) h = stack_past u (at + 1) k os s (omega arith)
stack_past u at zero os (b ∷ s) h =
    go (piece (b ∷ s)) (λ n. stack_past u (at + 1) (n - 1) os s (omega arith))
  where
    past : ltb at u ≡ false
    past = le-ltb at u h

    go : (p : Piece) → ((n : ℕ) → stack_to u os (lex_from (at + 1) (n - 1) s) ≡ os)
        → stack_to u os (found at (b ∷ s) p (λ n. lex_from (at + 1) (n - 1) s)) ≡ os
    go (gap n) ih = ih n
    go (row m n) ih = passed_over _ _ _ past
    go (lifetime n) ih = passed_over _ _ _ past
    go (doc n) ih = passed_over _ _ _ past
    go fault ih = refl

pub stack_here : (s : List ℕ) (u i : ℕ) (os : List Open) → u ≤ i → stack_to u os (rest s i) ≡ os
stack_here s u i os h = stack_past u i 0 os (drop i s) h

-- ## What each piece is to brackets

-- a row's first byte is the text's
first_byte : (s : List ℕ) (i e : ℕ) → i < e → e ≤ length s → first (slice i e s) ≡ get_or s i 0
first_byte s i e h k = ap first (slice_next s i e h k)

module _ {s : List ℕ} {i e : ℕ} (w : Within s i e) where
  opening-row : rest s i ≡ token (row_at OPEN i (slice i e s)) (rest s e) → opens (get_or s i 0) ≡ true → Opening s i e
  opening-row q h =
      let b = first_byte s i e w.forth w.within in
      let group : ℕ → Open = λ d. record { delimiter = d; offset = i } in
      record {
        brackets = λ os. ap (brackets os) q ∙ ap (λ (d : ℕ). brackets (group d ∷ os) (rest s e)) b;
        stack = λ u os l. ap (stack_to u os) q ∙ chosen _ _ _ (lt-ltb i u l)
            ∙ ap (λ (d : ℕ). stack_to u (group d ∷ os) (rest s e)) b;
        delimiter = h;
      }

  closing-row : rest s i ≡ token (row_at CLOSE i (slice i e s)) (rest s e) → Closing s i e
  closing-row q =
      let b = first_byte s i e w.forth w.within in
      let go : List Open → Matched = λ ps. brackets ps (rest s e) in
      let same : (os : List Open) → close (row_at CLOSE i (slice i e s)) os go
      ≡ close_at s i os go = λ os. closes_as b os go in
      record {
        brackets = λ os. ap (brackets os) q ∙ same os;
        stack = λ u os l. ap (stack_to u os) q ∙ chosen _ _ _ (lt-ltb i u l);
      }
    where
      closes_as : first (slice i e s) ≡ get_or s i 0 → (os : List Open) (go : List Open → Matched)
          → close (row_at CLOSE i (slice i e s)) os go ≡ close_at s i os go
      closes_as b [] go = refl
      closes_as b (o ∷ os) go = ap (λ (d : ℕ). cond (eqb (closer o.delimiter) d) (go os) (faulty i)) b

  passing_row : {k : ℕ} → rest s i ≡ token (row_at k i (slice i e s)) (rest s e) → eqb k OPEN ≡ false
      → eqb k CLOSE ≡ false
      → Passing s i e
  passing_row {k} q a b =
      record {
        brackets = λ os. ap (brackets os) q ∙ passed_over _ _ _ a ∙ passed_over _ _ _ b;
        stack = λ u os l. ap (stack_to u os) q ∙ chosen _ _ _ (lt-ltb i u l)
            ∙ ap (λ (ps : List Open). stack_to u ps (rest s e)) (passed_over _ _ _ a ∙ passed_over _ _ _ b);
      }

module _ (s : List ℕ) (i : ℕ) (here : i < length s) where
  lifetime_step : {e : ℕ} → PieceTo s i (piece (drop i s)) (lifetime (e - i)) e → Passing s i e
  lifetime_step {e} h =
      let q = rest-piece s i here (lifetime-as h) in
      record {
        brackets = λ os. ap (brackets os) q;
        stack = λ u os l. ap (stack_to u os) q ∙ chosen _ _ _ (lt-ltb i u l) ∙ second u os (ltb (i + 1) u) refl;
      }
    where
      second : (u : ℕ) (os : List Open) (b : Bool) → ltb (i + 1) u ≡ b
          → cond b (stack_to u os (rest s e)) os ≡ stack_to u os (rest s e)
      second u os true p = refl
      second u os false p = sym (stack_here s u e os (omega (arith, ltb-false (i + 1) u p, h.forth)))

  doc_step : {e : ℕ} → PieceTo s i (piece (drop i s)) (doc (e - i)) e → i + 3 ≤ e → Passing s i e
  doc_step {e} h m =
      let q = rest-piece s i here (doc-as h m) in
      record {
        brackets = λ os. ap (brackets os) q;
        stack = λ u os l. ap (stack_to u os) q ∙ simp (lt-ltb i u l);
      }

  opens_row : {e : ℕ} → PieceAs s i (piece (drop i s)) (Some (pieces.Row OPEN e)) → Opening s i e
  opens_row {e} (Row-as h) =
      let delimiter = ap opens (sym (byte-first s i)) ∙ open_delimiter (drop i s) (e - i) h.told in
      opening-row (record { forth = h.forth; within = h.within }) (rest-piece s i here (Row-as h)) delimiter

  closes_row : {e : ℕ} → PieceAs s i (piece (drop i s)) (Some (pieces.Row CLOSE e)) → Closing s i e
  closes_row (Row-as h) =
      closing-row (record { forth = h.forth; within = h.within }) (rest-piece s i here (Row-as h))

  pub piece_opens : {p : code.Piece} (e : ℕ) → p ≡ pieces.Row OPEN e → PieceAs s i (piece (drop i s)) (Some p)
      → Opening s i (piece_end p)
  piece_opens e q h =
      subst⁻¹ (λ p. Opening s i (piece_end p)) q
      (opens_row (subst (λ p. PieceAs s i (piece (drop i s)) (Some p)) q h))

  pub piece_closes : {p : code.Piece} (e : ℕ) → p ≡ pieces.Row CLOSE e → PieceAs s i (piece (drop i s)) (Some p)
      → Closing s i (piece_end p)
  piece_closes e q h =
      subst⁻¹ (λ p. Closing s i (piece_end p)) q
      (closes_row (subst (λ p. PieceAs s i (piece (drop i s)) (Some p)) q h))

  pub piece_passes : {p : code.Piece} → PieceAs s i (piece (drop i s)) (Some p) → IsNot OPEN p → IsNot CLOSE p
      → Passing s i (piece_end p)
  piece_passes (gap-as h) a b =
      let q = rest-piece s i here (gap-as h) in
      record { brackets = λ os. ap (brackets os) q; stack = λ u os l. ap (stack_to u os) q }
  piece_passes (Row-as {k} {e} h) a b =
      let row : ℕ → code.Piece = λ j. pieces.Row j e in
      passing_row (record { forth = h.forth; within = h.within }) (rest-piece s i here (Row-as h))
      (ne_eqb k OPEN (λ q. a e (ap row q))) (ne_eqb k CLOSE (λ q. b e (ap row q)))
  piece_passes (lifetime-as h) a b = lifetime_step h
  piece_passes (doc-as h m) a b = doc_step h m

pub piece_stands : {s : List ℕ} {i : ℕ} {t : Piece} {p : code.Piece} → PieceAs s i t (Some p) → Within s i (piece_end p)
piece_stands h = record { forth = piece_forth h; within = piece-within h }

-- what stands at i, as brackets see it
pub piece_step : (s : List ℕ) (i : ℕ) → i < length s → {p : code.Piece} → PieceAs s i (piece (drop i s)) (Some p)
    → StepAs s i p
piece_step s i here h =
    record {
      within = piece_stands h;
      opening = λ e q. piece_opens s i here e q h;
      closing = λ e q. piece_closes s i here e q h;
      passing = λ a b. piece_passes s i here h a b;
    }

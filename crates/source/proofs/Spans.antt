-- Where rows stand, piece by piece; lines and columns.
use mathlib.Core.Path.{◌≡◌, refl, ap, ◌∙◌, sym}
use mathlib.Core.List.{List, [], ◌∷◌}
use Prim.Native.Nat.{ℕ, zero, suc, ◌+◌, ◌-◌, ◌≤◌, ◌<◌, min}
use native.Mathlib.Omega.{arith}
use native.Mathlib.Decide.{dec_le}
use borrow.Author.Tests.{eq-eqb, ne_eqb}
use lib.ListN.{length, get_or, take, drop, drop_of_length-le}
use lib.Seq.{length-slice, take-nil}
use Rattle.token_list.specs.Byte.{LF}
use Rattle.token_list.proofs.Texts.{drop_next, chosen, passed_over}
use Rattle.source.specs.Piece.{Piece, piece}
use Rattle.source.specs.Lex.{Lexed}
use Rattle.source.specs.Contract.{PieceAs, piece_tokens, piece_end}
use Rattle.source.specs.Contract.{gap as gap-as, row as Row-as, lifetime as lifetime-as, doc as doc-as}
use Rattle.source.specs.Stack.{rest}
use Rattle.source.specs.Place.{text_end, span_of, row_span, line_after, column_after, line_of, column_of}
use Rattle.source.specs.Places.{row_count, span_in, LineColumn}
use Rattle.std.specs.Prelude.{Some, None}
use Rattle.source.specs.declared.piece.Piece as code
use Rattle.source.proofs.Lexes.{rest-piece, rest-stops, rest-none, rest_all}

-- ## Rows

module _ (s : List ℕ) (i m : ℕ) (ts : Lexed) where
  -- a row of the piece
  span_here : {t : Piece} {p : code.Piece} (n : ℕ) → PieceAs s i t (Some p) → n < row_count p
      → span_of m n (piece_tokens s i p ts) ≡ span_in i p n
  span_here n (gap-as h) l = absurd (omega (arith, l))
  span_here zero (Row-as {k} {e} h) l =
      ap (λ (n : ℕ). record { offset = i; length = n }) (length-slice i e s h.within)
  span_here (suc n) (Row-as h) l = absurd (omega (arith, l))
  span_here zero (lifetime-as h) l = refl
  span_here (suc zero) (lifetime-as h) l = refl
  span_here (suc (suc n)) (lifetime-as h) l = absurd (omega (arith, l))
  span_here zero (doc-as h k) l = refl
  span_here (suc zero) (doc-as h k) l = refl
  span_here (suc (suc zero)) (doc-as h k) l = refl
  span_here (suc (suc (suc zero))) (doc-as h k) l = refl
  span_here (suc (suc (suc (suc zero)))) (doc-as h k) l = refl
  span_here (suc (suc (suc (suc (suc zero))))) (doc-as h k) l = refl
  span_here (suc (suc (suc (suc (suc (suc n)))))) (doc-as h k) l = absurd (omega (arith, l))

  left : (n k : ℕ) → n ≡ k → span_of m n ts ≡ span_of m k ts
  left n k e = ap (λ (x : ℕ). span_of m x ts) e

  -- a row behind it
  span_behind : {t : Piece} {p : code.Piece} (n : ℕ) → PieceAs s i t (Some p) → row_count p ≤ n
      → span_of m n (piece_tokens s i p ts) ≡ span_of m (n - row_count p) ts
  span_behind n (gap-as h) l = left n (n - 0) (omega arith)
  span_behind zero (Row-as h) l = absurd (omega (arith, l))
  span_behind (suc n) (Row-as h) l = left n (suc n - 1) (omega arith)
  span_behind zero (lifetime-as h) l = absurd (omega (arith, l))
  span_behind (suc zero) (lifetime-as h) l = absurd (omega (arith, l))
  span_behind (suc (suc n)) (lifetime-as h) l = left n (suc (suc n) - 2) (omega arith)
  span_behind zero (doc-as h k) l = absurd (omega (arith, l))
  span_behind (suc zero) (doc-as h k) l = absurd (omega (arith, l))
  span_behind (suc (suc zero)) (doc-as h k) l = absurd (omega (arith, l))
  span_behind (suc (suc (suc zero))) (doc-as h k) l = absurd (omega (arith, l))
  span_behind (suc (suc (suc (suc zero)))) (doc-as h k) l = absurd (omega (arith, l))
  span_behind (suc (suc (suc (suc (suc zero))))) (doc-as h k) l = absurd (omega (arith, l))
  span_behind (suc (suc (suc (suc (suc (suc n)))))) (doc-as h k) l =
      left n (suc (suc (suc (suc (suc (suc n))))) - 6) (omega arith)

-- the rows that are left behind the pieces up to i
pub record Counted (s : List ℕ) (row i n : ℕ) : Type 0 where
  pub within : i ≤ length s
  pub same : span_of (length s) n (rest s i) ≡ row_span s row

pub counted_start : (s : List ℕ) (row : ℕ) → Counted s row 0 row
unfolding row_span
counted_start s row = record { within = omega arith; same = ap (span_of (length s) row) (sym (rest_all s)) }

module _ {s : List ℕ} {row i n : ℕ} (h : Counted s row i n) (here : i < length s) where
  pub counted_here : {p : code.Piece} → PieceAs s i (piece (drop i s)) (Some p) → n < row_count p
      → span_in i p n ≡ row_span s row
  counted_here {p} a l =
      let m = length s in
      sym (span_here s i m (rest s (piece_end p)) n a l) ∙ sym (ap (span_of m n) (rest-piece s i here a)) ∙ h.same

  pub counted_behind : {p : code.Piece} → PieceAs s i (piece (drop i s)) (Some p) → row_count p ≤ n
      → span_of (length s) (n - row_count p) (rest s (piece_end p)) ≡ row_span s row
  counted_behind {p} a l =
      let m = length s in
      sym (span_behind s i m (rest s (piece_end p)) n a l) ∙ sym
      (ap (span_of m n) (rest-piece s i here a)) ∙ h.same

-- no row is left where no piece stands
pub counted_out : {s : List ℕ} {row i n : ℕ} → Counted s row i n → PieceAs s i (piece (drop i s)) None
    → text_end (length s) ≡ row_span s row
counted_out {s} {row} {i} {n} h k = go (dec_le (length s) i)
  where
    go : Dec (length s ≤ i) → text_end (length s) ≡ row_span s row
    go (yes l) = sym (ap (span_of (length s) n) (rest-none s i l)) ∙ h.same
    go (no l) = sym (ap (span_of (length s) n) (rest-stops s i (omega arith) k)) ∙ h.same

-- ## Lines and columns

-- up to i, of the text before the offset
pub record Positioned (t : List ℕ) (i line column : ℕ) : Type 0 where
  pub low : (line ≤ i + 1) × (column ≤ i + 1)
  pub lines : line_after line (drop i t) ≡ line_after 1 t
  pub columns : column_after column (drop i t) ≡ column_after 1 t

pub positioned_start : (t : List ℕ) → Positioned t 0 1 1
positioned_start t = record { low = (omega arith, omega arith); lines = refl; columns = refl }

module _ {t : List ℕ} {i line column : ℕ} (h : Positioned t i line column) where
  pub positioned_line : i < length t → get_or t i 0 ≡ LF → Positioned t (i + 1) (line + 1) 1
  positioned_line l q =
      let next = drop_next t i l in
      record {
        low = (omega (arith, h.low.0), omega arith);
        lines = sym (chosen _ _ _ (eq-eqb _ LF q)) ∙ sym (ap (line_after line) next) ∙ h.lines;
        columns = sym (chosen _ _ _ (eq-eqb _ LF q)) ∙ sym (ap (column_after column) next) ∙ h.columns;
      }

  pub positioned_on : i < length t → (get_or t i 0 ≡ LF → ⊥) → Positioned t (i + 1) line (column + 1)
  positioned_on l q =
      let next = drop_next t i l in
      record {
        low = (omega (arith, h.low.0), omega (arith, h.low.1));
        lines = sym (passed_over _ _ _ (ne_eqb _ LF q)) ∙ sym (ap (line_after line) next) ∙ h.lines;
        columns = sym (passed_over _ _ _ (ne_eqb _ LF q)) ∙ sym (ap (column_after column) next) ∙ h.columns;
      }

  pub positioned_done : {s : List ℕ} {offset : ℕ} → length t ≤ i → t ≡ take offset s
      → LineColumn s offset (record { line = line; column = column })
  unfolding line_of column_of
  positioned_done l e =
      let none = drop_of_length-le t {i = i} l in
      record {
        line = sym (ap (line_after line) none) ∙ h.lines ∙ ap (line_after 1) e;
        column = sym (ap (column_after column) none) ∙ h.columns ∙ ap (column_after 1) e;
      }

-- no more of a text is taken than there is
pub take_within : (s : List ℕ) (n : ℕ) → take (min n (length s)) s ≡ take n s
take_within [] n = take-nil (min n 0) ∙ sym (take-nil n)
take_within (b ∷ s) zero = let z : min 0 (length (b ∷ s)) ≡ 0 = omega arith in ap (λ k. take k (b ∷ s)) z
take_within (b ∷ s) (suc n) =
    let m : min (suc n) (length (b ∷ s)) ≡ suc (min n (length s)) = omega arith in
    ap (λ k. take k (b ∷ s)) m ∙ ap (λ t. b ∷ t) (take_within s n)

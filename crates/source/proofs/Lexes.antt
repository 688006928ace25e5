-- The tokens of a text from an offset on, piece by piece.
use mathlib.Core.Path.{◌≡◌, refl, ap, ◌∙◌, sym}
use mathlib.Core.Bool.{Bool, true, false}
use mathlib.Core.List.{List, [], ◌∷◌}
use Prim.Native.Nat.{ℕ, zero, suc, ◌+◌, ◌-◌, ◌≤◌, ◌<◌}
use native.Mathlib.Omega.{arith}
use native.Mathlib.Decide.{dec_le}
use lib.ListN.{length, get_or, take, drop, drop_of_length-le}
use lib.Seq.{slice, drop-nil}
use Rattle.token_list.specs.Byte.{QUOTE}
use Rattle.token_list.specs.Rows.{ident, punct}
use Rattle.token_list.proofs.Texts.{drop_next, drop_of_take}
use Rattle.source.specs.Piece.{Piece, piece}
use Rattle.source.specs.Lex.{Lexed, end, token, stops, row_at, doc_rows, found, lex_from, lex}
use Rattle.source.specs.Bytes.{blank}
use Rattle.source.specs.Contract.{RunEnd, PieceAs, found_tokens, piece_end, found_end}
use Rattle.source.specs.Contract.{gap as gap-as, row as Row-as, lifetime as lifetime-as, doc as doc-as}
use Rattle.source.specs.Contract.{none as none-as}
use Rattle.std.specs.Prelude.{Option, Some, None}
use Rattle.source.specs.declared.piece.Piece as code
use Rattle.source.specs.Stack.{rest}
use Rattle.source.proofs.Offsets.{drop_behind}
use Rattle.source.proofs.Runs.{run_stops, run_none}
use Rattle.source.proofs.Pieces.{gap_at}

-- bytes that are passed over are left out
pub lex_skip : (at k : ℕ) (s : List ℕ) → lex_from at k s ≡ lex_from (at + k) 0 (drop k s)
lex_skip at k [] = ap (lex_from (at + k) 0) (sym (drop-nil k))
lex_skip at zero (b ∷ s) = let n : at ≡ at + 0 = omega arith in ap (λ (m : ℕ). lex_from m 0 (b ∷ s)) n
lex_skip at (suc k) (b ∷ s) =
    let n : at + 1 + k ≡ at + suc k = omega arith in
    lex_skip (at + 1) k s ∙ ap (λ (m : ℕ). lex_from m 0 (drop k s)) n

pub rest-none : (s : List ℕ) (i : ℕ) → length s ≤ i → rest s i ≡ end
rest-none s i h = ap (lex_from i 0) (drop_of_length-le s {i = i} h)

pub rest_all : (s : List ℕ) → lex s ≡ rest s 0
unfolding lex
rest_all s = refl

-- ## The piece that stands at i

abbrev onwards : List ℕ → ℕ → ℕ → Lexed
onwards s i n = lex_from (i + 1) (n - 1) (drop (i + 1) s)

-- behind n bytes, up to e
onwards_rest : (s : List ℕ) (i e : ℕ) → i < e → onwards s i (e - i) ≡ rest s e
onwards_rest s i e h =
    let n : i + 1 + (e - i - 1) ≡ e = omega arith in
    lex_skip (i + 1) (e - i - 1) (drop (i + 1) s)
    ∙ ap (lex_from (i + 1 + (e - i - 1)) 0) (drop_behind s (i + 1) (e - i - 1))
    ∙ ap (rest s) n

-- the text of a piece without its first k bytes
text_behind : (s : List ℕ) (i e k : ℕ) → take (e - i - k) (drop k (drop i s)) ≡ slice (i + k) e s
text_behind s i e k =
    let n : e - i - k ≡ e - (i + k) = omega arith in
    (λ j. take (n j) (drop_behind s i k j)) ∙ sym (drop_of_take (i + k) e s)

module _ (s : List ℕ) (i : ℕ) (here : i < length s) where
  rest_found : {p : Piece} → piece (drop i s) ≡ p → rest s i ≡ found i (drop i s) p (onwards s i)
  rest_found h =
      let cons = drop_next s i here in
      ap (lex_from i 0) cons ∙ ap (λ (t : List ℕ). found i t (piece t) (onwards s i)) (sym cons)
      ∙ ap (λ (p : Piece). found i (drop i s) p (onwards s i)) h

  pub rest-piece : {found : Option code.Piece} → PieceAs s i (piece (drop i s)) found
      → rest s i ≡ found_tokens s i found (rest s (found_end s found))
  rest-piece (gap-as {e} h) = rest_found h.told ∙ onwards_rest s i e h.forth
  rest-piece (Row-as {k} {e} h) =
      let text = sym (drop_of_take i e s) in
      rest_found h.told ∙ (λ j. token (row_at k i (text j)) (onwards_rest s i e h.forth j))
  rest-piece (lifetime-as {e} h) =
      let n : e - i - 1 ≡ e - (i + 1) = omega arith in
      let name : List ℕ → ℕ → Lexed → Lexed =
      λ t m ts. token (record { row = punct QUOTE; offset = i; length = 1 })
      (token (record { row = ident t; offset = i + 1; length = m }) ts) in
      rest_found h.told ∙ (λ j. name (text_behind s i e 1 j) (n j) (onwards_rest s i e h.forth j))
  rest-piece (doc-as {e} h l) =
      rest_found h.told ∙ (λ j. doc_rows i (e - i) (text_behind s i e 3 j) (onwards_rest s i e h.forth j))
  rest-piece (none-as h) = rest_found h

  pub rest-stops : PieceAs s i (piece (drop i s)) None → rest s i ≡ stops i
  rest-stops h = rest-piece h

-- a piece has a byte at least, and stands in the text
module _ {s : List ℕ} {i : ℕ} {t : Piece} where
  pub piece_forth : {p : code.Piece} → PieceAs s i t (Some p) → i < piece_end p
  piece_forth (gap-as h) = h.forth
  piece_forth (Row-as h) = h.forth
  piece_forth (lifetime-as h) = h.forth
  piece_forth (doc-as h m) = h.forth

  pub piece-within : {p : code.Piece} → PieceAs s i t (Some p) → piece_end p ≤ length s
  piece-within (gap-as h) = h.within
  piece-within (Row-as h) = h.within
  piece-within (lifetime-as h) = h.within
  piece-within (doc-as h l) = h.within

  pub piece-here : {p : code.Piece} → PieceAs s i t (Some p) → i < length s
  piece-here h = omega (arith, piece_forth h, piece-within h)

-- ## Whitespace

-- whitespace up to r is passed over
pub rest-blank : {s : List ℕ} {i r : ℕ} → RunEnd blank s i r → rest s i ≡ rest s r
rest-blank {s} {i} {r} h = go (dec_le (length s) i)
  where
    some : i < length s → (b : Bool) → blank (get_or s i 0) ≡ b → rest s i ≡ rest s r
    some here true q = rest-piece s i here (gap_at here q h)
    some here false q =
        let n : i ≡ r = omega (arith, h.told, run_stops blank s i here q) in ap (rest s) n

    go : Dec (length s ≤ i) → rest s i ≡ rest s r
    go (yes l) = let n : i ≡ r = omega (arith, h.told, run_none blank s i l) in ap (rest s) n
    go (no l) = some (omega arith) (blank (get_or s i 0)) refl

-- One round over a text: the groups that are open, the rows so far and the list, piece by piece.
use mathlib.Core.Path.{◌≡◌, refl, ap, ◌∙◌, sym}
use mathlib.Core.Bool.{false}
use mathlib.Core.List.{List, [], ◌++◌, append-nil}
use Prim.Native.Nat.{ℕ, ◌≤◌, ◌<◌}
use native.Mathlib.Omega.{arith}
use lib.ListN.{length, get_or, drop}
use Rattle.token_list.specs.Layout.{names}
use Rattle.token_list.specs.Row.{Row, written}
use Rattle.output.specs.Contract.{Appended}
use Rattle.output.proofs.Appends.{appended_none, appended_join, appended_as, appended_shown}
use Rattle.source.specs.Bytes.{blank}
use Rattle.source.specs.Piece.{piece}
use Rattle.source.specs.Lex.{Lexed, lex}
use Rattle.source.specs.Answer.{rows_of}
use Rattle.source.specs.Contract.{RunEnd, PieceAs, piece_end}
use Rattle.source.specs.Stack.{rest, Reached}
use Rattle.source.specs.Tokens.{piece_rows, rows_more_lem, NO_ROWS, Listed}
use Rattle.source.specs.declared.piece.Piece as code
use Rattle.std.specs.Prelude.{Option, Some, None}
use Rattle.source.specs.declared.tokens.Size.{Size}
use Rattle.source.proofs.Lexes.{rest_all, rest-blank, piece-within}
use Rattle.source.proofs.Measures.{rows_none, measured_piece, written-piece}
use Rattle.source.proofs.Walks.{reached_start, reached_sound, reached_blank}

-- the text was read up to i: `done` was appended to the list, and the rows from i on are what is left of it
pub record ScannedTo (s cells list₀ list : List ℕ) (at₀ at i depth : ℕ) (m : Option Size) (done : List ℕ) : Type 0 where
  pub within : i ≤ length s
  pub reached : Reached s cells i depth
  pub measured : rows_more_lem m (rows_of (rest s i)) ≡ rows_more_lem NO_ROWS (rows_of (lex s))
  pub appended : Appended list₀ list at₀ at done
  pub left : done ++ written false (rows_of (rest s i)) ≡ written false (rows_of (lex s))

abbrev pub Scanning : List ℕ → List ℕ → List ℕ → List ℕ → ℕ → ℕ → ℕ → ℕ → Option Size → Type 0
Scanning s cells list₀ list at₀ at i depth m = (done : List ℕ) × ScannedTo s cells list₀ list at₀ at i depth m done

pub scan_start : (s cells : List ℕ) {list : List ℕ} {at : ℕ} → ((c : ℕ) → get_or cells c 0 ≡ 0)
    → Scanning s cells list list at at 0 0 NO_ROWS
scan_start s cells zeros = (
  [],
  record {
    within = omega arith;
    reached = reached_start s cells zeros;
    measured = ap (λ (l : Lexed). rows_more_lem NO_ROWS (rows_of l)) (sym (rest_all s));
    appended = appended_none;
    left = ap (λ (l : Lexed). written false (rows_of l)) (sym (rest_all s));
  },
)

module _ {s cells list₀ list : List ℕ} {at₀ at i depth : ℕ} {m : Option Size} where
  -- a piece, and the whitespace up to r behind it
  pub scan_piece : {cells₁ list₁ : List ℕ} {at₁ r d : ℕ} {n : Option Size} {p : code.Piece} → i < length s
      → PieceAs s i (piece (drop i s)) (Some p) → Reached s cells₁ (piece_end p) d
      → n ≡ rows_more_lem m (piece_rows s i p)
      → Appended list list₁ at at₁ (written false (piece_rows s i p))
      → RunEnd blank s (piece_end p) r
      → Scanning s cells list₀ list at₀ at i depth m
      → Scanning s cells₁ list₀ list₁ at₀ at₁ r d n
  scan_piece {n = n} here stands turned more put blanks (done, h) =
      let behind = sym (rest-blank blanks) in
      let text = done ++ _ in (
        text,
        record {
          within = blanks.within (piece-within stands);
          reached = reached_blank blanks turned;
          measured = ap (λ (l : Lexed). rows_more_lem n (rows_of l)) behind
              ∙ measured_piece s i here stands m more refl ∙ h.measured;
          appended = appended_join h.appended put;
          left = ap (λ (l : Lexed). text ++ written false (rows_of l)) behind
              ∙ written-piece s i here stands done refl ∙ h.left;
        },
      )

  -- the whole text, where nothing is left open
  pub scan_whole : {list₋ : List ℕ} → length s ≤ i → depth ≡ 0 → PieceAs s i (piece (drop i s)) None
      → Appended list₋ list₀ 0 at₀ (names false)
      → Scanning s cells list₀ list at₀ at i depth m
      → Listed s list m
  scan_whole all closed last first (done, h) =
      let none = rows_none last in
      let rows = sym (append-nil done) ∙ sym (ap (λ (t : List Row). done ++ written false t) none) ∙ h.left in
      record {
        matched = reached_sound all closed h.reached;
        measured = ap (rows_more_lem m) (sym none) ∙ h.measured;
        list = appended_shown (appended_join first (appended_as rows h.appended));
      }

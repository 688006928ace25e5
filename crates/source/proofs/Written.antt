-- What is written is a token list, and its rows are the tokens of the text.
use mathlib.Core.Path.{◌≡◌, refl, ap, ◌∙◌, sym}
use mathlib.Core.Bool.{Bool, true, false, cond, ◌&&◌}
use mathlib.Core.List.{List, [], ◌∷◌}
use Prim.Native.Nat.{ℕ, ◌+◌, ◌-◌, ◌≤◌}
use native.Mathlib.Omega.{arith}
use lib.Dec.{leb, ltb, eqb}
use borrow.Author.Tests.{leb-true}
use lib.ListN.{length}
use Rattle.token_list.specs.Layout.{OPEN, CLOSE, marked, first_row, MAX_BYTES, MAX_ROWS, MAX_TEXT, MAX_DEPTH}
use Rattle.token_list.specs.Text.{closer}
use Rattle.token_list.specs.Row.{Row, form_of, first}
use Rattle.token_list.specs.Rows.{list_of}
use Rattle.token_list.specs.Check.{END, check, is_row, right, closed_by, enclosing, nested}
use Rattle.token_list.specs.Stream.{rows_at}
use Rattle.token_list.proofs.Texts.{and_parts, and_both}
use Rattle.token_list.proofs.Passes.{nested_passes, list_marked, list_rows}
use Rattle.source.specs.Lex.{Token, Lexed, end, token, stops, lex}
use Rattle.source.specs.Brackets.{Open, Matched, sound, faulty, close, bracket, brackets}
use Rattle.source.specs.Answer.{wrote, refused, rows_of, short, shallow, within_limits}
use Rattle.source.specs.Answer.{matched_answer, answer}
use Rattle.source.specs.Division.{accepted}
use Rattle.source.specs.Written.{IsTokenList}
use Rattle.source.proofs.Rights.{fits, all_fit, division_fits}
use Rattle.source.proofs.Division.{divided_always}

never : {A : Type 0} → ◌≡◌ {A = ℕ} 0 1 → A
never e = absurd (omega arith)

never_sound : {A : Type 0} {offset : ℕ} → faulty offset ≡ sound → A
never_sound e = never (cc)

-- ## Rows nest that fit, are within the limits, and have their groups closed

abbrev delimiters : List Open → List ℕ
delimiters [] = []
delimiters (o ∷ os) = o.delimiter ∷ delimiters os

-- the groups that are open behind a token that opens one
abbrev inside : Token → List Open → List Open
inside t os = record { delimiter = first t.row.text; offset = t.offset } ∷ os

-- a token before others, with d groups open
module _ (t : Token) (l : Lexed) (d : ℕ)
    (ih : (os : List Open) (d : ℕ) → d ≡ length (delimiters os) → brackets os l ≡ sound
    → shallow d (rows_of l) ≡ true → nested false (delimiters os) (rows_of l) ≡ true) where
  close_nests : (os : List Open) → d ≡ length (delimiters os) → close t os (λ ps. brackets ps l) ≡ sound
      → shallow (d - 1) (rows_of l) ≡ true
      → (closed_by (delimiters os) (first t.row.text) && nested false (enclosing (delimiters os)) (rows_of l)) ≡ true
  close_nests [] n e f = never_sound e
  close_nests (o ∷ os) n e f = go (eqb (closer o.delimiter) (first t.row.text)) e
    where
      go : (b : Bool) → cond b (brackets os l) (faulty t.offset) ≡ sound
          → (b && nested false (delimiters os) (rows_of l)) ≡ true
      go true e = ih os (d - 1) (omega arith) e f
      go false e = never_sound e

  token_nests : (os : List Open) → d ≡ length (delimiters os) → bracket t os (λ ps. brackets ps l) ≡ sound
      → shallow d (t.row ∷ rows_of l) ≡ true → right false t.row ≡ true
      → nested false (delimiters os) (t.row ∷ rows_of l) ≡ true
  token_nests os n e f g = and_both _ _ g (kind (eqb t.row.kind OPEN) (eqb t.row.kind CLOSE) e f)
    where
      kind : (o c : Bool)
          → cond o (brackets (inside t os) l) (cond c (close t os (λ ps. brackets ps l)) (brackets os l)) ≡ sound
          → cond o (ltb d MAX_DEPTH && shallow (d + 1) (rows_of l)) (cond c (shallow (d - 1) (rows_of l))
          (shallow d (rows_of l)))
          ≡ true
          → cond o (ltb (length (delimiters os)) MAX_DEPTH && nested false (delimiters (inside t os)) (rows_of l))
          (cond c
          (closed_by (delimiters os) (first t.row.text) && nested false (enclosing (delimiters os)) (rows_of l))
          (nested false (delimiters os) (rows_of l)))
          ≡ true
      kind true c e f =
          let h = and_parts (ltb d MAX_DEPTH) _ f in
          and_both _ _ (ap (λ (n : ℕ). ltb n MAX_DEPTH) (sym n) ∙ h.0)
          (ih (inside t os) (d + 1) (omega arith) e h.1)
      kind false true e f = close_nests os n e f
      kind false false e f = ih os d n e f

rows_nest : (l : Lexed) (os : List Open) (d : ℕ) → d ≡ length (delimiters os) → brackets os l ≡ sound
    → shallow d (rows_of l) ≡ true → short (rows_of l) ≡ true → all_fit l ≡ true
    → nested false (delimiters os) (rows_of l) ≡ true
rows_nest end [] d n e f g h = refl
rows_nest end (o ∷ os) d n e f g h = never_sound e
rows_nest (stops offset) os d n e f g h = never_sound e
rows_nest (token t l) os d n e f g h =
    let few = and_parts (leb (length t.row.text) MAX_TEXT) _ g in
    let fit = and_parts (fits t.row) _ h in
    let form = and_parts (is_row (form_of t.row.kind t.row.text)) _ fit.0 in
    token_nests t l d (λ os d n e f. rows_nest l os d n e f few.1 fit.1) os n e f
    (and_both _ _ form.0 (and_both _ _ few.0 form.1))

-- ## A text whose groups are closed is accepted

bracket_goes : (t : Token) (os : List Open) (go : List Open → Matched) → bracket t os go ≡ sound
    → (ps : List Open) × (go ps ≡ sound)
bracket_goes t os go = kind (eqb t.row.kind OPEN) (eqb t.row.kind CLOSE)
  where
    closes : (os : List Open) → close t os go ≡ sound → (ps : List Open) × (go ps ≡ sound)
    closes [] e = never_sound e
    closes (o ∷ os) e = by (eqb (closer o.delimiter) (first t.row.text)) e
      where
        by : (b : Bool) → cond b (go os) (faulty t.offset) ≡ sound → (ps : List Open) × (go ps ≡ sound)
        by true e = (os, e)
        by false e = never_sound e

    kind : (o c : Bool) → cond o (go (inside t os)) (cond c (close t os go) (go os)) ≡ sound
        → (ps : List Open) × (go ps ≡ sound)
    kind true c e = (inside t os, e)
    kind false true e = closes os e
    kind false false e = (os, e)

sound_accepted : (l : Lexed) (os : List Open) → brackets os l ≡ sound → (ts : List Token) × (l ≡ accepted ts)
sound_accepted end os e = ([], refl)
sound_accepted (stops offset) os e = never_sound e
sound_accepted (token t l) os e =
    let next = bracket_goes t os (λ ps. brackets ps l) e in
    let rest = sound_accepted l next.0 next.1 in
    (t ∷ rest.0, ap (token t) rest.1)

lex_fits : (s : List ℕ) → brackets [] (lex s) ≡ sound → all_fit (lex s) ≡ true
lex_fits s e =
    let tokens = sound_accepted (lex s) [] e in
    let parts = (divided_always s).sound tokens.0 tokens.1 in
    ap all_fit tokens.1 ∙ ap (λ (ts : List Token). all_fit (accepted ts)) parts.2 ∙ division_fits parts.1 0

-- ## The laws

-- a list is written only where the groups are closed and the limits kept
answer_parts : (n : ℕ) (rs : List Row) (t : List ℕ) (m : Matched) → matched_answer n rs m ≡ wrote t
    → (m ≡ sound) × (within_limits rs ≡ true) × (t ≡ list_of false rs)
answer_parts n rs t (faulty offset) e = never (cc)
answer_parts n rs t sound e = go (within_limits rs) refl (ltb n (length (list_of false rs))) e
  where
    go : (w : Bool) → within_limits rs ≡ w → (x : Bool)
        → cond w (cond x (refused 8 END) (wrote (list_of false rs))) (refused 41 END) ≡ wrote t
        → (sound ≡ sound) × (within_limits rs ≡ true) × (t ≡ list_of false rs)
    go false q x e = never (cc)
    go true q true e = never (cc)
    go true q false e = (refl, q, (cc))

-- `within_limits` by its parts
record Limits (rs : List Row) : Type 0 where
  bytes : length (list_of false rs) ≤ MAX_BYTES
  rows : length rs ≤ MAX_ROWS
  texts : short rs ≡ true
  depth : shallow 0 rs ≡ true

limits : (rs : List Row) → within_limits rs ≡ true → Limits rs
unfolding within_limits
limits rs e =
    let parts = and_parts (leb (length (list_of false rs)) MAX_BYTES && leb (length rs) MAX_ROWS) _ e in
    let sizes = and_parts (leb (length (list_of false rs)) MAX_BYTES) _ parts.0 in
    let each = and_parts (short rs) _ parts.1 in
    record { bytes = leb-true _ _ sizes.0; rows = leb-true _ _ sizes.1; texts = each.0; depth = each.1 }

-- t is written for the text s
pub record Wrote (s t : List ℕ) : Type 0 where
  pub told : t ≡ list_of false (rows_of (lex s))
  pub bytes : length t ≤ MAX_BYTES
  pub rows : length (rows_of (lex s)) ≤ MAX_ROWS
  pub nests : nested false [] (rows_of (lex s)) ≡ true

pub wrote_list : (n : ℕ) (s t : List ℕ) → answer n s ≡ wrote t → Wrote s t
unfolding answer
wrote_list n s t e =
    let parts = answer_parts n (rows_of (lex s)) t (brackets [] (lex s)) e in
    let few = limits (rows_of (lex s)) parts.1 in
    record {
      told = parts.2;
      bytes = omega (arith, few.bytes, ap (length {A = ℕ}) parts.2);
      rows = few.rows;
      nests = rows_nest (lex s) [] 0 refl parts.0 few.depth few.texts (lex_fits s parts.0);
    }

pub token_list_lem : (n : ℕ) (s : List ℕ) → IsTokenList n s
token_list_lem n s = record {
  passes = λ t e. let h = wrote_list n s t e in
      let few : length (list_of false (rows_of (lex s))) ≤ MAX_BYTES =
      omega (arith, h.bytes, ap (length {A = ℕ}) h.told) in
      ap check h.told ∙ nested_passes false (rows_of (lex s)) h.nests few h.rows;
  rows = λ t e. let h = wrote_list n s t e in
      ap (λ (t : List ℕ). rows_at t (first_row t)) h.told ∙ list_rows false (rows_of (lex s)) h.nests;
  names = λ t e. ap marked (wrote_list n s t e).told ∙ list_marked false (rows_of (lex s));
}

-- A text is accepted exactly where a division of it exists, and it has only one.
use mathlib.Core.Path.{◌≡◌, refl, ap, ◌∙◌, sym, subst}
use mathlib.Core.Bool.{Bool, true, false, false≢true}
use mathlib.Core.List.{List, [], ◌∷◌, ◌++◌}
use Prim.Native.Nat.{ℕ, zero, suc, ◌+◌, ◌-◌, ◌≤◌, ◌<◌}
use native.Mathlib.Omega.{arith}
use lib.ListN.{length, take, drop, length-append}
use lib.Seq.{take_at, drop_at}
use Rattle.token_list.specs.Byte.{QUOTE}
use Rattle.token_list.specs.Text.{plain_name}
use Rattle.token_list.specs.Rows.{punct, ident}
use Rattle.source.specs.Piece as pieces
use Rattle.source.specs.Piece.{Piece, piece, fault}
use Rattle.source.specs.Lex.{Token, Lexed, end, token, stops, row_at, doc_rows, found, lex_from, lex}
use Rattle.source.specs.Division.{Number, Literal, Part, bytes_of, Stands, Division, tokens_at, tokens_of, accepted}
use Rattle.source.specs.Division.{Divided}
use Rattle.source.proofs.DivisionWord.{piece_of, Told, told, none}
use Rattle.source.proofs.DivisionPiece.{piece_sound, piece_complete}

-- ## A part has a byte at least

literal_some : {t y : List ℕ} (x : List ℕ) → Literal t y → 0 < length (t ++ x)
literal_some x (Literal.number (Number.based c any h e f g)) = omega arith
literal_some x (Literal.number (Number.decimal first h k e plain)) = omega arith
literal_some x (Literal.character h) = omega arith
literal_some x (Literal.byte h) = omega arith
literal_some x (Literal.string h) = omega arith
literal_some x (Literal.byte_string h) = omega arith

stands_some : {p : Part} {r : List ℕ} → Stands p r → 0 < length (bytes_of p)
stands_some (Stands.whitespace e h) = omega arith
stands_some (Stands.line e h) = omega arith
stands_some (Stands.block e h) = omega arith
stands_some (Stands.doc_line e each ended) = omega arith
stands_some (Stands.name {p} h e) = go p h.form
  where
    go : (p : List ℕ) → plain_name p ≡ true → 0 < length p
    go [] e = absurd (false≢true e)
    go (b ∷ p) e = omega arith
stands_some (Stands.raw h e) = omega arith
stands_some (Stands.after_quote h e) = omega arith
stands_some (Stands.literal {suffix = x} h k) = literal_some x h
stands_some (Stands.opener e) = omega arith
stands_some (Stands.closer e) = omega arith
stands_some (Stands.mark e f g) = omega arith

-- ## The tokens of a part, and what is behind it

abbrev written : List Token → Lexed → Lexed
written [] l = l
written (t ∷ ts) l = token t (written ts l)

written-accepted : (ts us : List Token) → written ts (accepted us) ≡ accepted (ts ++ us)
written-accepted [] us = refl
written-accepted (t ∷ ts) us = ap (token t) (written-accepted ts us)

found_tokens : (at : ℕ) (p : Part) (r : List ℕ) (go : ℕ → Lexed)
    → found at (bytes_of p ++ r) (piece_of p) go ≡ written (tokens_at at p) (go (length (bytes_of p)))
found_tokens at (Part.gap p) r go = refl
found_tokens at (Part.row k p) r go =
    ap (λ (t : List ℕ). token (row_at k at t) (go (length p))) (take_at p r (length p) refl)
found_tokens at (Part.lifetime p) r go =
    let n : suc (length p) - 1 ≡ length p = omega arith in
    let name = ap (λ (n : ℕ). take n (p ++ r)) n ∙ take_at p r (length p) refl in
    λ i. token (record { row = punct QUOTE; offset = at; length = 1 })
    (token (record { row = ident (name i); offset = at + 1; length = n i }) (go (suc (length p))))
found_tokens at (Part.doc p) r go =
    let n : suc (suc (suc (length p))) - 3 ≡ length p = omega arith in
    let line = ap (λ (n : ℕ). take n (p ++ r)) n ∙ take_at p r (length p) refl in
    ap (λ (t : List ℕ). doc_rows at (suc (suc (suc (length p)))) t (go (suc (suc (suc (length p)))))) line

lex_skips : (a s : List ℕ) (at : ℕ) → lex_from at (length a) (a ++ s) ≡ lex_from (at + length a) 0 s
lex_skips [] s at = let n : at ≡ at + 0 = omega arith in ap (λ (n : ℕ). lex_from n 0 s) n
lex_skips (b ∷ a) s at =
    let n : at + 1 + length a ≡ at + suc (length a) = omega arith in
    lex_skips a s (at + 1) ∙ ap (λ (n : ℕ). lex_from n 0 s) n

lex-part : {p : Part} {r : List ℕ} (at : ℕ) → Stands p r
    → lex_from at 0 (bytes_of p ++ r) ≡ written (tokens_at at p) (lex_from (at + length (bytes_of p)) 0 r)
lex-part {p} {r} at h = go (bytes_of p) refl
  where
    go : (t : List ℕ) → bytes_of p ≡ t
        → lex_from at 0 (t ++ r) ≡ written (tokens_at at p) (lex_from (at + length t) 0 r)
    go [] e = absurd (omega (arith, stands_some h, ap (length {A = ℕ}) e))
    go (b ∷ a) e =
        let rest : ℕ → Lexed = λ n. lex_from (at + 1) (n - 1) (a ++ r) in
        let one : suc (length a) - 1 ≡ length a = omega arith in
        let place : at + 1 + length a ≡ at + suc (length a) = omega arith in
        ap (λ (x : Piece). found at (b ∷ a ++ r) x rest)
        (ap (λ (t : List ℕ). piece (t ++ r)) (sym e) ∙ piece_complete h)
        ∙ subst (λ (t : List ℕ). found at (t ++ r) (piece_of p) rest ≡ written (tokens_at at p) (rest (length t))) e
        (found_tokens at p r rest)
        ∙ ap (written (tokens_at at p)) (ap (λ (n : ℕ). lex_from (at + 1) n (a ++ r)) one ∙ lex_skips a r (at + 1)
        ∙ ap (λ (n : ℕ). lex_from n 0 r) place)

-- ## A division is the reading's

complete_from : {s : List ℕ} {ps : List Part} → Division s ps → (at : ℕ) → lex_from at 0 s ≡ accepted (tokens_of at ps)
complete_from Division.none at = refl
complete_from (Division.more {p} {ps = ps} h d) at =
    let next = at + length (bytes_of p) in
    lex-part at h ∙ ap (written (tokens_at at p)) (complete_from d next)
    ∙ written-accepted (tokens_at at p) (tokens_of next ps)

-- ## The reading is a division's

abbrev stopping : Lexed → Bool
stopping end = false
stopping (token t l) = stopping l
stopping (stops at) = true

abbrev listed : Lexed → List Token
listed end = []
listed (token t l) = t ∷ listed l
listed (stops at) = []

listed_again : (ts : List Token) → listed (accepted ts) ≡ ts
listed_again [] = refl
listed_again (t ∷ ts) = ap (λ (us : List Token). t ∷ us) (listed_again ts)

goes_on : (ts : List Token) → stopping (accepted ts) ≡ false
goes_on [] = refl
goes_on (t ∷ ts) = goes_on ts

written_stops : (ts : List Token) (l : Lexed) → stopping (written ts l) ≡ stopping l
written_stops [] l = refl
written_stops (t ∷ ts) l = written_stops ts l

data Outcome (at : ℕ) : List ℕ → Lexed → Type 0 where
  divided : {s : List ℕ} {l : Lexed} (ps : List Part) → Division s ps → l ≡ accepted (tokens_of at ps) → Outcome at s l
  stopped : {s : List ℕ} {l : Lexed} → stopping l ≡ true → Outcome at s l

part_outcome : {p : Part} {r : List ℕ} {l : Lexed} (at : ℕ) → Stands p r → Outcome (at + length (bytes_of p)) r l
    → Outcome at (bytes_of p ++ r) (written (tokens_at at p) l)
part_outcome {p} at h (divided ps d e) =
    divided (p ∷ ps) (Division.more h d) (ap (written (tokens_at at p)) e
    ∙ written-accepted (tokens_at at p) (tokens_of (at + length (bytes_of p)) ps))
part_outcome {p} {l = l} at h (stopped e) = stopped (written_stops (tokens_at at p) l ∙ e)

told_outcome : {s : List ℕ} {x : Piece} (at : ℕ) → Told s x → piece s ≡ x
    → ((r : List ℕ) (at : ℕ) → length r < length s → Outcome at r (lex_from at 0 r)) → Outcome at s (lex_from at 0 s)
told_outcome at (told p r h q) e rest =
    let shorter : length r < length (bytes_of p ++ r) = omega (arith, stands_some h, length-append (bytes_of p) r) in
    subst (Outcome at (bytes_of p ++ r)) (sym (lex-part at h))
    (part_outcome at h (rest r (at + length (bytes_of p)) shorter))
told_outcome {s} at none e rest = go s e
  where
    go : (s : List ℕ) → piece s ≡ fault → Outcome at s (lex_from at 0 s)
    go [] e = divided [] Division.none refl
    go (b ∷ s) e =
        stopped (ap (λ (x : Piece). stopping (found at (b ∷ s) x (λ n. lex_from (at + 1) (n - 1) s))) e)

outcome : (fuel : ℕ) (s : List ℕ) (at : ℕ) → length s ≤ fuel → Outcome at s (lex_from at 0 s)
outcome zero [] at l = divided [] Division.none refl
outcome zero (b ∷ s) at l = absurd (omega arith)
outcome (suc fuel) s at l = told_outcome at (piece_sound s) refl (λ r at m. outcome fuel r at (omega arith))

-- ## Only one

abbrev part_of : Piece → List ℕ → Part
part_of (pieces.gap n) s = Part.gap (take n s)
part_of (pieces.row k n) s = Part.row k (take n s)
part_of (pieces.lifetime n) s = Part.lifetime (drop 1 (take n s))
part_of (pieces.doc n) s = Part.doc (drop 3 (take n s))
part_of fault s = Part.gap []

part_again : (p : Part) (r : List ℕ) → part_of (piece_of p) (bytes_of p ++ r) ≡ p
part_again (Part.gap p) r = ap Part.gap (take_at p r (length p) refl)
part_again (Part.row k p) r = ap (Part.row k) (take_at p r (length p) refl)
part_again (Part.lifetime p) r = ap Part.lifetime (take_at p r (length p) refl)
part_again (Part.doc p) r = ap Part.doc (take_at p r (length p) refl)

part_there : {p : Part} {r : List ℕ} → Stands p r → p ≡ part_of (piece (bytes_of p ++ r)) (bytes_of p ++ r)
part_there {p} {r} h =
    sym (ap (λ (x : Piece). part_of x (bytes_of p ++ r)) (piece_complete h) ∙ part_again p r)

unique_by : {s t : List ℕ} {ps qs : List Part} → Division s ps → Division t qs → s ≡ t → ps ≡ qs
unique_by Division.none Division.none e = refl
unique_by Division.none (Division.more {p} {after = r} h d) e =
    absurd (omega (arith, stands_some h, length-append (bytes_of p) r, ap (length {A = ℕ}) e))
unique_by (Division.more {p} {after = r} h d) Division.none e =
    absurd (omega (arith, stands_some h, length-append (bytes_of p) r, ap (length {A = ℕ}) e))
unique_by (Division.more {p} {after = r} h d) (Division.more {p = q} {after = v} k f) e =
    let same = part_there h ∙ ap (λ (s : List ℕ). part_of (piece s) s) e ∙ sym (part_there k) in
    let rest = sym (drop_at (bytes_of p) r (length (bytes_of p)) refl)
    ∙ (λ i. drop (length (bytes_of (same i))) (e i)) ∙ drop_at (bytes_of q) v (length (bytes_of q)) refl in
    let more = unique_by d f rest in
    λ i. same i ∷ more i

pub divided_always : (s : List ℕ) → Divided s
unfolding lex
divided_always s =
    record {
      sound = λ ts e. go ts e (outcome (length s) s 0 (omega arith));
      complete = λ ps d. complete_from d 0;
      unique = λ ps qs d f. unique_by d f refl;
    }
  where
    go : (ts : List Token) {l : Lexed} → l ≡ accepted ts → Outcome 0 s l
        → (ps : List Part) × Division s ps × (ts ≡ tokens_of 0 ps)
    go ts e (divided ps d q) =
        (ps, d, sym (listed_again ts) ∙ ap listed (sym e ∙ q) ∙ listed_again (tokens_of 0 ps))
    go ts e (stopped q) = absurd (false≢true (sym (goes_on ts) ∙ ap stopping (sym e) ∙ q))

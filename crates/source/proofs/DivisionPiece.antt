-- Pieces: what a text begins with is a part that stands there, and the other way round.
use mathlib.Core.Path.{◌≡◌, refl, ap, ◌∙◌, sym, subst}
use mathlib.Core.Bool.{Bool, true, false, cond, not, ◌&&◌, ◌||◌, false≢true}
use mathlib.Core.List.{List, [], ◌∷◌, ◌++◌, append_assoc}
use Prim.Native.Nat.{ℕ, suc, ◌+◌, ◌<◌}
use native.Mathlib.Omega.{arith}
use lib.Dec.{eqb, leb}
use borrow.Author.Tests.{eqb-true, ne_eqb, leb-true, leb-false, lt-leb, not-true, not-false}
use lib.ListN.{length, get_or}
use Rattle.token_list.specs.Byte.{code, bytes, UNDERSCORE, QUOTE}
use Rattle.token_list.specs.Layout.{LITERAL, OPEN, CLOSE, PUNCT}
use Rattle.token_list.specs.Text.{all, member, digit, name_start, punctuation}
use Rattle.token_list.proofs.Texts.{and_parts, and_fails, chosen, passed_over}
use Rattle.source.specs.Bytes.{SLASH, STAR, BANG, DOUBLE_QUOTE, blank, in_line, in_doc, opens, closes}
use Rattle.source.specs.Taken.{Taken, takes, run}
use Rattle.source.specs.Comment.{outer_line, doc_line, block_comment}
use Rattle.source.specs.Quoted.{character, string}
use Rattle.source.specs.Number.{number}
use Rattle.source.specs.Piece as pieces
use Rattle.source.specs.Piece.{piece, literal, word, prefixed, quote, quoted_or, gap_of, doc_of_lem, slash}
use Rattle.source.specs.Piece.{line_comment, single}
use Rattle.source.specs.Division.{begins, is, Longest, no_doc, LineEnd, Number, Literal, Suffix, Part, bytes_of}
use Rattle.source.specs.Division.{Stands}
use Rattle.source.proofs.Offsets.{and_fails_last}
use Rattle.source.proofs.DivisionCuts as cuts
use Rattle.source.proofs.DivisionCuts.{Cut, cut, before, cut_map, after_takes, begins-first, member_fails}
use Rattle.source.proofs.DivisionCuts.{or_parts, or_none, Ran, ran, run_sound, run_complete}
use Rattle.source.proofs.DivisionQuoted.{char, character_complete, string_sound, string_complete}
use Rattle.source.proofs.DivisionNumber.{number_sound, number_complete}
use Rattle.source.proofs.DivisionComment.{BlockPart, made, comment_sound, comment_complete, doc_test, line-front}
use Rattle.source.proofs.DivisionComment.{DocText, text, ends_no_slash, doc_sound, doc_complete}
use Rattle.source.proofs.DivisionWord.{piece_of, Told, told, none, choose, literal_sound, literal_complete}
use Rattle.source.proofs.DivisionWord.{word_sound, name_complete, raw_complete, quote_sound, lifetime_complete}
use Rattle.source.proofs.DivisionWord.{name-first}

-- ## Comments

line_test : (s : List ℕ)
    → (eqb (get_or s 0 0) BANG || (eqb (get_or s 0 0) SLASH && not (eqb (get_or s 1 0) SLASH)))
    ≡ not (no_doc SLASH (is SLASH) s)
line_test s = doc_test SLASH (is SLASH) refl refl s

doc_told : {s : List ℕ} {t : Taken} → Cut DocText s t → eqb (get_or s 3 0) SLASH ≡ false → Told s (doc_of_lem t)
doc_told cuts.none e = none
doc_told (cut t r (text {p} each end) q) e =
    told (Part.doc p) r (Stands.doc_line (first p e) each end) (ap pieces.doc q)
  where
    first : (p : List ℕ) → eqb (get_or (p ++ r) 0 0) SLASH ≡ false → begins (is SLASH) p ≡ false
    first [] e = refl
    first (b ∷ p) e = e

outer_sound : (s : List ℕ) → (eqb (get_or s 0 0) SLASH && not (eqb (get_or s 1 0) SLASH)) ≡ true
    → Told (SLASH ∷ SLASH ∷ s) (doc_of_lem (doc_line (SLASH ∷ SLASH ∷ s)))
outer_sound [] e = absurd (false≢true e)
outer_sound (c ∷ s) e =
    let both = and_parts (eqb c SLASH) _ e in
    subst (λ (y : ℕ). Told (SLASH ∷ SLASH ∷ y ∷ s) (doc_of_lem (doc_line (SLASH ∷ SLASH ∷ y ∷ s))))
    (sym (eqb-true c SLASH both.0)) (doc_told (doc_sound s) (not-true _ both.1))

line_sound : (s : List ℕ) → Told (SLASH ∷ SLASH ∷ s) (line_comment (SLASH ∷ SLASH ∷ s))
unfolding line_comment outer_line in_line
line_sound s =
    choose (eqb (get_or s 0 0) BANG) (λ e. none)
    (λ e. choose (eqb (get_or s 0 0) SLASH && not (eqb (get_or s 1 0) SLASH)) (outer_sound s)
    (λ f. go (run_sound in_line s) (not-false _ (sym (line_test s) ∙ or_none e f))))
  where
    go : {s : List ℕ} {n : ℕ} → Ran in_line s n → no_doc SLASH (is SLASH) s ≡ true
        → Told (SLASH ∷ SLASH ∷ s) (pieces.gap (1 + (1 + n)))
    go {n = n} (ran a r h q) e =
        let whole : 1 + (1 + n) ≡ suc (suc (length a)) = omega (arith, q) in
        told (Part.gap (SLASH ∷ SLASH ∷ a)) r (Stands.line (sym (line-front h) ∙ e) h) (ap pieces.gap whole)

block_told : {s : List ℕ} {t : Taken} → Cut (λ p r. BlockPart p) s t → Told s (gap_of t)
block_told cuts.none = none
block_told (cut t r (made {p} e h) q) = told (Part.gap (SLASH ∷ STAR ∷ p)) r (Stands.block e h) (ap pieces.gap q)

slash_sound : (s : List ℕ) → Told (SLASH ∷ s) (slash (SLASH ∷ s))
unfolding slash
slash_sound [] = told (Part.row PUNCT (SLASH ∷ [])) [] (Stands.mark refl refl refl) refl
slash_sound (c ∷ s) =
    choose (eqb c SLASH)
    (λ e. subst (λ (y : ℕ). Told (SLASH ∷ y ∷ s) (line_comment (SLASH ∷ y ∷ s))) (sym (eqb-true c SLASH e))
    (line_sound s))
    (λ e. choose (eqb c STAR)
    (λ f. subst (λ (y : ℕ). Told (SLASH ∷ y ∷ s) (gap_of (block_comment (SLASH ∷ y ∷ s)))) (sym (eqb-true c STAR f))
    (block_told (comment_sound s)))
    (λ f. told (Part.row PUNCT (SLASH ∷ [])) (c ∷ s) (Stands.mark refl refl (or_none e f)) refl))

line_complete : {t r : List ℕ} → no_doc SLASH (is SLASH) t ≡ true → Longest in_line t r
    → slash (SLASH ∷ SLASH ∷ t ++ r) ≡ pieces.gap (suc (suc (length t)))
unfolding slash line_comment outer_line in_line
line_complete {t} {r} e h =
    let tests = or_parts (eqb (get_or (t ++ r) 0 0) BANG) _ (line_test (t ++ r) ∙ ap not (line-front h ∙ e)) in
    let whole : 1 + (1 + run in_line (t ++ r)) ≡ suc (suc (length t)) = omega (arith, run_complete h) in
    passed_over _ _ _ tests.0 ∙ passed_over _ _ _ tests.1 ∙ ap pieces.gap whole

outer_complete : (t r : List ℕ) → begins (is SLASH) t ≡ false → all in_doc t ≡ true → LineEnd r
    → slash (SLASH ∷ SLASH ∷ SLASH ∷ t ++ r) ≡ pieces.doc (suc (suc (suc (length t))))
unfolding slash line_comment outer_line
outer_complete t r e each end =
    chosen _ _ _ (ap not (first t e)) ∙ ap doc_of_lem (doc_complete t r each end)
  where
    first : (t : List ℕ) → begins (is SLASH) t ≡ false → eqb (get_or (t ++ r) 0 0) SLASH ≡ false
    first [] e = ends_no_slash end
    first (b ∷ t) e = e

comment_piece : {t : List ℕ} → BlockPart t → (r : List ℕ) → slash (t ++ r) ≡ pieces.gap (length t)
unfolding slash
comment_piece (made e h) r = ap gap_of (comment_complete (made e h) r)

-- ## First bytes

high_no_blank : (b : ℕ) → 32 < b → blank b ≡ false
unfolding blank
high_no_blank b h =
    or_none (and_fails_last (leb 9 b) (lt-leb b 13 (omega arith))) (ne_eqb b 32 (λ e. omega arith))

low_no_name : (b : ℕ) → b < 65 → name_start b ≡ false
low_no_name b h =
    or_none (and_fails _ _ (lt-leb 97 b (omega arith)))
    (or_none (and_fails _ _ (lt-leb 65 b (omega arith))) (ne_eqb b UNDERSCORE (λ e. omega arith)))

name_no_blank : (b : ℕ) → name_start b ≡ true → blank b ≡ false
name_no_blank b e = go (leb 65 b) refl
  where
    go : (t : Bool) → leb 65 b ≡ t → blank b ≡ false
    go true q = high_no_blank b (omega (arith, leb-true 65 b q))
    go false q = absurd (false≢true (sym (low_no_name b (leb-false 65 b q)) ∙ e))

digit_neither : (b : ℕ) → digit b ≡ true → (blank b ≡ false) × (name_start b ≡ false)
digit_neither b e =
    let both = and_parts (leb 48 b) (leb b 57) e in
    let low = leb-true 48 b both.0 in
    let high = leb-true b 57 both.1 in
    (high_no_blank b (omega (arith, low)), low_no_name b (omega (arith, high)))

-- ## Pieces

pub piece_sound : (s : List ℕ) → Told s (piece s)
unfolding piece blank single opens closes
piece_sound [] = none
piece_sound (b ∷ s) =
    choose (blank b)
    (λ e. subst (λ (n : ℕ). Told (b ∷ s) (pieces.gap n)) (sym (chosen (blank b) (1 + run blank s) 0 e))
    (whitespace e (run_sound blank s)))
    (λ no-blank. choose (name_start b) (word_sound (b ∷ s))
    (λ no_name. choose (digit b)
    (λ e. literal_sound (cut_map (number_sound b s e) (λ p r h. Literal.number h)))
    (λ no_digit. choose (eqb b DOUBLE_QUOTE)
    (λ e. literal_sound (cuts.at_byte DOUBLE_QUOTE e
    (before (DOUBLE_QUOTE ∷ []) 1 refl (string_sound false s) (λ p r h. Literal.string h))))
    (λ no-string. choose (eqb b QUOTE)
    (λ e. subst (λ (y : ℕ). Told (y ∷ s) (quote (y ∷ s))) (sym (eqb-true b QUOTE e)) (quote_sound s))
    (λ no-quote. choose (eqb b SLASH)
    (λ e. subst (λ (y : ℕ). Told (y ∷ s) (slash (y ∷ s))) (sym (eqb-true b SLASH e)) (slash_sound s))
    (λ no_slash. choose (opens b) (λ e. told (Part.row OPEN (b ∷ [])) s (Stands.opener e) refl)
    (λ no-opens. choose (closes b) (λ e. told (Part.row CLOSE (b ∷ [])) s (Stands.closer e) refl)
    (λ no-closes. choose (punctuation b)
    (λ e. told (Part.row PUNCT (b ∷ [])) s (Stands.mark e no-quote (and_fails _ _ no_slash)) refl) (λ e. none)))))))))
  where
    whitespace : {s : List ℕ} {n : ℕ} → blank b ≡ true → Ran blank s n → Told (b ∷ s) (pieces.gap (1 + n))
    whitespace {n = n} e (ran a r h q) =
        let whole : 1 + n ≡ suc (length a) = omega (arith, q) in
        told (Part.gap (b ∷ a)) r (Stands.whitespace e h) (ap pieces.gap whole)

-- ## The other way round

number-first : {t y : List ℕ} → Number t y → (x r : List ℕ) → digit (get_or (t ++ x ++ r) 0 0) ≡ true
number-first (Number.based c any h e f g) x r = refl
number-first (Number.decimal first h k e plain) x r = first

literal-piece : {t : List ℕ} (x r : List ℕ) → Literal t (x ++ r) → Suffix x r
    → piece (t ++ x ++ r) ≡ pieces.row LITERAL (length (t ++ x))
unfolding piece blank word prefixed quote
literal-piece {t} x r (Literal.number n) k =
    let first = number-first n x r in
    let neither = digit_neither (get_or (t ++ x ++ r) 0 0) first in
    passed_over (blank (get_or (t ++ x ++ r) 0 0)) _ _ neither.0
    ∙ passed_over (name_start (get_or (t ++ x ++ r) 0 0)) _ _ neither.1 ∙ chosen _ _ _ first
    ∙ literal_complete t x r (ap number (append_assoc t x r) ∙ number_complete n) k
literal-piece x r (Literal.character {u} h) k =
    let c = u ++ QUOTE ∷ [] in
    let whole : 1 + length (u ++ QUOTE ∷ []) ≡ suc (length (u ++ QUOTE ∷ [])) = omega arith in
    ap (λ (t : Taken). quoted_or t (QUOTE ∷ c ++ x ++ r))
    (ap (character false) (append_assoc c x r) ∙ character_complete false (char h) (x ++ r))
    ∙ literal_complete (QUOTE ∷ c) x r (ap takes whole) k
literal-piece x r (Literal.byte {u} h) k =
    let c = u ++ QUOTE ∷ [] in
    literal_complete (code "b" ∷ QUOTE ∷ c) x r (after_takes 2 (length c) (suc (suc (length c)))
    (ap (character true) (append_assoc c x r) ∙ character_complete true (char h) (x ++ r)) (omega arith)) k
literal-piece x r (Literal.string {p = t} h) k =
    literal_complete (DOUBLE_QUOTE ∷ t) x r (after_takes 1 (length t) (suc (length t))
    (ap (string false 0) (append_assoc t x r) ∙ string_complete false h (x ++ r)) (omega arith)) k
literal-piece x r (Literal.byte_string {p = t} h) k =
    literal_complete (code "b" ∷ DOUBLE_QUOTE ∷ t) x r (after_takes 2 (length t) (suc (suc (length t)))
    (ap (string true 0) (append_assoc t x r) ∙ string_complete true h (x ++ r)) (omega arith)) k

-- bytes that begin nothing of several
abbrev longer : ℕ → Bool
longer b = blank b || (name_start b || (digit b || eqb b DOUBLE_QUOTE))

one_byte : (b : ℕ) (r bs : List ℕ) → member b bs ≡ true → all (λ x. not (longer x)) bs ≡ true
    → piece (b ∷ r) ≡ cond (eqb b QUOTE) (quote (b ∷ r)) (cond (eqb b SLASH) (slash (b ∷ r)) (single b))
unfolding piece
one_byte b r bs e f =
    let first = or_parts (blank b) _ (member_fails longer b bs e f) in
    let second = or_parts (name_start b) _ first.1 in
    let third = or_parts (digit b) _ second.1 in
    passed_over _ _ _ first.0 ∙ passed_over _ _ _ second.0 ∙ passed_over _ _ _ third.0
    ∙ passed_over _ _ _ third.1

-- those of `punctuation`
abbrev marks : List ℕ
marks = bytes "=<>!~+-*/%^&|@.,;:#$?'"

mark_complete : (b : ℕ) (r : List ℕ) → punctuation b ≡ true
    → (eqb b SLASH && begins (λ c. eqb c SLASH || eqb c STAR) r) ≡ false
    → cond (eqb b SLASH) (slash (b ∷ r)) (single b) ≡ pieces.row PUNCT 1
unfolding slash single opens closes
mark_complete b r e f = go (eqb b SLASH) f
  where
    go : (t : Bool) → (t && begins (λ c. eqb c SLASH || eqb c STAR) r) ≡ false
        → cond t (slash (b ∷ r)) (single b) ≡ pieces.row PUNCT 1
    go true f =
        let tests = or_parts (eqb (get_or r 0 0) SLASH) _ (begins-first (λ c. eqb c SLASH || eqb c STAR) refl r ∙ f) in
        passed_over _ _ _ tests.0 ∙ passed_over _ _ _ tests.1
    go false f =
        passed_over _ _ _ (member_fails opens b marks e refl)
        ∙ passed_over _ _ _ (member_fails closes b marks e refl) ∙ chosen _ _ _ e

pub piece_complete : {t : Part} {r : List ℕ} → Stands t r → piece (bytes_of t ++ r) ≡ piece_of t
unfolding piece blank single opens closes
piece_complete (Stands.whitespace {b} {p} {after = r} e h) =
    let rest = run_complete h in
    let whole : 1 + run blank (p ++ r) ≡ suc (length p) = omega (arith, rest) in
    chosen _ _ _ e ∙ ap pieces.gap (chosen (blank b) (1 + run blank (p ++ r)) 0 e ∙ whole)
piece_complete (Stands.line e h) = line_complete e h
piece_complete (Stands.block {after = r} e h) = comment_piece (made e h) r
piece_complete (Stands.doc_line {p} {after = r} e each end) = outer_complete p r e each end
piece_complete (Stands.name {p} {after = r} h e) =
    let first = name-first p h in
    passed_over (blank (get_or (p ++ r) 0 0)) _ _ (name_no_blank (get_or (p ++ r) 0 0) first) ∙ chosen _ _ _ first
    ∙ name_complete h e
piece_complete (Stands.raw {p} {after = r} h e) = raw_complete p r h e
piece_complete (Stands.after_quote {p} {after = r} h e) = lifetime_complete p r h e
piece_complete (Stands.literal {suffix = x} {after = r} h k) = literal-piece x r h k
piece_complete (Stands.opener {b} {after = r} e) =
    one_byte b r (bytes "([{") e refl
    ∙ passed_over _ _ _ (member_fails (is QUOTE) b (bytes "([{") e refl)
    ∙ passed_over _ _ _ (member_fails (is SLASH) b (bytes "([{") e refl) ∙ chosen _ _ _ e
piece_complete (Stands.closer {b} {after = r} e) =
    one_byte b r (bytes ")]}") e refl
    ∙ passed_over _ _ _ (member_fails (is QUOTE) b (bytes ")]}") e refl)
    ∙ passed_over _ _ _ (member_fails (is SLASH) b (bytes ")]}") e refl)
    ∙ passed_over _ _ _ (member_fails opens b (bytes ")]}") e refl) ∙ chosen _ _ _ e
piece_complete (Stands.mark {b} {after = r} e f g) =
    one_byte b r marks e refl ∙ passed_over _ _ _ f ∙ mark_complete b r e g

-- Names, suffixes, literals, words and lifetimes: what the definitions take is what the productions say.
use mathlib.Core.Path.{◌≡◌, refl, ap, ◌∙◌, sym, subst}
use mathlib.Core.Bool.{Bool, true, false, cond, not, ◌&&◌, false≢true}
use mathlib.Core.List.{List, [], ◌∷◌, ◌++◌, append_assoc}
use Prim.Native.Nat.{ℕ, suc, ◌+◌}
use native.Mathlib.Omega.{arith}
use lib.Dec.{eqb, eqb-suc-suc, eqb-suc-zero}
use borrow.Author.Tests.{eqb-true, not-true}
use lib.ListN.{length, get_or, take, drop, length-append}
use lib.Seq.{take_at, drop_at}
use Rattle.token_list.specs.Byte.{code, bytes, UNDERSCORE, HASH, QUOTE}
use Rattle.token_list.specs.Layout.{IDENT, LITERAL}
use Rattle.token_list.specs.Text.{all, member, same, name_start, name_part, plain_name, never_raw}
use Rattle.token_list.proofs.Texts.{and_parts, and_both, chosen, passed_over, same_path, or_holds}
use Rattle.source.specs.Bytes.{DOUBLE_QUOTE, BACKSLASH}
use Rattle.source.specs.Taken.{Taken, takes, after, run}
use Rattle.source.specs.Quoted.{character, string}
use Rattle.source.specs.Piece.{Piece, fault, suffix_of, suffix, literal, raw_name, prefixed, word_of, word}
use Rattle.source.specs.Piece.{lifetime_of, quoted_or, quote}
use Rattle.source.specs.Piece as piece
use Rattle.source.specs.Division.{begins, is, Literal, Name, Suffix, Part, bytes_of, Stands}
use Rattle.source.proofs.DivisionCuts.{Cut, cut, begins-first, first_behind, before, Ran, ran, run_sound}
use Rattle.source.proofs.DivisionCuts.{run_complete, apart, at_second}
use Rattle.source.proofs.DivisionCuts as cuts
use Rattle.source.proofs.DivisionQuoted.{Character, char, character_sound, character-none}
use Rattle.source.proofs.DivisionQuoted.{string_sound}

-- ## What a text begins with, as a part

abbrev pub piece_of : Part → Piece
piece_of (Part.gap p) = piece.gap (length p)
piece_of (Part.row k p) = piece.row k (length p)
piece_of (Part.lifetime p) = piece.lifetime (suc (length p))
piece_of (Part.doc p) = piece.doc (suc (suc (suc (length p))))

pub data Told : List ℕ → Piece → Type 0 where
  told : (p : Part) (r : List ℕ) {x : Piece} → Stands p r → x ≡ piece_of p → Told (bytes_of p ++ r) x
  none : {s : List ℕ} → Told s fault

pub choose : {s : List ℕ} {t u : Piece} (b : Bool) → (b ≡ true → Told s t) → (b ≡ false → Told s u)
    → Told s (cond b t u)
choose true f k = f refl
choose false f k = k refl

-- ## Names

data Named : List ℕ → ℕ → Type 0 where
  named : (p r : List ℕ) {n : ℕ} → Name p r → n ≡ length p → Named (p ++ r) n

name_sound : (s : List ℕ) → name_start (get_or s 0 0) ≡ true → Named s (run name_part s)
name_sound [] e = absurd (false≢true e)
name_sound (b ∷ s) e =
    subst (λ (n : ℕ). Named (b ∷ s) n) (sym (chosen (name_part b) (1 + run name_part s) 0 (or_holds _ _ e)))
    (go (run_sound name_part s))
  where
    go : {s : List ℕ} {n : ℕ} → Ran name_part s n → Named (b ∷ s) (1 + n)
    go {n = n} (ran a r h q) =
        let whole : 1 + n ≡ suc (length a) = omega (arith, q) in
        named (b ∷ a) r (record { form = and_both _ _ e h.each; ended = h.ended }) whole

name-run : {p r : List ℕ} → Name p r → run name_part (p ++ r) ≡ length p
name-run {p} {r} h = run_complete {p = name_part} {a = p} {r = r} (record { each = go p h.form; ended = h.ended })
  where
    go : (p : List ℕ) → plain_name p ≡ true → all name_part p ≡ true
    go [] e = absurd (false≢true e)
    go (b ∷ p) e = let both = and_parts (name_start b) _ e in and_both _ _ (or_holds _ _ both.0) both.1

pub name-first : (p : List ℕ) {r : List ℕ} → Name p r → name_start (get_or (p ++ r) 0 0) ≡ true
name-first [] h = absurd (false≢true h.form)
name-first (b ∷ p) h = (and_parts (name_start b) _ h.form).0

-- ## Suffixes

data Suffixed : List ℕ → ℕ → Type 0 where
  suffixed : (p r : List ℕ) {n : ℕ} → Suffix p r → n ≡ length p → Suffixed (p ++ r) n

-- a lone `_`, by the name's length
lone : (b : ℕ) (p : List ℕ) → same (b ∷ p) (bytes "_") ≡ (eqb b UNDERSCORE && eqb (suc (length p)) 1)
lone b [] = refl
lone b (c ∷ p) = ap (λ (x : Bool). eqb b UNDERSCORE && x)
    (sym (eqb-suc-suc (suc (length p)) 0 ∙ eqb-suc-zero (length p)))

suffix_sound : (s : List ℕ) → Suffixed s (suffix s)
unfolding suffix
suffix_sound s = go (name_start (get_or s 0 0)) refl
  where
    lone_of : (p r : List ℕ) → Name p r → same p (bytes "_") ≡ true → Suffixed (p ++ r) 0
    lone_of p r h e =
        subst (λ (p : List ℕ). Suffixed (p ++ r) 0) (sym (same_path p (bytes "_") e))
        (suffixed [] (UNDERSCORE ∷ r) (Suffix.lone h.ended) refl)

    of_name : {s : List ℕ} {n : ℕ} → Named s n → Suffixed s (suffix_of (get_or s 0 0) n)
    of_name (named [] r h q) = absurd (false≢true h.form)
    of_name (named (b ∷ p) r {n = n} h q) = by (eqb b UNDERSCORE && eqb n 1) (lone b p ∙ ap test (sym q))
      where
        test : ℕ → Bool
        test n = eqb b UNDERSCORE && eqb n 1

        by : (t : Bool) → same (b ∷ p) (bytes "_") ≡ t → Suffixed (b ∷ p ++ r) (cond t 0 n)
        by true e = lone_of (b ∷ p) r h e
        by false e = suffixed (b ∷ p) r (Suffix.some h e) q

    go : (t : Bool) → name_start (get_or s 0 0) ≡ t → Suffixed s (cond t (suffix_of (get_or s 0 0) (run name_part s)) 0)
    go true e = of_name (name_sound s e)
    go false e = suffixed [] s (Suffix.none (sym (begins-first name_start refl s) ∙ e)) refl

suffix_complete : {p r : List ℕ} → Suffix p r → suffix (p ++ r) ≡ length p
unfolding suffix
suffix_complete (Suffix.none {after = r} e) = passed_over _ _ _ (begins-first name_start refl r ∙ e)
suffix_complete (Suffix.lone {after = r} e) =
    let alone = run_complete {a = []} {r = r} (record { each = refl; ended = e }) in
    ap (λ (n : ℕ). suffix_of UNDERSCORE (1 + n)) alone
suffix_complete (Suffix.some {p} {after = r} h e) = go p h e
  where
    go : (p : List ℕ) → Name p r → same p (bytes "_") ≡ false → suffix (p ++ r) ≡ length p
    go [] h e = absurd (false≢true h.form)
    go (b ∷ p) h e =
        chosen _ _ _ (name-first (b ∷ p) h)
        ∙ ap (suffix_of b) (name-run h) ∙ passed_over _ _ _ (sym (lone b p) ∙ e)

-- ## Literals

pub literal_sound : {s : List ℕ} {t : Taken} → Cut Literal s t → Told s (literal s t)
literal_sound cuts.none = none
literal_sound (cut p r {n = n} h q) =
    subst (λ (t : List ℕ). Told (p ++ r) (piece.row LITERAL (n + suffix t))) (sym (drop_at p r n (sym q)))
    (go h (suffix_sound r))
  where
    go : {r : List ℕ} {m : ℕ} → Literal p r → Suffixed r m → Told (p ++ r) (piece.row LITERAL (n + m))
    go {m = m} h (suffixed x r k e) =
        let whole : n + m ≡ length (p ++ x) = omega (arith, q, e, length-append p x) in
        subst (λ (t : List ℕ). Told t (piece.row LITERAL (n + m))) (append_assoc p x r)
        (told (Part.row LITERAL (p ++ x)) r (Stands.literal h k) (ap (piece.row LITERAL) whole))

pub literal_complete : {t : Taken} (p x r : List ℕ) → t ≡ takes (length p) → Suffix x r
    → literal (p ++ x ++ r) t ≡ piece.row LITERAL (length (p ++ x))
literal_complete p x r e h =
    let rest = ap (drop (length p)) (append_assoc p x r) ∙ drop_at p (x ++ r) (length p) refl in
    let behind = ap suffix rest ∙ suffix_complete h in
    let whole : length p + suffix (drop (length p) (p ++ x ++ r)) ≡ length (p ++ x) =
    omega (arith, behind, length-append p x) in
    ap (literal (p ++ x ++ r)) e ∙ ap (piece.row LITERAL) whole

-- ## Words

-- behind a `b`
byte_sound : (r : List ℕ)
    → Told (code "b" ∷ r) (cond (eqb (get_or r 0 0) DOUBLE_QUOTE)
    (literal (code "b" ∷ r) (after 2 (string true 0 (drop 1 r))))
    (cond (eqb (get_or r 0 0) QUOTE) (literal (code "b" ∷ r) (after 2 (character true (drop 1 r)))) fault))
byte_sound [] = none
byte_sound (c ∷ r) =
    choose (eqb c DOUBLE_QUOTE)
    (λ e. literal_sound (at_second DOUBLE_QUOTE e
    (before (code "b" ∷ DOUBLE_QUOTE ∷ []) 2 refl (string_sound true r) (λ p r h. Literal.byte_string h))))
    (λ e. choose (eqb c QUOTE)
    (λ f. literal_sound (at_second QUOTE f
    (before (code "b" ∷ QUOTE ∷ []) 2 refl (character_sound true r) byte_of))) (λ f. none))
  where
    byte_of : (p r : List ℕ) → Character true p → Literal (code "b" ∷ QUOTE ∷ p) r
    byte_of p r (char h) = Literal.byte h

-- behind a `r`
raw_sound : (r : List ℕ) → eqb (get_or r 0 0) HASH ≡ true
    → Told (code "r" ∷ r) (raw_name (run name_part (drop 1 r)) (code "r" ∷ r))
unfolding raw_name
raw_sound [] e = absurd (false≢true e)
raw_sound (c ∷ r) e =
    subst (λ (y : ℕ). Told (code "r" ∷ y ∷ r) (raw_name (run name_part r) (code "r" ∷ y ∷ r))) (sym (eqb-true c HASH e))
    (choose (name_start (get_or r 0 0) && not (never_raw (take (run name_part r) r)))
    (λ f. let both = and_parts (name_start (get_or r 0 0)) _ f in
    go (name_sound r both.0) (not-true (never_raw (take (run name_part r) r)) both.1)) (λ f. none))
  where
    go : {r : List ℕ} {n : ℕ} → Named r n → never_raw (take n r) ≡ false
        → Told (code "r" ∷ HASH ∷ r) (piece.row IDENT (n + 2))
    go {n = n} (named p r h q) e =
        let whole : n + 2 ≡ suc (suc (length p)) = omega (arith, q) in
        told (Part.row IDENT (code "r" ∷ HASH ∷ p)) r
        (Stands.raw h (ap never_raw (sym (take_at p r n (sym q))) ∙ e)) (ap (piece.row IDENT) whole)

prefix_sound : (p r : List ℕ) → Told (p ++ r) (prefixed (length p) (p ++ r))
unfolding prefixed
prefix_sound p r =
    choose (same (take (length p) (p ++ r)) (bytes "b"))
    (λ e. subst (λ (p : List ℕ). Told (p ++ r) (cond (eqb (get_or (p ++ r) 1 0) DOUBLE_QUOTE)
    (literal (p ++ r) (after 2 (string true 0 (drop 2 (p ++ r)))))
    (cond (eqb (get_or (p ++ r) 1 0) QUOTE) (literal (p ++ r) (after 2 (character true (drop 2 (p ++ r))))) fault)))
    (sym (name_of (bytes "b") e)) (byte_sound r))
    (λ e. choose (same (take (length p) (p ++ r)) (bytes "r") && eqb (get_or (p ++ r) 1 0) HASH)
    (λ f. let both = and_parts (same (take (length p) (p ++ r)) (bytes "r")) _ f in
    let path = name_of (bytes "r") both.0 in
    subst (λ (p : List ℕ). Told (p ++ r) (raw_name (run name_part (drop 2 (p ++ r))) (p ++ r))) (sym path)
    (raw_sound r (ap (λ (p : List ℕ). eqb (get_or (p ++ r) 1 0) HASH) (sym path) ∙ both.1))) (λ f. none))
  where
    name_of : (t : List ℕ) → same (take (length p) (p ++ r)) t ≡ true → p ≡ t
    name_of t e = same_path p t (ap (λ (x : List ℕ). same x t) (sym (take_at p r (length p) refl)) ∙ e)

pub word_sound : (s : List ℕ) → name_start (get_or s 0 0) ≡ true → Told s (word s)
unfolding word
word_sound s e = go (name_sound s e)
  where
    reserved : ℕ → Bool
    reserved b = member b (bytes "\"'#")

    there : (p r : List ℕ) → Name p r → Told (p ++ r) (word_of (length p) (p ++ r))
    there p r h =
        choose (reserved (get_or (p ++ r) (length p) 0)) (λ e. prefix_sound p r)
        (λ e. told (Part.row IDENT p) r (Stands.name h (sym (begins-first reserved refl r)
        ∙ ap reserved (sym (first_behind p r)) ∙ e)) refl)

    go : {s : List ℕ} {n : ℕ} → Named s n → Told s (word_of n s)
    go (named p r h q) = subst (λ (n : ℕ). Told (p ++ r) (word_of n (p ++ r))) (sym q) (there p r h)

pub name_complete : {p r : List ℕ} → Name p r → begins (λ b. member b (bytes "\"'#")) r ≡ false
    → word (p ++ r) ≡ piece.row IDENT (length p)
unfolding word
name_complete {p} {r} h e =
    let reserved : ℕ → Bool = λ b. member b (bytes "\"'#") in
    ap (λ (n : ℕ). word_of n (p ++ r)) (name-run h)
    ∙ passed_over _ _ _ (ap reserved (first_behind p r) ∙ begins-first reserved refl r ∙ e)

pub raw_complete : (p r : List ℕ) → Name p r → never_raw p ≡ false
    → word (code "r" ∷ HASH ∷ p ++ r) ≡ piece.row IDENT (suc (suc (length p)))
unfolding word prefixed raw_name
raw_complete p r h e =
    let n = name-run h in
    let free = ap never_raw (take_at p r (run name_part (p ++ r)) (sym n)) ∙ e in
    let whole : run name_part (p ++ r) + 2 ≡ suc (suc (length p)) = omega (arith, n) in
    chosen _ _ _ (and_both _ _ (name-first p h) (ap not free)) ∙ ap (piece.row IDENT) whole

-- ## Lifetimes

pub quote_sound : (s : List ℕ) → Told (QUOTE ∷ s) (quote (QUOTE ∷ s))
unfolding quote lifetime_of
quote_sound s = go (character_sound false s)
  where
    character_of : (p r : List ℕ) → Character false p → Literal (QUOTE ∷ p) r
    character_of p r (char h) = Literal.character h

    name_there : {s : List ℕ} {n : ℕ} → Named s n → eqb (get_or (QUOTE ∷ s) (n + 1) 0) QUOTE ≡ false
        → Told (QUOTE ∷ s) (piece.lifetime (n + 1))
    name_there {n = n} (named p r h q) e =
        let whole : n + 1 ≡ suc (length p) = omega (arith, q) in
        let byte-there = ap (λ (k : ℕ). get_or (QUOTE ∷ p ++ r) k 0) whole ∙ first_behind p r in
        told (Part.lifetime p) r (Stands.after_quote h (sym (begins-first (is QUOTE) refl r)
        ∙ ap (is QUOTE) (sym byte-there) ∙ e)) (ap piece.lifetime whole)

    go : {s : List ℕ} {t : Taken} → Cut (λ p r. Character false p) s t → Told (QUOTE ∷ s) (quoted_or t (QUOTE ∷ s))
    go (cut p r {n = n} h q) =
        let whole : 1 + n ≡ suc (length p) = omega (arith, q) in
        literal_sound (cut (QUOTE ∷ p) r (character_of p r h) whole)
    go {s} cuts.none =
        let last = eqb (get_or (QUOTE ∷ s) (run name_part s + 1) 0) QUOTE in
        choose (name_start (get_or s 0 0) && not last)
        (λ e. let both = and_parts (name_start (get_or s 0 0)) _ e in
        name_there (name_sound s both.0) (not-true last both.1)) (λ e. none)

pub lifetime_complete : (p r : List ℕ) → Name p r → begins (is QUOTE) r ≡ false
    → quote (QUOTE ∷ p ++ r) ≡ piece.lifetime (suc (length p))
unfolding quote lifetime_of
lifetime_complete [] r h e = absurd (false≢true h.form)
lifetime_complete (b ∷ p) r h e =
    let start = name-first (b ∷ p) h in
    let whole : run name_part (b ∷ p ++ r) + 1 ≡ suc (suc (length p)) = omega (arith, name-run h) in
    let byte-there = ap (λ (k : ℕ). get_or (QUOTE ∷ b ∷ p ++ r) k 0) whole ∙ first_behind p r in
    let last = ap (is QUOTE) byte-there ∙ begins-first (is QUOTE) refl r ∙ e in
    ap (λ (t : Taken). quoted_or t (QUOTE ∷ b ∷ p ++ r))
    (character-none false (b ∷ p ++ r) (apart name_start b BACKSLASH start refl) (second p h.form))
    ∙ chosen _ _ _ (and_both _ _ start (ap not last)) ∙ ap piece.lifetime whole
  where
    second : (p : List ℕ) → plain_name (b ∷ p) ≡ true → eqb (get_or (p ++ r) 0 0) QUOTE ≡ false
    second [] f = begins-first (is QUOTE) refl r ∙ e
    second (c ∷ p) f =
        apart name_part c QUOTE (and_parts (name_part c) _ (and_parts (name_start b) _ f).1).0 refl

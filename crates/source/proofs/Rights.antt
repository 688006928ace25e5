-- The rows of parts that stand are of a right form, but for the length of their texts.
use mathlib.Core.Path.{◌≡◌, refl, ap}
use mathlib.Core.Bool.{Bool, true, false, cond, not, ◌&&◌, ◌||◌, beq, false≢true}
use mathlib.Core.List.{List, [], ◌∷◌, ◌++◌}
use Prim.Native.Nat.{ℕ, ◌+◌, ◌-◌, ◌≤◌}
use native.Mathlib.Omega.{arith}
use lib.Dec.{leb, ltb, eqb}
use borrow.Author.Tests.{leb-true, le-leb, ltb-true, not-false}
use lib.ListN.{length}
use Rattle.token_list.specs.Byte.{code, bytes, UNDERSCORE, HASH}
use Rattle.token_list.specs.Layout.{IDENT, LITERAL, PUNCT, OPEN, CLOSE}
use Rattle.token_list.specs.Text.{all, member, between, digit, name_start, name_part, printable, literal_start, opening}
use Rattle.token_list.specs.Text.{closing, plain_name, name, literal, digit_worth}
use Rattle.token_list.specs.Row.{Row, plain, wrong, form_of, first, right_mark, own_mark_lem}
use Rattle.token_list.specs.Row as forms
use Rattle.token_list.specs.Check.{is_row}
use Rattle.token_list.proofs.Texts.{and_parts, and_both, or_holds}
use Rattle.source.specs.Bytes.{DOUBLE_QUOTE, in_doc, in_digits, opens, closes}
use Rattle.source.specs.Lex.{Token, Lexed, end, token, stops}
use Rattle.source.specs.Division.{HexDigits, Escape, Unit, Body, Radix, Fraction, Sign, Exponent, Number, Literal}
use Rattle.source.specs.Division.{Suffix, Part, bytes_of, Stands, Division, tokens_at, tokens_of, accepted}
use Rattle.source.proofs.DivisionCuts.{member_fails}

-- ## Tests

either : {A : Type 0} (a b : Bool) → (a || b) ≡ true → (a ≡ true → A) → (b ≡ true → A) → A
either true b e f g = f refl
either false b e f g = g e

member_holds : (p : ℕ → Bool) (b : ℕ) (xs : List ℕ) → member b xs ≡ true → all (λ x. not (not (p x))) xs ≡ true
    → p b ≡ true
member_holds p b xs e f = not-false (p b) (member_fails (λ x. not (p x)) b xs e f)

all_both : (p : ℕ → Bool) (a b : List ℕ) → all p a ≡ true → all p b ≡ true → all p (a ++ b) ≡ true
all_both p [] b e f = f
all_both p (x ∷ a) b e f = let h = and_parts (p x) _ e in and_both _ _ h.0 (all_both p a b h.1 f)

all_as : (p q : ℕ → Bool) → ((b : ℕ) → p b ≡ true → q b ≡ true) → (t : List ℕ) → all p t ≡ true → all q t ≡ true
all_as p q f [] e = refl
all_as p q f (b ∷ t) e = let h = and_parts (p b) _ e in and_both _ _ (f b h.0) (all_as p q f t h.1)

-- ## Bytes that are printable

shown : (lo hi b : ℕ) → 32 ≤ lo → hi ≤ 126 → between lo hi b ≡ true → printable b ≡ true
shown lo hi b l h e =
    let p = and_parts (leb lo b) _ e in
    let low = leb-true lo b p.0 in
    let high = leb-true b hi p.1 in
    and_both _ _ (le-leb 32 b (omega (arith, low))) (le-leb b 126 (omega (arith, high)))

digit-shown : (b : ℕ) → digit b ≡ true → printable b ≡ true
digit-shown b e = shown 48 57 b (omega arith) (omega arith) e

line-shown : (b : ℕ) → eqb b UNDERSCORE ≡ true → printable b ≡ true
line-shown b e = member_holds printable b (UNDERSCORE ∷ []) (or_holds _ _ e) refl

start-shown : (b : ℕ) → name_start b ≡ true → printable b ≡ true
start-shown b e =
    either (between 97 122 b) _ e (shown 97 122 b (omega arith) (omega arith))
    (λ f. either (between 65 90 b) _ f (shown 65 90 b (omega arith) (omega arith)) (line-shown b))

part-shown : (b : ℕ) → name_part b ≡ true → printable b ≡ true
part-shown b e = either (name_start b) _ e (start-shown b) (digit-shown b)

name-shown : (t : List ℕ) → plain_name t ≡ true → all printable t ≡ true
name-shown [] e = refl
name-shown (b ∷ t) e =
    let h = and_parts (name_start b) _ e in
    and_both _ _ (start-shown b h.0) (all_as name_part printable part-shown t h.1)

doc_shown : (b : ℕ) → in_doc b ≡ true → printable b ≡ true
unfolding in_doc
doc_shown b e = (and_parts (printable b) _ e).0

worth-shown : (radix b : ℕ) → radix ≤ 16 → ltb (digit_worth b) radix ≡ true → printable b ≡ true
unfolding digit_worth
worth-shown radix b few = go (between 48 57 b) (between 97 102 b) (between 65 70 b) refl refl refl
  where
    go : (x y z : Bool) → between 48 57 b ≡ x → between 97 102 b ≡ y → between 65 70 b ≡ z
        → ltb (cond x (b - 48) (cond y (b - 97 + 10) (cond z (b - 65 + 10) 16))) radix ≡ true → printable b ≡ true
    go true y z e f g h = shown 48 57 b (omega arith) (omega arith) e
    go false true z e f g h = shown 97 102 b (omega arith) (omega arith) f
    go false false true e f g h = shown 65 70 b (omega arith) (omega arith) g
    go false false false e f g h = absurd (omega (arith, ltb-true 16 radix h))

digits-shown : (radix : ℕ) → radix ≤ 16 → (t : List ℕ) → all (in_digits radix) t ≡ true → all printable t ≡ true
unfolding in_digits
digits-shown radix few =
    all_as (in_digits radix) printable
    (λ b e. either (eqb b UNDERSCORE) _ e (line-shown b) (worth-shown radix b few))

-- ## Quotes

hex_shown : {ds p : List ℕ} → HexDigits ds p → all printable p ≡ true
hex_shown HexDigits.close = refl
hex_shown (HexDigits.line h) = hex_shown h
hex_shown (HexDigits.more {d} e h) = and_both _ _ (worth-shown 16 d (omega arith) e) (hex_shown h)

escape-shown : {p : List ℕ} (byte : Bool) → Escape byte p → all printable p ≡ true
escape-shown byte (Escape.plain {b} e) = and_both _ _ (member_holds printable b (bytes "nrt\\0'\"") e refl) refl
escape-shown byte (Escape.hex {h} {l} e f) =
    and_both _ _ (first byte e) (and_both _ _ (worth-shown 16 l (omega arith) f) refl)
  where
    first : (byte : Bool) → ltb (digit_worth h) (cond byte 16 8) ≡ true → printable h ≡ true
    first true e = worth-shown 16 h (omega arith) e
    first false e = worth-shown 8 h (omega arith) e
escape-shown byte (Escape.unicode {d} a e h f g) = and_both _ _ (worth-shown 16 d (omega arith) e) (hex_shown h)

unit-shown : {p : List ℕ} (byte : Bool) (quote : ℕ) → Unit byte quote p → all printable p ≡ true
unit-shown byte quote (Unit.plain e f g) = and_both _ _ e refl
unit-shown byte quote (Unit.escape h) = escape-shown byte h

body_shown : (byte : Bool) {p : List ℕ} → Body byte p → all printable p ≡ true
body_shown byte Body.close = refl
body_shown byte (Body.more {u} {p} h k) =
    all_both printable u p (unit-shown byte DOUBLE_QUOTE h) (body_shown byte k)

-- ## Numbers

radix-shown : {radix c : ℕ} (t : List ℕ) → Radix radix c → all (in_digits radix) t ≡ true
    → all printable (c ∷ t) ≡ true
radix-shown t Radix.binary e = digits-shown 2 (omega arith) t e
radix-shown t Radix.octal e = digits-shown 8 (omega arith) t e
radix-shown t Radix.hex e = digits-shown 16 (omega arith) t e

fraction-shown : {p after : List ℕ} → Fraction p after → all printable p ≡ true
fraction-shown (Fraction.none e) = refl
fraction-shown (Fraction.some {ds} e h) = digits-shown 10 (omega arith) ds h.each

sign-shown : {p : List ℕ} → Sign p → all printable p ≡ true
sign-shown Sign.none = refl
sign-shown (Sign.some {b} e) = and_both _ _ (member_holds printable b (bytes "+-") e refl) refl

exponent-shown : {p after : List ℕ} → Exponent p after → all printable p ≡ true
exponent-shown (Exponent.none e) = refl
exponent-shown (Exponent.some {e} {sign} {ds} start h any l) =
    and_both _ _ first (all_both printable sign ds (sign-shown h) (digits-shown 10 (omega arith) ds l.each))
  where
    first : printable e ≡ true
    first =
        either (eqb e (code "e")) _ start (λ q. member_holds printable e (bytes "e") (or_holds _ _ q) refl)
        (λ q. member_holds printable e (bytes "E") (or_holds _ _ q) refl)

-- ## Literals

number-right : {p after : List ℕ} → Number p after → literal p ≡ true
number-right (Number.based {ds = ds} c any h e f g) = radix-shown ds c h.each
number-right (Number.decimal {d} {ds} {fraction} {exponent} start h k e other) =
    and_both _ _ (or_holds _ _ start) (and_both _ _ (digit-shown d start)
    (all_both printable ds (fraction ++ exponent) (digits-shown 10 (omega arith) ds h.each)
    (all_both printable fraction exponent (fraction-shown k) (exponent-shown e))))

literal-right : {p after : List ℕ} → Literal p after → literal p ≡ true
literal-right (Literal.number h) = number-right h
literal-right (Literal.character {u} h) = all_both printable u (bytes "'") (unit-shown false _ h) refl
literal-right (Literal.byte {u} h) = all_both printable u (bytes "'") (unit-shown true _ h) refl
literal-right (Literal.string h) = body_shown false h
literal-right (Literal.byte_string h) = body_shown true h

suffix-shown : {p after : List ℕ} → Suffix p after → all printable p ≡ true
suffix-shown (Suffix.none e) = refl
suffix-shown (Suffix.lone e) = refl
suffix-shown (Suffix.some {p} h e) = name-shown p h.form

with_suffix : (t x : List ℕ) → literal t ≡ true → all printable x ≡ true → literal (t ++ x) ≡ true
with_suffix [] x e f = absurd (false≢true e)
with_suffix (b ∷ t) x e f =
    let h = and_parts (literal_start b) _ e in and_both _ _ h.0 (all_both printable (b ∷ t) x h.1 f)

-- ## Rows

-- right, whatever its length
abbrev pub fits : Row → Bool
fits r = is_row (form_of r.kind r.text) && right_mark false r

-- all rows of a text
abbrev pub all_fit : Lexed → Bool
all_fit end = true
all_fit (token t l) = fits t.row && all_fit l
all_fit (stops offset) = true

fit_both : (ts us : List Token) → all_fit (accepted ts) ≡ true → all_fit (accepted us) ≡ true
    → all_fit (accepted (ts ++ us)) ≡ true
fit_both [] us e f = f
fit_both (t ∷ ts) us e f = let h = and_parts (fits t.row) _ e in and_both _ _ h.0 (fit_both ts us h.1 f)

own_mark : (j : Bool) → beq j j ≡ true
own_mark true = refl
own_mark false = refl

-- a row alone, with its own mark
one_fits : (at k : ℕ) (t : List ℕ) → is_row (form_of k t) ≡ true
    → all_fit (accepted (tokens_at at (Part.row k t))) ≡ true
one_fits at k t e = and_both _ _ (and_both _ _ e (own_mark (own_mark_lem k t))) refl

ident-form : (t : List ℕ) → name t ≡ true → is_row (form_of IDENT t) ≡ true
unfolding form_of
ident-form t e = ap (λ (x : Bool). is_row (cond x plain wrong)) e

literal-form : (t : List ℕ) → literal t ≡ true → is_row (form_of LITERAL t) ≡ true
unfolding form_of
literal-form t e = ap (λ (x : Bool). is_row (cond x plain wrong)) e

stands_fit : {p : Part} {after : List ℕ} (at : ℕ) → Stands p after → all_fit (accepted (tokens_at at p)) ≡ true
unfolding form_of opens closes
stands_fit at (Stands.whitespace e h) = refl
stands_fit at (Stands.line e h) = refl
stands_fit at (Stands.block e h) = refl
stands_fit at (Stands.doc_line {p} e each h) =
    and_both _ _ (and_both _ _ (literal-form (DOUBLE_QUOTE ∷ p ++ DOUBLE_QUOTE ∷ [])
    (all_both printable p (bytes "\"") (all_as in_doc printable doc_shown p each) refl)) refl) refl
stands_fit at (Stands.name {p} h e) = one_fits at IDENT p (ident-form p (or_holds _ _ h.form))
stands_fit at (Stands.raw {p} h e) =
    let t = code "r" ∷ HASH ∷ p in one_fits at IDENT t (ident-form t (and_both _ _ h.form (ap not e)))
stands_fit at (Stands.after_quote {p} h e) =
    and_both _ _ (and_both _ _ (ident-form p (or_holds _ _ h.form)) refl) refl
stands_fit at (Stands.literal {p} {suffix} h k) =
    let t = p ++ suffix in
    one_fits at LITERAL t (literal-form t (with_suffix p suffix (literal-right h) (suffix-shown k)))
stands_fit at (Stands.opener {b} e) =
    one_fits at OPEN (b ∷ [])
    (ap (λ (x : Bool). is_row (cond x (forms.opens b) wrong)) (member_holds opening b (bytes "([{") e refl))
stands_fit at (Stands.closer {b} e) =
    one_fits at CLOSE (b ∷ [])
    (ap (λ (x : Bool). is_row (cond x (forms.closed b) wrong)) (member_holds closing b (bytes ")]}") e refl))
stands_fit at (Stands.mark {b} e f g) =
    one_fits at PUNCT (b ∷ []) (ap (λ (x : Bool). is_row (cond x plain wrong)) e)

pub division_fits : {s : List ℕ} {ps : List Part} → Division s ps → (at : ℕ)
    → all_fit (accepted (tokens_of at ps)) ≡ true
division_fits Division.none at = refl
division_fits (Division.more {p} {ps = ps} h d) at =
    fit_both (tokens_at at p) _ (stands_fit at h) (division_fits d (at + length (bytes_of p)))

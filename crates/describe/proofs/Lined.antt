-- Laws on lines: a text of several parts, and the lines of things that are read one after the other.
use mathlib.Core.Path.{◌≡◌, refl, ap, ◌∙◌, sym}
use mathlib.Core.Bool.{Bool, true, false, false≢true}
use mathlib.Core.List.{List, [], ◌∷◌, ◌++◌, append_assoc, append-nil}
use Prim.Native.Nat.{ℕ, suc, ◌+◌, ◌-◌, ◌≤◌, ◌<◌, min}
use native.Mathlib.Omega.{arith}
use borrow.Author.Tests.{leb-true, leb-false}
use lib.Dec.{leb}
use lib.Seq.{slice}
use lib.ListN.{length, take, drop, length-append}
use Rattle.token_list.proofs.Texts.{drop_of_take, slice-none}
use Rattle.token_list.specs.Byte.{LF, QUOTE, SPACE}
use Rattle.token_list.specs.Contract.{InList}
use Rattle.token_list.specs.declared.check.Cursor.{Cursor}
use Rattle.output.specs.Writes.{Writes}
use Rattle.output.specs.declared.writer.Writer.{Writer}
use Rattle.output.proofs.Writers.{then, unwritten, writes_as}
use Rattle.reading.specs.Declaration.{Parameter, lifetime, constant, type, UnnamedField, Field}
use Rattle.reading.specs.Took.{Reader}
use Rattle.reading.specs.Reading as reading
use Rattle.reading.specs.Reading.{Maybe, done, one, every}
use Rattle.reading.specs.Place.{parameter_name_at}
use Rattle.reading.proofs.Rounds.{Rounding}
use Rattle.reading.proofs.Conserved as conserved
use Rattle.parse.specs.Contract.{Said, on, no, Meets, stream, point, InsideAt}
use Rattle.parse.specs.Contract.{named_shown, named_said, next_shown, next_said}
use Rattle.parse.specs.Contract.{is_lifetime, parameter_kind, parameter_text, parameter_shown, parameter_said}
use Rattle.parse.specs.declared.generics.ParameterAt.{ParameterAt}
use Rattle.token_list.specs.declared.stream.Token.{Token}
use Rattle.describe.proofs.Ends.{Turn, NotOne, named_end, tuple_end, parameter_end}
use Rattle.describe.specs.Listing.{line, numbered, named_line, tuple_line, parameter_name}
use Rattle.describe.specs.Listing.{parameter_line}
use Rattle.parse.proofs.Inside.{inside-more, inside_done, inside_refused, forward}

-- the text from a to e, as the code cuts it, which may be empty
pub between : (s : List ℕ) (a e : ℕ) {m : ℕ} → m ≡ min a e → take (e - m) (drop m s) ≡ slice a e s
between s a e {m} h = sym (drop_of_take m e s) ∙ go (leb a e) refl
  where
    go : (b : Bool) → leb a e ≡ b → slice m e s ≡ slice a e s
    go true q = let same : m ≡ a = omega (arith, leb-true a e q) in ap (λ i. slice i e s) same
    go false q =
        let k = leb-false a e q in
        slice-none s m e (omega arith) ∙ sym (slice-none s a e (omega arith))

-- a part and a name, and the rest of the line
pub put_line : {v w x : Writer} (part name number : List ℕ) → Writes v w (part ++ name) →
    Writes w x (SPACE ∷ (number ++ LF ∷ [])) → Writes v x (line part name number)
unfolding line
put_line part name number p q = writes_as (sym (append_assoc part name (SPACE ∷ (number ++ LF ∷ [])))) (then p q)

pub numbered_more : {A : Type 0} (f : ℕ → A → List ℕ) (k : ℕ) (ys : List A) (a : A) →
    numbered f k (ys ++ a ∷ []) ≡ numbered f k ys ++ f (k + length ys) a
numbered_more f k [] a = let e : k ≡ k + 0 = omega arith in append-nil (f k a) ∙ ap (λ (n : ℕ). f n a) e
numbered_more f k (y ∷ ys) a =
    let e : k + 1 + length ys ≡ k + suc (length ys) = omega arith in
    ap (λ (t : List ℕ). f k y ++ t) (numbered_more f (k + 1) ys a ∙ ap (λ (n : ℕ). numbered f (k + 1) ys ++ f n a) e)
    ∙ sym (append_assoc (f k y) (numbered f (k + 1) ys) (f (k + suc (length ys)) a))

-- ## Things that are read one after the other

-- a reader that goes round, the lines of each thing, and what the code's answer to a turn at a cursor shows and says
pub record Series (T A : Type 0) : Type 1 where
  pub lines : ℕ → A → List ℕ
  pub reader : Reader (Maybe A)
  pub round : Rounding reader
  pub shown : List ℕ → Cursor → Turn T → Maybe A → Type 0
  pub said : Turn T → Said
  pub end : (s : List ℕ) (c : Cursor) (x : Turn T) → NotOne x → (v : Maybe A) → shown s c x v → v ≡ done

abbrev pub named : Series (Token × Cursor) Field
named =
    record {
      lines = named_line;
      reader = reading.named_field;
      round = conserved.named_field_round;
      shown = named_shown;
      said = named_said;
      end = named_end;
    }

abbrev pub tuple : Series Cursor UnnamedField
tuple =
    record {
      lines = tuple_line;
      reader = reading.tuple_field;
      round = conserved.tuple_field_round;
      shown = λ s c. next_shown;
      said = next_said;
      end = λ s c. tuple_end;
    }

-- between the angles, of which the first stands in this row
abbrev pub parameters : ℕ → Series ParameterAt Parameter
parameters angle =
    record {
      lines = parameter_line;
      reader = reading.parameter angle;
      round = conserved.parameter_round angle;
      shown = λ s c. parameter_shown s (parameter_name_at (point s c));
      said = parameter_said;
      end = λ s c. parameter_end s (parameter_name_at (point s c));
    }

-- the first things of xs have their lines, and the others are read at c
pub record Written {T A : Type 0} (q : Series T A) (s : List ℕ) (c : Cursor) (before now : Writer) (count : ℕ)
    (xs : List A) : Type 0 where
  pub first : List A
  pub others : List A
  pub split : xs ≡ first ++ others
  pub counted : length first ≡ count
  pub inside : InsideAt (every q.reader) s c others
  pub text : Writes before now (numbered q.lines 0 first)

-- from one turn to the next: so many things have their lines, and the lent roles their length
pub record Lined {T A : Type 0} (q : Series T A) (s : List ℕ) (from c : Cursor) (roles₀ roles : List ℕ)
    (before now : Writer) (count : ℕ) : Type 0 where
  pub in_list : InList s c
  pub few : count ≤ c.at
  pub roles_kept : length roles ≡ length roles₀
  pub written : (xs : List A) → InsideAt (every q.reader) s from xs → Written q s c before now count xs

module _ {T A : Type 0} (q : Series T A) {s : List ℕ} {from : Cursor} {r0 : List ℕ} {v : Writer} where
  pub lined_start : InList s from → Lined q s from from r0 r0 v v 0
  lined_start i =
      record {
        in_list = i;
        few = omega arith;
        roles_kept = refl;
        written = λ xs k. record {
          first = [];
          others = xs;
          split = refl;
          counted = refl;
          inside = k;
          text = unwritten;
        };
      }

  module _ {c : Cursor} {r1 : List ℕ} {w : Writer} {count : ℕ} (l : Lined q s from c r0 r1 v w count) where
    -- one thing more was read
    module _ {r2 : List ℕ} {d : Cursor} {sh : Maybe A → Type 0} {told : A → Type 0}
        (m : Meets s c r1 r2 sh (on d) (q.reader c.row (stream s c)))
        (g : (v : Maybe A) → sh v → (a : A) × (v ≡ one a) × told a) where
      pub lined-less : length s - d.at < length s - c.at
      lined-less =
          let n = forward q.reader q.round m g in
          omega (arith, n.0, n.1.within)

      pub lined-more : {r3 : List ℕ} {x : Writer} → ((a : A) → told a → Writes w x (q.lines count a)) →
          length r3 ≡ length r1 → Lined q s from d r0 r3 v x (count + 1)
      lined-more p e =
          let n = forward q.reader q.round m g in
          record {
            in_list = n.1;
            few = omega (arith, n.0, l.few);
            roles_kept = e ∙ l.roles_kept;
            written = λ xs k.
                let t = l.written xs k in
                let o = inside-more q.reader q.round t.inside m g in
                record {
                  first = t.first ++ o.first ∷ [];
                  others = o.others;
                  split = t.split ∙ ap (λ (ys : List A). t.first ++ ys) o.split ∙
                      sym (append_assoc t.first (o.first ∷ []) o.others);
                  counted = omega (arith, t.counted, length-append t.first (o.first ∷ []));
                  inside = o.inside;
                  text =
                      writes_as (numbered_more q.lines 0 t.first o.first ∙
                      ap (λ (n : ℕ). numbered q.lines 0 t.first ++ q.lines n o.first) (place t.counted))
                      (then t.text (p o.first o.shown));
                };
          }
        where
          place : {n : ℕ} → n ≡ count → 0 + n ≡ count
          place e = omega (arith, e)

    pub lined_done : {r2 : List ℕ} {d : Cursor} {sh : Maybe A → Type 0} →
        Meets s c r1 r2 sh (on d) (q.reader c.row (stream s c)) → ((v : Maybe A) → sh v → v ≡ done)
        → (xs : List A) → InsideAt (every q.reader) s from xs → Writes v w (numbered q.lines 0 xs)
    lined_done m g xs k =
        let t = l.written xs k in
        let last = ap (λ (ys : List A). t.first ++ ys) (inside_done q.reader q.round t.inside m g) in
        writes_as (ap (numbered q.lines 0) (t.split ∙ last ∙ append-nil t.first)) t.text

    pub lined_refused : {B : Type 0} {r2 : List ℕ} {sh : Maybe A → Type 0} {n p : ℕ} →
        Meets s c r1 r2 sh (no n p) (q.reader c.row (stream s c))
        → (xs : List A) → InsideAt (every q.reader) s from xs → B
    lined_refused m xs k = inside_refused q.reader q.round (l.written xs k).inside m

    -- no thing more was read
    pub lined_end : {r2 : List ℕ} (x : Turn T) →
        Meets s c r1 r2 (q.shown s c x) (q.said x) (q.reader c.row (stream s c)) → NotOne x
        → (xs : List A) → InsideAt (every q.reader) s from xs → Writes v w (numbered q.lines 0 xs)
    lined_end {r2} x m h xs k = ended (q.said x) m
      where
        ended : (y : Said) → Meets s c r1 r2 (q.shown s c x) y (q.reader c.row (stream s c)) →
            Writes v w (numbered q.lines 0 xs)
        ended (on d) m = lined_done m (q.end s c x h) xs k
        ended (no n p) m = lined_refused m xs k

-- ## Parameters

pub quoted : (a : Parameter) → is_lifetime (parameter_kind a) ≡ true → parameter_name a ≡ QUOTE ∷ parameter_text a
quoted (lifetime n b) e = refl
quoted (constant n t) e = absurd (false≢true e)
quoted (type n b d) e = absurd (false≢true e)

pub unquoted : (a : Parameter) → is_lifetime (parameter_kind a) ≡ false → parameter_name a ≡ parameter_text a
unquoted (lifetime n b) e = absurd (false≢true (sym e))
unquoted (constant n t) e = refl
unquoted (type n b d) e = refl

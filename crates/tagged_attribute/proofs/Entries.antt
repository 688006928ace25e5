-- Laws on one entry, by what stands after its key.
use mathlib.Core.Path.{◌≡◌, refl, ap, ◌∙◌, sym, subst, subst⁻¹}
use mathlib.Core.Bool.{true, false}
use mathlib.Core.List.{List, [], ◌∷◌, ◌++◌}
use Prim.Native.Nat.{ℕ, ◌+◌, ◌-◌, ◌<◌}
use native.Mathlib.Omega.{arith}
use lib.ListN.{length, length-append, length-replicate}
use Rattle.token_list.specs.Byte.{COMMA}
use Rattle.token_list.specs.Stream.{at}
use Rattle.token_list.specs.Contract.{LeafAt, row_of}
use Rattle.token_list.specs.declared.check.Cursor.{Cursor}
use Rattle.token_list.specs.declared.stream.Token.{Token}
use Rattle.token_list.proofs.Texts.{chosen, passed_over}
use Rattle.reading.specs.Token.{is_literal, is_punct}
use Rattle.parse.specs.Contract.{stream, TextOf, TokenIn, past_of}
use Rattle.parse.proofs.Meeting.{token_within}
use Rattle.tagged_reading.specs.Role as role
use Rattle.tagged_reading.specs.Role.{others}
use Rattle.tagged_reading.specs.Entry.{Entry, tag, property}
use Rattle.tagged_reading.specs.Reading.{Answer, adding, entries, keyed, valued, separated}
use Rattle.tagged_attribute.specs.Contract.{Onward, Added, part_roles, tag_roles, property_roles, TagRead}
use Rattle.tagged_attribute.specs.Contract.{PropertyRead, token_text, entries_at}
use Rattle.tagged_attribute.proofs.Cursors.{onward_leaf, onward_then, stream_past}

module _ {s : List ℕ} where
  text_of : (t : Token) (row : ℕ) → TokenIn s row t → TextOf s t (token_text s t)
  text_of t row k = record { bytes = refl; within = token_within s _ t k }

  -- the part that ends at d, whatever follows
  added : {c d : Cursor} {es : List Entry} {was : Answer} {m : ℕ} (front : List ℕ) (n : ℕ)
      → Onward s c d m → m ≡ length front + n → 0 < m
      → was ≡ adding es (front ++ others n) (entries_at s d)
      → Added s c d es (part_roles front c.row d.row) was
  added {c} {d} {es} {was} {m} front n o w h e =
      let z : n ≡ d.row - (c.row + length front) = omega (arith, o.row) in
      let l : length (front ++ others n) ≡ m = omega (
        arith,
        length-append front (others n),
        length-replicate n role.other,
      ) in
      subst (λ (k : ℕ). Added s c d es (front ++ others k) was) z
      (record { onward = subst⁻¹ (Onward s c d) l o; some = omega (arith, l); same = e })

  -- what is read past a token
  past_token : (c d e : Cursor) (t : Token) (n : ℕ) → Onward s c e n → e ≡ past_of d t
      → entries (c.row + n) (at s t.next).here ≡ entries_at s e
  past_token c d e t n o p = λ i. entries (sym o.row i) (sym (stream_past s d e t p) i)

  -- ## After the key

  module _ {c d : Cursor} {k : Token} (place : TokenIn s c.row k) (o : Onward s c d 1) where
    abbrev was : Answer
    was = keyed c.row (token_text s k) (stream s d)

    module _ {p : Token} (l : LeafAt s d.at p) {e : Cursor} (q : e ≡ past_of d p) where
      pub past-key : Onward s c e 2
      past-key = onward_then o (onward_leaf o.in_list l q)

      pub tag-comma : is_punct COMMA (row_of s p) ≡ true → TagRead s c was (record { tag = k; next = e })
      tag-comma f =
          let es = tag (token_text s k) ∷ [] in
          record {
            text = token_text s k;
            tag = text_of k c.row place;
            place = place;
            added = added tag_roles 1 past-key refl (omega arith)
                (ap (keyed c.row (token_text s k)) l.here ∙ chosen _ _ _ f
                ∙ ap (adding es (tag_roles ++ others 1)) (past_token c d e p 2 past-key q));
          }

  -- ## After `key =`

  module _ {c v : Cursor} (k : Token) (o : Onward s c v 2) where
    abbrev is : Answer
    is = valued c.row (token_text s k) (stream s v)

    module _ {l : Token} (f : LeafAt s v.at l) {d : Cursor} (p : d ≡ past_of v l) where
      pub past_value : Onward s c d 3
      past_value = onward_then o (onward_leaf o.in_list f p)

      pub lost-token : is_literal (row_of s l) ≡ false → Added s c d [] (part_roles [] c.row d.row) is
      lost-token e =
          added [] 3 past_value refl (omega arith)
          (ap (valued c.row (token_text s k)) f.here ∙ passed_over _ _ _ e
          ∙ ap (adding [] (others 3)) (past_token c v d l 3 past_value p))

  -- ## After `key = literal`

  module _ {c d : Cursor} {k l : Token} (key : TokenIn s c.row k) (literal : TokenIn s (c.row + 2) l)
      (o : Onward s c d 3) where
    abbrev pair : Entry
    pair = property (token_text s k) (token_text s l)

    pub property-comma : {p : Token} → LeafAt s d.at p → {e : Cursor} → e ≡ past_of d p
        → is_punct COMMA (row_of s p) ≡ true
        → PropertyRead s c (separated c.row pair (stream s d)) (record { key = k; literal = l; next = e })
    property-comma {p} h {e} q f =
        let past = onward_then o (onward_leaf o.in_list h q) in
        record {
          name = token_text s k;
          text = token_text s l;
          key = text_of k c.row key;
          literal = text_of l (c.row + 2) literal;
          key_place = key;
          literal_place = literal;
          added = added property_roles 1 past refl (omega arith)
              (ap (separated c.row pair) h.here ∙ chosen _ _ _ f
              ∙ ap (adding (pair ∷ []) (property_roles ++ others 1)) (past_token c d e p 4 past q));
        }

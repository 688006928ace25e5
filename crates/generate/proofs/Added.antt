-- Added names, one line after the other.
use mathlib.Core.Path.{◌≡◌, ap, ◌∙◌, sym, subst}
use mathlib.Core.Bool.{Bool, true, false}
use mathlib.Core.List.{List, [], ◌∷◌, ◌++◌, append-nil, append_assoc}
use Prim.Native.Nat.{ℕ, ◌+◌, ◌≤◌, ◌<◌}
use native.Mathlib.Omega.{arith}
use lib.ListN.{length, drop, drop_of_length-le}
use lib.Seq.{slice, take_all}
use Rattle.token_list.specs.Row.{tail}
use Rattle.token_list.proofs.Texts.{drop_next}
use Rattle.token_list.proofs.Lines.{Scanned, scan_none}
use Rattle.writing.specs.Names.{line_names, names_of}
use Rattle.token_list.specs.Byte.{COMMA}
use Rattle.token_list.specs.Row.{Row}
use Rattle.token_list.specs.Rows.{punct}
use Rattle.reading.specs.Declaration.{Parameter}
use Rattle.writing.specs.Generics.{parameter_rows, parted}
use Rattle.writing.proofs.Written.{parted_append}
use Rattle.generate.specs.Contract.{Appended, NameEnd, comma}
use Rattle.generate.specs.declared.stream_builder.ListBuilder.{ListBuilder}
use Rattle.generate.proofs.Builds.{then}

no_names : (t : List ℕ) (i : ℕ) → length t ≤ i → names_of (drop i t) ≡ []
no_names t i h = ap names_of (drop_of_length-le t {i = i} h)

-- the last name ends with the text
pub last : (t : List ℕ) (from i : ℕ) → Scanned t from i → from < length t → i ≡ length t → NameEnd t from i
last t from i scanned h e =
    let some = drop_next t from h in
    let to_end : drop from t ≡ slice from i t = ap (drop from) (sym (take_all i t (omega arith))) in
    record {
      start = scanned.start;
      within = omega arith;
      names =
          ap line_names (scan_none t from i (omega arith) scanned ∙ ap tail some)
          ∙ ap (λ (x : List ℕ). x ∷ []) (sym some ∙ to_end)
          ∙ ap (λ (xs : List (List ℕ)). slice from i t ∷ xs) (sym (no_names t (i + 1) (omega arith)));
    }

-- ## Adding them

parted_one : (first : Bool) (p : Parameter) → comma first ++ parameter_rows p ≡ parted first (p ∷ [])
parted_one true p = sym (append-nil (parameter_rows p))
parted_one false p = ap (λ (rs : List Row). punct COMMA ∷ rs) (sym (append-nil (parameter_rows p)))

-- one parameter behind its `,`
pub parted_off : {a b c : ListBuilder} (first : Bool) (p : Parameter) → Appended a b (comma first)
    → Appended b c (parameter_rows p) → Appended a c (parted first (p ∷ []))
parted_off {a} {c = c} first p x y = subst (Appended a c) (parted_one first p) (then x y)

-- ## Parameters one after the other

-- of all parameters some were added, with these rows, and the others are to follow
pub record Adding (all : List Parameter) (first : Bool) (b r : ListBuilder) (leading : Bool)
    (others : List Parameter) : Type 0 where
  pub rows : List Row
  pub appended : Appended b r rows
  pub rest : parted first all ≡ rows ++ parted leading others

module _ {all : List Parameter} {first leading : Bool} {b c : ListBuilder} where
  pub adding-more : {p : Parameter} {others : List Parameter} {d : ListBuilder}
      → Adding all first b c leading (p ∷ others) → Appended c d (parted leading (p ∷ []))
      → Adding all first b d false others
  adding-more {p} {others} a q =
      let one = parted leading (p ∷ []) in
      record {
        rows = a.rows ++ one;
        appended = then a.appended q;
        rest = a.rest ∙ ap (λ (rs : List Row). a.rows ++ rs) (parted_append leading (p ∷ []) others)
            ∙ sym (append_assoc a.rows one (parted false others));
      }

  -- all others at once
  pub adding_last : {others : List Parameter} {d : ListBuilder} → Adding all first b c leading others
      → Appended c d (parted leading others) → Appended b d (parted first all)
  adding_last {d = d} a q = subst (Appended b d) (sym a.rest) (then a.appended q)

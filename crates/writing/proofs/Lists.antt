-- What the writers write is again a list.
use mathlib.Core.Path.{◌≡◌, refl, ap, ◌∙◌, sym, subst}
use mathlib.Core.Bool.{Bool, true, false, cond, ◌&&◌, ◌||◌}
use mathlib.Core.List.{List, [], ◌∷◌, ◌++◌, map, append-nil, append_assoc}
use Prim.Native.Nat.{ℕ, ◌≤◌}
use native.Mathlib.Omega.{arith}
use Rattle.token_list.specs.Byte.{QUOTE, COMMA, COLON, LESS, GREATER}
use Rattle.token_list.specs.Layout.{marked, first_row}
use Rattle.token_list.specs.Text as text
use Rattle.token_list.specs.Text.{plain_name, raw_name, punctuation}
use Rattle.token_list.specs.Row.{Row, plain, wrong, form_of}
use Rattle.token_list.specs.Rows.{ident, punct}
use Rattle.token_list.specs.Check.{check, passed, is_row, right, nested}
use Rattle.token_list.specs.Stream.{Trees, end, leaf, group, Streams, streams, at}
use Rattle.token_list.proofs.Texts.{and_both, and_parts}
use Rattle.token_list.proofs.Passes.{nested_passes, list_marked, list_rows}
use Rattle.reading.specs.Token.{CONST}
use Rattle.reading.specs.Declaration.{Parameter, lifetime, constant, type, Generics, without, angled, Declaration}
use Rattle.reading.specs.Took.{took}
use Rattle.reading.specs.Reading.{item}
use Rattle.writing.specs.Rows.{run_rows}
use Rattle.writing.specs.Generics.{bounds, parameter_rows, parted, angled_rows, sent_parameter, generics_rows}
use Rattle.writing.specs.Generics.{named, names, added_lifetime, added_type}
use Rattle.writing.specs.Names.{names_of, right_name, right_names}
use Rattle.writing.specs.Answer.{impl_generics_lem, type_generics_lem, with_additional_lem}
use Rattle.writing.specs.Depth.{depth}
use Rattle.writing.specs.IsList.{IsList}
use Rattle.writing.specs.ReadBack.{run_of}
use Rattle.writing.proofs.Joined.{joined, rows_joined, token}
use Rattle.writing.proofs.Balanced.{ident_mark, punct_mark, sound, sound_tokens, nests, list_stream}
use Rattle.writing.proofs.Written.{bounds_then, parameter_then, parted_then, angled_then, all_tokens, streams_angled}
use Rattle.writing.proofs.Declared.{name_of, AllDeclared, depth_joined, declared_of}

-- ## The rows of the streams that are written

bounds-rows : (b us : Trees) → run_rows (bounds_then b us) ≡ bounds b ++ run_rows us
bounds-rows end us = refl
bounds-rows (leaf r ts) us = ap (λ (rs : List Row). punct COLON ∷ rs) (rows_joined (leaf r ts) us)
bounds-rows (group d ts vs) us = ap (λ (rs : List Row). punct COLON ∷ rs) (rows_joined (group d ts vs) us)

parameter-rows : (p : Parameter) (us : Trees) → run_rows (parameter_then p us) ≡ parameter_rows p ++ run_rows us
parameter-rows (lifetime n b) us = ap (λ (rs : List Row). punct QUOTE ∷ ident n ∷ rs) (bounds-rows b us)
parameter-rows (constant n t) us = ap (λ (rs : List Row). ident CONST ∷ ident n ∷ punct COLON ∷ rs) (rows_joined t us)
parameter-rows (type n b d) us = ap (λ (rs : List Row). ident n ∷ rs) (bounds-rows b us)

parted-rows : (first : Bool) (ps : List Parameter) (us : Trees)
    → run_rows (parted_then first ps us) ≡ parted first ps ++ run_rows us
parted-rows first [] us = refl
parted-rows true (p ∷ ps) us =
    parameter-rows p (parted_then false ps us)
    ∙ ap (λ (rs : List Row). parameter_rows p ++ rs) (parted-rows false ps us)
    ∙ sym (append_assoc (parameter_rows p) (parted false ps) (run_rows us))
parted-rows false (p ∷ ps) us =
    ap (λ (rs : List Row). punct COMMA ∷ rs) (parameter-rows p (parted_then false ps us)
    ∙ ap (λ (rs : List Row). parameter_rows p ++ rs) (parted-rows false ps us)
    ∙ sym (append_assoc (parameter_rows p) (parted false ps) (run_rows us)))

-- ## Right and deep enough

-- names that are right, and runs of right tokens, at most m deep
record Fine (marks : Bool) (m : ℕ) (p : Parameter) : Type 0 where
  name : right marks (ident (name_of p)) ≡ true
  run : sound marks (run_of p) ≡ true
  deep : depth (run_of p) ≤ m

data AllFine (marks : Bool) (m : ℕ) : List Parameter → Type 0 where
  none : AllFine marks m []
  also : {p : Parameter} {ps : List Parameter} → Fine marks m p → AllFine marks m ps → AllFine marks m (p ∷ ps)

-- a stream of right tokens, at most m deep
record Good (marks : Bool) (m : ℕ) (ts : Trees) : Type 0 where
  right : sound marks ts ≡ true
  deep : depth ts ≤ m

good_leaf : {marks : Bool} {m : ℕ} {us : Trees} (r : Row) → (token r && right marks r) ≡ true → Good marks m us
    → Good marks m (leaf r us)
good_leaf r e g = record { right = and_both _ _ e g.right; deep = g.deep }

good_punct : {marks : Bool} {m : ℕ} {us : Trees} (b : ℕ) → punctuation b ≡ true → Good marks m us
    → Good marks m (leaf (punct b) us)
unfolding form_of
good_punct {marks} b e g =
    good_leaf (punct b) (and_both _ _ (ap (λ (x : Bool). is_row (cond x plain wrong)) e) (punct_mark marks b)) g

good_name : {marks : Bool} {m : ℕ} {us : Trees} (n : List ℕ) → right marks (ident n) ≡ true → Good marks m us
    → Good marks m (leaf (ident n) us)
good_name n e g = good_leaf (ident n) e g

sound_join : (marks : Bool) (ts us : Trees) → sound marks ts ≡ true → sound marks us ≡ true
    → sound marks (joined ts us) ≡ true
sound_join marks end us e h = h
sound_join marks (leaf r ts) us e h =
    let p = and_parts (token r && right marks r) (sound marks ts) e in
    and_both _ _ p.0 (sound_join marks ts us p.1 h)
sound_join marks (group d ts vs) us e h =
    let p = and_parts (text.opening d) _ e in
    let q = and_parts (sound marks ts) (sound marks vs) p.1 in
    and_both _ _ p.0 (and_both _ _ q.0 (sound_join marks vs us q.1 h))

module _ {marks : Bool} {m : ℕ} where
  good_run : (b us : Trees) → sound marks b ≡ true → depth b ≤ m → Good marks m us → Good marks m (joined b us)
  good_run b us e l g = record
      { right = sound_join marks b us e g.right; deep = omega (arith, depth_joined b us, g.deep) }

  good_bounds : (b us : Trees) → sound marks b ≡ true → depth b ≤ m → Good marks m us → Good marks m (bounds_then b us)
  good_bounds end us e l g = g
  good_bounds (leaf r ts) us e l g = good_punct COLON refl (good_run (leaf r ts) us e l g)
  good_bounds (group d ts vs) us e l g = good_punct COLON refl (good_run (group d ts vs) us e l g)

  good_parameter : (p : Parameter) (us : Trees) → Fine marks m p → Good marks m us → Good marks m (parameter_then p us)
  unfolding form_of
  good_parameter (lifetime n b) us f g = good_punct QUOTE refl
      (good_name n f.name (good_bounds b us f.run f.deep g))
  good_parameter (constant n t) us f g =
      good_name CONST (ident_mark marks CONST)
      (good_name n f.name (good_punct COLON refl (good_run t us f.run f.deep g)))
  good_parameter (type n b d) us f g = good_name n f.name (good_bounds b us f.run f.deep g)

  good_parted : (first : Bool) {ps : List Parameter} (us : Trees) → AllFine marks m ps → Good marks m us
      → Good marks m (parted_then first ps us)
  good_parted first us none g = g
  good_parted true us (also {p = p} {ps = ps} f fs) g =
      good_parameter p (parted_then false ps us) f (good_parted false us fs g)
  good_parted false us (also {p = p} {ps = ps} f fs) g =
      good_punct COMMA refl (good_parameter p (parted_then false ps us) f (good_parted false us fs g))

  fine_tokens : {ps : List Parameter} → AllFine marks m ps → all_tokens ps ≡ true
  fine_tokens none = refl
  fine_tokens (also {p = p} f fs) = and_both _ _ (sound_tokens marks (run_of p) f.run) (fine_tokens fs)

-- ## The rows between angles

of_nested : (s : List ℕ) (rs : List Row) → nested (marked s) [] rs ≡ true
    → depth (streams rs).here ≤ depth (at s (first_row s)).here
    → IsList s rs
of_nested s rs e l = record {
  nested = e;
  deep = l;
  passes = nested_passes (marked s) rs e;
  names = list_marked (marked s) rs;
  rows = list_rows (marked s) rs e;
}

angled_list : (s : List ℕ) {n : ℕ} {ps : List Parameter} → check s ≡ passed n
    → AllFine (marked s) (depth (at s (first_row s)).here) ps
    → IsList s (angled_rows ps)
angled_list s {ps = ps} c f =
    let last : Trees = leaf (punct GREATER) end in
    let g = good_punct LESS refl (good_parted true last f
    (good_punct GREATER refl (record { right = refl; deep = omega arith }))) in
    let rows : run_rows (angled_then ps end) ≡ angled_rows ps =
    ap (λ (rs : List Row). punct LESS ∷ rs) (parted-rows true ps last) in
    let stream = sym (ap (λ (rs : List Row). (streams rs).here) (append-nil (angled_rows ps)))
    ∙ ap (λ (st : Streams). st.here) (streams_angled ps [] (fine_tokens f)) in
    let nest = nests (marked s) (angled_then ps end) [] [] g.right
    (omega (arith, g.deep, (list_stream s c).deep)) refl in
    let good = subst (λ (rs : List Row). nested (marked s) [] rs ≡ true) (append-nil _ ∙ rows) nest in
    of_nested s (angled_rows ps) good (omega (arith, ap depth stream, g.deep))

-- ## The three writers

declared_fine : {marks : Bool} {ts : Trees} {ps : List Parameter} → AllDeclared marks ts ps
    → AllFine marks (depth ts) ps
declared_fine AllDeclared.none = none
declared_fine (AllDeclared.also d ds) =
    also (record { name = d.name; run = d.run; deep = d.deep }) (declared_fine ds)

right-name : (marks : Bool) (t : List ℕ) → right_name t ≡ true → right marks (ident t) ≡ true
unfolding form_of
right-name marks t e =
    let p = and_parts (plain_name t) _ e in
    and_both _ _ (ap (λ (b : Bool). is_row (cond (b || raw_name t) plain wrong)) p.0)
    (and_both _ _ p.1 (ident_mark marks t))

module _ {marks : Bool} {m : ℕ} where
  named_fine : {ps : List Parameter} → AllFine marks m ps → AllFine marks m (names ps)
  named_fine none = none
  named_fine (also {p = p} f fs) = also (one p f) (named_fine fs)
    where
      one : (p : Parameter) → Fine marks m p → Fine marks m (named p)
      one (lifetime n b) f = record { name = f.name; run = refl; deep = omega arith }
      one (constant n t) f = record { name = f.name; run = refl; deep = omega arith }
      one (type n b d) f = record { name = f.name; run = refl; deep = omega arith }

  lifetimes_fine : (ls : List (List ℕ)) {qs : List Parameter} → right_names ls ≡ true → AllFine marks m qs
      → AllFine marks m (map added_lifetime ls ++ qs)
  lifetimes_fine [] e f = f
  lifetimes_fine (l ∷ ls) e f =
      let p = and_parts (right_name l) (right_names ls) e in
      also {p = added_lifetime l} (record { name = right-name marks l p.0; run = refl; deep = omega arith })
      (lifetimes_fine ls p.1 f)

  types_fine : (ts : List (List ℕ)) → right_names ts ≡ true → AllFine marks m (map added_type ts)
  types_fine [] e = none
  types_fine (t ∷ ts) e =
      let p = and_parts (right_name t) (right_names ts) e in
      also {p = added_type t} (record { name = right-name marks t p.0; run = refl; deep = omega arith })
      (types_fine ts p.1)

  append_fine : {ps qs : List Parameter} → AllFine marks m ps → AllFine marks m qs → AllFine marks m (ps ++ qs)
  append_fine none g = g
  append_fine (also f fs) g = also f (append_fine fs g)

-- ## The law, of a writer whose names are right and a list that was read

module _ (s : List ℕ) {n : ℕ} {d : Declaration} {rs : List ℕ} {us : Trees} (c : check s ≡ passed n)
    (e : item 0 (at s (first_row s)).here ≡ took d rs us) where
  by_parameters : (f : List Parameter → List Parameter)
      → ((m : ℕ) (ps : List Parameter) → AllFine (marked s) m ps → AllFine (marked s) m (f ps))
      → IsList s (generics_rows f d.generics)
  by_parameters f k = go d.generics refl
    where
      go : (x : Generics) → d.generics ≡ x → IsList s (generics_rows f x)
      go without g = of_nested s [] refl (omega arith)
      go (angled ps) g = angled_list s c (k _ (map sent_parameter ps) (declared_fine (declared_of s ps c e g).declared))

  pub impl_list : IsList s (generics_rows impl_generics_lem.parameters d.generics)
  impl_list = by_parameters impl_generics_lem.parameters (λ m ps f. f)

  pub type_list : IsList s (generics_rows type_generics_lem.parameters d.generics)
  type_list = by_parameters type_generics_lem.parameters (λ m ps f. named_fine f)

  pub additional_list : (ls ts : List ℕ) → (with_additional_lem ls ts).right ≡ true
      → IsList s (generics_rows (with_additional_lem ls ts).parameters d.generics)
  additional_list ls ts h =
      let p = and_parts (right_names (names_of ls)) (right_names (names_of ts)) h in
      by_parameters (with_additional_lem ls ts).parameters
      (λ m ps f. lifetimes_fine (names_of ls) p.0 (append_fine f (types_fine (names_of ts) p.1)))

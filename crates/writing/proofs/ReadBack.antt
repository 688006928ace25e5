-- What the writers write reads back, but for the exceptions.
use mathlib.Core.Path.{◌≡◌, refl, ap, ◌∙◌, sym, subst}
use mathlib.Core.Bool.{Bool, true, false, ◌||◌, or-false}
use mathlib.Core.List.{List, [], ◌∷◌, ◌++◌, map, append-nil, map-append}
use Prim.Native.Nat.{ℕ}
use Rattle.token_list.specs.Byte.{SEMICOLON, LESS}
use Rattle.token_list.specs.Text.{same}
use Rattle.token_list.specs.Check.{check, passed}
use Rattle.token_list.specs.Layout.{first_row}
use Rattle.token_list.specs.Rows.{ident, punct}
use Rattle.token_list.specs.Stream.{Trees, end, leaf, at}
use Rattle.token_list.proofs.Texts.{and_both, and_parts, or_last}
use Rattle.reading.specs.Role as role
use Rattle.reading.specs.Token.{STRUCT, CONST}
use Rattle.reading.specs.Grammar as g
use Rattle.reading.specs.Grammar.{everything, Obeys}
use Rattle.reading.specs.Declaration.{default, struct, Parameter, lifetime, constant, type, Generics, angled}
use Rattle.reading.specs.Declaration.{Declaration}
use Rattle.reading.specs.Took.{Took, took, Reader, onward, after, ◌>>=◌, pure}
use Rattle.reading.specs.Reading as r
use Rattle.reading.specs.Reading.{every}
use Rattle.reading.proofs.GrammarSound.{obeys_sound}
use Rattle.reading.proofs.GrammarWider as wider
use Rattle.reading.proofs.Promise.{obeys_unique}
use Rattle.writing.specs.Generics.{angled_rows, sent_parameter, named, names, added_lifetime, added_type, additional}
use Rattle.writing.specs.ReadBack.{behind_struct_lem, unit_struct, with_commas, Reads, Refused, ReadBack, run_of}
use Rattle.writing.specs.ReadBack.{ends_in_minus_lem, last_minus, const_named, const_added, added_exception}
use Rattle.writing.specs.ReadBack.{without_default_lem, WritersReadBack}
use Rattle.writing.proofs.Joined.{tokens}
use Rattle.writing.proofs.Written.{parted_then, all_tokens, behind_struct}
use Rattle.writing.proofs.Runs.{AFTER}
use Rattle.writing.proofs.Reread.{StandsAlone, AllStandAlone, type_const, any_const, reread, refused, obeys}
use Rattle.writing.proofs.Reread as reread
use Rattle.writing.proofs.Balanced.{sound_tokens}
use Rattle.writing.proofs.Declared.{AllDeclared, declared_of}

-- ## The item around the parameters

module _ (name : List ℕ) where
  abbrev rest : Generics → Reader Declaration
  rest x =
      r.clause >>= λ c. r.body_of struct >>= λ b. pure
      (record { attributes = []; visibility = default; kind = struct; name = name; generics = x; clause = c; body = b })

  -- what is made of the parameters
  abbrev made : Took (List Parameter) → Took Declaration
  made t =
      onward [] (onward [] (onward (role.item-word ∷ role.item-name ∷ [])
      (after 2 (onward (role.angle ∷ []) (after 3 t (λ ps. pure (angled ps)))) rest)))

  abbrev around : Trees → Trees
  around us = leaf (ident STRUCT) (leaf (ident name) (leaf (punct LESS) us))

  made_of : (us : Trees) → r.item 0 (around us) ≡ made (every (r.parameter 2) 3 us)
  made_of us = refl

  item_obeys : {us : Trees} {rs : List ℕ} → g.Parameters with_commas us (leaf (punct SEMICOLON) end) rs
      → (qs : List ℕ) × Obeys with_commas (around us) qs
  item_obeys h = (
    _,
    g.Obeys.obeys (g.Item.struct (g.Attributes.none refl) (g.Visibility.none refl)
        (g.Head.head (g.Word.ident refl) (g.Word.ident refl)) (g.Generics.generics refl h) (g.Clause.none refl)
        (g.StructBody.unit refl)) g.LeftOver.none,
  )

-- the roles of a reading obey any grammar that some roles obey
same_roles : {ts : Trees} {d : Declaration} {rs qs : List ℕ} → r.item 0 ts ≡ took d rs end → Obeys with_commas ts qs
    → Obeys with_commas ts rs
same_roles {ts} {rs = rs} {qs = qs} e h =
    let same = obeys_unique qs (rs ++ []) (wider.obeys with_commas everything (λ d e. refl) h) (obeys_sound e) in
    subst (λ (x : List ℕ). Obeys with_commas ts x) (same ∙ append-nil rs) h

-- ## Any parameters whose runs stand alone

read_back : (ps : List Parameter) → AllStandAlone ps → all_tokens ps ≡ true
    → ReadBack (any_const ps || last_minus ps) (angled_rows ps) (map without_default_lem ps)
read_back ps w t = record { same = reads; other = refuses }
  where
    stream : (name : List ℕ) → behind_struct_lem name (angled_rows ps) ≡ around name (parted_then true ps AFTER)
    stream name = behind_struct name ps t

    reads : (any_const ps || last_minus ps) ≡ false → (name : List ℕ)
        → Reads name (angled_rows ps) (map without_default_lem ps)
    reads e name =
        let n = reread.or_parts (any_const ps) (last_minus ps) e in
        let i = reread 2 ps w n.0 n.1 3 in
        let here : r.item 0 (around name (parted_then true ps AFTER)) ≡ took
        (unit_struct name (map without_default_lem ps)) _ end =
        made_of name (parted_then true ps AFTER) ∙ ap (made name) i.1 in
        let read = ap (r.item 0) (stream name) ∙ here in
        let o = item_obeys name (obeys ps w n.0 n.1).1 in
        record {
          roles = _;
          read = read;
          commas = same_roles read (subst (λ (ts : Trees). Obeys with_commas ts o.0) (sym (stream name)) o.1);
        }

    refuses : (any_const ps || last_minus ps) ≡ true → (name : List ℕ) → Refused name (angled_rows ps)
    refuses e name =
        let i = refused 2 ps w e 3 in
        record {
          cause = i.0;
          number = i.1;
          place = i.2;
          read = ap (r.item 0) (stream name) ∙ made_of name (parted_then true ps AFTER) ∙ ap (made name) i.3;
        }

-- ## The parameters of a declaration that was read

runs_alone : {m : Bool} {ts : Trees} {ps : List Parameter} → AllDeclared m ts ps → AllStandAlone ps
runs_alone AllDeclared.none = AllStandAlone.none
runs_alone (AllDeclared.also d ds) = AllStandAlone.also d.stands (runs_alone ds)

token_runs : {m : Bool} {ts : Trees} {ps : List Parameter} → AllDeclared m ts ps → all_tokens ps ≡ true
token_runs AllDeclared.none = refl
token_runs {m} (AllDeclared.also {p = p} d ds) = and_both _ _ (sound_tokens m (run_of p) d.run) (token_runs ds)

no_const : {m : Bool} {ts : Trees} {ps : List Parameter} → AllDeclared m ts ps → any_const ps ≡ false
no_const AllDeclared.none = refl
no_const (AllDeclared.also {p = p} {ps = ps} d ds) = or_last (type_const p) (any_const ps) d.plain ∙ no_const ds

-- ## Parameters without runs

end_alone : StandsAlone end
end_alone = record { roles = []; alone = g.Run.ended refl }

module _ {A : Type 0} (f : A → Parameter) (e : (a : A) → run_of (f a) ≡ end) where
  bare_alone : (xs : List A) {qs : List Parameter} → AllStandAlone qs → AllStandAlone (map f xs ++ qs)
  bare_alone [] w = w
  bare_alone (x ∷ xs) w = AllStandAlone.also (subst StandsAlone (sym (e x)) end_alone) (bare_alone xs w)

  bare_tokens : (xs : List A) (qs : List Parameter) → all_tokens qs ≡ true → all_tokens (map f xs ++ qs) ≡ true
  bare_tokens [] qs h = h
  bare_tokens (x ∷ xs) qs h = and_both _ _ (ap tokens (e x)) (bare_tokens xs qs h)

  -- the last parameter's run is that of the last one behind them
  bare_last : (xs : List A) (qs : List Parameter) → last_minus (map f xs ++ qs) ≡ last_minus qs
  bare_last [] qs = refl
  bare_last (x ∷ []) [] = ap ends_in_minus_lem (e x)
  bare_last (x ∷ []) (q ∷ qs) = refl
  bare_last (x ∷ y ∷ xs) qs = bare_last (y ∷ xs) qs

  -- behind other parameters
  last_bare : (ps : List Parameter) (x : A) (xs : List A) → last_minus (ps ++ map f (x ∷ xs)) ≡ false
  last_bare [] x xs = sym (ap last_minus (append-nil (map f (x ∷ xs)))) ∙ bare_last (x ∷ xs) []
  last_bare (p ∷ []) x xs = last_bare [] x xs
  last_bare (p ∷ q ∷ ps) x xs = last_bare (q ∷ ps) x xs

without_default : {A : Type 0} (f : A → Parameter) → ((a : A) → without_default_lem (f a) ≡ f a)
    → (xs : List A) (qs : List Parameter)
    → map without_default_lem (map f xs ++ qs) ≡ map f xs ++ map without_default_lem qs
without_default f e [] qs = refl
without_default f e (x ∷ xs) qs = λ i. e x i ∷ without_default f e xs qs i

any_append : (ps qs : List Parameter) → any_const (ps ++ qs) ≡ (any_const ps || any_const qs)
any_append [] qs = refl
any_append (p ∷ ps) qs = go (type_const p) (any_append ps qs)
  where
    go : (b : Bool) → any_const (ps ++ qs) ≡ (any_const ps || any_const qs)
        → (b || any_const (ps ++ qs)) ≡ ((b || any_const ps) || any_const qs)
    go true ih = refl
    go false ih = ih

-- ## The three writers

named-run : (p : Parameter) → run_of (named p) ≡ end
named-run (lifetime n b) = refl
named-run (constant n t) = refl
named-run (type n b d) = refl

named_default : (p : Parameter) → without_default_lem (named p) ≡ named p
named_default (lifetime n b) = refl
named_default (constant n t) = refl
named_default (type n b d) = refl

-- a declared type is not named `const`
named_const : {m : Bool} {ts : Trees} {ps : List Parameter} → AllDeclared m ts ps
    → any_const (names ps) ≡ const_named ps
named_const AllDeclared.none = refl
named_const (AllDeclared.also {p = lifetime n b} d ds) = named_const ds
named_const (AllDeclared.also {p = constant n t} d ds) = ap (λ (b : Bool). same n CONST || b) (named_const ds)
named_const (AllDeclared.also {p = type n b e} {ps = ps} d ds) =
    or_last (same n CONST) (any_const (names ps)) d.plain ∙ named_const ds

added_const : (ts : List (List ℕ)) → any_const (map added_type ts) ≡ const_added ts
added_const [] = refl
added_const (t ∷ ts) = ap (λ (b : Bool). same t CONST || b) (added_const ts)

no_added : (ls : List (List ℕ)) (qs : List Parameter) → any_const (map added_lifetime ls ++ qs) ≡ any_const qs
no_added [] qs = refl
no_added (l ∷ ls) qs = no_added ls qs

append_alone : {ps qs : List Parameter} → AllStandAlone ps → AllStandAlone qs → AllStandAlone (ps ++ qs)
append_alone AllStandAlone.none v = v
append_alone (AllStandAlone.also w ws) v = AllStandAlone.also w (append_alone ws v)

append_tokens : (ps qs : List Parameter) → all_tokens ps ≡ true → all_tokens qs ≡ true → all_tokens (ps ++ qs) ≡ true
append_tokens [] qs h k = k
append_tokens (p ∷ ps) qs h k =
    let i = and_parts (tokens (run_of p)) (all_tokens ps) h in and_both _ _ i.0 (append_tokens ps qs i.1 k)

module _ {m : Bool} {ts : Trees} {ps : List Parameter} (d : AllDeclared m ts ps) where
  impl_back : ReadBack (last_minus ps) (angled_rows ps) (map without_default_lem ps)
  impl_back =
      subst (λ (b : Bool). ReadBack b (angled_rows ps) (map without_default_lem ps))
      (or_last (any_const ps) (last_minus ps) (no_const d))
      (read_back ps (runs_alone d) (token_runs d))

  type_back : ReadBack (const_named ps) (angled_rows (names ps)) (names ps)
  type_back =
      let bare = append-nil (names ps) in
      let stands = subst AllStandAlone bare (bare_alone named named-run ps AllStandAlone.none) in
      let tokens = sym (ap all_tokens bare) ∙ bare_tokens named named-run ps [] refl in
      let last = sym (ap last_minus bare) ∙ bare_last named named-run ps [] in
      let values = sym (ap (map without_default_lem) bare) ∙ without_default named named_default ps [] ∙ bare in
      let exception : (any_const (names ps) || last_minus (names ps)) ≡ const_named ps =
      ap (λ (b : Bool). any_const (names ps) || b) last ∙ or-false (any_const (names ps)) ∙ named_const d in
      subst (λ (qs : List Parameter). ReadBack (const_named ps) (angled_rows (names ps)) qs) values
      (subst (λ (b : Bool). ReadBack b (angled_rows (names ps)) (map without_default_lem (names ps))) exception
      (read_back (names ps) stands tokens))

  module _ (ls us : List (List ℕ)) where
    abbrev all : List Parameter
    all = additional ls us ps

    last_added : (us : List (List ℕ)) → (const_added us || last_minus (ps ++ map added_type us)) ≡ added_exception us ps
    last_added [] = ap last_minus (append-nil ps)
    last_added (t ∷ ts) =
        ap (λ (b : Bool). const_added (t ∷ ts) || b) (last_bare added_type (λ t. refl) ps t ts)
        ∙ or-false (const_added (t ∷ ts))

    exception : (any_const all || last_minus all) ≡ added_exception us ps
    exception =
        let const = no_added ls (ps ++ map added_type us) ∙ any_append ps (map added_type us)
        ∙ or_last (any_const ps) (any_const (map added_type us)) (no_const d) ∙ added_const us in
        (λ i. const i || bare_last added_lifetime (λ t. refl) ls (ps ++ map added_type us) i) ∙ last_added us

    values : map without_default_lem all ≡ map added_lifetime ls ++ (map without_default_lem ps ++ map added_type us)
    values =
        let types = sym (ap (map without_default_lem) (append-nil (map added_type us)))
        ∙ without_default added_type (λ t. refl) us [] ∙ append-nil (map added_type us) in
        without_default added_lifetime (λ t. refl) ls (ps ++ map added_type us)
        ∙ ap (λ (qs : List Parameter). map added_lifetime ls ++ qs)
        (map-append without_default_lem ps (map added_type us)
        ∙ ap (λ (qs : List Parameter). map without_default_lem ps ++ qs) types)

    additional_back : ReadBack (added_exception us ps) (angled_rows all)
        (map added_lifetime ls ++ (map without_default_lem ps ++ map added_type us))
    additional_back =
        let bare = append-nil (map added_type us) in
        let types = subst AllStandAlone bare (bare_alone added_type (λ t. refl) us AllStandAlone.none) in
        let tokens = sym (ap all_tokens bare) ∙ bare_tokens added_type (λ t. refl) us [] refl in
        subst (λ (qs : List Parameter). ReadBack (added_exception us ps) (angled_rows all) qs) values
        (subst (λ (b : Bool). ReadBack b (angled_rows all) (map without_default_lem all)) exception
        (read_back all (bare_alone added_lifetime (λ t. refl) ls (append_alone (runs_alone d) types))
        (bare_tokens added_lifetime (λ t. refl) ls (ps ++ map added_type us)
        (append_tokens ps (map added_type us) (token_runs d) tokens))))

  pub writers_read_back : WritersReadBack ps
  writers_read_back = record { impl = impl_back; type = type_back; with_additional = additional_back }

-- ## The law, of a list that was read

pub read_again : (s : List ℕ) {n : ℕ} {d : Declaration} {rs : List ℕ} {us : Trees} (ps : List Parameter)
    → check s ≡ passed n
    → r.item 0 (at s (first_row s)).here ≡ took d rs us → d.generics ≡ angled ps
    → WritersReadBack (map sent_parameter ps)
read_again s ps c e g = writers_read_back (declared_of s ps c e g).declared

-- Every reader of declarations is conserving (proofs/Rounds): the one induction over them for roles, rows, texts,
-- numbers and places. What goes round takes a row each time.
use mathlib.Core.Path.{◌≡◌, refl, subst}
use mathlib.Core.Bool.{Bool, true, false, cond, ◌&&◌, false≢true}
use mathlib.Core.List.{List, [], ◌∷◌}
use Prim.Native.Nat.{ℕ, suc, ◌+◌, ◌≤◌, ◌<◌, max}
use native.Mathlib.Omega.{arith}
use lib.Dec.{eqb}
use Rattle.token_list.specs.Layout.{PUNCT}
use Rattle.token_list.specs.Byte.{BRACE, BRACKET, COLON, COMMA, EQUALS, GREATER, HASH, LESS}
use Rattle.token_list.specs.Byte.{MINUS, PARENTHESIS, QUOTE, SEMICOLON}
use Rattle.token_list.specs.Text.{same}
use Rattle.token_list.specs.Row.{Row, first}
use Rattle.token_list.specs.Check.{END}
use Rattle.token_list.specs.Stream.{Trees, end, leaf, group, size}
use Rattle.reading.specs.Role as role
use Rattle.reading.specs.Declaration.{Visibility, Kind, struct, enum, Fields, Variant, Body, Declaration}
use Rattle.reading.specs.Took.{Took, took, Reader, onward, after, ◌>>=◌, pure, wrong}
use Rattle.reading.specs.Reading as r
use Rattle.reading.specs.Reading.{Maybe, done, one, Word, missing, found, Stops, Ending, RunEnd, Verdict, belongs}
use Rattle.reading.specs.Reading.{ends, unopened}
pub use Rattle.reading.proofs.Rounds.{Conserved, Keeping, Conserving, Any, IsRole, own_number_lem, conserved}
pub use Rattle.reading.proofs.Rounds.{refusal-number, refusal_place, Rounding, rounding, Turn, Turning}
pub use Rattle.reading.proofs.Rounds.{turn_round, every-step, every_conserving, Ended, every-ended}
use Rattle.reading.proofs.Rounds.{taken, refused, past_none, past_leaf, past_group, past_both, onward_conserved}
use Rattle.reading.proofs.Rounds.{after_conserved, looser, bind, choice, reader_choice, nothing-taken}
use Rattle.reading.proofs.Rounds.{pure_conserving, one_row, copied_alone, copied_conserved, from_conserved}
use Rattle.reading.proofs.Rounds.{told_end, told_row, closing_conserved, PlaceBelow, at_end, at_row, bind_pure}
use Rattle.reading.proofs.Rounds.{turn_wider, bind_turning, AnyRest, Empty}

-- a field's run ends at a comma or at the end
judge-comma : (q : Row) (e : Ending) → r.judge r.field_stops 0 false q ≡ ends e → r.is_punct COMMA q ≡ true
judge-comma q e =
    go (eqb q.kind PUNCT) (eqb (first q.text) LESS) (eqb (first q.text) GREATER) (eqb (first q.text) COMMA)
  where
    go : (k lt gt co : Bool)
        → cond k (cond lt (belongs 1 false) (cond gt unopened
        (cond (co && true) (ends r.at_comma) (belongs 0 (eqb (first q.text) MINUS))))) (belongs 0 false) ≡ ends e
        → (k && co) ≡ true
    go true true gt co x = cc
    go true false true co x = cc
    go true false false true x = refl
    go true false false false x = cc
    go false lt gt co x = cc

-- one more was read
abbrev Another : {A : Type 0} → Maybe A → Trees → Type 0
Another done us = ⊥
Another (one a) us = Unit {0}

-- a variant's parts after its name
abbrev pub variant_rest : List Trees → List ℕ → Reader (Maybe Variant)
variant_rest a n =
    r.variant_fields >>= λ f. r.value_if >>= λ v. r.comma (record { attributes = a; name = n; fields = f; value = v })

module _ (b : ℕ) where
  -- ## Words, punctuation and runs

  -- what stands first
  wrong_conserved : {A : Type 0} {T : A → Trees → Type 0} (n : ℕ) → own_number_lem n ≡ true → (row : ℕ) (ts : Trees) →
      row + size ts ≤ b → Conserved b T ts (wrong n row ts)
  wrong_conserved n own row end l = told_end own
  wrong_conserved n own row (leaf q us) l = told_row row own (omega arith)
  wrong_conserved n own row (group d ts us) l = told_row row own (omega arith)

  -- a word takes a row, and its ident stands below the bound
  abbrev WordIn : Trees → Word → Trees → Type 0
  WordIn ts missing us = Unit {0}
  WordIn ts (found t p) us = (p < b) × (size us < size ts)

  word_in : (n : ℕ) → IsRole n → (row : ℕ) (ts : Trees) → row + size ts ≤ b
      → Conserved b (WordIn ts) ts (r.word n row ts)
  word_in n e row end l = taken [] end (past_none end) tt
  word_in n e row (leaf q us) l = choice (r.is_ident q)
      (taken (n ∷ []) us (past_leaf n e q us) (omega arith, omega arith))
      (taken [] (leaf q us) (past_none (leaf q us)) tt)
  word_in n e row (group d ts us) l = choice (r.lone r.is_ident ts)
      (taken (r.copied n ts) us (past_group n e d ts us) (omega arith, omega arith))
      (taken [] (group d ts us) (past_none (group d ts us)) tt)

  pub word_conserving : (n : ℕ) → IsRole n → Conserving b (r.word n)
  word_conserving n e row ts l = looser (word_in n e row ts l) (λ w us s h. tt)

  pub punct_if_conserving : (x n : ℕ) → IsRole n → Conserving b (r.punct_if x n)
  punct_if_conserving x n e row end l = nothing-taken
  punct_if_conserving x n e row (leaf q us) l = choice (r.is_punct x q) (one_row n e q us) nothing-taken
  punct_if_conserving x n e row (group d ts us) l = nothing-taken

  judged_conserved : (depth : ℕ) (v : Verdict) {go : ℕ → Bool → Took RunEnd} (ts : Trees) (row : ℕ) → row < b →
      ((e : ℕ) (m : Bool) → Conserved b Any ts (go e m)) → Conserved b Any ts (r.judged depth v go ts row)
  judged_conserved depth (belongs e m) ts row l c = c e m
  judged_conserved depth (ends e) ts row l c = nothing-taken
  judged_conserved depth unopened ts row l c = told_row row refl l

  run_from_conserving : (st : Stops) (n depth : ℕ) (minus : Bool) → IsRole n →
      Conserving b (r.run_from st n depth minus)
  run_from_conserving st n depth minus k row end l = nothing-taken
  run_from_conserving st n depth minus k row (leaf q us) l =
      judged_conserved depth (r.judge st depth minus q) (leaf q us) row (omega arith)
      (λ e m. onward_conserved (n ∷ []) (past_leaf n k q us)
      (run_from_conserving st n e m k (row + 1) us (omega arith)))
  run_from_conserving st n depth minus k row (group d ts us) l =
      choice (r.stopping st depth d) nothing-taken
      (copied_conserved n k d ts us (run_from_conserving st n depth false k (row + r.group_size ts) us (omega arith)))

  kept_conserved : {T : Trees → Type 0} {ts : Trees} {t : Took RunEnd} (us : Trees) → Conserved b (λ e vs. T vs) ts t →
      Conserved b (λ e vs. T vs) ts (r.kept us t)
  kept_conserved us (taken rs vs e h) = taken rs vs e h
  kept_conserved us (refused n p) = refused n p

  pub run_conserving : (st : Stops) (n : ℕ) → IsRole n → Conserving b (r.run st n)
  run_conserving st n k row ts l = kept_conserved ts (run_from_conserving st n 0 false k row ts l)

  run_if_conserving : (t : Bool) (st : Stops) (n : ℕ) → IsRole n → Conserving b (r.run_if t st n)
  run_if_conserving true st n k = run_conserving st n k
  run_if_conserving false st n k = pure_conserving end

  -- ## Attributes, visibility and the item's word

  mutual
    pub attributes_conserving : Conserving b r.attributes
    attributes_conserving row end l = nothing-taken
    attributes_conserving row (group d ts us) l = nothing-taken
    attributes_conserving row (leaf q us) l = choice (r.is_punct HASH q) (after_hash_conserved row q us l) nothing-taken

    after_hash_conserved : (row : ℕ) (q : Row) (us : Trees) → row + size (leaf q us) ≤ b →
        Conserved b Any (leaf q us) (r.after_hash row us)
    after_hash_conserved row q end l = told_end refl
    after_hash_conserved row q (group d ts us) l =
        choice (eqb d BRACKET)
        (onward_conserved (role.attribute_mark ∷ r.copied role.attribute_group ts)
        (past_both (role.attribute_mark ∷ []) (r.copied role.attribute_group ts)
        (past_leaf role.attribute_mark refl q (group d ts us)) (past_group role.attribute_group refl d ts us))
        (after_conserved (row + 1 + r.group_size ts) (omega arith)
        (attributes_conserving (row + 1 + r.group_size ts) us (omega arith)) (λ xs us h s row l. nothing-taken)))
        (told_row (row + 1) refl (omega arith))
    after_hash_conserved row q (leaf p us) l =
        choice (r.is_punct HASH p) (onward_conserved (role.idle_mark ∷ []) (past_leaf role.idle_mark refl q (leaf p us))
        (after_hash_conserved (row + 1) p us (omega arith))) (told_row (row + 1) refl (omega arith))

  scope_after_conserving : Conserving b r.scope_after
  scope_after_conserving row end l = nothing-taken
  scope_after_conserving row (leaf q us) l = nothing-taken
  scope_after_conserving row (group d ts us) l =
      choice (eqb d PARENTHESIS && r.scoped ts) (copied_alone role.scope refl d ts us) nothing-taken

  any_scope_conserving : Conserving b r.any_scope
  any_scope_conserving row end l = nothing-taken
  any_scope_conserving row (leaf q us) l = nothing-taken
  any_scope_conserving row (group d ts us) l = copied_alone role.scope refl d ts us

  pub visibility_conserving : Conserving b r.visibility
  visibility_conserving row end l = nothing-taken
  visibility_conserving row (leaf q us) l =
      choice (r.is_word r.PUB q) (from_conserved role.visibility refl row q us l scope_after_conserving) nothing-taken
  visibility_conserving row (group d ts us) l =
      choice (r.lone (r.is_word r.PUB) ts) (copied_conserved role.visibility refl d ts us
      (any_scope_conserving (row + r.group_size ts) us (omega arith))) nothing-taken

  named!_conserving : (w : Word) → Conserving b (r.named! w)
  named!_conserving missing = wrong_conserved 11 refl
  named!_conserving (found t p) = pure_conserving t

  -- 25 is told at the ident, which was taken
  named_kind_conserved : (w : Word) (ts us : Trees) → WordIn ts w us → (row : ℕ) → row + size us ≤ b →
      Conserved b Any us (r.named_kind w row us)
  named_kind_conserved missing ts us h row l = wrong_conserved 11 refl row us l
  named_kind_conserved (found t p) ts us h row l = reader_choice (same t r.STRUCT) (pure_conserving struct)
      (reader_choice (same t r.ENUM) (pure_conserving enum) (λ row us l. told_row p refl h.0)) row us l

  pub data_type_conserving : Conserving b r.data_type
  data_type_conserving row ts l = after_conserved row l (word_in role.item-word refl row ts l)
      (λ w us h s row l. after_conserved row l (named_kind_conserved w ts us h row l)
      (λ k us h s row l. bind (word_conserving role.item-name refl)
      (λ v. bind (named!_conserving v) (λ n. pure_conserving _)) row us l))

  -- ## Parameters: at the end 14 is told at the `<` and 24 at the `'`, which were taken

  parameter_name_conserving : (n p : ℕ) → own_number_lem n ≡ true → PlaceBelow b p → Conserving b (r.parameter_name n p)
  parameter_name_conserving n p own k row end l = refused own k
  parameter_name_conserving n p own k row (leaf q us) l =
      choice (r.is_ident q) (one_row role.parameter-name refl q us) (told_row row own (omega arith))
  parameter_name_conserving n p own k row (group d ts us) l = told_row row own (omega arith)

  pub optional_run_conserving : (x : ℕ) → Conserving b (r.optional_run x)
  optional_run_conserving x =
      bind (punct_if_conserving x role.separator refl) (λ t. run_if_conserving t r.parameter_stops role.bound refl)

  comma_another : {A : Type 0} (a : A) → Keeping b Another (r.comma a)
  comma_another a = bind (punct_if_conserving COMMA role.separator refl) (λ t row us l. taken [] us (past_none us) tt)

  -- one more is read after a row was taken
  turned : {A : Type 0} {E : Trees → Type 0} {k : ℕ} {ts : Trees} {t : Took (Maybe A)} → size ts < k →
      Conserved b Another ts t → Conserved b (Turn E k) ts t
  turned i (taken {a = done} rs us e h) = absurd h
  turned i (taken {a = one a} rs us e h) = taken {a = one a} rs us e (omega (arith, e.rows))
  turned i (refused n p) = refused n p

  type_runs_conserving : (n : List ℕ) (t : Bool) → Conserving b (r.type_runs n t)
  type_runs_conserving n true = bind (run_conserving r.parameter_stops role.bound refl) (λ x. pure_conserving _)
  type_runs_conserving n false = bind (optional_run_conserving EQUALS) (λ x. pure_conserving _)

  parameter_turning : (angle : ℕ) → angle < b → Turning b AnyRest (r.parameter angle)
  parameter_turning angle k row end l = told_row angle refl k
  parameter_turning angle k row (group d ts us) l = told_row row refl (omega arith)
  parameter_turning angle k row (leaf q us) l =
      choice (r.is_punct QUOTE q) (first (bind (parameter_name_conserving 24 row refl (at_row (omega arith)))
      (λ n. bind (optional_run_conserving COLON) (λ x. pure_conserving _))))
      (choice (r.is_punct GREATER q) (taken (role.angle ∷ []) us (past_leaf role.angle refl q us) tt)
      (choice (r.is_word r.CONST q) (first (bind (parameter_name_conserving 27 END refl at_end)
      (λ n. bind (optional_run_conserving COLON) (λ x. pure_conserving _))))
      (choice (r.is_ident q)
      (first (bind (punct_if_conserving COLON role.separator refl) (type_runs_conserving q.text)))
      (told_row row refl (omega arith)))))
    where
      first : {A : Type 0} {m : Reader A} → Conserving b m →
          Conserved b (Turn AnyRest (size (leaf q us))) (leaf q us) (r.from role.parameter-name row us (m >>= r.comma))
      first c = onward_conserved (role.parameter-name ∷ []) (past_leaf role.parameter-name refl q us)
          (turned (omega arith) (bind c comma_another (row + 1) us (omega arith)))

  pub generics_conserving : Conserving b r.generics
  generics_conserving row end l = nothing-taken
  generics_conserving row (group d ts us) l = nothing-taken
  generics_conserving row (leaf q us) l =
      choice (r.is_punct LESS q)
      (from_conserved role.angle refl row q us l
      (bind_pure _ (every_conserving (parameter_turning row (omega arith)))))
      nothing-taken

  pub clause_conserving : Conserving b r.clause
  clause_conserving row end l = nothing-taken
  clause_conserving row (group d ts us) l = nothing-taken
  clause_conserving row (leaf q us) l =
      choice (r.is_word r.WHERE q)
      (from_conserved role.where_word refl row q us l
      (bind (run_conserving r.clause_stops role.where_run refl) (λ t. pure_conserving _)))
      nothing-taken

  -- ## Fields

  pub must_conserving : (n : ℕ) (t : Bool) → own_number_lem n ≡ true → Conserving b (r.must n t)
  must_conserving n true own = pure_conserving tt
  must_conserving n false own = wrong_conserved n own

  field_after_another : (a : List Trees) (v : Visibility) (n : List ℕ) → Keeping b Another (r.field_after a v n)
  field_after_another a v n =
      bind (punct_if_conserving COLON role.separator refl) (λ t. bind (must_conserving 23 t refl)
      (λ u. bind (run_conserving r.field_stops role.type refl) (λ f. comma_another _)))

  field_start_turning : (a : List Trees) (v : Visibility) → Turning b Empty (r.field_start a v)
  field_start_turning a v row end l = taken [] end (past_none end) refl
  field_start_turning a v row (group d ts us) l = told_row row refl (omega arith)
  field_start_turning a v row (leaf q us) l =
      choice (r.is_ident q) (onward_conserved (role.field_name ∷ []) (past_leaf role.field_name refl q us)
      (turned (omega arith) (field_after_another a v q.text (row + 1) us (omega arith))))
      (told_row row refl (omega arith))

  pub named_field_turning : Turning b Empty r.named_field
  named_field_turning =
      bind_turning attributes_conserving (λ a. bind_turning visibility_conserving (field_start_turning a))

  -- a field's type and the comma after it: a row at least is taken, where there is one
  module _ {A : Type 0} (made : Trees → A) where
    abbrev with_comma : Trees → Reader (Maybe A)
    with_comma t = r.comma (made t)

    tail_then : {k : ℕ} {ts : Trees} {t : Took RunEnd} (row : ℕ) → row + size ts ≤ b →
        Conserved b (λ e us. size us < k) ts t → Conserved b (Turn Empty k) ts (after row (r.kept ts t) with_comma)
    tail_then {k} {ts} row l c = after_conserved row l (kept_conserved {T = λ us. size us < k} ts c)
        (λ t us h s row l. turned h (comma_another (made t) row us l))

    tail_leaf : (row : ℕ) (q : Row) (us : Trees) (v : Verdict) (go : ℕ → Bool → Took RunEnd) →
        row + size (leaf q us) ≤ b → r.judge r.field_stops 0 false q ≡ v
        → ((e : ℕ) (m : Bool) → Conserved b (λ x vs. size vs < size (leaf q us)) (leaf q us) (go e m))
        → Conserved b (Turn Empty (size (leaf q us))) (leaf q us)
        (after row (r.kept (leaf q us) (r.judged 0 v go (leaf q us) row)) with_comma)
    tail_leaf row q us (belongs e m) go l j k = tail_then row l (k e m)
    tail_leaf row q us (ends e) go l j k = taken-comma (r.is_punct COMMA q) (judge-comma q e j)
      where
        taken-comma : (t : Bool) → t ≡ true
            → Conserved b (Turn Empty (size (leaf q us))) (leaf q us) (after row (took end [] (leaf q us))
            (λ t' row us'. after row (cond t (took true (role.separator ∷ []) us) (took false [] (leaf q us)))
            (λ c. pure (one (made t')))))
        taken-comma true f =
            taken {a = one (made end)} (role.separator ∷ []) us (past_leaf role.separator refl q us) (omega arith)
        taken-comma false f = absurd (false≢true f)
    tail_leaf row q us unopened go l j k = told_row row refl (omega arith)

    tail : (row : ℕ) (ts : Trees) → row + size ts ≤ b →
        Conserved b (Turn Empty (max (size ts) 1)) ts ((r.run r.field_stops role.type >>= with_comma) row ts)
    tail row end l = taken {a = one (made end)} [] end (past_none end) (omega arith)
    tail row (leaf q us) l =
        turn_wider (omega arith)
        (tail_leaf row q us (r.judge r.field_stops 0 false q)
        (λ e m. onward (role.type ∷ []) (r.run_from r.field_stops role.type e m (row + 1) us)) l refl
        (λ e m. onward_conserved (role.type ∷ []) (past_leaf role.type refl q us)
        (looser (run_from_conserving r.field_stops role.type e m refl (row + 1) us (omega arith))
        (λ x vs s h. omega arith))))
    tail row (group d ts us) l =
        tail_then row l (copied_conserved role.type refl d ts us
        (looser (run_from_conserving r.field_stops role.type 0 false refl (row + r.group_size ts) us (omega arith))
        (λ x vs s h. omega arith)))

  tuple_type_turn : (row : ℕ) (ts : Trees) → row + size ts ≤ b →
      Conserved b (Turn Empty (max (size ts) 1)) ts (r.tuple_type row ts)
  tuple_type_turn row ts l = after_conserved row l (attributes_conserving row ts l)
      (λ a us h s row l. after_conserved row l (visibility_conserving row us l)
      (λ v vs h i row l. turn_wider (omega arith)
      (tail (λ t. record { attributes = a; visibility = v; type = t }) row vs l)))

  pub tuple_field_turning : Turning b Empty r.tuple_field
  tuple_field_turning row end l = taken [] end (past_none end) refl
  tuple_field_turning row (leaf q us) l = turn_wider (omega arith) (tuple_type_turn row (leaf q us) l)
  tuple_field_turning row (group d ts us) l = turn_wider (omega arith) (tuple_type_turn row (group d ts us) l)

  named_fields-ended : Keeping b (λ f. Empty) r.named_fields
  named_fields-ended = bind_pure {E = Empty} Fields.named (every_conserving named_field_turning)

  tuple_fields-ended : Keeping b (λ f. Empty) r.tuple_fields
  tuple_fields-ended = bind_pure {E = Empty} Fields.tuple (every_conserving tuple_field_turning)

  -- the inside of a group, to its end
  enclosed_conserved : {A : Type 0} {m : Reader A} → Keeping b (λ a. Empty) m → (row d : ℕ) (ts us : Trees) →
      row + size (group d ts us) ≤ b → Conserved b Any (group d ts us) (r.enclosed m row ts us)
  enclosed_conserved c row d ts us l = closing_conserved d ts us (c (row + 1) ts (omega arith))

  -- ## Variants and bodies

  variant_fields_conserving : Conserving b r.variant_fields
  variant_fields_conserving row end l = nothing-taken
  variant_fields_conserving row (leaf q us) l = nothing-taken
  variant_fields_conserving row (group d ts us) l =
      choice (eqb d BRACE) (enclosed_conserved named_fields-ended row d ts us l)
      (choice (eqb d PARENTHESIS) (enclosed_conserved tuple_fields-ended row d ts us l)
      (told_row row refl (omega arith)))

  negative_value_conserving : Conserving b r.negative_value
  negative_value_conserving row end l = told_end refl
  negative_value_conserving row (group d ts us) l = told_row row refl (omega arith)
  negative_value_conserving row (leaf q us) l =
      choice (r.is_literal q) (choice (r.negatable q.text) (one_row role.value refl q us)
      (told_row row refl (omega arith))) (told_row row refl (omega arith))

  discriminant_conserving : Conserving b r.discriminant
  discriminant_conserving row end l = told_end refl
  discriminant_conserving row (group d ts us) l = told_row row refl (omega arith)
  discriminant_conserving row (leaf q us) l =
      choice (r.is_literal q) (one_row role.value refl q us)
      (choice (r.is_punct MINUS q) (from_conserved role.value refl row q us l negative_value_conserving)
      (told_row row refl (omega arith)))

  pub value_if_conserving : Conserving b r.value_if
  value_if_conserving row end l = nothing-taken
  value_if_conserving row (group d ts us) l = told_row row refl (omega arith)
  value_if_conserving row (leaf q us) l =
      choice (r.is_punct EQUALS q) (from_conserved role.separator refl row q us l discriminant_conserving)
      (choice (r.is_punct COMMA q) nothing-taken (told_row row refl (omega arith)))

  -- a word that must stand here takes a row
  variant_named : (a : List Trees) → Turning b Empty (r.word role.variant-name >>= λ w. r.named! w >>= variant_rest a)
  variant_named a row ts l = after_conserved row l (word_in role.variant-name refl row ts l) go
    where
      rest : (n : List ℕ) → Keeping b Another (variant_rest a n)
      rest n = bind variant_fields_conserving (λ f. bind value_if_conserving (λ v. comma_another _))

      go : (w : Word) (us : Trees) → WordIn ts w us → size us ≤ size ts → (row : ℕ) → row + size us ≤ b →
          Conserved b (Turn Empty (size ts)) us ((r.named! w >>= variant_rest a) row us)
      go missing us h s row l =
          after_conserved {f = variant_rest a} row l (wrong_conserved {T = λ n vs. ⊥} 11 refl row us l)
          (λ n vs h. absurd h)
      go (found t p) us h s row l = turned h.1 (bind (pure_conserving t) rest row us l)

  variant_here_turning : Turning b Empty r.variant_here
  variant_here_turning = bind_turning attributes_conserving variant_named

  pub variant_turning : Turning b Empty r.variant
  variant_turning row end l = taken [] end (past_none end) refl
  variant_turning row (leaf q us) l = variant_here_turning row (leaf q us) l
  variant_turning row (group d ts us) l = variant_here_turning row (group d ts us) l

  struct_body_conserving : Conserving b r.struct_body_lem
  struct_body_conserving row end l = told_end refl
  struct_body_conserving row (leaf q us) l =
      choice (r.is_punct SEMICOLON q) (one_row role.delimiter refl q us) (told_row row refl (omega arith))
  struct_body_conserving row (group d ts us) l =
      choice (eqb d BRACE) (enclosed_conserved (bind_pure {E = Empty} Body.fields named_fields-ended) row d ts us l)
      (choice (eqb d PARENTHESIS)
      (enclosed_conserved (bind_pure {E = Empty} Body.fields tuple_fields-ended) row d ts us l)
      (told_row row refl (omega arith)))

  enum_body_conserving : Conserving b r.enum_body
  enum_body_conserving row end l = told_end refl
  enum_body_conserving row (leaf q us) l =
      choice (r.is_punct SEMICOLON q) (one_row role.delimiter refl q us) (told_row row refl (omega arith))
  enum_body_conserving row (group d ts us) l =
      enclosed_conserved (bind_pure {E = Empty} Body.variants (every_conserving variant_turning)) row d ts us l

  body_of_conserving : (k : Kind) → Conserving b (r.body_of k)
  body_of_conserving struct = struct_body_conserving
  body_of_conserving enum = enum_body_conserving

  -- ## The item

  item_conserving : Conserving b r.item
  item_conserving =
      bind attributes_conserving
      (λ a. bind visibility_conserving
      (λ v. bind data_type_conserving
      (λ h. bind generics_conserving
      (λ p. bind clause_conserving
      (λ c. bind (body_of_conserving h.kind)
      (λ y. pure_conserving _))))))

-- of the item from the first row on
pub item_conserved : (ts : Trees) {t : Took Declaration} → r.item 0 ts ≡ t → Conserved (size ts) Any ts t
item_conserved ts e = subst (Conserved (size ts) Any ts) e (item_conserving (size ts) 0 ts (omega arith))

-- ## Rounds

pub named_field_round : Rounding r.named_field
named_field_round = rounding named_field_turning

pub tuple_field_round : Rounding r.tuple_field
tuple_field_round = rounding tuple_field_turning

pub variant_round : Rounding r.variant
variant_round = rounding variant_turning

pub parameter_round : (angle : ℕ) → Rounding (r.parameter angle)
parameter_round angle row ts =
    let b = suc angle + (row + size ts) in turn_round (parameter_turning b angle (omega arith) row ts (omega arith))

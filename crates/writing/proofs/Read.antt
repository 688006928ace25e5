-- The parameters of a declaration that was read: where each stands in the stream, and that its runs are runs by
-- themselves.
use mathlib.Core.Path.{◌≡◌, refl, ap, ◌∙◌, sym, subst}
use mathlib.Core.Bool.{Bool, true, false, false≢true}
use mathlib.Core.List.{List, [], ◌∷◌}
use Prim.Native.Nat.{ℕ, zero, suc, ◌+◌}
use lib.ListN.{length}
use Rattle.token_list.specs.Byte.{QUOTE, COMMA, COLON, LESS, EQUALS, GREATER}
use Rattle.token_list.specs.Row.{Row}
use Rattle.token_list.specs.Stream.{Trees, end, leaf, group, size}
use Rattle.reading.specs.Role as role
use Rattle.reading.specs.Token.{is_ident, is_punct, is_word, is_end, CONST, parameter_stops}
use Rattle.reading.specs.Grammar as g
use Rattle.reading.specs.Grammar.{everything}
use Rattle.reading.specs.Declaration.{Parameter, Generics, without, angled}
use Rattle.reading.specs.Took.{Took, took, stopped, Reader, after, ◌>>=◌, pure}
use Rattle.reading.specs.Reading as r
use Rattle.reading.specs.Reading.{Maybe, done, one, RunEnd, rounds, more}
use Rattle.reading.proofs.SoundTokens.{Sound, met, refused, choice, onward_still, after_met, run_from_sound}
use Rattle.reading.proofs.SoundTokens.{attributes_sound, visibility_sound, data_type_sound}
use Rattle.reading.proofs.GrammarSound.{punct_if_sound}
use Rattle.writing.proofs.Joined.{joined, front_joined}
use Rattle.writing.proofs.Runs.{Alone, held}

-- ## Where a parameter stands

-- a run b at ts, and us after it; at the end of its stream it may have open angles
pub record RunAt (ts b us : Trees) : Type 0 where
  pub cut : ts ≡ joined b us
  pub roles : List ℕ
  pub alone : is_end us ≡ false → Alone 0 false b roles

-- an optional separator and its run
pub data OptionalRun (m : ℕ) : Trees → Trees → Trees → Type 0 where
  none : {ts : Trees} → OptionalRun m ts end ts
  some : {c : Row} {us b vs : Trees} → is_punct m c ≡ true → RunAt us b vs → OptionalRun m (leaf c us) b vs

pub data ParameterAt : Trees → Parameter → Trees → Type 0 where
  lifetime : {q p : Row} {us b vs : Trees} → is_punct QUOTE q ≡ true → is_ident p ≡ true → OptionalRun COLON us b vs
      → ParameterAt (leaf q (leaf p us)) (Parameter.lifetime p.text b) vs
  constant : {q p : Row} {us t vs : Trees} → is_word CONST q ≡ true → is_ident p ≡ true → OptionalRun COLON us t vs
      → ParameterAt (leaf q (leaf p us)) (Parameter.constant p.text t) vs
  bounded : {q c : Row} {us b vs : Trees} → is_word CONST q ≡ false → is_ident q ≡ true → is_punct COLON c ≡ true
      → RunAt us b vs → ParameterAt (leaf q (leaf c us)) (Parameter.type q.text b end) vs
  defaulted : {q : Row} {us d vs : Trees} → is_word CONST q ≡ false → is_ident q ≡ true → OptionalRun EQUALS us d vs
      → ParameterAt (leaf q us) (Parameter.type q.text end d) vs

-- a `,` that may stand
pub data CommaAt : Trees → Trees → Type 0 where
  absent : {ts : Trees} → CommaAt ts ts
  present : {q : Row} {us : Trees} → is_punct COMMA q ≡ true → CommaAt (leaf q us) us

pub data ParametersAt : Trees → List Parameter → Trees → Type 0 where
  close : {q : Row} {us : Trees} → is_punct GREATER q ≡ true → ParametersAt (leaf q us) [] us
  next : {ts us vs ws : Trees} {p : Parameter} {ps : List Parameter}
      → ParameterAt ts p us → is_end us ≡ false → CommaAt us vs → ParametersAt vs ps ws → ParametersAt ts (p ∷ ps) ws

pub data GenericsAt : Trees → Generics → Type 0 where
  none : {ts : Trees} → GenericsAt ts without
  some : {q : Row} {us vs : Trees} {ps : List Parameter} → is_punct LESS q ≡ true → ParametersAt us ps vs
      → GenericsAt (leaf q us) (angled ps)

-- ## The readers

weaken : {A : Type 0} {N M : A → List ℕ → Trees → Type 0} {t : Took A} → Sound N t →
    ((a : A) (rs : List ℕ) (us : Trees) → N a rs us → M a rs us) → Sound M t
weaken (met rs us h) k = met rs us (k _ rs us h)
weaken refused k = refused

-- a run by its roles, one for each of its rows
run_held : (row : ℕ) (ts : Trees)
    → Sound (λ b rs us. RunAt ts b us × (length rs ≡ size b)) (r.run parameter_stops role.bound row ts)
run_held row ts =
    go (r.run_from parameter_stops role.bound 0 false row ts) (run_from_sound parameter_stops role.bound 0 false row ts)
  where
    go : (t : Took RunEnd) → Sound (λ x rs us. g.Run everything parameter_stops role.bound 0 false ts us rs) t
        → Sound (λ b rs us. RunAt ts b us × (length rs ≡ size b)) (r.kept ts t)
    go t refused = refused
    go t (met rs us h) =
        let i = held h in
        let b = ap (λ (t : Trees). r.first_rows t (length rs)) i.cut
        ∙ front_joined i.tokens us (length rs) i.counted in
        met rs us (subst (λ (t : Trees). RunAt ts t us × (length rs ≡ size t)) (sym b)
        (record { cut = i.cut; roles = rs; alone = i.alone }, i.counted))

pub run_read : (row : ℕ) (ts : Trees) → Sound (λ b rs us. RunAt ts b us) (r.run parameter_stops role.bound row ts)
run_read row ts = weaken (run_held row ts) (λ b rs us h. h.0)

-- where a run is cut off, and that it has a role for each row
abbrev pub CutBy : Trees → Took Trees → Type 0
CutBy ts t = Sound (λ b rs us. (ts ≡ joined b us) × (length rs ≡ size b)) t

pub run_cut : (row : ℕ) (ts : Trees) → CutBy ts (r.run parameter_stops role.bound row ts)
run_cut row ts = weaken (run_held row ts) (λ b rs us h. (h.0.cut, h.1))

optional_read : (m row : ℕ) (ts : Trees) → Sound (λ b rs us. OptionalRun m ts b us) (r.optional_run m row ts)
optional_read m row ts = after_met row (punct_if_sound m row ts) go
  where
    go : {ts : Trees} (t : Bool) (rs : List ℕ) (us : Trees) → g.Separator everything m t ts us rs → (row : ℕ)
        → Sound (λ b qs vs. OptionalRun m ts b vs) (r.run_if t parameter_stops role.bound row us)
    go true rs us (g.Separator.present e) row = weaken (run_read row us) (λ b qs vs h. some e h)
    go false rs us (g.Separator.absent e) row = met [] us none

-- a parameter, and the `,` that may follow
data CommaedAt (ts : Trees) : Maybe Parameter → Trees → Type 0 where
  commaed : {p : Parameter} {us vs : Trees} → ParameterAt ts p us → CommaAt us vs → CommaedAt ts (one p) vs
  last : {q : Row} {us : Trees} → ts ≡ leaf q us → is_punct GREATER q ≡ true → CommaedAt ts done us

comma_read : (ts : Trees) (p : Parameter) (us : Trees) → ParameterAt ts p us → (row : ℕ)
    → Sound (λ m rs vs. CommaedAt ts m vs) (r.comma p row us)
comma_read ts p us h row =
    after_met row (punct_if_sound COMMA row us) (λ t rs vs m row. met [] vs (commaed h (separator m)))
  where
    separator : {t : Bool} {us vs : Trees} {rs : List ℕ} → g.Separator everything COMMA t us vs rs → CommaAt us vs
    separator (g.Separator.present e) = present e
    separator (g.Separator.absent e) = absent

-- an ident as a name
data NameAt : Trees → List ℕ → Trees → Type 0 where
  name : {p : Row} {us : Trees} → is_ident p ≡ true → NameAt (leaf p us) p.text us

name_read : (n p row : ℕ) (ts : Trees) → Sound (λ t rs us. NameAt ts t us) (r.parameter_name n p row ts)
name_read n p row end = refused
name_read n p row (leaf q us) = choice (is_ident q) (λ e. met (role.parameter-name ∷ []) us (name e)) (λ e. refused)
name_read n p row (group d ts us) = refused

module _ (q : Row) where
  lifetime_read : (quote row : ℕ) (us : Trees) → is_punct QUOTE q ≡ true
      → Sound (λ p rs vs. ParameterAt (leaf q us) p vs) (r.lifetime_after quote row us)
  lifetime_read quote row us e = after_met row (name_read 24 quote row us) go
    where
      go : {us : Trees} (n rs : List ℕ) (vs : Trees) → NameAt us n vs → (row : ℕ)
          → Sound (λ p qs ws. ParameterAt (leaf q us) p ws)
          ((r.optional_run COLON >>= λ b. pure (Parameter.lifetime n b)) row vs)
      go n rs vs (name f) row =
          after_met row (optional_read COLON row vs) (λ b qs ws h row. met [] ws (lifetime e f h))

  constant_read : (row : ℕ) (us : Trees) → is_word CONST q ≡ true
      → Sound (λ p rs vs. ParameterAt (leaf q us) p vs) (r.constant_after row us)
  constant_read row us e = after_met row (name_read 27 65535 row us) go
    where
      go : {us : Trees} (n rs : List ℕ) (vs : Trees) → NameAt us n vs → (row : ℕ)
          → Sound (λ p qs ws. ParameterAt (leaf q us) p ws)
          ((r.optional_run COLON >>= λ b. pure (Parameter.constant n b)) row vs)
      go n rs vs (name f) row =
          after_met row (optional_read COLON row vs) (λ b qs ws h row. met [] ws (constant e f h))

  type_read : (row : ℕ) (us : Trees) → is_word CONST q ≡ false → is_ident q ≡ true
      → Sound (λ p rs vs. ParameterAt (leaf q us) p vs) (r.type_after q.text row us)
  type_read row us e f = after_met row (punct_if_sound COLON row us) go
    where
      go : {us : Trees} (t : Bool) (rs : List ℕ) (vs : Trees) → g.Separator everything COLON t us vs rs → (row : ℕ)
          → Sound (λ p qs ws. ParameterAt (leaf q us) p ws) (r.type_runs q.text t row vs)
      go true rs vs (g.Separator.present a) row =
          after_met row (run_read row vs) (λ b qs ws h row. met [] ws (bounded e f a h))
      go false rs vs (g.Separator.absent a) row =
          after_met row (optional_read EQUALS row vs) (λ b qs ws h row. met [] ws (defaulted e f h))

  -- the first row of a parameter is taken
  first_read : {us : Trees} (m : Reader Parameter) (row : ℕ)
      → Sound (λ p rs vs. ParameterAt (leaf q us) p vs) (m (row + 1) us)
      → Sound (λ p rs vs. CommaedAt (leaf q us) p vs) (r.from role.parameter-name row us (m >>= r.comma))
  first_read {us} m row h =
      onward_still (role.parameter-name ∷ [])
      (after_met (row + 1) h (λ p rs vs i row. comma_read (leaf q us) p vs i row))

parameter_read : (angle row : ℕ) (ts : Trees) → Sound (λ m rs us. CommaedAt ts m us) (r.parameter angle row ts)
parameter_read angle row end = refused
parameter_read angle row (group d ts us) = refused
parameter_read angle row (leaf q us) =
    choice (is_punct QUOTE q) (λ e. first_read q (r.lifetime_after row) row (lifetime_read q row (row + 1) us e))
    (λ a. choice (is_punct GREATER q) (λ e. met (role.angle ∷ []) us (last refl e))
    (λ b. choice (is_word CONST q) (λ e. first_read q r.constant_after row (constant_read q (row + 1) us e))
    (λ c. choice (is_ident q) (λ e. first_read q (r.type_after q.text) row (type_read q (row + 1) us c e))
    (λ d. refused))))

-- ## All parameters

-- after a parameter that ran to the end of its stream nothing is read
ended : (angle n row : ℕ) (us : Trees) (P : List Parameter → List ℕ → Trees → Type 0) → is_end us ≡ true
    → Sound P (rounds n (r.parameter angle) row us)
ended angle zero row us P e = refused
ended angle (suc n) row end P e = refused
ended angle (suc n) row (leaf q us) P e = absurd (false≢true e)
ended angle (suc n) row (group d ts us) P e = absurd (false≢true e)

comma-ended : {us vs : Trees} → CommaAt us vs → is_end us ≡ true → is_end vs ≡ true
comma-ended absent e = e
comma-ended (present c) e = absurd (false≢true e)

rounds_read : (angle n row : ℕ) (ts : Trees)
    → Sound (λ ps rs us. ParametersAt ts ps us) (rounds n (r.parameter angle) row ts)
rounds_read angle zero row ts = refused
rounds_read angle (suc n) row ts = after_met row (parameter_read angle row ts) (go (rounds_read angle n))
  where
    go : ((row : ℕ) (us : Trees) → Sound (λ ps rs vs. ParametersAt us ps vs) (rounds n (r.parameter angle) row us))
        → (m : Maybe Parameter) (rs : List ℕ) (us : Trees) → CommaedAt ts m us → (row : ℕ)
        → Sound (λ ps qs vs. ParametersAt ts ps vs) (more (rounds n (r.parameter angle)) m row us)
    go ih done rs us (last e c) row = met [] us (subst (λ (t : Trees). ParametersAt t [] us) (sym e) (close c))
    go ih (one p) rs vs (commaed {us = us} h c) row = by (is_end us) refl
      where
        by : (e : Bool) → is_end us ≡ e
            → Sound (λ ps qs ws. ParametersAt ts ps ws) ((rounds n (r.parameter angle) >>= λ ps. pure (p ∷ ps)) row vs)
        by true e = after_met row (ended angle n row vs (λ ps qs ws. ⊥) (comma-ended c e)) (λ ps qs ws i row. absurd i)
        by false e = after_met row (ih row vs) (λ ps qs ws i row. met [] ws (next h e c i))

pub generics_read : (row : ℕ) (ts : Trees) → Sound (λ x rs us. GenericsAt ts x) (r.generics row ts)
generics_read row end = met [] end none
generics_read row (group d ts us) = met [] (group d ts us) none
generics_read row (leaf q us) =
    choice (is_punct LESS q)
    (λ e. onward_still (role.angle ∷ [])
    (after_met (row + 1) (rounds_read row (suc (size us)) (row + 1) us) (λ ps rs vs h row. met [] vs (some e h))))
    (λ e. met [] (leaf q us) none)

-- ## The item

-- us is what is left of ts after its first tokens
pub data Later : Trees → Trees → Type 0 where
  here : {ts : Trees} → Later ts ts
  past_leaf : {q : Row} {us vs : Trees} → Later us vs → Later (leaf q us) vs
  past_group : {d : ℕ} {ts us vs : Trees} → Later us vs → Later (group d ts us) vs

later : {ts us vs : Trees} → Later ts us → Later us vs → Later ts vs
later here k = k
later (past_leaf h) k = past_leaf (later h k)
later (past_group h) k = past_group (later h k)

attributes_later : {ts us : Trees} {rs : List ℕ} → g.Attributes everything ts us rs → Later ts us
attributes_later (g.Attributes.none e) = here
attributes_later (g.Attributes.attribute a b h) = past_leaf (past_group (attributes_later h))
attributes_later (g.Attributes.idle u a b h) = past_leaf (attributes_later h)

visibility_later : {ts us : Trees} {rs : List ℕ} → g.Visibility everything ts us rs → Later ts us
visibility_later (g.Visibility.none e) = here
visibility_later (g.Visibility.plain a b) = past_leaf here
visibility_later (g.Visibility.with_scope a b c) = past_leaf (past_group here)
visibility_later (g.Visibility.wrapped a b c) = past_group here
visibility_later (g.Visibility.wrapped_scoped a b c) = past_group (past_group here)

word_later : {is : Row → Bool} {n : ℕ} {ts us : Trees} {rs : List ℕ} → g.Word everything is n ts us rs → Later ts us
word_later (g.Word.ident a) = past_leaf here
word_later (g.Word.wrapped a b) = past_group here

head_later : {is : Row → Bool} {ts us : Trees} {rs : List ℕ} → g.Head everything is ts us rs → Later ts us
head_later (g.Head.head a b) = later (word_later a) (word_later b)

-- the generics x stand in a part of ts
pub record Within (ts : Trees) (x : Generics) : Type 0 where
  pub from : Trees
  pub past : Later ts from
  pub stand : GenericsAt from x

-- what is read last changes nothing of what was read before
kept_read : {A B : Type 0} {P : B → Type 0} (row : ℕ) (t : Took A) (f : A → Reader B)
    → ((a : A) (row : ℕ) (us : Trees) → Sound (λ b rs vs. P b) (f a row us)) → Sound (λ b rs vs. P b) (after row t f)
kept_read row (took a rs us) f k = onward_still rs (k a _ us)
kept_read row (stopped w n p) f k = refused

pub item_read : (row : ℕ) (ts : Trees) → Sound (λ d rs us. Within ts d.generics) (r.item row ts)
item_read row ts =
    after_met row (attributes_sound row ts) (λ a rs us h row. after_met row (visibility_sound row us)
    (λ v qs vs i row. after_met row (data_type_sound row vs) (λ k ps ws j row. after_met row (generics_read row ws)
    (λ x os xs l row. let w : Within ts x = record {
      from = ws;
      past = later (attributes_later h) (later (visibility_later i) (head_later j));
      stand = l;
    } in
    kept_read row (r.clause row xs) _ (λ c row us. kept_read row (r.body_of k.kind row us) _
    (λ b row us. met [] us w))))))

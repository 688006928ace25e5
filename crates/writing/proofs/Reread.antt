-- What was written, read once more: parameter by parameter.
use mathlib.Core.Path.{◌≡◌, refl, ap, ◌∙◌, sym, subst}
use mathlib.Core.Bool.{Bool, true, false, ◌||◌, false≢true}
use mathlib.Core.List.{List, [], ◌∷◌, ◌++◌, map}
use Prim.Native.Nat.{ℕ, ◌+◌}
use lib.ListN.{length}
use Rattle.token_list.specs.Byte.{QUOTE, COMMA, COLON, SEMICOLON, EQUALS, GREATER}
use Rattle.token_list.specs.Text.{same}
use Rattle.token_list.specs.Row.{Row}
use Rattle.token_list.specs.Rows.{ident, punct}
use Rattle.token_list.specs.Stream.{Trees, end, leaf, group, size}
use Rattle.token_list.proofs.Texts.{chosen, passed_over}
use Rattle.reading.specs.Role as role
use Rattle.reading.specs.Token.{is_ident, is_punct, CONST, parameter_stops}
use Rattle.reading.specs.Grammar as g
use Rattle.reading.specs.Grammar.{Difference, everything}
use Rattle.reading.specs.Declaration.{Parameter, lifetime, constant, type}
use Rattle.reading.specs.Took.{Took, took, Cause, stopped, onward, after, ◌>>=◌, pure}
use Rattle.reading.specs.Reading as r
use Rattle.reading.specs.Reading.{Maybe, one, every, more}
use Rattle.reading.proofs.Conserved.{every-step, parameter_round}
use Rattle.writing.specs.ReadBack.{run_of, ends_in_minus_lem, last_minus, without_default_lem, with_commas}
use Rattle.writing.proofs.Joined.{joined}
use Rattle.writing.proofs.Runs.{Alone, ends_in_minus, before-comma, before-angle, AFTER, before_arrow}
use Rattle.writing.proofs.Runs.{alone_length, run-taken, run_value}
use Rattle.writing.proofs.Written.{bounds_then, parameter_then, parted_then}

-- a run by itself
pub record StandsAlone (b : Trees) : Type 0 where
  pub roles : List ℕ
  pub alone : Alone 0 false b roles

-- the parameters' runs
pub data AllStandAlone : List Parameter → Type 0 where
  none : AllStandAlone []
  also : {p : Parameter} {ps : List Parameter} → StandsAlone (run_of p) → AllStandAlone ps → AllStandAlone (p ∷ ps)

-- a type of the name `const`, which is read as a const
abbrev pub type_const : Parameter → Bool
type_const (lifetime n b) = false
type_const (constant n t) = false
type_const (type n b d) = same n CONST

abbrev pub any_const : List Parameter → Bool
any_const [] = false
any_const (p ∷ ps) = type_const p || any_const ps

pub or_parts : (a b : Bool) → (a || b) ≡ false → (a ≡ false) × (b ≡ false)
or_parts true b e = absurd (false≢true (sym e))
or_parts false b e = (refl, e)

-- ## One parameter, and the `,` that may follow

-- a parameter is read, and vs is left
abbrev Read : Took (Maybe Parameter) → Parameter → Trees → Type 0
Read t p vs = (rs : List ℕ) × (t ≡ took (one p) rs vs)

-- the stream of a parameter with `:` and its run, whatever it holds
abbrev colon_then : Parameter → Trees → Trees
colon_then (lifetime n b) us = leaf (punct QUOTE) (leaf (ident n) (leaf (punct COLON) (joined b us)))
colon_then (constant n t) us = leaf (ident CONST) (leaf (ident n) (leaf (punct COLON) (joined t us)))
colon_then (type n b d) us = leaf (ident n) (leaf (punct COLON) (joined b us))

-- the parameter with the run x
abbrev with_run : Trees → Parameter → Parameter
with_run x (lifetime n b) = lifetime n x
with_run x (constant n t) = constant n x
with_run x (type n b d) = type n x end

-- its run ends before us, and vs is left after the `,` that may stand there
module _ (us vs : Trees) (cs : List ℕ) (comma : (p : Parameter) (row : ℕ) → r.comma p row us ≡ took (one p) cs vs)
    (angle row : ℕ) where
  -- after two rows of name
  named_here : (ts : Trees) (f : Trees → Parameter) {b : Trees} {bs : List ℕ}
      → r.optional_run COLON (row + 1 + 1) ts ≡ took b bs us
      → Read (onward (role.parameter-name ∷ []) (after (row + 1) (onward (role.parameter-name ∷ [])
      (after (row + 1 + 1) (r.optional_run COLON (row + 1 + 1) ts) (λ b. pure (f b)))) r.comma)) (f b) vs
  named_here ts f {b = b} {bs = bs} e = (
    _,
    ap (λ (t : Took Trees). onward (role.parameter-name ∷ []) (after (row + 1) (onward (role.parameter-name ∷ [])
        (after (row + 1 + 1) t (λ b. pure (f b)))) r.comma)) e
        ∙ ap (λ (t : Took (Maybe Parameter)). onward (role.parameter-name ∷ [])
        (onward (role.parameter-name ∷ bs ++ []) t))
        (comma (f b) _),
  )

  -- after a type's name
  typed_here : (ts : Trees) (n : List ℕ) {p : Parameter} {rs : List ℕ} → same n CONST ≡ false
      → r.type_after n (row + 1) ts ≡ took p rs us → Read (r.parameter angle row (leaf (ident n) ts)) p vs
  typed_here ts n {p = p} {rs = rs} c e = (
    role.parameter-name ∷ (rs ++ cs),
    passed_over (same n CONST) _ _ c
        ∙ ap (λ (t : Took Parameter). onward (role.parameter-name ∷ []) (after (row + 1) t r.comma)) e
        ∙ ap (λ (t : Took (Maybe Parameter)). onward (role.parameter-name ∷ []) (onward rs t)) (comma p _),
  )

  -- with `:` and a run that is read as x
  run_here : (p : Parameter) (x ws : Trees) (rs : List ℕ) → type_const p ≡ false
      → ((row : ℕ) → r.run parameter_stops role.bound row (joined (run_of p) ws) ≡ took x rs us)
      → Read (r.parameter angle row (colon_then p ws)) (with_run x p) vs
  run_here (lifetime n b) x ws rs c e =
      named_here (leaf (punct COLON) (joined b ws)) (lifetime n)
      (ap (onward (role.separator ∷ [])) (e (row + 1 + 1 + 1)))
  run_here (constant n t) x ws rs c e =
      named_here (leaf (punct COLON) (joined t ws)) (constant n)
      (ap (onward (role.separator ∷ [])) (e (row + 1 + 1 + 1)))
  run_here (type n b d) x ws rs c e =
      typed_here (leaf (punct COLON) (joined b ws)) n {rs = role.separator ∷ rs ++ []} c
      (ap (λ (t : Took Trees). onward (role.separator ∷ []) (after (row + 1 + 1) t (λ b. pure (type n b end))))
      (e (row + 1 + 1)))

-- ## Before a token q that ends its run, and is no `:` and no `=`

pub record Stopping (q : Row) (us b : Trees) : Type 0 where
  pub colon : is_punct COLON q ≡ false
  pub equals : is_punct EQUALS q ≡ false
  pub roles : List ℕ
  pub run : (allowed : Difference → Bool)
      → g.Run allowed parameter_stops role.bound 0 false (joined b (leaf q us)) (leaf q us) roles
  pub counted : length roles ≡ size b

stop_comma : {b : Trees} (us : Trees) → StandsAlone b → Stopping (punct COMMA) us b
stop_comma us w = record {
  colon = refl;
  equals = refl;
  roles = w.roles;
  run = λ x. before-comma x (punct COMMA) us refl w.alone;
  counted = alone_length w.alone;
}

stop_angle : {b : Trees} (us : Trees) → StandsAlone b → ends_in_minus_lem b ≡ false → Stopping (punct GREATER) us b
stop_angle {b} us w e = record {
  colon = refl;
  equals = refl;
  roles = w.roles;
  run = λ x. before-angle x (punct GREATER) us refl (sym (ends_in_minus b) ∙ e) w.alone;
  counted = alone_length w.alone;
}

module _ (q : Row) (us vs : Trees) (cs : List ℕ)
    (comma : (p : Parameter) (row : ℕ) → r.comma p row (leaf q us) ≡ took (one p) cs vs) (angle row : ℕ) where
  no_separator : (m : ℕ) → is_punct m q ≡ false → (row : ℕ) → r.optional_run m row (leaf q us) ≡ took end [] (leaf q us)
  no_separator m e row =
      ap (λ (t : Took Bool). after row t (λ t. r.run_if t parameter_stops role.bound))
      (passed_over (is_punct m q) _ _ e)

  with_run_lem : (p : Parameter) → Stopping q us (run_of p) → type_const p ≡ false
      → Read (r.parameter angle row (colon_then p (leaf q us))) (with_run (run_of p) p) vs
  with_run_lem p s c =
      run_here (leaf q us) vs cs comma angle row p (run_of p) (leaf q us) s.roles c
      (λ row. run_value (run_of p) (s.run everything) refl s.counted row)

  parameter_here : (p : Parameter) → Stopping q us (run_of p) → type_const p ≡ false
      → Read (r.parameter angle row (parameter_then p (leaf q us))) (without_default_lem p) vs
  parameter_here (lifetime n end) s c =
      named_here (leaf q us) vs cs comma angle row (leaf q us) (lifetime n)
      (no_separator COLON s.colon (row + 1 + 1))
  parameter_here (lifetime n (leaf p ts)) s c = with_run_lem (lifetime n (leaf p ts)) s c
  parameter_here (lifetime n (group d ts ws)) s c = with_run_lem (lifetime n (group d ts ws)) s c
  parameter_here (constant n t) s c = with_run_lem (constant n t) s c
  parameter_here (type n end d) s c =
      typed_here (leaf q us) vs cs comma angle row (leaf q us) n {rs = []} c
      (ap (λ (t : Took Bool). after (row + 1) t (r.type_runs n)) (passed_over (is_punct COLON q) _ _ s.colon)
      ∙ ap (λ (t : Took Trees). onward [] (after (row + 1 + 0) t (λ d. pure (type n end d))))
      (no_separator EQUALS s.equals (row + 1 + 0)))
  parameter_here (type n (leaf p ts) d) s c = with_run_lem (type n (leaf p ts) d) s c
  parameter_here (type n (group e ts ws) d) s c = with_run_lem (type n (group e ts ws) d) s c

-- ## All parameters

abbrev REST : Trees
REST = leaf (punct SEMICOLON) end

module _ (angle : ℕ) where
  -- a parameter was read, and then the others, or a refusal came
  others : (row : ℕ) (ts : Trees) {p : Parameter} {us : Trees} {rs : List ℕ} {t : Took (List Parameter)}
      → r.parameter angle row ts ≡ took (one p) rs us → every (r.parameter angle) (row + length rs) us ≡ t
      → every (r.parameter angle) row ts ≡ onward rs (after (row + length rs) t (λ ps. pure (p ∷ ps)))
  others row ts {p} {rs = rs} e f =
      every-step (r.parameter angle) (parameter_round angle) row ts
      ∙ ap (λ (t : Took (Maybe Parameter)). after row t (more (every (r.parameter angle)))) e
      ∙ ap (λ (t : Took (List Parameter)). onward rs (after (row + length rs) t (λ ps. pure (p ∷ ps)))) f

  pub reread : (ps : List Parameter) → AllStandAlone ps → any_const ps ≡ false → last_minus ps ≡ false → (row : ℕ)
      → (rs : List ℕ) × (every (r.parameter angle) row (parted_then true ps AFTER) ≡ took
      (map without_default_lem ps) rs REST)
  reread [] w c l row = (_, every-step (r.parameter angle) (parameter_round angle) row AFTER)
  reread (p ∷ []) (also w ws) c l row =
      let i = parameter_here (punct GREATER) REST AFTER [] (λ p row. refl) angle row p (stop_angle REST w l)
      (or_parts _ _ c).0 in
      let j = reread [] none refl refl (row + length i.0) in
      (_, others row (parameter_then p AFTER) i.1 j.1)
  reread (p ∷ o ∷ ps) (also w ws) c l row =
      let us = parted_then true (o ∷ ps) AFTER in
      let n = or_parts (type_const p) (any_const (o ∷ ps)) c in
      let i = parameter_here (punct COMMA) us us (role.separator ∷ []) (λ p row. refl) angle row p (stop_comma us w)
      n.0 in
      let j = reread (o ∷ ps) ws n.1 l (row + length i.0) in
      (_, others row (parameter_then p (leaf (punct COMMA) us)) i.1 j.1)

  -- ## The exceptions

  abbrev pub Stopped : Took (List Parameter) → Type 0
  Stopped t = (w : Cause) × (n : ℕ) × (p : ℕ) × (t ≡ stopped w n p)

  -- the first parameter is refused
  at_once : (row : ℕ) (ts : Trees) {w : Cause} {n p : ℕ} → r.parameter angle row ts ≡ stopped w n p
      → Stopped (every (r.parameter angle) row ts)
  at_once row ts {w} {n} {p} e = (
    w,
    n,
    p,
    every-step (r.parameter angle) (parameter_round angle) row ts
        ∙ ap (λ (t : Took (Maybe Parameter)). after row t (more (every (r.parameter angle)))) e,
  )

  -- a parameter is read, and then a refusal comes
  later : (row : ℕ) (ts : Trees) {p : Parameter} {us : Trees} {rs : List ℕ}
      → r.parameter angle row ts ≡ took (one p) rs us → Stopped (every (r.parameter angle) (row + length rs) us)
      → Stopped (every (r.parameter angle) row ts)
  later row ts e f = (f.0, f.1, f.2, others row ts e f.3)

  -- a type named `const`: no name follows
  const_refused : (p : Parameter) (q : Row) (us : Trees) → type_const p ≡ true → is_ident q ≡ false → (row : ℕ)
      → Stopped (every (r.parameter angle) row (parameter_then p (leaf q us)))
  const_refused (lifetime n b) q us c i row = absurd (false≢true c)
  const_refused (constant n t) q us c i row = absurd (false≢true c)
  const_refused (type n end d) q us c i row =
      at_once row (leaf (ident n) (leaf q us))
      (chosen (same n CONST) _ _ c
      ∙ ap (λ (t : Took (List ℕ)). onward (role.parameter-name ∷ []) (after (row + 1) (after (row + 1) t
      (λ n. r.optional_run COLON >>= λ t. pure (constant n t))) r.comma)) (passed_over (is_ident q) _ _ i))
  const_refused (type n (leaf p ts) d) q us c i row =
      at_once row (leaf (ident n) (leaf (punct COLON) (joined (leaf p ts) (leaf q us)))) (chosen (same n CONST) _ _ c)
  const_refused (type n (group e ts vs) d) q us c i row =
      at_once row (leaf (ident n) (leaf (punct COLON) (joined (group e ts vs) (leaf q us))))
      (chosen (same n CONST) _ _ c)

  -- a run that ends in `-`: the `>` belongs to it, and the stream gives out
  minus_refused : (p : Parameter) → StandsAlone (run_of p) → type_const p ≡ false → ends_in_minus_lem (run_of p) ≡ true
      → (row : ℕ)
      → Stopped (every (r.parameter angle) row (parameter_then p AFTER))
  minus_refused p w c e row =
      let i = before_arrow (sym (ends_in_minus (run_of p)) ∙ e) w.alone in
      let x = r.first_rows (joined (run_of p) AFTER) (length i.0) in
      let h = run_here end end [] (λ p row. refl) angle row p x AFTER i.0 c (run-taken i.1) in
      subst (λ (ts : Trees). Stopped (every (r.parameter angle) row ts)) (some-run p e)
      (later row (colon_then p AFTER) h.1 (at_once (row + length h.0) end refl))
    where
      some-run : (p : Parameter) → ends_in_minus_lem (run_of p) ≡ true → colon_then p AFTER ≡ parameter_then p AFTER
      some-run (lifetime n end) e = absurd (false≢true e)
      some-run (lifetime n (leaf q ts)) e = refl
      some-run (lifetime n (group d ts us)) e = refl
      some-run (constant n t) e = refl
      some-run (type n end d) e = absurd (false≢true e)
      some-run (type n (leaf q ts) d) e = refl
      some-run (type n (group b ts us) d) e = refl

  pub refused : (ps : List Parameter) → AllStandAlone ps → (any_const ps || last_minus ps) ≡ true → (row : ℕ)
      → Stopped (every (r.parameter angle) row (parted_then true ps AFTER))
  refused [] w e row = absurd (false≢true e)
  refused (p ∷ []) (also w ws) e row = by (type_const p) refl
    where
      by : (c : Bool) → type_const p ≡ c → Stopped (every (r.parameter angle) row (parameter_then p AFTER))
      by true c = const_refused p (punct GREATER) REST c refl row
      by false c = minus_refused p w c (sym (ap (λ (b : Bool). (b || false) || ends_in_minus_lem (run_of p)) c) ∙ e) row
  refused (p ∷ o ∷ ps) (also w ws) e row = by (refused (o ∷ ps) ws) (type_const p) refl
    where
      by : ((any_const (o ∷ ps) || last_minus (o ∷ ps)) ≡ true → (row : ℕ)
          → Stopped (every (r.parameter angle) row (parted_then true (o ∷ ps) AFTER)))
          → (c : Bool) → type_const p ≡ c
          → Stopped
          (every (r.parameter angle) row (parameter_then p (leaf (punct COMMA) (parted_then true (o ∷ ps) AFTER))))
      by ih true c = const_refused p (punct COMMA) (parted_then true (o ∷ ps) AFTER) c refl row
      by ih false c =
          let us = parted_then true (o ∷ ps) AFTER in
          let i = parameter_here (punct COMMA) us us (role.separator ∷ []) (λ p row. refl) angle row p
          (stop_comma us w) c in
          later row (parameter_then p (leaf (punct COMMA) us)) i.1
          (ih (sym (ap (λ (b : Bool). (b || any_const (o ∷ ps)) || last_minus (o ∷ ps)) c) ∙ e) (row + length i.0))

-- ## The commas

module _ (q : Row) (us : Trees) where
  bound_obeys : (b : Trees) → Stopping q us b
      → (rs : List ℕ) × g.Bound with_commas (bounds_then b (leaf q us)) (leaf q us) rs
  bound_obeys end s = ([], g.Bound.none s.colon)
  bound_obeys (leaf p ts) s = (role.separator ∷ s.roles, g.Bound.bound refl (s.run with_commas))
  bound_obeys (group d ts vs) s = (role.separator ∷ s.roles, g.Bound.bound refl (s.run with_commas))

  parameter_obeys : (p : Parameter) → Stopping q us (run_of p) → type_const p ≡ false
      → (rs : List ℕ) × g.Parameter with_commas (parameter_then p (leaf q us)) (leaf q us) rs
  parameter_obeys (lifetime n b) s c =
      let i = bound_obeys b s in
      (role.parameter-name ∷ role.parameter-name ∷ i.0, g.Parameter.lifetime refl refl refl i.1)
  parameter_obeys (constant n t) s c = (
    role.parameter-name ∷ role.parameter-name ∷ role.separator ∷ s.roles,
    g.Parameter.constant refl refl (g.Bound.bound refl (s.run with_commas)) refl,
  )
  parameter_obeys (type n end d) s c = (role.parameter-name ∷ [], g.Parameter.plain c refl s.colon s.equals)
  parameter_obeys (type n (leaf p ts) d) s c =
      (role.parameter-name ∷ role.separator ∷ s.roles, g.Parameter.bounded c refl refl (s.run with_commas))
  parameter_obeys (type n (group e ts vs) d) s c =
      (role.parameter-name ∷ role.separator ∷ s.roles, g.Parameter.bounded c refl refl (s.run with_commas))

pub obeys : (ps : List Parameter) → AllStandAlone ps → any_const ps ≡ false → last_minus ps ≡ false
    → (rs : List ℕ) × g.Parameters with_commas (parted_then true ps AFTER) REST rs
obeys [] w c l = (role.angle ∷ [], g.Parameters.close refl)
obeys (p ∷ []) (also w ws) c l =
    let i = parameter_obeys (punct GREATER) REST p (stop_angle REST w l) (or_parts _ _ c).0 in
    (_, g.Parameters.next i.1 (g.Separator.absent refl) refl refl (g.Parameters.close refl))
obeys (p ∷ o ∷ ps) (also w ws) c l =
    let us = parted_then true (o ∷ ps) AFTER in
    let n = or_parts (type_const p) (any_const (o ∷ ps)) c in
    let i = parameter_obeys (punct COMMA) us p (stop_comma us w) n.0 in
    let j = obeys (o ∷ ps) ws n.1 l in
    (_, g.Parameters.next i.1 (g.Separator.present refl) refl refl j.1)

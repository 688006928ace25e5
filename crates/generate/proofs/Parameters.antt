-- Declared parameters: what their records tell, and the rows that are made of them.
use mathlib.Core.Path.{◌≡◌, refl, ap, ◌∙◌, sym, subst}
use mathlib.Core.Bool.{Bool, true, false}
use mathlib.Core.List.{List, [], ◌∷◌, ◌++◌, map}
use Prim.Native.Nat.{ℕ, ◌-◌, ◌<◌}
use native.Mathlib.Omega.{arith}
use lib.ListN.{length}
use Rattle.std.specs.Prelude.{Result, Ok, Err}
use Rattle.token_list.specs.Check.{check, passed}
use Rattle.token_list.specs.Stream.{Trees, end}
use Rattle.token_list.specs.Contract.{InList}
use Rattle.token_list.specs.declared.check.Cursor.{Cursor}
use Rattle.token_list.specs.declared.check.Refusal.{Refusal}
use Rattle.reading.specs.Role as role
use Rattle.reading.specs.Token.{parameter_stops}
use Rattle.reading.specs.Declaration.{Parameter, lifetime, constant, type}
use Rattle.reading.specs.Took.{Took, took, Point, past_taken}
use Rattle.reading.specs.Reading.{Maybe, one, run, parameter, every}
use Rattle.reading.specs.Place.{past_token_lem, parameter_name_at}
use Rattle.reading.proofs.SoundTokens.{met_by}
use Rattle.reading.proofs.Conserved.{parameter_round}
use Rattle.parse.specs.Contract.{on, Meets, stream, point, TokenIn, InsideAt, RunAt, ParameterRunAt, ParameterOf}
use Rattle.parse.specs.Contract.{parameter_kind, bound_of_lem, default_of, parameter_shown, parameter_said}
use Rattle.parse.specs.declared.runs.Run.{Run}
use Rattle.parse.specs.declared.generics.RunPart.{RunPart}
use Rattle.parse.specs.declared.generics.RunPart.TheVariants as run_parts
use Rattle.parse.specs.declared.runs.Run.{Run}
use Rattle.parse.specs.declared.generics.ParameterAt.{ParameterAt}
use Rattle.parse.specs.declared.utils.Next.{Next}
use Rattle.parse.specs.declared.utils.Next.TheVariants.{One, Done}
use Rattle.parse.proofs.Inside.{meets_tells, inside-more, inside_done, inside_refused, forward}
use Rattle.writing.specs.Rows.{sent}
use Rattle.writing.specs.Generics.{parameter_rows, sent_parameter, named, parted}
use Rattle.writing.proofs.Read as read
use Rattle.writing.proofs.Copied.{copied}
use Rattle.generate.specs.Contract.{Appended, constrained, constraints_of, is_const, RunIn, ParameterIn}
use Rattle.generate.specs.Contract.{name_rows, const_rows, goes_out}
use Rattle.generate.specs.declared.stream_builder.ListBuilder.{ListBuilder}
use Rattle.generate.proofs.Builds.{then}
use Rattle.generate.proofs.Copying.{run-between}
use Rattle.generate.proofs.Added.{Adding, adding-more, adding_last}

-- ## Rows of one parameter

-- the word of a const, the name, and the constraints
parts : (a : Parameter)
    → (const_rows (is_const (parameter_kind a)) ++ name_rows a) ++ constrained (is_const (parameter_kind a)) (sent
    (bound_of_lem a))
    ≡ parameter_rows (sent_parameter a)
parts (lifetime n b) = refl
parts (constant n t) = refl
parts (type n b d) = refl

pub by_parts : {b c d r : ListBuilder} {s : List ℕ} {p : ParameterAt} {const : Bool}
    {a : Parameter} → ParameterIn s p a → const ≡ is_const p.kind → Appended b c (const_rows const)
    → Appended c d (name_rows a) → Appended d r (constrained const (sent (bound_of_lem a)))
    → Appended b r (parameter_rows (sent_parameter a))
by_parts {b} {r = r} {a = a} i e x y z =
    let same = e ∙ ap is_const i.name.told.kind in
    subst (Appended b r)
    (ap (λ (q : Bool). (const_rows q ++ name_rows a) ++ constrained q (sent (bound_of_lem a))) same ∙ parts a) (then
    (then x y) z)

-- a name goes out without a run
named-sent : (a : Parameter) → named a ≡ named (sent_parameter a)
named-sent (lifetime n b) = refl
named-sent (constant n t) = refl
named-sent (type n b d) = refl

module _ {b r : ListBuilder} {names : Bool} (a : Parameter) where
  pub as_name : names ≡ true → Appended b r (name_rows a) → Appended b r (parameter_rows (goes_out names a))
  as_name e h = rw e (subst (λ (p : Parameter). Appended b r (parameter_rows p)) (named-sent a) h)

  pub as_it_stands : names ≡ false → Appended b r (parameter_rows (sent_parameter a))
      → Appended b r (parameter_rows (goes_out names a))
  as_it_stands e h = rw e h

-- ## What the record of a parameter tells, in a list that passes the check

module _ {s : List ℕ} {n : ℕ} (passes : check s ≡ passed n) where
  run_in : {x : Point} {r : Run} {ts : Trees} → RunAt s parameter_stops role.bound x r ts
      → RunIn s (record { from = r.from; to = r.to }) ts
  run_in {x} {r} {ts} h =
      let from = h.from in
      let to = h.to in
      let inside = h.tokens in
      let taken : Took Trees = took ts inside.roles inside.rest in
      let q = met_by (subst (read.CutBy (stream s r.from)) inside.gives
      (read.run_cut r.from.row (stream s r.from))) in
      let past : point s r.to ≡ past_taken (point s r.from) taken =
      to.here ∙ ap (λ (y : Point). past_taken y (run parameter_stops role.bound y.row y.stream)) (sym from.here)
      ∙ ap (past_taken (point s r.from)) inside.gives in
      let row = ap (λ (y : Point). y.row) past in
      let c = copied s r.from r.to ts inside.rest passes from.in_list to.in_list q.0
      (omega (arith, row, q.1)) in
      run-between c from.in_list to.in_list

  -- an empty part at a cursor
  empty_in : {d : Cursor} → InList s d → RunIn s (record { from = d; to = d }) end
  empty_in {d} i =
      run-between (copied s d d end (stream s d) passes i i refl (omega arith)) i i

  constraints_in : (x : Point) (bound default : Trees) (m : RunPart) (r : Run) {d : Cursor} → InList s d
      → ParameterRunAt s x bound default m r → RunIn s (constraints_of m r d) bound
  constraints_in x bound default run_parts.Absent r i h = subst (RunIn s _) (sym h.1) (empty_in i)
  constraints_in x bound default run_parts.Bound r i h = run_in h.0.1
  constraints_in x bound default run_parts.Default r i h = subst (RunIn s _) (sym h.1) (empty_in i)

  pub parameter_in : (x : Point) (p : ParameterAt) (a : Parameter) → InList s p.next
      → ParameterOf s p.kind p.name a × TokenIn s x.row p.name
      × ParameterRunAt s (past_token_lem x) (bound_of_lem a) (default_of a) p.part p.run
      → ParameterIn s p a
  parameter_in x p a i h =
      record {
        name = record { told = h.0; start = h.1.text };
        run = constraints_in (past_token_lem x) (bound_of_lem a) (default_of a) p.part p.run i h.2;
      }

-- ## One parameter after the other

-- of the parameters ps that are read from a cursor on: so many were added, and the others are read at c
pub record Rest (f : Parameter → Parameter) (extra : List Parameter) (angle : ℕ) (s : List ℕ) (c : Cursor)
    (first : Bool) (b r : ListBuilder) (leading : Bool) (ps : List Parameter) : Type 0 where
  pub others : List Parameter
  pub inside : InsideAt (every (parameter angle)) s c others
  pub added : Adding (map f ps ++ extra) first b r leading (map f others ++ extra)

-- from one turn to the next
pub record Turned (f : Parameter → Parameter) (extra : List Parameter) (angle : ℕ) (s : List ℕ) (from c : Cursor)
    (first : Bool) (b r : ListBuilder) (leading : Bool) : Type 0 where
  pub in_list : InList s c
  pub rest : (ps : List Parameter) → InsideAt (every (parameter angle)) s from ps
      → Rest f extra angle s c first b r leading ps

module _ {f : Parameter → Parameter} {extra : List Parameter} {angle : ℕ} {s : List ℕ} {from c : Cursor} {first : Bool}
    {b r : ListBuilder} {roles : List ℕ} {leading : Bool} (t : Turned f extra angle s from c first b r leading) where
  -- one parameter more, which the reader's answer tells
  module _ {roles₁ : List ℕ} (p : ParameterAt)
      (w : Meets s c roles roles₁ (parameter_shown s (parameter_name_at (point s c)) (Ok (One p))) (on p.next)
      (parameter angle c.row (stream s c))) where
    abbrev Told : Parameter → Type 0
    Told a =
        ParameterOf s p.kind p.name a × TokenIn s (parameter_name_at (point s c)).row p.name
        × ParameterRunAt s (past_token_lem (parameter_name_at (point s c))) (bound_of_lem a)
        (default_of a) p.part p.run

    told : (v : Maybe Parameter) → parameter_shown s (parameter_name_at (point s c)) (Ok (One p)) v
        → (a : Parameter) × (v ≡ one a) × Told a
    told v h = (h.0, h.1, (h.2, h.3, h.4))

    pub turned-less : length s - p.next.at < length s - c.at
    turned-less =
        let n = forward (parameter angle) (parameter_round angle) w told in
        omega (arith, n.0, n.1.within)

    pub turned-in : {n : ℕ} → check s ≡ passed n → (a : Parameter) × ParameterIn s p a
    turned-in passes =
        let n = forward (parameter angle) (parameter_round angle) w told in
        let m = (meets_tells w).4 in
        (m.0, parameter_in passes (parameter_name_at (point s c)) p m.0 n.1 (m.2, m.3, m.4))

    pub turned_more : {n : ℕ} {d : ListBuilder} → check s ≡ passed n
        → ((a : Parameter) → ParameterIn s p a → Appended r d (parted leading (f a ∷ [])))
        → Turned f extra angle s from p.next first b d false
    turned_more passes add =
        let n = forward (parameter angle) (parameter_round angle) w told in
        record {
          in_list = n.1;
          rest = λ ps inside.
              let z = t.rest ps inside in
              let one = inside-more (parameter angle) (parameter_round angle) z.inside w told in
              let in_list = parameter_in passes (parameter_name_at (point s c)) p one.first n.1 one.shown in
              record {
                others = one.others;
                inside = one.inside;
                added = adding-more (rw one.split at z.added) (add one.first in_list);
              };
        }

  -- the closing `>`, and what is added then; a refusal does not stand there
  pub turned_done : {roles₁ : List ℕ} {d : ListBuilder} (x : Result (Next ParameterAt Cursor) Refusal)
      → Meets s c roles roles₁ (parameter_shown s (parameter_name_at (point s c)) x) (parameter_said x)
      (parameter angle c.row (stream s c))
      → ((p : ParameterAt) → x ≡ Ok (One p) → ⊥) → Appended r d (parted leading extra)
      → (ps : List Parameter) → InsideAt (every (parameter angle)) s from ps
      → Appended b d (parted first (map f ps ++ extra))
  turned_done (Ok (One p)) w none last ps inside = absurd (none p refl)
  turned_done (Ok (Done e)) w none last ps inside =
      let z = t.rest ps inside in
      let end = inside_done (parameter angle) (parameter_round angle) z.inside w (λ v h. h) in
      adding_last (rw end at z.added) last
  turned_done (Err e) w none last ps inside =
      inside_refused (parameter angle) (parameter_round angle) (t.rest ps inside).inside w

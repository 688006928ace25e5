-- The answer of the reader of declarations keeps the promise on roles.
use mathlib.Core.Path.{◌≡◌, refl, ap, ◌∙◌, sym, subst}
use mathlib.Core.Logic.{◌↔◌}
use mathlib.Core.Bool.{Bool, true, false, true≢false, false≢true}
use mathlib.Core.List.{List, ◌++◌}
use Prim.Native.Nat.{ℕ, ◌-◌, ◌≤◌}
use native.Mathlib.Omega.{arith}
use borrow.Author.Tests.{ltb-true, ltb-false}
use lib.Dec.{ltb}
use lib.ListN.{length, replicate, length-append, length-replicate}
use Rattle.token_list.specs.Layout.{first_row}
use Rattle.token_list.specs.Check as list
use Rattle.token_list.specs.Stream.{Trees, size, at}
use Rattle.token_list.proofs.Passed.{passed_list}
use Rattle.reading.specs.Role as role
use Rattle.reading.specs.Grammar.{Obeys, everything}
use Rattle.reading.specs.Declaration.{Declaration}
use Rattle.reading.specs.Took.{Took, took, Cause, stopped}
use Rattle.reading.specs.Reading.{item}
use Rattle.reading.specs.Answer.{Answer, refused, item_answer, answer, buffer, accepts}
use Rattle.reading.specs.Promise.{OneEach, Assigns, Assignment, SingleAssignment}
use Rattle.reading.proofs.Frame.{framed_cases}
use Rattle.reading.proofs.Rounds.{both_roles, same_roles}
use Rattle.reading.proofs.Conserved.{conserved, item_conserved}
use Rattle.reading.proofs.GrammarSound.{obeys_sound}
use Rattle.reading.proofs.GrammarComplete.{Read, obeys_complete}

-- ## The promise of any grammar

module _ {is_role : ℕ → Bool} {Obeying : List ℕ → Type 0} {s : List ℕ} {room : ℕ} where
  -- accepted exactly when there is an assignment that obeys
  pub exactly : {accepted : Bool} {buffer : List ℕ} → Assigns is_role Obeying s room accepted buffer → (rows : ℕ) →
      list.check s ≡ list.Answer.passed rows → rows ≤ room → (accepted ≡ true) ↔ ((roles : List ℕ) × Obeying roles)
  exactly a rows e l = ((λ t. ((a.sound t).3, (a.sound t).4)), (λ o. a.complete rows e l o.0 o.1))

  module _ (each : (rows : ℕ) → list.check s ≡ list.Answer.passed rows → (roles : List ℕ) → Obeying roles →
      OneEach is_role rows roles)
      (unambiguous : (roles others : List ℕ) → Obeying roles → Obeying others → roles ≡ others)
      {accepted : Bool} {buffer : List ℕ} where
    pub assigns_none : accepted ≡ false → buffer ≡ replicate room role.none →
        ((rows : ℕ) → list.check s ≡ list.Answer.passed rows → rows ≤ room → (roles : List ℕ) → Obeying roles → ⊥)
        → Assigns is_role Obeying s room accepted buffer
    assigns_none f c h = record {
      sound = λ t. absurd (false≢true (sym f ∙ t));
      complete = λ rows e l roles o. absurd (h rows e l roles o);
      unambiguous = unambiguous;
      each = each;
      cleared = λ t. c;
    }

    pub assigns_one : (rows : ℕ) (roles : List ℕ) → list.check s ≡ list.Answer.passed rows → rows ≤ room →
        Obeying roles → accepted ≡ true → buffer ≡ roles ++ replicate (room - length roles) role.none
        → Assigns is_role Obeying s room accepted buffer
    assigns_one rows roles e l o f b = record {
      sound = λ t. (
        rows,
        e,
        l,
        roles,
        o,
        b ∙ ap (λ (m : ℕ). roles ++ replicate (room - m) role.none) (each rows e roles o).counted,
      );
      complete = λ k q i rs p. f;
      unambiguous = unambiguous;
      each = each;
      cleared = λ t. absurd (true≢false (sym f ∙ t));
    }

-- ## Assignments of a stream

pub obeys_unique : {ts : Trees} (rs qs : List ℕ) → Obeys everything ts rs → Obeys everything ts qs → rs ≡ qs
obeys_unique rs qs h k = go (obeys_complete h) (obeys_complete k)
  where
    go : {ts : Trees} → Read ts rs → Read ts qs → rs ≡ qs
    go a b =
        let same : took a.declaration a.taken a.rest ≡ took b.declaration b.taken b.rest =
        sym a.reading ∙ b.reading in
        let t : a.taken ≡ b.taken = cc same in
        let u : a.rest ≡ b.rest = cc same in
        a.roles ∙ (λ i. t i ++ replicate (size (u i)) role.left_over) ∙ sym b.roles

pub obeys_each : {ts : Trees} (rs : List ℕ) → Obeys everything ts rs → OneEach (λ r. ltb r role.count) (size ts) rs
obeys_each {ts} rs h =
    let a = obeys_complete h in
    let k = conserved (item_conserved ts a.reading) in
    let left = replicate (size a.rest) role.left_over in
    record {
      counted = ap length a.roles ∙ omega (
        arith,
        k.rows,
        length-append a.taken left,
        length-replicate (size a.rest) role.left_over,
      );
      named = rw a.roles (both_roles a.taken left k.roles (same_roles (size a.rest) role.left_over refl));
    }

never : {d : Declaration} {rs : List ℕ} {us : Trees} {w : Cause} {n p : ℕ} → took d rs us ≡ stopped w n p → ⊥
never e = let z : ◌≡◌ {A = ℕ} 0 1 = cc in omega arith

-- ## Lists

module _ (s : List ℕ) (n : ℕ) where
  one_each : (k : ℕ) → list.check s ≡ list.Answer.passed k → (roles : List ℕ) → Assignment s roles →
      OneEach (λ r. ltb r role.count) k roles
  one_each k e roles o =
      subst (λ (n : ℕ). OneEach (λ r. ltb r role.count) n roles) (passed_list s k e).size (obeys_each roles o)

  refusing : (m p : ℕ) →
      ((k : ℕ) → list.check s ≡ list.Answer.passed k → k ≤ n → (roles : List ℕ) → Assignment s roles → ⊥)
      → SingleAssignment s n (accepts (refused m p)) (buffer n (refused m p))
  refusing m p = assigns_none one_each obeys_unique refl refl

  by_item : (k : ℕ) → list.check s ≡ list.Answer.passed k → k ≤ n → (t : Took Declaration) →
      item 0 (at s (first_row s)).here ≡ t → SingleAssignment s n (accepts (item_answer t)) (buffer n (item_answer t))
  by_item k e l (took d rs us) i =
      assigns_one one_each obeys_unique k (rs ++ replicate (size us) role.left_over) e l (obeys_sound i) refl refl
  by_item k e l (stopped w m p) i =
      refusing m p (λ j f g roles o. let a = obeys_complete o in never (sym a.reading ∙ i))

  -- the whole answer and the whole buffer, as they are defined
  pub promise : SingleAssignment s n (accepts (answer s n)) (buffer n (answer s n))
  unfolding answer
  promise =
      framed_cases (λ (a : Answer). SingleAssignment s n (accepts a) (buffer n a)) refused (λ rows. ltb n rows)
      item_answer s
      (λ m p e. refusing m p (λ j f i roles o. let q = sym f ∙ e in let z : ◌≡◌ {A = ℕ} 0 1 = cc in omega arith))
      (λ k e l. refusing 8 list.END (λ j f i roles o. let q : j ≡ k =
      cc (sym f ∙ e) in omega (arith, ltb-true n k l)))
      (λ k e l. by_item k e (ltb-false n k l))

  -- the same, of a Bool and bytes that are equal to these
  pub promise_of : (accepted : Bool) (after : List ℕ) → accepted ≡ accepts (answer s n) →
      after ≡ buffer n (answer s n) → SingleAssignment s n accepted after
  promise_of accepted after e f = rw (e, f) promise

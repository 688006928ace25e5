use Rattle.parse.proofs.Meeting as meeting
use Rattle.parse.specs.Contract as contract
use Rattle.reading.specs.Reading as reading
use Rattle.parse.proofs.Places as places
use Rattle.reading.specs.Took.{Point}
use Rattle.reading.specs.Token.{starts}
use Rattle.reading.specs.Role as role
use Rattle.reading.specs.Declaration.{constrained}
use Rattle.token_list.proofs.Texts.{chosen, passed_over}
use Rattle.token_list.specs.Contract.{InList, stands}
use Rattle.token_list.specs.declared.check.Cursor.{Cursor}
use Rattle.token_list.specs.declared.stream.Token.{Token}
use Rattle.token_list.specs.declared.stream.Peeked.{Peeked}
use Rattle.token_list.specs.declared.stream.Peeked.TheVariants as peeked
use Rattle.std.specs.Prelude.{Ok, None}
use Prim.Native.Nat.{ℕ}
use mathlib.Core.List.{List}
use mathlib.Core.Path.{◌≡◌, refl, sym, ◌∙◌, ap, subst}
use Rattle.parse.proofs.generics.try_take_constraints.Goals as goal

-- no clause stands where no leaf does
no_leaf : (s : List ℕ) (c : Cursor) (b : List ℕ) → InList s c → (p : Peeked) → stands s c.at p
    → ((t : Token) → p ≡ peeked.Leaf t → ⊥)
    → contract.Meets s c b b (contract.clause_shown s (contract.point s c) (Ok (None, c))) (contract.on c)
    (reading.clause c.row (contract.stream s c))
no_leaf s c b i peeked.Nothing k n = meeting.meets_same reading.clause s c i _ b _ _ k refl refl
no_leaf s c b i (peeked.Group g) k n = meeting.meets_same reading.clause s c i _ b _ _ k.here refl refl
no_leaf s c b i (peeked.Leaf t) k n = absurd (n t refl)

pub returns-in_default : goal.returns-in_default
returns-in_default c =
    no_leaf c.args.s.now c.args.c c.args.roles.now c.requires c.peek.result c.peek.ensures c.in_default.not-Leaf

pub returns-then-not-ident_eq : goal.returns-then-not-ident_eq
returns-then-not-ident_eq c =
    meeting.meets_same reading.clause _ _ c.requires _ _ _ _ c.in-Leaf.ensures.here
    (passed_over _ _ _ (sym c.if-not-ident_eq.ensures)) refl

pub read_tokens_until_punct-requires : goal.read_tokens_until_punct-requires
read_tokens_until_punct-requires c =
    meeting.past_in_of _ _ _ _ c.take_token-next.ensures.value c.requires c.in-Leaf.ensures.token

pub returns-in_err-run : goal.returns-in_err-run
returns-in_err-run c =
    meeting.meets_given_up contract.clause_said (contract.clause_shown c.args.s.now
    (contract.point c.args.s.now c.args.c)) c.from_residual.ensures.1
    (meeting.meets_from reading.clause _ _ c.requires _ _ c.in-Leaf.ensures _ _ _ _ c.take_token-next.ensures.value
    c.take_token-next.ensures.roles_after _ _ reading.clause_after (chosen _ _ _ (sym c.if-not-ident_eq.ensures))
    (meeting.meets_no _ c.in_err-run.ensures))

pub returns : goal.returns
returns c = let l = c.in-Leaf.ensures in
    let is = sym c.if-not-ident_eq.ensures in
    let there = ap (starts (reading.is_word reading.WHERE)) l.here ∙ is in
    let past = (places.token_past _ _ _ _ c.requires l c.take_token-next.ensures.value).here in
    meeting.meets_from reading.clause _ _ c.requires _ _ l _ _ _ _ c.take_token-next.ensures.value
    c.take_token-next.ensures.roles_after _ _ reading.clause_after (chosen _ _ _ is)
    (meeting.meets_map _ constrained
    (λ v h. (
      v,
      refl,
      there,
      subst (λ (p : Point). contract.RunAt c.args.s.now reading.clause_stops role.where_run p c.in_ok-run.run' v) past
          h.1,
    ))
    c.in_ok-run.ensures)

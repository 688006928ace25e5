use Rattle.parse.proofs.Meeting as meeting
use Rattle.parse.specs.Contract as contract
use Rattle.reading.specs.Reading as reading
use Rattle.parse.proofs.Places as places
use Rattle.parse.specs.declared.generics.ParameterAt.{ParameterAt}
use Rattle.parse.specs.declared.generics.ParameterKind.TheVariants as kinds
use Rattle.parse.specs.declared.utils.Next.{Next}
use Rattle.token_list.specs.declared.check.Cursor.{Cursor}
use Rattle.token_list.specs.declared.check.Refusal.{Refusal}
use Rattle.token_list.specs.Check.{END}
use Rattle.reading.specs.Declaration.{Parameter}
use Rattle.reading.specs.Took.{Point}
use Rattle.std.specs.Prelude.{Result}
use lib.Seq.{slice}
use Rattle.token_list.proofs.Texts.{chosen, passed_over, and_fails}
use borrow.Author.Tests.{eq-eqb, ne_eqb}
use Prim.Native.Nat.{ℕ}
use mathlib.Core.List.{List}
use mathlib.Core.Path.{◌≡◌, refl, sym, ◌∙◌, subst}
use Rattle.parse.proofs.generics.parameter.Goals as goal

-- where the name stands, said otherwise
named-at : (s : List ℕ) (r : Result (Next ParameterAt Cursor) Refusal) {x y : Point} → x ≡ y
    → (v : reading.Maybe Parameter) → contract.parameter_shown s x r v → contract.parameter_shown s y r v
named-at s r e v h = subst (λ (x : Point). contract.parameter_shown s x r v) e h

pub named_parameter-requires : goal.named_parameter-requires
named_parameter-requires c =
    meeting.past_in_of _ _ _ _ c.take_token-next.ensures.value c.requires c.in-Leaf.ensures.token

pub returns-then-is_punct : goal.returns-then-is_punct
returns-then-is_punct c = let l = c.in-Leaf.ensures in
    let quote = meeting.punct_of _ _ _ _ l.token ∙ sym c.if-is_punct.ensures in
    meeting.meets_from (reading.parameter c.args.angle) _ _ c.requires _ _ l _ _ _ _ c.take_token-next.ensures.value
    c.take_token-next.ensures.roles_after _ _ (contract.named_parameter 24 c.args.c.row kinds.Lifetime)
    (chosen _ _ _ quote)
    (meeting.meets_show (named-at c.args.s.now c.named_parameter.result
    (places.after-quote _ _ _ _ c.requires l c.take_token-next.ensures.value quote)) c.named_parameter.ensures)

pub returns-then-is_punct-2 : goal.returns-then-is_punct-2
returns-then-is_punct-2 c = let l = c.in-Leaf.ensures in
    let no-quote = meeting.punct_of _ _ _ _ l.token ∙ sym c.if-is_punct.ensures in
    let angle = meeting.punct_of _ _ _ _ l.token ∙ sym c.if-is_punct-2.ensures in
    meeting.meets_leaf (reading.parameter c.args.angle) _ _ c.requires _ _ l _ _ _ _ c.take_token.ensures.value
    c.take_token.ensures.roles_after _ (passed_over _ _ _ no-quote ∙ chosen _ _ _ angle) refl

pub returns-then-t-ne105 : goal.returns-then-t-ne105
returns-then-t-ne105 c = let l = c.in-Leaf.ensures in
    let no-quote = meeting.punct_of _ _ _ _ l.token ∙ sym c.if-is_punct.ensures in
    let no-angle = meeting.punct_of _ _ _ _ l.token ∙ sym c.if-is_punct-2.ensures in
    let no-ident = ne_eqb _ _ c.if-t-ne105.true in
    meeting.meets_refused (reading.parameter c.args.angle) _ _ c.requires _ _ _ _ _ l.here
    (passed_over _ _ _ no-quote ∙ passed_over _ _ _ no-angle ∙ passed_over _ _ _ (and_fails _ _ no-ident) ∙
    passed_over _ _ _ no-ident)

pub named_parameter-requires-then-ident_eq : goal.named_parameter-requires-then-ident_eq
named_parameter-requires-then-ident_eq c =
    meeting.past_in_of _ _ _ _ c.take_token-next-in-Leaf.ensures.value c.requires c.in-Leaf.ensures.token

pub returns-then-ident_eq : goal.returns-then-ident_eq
returns-then-ident_eq c = let l = c.in-Leaf.ensures in
    let past = c.take_token-next-in-Leaf.ensures in
    let no-quote = meeting.punct_of _ _ _ _ l.token ∙ sym c.if-is_punct.ensures in
    let no-angle = meeting.punct_of _ _ _ _ l.token ∙ sym c.if-is_punct-2.ensures in
    let const = sym c.if-ident_eq.ensures in
    meeting.meets_from (reading.parameter c.args.angle) _ _ c.requires _ _ l _ _ _ _ past.value past.roles_after _ _
    (contract.named_parameter 27 END kinds.Const)
    (passed_over _ _ _ no-quote ∙ passed_over _ _ _ no-angle ∙ chosen _ _ _ const)
    (meeting.meets_show (named-at c.args.s.now c.named_parameter-then-ident_eq.result
    (places.after_const _ _ _ _ c.requires l past.value no-quote const)) c.named_parameter-then-ident_eq.ensures)

pub simple_generic-requires : goal.simple_generic-requires
simple_generic-requires c =
    meeting.past_in_of _ _ _ _ c.take_token-next-in-Leaf.ensures.value c.requires c.in-Leaf.ensures.token

pub returns-in-Nothing : goal.returns-in-Nothing
returns-in-Nothing c = meeting.meets_refused (reading.parameter c.args.angle) _ _ c.requires _ _ _ _ _
    c.in-Nothing.ensures refl

pub returns-in-Group : goal.returns-in-Group
returns-in-Group c = meeting.meets_refused (reading.parameter c.args.angle) _ _ c.requires _ _ _ _ _
    c.in-Group.ensures.here refl

pub returns-else-ident_eq : goal.returns-else-ident_eq
returns-else-ident_eq c = let l = c.in-Leaf.ensures in
    let past = c.take_token-next-in-Leaf.ensures in
    let no-quote = meeting.punct_of _ _ _ _ l.token ∙ sym c.if-is_punct.ensures in
    let no-angle = meeting.punct_of _ _ _ _ l.token ∙ sym c.if-is_punct-2.ensures in
    let no-const = sym c.if-ident_eq.ensures in
    let text = slice c.in-Leaf.t.start c.in-Leaf.t.end c.args.s.now in
    let named = c.simple_generic.ensures text (contract.point c.args.s.now c.args.c)
    (record { bytes = refl; within = meeting.token_within _ _ _ l.token }) (places.token_in _ _ _ c.requires l.token)
    (places.token_past _ _ _ _ c.requires l past.value).here in
    meeting.meets_from (reading.parameter c.args.angle) _ _ c.requires _ _ l _ _ _ _ past.value past.roles_after _ _
    (contract.after_name text)
    (passed_over _ _ _ no-quote ∙ passed_over _ _ _ no-angle ∙ passed_over _ _ _ no-const ∙
    chosen _ _ _ (eq-eqb _ _ c.if-t-ne105.false))
    (meeting.meets_show (named-at c.args.s.now c.simple_generic.result
    (places.name_itself c.args.s.now c.args.c c.args.c _ c.requires l no-quote no-const)) named)

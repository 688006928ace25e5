use Rattle.parse.proofs.Loops.{gathering_start, gathering_more, gathering_meets}
use Rattle.parse.specs.declared.attributes.AttributeAt.{AttributeAt}
use Rattle.token_list.specs.declared.check.Cursor.{Cursor}
use Rattle.std.specs.Prelude.{Option, Ok}
use Prim.Native.Nat.{ℕ}
use mathlib.Core.List.{List, []}
use mathlib.Core.Path.{◌≡◌, subst}
use native.Mathlib.Omega.{arith}
use Rattle.parse.proofs.Meeting as meeting
use Rattle.parse.specs.Contract as contract
use Rattle.parse.proofs.attributes.try_take.Goals as goal

told : (s : List ℕ) (c : Cursor) (b0 b1 : List ℕ) {t u : Option AttributeAt} → t ≡ u
    → contract.AttributeRead s c b0 b1 (Ok t) → contract.AttributeRead s c b0 b1 (Ok u)
told s c b0 b1 e h = subst (λ t. contract.AttributeRead s c b0 b1 (Ok t)) e h

pub loop-a-init : goal.loop-a-init
loop-a-init c = gathering_start _ _ _ _ c.requires

pub attribute-requires : goal.attribute-requires
attribute-requires c = c.loop-a.invariant.moved.in_list

pub returns-in_err-a : goal.returns-in_err-a
returns-in_err-a c =
    meeting.meets_given_up contract.step_said (λ r. contract.any) c.from_residual.ensures.1
    (gathering_meets c.loop-a.invariant
    (meeting.meets_as c.in_err-a.ensures.1 (contract.refuses [] c.in_err-a.ensures.2)))

pub loop-a-smaller : goal.loop-a-smaller
loop-a-smaller c = let b = (told _ _ _ _ c.in-Some.is c.in_ok-a.ensures).0 in
    omega (arith, b.moved.forth, b.some, b.moved.in_list.within)

pub loop-a-preserved : goal.loop-a-preserved
loop-a-preserved c = gathering_more c.loop-a.invariant (told _ _ _ _ c.in-Some.is c.in_ok-a.ensures).0

pub returns : goal.returns
returns c = let b = told _ _ _ _ c.in_default.is c.in_ok-a.ensures in
    gathering_meets c.loop-a.invariant (meeting.meets_still _ c.loop-a.invariant.moved.in_list b.0 b.1 tt)

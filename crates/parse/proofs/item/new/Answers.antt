use Rattle.parse.proofs.Items as items
use Rattle.reading.proofs.Promise.{promise_of}
use Rattle.parse.specs.declared.item.ItemAt.{ItemAt}
use Rattle.token_list.specs.declared.check.Refusal.{Refusal}
use Rattle.reading.specs.Promise.{SingleAssignment}
use Rattle.std.specs.Prelude.{Result}
use lib.ListN.{length}
use Prim.Native.Nat.{ℕ}
use mathlib.Core.List.{List}
use mathlib.Core.Path.{sym}
use Rattle.parse.specs.Contract.{Answered, accepted}
use Rattle.parse.proofs.item.new.Goals as goal

-- an answer assigns each row once
assigned-by : {s : List ℕ} {r : Result ItemAt Refusal} {b0 b1 : List ℕ} → Answered s r b0 b1
    → SingleAssignment s (length b0) (accepted r) b1
assigned-by {s} {r} {b0} {b1} h = promise_of s (length b0) (accepted r) b1 (items.accepted_as h) h.buffer

pub returns-in-Err : goal.returns-in-Err
returns-in-Err c =
    let h = items.answered_refused c.args.s.now c.args.roles.now c.in-Err.r c.refuse.ensures.value
    (items.answer_refused c.args.s.now _ _ _ (sym c.in-Err.ensures.answer)) c.refuse.ensures.roles_after in
    record { answered = h; assigned = assigned-by h }

pub returns-in-Ok-clause-assigned : goal.returns-in-Ok-clause-assigned
returns-in-Ok-clause-assigned c = assigned-by c.read_checked.ensures

use Rattle.parse.proofs.Turns.{run-start, run_read, run_refused}
use Rattle.parse.specs.declared.runs.RunToken.{RunToken}
use Rattle.parse.specs.declared.runs.Stops.{Stops}
use Rattle.token_list.specs.declared.check.Cursor.{Cursor}
use Rattle.std.specs.Prelude.{Ok}
use Prim.Native.Nat.{ℕ}
use mathlib.Core.List.{List, []}
use mathlib.Core.Bool.{Bool}
use mathlib.Core.Path.{◌≡◌, refl, subst}
use native.Mathlib.Omega.{arith}
use Rattle.parse.proofs.Meeting as meeting
use Rattle.parse.specs.Contract as contract
use Rattle.parse.proofs.runs.read_tokens_until_punct.Goals as goal

told : (s : List ℕ) (c : Cursor) (b0 b1 : List ℕ) (st : Stops) (r depth : ℕ) (m : Bool) {t u : RunToken} → t ≡ u
    → contract.RunTokenRead s c b0 b1 st r depth m (Ok t) → contract.RunTokenRead s c b0 b1 st r depth m (Ok u)
told s c b0 b1 st r depth m e h = subst (λ t. contract.RunTokenRead s c b0 b1 st r depth m (Ok t)) e h

pub loop-next-init : goal.loop-next-init
loop-next-init c = run-start _ _ _ _ _ c.requires

pub run_token-requires-clause-in_list : goal.run_token-requires-clause-in_list
run_token-requires-clause-in_list c = c.loop-next.invariant.going.moved.in_list

pub run_token-requires-clause-depth_le_at : goal.run_token-requires-clause-depth_le_at
run_token-requires-clause-depth_le_at c = c.loop-next.invariant.deep

pub returns-in_err-next : goal.returns-in_err-next
returns-in_err-next c =
    let stops = contract.stops_of c.args.stops in
    let b = c.in_err-next.ensures in
    meeting.meets_given_up contract.run_said (contract.run_shown c.args.s.now stops c.args.role c.args.from)
    c.from_residual.ensures.1
    (run_refused c.args.s.now c.args.from stops c.args.role {sh = contract.any}
    (meeting.going_meets c.loop-next.invariant.going (meeting.meets_as b.0 (contract.refuses [] b.1))))

pub loop-next-smaller : goal.loop-next-smaller
loop-next-smaller c = let b = (told _ _ _ _ _ _ _ _ c.in-On.is c.in_ok-next.ensures).0 in
    omega (arith, b.moved.forth, b.some, b.moved.in_list.within)

pub loop-next-preserved : goal.loop-next-preserved
loop-next-preserved c = let b = told _ _ _ _ _ _ _ _ c.in-On.is c.in_ok-next.ensures in
    record { going = meeting.going_more c.loop-next.invariant.going b.0; deep = b.1 }

pub returns-in-Ended : goal.returns-in-Ended
returns-in-Ended c = let b = told _ _ _ _ _ _ _ _ c.in-Ended.is c.in_ok-next.ensures in
    meeting.meets_show (λ v h. (refl, h))
    (run_read c.args.s.now c.args.from (contract.stops_of c.args.stops) c.args.role _ c.requires refl
    (meeting.going_ends _ c.loop-next.invariant.going b.0 b.1 refl))

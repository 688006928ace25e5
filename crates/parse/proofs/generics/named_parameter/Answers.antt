use Rattle.reading.specs.Place.{past_token_lem}
use Rattle.parse.proofs.Meeting as meeting
use Rattle.parse.specs.Contract as contract
use Rattle.reading.specs.Reading as reading
use Rattle.parse.proofs.Parameters.{made_of, made_run, bound-run}
use Rattle.parse.specs.declared.generics.ParameterKind.{ParameterKind}
use Rattle.reading.specs.Took.{Reader, after, pure, ◌>>=◌, Point}
use Rattle.reading.specs.Declaration.{Parameter}
use Rattle.token_list.specs.Byte.{COLON}
use Rattle.token_list.specs.Stream.{Trees, end}
use Prim.Native.Nat.{ℕ}
use mathlib.Core.List.{List}
use mathlib.Core.Path.{◌≡◌, subst}
use Rattle.parse.proofs.generics.named_parameter.Goals as goal

abbrev made : ParameterKind → List ℕ → Reader Parameter
made k x = reading.optional_run COLON >>= λ b. pure (contract.parameter_made k x b)

abbrev rest : ParameterKind → List ℕ → Reader (reading.Maybe Parameter)
rest k x = made k x >>= reading.comma

-- the name and what follows it, and the bound and what follows it
name-first : (n p : ℕ) (k : ParameterKind) (row : ℕ) (ts : Trees)
    → contract.named_parameter n p k row ts ≡ after row (reading.parameter_name n p row ts) (rest k)
name-first n p k row ts = meeting.after_assoc row (reading.parameter_name n p row ts) (made k) reading.comma

bound-first : (k : ParameterKind) (x : List ℕ) (row : ℕ) (ts : Trees)
    → rest k x row ts ≡
    after row (reading.optional_run COLON row ts) (λ b. reading.comma (contract.parameter_made k x b))
bound-first k x row ts =
    meeting.after-pure row (reading.optional_run COLON row ts) (contract.parameter_made k x) reading.comma

pub returns-in_err-name : goal.returns-in_err-name
returns-in_err-name c = let s = c.args.s.now in
    meeting.meets_given_up contract.parameter_said (contract.parameter_shown s (contract.point s c.args.c))
    c.from_residual.ensures.1
    (meeting.meets_as (name-first c.args.number c.args.or c.args.kind c.args.c.row (contract.stream s c.args.c))
    (meeting.meets_no (rest c.args.kind) c.in_err-name.ensures))

pub optional_run-requires-clause-in_list : goal.optional_run-requires-clause-in_list
optional_run-requires-clause-in_list c = meeting.landed c.in_ok-name.ensures

pub returns-in_err-part : goal.returns-in_err-part
returns-in_err-part c = let s = c.args.s.now in
    let d = c.in_ok-name.d in
    meeting.meets_given_up contract.parameter_said (contract.parameter_shown s (contract.point s c.args.c))
    c.from_residual-in_err-part.ensures.1
    (meeting.meets_as (name-first c.args.number c.args.or c.args.kind c.args.c.row (contract.stream s c.args.c))
    (meeting.meets_then (rest c.args.kind) c.in_ok-name.ensures
    (λ x h. meeting.meets_as (bound-first c.args.kind x d.row (contract.stream s d))
    (meeting.meets_no _ c.in_err-part.ensures))))

pub parameter_end-requires : goal.parameter_end-requires
parameter_end-requires c = meeting.landed c.in_ok-part.ensures

pub returns : goal.returns
returns c = let s = c.args.s.now in
    let d = c.in_ok-name.d in
    let part = c.in_ok-part.part in
    let run = c.in_ok-part.run' in
    let x = contract.point s c.args.c in
    meeting.meets_as (name-first c.args.number c.args.or c.args.kind c.args.c.row (contract.stream s c.args.c))
    (meeting.meets_then (rest c.args.kind) c.in_ok-name.ensures
    (λ n h. meeting.meets_as (bound-first c.args.kind n d.row (contract.stream s d))
    (meeting.meets_then (λ b. reading.comma (contract.parameter_made c.args.kind n b)) c.in_ok-part.ensures
    (λ b u.
    let here = subst (λ (p : Point). contract.ParameterRunAt s p b end part run) h.2.here
    (bound-run s (contract.point s d) part run b u) in
    c.parameter_end.ensures (contract.parameter_made c.args.kind n b) x
    (made_of s n b c.args.kind h.0) h.1 (made_run s n b c.args.kind (past_token_lem x) part run here)))))

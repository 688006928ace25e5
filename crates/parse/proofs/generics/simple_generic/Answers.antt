use Rattle.parse.proofs.Meeting as meeting
use Rattle.parse.specs.Contract as contract
use Rattle.reading.specs.Reading as reading
use Rattle.reading.specs.Took.{Point}
use mathlib.Core.List.{[]}
use mathlib.Core.Path.{subst, subst⁻¹}
use Rattle.parse.proofs.generics.simple_generic.Goals as goal

pub returns-in_err-part : goal.returns-in_err-part
returns-in_err-part c = λ n x h place past.
    meeting.meets_given_up contract.parameter_said (contract.parameter_shown c.args.s.now x) c.from_residual.ensures.1
    (meeting.meets_no reading.comma (c.in_err-part.ensures n))

pub parameter_end-requires : goal.parameter_end-requires
parameter_end-requires c = meeting.landed (c.in_ok-part.ensures [])

pub returns : goal.returns
returns c = λ n x h place past. let s = c.args.s.now in
    meeting.meets_then reading.comma (c.in_ok-part.ensures n)
    (λ a k. c.parameter_end.ensures a x
    (record { kind = k.0; text = subst⁻¹ (contract.TextOf s c.args.name) k.1 h }) place
    (subst (λ (p : Point). contract.ParameterRunAt s p (contract.bound_of_lem a) (contract.default_of a)
    c.in_ok-part.part c.in_ok-part.run') past k.2))

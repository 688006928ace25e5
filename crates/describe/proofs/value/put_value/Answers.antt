use mathlib.Core.Path.{ap, sym, ◌∙◌, subst}
use Rattle.reading.specs.Token.{negatable}
use Rattle.parse.specs.Contract as contract
use native.Mathlib.Omega.{arith}
use Rattle.output.proofs.Writers.{begun, left_at}
use Rattle.describe.proofs.Answers.{placed_absent, placed_literal, placed_negative}
use Rattle.describe.proofs.value.put_value.Goals as goal

pub worth-n-requires : goal.worth-n-requires
worth-n-requires c =
    let h = subst (λ v. contract.ValueOf c.args.s.now v c.requires.value_of.0) c.in-Negative.is c.requires.value_of.1 in
    record { end_in_bounds = h.1.within; s_value = ap negatable (sym h.1.bytes) ∙ h.2 }

pub returns-in-Absent : goal.returns-in-Absent
returns-in-Absent c = λ x w k room. placed_absent x w k _ c.in-Absent.is

pub returns-in-Literal : goal.returns-in-Literal
returns-in-Literal c = λ x w k room. placed_literal x w k _ _ _ c.in-Literal.is
    c.requires.s_len_bound

pub returns-in-Negative : goal.returns-in-Negative
returns-in-Negative c = λ x w k room.
    placed_negative x w k _ c.in-Negative.is c.worth-n.ensures.value c.worth-n.ensures.upper_bound
    (left_at (grind arith) (begun c.new-w.ensures.put c.put_negative.ensures)) room

use native.Mathlib.Omega.{arith}
use mathlib.Core.Path.{◌∙◌, ap}
use Rattle.reading.specs.Token.{negatable, worth}
use Rattle.describe.proofs.Lined.{between}
use Rattle.describe.proofs.Worths.{counting, counting_next, counting_end}
use Rattle.describe.proofs.value.worth.Goals as goal

pub loop-digit-init : goal.loop-digit-init
loop-digit-init c =
    counting _ (ap negatable (between c.args.s.now c.args.start c.args.end c.min.ensures) ∙ c.requires.s_value)

pub overflow_sub-n : goal.overflow_sub-n
overflow_sub-n c =
    omega (arith, (counting_next _ c.loop-digit.digit-index c.loop-digit-test.true c.loop-digit.invariant).0)

pub overflow_mul-n : goal.overflow_mul-n
overflow_mul-n c =
    omega (arith, (counting_next _ c.loop-digit.digit-index c.loop-digit-test.true c.loop-digit.invariant).2)

pub overflow_add-n : goal.overflow_add-n
overflow_add-n c =
    omega (arith, (counting_next _ c.loop-digit.digit-index c.loop-digit-test.true c.loop-digit.invariant).2)

pub loop-digit-preserved : goal.loop-digit-preserved
loop-digit-preserved c =
    (counting_next _ c.loop-digit.digit-index c.loop-digit-test.true c.loop-digit.invariant).3

pub returns : goal.returns
returns c =
    let e = counting_end _ c.loop-digit.digit-index c.loop-digit-test.false c.loop-digit.invariant in record {
      value = e ∙ ap worth (between c.args.s.now c.args.start c.args.end c.min.ensures);
      upper_bound = omega (arith, e, c.loop-digit.invariant.few);
    }

use Rattle.parse.proofs.Items.{first_in}
use lib.ListN.{length}
use native.Mathlib.Omega.{arith}
use mathlib.Core.Path.{ap, sym, ◌∙◌}
use Rattle.token_list.specs.Contract.{checked}
use Rattle.std.proofs.lemmas.Result.{err_from_is_err_and}
use Rattle.describe.proofs.Answers.{placed_as, placed_refused, value-checked, value-short, value_read}
use Rattle.describe.proofs.Answers.{value-refusal}
use Rattle.token_list.proofs.Bounds.{bounds}
use Rattle.describe.proofs.value.value_of.Goals as goal

pub returns-then-scratch-lt-SCRATCH_BYTES : goal.returns-then-scratch-lt-SCRATCH_BYTES
returns-then-scratch-lt-SCRATCH_BYTES c =
    let e = value-short c.args.list.now c.args.position (length c.args.scratch.now)
    (sym c.check.ensures.answer ∙ ap checked c.in_ok-check.was)
    (omega arith) in
    record {
      placed = placed_refused _ e;
      by_index = value-refusal c.args.list.now c.args.position (length c.args.scratch.now);
    }

pub read_value-requires : goal.read_value-requires
read_value-requires c = let passed = sym c.check.ensures.answer ∙ ap checked c.in_ok-check.was in
    record {
      in_list = first_in _ _ passed;
      in_bounds = omega arith;
      s_len_bound = (bounds c.args.list.now passed).bytes;
    }

pub returns-in_err-check : goal.returns-in_err-check
returns-in_err-check c = let e = value-checked c.args.list.now c.args.position (length c.args.scratch.now)
    (sym c.check.ensures.answer ∙ ap checked c.in_err-check.was) in
    let p = err_from_is_err_and c.from_residual.result c.from_residual.ensures.1 in
    rw (p.1, p.2)
    (record {
      placed = placed_refused _ e;
      by_index = value-refusal c.args.list.now c.args.position (length c.args.scratch.now);
    })

pub returns : goal.returns
returns c =
    let passed = sym c.check.ensures.answer ∙ ap checked c.in_ok-check.was in record {
      placed = placed_as (value_read c.args.list.now c.args.position (length c.args.scratch.now) passed (omega arith))
          c.read_value.ensures;
      by_index = value-refusal c.args.list.now c.args.position (length c.args.scratch.now);
    }

use native.Mathlib.Omega.{arith}
use Rattle.output.proofs.Answers.{text_printed, refusal_printed}
use Rattle.output.proofs.written.put_answer.Goals as goal

pub returns-in-Ok : goal.returns-in-Ok
returns-in-Ok c =
    record { by_index = λ before a w. text_printed (rw c.in-Ok.is at w); upper_bound = rw c.in-Ok.is (omega arith) }

pub returns-in-Err : goal.returns-in-Err
returns-in-Err c =
    record {
      by_index = λ before a w. refusal_printed (rw c.in-Err.is at w) c.put_refusal.ensures.printed;
      upper_bound = rw c.in-Err.is c.put_refusal.ensures.upper_bound;
    }

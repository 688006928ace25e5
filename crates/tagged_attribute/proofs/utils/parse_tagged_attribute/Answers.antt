use lib.ListN.{replicate}
use Prim.Native.Nat.{ℕ}
use mathlib.Core.Bool.{false}
use mathlib.Core.Path.{◌≡◌, ap, ◌∙◌}
use native.Mathlib.Omega.{arith}
use Rattle.tagged_attribute.specs.Contract.{reads}
use Rattle.tagged_attribute.proofs.Answers as answers
use Rattle.tagged_attribute.proofs.utils.parse_tagged_attribute.Goals.{in-Ok-Some, in_default, in_default-2}
use Rattle.tagged_attribute.proofs.utils.parse_tagged_attribute.Goals as goal

pub returns-then-not-matches : goal.returns-then-not-matches
returns-then-not-matches c =
    let none : reads c.read-answer.result ≡ false =
    elim c.match-matches.branch [
      | in-Ok-Some w ↦ grind arith
      | in_default w ↦ grind arith
      | in_default-2 w ↦ grind arith
    ] in
    let cleared = c.fill.ensures.after (λ _ e. e) ∙ ap (λ (n : ℕ). replicate n 255) c.read-answer.auto.roles in
    let h = answers.answered_cleared c.read-answer.ensures none cleared in
    record { answered = h; assigned = answers.assigned h }

pub returns-else-not-matches : goal.returns-else-not-matches
returns-else-not-matches c =
    let h = answers.answered_read c.read-answer.ensures (grind arith) in
    record { answered = h; assigned = answers.assigned h }

use mathlib.Core.Path.{◌≡◌}
use lib.ListN.{drop}
use Rattle.replay.specs.Answer.{letters_fit}
use Rattle.replay.proofs.answers.letters_fit.Given as goal

abbrev pub invariant-loop-role : goal.invariant-loop-role
invariant-loop-role l =
    letters_fit l.every l.text l.roles ≡ letters_fit l.every l.rest (drop l.role-index l.roles)

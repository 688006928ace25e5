use mathlib.Core.Path.{◌∙◌, sym}
use native.Mathlib.Omega.{arith}
use Rattle.replay.proofs.Letters.{fits_end}
use Rattle.replay.proofs.answers.letters_fit.Goals as goal

pub returns : goal.returns
returns c = c.is.ensures
    ∙ fits_end c.args.every c.loop-role.rest.now c.args.roles.now c.loop-role.role-index (omega arith)
    ∙ sym c.loop-role.invariant

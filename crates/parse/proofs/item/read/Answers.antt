use Rattle.parse.proofs.Items as items
use lib.ListN.{replicate}
use Rattle.std.specs.Prelude.{Ok, Err}
use mathlib.Core.Path.{refl, ◌∙◌, ap}
use Rattle.parse.proofs.item.read.Goals as goal

pub item-requires : goal.item-requires
item-requires c = items.start_in c.start.ensures c.requires.s_value

pub returns-in-Err : goal.returns-in-Err
returns-in-Err c =
    items.read_refused c.args.s.now c.args.rows c.requires.s_value c.args.roles.now c.requires.rows_in_bounds
    c.in-Err.r (items.from_start (Err c.in-Err.r) c.start.ensures c.in-Err.ensures) c.refuse.ensures.value
    (c.refuse.ensures.roles_after ∙ ap (λ n. replicate n 255) c.item.auto.roles)

pub returns-in-Ok : goal.returns-in-Ok
returns-in-Ok c =
    items.read_accepted c.args.s.now c.args.rows c.requires.s_value c.args.roles.now c.requires.rows_in_bounds
    c.in-Ok.i (items.from_start (Ok c.in-Ok.i) c.start.ensures c.in-Ok.ensures) c.fill_rest.ensures refl

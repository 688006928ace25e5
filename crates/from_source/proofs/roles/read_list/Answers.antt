-- `read_list` meets its contract: the answer for the list of the text, and after a refusal no role throughout.
use mathlib.Core.Path.{◌≡◌}
use Rattle.std.proofs.Common.{rules, Ok, Some, None}
use Rattle.from_source.proofs.Found.{told_fault, told_refused, told_list, found_as, found-checked}
use Rattle.from_source.proofs.roles.read_list.Goals as goal

pub read_checked-requires : goal.read_checked-requires
read_checked-requires c =
    let found : c.args.scanned ≡ Ok (Some c.in-Ok-Some.size) = search rules in
    found-checked c.requires.by_index.1 c.requires.fitted found

pub returns-in-Err : goal.returns-in-Err
returns-in-Err c = λ s h. told_fault s c.args.roles.now (found_as h c.requires.fitted c.in-Err.is)
    c.refuse.ensures.roles_after

pub returns-in-Ok-None : goal.returns-in-Ok-None
returns-in-Ok-None c = λ s h.
    let found : c.args.scanned ≡ Ok None = search rules in
    let refused = c.refuse-in-Ok-None.ensures in
    told_refused s c.args.roles.now (found_as h c.requires.fitted found) refused.roles_after refused.value
    c.of_list.ensures

pub returns-in-Ok-Some : goal.returns-in-Ok-Some
returns-in-Ok-Some c = λ s h.
    let found : c.args.scanned ≡ Ok (Some c.in-Ok-Some.size) = search rules in
    told_list s c.args.roles.now (found_as h c.requires.fitted found) c.read_checked.ensures
    c.of_list-in-Ok-Some.ensures

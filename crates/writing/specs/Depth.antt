-- How deep groups stand in groups.
use Rattle.std.specs.Prelude.{ℕ, ◌+◌, max}
use Rattle.token_list.specs.Stream.{Trees, end, leaf, group}

abbrev pub depth : Trees → ℕ
depth end = 0
depth (leaf r us) = depth us
depth (group d ts us) = max (1 + depth ts) (depth us)

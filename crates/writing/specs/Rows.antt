-- A run as rows (document 01, "The token list"; document 02, card 6).
use Rattle.std.specs.Prelude.{◌||◌, List, [], ◌∷◌, ◌++◌}
use Rattle.token_list.specs.Row.{Row, own_mark_lem}
use Rattle.token_list.specs.Rows.{opening, closing}
use Rattle.token_list.specs.Stream.{Trees, end, leaf, group}

-- a group is its opening row, its inside, its closing row
abbrev pub run_rows : Trees → List Row
run_rows end = []
run_rows (leaf r us) = r ∷ run_rows us
run_rows (group d ts us) = opening d ∷ run_rows ts ++ closing d ∷ run_rows us

-- ## A run as it goes out: its own marks, but that each `'` is joint

abbrev pub sent_row : Row → Row
sent_row r = record { kind = r.kind; joint = r.joint || own_mark_lem r.kind r.text; text = r.text }

abbrev pub sent : Trees → Trees
sent end = end
sent (leaf r us) = leaf (sent_row r) (sent us)
sent (group d ts us) = group d (sent ts) (sent us)

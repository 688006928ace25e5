use native.Mathlib.Omega.{arith}
use mathlib.Core.Path.{◌∙◌, ap, sym}
use mathlib.Core.List.{map}
use lib.ListN.{length-map}
use Rattle.std.specs.Option.{option_or}
use Rattle.doubles.specs.Key.{name_key}
use Rattle.doubles.proofs.Keys.{same_names}
use Rattle.describe.proofs.Sightings.{seen_more}
use Rattle.describe.proofs.faults.see_name.Goals as goal

pub seen-again-requires : goal.seen-again-requires
seen-again-requires c = record {
  holds = (
    map name_key c.requires.by_index.0,
    c.requires.by_index.1,
    length-map c.requires.by_index.0 name_key
        ∙ c.requires.by_index.2,
  );
  count_in_bounds = c.requires.count_in_bounds;
  standing = record {
    order = c.name_key-key.ensures.order;
    within = omega (arith, c.name_key-key.ensures.within, c.requires.variant_of.1.name.within);
    low = omega (arith, c.name_key-key.ensures.within, c.requires.end_bound);
  };
}

pub returns : goal.returns
returns c =
    let found = c.or.ensures ∙ ap (option_or c.args.found) c.then_some.ensures in record {
      by_index_2 = λ row ts a s n k p.
          seen_more same_names a.name c.args.v.place s (c.name_key-key.ensures.key ∙ ap name_key (sym k.name.bytes))
          (c.seen-again.ensures (map name_key ts) s.holds (length-map ts name_key ∙ n)) (p ∙ ap row (sym n)) found;
      value = (_, found);
    }

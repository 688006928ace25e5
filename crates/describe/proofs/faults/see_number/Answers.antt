use native.Mathlib.Omega.{arith}
use mathlib.Core.Path.{◌∙◌, ap, sym}
use mathlib.Core.List.{map}
use lib.IntN.{pos}
use lib.Signed.{lt_z}
use mir.Syntax.{w64}
use Rattle.std.proofs.lemmas.Int.{to_z-of_z}
use lib.ListN.{length-map}
use Rattle.std.specs.Option.{option_or}
use Rattle.doubles.specs.Key.{integer_key}
use Rattle.doubles.proofs.Keys.{same_integers}
use Rattle.describe.proofs.Sightings.{signed_is, seen_more}
use Rattle.describe.proofs.faults.see_number.Goals as goal

pub seen-again-requires : goal.seen-again-requires
seen-again-requires c = record {
  holds = (
    map integer_key c.requires.holds.0,
    c.requires.holds.1,
    length-map c.requires.holds.0 integer_key
        ∙ c.requires.holds.2,
  );
  count_in_bounds = c.requires.count_in_bounds;
  standing = record {
    order = c.integer_key-key.ensures.order;
    within = c.integer_key-key.ensures.within;
    low = omega (arith, c.integer_key-key.ensures.within);
  };
}

pub returns : goal.returns
returns c =
    let same = to_z-of_z w64 c.args.n c.ranges.n in
    let number = signed_is c.args.n (ap (λ z. lt_z z (pos 0)) same) (rw same at c.unsigned_abs.ensures.value) in
    let found = c.or.ensures ∙ ap (option_or c.args.found) c.then_some.ensures in record {
      by_index = λ row zs s n p.
          seen_more same_integers c.args.n c.args.place s (c.integer_key-key.ensures.key ∙ ap integer_key number)
          (c.seen-again.ensures (map integer_key zs) s.holds (length-map zs integer_key ∙ n))
          (p ∙ ap row (sym n)) found;
      value = (_, found);
    }

use native.Mathlib.Omega.{arith}
use Rattle.parse.proofs.Inside.{meets_tells}
use Rattle.describe.proofs.Numbering.{variant_less, number_at, name-begins}
use Rattle.describe.proofs.Sightings.{sighting_start, sighting-room, sighting-names, sighting-numbers}
use Rattle.describe.proofs.Sightings.{sighting-more, sighting-lacks, sighting_end}
use mir.Syntax.{w64}
use Rattle.std.proofs.Common.{FitsSigned, rules}
use Rattle.std.proofs.lemmas.Int.{to_z-of_z}
use Rattle.std.proofs.lemmas.Result.{err_from_is_err_and}
use Rattle.std.proofs.Common.{to_z, of_z, sym, ap, ◌∙◌}
use Rattle.describe.specs.Numbers.{number}
use Rattle.describe.proofs.Sightings.{found_next, name_standing}
use Rattle.describe.proofs.faults.variant_faults.Goals as goal
use Rattle.describe.proofs.faults.variant_faults.Goals.{in_default, in_default-2}
use Rattle.describe.proofs.Ends.{NotOne}

pub loop-v-init : goal.loop-v-init
loop-v-init c = sighting_start c.requires.inside_at.1.in_list c.requires.inside_at.2

pub number_after-requires : goal.number_after-requires
number_after-requires c = let m = meets_tells (rw c.in-Ok-One.field-0-is at c.in-Ok-One.ensures) in
    (m.4.0, m.4.2)

pub returns-in_err-n : goal.returns-in_err-n
returns-in_err-n c = let read = rw c.in-Ok-One.field-0-is at c.in-Ok-One.ensures in
    let p = err_from_is_err_and c.from_residual.result c.from_residual.ensures.1 in
    rw (p.1, p.2)
    (sighting-lacks c.loop-v.invariant c.in-Ok-One.v read (c.number_after.ensures.number_as c.loop-v.c)
    (c.number_after.ensures.number_in c.loop-v.c) c.in_err-n.was)

pub see_name-name-requires : goal.see_name-name-requires
see_name-name-requires c = let read = rw c.in-Ok-One.field-0-is at c.in-Ok-One.ensures in
    let m = meets_tells read in
    let standing = name_standing c.requires.s_len_bound m.4.3.name in record {
      by_index = sighting-names c.loop-v.invariant c.in-Ok-One.v read c.requires.inside_at.0 c.requires.inside_at.1;
      count_in_bounds =
          (sighting-room c.loop-v.invariant c.in-Ok-One.v read c.requires.inside_at.0 c.requires.inside_at.1
          c.requires.inside_at.2).0;
      variant_of = (m.4.0, m.4.2);
      start_le_end = standing.0;
      end_bound = standing.1;
    }

pub see_number-number-requires : goal.see_number-number-requires
see_number-number-requires c =
    let read = rw c.in-Ok-One.field-0-is at c.in-Ok-One.ensures in record {
      holds = sighting-numbers c.loop-v.invariant c.in-Ok-One.v read c.requires.inside_at.0 c.requires.inside_at.1;
      count_in_bounds =
          (sighting-room c.loop-v.invariant c.in-Ok-One.v read c.requires.inside_at.0 c.requires.inside_at.1
          c.requires.inside_at.2).1;
    }

pub overflow_add-count : goal.overflow_add-count
overflow_add-count c = let read = rw c.in-Ok-One.field-0-is at c.in-Ok-One.ensures in
    let room = (sighting-room c.loop-v.invariant c.in-Ok-One.v read c.requires.inside_at.0 c.requires.inside_at.1
    c.requires.inside_at.2).0 in
    let names = sighting-names c.loop-v.invariant c.in-Ok-One.v read c.requires.inside_at.0 c.requires.inside_at.1 in
    omega (arith, room, names.1.few)

pub loop-v-smaller : goal.loop-v-smaller
loop-v-smaller c = variant_less c.in-Ok-One.v (rw c.in-Ok-One.field-0-is at c.in-Ok-One.ensures)

pub loop-v-preserved : goal.loop-v-preserved
loop-v-preserved c =
    let fits : FitsSigned w64 c.in_ok-n.n = search rules in
    let same = to_z-of_z w64 c.in_ok-n.n fits in
    let answer = c.number_after.ensures.number_as c.loop-v.c in
    let read = rw c.in-Ok-One.field-0-is at c.in-Ok-One.ensures in
    let begins = name-begins (meets_tells read).4.3.name in
    sighting-more c.loop-v.invariant c.in-Ok-One.v read (to_z w64 (of_z w64 c.in_ok-n.n))
    (λ a t p. number_at (answer a t p) c.in_ok-n.was ∙ ap number (sym same)) c.see_name-name.ensures.by_index_2
    c.see_number-number.ensures.by_index
    (found_next _ c.loop-v.name c.see_name-name.ensures.value c.loop-v.invariant.name_in begins)
    (found_next _ c.loop-v.number c.see_number-number.ensures.value c.loop-v.invariant.number_in begins)
    c.variant.auto.roles c.see_name-name.auto.words c.see_name-name.auto.numbers c.see_number-number.auto.words
    c.see_number-number.auto.numbers

pub returns : goal.returns
returns c =
    let none : NotOne c.variant.result = λ r e. elim c.match-variant.branch [
      | in_default w ↦ (cc)
      | in_default-2 w ↦ (cc)
    ] in
    sighting_end c.loop-v.invariant c.variant.result c.variant.ensures none c.first_fault.ensures

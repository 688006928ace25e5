use native.Mathlib.Omega.{arith}
use mathlib.Core.Path.{sym, ◌∙◌, ap, subst, subst⁻¹}
use lib.IntN.{pos}
use mir.Syntax.{w64}
use Rattle.std.proofs.lemmas.Int.{to_z-of_z}
use Rattle.reading.specs.Token.{negatable}
use Rattle.reading.specs.Place.{value_row}
use Rattle.parse.specs.Contract.{point, ValueOf, ValueIn}
use Rattle.describe.specs.Integer.{integer, in_range}
use Rattle.describe.specs.Numbers.{number_after, fault_row, valued}
use Rattle.describe.specs.Contract.{NumberAs, NumberIn}
use Rattle.describe.proofs.Numbering.{number_as, number_is, following_is, following_placed, number_in, name-begins}
use Rattle.describe.proofs.Numbering.{literal_number, told_of, literal_as, literal_in, negative_number, token_begins}
use Rattle.describe.proofs.numbers.number_after.Goals as goal

pub text-requires : goal.text-requires
text-requires c =
    (subst (λ v. ValueOf c.args.s.now v c.requires.0.value) c.in-Literal.is c.requires.1.value).1.within

pub worth-requires : goal.worth-requires
worth-requires c =
    let h = subst (λ v. ValueOf c.args.s.now v c.requires.0.value) c.in-Negative.is c.requires.1.value in
    record { end_in_bounds = h.1.within; s_value = ap negatable (sym h.1.bytes) ∙ h.2 }

pub returns-in-Absent : goal.returns-in-Absent
returns-in-Absent c = let z = c.args.before in
    let same = to_z-of_z w64 z c.ranges.before in
    let next = following_is {p = c.args.v.place} z c.checked_add.result c.ranges.before
    (rw same at c.checked_add.ensures) in
    let told = subst⁻¹ (NumberAs (λ f. c.args.v.place) _) c.ok_or.ensures.value next in record {
      number_as = λ d a k p.
          let absent = subst (λ v. ValueOf c.args.s.now v a.value) c.in-Absent.is k.value in
          number_as (ap (number_after z) absent) (following_placed z (point c.args.s.now d) p.name.place told);
      number_in = λ d a p. number_in c.args.s.now told (name-begins p.name);
    }

pub returns-in-Literal : goal.returns-in-Literal
returns-in-Literal c = let z = c.args.before in
    let w = in_range (integer c.text.result.now) in
    let same = c.ok_or-in-Literal.ensures.value ∙
    ap (told_of c.in-Literal.row) c.integer.ensures in record {
      number_as = λ d a k p.
          let literal = subst (λ v. ValueOf c.args.s.now v a.value) c.in-Literal.is k.value in
          let place = subst (λ v. ValueIn c.args.s.now (value_row (point c.args.s.now d) a.value) v) c.in-Literal.is
          p.value in
          let number = literal_number z c.in-Literal.t c.in-Literal.row literal ∙
          ap (λ t. valued pos (in_range (integer t))) (sym c.text.ensures) in
          number_as number
          (subst⁻¹ (NumberAs (λ f. fault_row f (point c.args.s.now d)) _) same
          (literal_as w (place.1 ∙ ap (value_row (point c.args.s.now d)) literal.2)));
      number_in = λ d a p.
          let place = subst (λ v. ValueIn c.args.s.now (value_row (point c.args.s.now d) a.value) v) c.in-Literal.is
          p.value in
          subst⁻¹ (NumberIn c.args.s.now) same
          (literal_in c.args.s.now c.in-Literal.row w (omega (arith, place.1, token_begins place.0)));
    }

pub returns-in-Negative-clause-number_as : goal.returns-in-Negative-clause-number_as
returns-in-Negative-clause-number_as c = λ d a k p.
    let negative = subst (λ v. ValueOf c.args.s.now v a.value) c.in-Negative.is k.value in
    number_is
    (negative_number c.args.before c.in-Negative.t negative c.worth.ensures.value c.worth.ensures.upper_bound)

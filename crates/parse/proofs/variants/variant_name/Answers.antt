use Rattle.parse.proofs.Meeting as meeting
use Rattle.parse.specs.Contract as contract
use Rattle.reading.specs.Reading as reading
use Rattle.parse.proofs.Places as places
use Rattle.reading.specs.Took.{Reader, ◌>>=◌, pure}
use Rattle.reading.specs.Place.{VariantHead}
use Rattle.reading.specs.Role as role
use Rattle.token_list.specs.Stream.{Trees}
use mathlib.Core.List.{List}
use Rattle.parse.proofs.variants.variant_name.Goals as goal

abbrev name-then : List Trees → reading.Word → Reader VariantHead
name-then a w = reading.named! w >>= λ n. pure (record { attributes = a; name = n })

abbrev word-then : List Trees → Reader VariantHead
word-then a = reading.word role.variant-name >>= name-then a

pub consume_ident-requires : goal.consume_ident-requires
consume_ident-requires c = meeting.landed c.in_ok-d.ensures

pub wrong_token-requires : goal.wrong_token-requires
wrong_token-requires c = meeting.landed c.in_ok-d.ensures

pub returns-in_err-d : goal.returns-in_err-d
returns-in_err-d c =
    meeting.meets_given_up contract.placed_name_said (contract.variant_name_shown c.args.s.now c.args.c)
    c.from_residual.ensures.1 (meeting.meets_no word-then c.in_err-d.ensures)

pub returns-in_default : goal.returns-in_default
returns-in_default c =
    meeting.meets_then word-then c.in_ok-d.ensures
    (λ a h. meeting.meets_missing (name-then a) c.in_default.ensures (meeting.meets_wrong _ _ c.wrong_token.ensures))

pub returns : goal.returns
returns c =
    let named = (places.meets_beyond reading.attributes c.in_ok-d.ensures).here in
    meeting.meets_then word-then (meeting.meets_inside reading.attributes c.requires c.in_ok-d.ensures)
    (λ a i. meeting.meets_word (name-then a) _ c.in-Some.ensures
    (λ text x. meeting.meets_stay _ _ _ _ _ (meeting.landed c.in-Some.ensures)
    (i.1, places.placed_name c.args.s.now c.in_ok-d.d named x)))

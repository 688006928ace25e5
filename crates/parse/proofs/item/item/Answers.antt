use Rattle.parse.proofs.Meeting as meeting
use Rattle.parse.specs.Contract as contract
use Rattle.reading.specs.Reading as reading
use Rattle.parse.proofs.Places as places
use Rattle.parse.proofs.Bodies as bodies
use Rattle.parse.proofs.Items as items
use Rattle.reading.specs.Took.{Reader, ◌>>=◌, Point, beyond}
use Rattle.reading.specs.Declaration.{Visibility, Declaration}
use Rattle.token_list.specs.Stream.{Trees}
use mathlib.Core.List.{List}
use mathlib.Core.Path.{ap, subst}
use Rattle.parse.proofs.item.item.Goals as goal

abbrev head-then : List Trees → Visibility → Reader Declaration
head-then a v = reading.data_type >>= contract.parts_after (record { attributes = a; visibility = v })

pub try_take-d-requires : goal.try_take-d-requires
try_take-d-requires c = meeting.landed c.in_ok-visibility.ensures

pub take-requires : goal.take-requires
take-requires c = meeting.landed c.try_take-d.ensures

pub parts-requires : goal.parts-requires
parts-requires c = meeting.landed c.in_ok-head.ensures

pub returns-in_err-visibility : goal.returns-in_err-visibility
returns-in_err-visibility c =
    meeting.meets_given_up contract.item_said (contract.item_shown c.args.s.now c.args.c) c.from_residual.ensures.1
    (meeting.meets_as (bodies.prefix_then c.args.c.row (contract.stream c.args.s.now c.args.c) head-then)
    (meeting.meets_no _ (bodies.prefix_refused c.in_err-visibility.ensures)))

pub returns-in_err-head : goal.returns-in_err-head
returns-in_err-head c =
    let prefixed = bodies.meets_prefix c.requires c.in_ok-visibility.ensures c.try_take-d.ensures in
    meeting.meets_given_up contract.item_said (contract.item_shown c.args.s.now c.args.c)
    c.from_residual-in_err-head.ensures.1
    (meeting.meets_as (bodies.prefix_then c.args.c.row (contract.stream c.args.s.now c.args.c) head-then)
    (meeting.meets_then _ prefixed (λ p k. meeting.meets_no _ c.in_err-head.ensures)))

pub returns : goal.returns
returns c = let s = c.args.s.now in
    let name = c.in_ok-head.head.name in
    let generic = places.meets_beyond reading.data_type c.in_ok-head.ensures in
    items.item_ends c.parts.result
    (meeting.meets_as (bodies.prefix_then c.args.c.row (contract.stream s c.args.c) head-then)
    (meeting.meets_then _ (bodies.meets_prefix c.requires c.in_ok-visibility.ensures c.try_take-d.ensures)
    (λ p k.
    let start = k.1.here in
    meeting.meets_then (contract.parts_after p) c.in_ok-head.ensures
    (λ x w. c.parts.ensures c.args.c p x
    (record {
      prefix = k.0;
      kind = w.0;
      name = subst (λ (y : Point). contract.NameAt s (beyond contract.item_word y) name.token name.place x.name) start
          w.1;
      next = places.cursor_at (ap (beyond reading.data_type) start) generic;
    })))))

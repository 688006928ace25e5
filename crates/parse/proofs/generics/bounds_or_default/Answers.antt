use Rattle.parse.proofs.Meeting as meeting
use Rattle.parse.specs.Contract as contract
use Rattle.parse.proofs.Parameters.{type_bounded, type_defaulted, type-bound, type_default}
use Rattle.reading.specs.Declaration.{type}
use Rattle.token_list.specs.Stream.{end}
use mathlib.Core.Path.{sym}
use Rattle.parse.proofs.generics.bounds_or_default.Goals as goal

pub returns-then-stands_punct : goal.returns-then-stands_punct
returns-then-stands_punct c = let s = c.args.s.now in
    λ n. meeting.meets_as (type_bounded n c.args.c.row (contract.stream s c.args.c) (sym c.if-stands_punct.ensures))
    (meeting.meets_map c.args.c.row (λ b. type n b end)
    (type-bound s (contract.point s c.args.c) n c.optional_run.result) c.optional_run.ensures)

pub returns-else-stands_punct : goal.returns-else-stands_punct
returns-else-stands_punct c = let s = c.args.s.now in
    let other = sym c.if-stands_punct.ensures in
    λ n. meeting.meets_as (type_defaulted n c.args.c.row (contract.stream s c.args.c) other)
    (meeting.meets_map c.args.c.row (λ d. type n end d)
    (type_default s (contract.point s c.args.c) n other c.optional_run-else-stands_punct.result)
    c.optional_run-else-stands_punct.ensures)

use native.Mathlib.Omega.{arith}
use Rattle.token_list.proofs.Starts.{list_long}
use Rattle.token_list.proofs.Streams as laws
use mathlib.Core.Path.{◌∙◌}
use Rattle.token_list.proofs.stream.peek.Goals as goal

pub returns-then-s-c : goal.returns-then-s-c
returns-then-s-c c = laws.none_here _ c.args.c c.requires c.if-s-c.true

pub returns-in-99 : goal.returns-in-99
returns-in-99 c = laws.close_here _ c.args.c c.requires c.if-s-c.false c.in-99.is

pub token_at-requires : goal.token_at-requires
token_at-requires c =
    record { right_rows = c.requires.right_rows; at_in_bounds = c.if-s-c.false; in_bounds = list_long c.requires }

pub returns-in-111 : goal.returns-in-111
returns-in-111 c = let t = c.token_at in
    laws.group_here c.args.s.now c.args.c.at c.requires.right_rows t.result t.ensures (t.ensures.kind ∙ c.in-111.is)

pub token_at-requires-in_default : goal.token_at-requires-in_default
token_at-requires-in_default c =
    record { right_rows = c.requires.right_rows; at_in_bounds = c.if-s-c.false; in_bounds = list_long c.requires }

pub returns-in_default : goal.returns-in_default
returns-in_default c = let t = c.token_at-in_default in
    laws.leaf_here c.args.s.now c.args.c.at c.requires.right_rows t.result t.ensures (omega (arith, t.ensures.kind))
    (omega (arith, t.ensures.kind))

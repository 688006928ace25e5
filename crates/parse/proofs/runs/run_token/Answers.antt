use Rattle.parse.proofs.Turns as turns
use Rattle.parse.specs.Contract.{stops_of, past_of}
use Rattle.token_list.specs.declared.stream.Token.{Token}
use Rattle.token_list.specs.declared.check.Cursor.{Cursor}
use Rattle.token_list.specs.Contract.{InList, TokenAt, row_of}
use Prim.Native.Nat.{ℕ, ◌+◌, ◌≤◌}
use mathlib.Core.List.{List}
use Rattle.parse.proofs.Meeting as meeting
use native.Mathlib.Omega.{arith}
use mathlib.Core.Path.{◌≡◌, sym, ◌∙◌, ap}
use Rattle.parse.proofs.runs.run_token.Goals as goal

deeper-past : (s : List ℕ) (c d : Cursor) (t : Token) (depth e : ℕ) → InList s c → TokenAt s c.at t → depth ≤ c.at →
    d ≡ past_of c t → e ≤ depth + 1 → e ≤ d.at
deeper-past s c d t depth e i k h q x = omega (arith, meeting.past_fits s c t i k, ap (λ (y : Cursor). y.at) q)

pub returns-in-Belongs : goal.returns-in-Belongs
returns-in-Belongs c = let l = c.in-Leaf.ensures in
    let stops = stops_of c.args.stops in
    let v = turns.judge_of stops c.args.depth c.args.minus _ _ _ l.token ∙ sym c.in-Belongs.ensures in (
      turns.turn_leaf stops c.args.role c.args.s.now c.args.c c.requires.in_list c.args.depth c.args.minus c.in-Leaf.t l
          c.take_token-next.result c.args.roles.now _ c.in-Belongs.e c.in-Belongs.m c.take_token-next.ensures.value
          c.take_token-next.ensures.roles_after v,
      deeper-past c.args.s.now c.args.c c.take_token-next.result c.in-Leaf.t c.args.depth c.in-Belongs.e
          c.requires.in_list l.token c.requires.depth_le_at c.take_token-next.ensures.value
          (turns.deep_after stops c.args.depth c.in-Belongs.e c.args.minus c.in-Belongs.m
          (row_of c.args.s.now c.in-Leaf.t) v),
    )

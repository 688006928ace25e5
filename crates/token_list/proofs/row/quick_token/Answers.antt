use mathlib.Core.Path.{sym, ◌∙◌}
use mathlib.Core.Bool.{true, false}
use Prim.Native.Nat.{◌+◌}
use native.Mathlib.Omega.{arith}
use lib.ListN.{get_or}
use Rattle.std.proofs.lemmas.Option.{IfSome_then}
use Rattle.token_list.proofs.Texts.{or_holds}
use Rattle.token_list.proofs.Forms.{quick_token, behind_space, name_fits, literal_fits, literal-shown}
use Rattle.token_list.proofs.row.quick_token.Goals as goal

pub returns-in-105 : goal.returns-in-105
returns-in-105 c =
    let starts = sym c.is_name_start.ensures ∙ c.if-is_name_start.true in
    IfSome_then c.token_end.result c.token_end.ensures (λ n e.
    behind_space c.args.kind c.args.s.now c.args.column _ (omega arith) c.if-s-column-ne32.false
    (quick_token c.args.kind c.args.s.now (c.args.column + 2) true (or_holds _ _ starts)
    (λ t f. name_fits _ _ t c.in-105.is starts f) n e))

pub returns-in-108 : goal.returns-in-108
returns-in-108 c =
    let b = get_or c.args.s.now (c.args.column + 2) 0 in
    let starts = sym c.starts_literal.ensures ∙ c.if-starts_literal.true in
    IfSome_then c.token_end-in-108.result c.token_end-in-108.ensures (λ n e.
    behind_space c.args.kind c.args.s.now c.args.column _ (omega arith) c.if-s-column-ne32.false
    (quick_token c.args.kind c.args.s.now (c.args.column + 2) false (literal-shown b starts)
    (λ t f. literal_fits c.args.kind b t c.in-108.is starts f) n e))

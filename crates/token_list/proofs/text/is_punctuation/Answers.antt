-- The bits of the constant and the set that they are, compared at each byte.
use mathlib.Core.Path.{◌≡◌, ap, ◌∙◌}
use mathlib.Core.Bool.{Bool, beq}
use Prim.Native.Nat.{ℕ, ◌+◌, ◌-◌, ◌/◌, ◌%◌, ◌^◌, ◌<◌}
use native.Mathlib.Omega.{arith}
use lib.Dec.{eqb}
use lib.ListN.{replicate}
use Rattle.token_list.specs.Text.{punctuation}
use Rattle.token_list.proofs.Table.{entry, beq_path}
use Rattle.token_list.proofs.text.is_punctuation.Goals as goal

abbrev bit : ℕ → Bool
bit i = eqb (0xFE007E7D / 2 ^ i % 2) 1

same_bit : (i : ℕ) → i < 32 → bit i ≡ punctuation (33 + i)
same_bit i h = beq_path _ _ (entry (λ i x. beq (bit i) (punctuation (33 + i))) (replicate 32 0) i tt h)

pub returns-in-33-to-64 : goal.returns-in-33-to-64
returns-in-33-to-64 c =
    let back : 33 + (c.args.b - 33) ≡ c.args.b = omega arith in
    same_bit (c.args.b - 33) (omega arith) ∙ ap punctuation back

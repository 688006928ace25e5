-- `is_in` meets its contract: no key from `link` on is the same, and the one that it leads to has the remainder.
use mathlib.Core.Path.{sym, ◌∙◌}
use Prim.Native.Nat.{◌-◌}
use native.Mathlib.Omega.{arith}
use native.Mathlib.Nat.{mod-lt}
use lib.ListN.{length}
use Rattle.doubles.proofs.Tables.{look_first, look_next, next_less, found_at, found_nowhere}
use Rattle.doubles.proofs.seen.is_in.Goals as goal

pub offset_bounds-words-key : goal.offset_bounds-words-key
offset_bounds-words-key c = omega (arith, mod-lt c.args.key.number {m = length c.args.numbers.now} (omega arith))

pub bounds-words-key : goal.bounds-words-key
bounds-words-key c = omega (arith, mod-lt c.args.key.number {m = length c.args.numbers.now} (omega arith))

pub loop-link-init : goal.loop-link-init
loop-link-init c = rw c.from-link.ensures (λ ks t. look_first _ t (omega arith))

pub is_at-requires : goal.is_at-requires
is_at-requires c =
    record {
      holds = (
        c.requires.holds.0,
        c.requires.holds.1,
        omega (arith, (c.loop-link.invariant c.requires.holds.0 c.requires.holds.1).low),
      );
      standing = c.requires.standing;
    }

pub returns-then-is_at : goal.returns-then-is_at
returns-then-is_at c = let same = sym c.is_at.ensures ∙ c.if-is_at.true in
    λ ks t. found_at _ t (c.loop-link.invariant ks t) (c.loop-link.link - 1) (omega arith) same

pub overflow_mul-at : goal.overflow_mul-at
overflow_mul-at c = omega (arith, (c.loop-link.invariant c.requires.holds.0 c.requires.holds.1).low)

pub overflow_add-at : goal.overflow_add-at
overflow_add-at c = omega (arith, (c.loop-link.invariant c.requires.holds.0 c.requires.holds.1).low)

pub overflow_add-at-in-loop-link : goal.overflow_add-at-in-loop-link
overflow_add-at-in-loop-link c = omega (arith, (c.loop-link.invariant c.requires.holds.0 c.requires.holds.1).low)

pub offset_bounds-words-at : goal.offset_bounds-words-at
offset_bounds-words-at c = omega (arith, (c.loop-link.invariant c.requires.holds.0 c.requires.holds.1).low)

pub bounds-words-at : goal.bounds-words-at
bounds-words-at c = omega (arith, (c.loop-link.invariant c.requires.holds.0 c.requires.holds.1).low)

pub loop-link-smaller : goal.loop-link-smaller
loop-link-smaller c =
    rw c.from-link-in-loop-link.ensures
    (next_less _ c.requires.holds.1 (c.loop-link.invariant c.requires.holds.0 c.requires.holds.1) (c.loop-link.link - 1)
    (omega arith))

pub loop-link-preserved : goal.loop-link-preserved
loop-link-preserved c = let other = sym c.is_at.ensures ∙ c.if-is_at.false in
    rw c.from-link-in-loop-link.ensures
    (λ ks t. look_next _ t (c.loop-link.invariant ks t) (c.loop-link.link - 1) (omega arith) other)

pub returns : goal.returns
returns c = λ ks t. found_nowhere _ t (c.loop-link.invariant ks t) (omega arith)

use mathlib.Core.Path.{subst, sym, ◌∙◌, ap}
use Rattle.token_list.specs.declared.check.Cursor.{Cursor}
use Prim.Native.Nat.{ℕ}
use Rattle.parse.specs.Contract.{TokenIn}
use Rattle.parse.proofs.Meeting.{punct_of, past_in_of}
use Rattle.parse.proofs.Places.{token_in}
use Rattle.parse.proofs.Hashes as hashes
use Rattle.parse.proofs.attributes.after_hash.Goals as goal

pub peek-requires : goal.peek-requires
peek-requires c = past_in_of _ _ _ _ c.past-next.ensures c.requires.in_list c.punct_at-hash.ensures.token

pub take_group-after-requires-clause-in_list : goal.take_group-after-requires-clause-in_list
take_group-after-requires-clause-in_list c =
    past_in_of _ _ _ _ c.past-next.ensures c.requires.in_list c.punct_at-hash.ensures.token

pub returns-else-not-is_punct : goal.returns-else-not-is_punct
returns-else-not-is_punct c =
    let below = past_in_of _ _ _ _ c.past-next.ensures c.requires.in_list c.punct_at-hash.ensures.token in
    let k = c.in-Leaf.ensures in (
      hashes.hash-idle _ _ c.requires.in_list _ c.punct_at-hash.ensures c.requires.c_value _ c.past-next.ensures _ k _ _
          c.set_role.ensures (punct_of _ _ _ _ k.token ∙ sym c.if-not-is_punct.ensures),
      subst (λ (n : ℕ). TokenIn c.args.s.now n c.in-Leaf.t) (ap (λ (x : Cursor). x.row) c.past-next.ensures)
          (token_in _ _ _ below k.token),
    )

pub returns-else-g-ne91 : goal.returns-else-g-ne91
returns-else-g-ne91 c =
    let below = past_in_of _ _ _ _ c.past-next.ensures c.requires.in_list c.punct_at-hash.ensures.token in
    let k = c.in-Group.ensures in (
      hashes.hash-group _ _ c.requires.in_list _ c.punct_at-hash.ensures c.requires.c_value _ c.past-next.ensures _
          below k _ _ _ _ c.if-g-ne91.false c.set_role-in-Group.ensures c.take_group-after.ensures,
      subst (λ (n : ℕ). TokenIn c.args.s.now n c.in-Group.g) (ap (λ (x : Cursor). x.row) c.past-next.ensures)
          (token_in _ _ _ below k.token),
    )

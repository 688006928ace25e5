-- Laws on comments, from an offset on.
use mathlib.Core.Path.{◌≡◌, refl, ap, ◌∙◌, sym}
use mathlib.Core.Bool.{Bool, true, false, cond, ◌&&◌}
use mathlib.Core.List.{List, [], ◌∷◌}
use Prim.Native.Nat.{ℕ, zero, suc, ◌+◌, ◌-◌, ◌≤◌, ◌<◌}
use native.Mathlib.Omega.{arith}
use borrow.Author.Tests.{eq-eqb, ne_eqb, eqb-true}
use lib.Dec.{eqb}
use lib.ListN.{length, get_or, drop}
use Rattle.token_list.proofs.Texts.{drop_next, chosen, passed_over, and_parts}
use Rattle.source.specs.Bytes.{SLASH, STAR, in_doc}
use Rattle.source.specs.Taken.{takes, fault, after, run}
use Rattle.source.specs.Comment.{block, line_ends, doc_line}
use Rattle.source.specs.Contract.{RunEnd, NoSlash}
use Rattle.source.proofs.Offsets.{and_fails_last, stands, byte-first, drop_behind}
use Rattle.source.proofs.Passed.{after_none, after_more}

-- what is passed over is as if it were not there
block_skip : (depth k : ℕ) (s : List ℕ) → block depth k s ≡ after k (block depth 0 (drop k s))
block_skip depth zero s = sym (after_none _)
block_skip depth (suc k) [] = refl
block_skip depth (suc k) (b ∷ s) = after_more k (block depth 0 (drop k s)) (block_skip depth k s)

-- these two bytes stand at i
abbrev pub pair : List ℕ → ℕ → ℕ → ℕ → Bool
pair s i first second = eqb (get_or s i 0) first && eqb (get_or s (i + 1) 0) second

pub pair_stands : (s : List ℕ) (i first second : ℕ) → pair s i first second ≡ true → 0 < second → i + 1 < length s
pair_stands s i first second q h =
    let e = eqb-true _ second (and_parts (eqb (get_or s i 0) first) (eqb (get_or s (i + 1) 0) second) q).1 in
    stands s (i + 1) (λ z. omega arith)

-- where a byte stands
module _ (depth : ℕ) (s : List ℕ) (i : ℕ) (h : i < length s) where
  block_of : block depth 0 (drop i s)
      ≡ cond (pair s i STAR SLASH) (cond (eqb depth 0) (takes 2) (after 1 (block (depth - 1) 1 (drop (i + 1) s))))
      (cond (pair s i SLASH STAR) (after 1 (block (depth + 1) 1 (drop (i + 1) s)))
      (after 1 (block depth 0 (drop (i + 1) s))))
  block_of = rw (drop_next s i h, byte-first s (i + 1))

  -- two bytes, and at another depth on
  two : (d : ℕ) → after 1 (block d 1 (drop (i + 1) s)) ≡ after 2 (block d 0 (drop (i + 2) s))
  two d =
      let n : i + 1 + 1 ≡ i + 2 = omega arith in
      let rest = drop_behind s (i + 1) 1 ∙ ap (λ (j : ℕ). drop j s) n in
      after_more 1 (block d 0 (drop 1 (drop (i + 1) s))) (block_skip d 1 (drop (i + 1) s))
      ∙ ap (λ (l : List ℕ). after 2 (block d 0 l)) rest

  pub block_ends : pair s i STAR SLASH ≡ true → depth ≡ 0 → block depth 0 (drop i s) ≡ takes 2
  block_ends q e = block_of ∙ chosen _ _ _ q ∙ chosen _ _ _ (eq-eqb _ _ e)

  pub block-closes : pair s i STAR SLASH ≡ true → (depth ≡ 0 → ⊥) →
      block depth 0 (drop i s) ≡ after 2 (block (depth - 1) 0 (drop (i + 2) s))
  block-closes q e = block_of ∙ chosen _ _ _ q ∙ passed_over _ _ _ (ne_eqb _ _ e) ∙ two (depth - 1)

  pub block-opens : pair s i STAR SLASH ≡ false → pair s i SLASH STAR ≡ true →
      block depth 0 (drop i s) ≡ after 2 (block (depth + 1) 0 (drop (i + 2) s))
  block-opens p q = block_of ∙ passed_over _ _ _ p ∙ chosen _ _ _ q ∙ two (depth + 1)

  pub block_next : pair s i STAR SLASH ≡ false → pair s i SLASH STAR ≡ false →
      block depth 0 (drop i s) ≡ after 1 (block depth 0 (drop (i + 1) s))
  block_next p q = block_of ∙ passed_over _ _ _ p ∙ passed_over _ _ _ q

-- from a byte on up to e, where no `/` stands
module _ (depth : ℕ) (s : List ℕ) (e : ℕ) (l : e ≤ length s) where
  pub block_plain : (n i : ℕ) → i + n ≡ e → NoSlash s i (e + 1)
      → block depth 0 (drop i s) ≡ after n (block depth 0 (drop e s))
  block_plain zero i p h =
      let q : i ≡ e = omega arith in ap (λ (j : ℕ). block depth 0 (drop j s)) q ∙ sym (after_none _)
  block_plain (suc n) i p h =
      let here = ne_eqb (get_or s i 0) SLASH (h i (omega arith) (omega arith)) in
      let behind = ne_eqb (get_or s (i + 1) 0) SLASH (h (i + 1) (omega arith) (omega arith)) in
      let next = block_next depth s i (omega arith) (and_fails_last (eqb (get_or s i 0) STAR) behind) (rw here) in
      let rest = block_plain n (i + 1) (omega arith) (λ k b a. h k b (omega arith)) in
      next ∙ after_more n (block depth 0 (drop e s)) rest

-- ## Doc comments

module _ (s : List ℕ) (i : ℕ) where
  -- the text of the line ends at e
  module _ (e : ℕ) (r : RunEnd in_doc s (i + 3) e) where
    doc_line_of : doc_line (drop i s) ≡ after 3 (cond (line_ends (drop e s)) (takes (e - (i + 3))) fault)
    unfolding doc_line
    doc_line_of =
        let n : run in_doc (drop (i + 3) s) ≡ e - (i + 3) = omega (arith, r.told) in
        let m : i + 3 + (e - (i + 3)) ≡ e = omega (arith, r.told) in
        let rest = drop_behind s (i + 3) (e - (i + 3)) ∙ ap (λ (j : ℕ). drop j s) m in
        rw (drop_behind s i 3, n, rest)

    pub doc_line_to : line_ends (drop e s) ≡ true → doc_line (drop i s) ≡ takes (e - i)
    doc_line_to q =
        let n : 3 + (e - (i + 3)) ≡ e - i = omega (arith, r.told) in
        doc_line_of ∙ ap (after 3) (chosen _ _ _ q) ∙ ap takes n

    pub doc_line-none : line_ends (drop e s) ≡ false → doc_line (drop i s) ≡ fault
    doc_line-none q = doc_line_of ∙ ap (after 3) (passed_over _ _ _ q)

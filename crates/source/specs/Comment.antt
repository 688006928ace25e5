-- Comments (Reference 1.63, "Comments").
use Rattle.std.specs.Prelude.{Bool, true, not, cond, ◌&&◌, ◌||◌, List, [], ◌∷◌, ℕ, zero, suc, ◌+◌, ◌-◌, eqb, drop}
use Rattle.std.specs.Prelude.{get_or}
use Rattle.token_list.specs.Byte.{LF}
use Rattle.source.specs.Bytes.{CR, SLASH, STAR, BANG, in_doc}
use Rattle.source.specs.Taken.{Taken, takes, fault, after, run}

-- BLOCK_COMMENT from behind its `/*`, inside so many others; the first `skip` bytes are passed over
abbrev pub block : ℕ → ℕ → List ℕ → Taken
block depth skip [] = fault
block depth (suc skip) (b ∷ bs) = after 1 (block depth skip bs)
block depth zero (b ∷ bs) =
    cond (eqb b STAR && eqb (get_or bs 0 0) SLASH)
    (cond (eqb depth 0) (takes 2) (after 1 (block (depth - 1) 1 bs)))
    (cond (eqb b SLASH && eqb (get_or bs 0 0) STAR) (after 1 (block (depth + 1) 1 bs)) (after 1 (block depth 0 bs)))

-- INNER_BLOCK_DOC and OUTER_BLOCK_DOC begin so; those are postponed
unfoldable pub block_doc : List ℕ → Bool
block_doc s =
    eqb (get_or s 2 0) BANG
    || (eqb (get_or s 2 0) STAR && not (eqb (get_or s 3 0) STAR || eqb (get_or s 3 0) SLASH))

unfoldable pub block_comment : List ℕ → Taken
block_comment s = cond (block_doc s) fault (after 2 (block 0 0 (drop 2 s)))

-- OUTER_LINE_DOC begins so
unfoldable pub outer_line : List ℕ → Bool
outer_line s = eqb (get_or s 2 0) SLASH && not (eqb (get_or s 3 0) SLASH)

-- where a line ends: with the text, before an LF, before a CR and an LF
abbrev pub line_ends : List ℕ → Bool
line_ends [] = true
line_ends (b ∷ bs) = eqb b LF || (eqb b CR && eqb (get_or bs 0 0) LF)

-- OUTER_LINE_DOC, its text of n bytes without `"` and `\`
abbrev pub doc_of_lem : ℕ → List ℕ → Taken
doc_of_lem n s = cond (line_ends (drop n s)) (takes n) fault

unfoldable pub doc_line : List ℕ → Taken
doc_line s = after 3 (doc_of_lem (run in_doc (drop 3 s)) (drop 3 s))

-- Comments: what the definitions take is what the productions say.
use mathlib.Core.Path.{◌≡◌, refl, ap, ◌∙◌, sym, subst}
use mathlib.Core.Bool.{Bool, true, false, cond, not, ◌&&◌, ◌||◌, false≢true}
use mathlib.Core.List.{List, [], ◌∷◌, ◌++◌, append_assoc}
use Prim.Native.Nat.{ℕ, zero, suc, ◌+◌, ◌-◌, ◌<◌}
use native.Mathlib.Numerals.{add-one}
use native.Mathlib.Omega.{arith}
use lib.Dec.{eqb, eqb-suc-zero}
use borrow.Author.Tests.{eqb-true, not-false}
use lib.ListN.{length, get_or, drop, length-append}
use lib.Seq.{drop_at}
use Rattle.token_list.specs.Byte.{LF}
use Rattle.token_list.specs.Text.{all}
use Rattle.token_list.proofs.Texts.{and_parts, chosen, passed_over}
use Rattle.source.specs.Bytes.{CR, SLASH, STAR, BANG, in_line, in_doc}
use Rattle.source.specs.Taken.{Taken, takes, fault, after, run}
use Rattle.source.specs.Comment.{block, block_doc, block_comment, line_ends, doc_of_lem, doc_line}
use Rattle.source.specs.Division.{begins, is, Longest, Block, no_doc, LineEnd}
use Rattle.source.proofs.DivisionCuts.{Cut, cut, none, choice, before, at_byte, at_second, after_takes}
use Rattle.source.proofs.DivisionCuts.{after-after, begins-first, Ran, ran, run_sound, run_complete}

-- ## Block comments

-- what stands behind as many `/*` that are open, one inside another
data Stack : ℕ → List ℕ → Type 0 where
  last : {p : List ℕ} → Block p → Stack 0 p
  inside : {d : ℕ} {p q : List ℕ} → Block p → Stack d q → Stack (suc d) (p ++ q)

block_some : {p : List ℕ} → Block p → 1 < length p
block_some Block.close = omega arith
block_some (Block.nested h k) = omega arith
block_some (Block.other e f h) = omega (arith, block_some h)

begins-front : (t : ℕ → Bool) (p q : List ℕ) → 0 < length p → begins t (p ++ q) ≡ begins t p
begins-front t [] q h = absurd (omega arith)
begins-front t (b ∷ p) q h = refl

stack_some : {d : ℕ} {p : List ℕ} → Stack d p → 0 < length p
stack_some (last h) = omega (arith, block_some h)
stack_some (inside {p = p} {q} h k) = omega (arith, block_some h, length-append p q)

deeper : {d : ℕ} {p : List ℕ} → Stack (suc d) p → Stack d (SLASH ∷ STAR ∷ p)
deeper (inside h (last k)) = last (Block.nested h k)
deeper (inside {p = p} h (inside {d = d} {p = q} {q = r} k rest)) =
    subst (λ (t : List ℕ). Stack (suc d) (SLASH ∷ STAR ∷ t)) (append_assoc p q r) (inside (Block.nested h k) rest)

plain : {d b : ℕ} {p : List ℕ} → (eqb b STAR && begins (is SLASH) p) ≡ false
    → (eqb b SLASH && begins (is STAR) p) ≡ false → Stack d p → Stack d (b ∷ p)
plain e f (last h) = last (Block.other e f h)
plain {b = b} e f (inside {p = p} {q} h k) =
    let front : (t : ℕ → Bool) → begins t (p ++ q) ≡ begins t p =
    λ t. begins-front t p q (omega (arith, block_some h)) in
    inside (Block.other (ap (λ (x : Bool). eqb b STAR && x) (sym (front (is SLASH))) ∙ e)
    (ap (λ (x : Bool). eqb b SLASH && x) (sym (front (is STAR))) ∙ f) h) k

-- a byte that begins neither `*/` nor `/*`
plain_step : {d b : ℕ} {s : List ℕ} {t : Taken} → (eqb b STAR && eqb (get_or s 0 0) SLASH) ≡ false
    → (eqb b SLASH && eqb (get_or s 0 0) STAR) ≡ false → Cut (λ p r. Stack d p) s t
    → Cut (λ p r. Stack d p) (b ∷ s) (after 1 t)
plain_step e f none = none
plain_step e f (cut [] r h q) = absurd (omega (arith, stack_some h))
plain_step {b = b} e f (cut (c ∷ p) r {n = n} h q) =
    let whole : 1 + n ≡ suc (suc (length p)) = omega (arith, q) in cut (b ∷ c ∷ p) r (plain e f h) whole

block_sound : (s : List ℕ) (d : ℕ) → Cut (λ p r. Stack d p) s (block d 0 s)
block_sound [] d = none
block_sound (b ∷ []) d =
    choice (eqb b STAR && false) (λ e. absurd (false≢true (and_parts (eqb b STAR) _ e).1))
    (λ e. choice (eqb b SLASH && false) (λ f. absurd (false≢true (and_parts (eqb b SLASH) _ f).1)) (λ f. none))
block_sound (b ∷ c ∷ s) d =
    choice (eqb b STAR && eqb c SLASH)
    (λ e. let both = and_parts (eqb b STAR) _ e in
    at_byte STAR both.0 (at_second SLASH both.1 (close d (block_sound s))))
    (λ e. choice (eqb b SLASH && eqb c STAR)
    (λ f. let both = and_parts (eqb b SLASH) _ f in
    at_byte SLASH both.0 (at_second STAR both.1 (inner d (block_sound s))))
    (λ f. plain_step e f (block_sound (c ∷ s) d)))
  where
    twice : {d e : ℕ} {a b : ℕ} {t : Taken} → Cut (λ p r. Stack e p) s t
        → ((p r : List ℕ) → Stack e p → Stack d (a ∷ b ∷ p)) → Cut (λ p r. Stack d p) (a ∷ b ∷ s) (after 1 (after 1 t))
    twice {d} {e} {a} {b} h k =
        before (a ∷ []) 1 refl (before {Q = λ p r. Stack d (a ∷ p)} (b ∷ []) 1 refl h k) (λ p r x. x)

    close : (d : ℕ) → ((d : ℕ) → Cut (λ p r. Stack d p) s (block d 0 s))
        → Cut (λ p r. Stack d p) (STAR ∷ SLASH ∷ s) (cond (eqb d 0) (takes 2) (after 1 (after 1 (block (d - 1) 0 s))))
    close zero rest = cut (STAR ∷ SLASH ∷ []) s (last Block.close) refl
    close (suc d) rest =
        let less : d ≡ suc d - 1 = omega arith in
        let within = subst
        (λ (e : ℕ). Cut (λ p r. Stack (suc d) p) (STAR ∷ SLASH ∷ s) (after 1 (after 1 (block e 0 s)))) less (twice
        (rest d) (λ p r h. inside Block.close h)) in
        choice (eqb (suc d) 0) (λ e. absurd (false≢true (sym (eqb-suc-zero d) ∙ e))) (λ e. within)

    inner : (d : ℕ) → ((d : ℕ) → Cut (λ p r. Stack d p) s (block d 0 s))
        → Cut (λ p r. Stack d p) (SLASH ∷ STAR ∷ s) (after 1 (after 1 (block (d + 1) 0 s)))
    inner d rest = twice (rest (d + 1)) (λ p r h. deeper (subst (λ (e : ℕ). Stack e p) (add-one d) h))

-- what is behind a `*/`
abbrev outside : ℕ → List ℕ → Taken
outside zero r = takes 0
outside (suc d) r = block d 0 r

block_complete : {p : List ℕ} → Block p → (r : List ℕ) (d : ℕ) → block d 0 (p ++ r) ≡ after (length p) (outside d r)
block_complete Block.close r zero = refl
block_complete Block.close r (suc d) =
    let less : suc d - 1 ≡ d = omega arith in
    passed_over _ _ _ (eqb-suc-zero d) ∙ ap (λ (e : ℕ). after 1 (after 1 (block e 0 r))) less
    ∙ after-after 1 1 2 (block d 0 r) refl
block_complete (Block.nested {p} {q} h k) r d =
    let both : length p + length q ≡ length (p ++ q) = sym (length-append p q) in
    let first = ap (λ (e : ℕ). block e 0 (p ++ q ++ r)) (add-one d) ∙ ap (block (suc d) 0) (append_assoc p q r)
    ∙ block_complete h (q ++ r) (suc d) ∙ ap (after (length p)) (block_complete k r d)
    ∙ after-after (length p) (length q) (length (p ++ q)) (outside d r) both in
    ap (λ (t : Taken). after 1 (after 1 t)) first
    ∙ after-after 1 1 2 (after (length (p ++ q)) (outside d r)) refl
    ∙ after-after 2 (length (p ++ q)) (suc (suc (length (p ++ q)))) (outside d r) (omega arith)
block_complete (Block.other {b} {p} e f h) r d =
    let front : (t : ℕ → Bool) → t 0 ≡ false → t (get_or (p ++ r) 0 0) ≡ begins t p =
    λ t z. begins-first t z (p ++ r) ∙ begins-front t p r (omega (arith, block_some h)) in
    passed_over _ _ _ (ap (λ (x : Bool). eqb b STAR && x) (front (is SLASH) refl) ∙ e)
    ∙ passed_over _ _ _ (ap (λ (x : Bool). eqb b SLASH && x) (front (is STAR) refl) ∙ f)
    ∙ ap (after 1) (block_complete h r d) ∙ after-after 1 (length p) (suc (length p)) (outside d r) (omega arith)

-- ## Which comments are none of documentation

module _ (mark : ℕ) (again : ℕ → Bool) (some : eqb 0 mark ≡ false) (stops : again 0 ≡ false) where
  -- as the definitions test it
  pub doc_test : (s : List ℕ)
      → (eqb (get_or s 0 0) BANG || (eqb (get_or s 0 0) mark && not (again (get_or s 1 0)))) ≡ not (no_doc mark again s)
  doc_test [] = ap (λ (x : Bool). x && not (again 0)) some
  doc_test (b ∷ s) =
      ap (λ (x : Bool). eqb b BANG || (eqb b mark && not x)) (begins-first again stops s)
      ∙ go (eqb b BANG) (eqb b mark) (begins again s)
    where
      go : (x y z : Bool) → (x || (y && not z)) ≡ not (not x && (not y || z))
      go true y z = refl
      go false true true = refl
      go false true false = refl
      go false false z = refl

  pub doc_front : (p r : List ℕ) → 1 < length p → no_doc mark again (p ++ r) ≡ no_doc mark again p
  doc_front [] r h = absurd (omega arith)
  doc_front (b ∷ []) r h = absurd (omega arith)
  doc_front (b ∷ c ∷ p) r h = refl

-- ## Block comments that are none of documentation

abbrev block_again : ℕ → Bool
block_again b = eqb b STAR || eqb b SLASH

pub data BlockPart : List ℕ → Type 0 where
  made : {p : List ℕ} → no_doc STAR (λ b. eqb b STAR || eqb b SLASH) p ≡ true → Block p → BlockPart (SLASH ∷ STAR ∷ p)

pub comment_sound : (s : List ℕ) → Cut (λ p r. BlockPart p) (SLASH ∷ STAR ∷ s) (block_comment (SLASH ∷ STAR ∷ s))
unfolding block_comment block_doc
comment_sound s = go (block_sound s 0) (doc_test STAR block_again refl refl s)
  where
    block_of : {p : List ℕ} → Stack 0 p → Block p
    block_of (last h) = h

    go : {s : List ℕ} {t : Taken} {doc : Bool} → Cut (λ p r. Stack 0 p) s t → doc ≡ not (no_doc STAR block_again s)
        → Cut (λ p r. BlockPart p) (SLASH ∷ STAR ∷ s) (cond doc fault (after 2 t))
    go {doc = doc} none e = choice doc (λ f. none) (λ f. none)
    go {doc = doc} (cut p r {n = n} h q) e =
        let b = block_of h in
        let front = doc_front STAR block_again refl refl p r (block_some b) in
        let whole : 2 + n ≡ suc (suc (length p)) = omega (arith, q) in
        choice doc (λ f. none)
        (λ f. cut (SLASH ∷ STAR ∷ p) r (made (sym front ∙ not-false _ (sym e ∙ f)) b) whole)

pub comment_complete : {p : List ℕ} → BlockPart p → (r : List ℕ) → block_comment (p ++ r) ≡ takes (length p)
unfolding block_comment block_doc
comment_complete (made {p} e h) r =
    let plain = doc_test STAR block_again refl refl (p ++ r)
    ∙ ap not (doc_front STAR block_again refl refl p r (block_some h) ∙ e) in
    passed_over _ _ _ plain
    ∙ after_takes 2 (length p + 0) (suc (suc (length p))) (block_complete h r 0) (omega arith)

-- ## Lines

-- what ends a line comment is no mark
pub line-front : {p r : List ℕ} → Longest in_line p r
    → no_doc SLASH (is SLASH) (p ++ r) ≡ no_doc SLASH (is SLASH) p
unfolding in_line
line-front {p} {r} h = go p r h.ended
  where
    go : (p r : List ℕ) → begins in_line r ≡ false → no_doc SLASH (is SLASH) (p ++ r) ≡ no_doc SLASH (is SLASH) p
    go [] [] e = refl
    go [] (c ∷ r) e = ap (λ (x : ℕ). no_doc SLASH (is SLASH) (x ∷ r)) (eqb-true c LF (not-false (eqb c LF) e))
    go (b ∷ []) [] e = refl
    go (b ∷ []) (c ∷ r) e =
        ap (λ (x : ℕ). no_doc SLASH (is SLASH) (b ∷ x ∷ r)) (eqb-true c LF (not-false (eqb c LF) e))
    go (b ∷ c ∷ p) r e = refl

pub data DocText : List ℕ → List ℕ → Type 0 where
  text : {p r : List ℕ} → all in_doc p ≡ true → LineEnd r → DocText (SLASH ∷ SLASH ∷ SLASH ∷ p) r

ends_sound : (r : List ℕ) → line_ends r ≡ true → LineEnd r
ends_sound [] e = LineEnd.text
ends_sound (b ∷ r) e = go (eqb b LF) refl e
  where
    crlf : (r : List ℕ) → eqb (get_or r 0 0) LF ≡ true → LineEnd (CR ∷ r)
    crlf [] e = absurd (false≢true e)
    crlf (c ∷ r) e = subst (λ (x : ℕ). LineEnd (CR ∷ x ∷ r)) (sym (eqb-true c LF e)) LineEnd.crlf

    go : (t : Bool) → eqb b LF ≡ t → (t || (eqb b CR && eqb (get_or r 0 0) LF)) ≡ true → LineEnd (b ∷ r)
    go true q e = subst (λ (x : ℕ). LineEnd (x ∷ r)) (sym (eqb-true b LF q)) LineEnd.lf
    go false q e =
        let both = and_parts (eqb b CR) _ e in
        subst (λ (x : ℕ). LineEnd (x ∷ r)) (sym (eqb-true b CR both.0)) (crlf r both.1)

ends_complete : {r : List ℕ} → LineEnd r → line_ends r ≡ true
ends_complete LineEnd.text = refl
ends_complete LineEnd.lf = refl
ends_complete LineEnd.crlf = refl

-- what ends a doc line is none of its bytes
ends_longest : {r : List ℕ} → LineEnd r → begins in_doc r ≡ false
unfolding in_doc
ends_longest LineEnd.text = refl
ends_longest LineEnd.lf = refl
ends_longest LineEnd.crlf = refl

pub ends_no_slash : {r : List ℕ} → LineEnd r → eqb (get_or r 0 0) SLASH ≡ false
ends_no_slash LineEnd.text = refl
ends_no_slash LineEnd.lf = refl
ends_no_slash LineEnd.crlf = refl

pub doc_sound : (s : List ℕ) → Cut DocText (SLASH ∷ SLASH ∷ SLASH ∷ s) (doc_line (SLASH ∷ SLASH ∷ SLASH ∷ s))
unfolding doc_line
doc_sound s = go (run_sound in_doc s)
  where
    go : {s : List ℕ} {n : ℕ} → Ran in_doc s n → Cut DocText (SLASH ∷ SLASH ∷ SLASH ∷ s) (after 3 (doc_of_lem n s))
    go {n = n} (ran a r h q) =
        let rest = drop_at a r n (sym q) in
        before {P = λ p r. (all in_doc p ≡ true) × LineEnd r} (SLASH ∷ SLASH ∷ SLASH ∷ []) 3 refl
        (choice (line_ends (drop n (a ++ r)))
        (λ e. cut a r (h.each, ends_sound r (ap line_ends (sym rest) ∙ e)) q) (λ e. none))
        (λ p r h. text h.0 h.1)

pub doc_complete : (p r : List ℕ) → all in_doc p ≡ true → LineEnd r
    → doc_line (SLASH ∷ SLASH ∷ SLASH ∷ p ++ r) ≡ takes (suc (suc (suc (length p))))
unfolding doc_line
doc_complete p r e f =
    let count = run_complete {a = p} {r = r} (record { each = e; ended = ends_longest f }) in
    let rest = drop_at p r (run in_doc (p ++ r)) (sym count) in
    ap (after 3) (chosen _ _ _ (ap line_ends rest ∙ ends_complete f))
    ∙ after_takes 3 (length p) (suc (suc (suc (length p)))) (ap takes count) (omega arith)

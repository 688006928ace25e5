-- A run as it goes out differs in marks alone: it is as deep and as long, right again, and reads the same.
use mathlib.Core.Path.{◌≡◌, refl, ap, ◌∙◌, sym, subst}
use mathlib.Core.Bool.{Bool, true, false, not, ◌&&◌, ◌||◌, beq}
use mathlib.Core.List.{List, [], ◌∷◌, ◌++◌, map, map-append}
use Prim.Native.Nat.{ℕ, ◌+◌, max}
use lib.Dec.{eqb}
use lib.ListN.{replicate}
use Rattle.token_list.specs.Byte.{SPACE, LF, QUOTE}
use Rattle.token_list.specs.Layout.{PUNCT}
use Rattle.token_list.specs.Text as text
use Rattle.token_list.specs.Row.{Row, first, own_mark_lem, written, right_mark}
use Rattle.token_list.specs.Rows.{opening, closing}
use Rattle.token_list.specs.Check.{right}
use Rattle.token_list.specs.Stream.{Trees, end, leaf, group, size}
use Rattle.token_list.proofs.Texts.{and_both, and_parts}
use Rattle.token_list.proofs.Passed.{right-row}
use Rattle.reading.specs.Role as role
use Rattle.reading.specs.Grammar.{arrow, deeper, back, token, inside, ended}
use Rattle.writing.specs.Rows.{run_rows, sent_row, sent}
use Rattle.writing.specs.Depth.{depth}
use Rattle.writing.proofs.Joined as j
use Rattle.writing.proofs.Balanced.{sound}
use Rattle.writing.proofs.Runs.{Alone}
use Rattle.writing.proofs.Reread.{StandsAlone}

pub sent-size : (ts : Trees) → size (sent ts) ≡ size ts
sent-size end = refl
sent-size (leaf r us) = ap (λ (n : ℕ). 1 + n) (sent-size us)
sent-size (group d ts us) = λ i. 1 + sent-size ts i + 1 + sent-size us i

pub sent-depth : (ts : Trees) → depth (sent ts) ≡ depth ts
sent-depth end = refl
sent-depth (leaf r us) = sent-depth us
sent-depth (group d ts us) = λ i. max (1 + sent-depth ts i) (sent-depth us i)

-- ## Its rows, one by one

pub sent-rows : (ts : Trees) → run_rows (sent ts) ≡ map sent_row (run_rows ts)
sent-rows end = refl
sent-rows (leaf r us) = ap (λ (rs : List Row). sent_row r ∷ rs) (sent-rows us)
sent-rows (group d ts us) =
    (λ i. opening d ∷ sent-rows ts i ++ closing d ∷ sent-rows us i)
    ∙ ap (λ (rs : List Row). opening d ∷ rs) (sym (map-append sent_row (run_rows ts) (closing d ∷ run_rows us)))

-- without marks they have the same bytes
pub sent-written : (rs : List Row) → written false (map sent_row rs) ≡ written false rs
sent-written [] = refl
sent-written (r ∷ rs) = ap (λ (t : List ℕ). r.kind ∷ SPACE ∷ r.text ++ LF ∷ t) (sent-written rs)

-- ## It is right

sent_mark : (m : Bool) (r : Row) → right_mark m r ≡ true → right_mark m (sent_row r) ≡ true
sent_mark true r e = go r.joint (eqb r.kind PUNCT) (eqb (first r.text) QUOTE) e
  where
    go : (j p q : Bool) → (not j || p) ≡ true → (not (j || (p && q)) || p) ≡ true
    go true p q e = e
    go false true true e = refl
    go false true false e = refl
    go false false q e = refl
sent_mark false r e = go r.joint (own_mark_lem r.kind r.text) e
  where
    go : (j o : Bool) → beq j o ≡ true → beq (j || o) o ≡ true
    go true o e = e
    go false true e = refl
    go false false e = refl

sent-right : (m : Bool) (r : Row) → right m r ≡ true → right m (sent_row r) ≡ true
sent-right m r e =
    let h = right-row m r e in and_both _ _ h.formed (and_both _ _ h.short (sent_mark m r h.mark))

pub sent_sound : (m : Bool) (ts : Trees) → sound m ts ≡ true → sound m (sent ts) ≡ true
sent_sound m end e = refl
sent_sound m (leaf r us) e =
    let p = and_parts (j.token r && right m r) (sound m us) e in
    let q = and_parts (j.token r) (right m r) p.0 in
    and_both _ _ (and_both _ _ q.0 (sent-right m r q.1)) (sent_sound m us p.1)
sent_sound m (group d ts us) e =
    let p = and_parts (text.opening d) _ e in
    let q = and_parts (sound m ts) (sound m us) p.1 in
    and_both _ _ p.0 (and_both _ _ (sent_sound m ts q.0) (sent_sound m us q.1))

-- ## It reads the same

sent_alone : {depth : ℕ} {minus : Bool} {b : Trees} {rs : List ℕ} → Alone depth minus b rs
    → Alone depth minus (sent b) rs
sent_alone (arrow e h) = arrow e (sent_alone h)
sent_alone (deeper e h) = deeper e (sent_alone h)
sent_alone (back e z h) = back e z (sent_alone h)
sent_alone (token e h) = token e (sent_alone h)
sent_alone {depth} {minus} (inside {d = d} {ts = ts} {us = us} {rs = rs} e h) =
    subst (λ (n : ℕ). Alone depth minus (group d (sent ts) (sent us)) (replicate (1 + n + 1) role.bound ++ rs))
    (sent-size ts) (inside e (sent_alone h))
sent_alone (ended z) = ended z

pub sent-stands : {b : Trees} → StandsAlone b → StandsAlone (sent b)
sent-stands w = record { roles = w.roles; alone = sent_alone w.alone }

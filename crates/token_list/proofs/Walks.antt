-- Laws on the walk of the list check: one row at a time, and a whole group.
use Rattle.std.specs.Prelude.{Some, None, Result, Ok, Err}
use mathlib.Core.Path.{◌≡◌, refl, ap, ◌∙◌, sym}
use mathlib.Core.Bool.{Bool, true, false}
use mathlib.Core.List.{List, [], ◌∷◌}
use Prim.Native.Nat.{ℕ, ◌+◌, ◌-◌, ◌≤◌, ◌<◌}
use native.Mathlib.Omega.{arith}
use borrow.Author.Tests.{lt-ltb, le-ltb, le-leb, lt-leb, eq-eqb, ne_eqb}
use lib.Dec.{eqb}
use lib.ListN.{length, get_or, drop, drop_of_length-le}
use Rattle.token_list.specs.Text.{LF, closer}
use Rattle.token_list.specs.Layout.{marked, first_row, MAX_DEPTH}
use Rattle.token_list.specs.Row.{Lines, tail, line, lines, byte, Form, form, wrong}
use Rattle.token_list.specs.Check.{refused, END, named, Open, step, walk, check}
use Rattle.token_list.specs.Contract.{formed, shape, RowShaped, resumed, Walked, Within}
use Rattle.token_list.specs.declared.check.Cursor.{Cursor}
use Rattle.token_list.specs.declared.check.Refusal.{Refusal}
use Rattle.token_list.specs.declared.check.LevelEnd.{LevelEnd}
use Rattle.token_list.specs.declared.check.LevelEnd.TheVariants.{End, Close}
use Rattle.token_list.specs.declared.row.Line.{Line}
use Rattle.token_list.specs.declared.row.Shape.{Shape}
use Rattle.token_list.specs.declared.row.Shape.TheVariants.{Plain, Opens, Closed}
use Rattle.token_list.proofs.Texts.{chosen, passed_over, drop_next}

-- a byte is left, so a line is, or the bytes of one
begun-byte : (t : Bool) (b : ℕ) (ls : Lines) → byte t b ls ≡ tail [] → ⊥
begun-byte true b ls e = let z : ◌≡◌ {A = ℕ} 0 1 = cc in omega arith
begun-byte false b (tail t) e = let z : ◌≡◌ {A = ℕ} 0 1 = cc in omega arith
begun-byte false b (line l ls) e = let z : ◌≡◌ {A = ℕ} 0 1 = cc in omega arith

begun : (s : List ℕ) (at : ℕ) → at < length s → lines (drop at s) ≡ tail [] → ⊥
begun s at h e =
    begun-byte (eqb (get_or s at 0) LF) (get_or s at 0) (lines (drop (at + 1) s)) (sym (ap lines (drop_next s at h))
    ∙ e)

-- ## One row

limit : (m : Bool) (r : ℕ) (gs : List Open) (ls : Lines) → (ls ≡ tail [] → ⊥) → 4096 ≤ r → walk m r gs ls ≡ refused 4
    4096
limit m r gs (tail []) n h = absurd (n refl)
limit m r gs (tail (b ∷ bs)) n h = chosen _ _ _ (le-leb _ _ h)
limit m r gs (line l ls) n h = chosen _ _ _ (le-leb _ _ h)

no_row : (m : Bool) (r : ℕ) (gs : List Open) (ls : Lines) → (ls ≡ tail [] → ⊥) → r < 4096 → formed (form m) ls ≡ wrong →
    walk m r gs ls ≡ refused 3 r
no_row m r gs (tail []) n h e = absurd (n refl)
no_row m r gs (tail (b ∷ bs)) n h e = passed_over _ _ _ (lt-leb _ _ h)
no_row m r gs (line l ls) n h e =
    passed_over _ _ _ (lt-leb _ _ h) ∙ ap (λ (f : Form). step r gs f (λ hs. walk m (r + 1) hs ls)) e

row : (m : Bool) (r : ℕ) (gs : List Open) (f : Form) {l : List ℕ} {ls ms : Lines} → ms ≡ line l ls → formed
    (form m) ms ≡ f → r < 4096
    → walk m r gs ms ≡ step r gs f (λ hs. walk m (r + 1) hs ls)
row m r gs f {l} {ls} e q h =
    ap (walk m r gs) e ∙ passed_over _ _ _ (lt-leb _ _ h) ∙
    ap (λ (g : Form). step r gs g (λ hs. walk m (r + 1) hs ls)) (sym (ap (formed (form m)) e) ∙ q)

-- the walk came from c to the row at, at one level
pub record Reached (m : Bool) (s : List ℕ) (levels : ℕ) (c : Cursor) (at row : ℕ) : Type 0 where
  pub counted : row ≤ at
  pub within : at ≤ length s
  pub from : c.at ≤ at
  pub same : (gs : List Open) → length gs + levels ≡ MAX_DEPTH →
      walk m c.row gs (lines (drop c.at s)) ≡ walk m row gs (lines (drop at s))

-- ## What the walk of a level answers, by the row that it reached

abbrev refusal : ℕ → ℕ → Result LevelEnd Refusal
refusal n p = Err (record { number = n; place = p })

module _ {m : Bool} {s : List ℕ} {levels : ℕ} {c : Cursor} {at r : ℕ} (re : Reached m s levels c at r) where
  pub at_end : length s ≤ at → Walked m s c levels (Ok (End r))
  at_end h = record {
    right = λ gs e. re.same gs e ∙ ap (λ (t : List ℕ). walk m r gs (lines t)) (drop_of_length-le s {i = at} h);
    past = tt;
  }

  pub at_limit : at < length s → 4096 ≤ r → Walked m s c levels (refusal 4 4096)
  at_limit h k = record
      { right = λ gs e. re.same gs e ∙ limit m r gs (lines (drop at s)) (begun s at h) k; past = tt }

  pub at_wrong : at < length s → r < 4096 → RowShaped m s at None → Walked m s c levels (refusal 3 r)
  at_wrong h k sh = record {
    right = λ gs q. re.same gs q ∙ no_row m r gs (lines (drop at s)) (begun s at h) k (sym sh.right);
    past = tt;
  }

  module _ (k : r < 4096) {line : Line} (sh : RowShaped m s at (Some line)) {x : Shape} (e : line.shape ≡ x) where
    -- the row's own step
    stepped : (gs : List Open) → length gs + levels ≡ MAX_DEPTH
        → walk m c.row gs (lines (drop c.at s)) ≡ step r gs (shape x)
        (λ hs. walk m (r + 1) hs (lines (drop line.next s)))
    stepped gs q = re.same gs q ∙ row m r gs (shape x) sh.rest.1 (sym sh.right ∙ ap shape e) k

  -- a token
  module _ (k : r < 4096) {line : Line} (sh : RowShaped m s at (Some line)) (e : line.shape ≡ Plain) where
    pub at_plain : Reached m s levels c line.next (r + 1)
    at_plain = record {
      counted = omega (arith, re.counted, sh.past);
      within = sh.past.1;
      from = omega (arith, re.from, sh.past);
      same = stepped k sh e;
    }

  -- a closing row
  module _ (k : r < 4096) {line : Line} (sh : RowShaped m s at (Some line)) {d : ℕ} (e : line.shape ≡ Closed d) where
    pub at_close : Walked m s c levels (Ok (Close d r line.next))
    at_close = record {
      right = stepped k sh e;
      past = (omega (arith, re.counted, sh.past), omega (arith, re.from, sh.past), sh.past.1);
    }

  -- an opening row
  module _ (k : r < 4096) {line : Line} (sh : RowShaped m s at (Some line)) {d : ℕ} (e : line.shape ≡ Opens d) where
    pub too_deep : levels ≡ 0 → Walked m s c levels (refusal 6 r)
    too_deep z = record
        { right = λ gs q. stepped k sh e gs q ∙ chosen _ _ _ (le-leb MAX_DEPTH (length gs) (omega arith)); past = tt }

    abbrev inside : Cursor
    inside = record { at = line.next; row = r + 1 }

    pub opened : Within s inside
    opened = record { counted = omega (arith, re.counted, sh.past); within = sh.past.1 }

    module _ (z : levels ≡ 0 → ⊥) {inner : Result LevelEnd Refusal} (w : Walked m s inside (levels - 1) inner) where
      entered : (gs : List Open) → length gs + levels ≡ MAX_DEPTH
          → walk m c.row gs (lines (drop c.at s)) ≡ resumed m s (record { delimiter = d; row = r } ∷ gs) inner
      entered gs q =
          stepped k sh e gs q
          ∙ passed_over _ _ _ (lt-leb MAX_DEPTH (length gs) (omega arith))
          ∙ w.right (record { delimiter = d; row = r } ∷ gs) (omega arith)

    module _ (z : levels ≡ 0 → ⊥) where
      pub unclosed : {n : ℕ} → Walked m s inside (levels - 1) (Ok (End n)) → Walked m s c levels (refusal 7 r)
      unclosed w = record { right = entered z w; past = tt }

      pub refused_inside : {f : Refusal} → Walked m s inside (levels - 1) (Err f) → Walked m s c levels (Err f)
      refused_inside w = record { right = entered z w; past = tt }

      module _ {b close next : ℕ} (w : Walked m s inside (levels - 1) (Ok (Close b close next))) where
        pub mismatched : (closer d ≡ b → ⊥) → Walked m s c levels (refusal 5 close)
        mismatched n = record { right = λ gs q. entered z w gs q ∙ passed_over _ _ _ (ne_eqb _ _ n); past = tt }

        pub matched : closer d ≡ b → Reached m s levels c next (close + 1)
        matched q = record {
          counted = omega (arith, w.past);
          within = w.past.2;
          from = omega (arith, w.past, sh.past, re.from);
          same = λ gs p. entered z w gs p ∙ chosen _ _ _ (eq-eqb _ _ q);
        }

-- ## The whole check

pub too_long : (s : List ℕ) → 65536 < length s → check s ≡ refused 1 END
unfolding check
too_long s h = chosen _ _ _ (lt-ltb _ _ h)

pub unnamed : (s : List ℕ) → length s ≤ 65536 → named s ≡ false → check s ≡ refused 2 END
unfolding check
unnamed s h e = passed_over _ _ _ (le-ltb _ _ h) ∙ passed_over _ _ _ e

pub walked : (s : List ℕ) → length s ≤ 65536 → named s ≡ true →
    check s ≡ walk (marked s) 0 [] (lines (drop (first_row s) s))
unfolding check
walked s h e = passed_over _ _ _ (le-ltb _ _ h) ∙ chosen _ _ _ e

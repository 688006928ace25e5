-- The lines of the roles, and how many roles there are.
use mathlib.Core.Path.{◌≡◌, refl, ap, ◌∙◌, sym, subst}
use mathlib.Core.Bool.{true, false, true≢false}
use mathlib.Core.List.{List, [], ◌∷◌, ◌++◌}
use Prim.Native.Nat.{ℕ, zero, suc, ◌+◌, ◌*◌, ◌-◌, ◌^◌, ◌≤◌, ◌<◌}
use native.Mathlib.Numerals.{add-one}
use native.Mathlib.Omega.{arith}
use borrow.Author.Tests.{ltb-true, ne_eqb}
use lib.Dec.{ltb, eqb}
use lib.ListN.{length, get_or, take, drop, replicate, length-append, drop_of_length-le}
use lib.Seq.{take_at}
use Rattle.token_list.specs.Layout.{first_row}
use Rattle.token_list.specs.Text.{all}
use Rattle.token_list.specs.Check as list
use Rattle.token_list.specs.Stream.{Trees, size, at}
use Rattle.token_list.specs.declared.check.Refusal.{Refusal}
use Rattle.token_list.proofs.Texts.{and_parts, drop_next}
use Rattle.token_list.proofs.Passed.{passed_list}
use Rattle.token_list.proofs.Bounds.{bounds}
use Rattle.reading.specs.Role.{left_over}
use Rattle.reading.specs.Took.{Took, took, stopped}
use Rattle.reading.specs.Declaration.{Declaration}
use Rattle.reading.specs.Reading.{item}
use Rattle.reading.specs.Answer.{Answer, declared, refused, item_answer, answer, buffer, accepts}
use Rattle.reading.proofs.Frame.{framed_cases}
use Rattle.parse.specs.Contract.{Answered, accepted}
use Rattle.parse.specs.declared.item.ItemAt.{ItemAt}
use Rattle.reading.proofs.GrammarSound.{obeys_sound}
use Rattle.reading.proofs.Promise.{obeys_each}
use Rattle.parse.proofs.Items.{accepted_as}
use Rattle.std.specs.Prelude.{Result, Ok, Err}
use Rattle.output.proofs.Texts.{decimal-within, decimal_few}
use Rattle.report.specs.Text.{answer_text}
use Rattle.report.specs.Roles.{assigned, role_line, role_lines, NAMES, read_as_lem}

-- the lines from row i on
pub lines_next : (i : ℕ) (s : List ℕ) → i < length s →
    role_lines i (drop i s) ≡ role_line i (get_or s i 0) ++ role_lines (i + 1) (drop (i + 1) s)
lines_next i s h = rw (drop_next s i h, add-one)

pub lines_end : (i : ℕ) (s : List ℕ) → length s ≤ i → role_lines i (drop i s) ≡ []
lines_end i s h = ap (role_lines i) (drop_of_length-le s h)

-- the report of a list that passes
pub rows_few : (n : ℕ) → n < 2 ^ 64 → length (answer_text (list.Answer.passed n)) ≤ 64
rows_few n h = simp length-append (omega (arith, decimal_few n h))

-- ## The bytes before the first 255

abbrev Named : List ℕ → Type 0
Named rs = all (λ r. ltb r 19) rs ≡ true

none : (n : ℕ) → assigned (replicate n 255) ≡ 0
none zero = refl
none (suc n) = refl

-- no role is 255
assigned-all : (rs : List ℕ) (n : ℕ) → Named rs → assigned (rs ++ replicate n 255) ≡ length rs
assigned-all [] n h = none n
assigned-all (r ∷ rs) n h =
    let b = and_parts (ltb r 19) (all (λ q. ltb q 19) rs) h in
    let e : eqb r 255 ≡ false = ne_eqb r 255 (λ q. omega (arith, ltb-true r 19 b.0)) in
    rw e (omega (arith, assigned-all rs n b.1))

-- a row has at most four digits and a role two
lines_few : (row : ℕ) (rs : List ℕ) → row + length rs ≤ 10000 → Named rs → length (role_lines row rs) ≤ 8 * length rs
unfolding role_line
lines_few row [] h k = omega arith
lines_few row (r ∷ rs) h k =
    let b = and_parts (ltb r 19) (all (λ q. ltb q 19) rs) k in
    let role = decimal-within 1 r (omega (arith, ltb-true r 19 b.0)) in
    let more = lines_few (suc row) rs (omega arith) b.1 in
    simp length-append (omega (arith, decimal-within 3 row (omega arith), role, more))

-- ## The roles of an answer

module _ (s : List ℕ) (n : ℕ) (d : Declaration) (rs : List ℕ) where
  never : {m p : ℕ} → refused m p ≡ declared d rs → ⊥
  never e = let z : ◌≡◌ {A = ℕ} 0 1 = cc in omega arith

  -- what holds of the roles of every item holds of the answer's
  module _ (P : List ℕ → Type 0)
      (of-item : (k : ℕ) → list.check s ≡ list.Answer.passed k → (f : Declaration) (qs : List ℕ) (us : Trees) →
      item 0 (at s (first_row s)).here ≡ took f qs us
      → P (qs ++ replicate (size us) left_over)) where
    by_item : (k : ℕ) → list.check s ≡ list.Answer.passed k → (t : Took Declaration) → item 0 (at s
        (first_row s)).here ≡ t →
        item_answer t ≡ declared d rs → P rs
    by_item k c (took f qs us) i e =
        let q : qs ++ replicate (size us) left_over ≡ rs = cc in subst P q (of-item k c f qs us i)
    by_item k c (stopped w m p) i e = absurd (never e)

    pub by_answer : answer s n ≡ declared d rs → P rs
    unfolding answer
    by_answer =
        framed_cases (λ (a : Answer). a ≡ declared d rs → P rs) refused (λ rows. ltb n rows) item_answer s
        (λ m p c e. absurd (never e)) (λ k c h e. absurd (never e)) (λ k c h. by_item k c)

  named : answer s n ≡ declared d rs → Named rs
  named = by_answer Named (λ k c f qs us i. (obeys_each {ts = (at s (first_row s)).here} _ (obeys_sound i)).named)

  -- one for each row
  pub few_roles : answer s n ≡ declared d rs → length rs ≤ 4096
  few_roles =
      by_answer (λ (qs : List ℕ). length qs ≤ 4096)
      (λ k c f qs us i.
      let e = obeys_each {ts = (at s (first_row s)).here} _ (obeys_sound i) in
      omega (arith, e.counted, (passed_list s k c).size, (bounds s c).rows))

  pub roles_few : answer s n ≡ declared d rs → length (NAMES ++ role_lines 0 rs) ≤ 65536
  roles_few e =
      let count = few_roles e in
      simp length-append (omega (arith, lines_few 0 rs (omega (arith, count)) (named e), count))

module _ (s b0 : List ℕ) {b1 : List ℕ} where
  pub rows_read : {p : Result ItemAt Refusal} → Answered s p b0 b1 → accepted p ≡ true → (n : ℕ) → n ≡ assigned b1 →
      read_as_lem (Ok n) b1 (answer s (length b0))
  rows_read {p} h t n e = go (answer s (length b0)) refl
    where
      go : (a : Answer) → answer s (length b0) ≡ a → read_as_lem (Ok n) b1 a
      go (declared d rs) q =
          let rest : List ℕ = replicate (length b0 - length rs) 255 in
          let b : b1 ≡ rs ++ rest = h.buffer ∙ ap (buffer (length b0)) q in
          let c : n ≡ length rs = e ∙ ap assigned b ∙ assigned-all rs (length b0 - length rs)
          (named s (length b0) d rs q) in
          (omega (arith, ap length b, length-append rs rest), ap (take n) b ∙ take_at rs rest n (sym c))
      go (refused m r) q = absurd (true≢false (sym t ∙ accepted_as h ∙ ap accepts q))

-- ## What was read

-- the answer is a declaration, and the first n bytes are its roles
pub record Found (n : ℕ) (after : List ℕ) (a : Answer) : Type 0 where
  pub within : n ≤ length after
  pub declaration : Declaration
  pub same : a ≡ declared declaration (take n after)

pub found : {after : List ℕ} (n : ℕ) (a : Answer) {x : Result ℕ Refusal} → x ≡ Ok n → read_as_lem x after a →
    Found n after a
found {after} n a e h = go a (subst (λ (x : Result ℕ Refusal). read_as_lem x after a) e h)
  where
    go : (a : Answer) → read_as_lem (Ok n) after a → Found n after a
    go (declared d rs) k = record { within = k.0; declaration = d; same = ap (declared d) (sym k.1) }
    go (refused m p) k = absurd k

pub not_found : (after : List ℕ) (r : Refusal) (a : Answer) {x : Result ℕ Refusal} → x ≡ Err r → read_as_lem x after a →
    a ≡ refused r.number r.place
not_found after r a e h = go a (subst (λ (x : Result ℕ Refusal). read_as_lem x after a) e h)
  where
    go : (a : Answer) → read_as_lem (Err r) after a → a ≡ refused r.number r.place
    go (declared d rs) k = absurd k
    go (refused m p) k = sym (λ i. refused (k.0 i) (k.1 i))

-- Rows that are copied out of a list, as they go out.
use mathlib.Core.Path.{◌≡◌, refl, ap, ◌∙◌, sym, subst}
use mathlib.Core.Bool.{Bool, true, false, ◌&&◌, ◌||◌}
use mathlib.Core.List.{List, [], ◌∷◌, ◌++◌, map, map-append}
use Prim.Native.Nat.{ℕ, ◌+◌, ◌-◌, ◌≤◌, ◌<◌}
use native.Mathlib.Omega.{arith}
use borrow.Author.Tests.{leb-true, leb-false}
use lib.Dec.{eqb, leb}
use lib.ListN.{length, take, drop, length-map, length-append, length-drop, take-append-drop}
use lib.Seq.{slice, length-take-le, take-append_seam, take-append-add, drop-drop}
use Rattle.token_list.specs.Byte.{QUOTE}
use Rattle.token_list.specs.Layout.{marked}
use Rattle.token_list.specs.Row.{Row, written}
use Rattle.token_list.specs.Stream.{Trees, rows_at}
use Rattle.token_list.specs.Contract.{RightRows, InList, TokenAt, row_of}
use Rattle.token_list.specs.declared.check.Cursor.{Cursor}
use Rattle.token_list.specs.declared.stream.Token.{Token}
use Rattle.token_list.proofs.Rows.{rows_none}
use Rattle.token_list.proofs.Starts.{list_long}
use Rattle.token_list.proofs.Streams.{byte_of, the_row}
use Rattle.output.specs.Contract.{Put}
use Rattle.output.proofs.Texts.{retold}
use Rattle.writing.specs.Rows.{run_rows, sent_row, sent}
use Rattle.writing.proofs.Copied.{Copied, part_of}
use Rattle.writing.proofs.Sent.{sent-rows, sent-written}
use Rattle.generate.specs.Contract.{row, sent_mark_lem, Appended, between, Part, Extended, RunIn}
use Rattle.generate.specs.declared.stream_builder.ListBuilder.{ListBuilder}
use Rattle.generate.proofs.Builds.{then}

-- ## The rows between two cursors

between_length : {s : List ℕ} {from to : Cursor} → Part s from to → length (between s from to) ≡ to.row - from.row
between_length {s} {from} p = length-take-le _ (rows_at s from.at) p.enough

pub sent_length : {s : List ℕ} {from to : Cursor} → Part s from to → length (map sent_row (between s from to)) ≡
    to.row - from.row
sent_length {s} {from} {to} p = length-map (between s from to) sent_row ∙ between_length p

module _ {s : List ℕ} {from to : Cursor} (p : Part s from to) (ts : Trees) (e : between s from to ≡ run_rows ts) where
  -- the run as it goes out
  pub run-sent : {b r : ListBuilder} → Extended s from to b r → Appended b r (run_rows (sent ts))
  run-sent {b} {r} h =
      subst (λ (rs : List Row). Appended b r rs) (ap (map sent_row) e ∙ sym (sent-rows ts)) h

  pub run_length : length (run_rows (sent ts)) ≡ to.row - from.row
  run_length = ap length (sent-rows ts ∙ ap (map sent_row) (sym e)) ∙ sent_length p

-- a run that was read
pub run-between : {s : List ℕ} {c d : Cursor} {b : Trees} → Copied s c d b → InList s c → InList s d
    → RunIn s (record { from = c; to = d }) b
run-between {s} {c} {d} {b} h i j =
    let n : d.row - c.row ≡ length (run_rows b) = omega (arith, h.rows) in
    let rows : between s c d ≡ run_rows b =
    ap (λ (k : ℕ). take k (rows_at s c.at)) n ∙ ap (take (length (run_rows b))) h.here
    ∙ take-append_seam (run_rows b) (rows_at s d.at) in
    record {
      part = record {
        forth = h.forth;
        rows = omega (arith, h.rows);
        within = j.within;
        long = list_long i;
        enough = omega (arith, n, ap length h.here, length-append (run_rows b) (rows_at s d.at));
        bytes = h.bytes ∙ ap (written (marked s)) (sym rows);
        right_rows = i.right_rows;
      };
      rows = rows;
    }

-- ## As one part, without marks

pub as_part : {k l : List ℕ} {a b : ℕ} {w : Bool} {from to : Cursor} {s : List ℕ} → Part s from to
    → w ≡ false → marked s ≡ false → Put k l a b (take (to.at - from.at) (drop from.at s))
    → Put k l a b (written w (map sent_row (between s from to)))
as_part {w = w} {from} {to} {s} p e f q =
    let rs = between s from to in
    let text : slice from.at to.at s ≡ written w (map sent_row rs) =
    p.bytes ∙ ap (λ (m : Bool). written m rs) f ∙ sym (sent-written rs)
    ∙ ap (λ (m : Bool). written m (map sent_row rs)) (sym e) in
    retold (part_of from.at to.at s ∙ text) q

-- ## Row by row

take_next : (R : List Row) (n : ℕ) (x : Row) (ys : List Row) → drop n R ≡ x ∷ ys → n ≤ length R →
    take (n + 1) R ≡ take n R ++ x ∷ []
take_next R n x ys e h =
    let long : length (take n R) ≡ n = length-take-le n R h in
    ap (take (n + 1)) (sym (take-append-drop n R) ∙ ap (λ (zs : List Row). take n R ++ zs) e)
    ∙ ap (λ (j : ℕ). take (j + 1) (take n R ++ x ∷ ys)) (sym long)
    ∙ take-append-add (take n R) (x ∷ ys) 1

-- the rows before row `n`, which starts at `at`, are copied
pub record Copying (s : List ℕ) (from to : Cursor) (b r : ListBuilder) (at n : ℕ) : Type 0 where
  pub started : from.row ≤ n
  pub ended : n ≤ to.row
  pub right_rows : RightRows s at
  pub rest : rows_at s at ≡ drop (n - from.row) (rows_at s from.at)
  pub appended : Appended b r (map sent_row (take (n - from.row) (rows_at s from.at)))

module _ {s : List ℕ} {from to : Cursor} (p : Part s from to) {b r : ListBuilder} {at n : ℕ}
    (c : Copying s from to b r at n) where
  pub copying_within : n < to.row → at < length s
  copying_within h = go (leb (length s) at) refl
    where
      go : (t : Bool) → leb (length s) at ≡ t → at < length s
      go true e =
          let none = rows_none s at (leb-true (length s) at e) in
          absurd (omega (
            arith,
            ap length (sym none ∙ c.rest),
            length-drop (n - from.row) (rows_at s from.at),
            p.enough,
            c.started,
          ))
      go false e = leb-false (length s) at e

  pub copying_next : {t : Token} → TokenAt s at t → n < to.row → {d : ListBuilder} {joint : Bool}
      → joint ≡ sent_mark_lem t.kind t.joint t.byte
      → Appended r d (row t.kind joint (take (t.end - t.start) (drop t.start s)) ∷ [])
      → Copying s from to b d t.next (n + 1)
  copying_next {t} q h {d} {joint} e a =
      let R = rows_at s from.at in
      let past = n - from.row in
      let up : n + 1 - from.row ≡ past + 1 = omega (arith, c.started) in
      let here : drop past R ≡ row_of s t ∷ rows_at s t.next = sym c.rest ∙ the_row s at c.right_rows t q in
      let more : take (past + 1) R ≡ take past R ++ row_of s t ∷ [] =
      take_next R past (row_of s t) (rows_at s t.next) here (omega (arith, p.enough, c.started)) in
      let out : row t.kind joint (take (t.end - t.start) (drop t.start s)) ≡ sent_row (row_of s t) =
      λ i. record {
        kind = t.kind;
        joint = (e ∙ sym (byte_of s at t q (λ (p : Bool) (x : ℕ). t.joint || p && eqb x QUOTE) (λ x y. refl))) i;
        text = part_of t.start t.end s i;
      } in
      let rows : map sent_row (take past R) ++ row t.kind joint (take (t.end - t.start) (drop t.start s)) ∷ []
      ≡ map sent_row (take (n + 1 - from.row) R) =
      ap (λ (x : Row). map sent_row (take past R) ++ x ∷ []) out ∙ sym (map-append sent_row (take past R)
      (row_of s t ∷ []))
      ∙ ap (map sent_row) (sym (ap (λ (j : ℕ). take j R) up ∙ more)) in
      record {
        started = omega (arith, c.started);
        ended = omega arith;
        right_rows = q.right_rows;
        rest = ap (drop 1) (sym here) ∙ drop-drop 1 past R ∙ ap (λ (j : ℕ). drop j R) (sym up);
        appended = subst (λ (rs : List Row). Appended b d rs) rows (then c.appended a);
      }

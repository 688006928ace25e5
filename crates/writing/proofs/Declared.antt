-- What holds of the parameters of a declaration that was read from a stream of right tokens: their runs and names, how
-- deep they stand, and the bytes that they take.
use mathlib.Core.Path.{◌≡◌, refl, ap, ◌∙◌, sym, subst}
use mathlib.Core.Bool.{Bool, true, false, ◌&&◌}
use mathlib.Core.List.{List, [], ◌∷◌, ◌++◌, map}
use Prim.Native.Nat.{ℕ, suc, ◌+◌, ◌*◌, ◌≤◌, ◌<◌, max}
use native.Mathlib.Omega.{arith}
use borrow.Author.Tests.{eqb-true}
use lib.Dec.{eqb}
use lib.ListN.{length, length-append, length-map}
use Rattle.token_list.specs.Byte.{QUOTE, COLON, LF}
use Rattle.token_list.specs.Layout.{IDENT, PUNCT, marked, first_row, text_offset}
use Rattle.token_list.specs.Text as text
use Rattle.token_list.specs.Row.{Row, form_of, first, mark_column_lem, written}
use Rattle.token_list.specs.Rows.{ident, punct, opening, closing}
use Rattle.token_list.specs.Check.{is_row, right, check, passed}
use Rattle.token_list.specs.Stream.{Trees, end, leaf, group, size, at}
use Rattle.token_list.proofs.Columns.{column_length}
use Rattle.token_list.proofs.Texts.{and_both, and_parts, and_last, same_path}
use Rattle.token_list.proofs.Rows.{written_append}
use Rattle.token_list.proofs.Passed.{right-row}
use Rattle.reading.specs.Token.{is_ident, is_punct, is_end, CONST}
use Rattle.reading.specs.Declaration.{Parameter, lifetime, constant, type, Generics, angled, Declaration}
use Rattle.reading.specs.Took.{took}
use Rattle.reading.specs.Reading.{item}
use Rattle.reading.proofs.SoundTokens.{Sound, met_by}
use Rattle.writing.specs.Rows.{run_rows, sent_row, sent}
use Rattle.writing.specs.Generics.{constraints, bounds, parameter_rows, sent_parameter}
use Rattle.writing.specs.Depth.{depth}
use Rattle.writing.specs.ReadBack.{run_of}
use Rattle.writing.proofs.Joined.{joined, size_joined, rows_joined, token}
use Rattle.writing.proofs.Balanced.{ident_mark, sound, sound_joined, list_stream}
use Rattle.reading.specs.Grammar as g
use Rattle.writing.proofs.Read.{RunAt, OptionalRun, ParameterAt, CommaAt, ParametersAt, GenericsAt, Later}
use Rattle.writing.proofs.Read.{Within, item_read}
use Rattle.writing.proofs.Reread.{StandsAlone, type_const}
use Rattle.writing.proofs.Sent.{sent-depth, sent_sound, sent-stands}

-- a row's text stands four bytes in at most
pub offset_high : (m : Bool) → text_offset m ≤ 4
offset_high true = omega arith
offset_high false = omega arith

pub depth_joined : (ts us : Trees) → depth (joined ts us) ≡ max (depth ts) (depth us)
depth_joined end us = omega arith
depth_joined (leaf r ts) us = depth_joined ts us
depth_joined (group d ts vs) us = omega (arith, depth_joined vs us)

abbrev pub name_of : Parameter → List ℕ
name_of (lifetime n b) = n
name_of (constant n t) = n
name_of (type n b d) = n

-- with marks or without
module _ (m : Bool) where
  -- ## Bytes and depths

  -- the bytes of a stream's rows
  abbrev pub weight : Trees → ℕ
  weight ts = length (written m (run_rows ts))

  -- the bytes of a row whose text has one
  abbrev pub single : ℕ
  single = text_offset m + 2

  pub row-bytes : (r : Row) (rs : List Row)
      → length (written m (r ∷ rs)) ≡ text_offset m + 1 + length r.text + length (written m rs)
  row-bytes r rs =
      omega (
        arith,
        column_length m r.joint,
        length-append (mark_column_lem m r.joint) (r.text ++ LF ∷ written m rs),
        length-append r.text (LF ∷ written m rs),
      )

  pub rows-bytes : (rs qs : List Row) → length (written m (rs ++ qs)) ≡ length (written m rs) + length (written m qs)
  rows-bytes rs qs = ap length (written_append m rs qs) ∙ length-append (written m rs) (written m qs)

  weight_joined : (ts us : Trees) → weight (joined ts us) ≡ weight ts + weight us
  weight_joined ts us = ap (λ (rs : List Row). length (written m rs)) (rows_joined ts us)
      ∙ rows-bytes (run_rows ts) (run_rows us)

  weight_group : (d : ℕ) (ts us : Trees) → weight (group d ts us) ≡ single + weight ts + single + weight us
  weight_group d ts us =
      omega (
        arith,
        row-bytes (opening d) (run_rows ts ++ closing d ∷ run_rows us),
        rows-bytes (run_rows ts) (closing d ∷ run_rows us),
        row-bytes (closing d) (run_rows us),
      )

  -- marks do not change them
  sent_weight : (ts : Trees) → weight (sent ts) ≡ weight ts
  sent_weight end = refl
  sent_weight (leaf r us) =
      omega (arith, sent_weight us, row-bytes (sent_row r) (run_rows (sent us)), row-bytes r (run_rows us))
  sent_weight (group d ts us) =
      omega (arith, sent_weight ts, sent_weight us, weight_group d (sent ts) (sent us), weight_group d ts us)

  -- us is a part of ts: right, no deeper, no longer
  pub record Part (us ts : Trees) : Type 0 where
    pub right : sound m us ≡ true
    pub deep : depth us ≤ depth ts
    pub rows : size us ≤ size ts
    pub bytes : weight us ≤ weight ts

  -- ## One parameter

  -- the bytes of a parameter's rows
  abbrev pub cost : Parameter → ℕ
  cost p = length (written m (parameter_rows p))

  -- a parameter p of the stream ts, whose run stands alone
  pub record Declared (ts : Trees) (p : Parameter) : Type 0 where
    pub stands : StandsAlone (run_of p)
    pub plain : type_const p ≡ false
    pub name : right m (ident (name_of p)) ≡ true
    pub run : sound m (run_of p) ≡ true
    pub deep : depth (run_of p) ≤ depth ts

  -- it takes a row at least, and its own bytes, but for the `:` of a const
  record Takes (ts : Trees) (p : Parameter) (us : Trees) : Type 0 where
    declared : Declared ts p
    rest : sound m us ≡ true
    deep : depth us ≤ depth ts
    rows : size us < size ts
    bytes : cost p + weight us ≤ weight ts + single

  pub right_leaf : (q : Row) (us : Trees) → sound m (leaf q us) ≡ true → (right m q ≡ true) × (sound m us ≡ true)
  right_leaf q us e =
      let p = and_parts (token q && right m q) (sound m us) e in ((and_parts (token q) (right m q) p.0).1, p.1)

  right-name : (q : Row) → is_ident q ≡ true → right m q ≡ true → right m (ident q.text) ≡ true
  right-name q e h =
      let w = right-row m q h in
      and_both _ _
      (subst (λ (k : ℕ). is_row (form_of k q.text) ≡ true) (eqb-true q.kind IDENT e) w.formed)
      (and_both _ _ w.short (ident_mark m q.text))

  -- a punctuation has a text
  pub punct-bytes : (b : ℕ) (q : Row) (us : Trees) → is_punct (suc b) q ≡ true → single + weight us ≤ weight (leaf q us)
  punct-bytes b q us e = go q.text refl
    where
      go : (t : List ℕ) → q.text ≡ t → single + weight us ≤ weight (leaf q us)
      go [] h =
          let f = eqb-true (first q.text) (suc b) (and_parts (eqb q.kind PUNCT) _ e).1 in
          absurd (omega (arith, f, ap first h))
      go (x ∷ t) h = omega (arith, row-bytes q (run_rows us), ap length h)

  -- a run that ends before the end of its stream
  record Run (ts b us : Trees) : Type 0 where
    stands : StandsAlone b
    right : sound m b ≡ true
    rest : sound m us ≡ true
    deep : depth b ≤ depth ts
    less : depth us ≤ depth ts
    rows : size us ≤ size ts
    bytes : weight b + weight us ≤ weight ts

  run_of_lem : {ts b us : Trees} → RunAt ts b us → is_end us ≡ false → sound m ts ≡ true → Run ts b us
  run_of_lem {ts} {b} {us} r n h =
      let p = sound_joined m b us (sym (ap (sound m) r.cut) ∙ h) in
      let d = ap depth r.cut ∙ depth_joined b us in
      record {
        stands = record { roles = r.roles; alone = r.alone n };
        right = p.0;
        rest = p.1;
        deep = omega (arith, d);
        less = omega (arith, d);
        rows = omega (arith, ap size r.cut, size_joined b us);
        bytes = omega (arith, ap weight r.cut, weight_joined b us);
      }

  no_run : (us : Trees) → sound m us ≡ true → Run us end us
  no_run us h = record {
    stands = record { roles = []; alone = g.Run.ended refl };
    right = refl;
    rest = h;
    deep = omega arith;
    less = omega arith;
    rows = omega arith;
    bytes = omega arith;
  }

  -- a `:` and a run
  colon_bytes : (b : Trees) → length (written m (constraints b)) ≡ single + weight b
  colon_bytes b = omega (arith, row-bytes (punct COLON) (run_rows b))

  bounds-bytes : (b : Trees) → length (written m (bounds b)) ≤ single + weight b
  bounds-bytes end = omega arith
  bounds-bytes (leaf q us) = omega (arith, colon_bytes (leaf q us))
  bounds-bytes (group d ts us) = omega (arith, colon_bytes (group d ts us))

  -- an optional mark and its run
  record CountedRun (ts b us : Trees) : Type 0 where
    run : Run ts b us
    bounds : length (written m (bounds b)) + weight us ≤ weight ts
    const : length (written m (constraints b)) + weight us ≤ weight ts + single

  past_separator : (x : ℕ) (c : Row) {us b vs : Trees} → is_punct (suc x) c ≡ true → Run us b vs
      → CountedRun (leaf c us) b vs
  past_separator x c {us} {b} {vs} e r =
      let more = punct-bytes x c us e in
      record {
        run = record {
          stands = r.stands;
          right = r.right;
          rest = r.rest;
          deep = r.deep;
          less = r.less;
          rows = omega (arith, r.rows);
          bytes = omega (arith, r.bytes);
        };
        bounds = omega (arith, r.bytes, bounds-bytes b);
        const = omega (arith, r.bytes, colon_bytes b);
      }

  counted_of : (x : ℕ) {ts b us : Trees} → OptionalRun (suc x) ts b us → is_end us ≡ false → sound m ts ≡ true
      → CountedRun ts b us
  counted_of x {ts = ts} OptionalRun.none n h =
      record { run = no_run ts h; bounds = omega arith; const = omega (arith, colon_bytes end) }
  counted_of x (OptionalRun.some {c = c} {us = us} e r) n h =
      past_separator x c e (run_of_lem r n (right_leaf c us h).1)

  parameter_takes : {ts us : Trees} {p : Parameter} → ParameterAt ts p us → is_end us ≡ false → sound m ts ≡ true
      → Takes ts p us
  parameter_takes (ParameterAt.lifetime {q = q} {p = p} {us = us} {b = b} e f o) n h =
      let i = right_leaf q (leaf p us) h in
      let j = right_leaf p us i.1 in
      let k = counted_of 57 o n j.1 in
      record {
        declared = record {
          stands = k.run.stands;
          plain = refl;
          name = right-name p f j.0;
          run = k.run.right;
          deep = k.run.deep;
        };
        rest = k.run.rest;
        deep = k.run.less;
        rows = omega (arith, k.run.rows);
        bytes = omega (
          arith,
          k.bounds,
          punct-bytes 38 q (leaf p us) e,
          row-bytes p (run_rows us),
          row-bytes (punct QUOTE) (ident p.text ∷ bounds b),
          row-bytes (ident p.text) (bounds b),
        );
      }
  parameter_takes (ParameterAt.constant {q = q} {p = p} {us = us} {t = t} e f o) n h =
      let i = right_leaf q (leaf p us) h in
      let j = right_leaf p us i.1 in
      let k = counted_of 57 o n j.1 in
      let word = ap length (same_path q.text CONST (and_parts (is_ident q) _ e).1) in
      record {
        declared = record {
          stands = k.run.stands;
          plain = refl;
          name = right-name p f j.0;
          run = k.run.right;
          deep = k.run.deep;
        };
        rest = k.run.rest;
        deep = k.run.less;
        rows = omega (arith, k.run.rows);
        bytes = omega (
          arith,
          word,
          k.const,
          row-bytes q (run_rows (leaf p us)),
          row-bytes p (run_rows us),
          row-bytes (ident CONST) (ident p.text ∷ constraints t),
          row-bytes (ident p.text) (constraints t),
        );
      }
  parameter_takes (ParameterAt.bounded {q = q} {c = c} {us = us} {b = b} e f i r) n h =
      let j = right_leaf q (leaf c us) h in
      let k = past_separator 57 c i (run_of_lem r n (right_leaf c us j.1).1) in
      record {
        declared = record {
          stands = k.run.stands;
          plain = sym (and_last (is_ident q) _ f) ∙ e;
          name = right-name q f j.0;
          run = k.run.right;
          deep = k.run.deep;
        };
        rest = k.run.rest;
        deep = k.run.less;
        rows = omega (arith, k.run.rows);
        bytes = omega (arith, k.bounds, row-bytes q (run_rows (leaf c us)), row-bytes (ident q.text) (bounds b));
      }
  parameter_takes (ParameterAt.defaulted {q = q} {us = us} {d = d} e f o) n h =
      let j = right_leaf q us h in
      let k = counted_of 60 o n j.1 in
      let none = no_run us j.1 in
      record {
        declared = record {
          stands = none.stands;
          plain = sym (and_last (is_ident q) _ f) ∙ e;
          name = right-name q f j.0;
          run = refl;
          deep = omega arith;
        };
        rest = k.run.rest;
        deep = k.run.less;
        rows = omega (arith, k.run.rows);
        bytes = omega (arith, k.run.bytes, row-bytes q (run_rows us), row-bytes (ident q.text) []);
      }

  -- ## All parameters

  pub data AllDeclared (ts : Trees) : List Parameter → Type 0 where
    none : AllDeclared ts []
    also : {p : Parameter} {ps : List Parameter} → Declared ts p → AllDeclared ts ps → AllDeclared ts (p ∷ ps)

  -- parameters of a part are parameters of the whole
  pub declared_in : {ts us : Trees} {ps : List Parameter} → depth us ≤ depth ts → AllDeclared us ps → AllDeclared ts ps
  declared_in l none = none
  declared_in {ts} l (also {p = p} d ds) =
      let deep : depth (run_of p) ≤ depth ts = omega (arith, d.deep) in
      also (record { stands = d.stands; plain = d.plain; name = d.name; run = d.run; deep = deep })
      (declared_in l ds)

  -- the bytes of parameters, each with a `,`
  abbrev pub total : List Parameter → ℕ
  total [] = 0
  total (p ∷ ps) = cost p + single + total ps

  -- they take a row each, their own bytes but for `,` and the `:` of a const, of six bytes at most, and a `>`
  pub record All (ts : Trees) (ps : List Parameter) : Type 0 where
    pub declared : AllDeclared ts ps
    pub rows : length ps < size ts
    pub bytes : total ps + single ≤ weight ts + 12 * length ps

  comma-part : {us vs : Trees} → CommaAt us vs → sound m us ≡ true → Part vs us
  comma-part {us} CommaAt.absent h = record { right = h; deep = omega arith; rows = omega arith; bytes = omega arith }
  comma-part (CommaAt.present {q = q} {us = us} e) h =
      record {
        right = (right_leaf q us h).1;
        deep = omega arith;
        rows = omega arith;
        bytes = omega (arith, row-bytes q (run_rows us));
      }

  all-declared : {ts us : Trees} {ps : List Parameter} → ParametersAt ts ps us → sound m ts ≡ true → All ts ps
  all-declared (ParametersAt.close {q = q} {us = us} e) h =
      record { declared = none; rows = omega arith; bytes = omega (arith, punct-bytes 61 q us e) }
  all-declared (ParametersAt.next p n c ps) h =
      let t = parameter_takes p n h in
      let v = comma-part c t.rest in
      let i = all-declared ps v.right in
      let l = v.deep in
      let d = t.deep in
      record {
        declared = also t.declared (declared_in (omega arith) i.declared);
        rows = omega (arith, t.rows, v.rows, i.rows);
        bytes = omega (arith, t.bytes, v.bytes, i.bytes, offset_high m);
      }

  later_part : {ts us : Trees} → Later ts us → sound m ts ≡ true → Part us ts
  later_part {ts} Later.here h = record { right = h; deep = omega arith; rows = omega arith; bytes = omega arith }
  later_part (Later.past_leaf {q = q} {us = us} l) h =
      let p = later_part l (right_leaf q us h).1 in
      record {
        right = p.right;
        deep = p.deep;
        rows = omega (arith, p.rows);
        bytes = omega (arith, p.bytes, row-bytes q (run_rows us));
      }
  later_part (Later.past_group {d = d} {ts = ts} {us = us} l) h =
      let p = later_part l (and_parts (sound m ts) (sound m us) (and_parts (text.opening d) _ h).1).1 in
      record {
        right = p.right;
        deep = omega (arith, p.deep);
        rows = omega (arith, p.rows);
        bytes = omega (arith, p.bytes, weight_group d ts us);
      }

  -- the parameters of a declaration, with the `<` before them and the `>` after them
  pub record Generic (ts : Trees) (ps : List Parameter) : Type 0 where
    pub declared : AllDeclared ts ps
    pub rows : length ps < size ts
    pub bytes : total ps + single + single ≤ weight ts + 12 * length ps

  pub generic : {ts : Trees} {ps : List Parameter} → Within ts (angled ps) → sound m ts ≡ true → Generic ts ps
  generic {ts} {ps} w h = go w.stand (later_part w.past h)
    where
      go : {us : Trees} → GenericsAt us (angled ps) → Part us ts → Generic ts ps
      go (GenericsAt.some {q = q} {us = us} e a) p =
          let i = all-declared a (right_leaf q us p.right).1 in
          record {
            declared = declared_in p.deep i.declared;
            rows = omega (arith, i.rows, p.rows);
            bytes = omega (arith, i.bytes, p.bytes, punct-bytes 59 q us e);
          }

  -- ## The same parameters as they go out

  sent-declared : {ts : Trees} (p : Parameter) → Declared ts p → Declared ts (sent_parameter p)
  sent-declared {ts} p d = go p d
    where
      deep : (b : Trees) → depth b ≤ depth ts → depth (sent b) ≤ depth ts
      deep b l = subst (λ (n : ℕ). n ≤ depth ts) (sym (sent-depth b)) l

      go : (p : Parameter) → Declared ts p → Declared ts (sent_parameter p)
      go (lifetime n b) d = record {
        stands = sent-stands d.stands;
        plain = refl;
        name = d.name;
        run = sent_sound m b d.run;
        deep = deep b d.deep;
      }
      go (constant n t) d = record {
        stands = sent-stands d.stands;
        plain = refl;
        name = d.name;
        run = sent_sound m t d.run;
        deep = deep t d.deep;
      }
      go (type n b e) d = record {
        stands = sent-stands d.stands;
        plain = d.plain;
        name = d.name;
        run = sent_sound m b d.run;
        deep = deep b d.deep;
      }

  all-sent : {ts : Trees} {ps : List Parameter} → AllDeclared ts ps → AllDeclared ts (map sent_parameter ps)
  all-sent none = none
  all-sent (also {p = p} d ds) = also (sent-declared p d) (all-sent ds)

  sent-bounds : (b : Trees) → length (written m (bounds (sent b))) ≡ length (written m (bounds b))
  sent-bounds end = refl
  sent-bounds (leaf r us) =
      omega (arith, colon_bytes (sent (leaf r us)), colon_bytes (leaf r us), sent_weight (leaf r us))
  sent-bounds (group d ts us) =
      omega (arith, colon_bytes (sent (group d ts us)), colon_bytes (group d ts us), sent_weight (group d ts us))

  -- rows before others of the same length
  sent_cost : (p : Parameter) → cost (sent_parameter p) ≡ cost p
  sent_cost (lifetime n b) =
      omega (
        arith,
        sent-bounds b,
        rows-bytes (punct QUOTE ∷ ident n ∷ []) (bounds (sent b)),
        rows-bytes (punct QUOTE ∷ ident n ∷ []) (bounds b),
      )
  sent_cost (constant n t) =
      omega (
        arith,
        sent_weight t,
        rows-bytes (ident CONST ∷ ident n ∷ punct COLON ∷ []) (run_rows (sent t)),
        rows-bytes (ident CONST ∷ ident n ∷ punct COLON ∷ []) (run_rows t),
      )
  sent_cost (type n b d) =
      omega (arith, sent-bounds b, rows-bytes (ident n ∷ []) (bounds (sent b)), rows-bytes (ident n ∷ []) (bounds b))

  sent_total : (ps : List Parameter) → total (map sent_parameter ps) ≡ total ps
  sent_total [] = refl
  sent_total (p ∷ ps) = λ i. sent_cost p i + single + sent_total ps i

  sent_generic : {ts : Trees} {ps : List Parameter} → Generic ts ps → Generic ts (map sent_parameter ps)
  sent_generic {ps = ps} g =
      let n = length-map ps sent_parameter in
      record {
        declared = all-sent g.declared;
        rows = omega (arith, g.rows, n);
        bytes = omega (arith, g.bytes, sent_total ps, n);
      }

-- ## The law, of a list that was read: its parameters as they go out

pub declared_of : (s : List ℕ) {n : ℕ} {d : Declaration} {rs : List ℕ} {us : Trees} (ps : List Parameter)
    → check s ≡ passed n
    → item 0 (at s (first_row s)).here ≡ took d rs us → d.generics ≡ angled ps
    → Generic (marked s) (at s (first_row s)).here (map sent_parameter ps)
declared_of s ps c e g =
    let ts = (at s (first_row s)).here in
    let w = met_by (subst (Sound (λ d rs us. Within ts d.generics)) e (item_read 0 ts)) in
    sent_generic (marked s) (generic (marked s) (subst (λ (x : Generics). Within ts x) g w) (list_stream s c).right)

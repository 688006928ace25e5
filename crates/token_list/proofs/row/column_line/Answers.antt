use Rattle.std.specs.Prelude.{Option, None, IfSome}
use Rattle.std.proofs.lemmas.Option.{IfSome_then}
use mathlib.Core.Path.{◌≡◌, refl, sym, ◌∙◌, ap}
use mathlib.Core.List.{List, [], ◌∷◌}
use mathlib.Core.Bool.{true}
use Prim.Native.Nat.{ℕ, ◌+◌}
use native.Mathlib.Omega.{arith}
use lib.ListN.{get_or}
use Rattle.token_list.specs.Row.{form_of}
use Rattle.token_list.specs.Contract.{line_form, one_byte_lem, ColumnShaped}
use Rattle.token_list.specs.declared.row.Line.{Line}
use Rattle.token_list.proofs.Forms.{one_byte_parts, quick_byte, behind_space}
use Rattle.token_list.proofs.row.column_line.Goals as goal

-- the row of a text of one byte
byte_line : (k : ℕ) (s : List ℕ) (i : ℕ) (r : Option Line) → one_byte_lem s i ≡ true → IfSome r (λ x. x.next ≡ i + 4)
    → line_form r ≡ form_of k (get_or s (i + 2) 0 ∷ []) → ColumnShaped k s i r
byte_line k s i r one n f =
    let p = one_byte_parts s i one in
    let last : i + 2 + 1 ≡ i + 3 = omega arith in
    let lf = ap (λ (n : ℕ). get_or s n 0) last ∙ p.lf in
    behind_space k s i r (omega (arith, p.within)) p.space
    (quick_byte k s (i + 2) r (omega (arith, p.within)) lf (IfSome_then r n (λ x q. omega (arith, q))) f)

pub returns-then-one_byte : goal.returns-then-one_byte
returns-then-one_byte c =
    byte_line c.args.kind c.args.s.now c.args.column _ (sym c.one_byte.ensures ∙ c.if-one_byte.true) refl
    c.in_ok-byte_shape.ensures

pub returns-in_err-byte_shape : goal.returns-in_err-byte_shape
returns-in_err-byte_shape c =
    rw c.from_residual.ensures
    (byte_line c.args.kind c.args.s.now c.args.column None (sym c.one_byte.ensures ∙ c.if-one_byte.true) tt
    c.in_err-byte_shape.ensures)

use mathlib.Core.Path.{ap, sym}
use mathlib.Core.Bool.{false}
use mathlib.Core.List.{List, [], ◌∷◌}
use Prim.Native.Nat.{ℕ, ◌+◌}
use Rattle.token_list.specs.Row.{written}
use Rattle.token_list.specs.Rows.{lifetime_rows}
use Rattle.token_list.proofs.Texts.{drop_of_take}
use Rattle.output.proofs.Appends.{appended_join, appended_as}
use Rattle.source.specs.Lex.{row_at}
use Rattle.source.specs.Tokens.{doc_line_rows}
use Rattle.source.proofs.tokens.append_piece.Goals as goal

pub returns-in-Row : goal.returns-in-Row
returns-in-Row c = let text = sym (drop_of_take c.args.i c.in-Row.e c.args.s.now) in
    rw c.in-Row.is
    (appended_as (ap (λ (t : List ℕ). written false ((row_at c.in-Row.kind 0 t).row ∷ [])) text)
    c.append_row.ensures)

pub returns-in-Lifetime : goal.returns-in-Lifetime
returns-in-Lifetime c = let text = sym (drop_of_take (c.args.i + 1) c.in-Lifetime.e c.args.s.now) in
    rw c.in-Lifetime.is
    (appended_as (ap (λ (t : List ℕ). written false (lifetime_rows t)) text)
    (appended_join c.append_row-name.ensures c.append_row-in-Lifetime.ensures))

pub returns-in-Doc : goal.returns-in-Doc
returns-in-Doc c = let text = sym (drop_of_take (c.args.i + 3) c.in-Doc.e c.args.s.now) in
    rw c.in-Doc.is
    (appended_as (ap (λ (t : List ℕ). written false (doc_line_rows t)) text) c.append_doc.ensures)

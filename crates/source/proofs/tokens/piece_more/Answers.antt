use mathlib.Core.Path.{ap, ◌∙◌, sym}
use Prim.Native.Nat.{◌+◌}
use lib.Seq.{slice}
use Rattle.token_list.specs.Layout.{IDENT}
use Rattle.source.specs.Tokens.{row_more}
use Rattle.source.proofs.Measures.{row-bytes, name-bytes, doc_bytes}
use Rattle.source.proofs.tokens.piece_more.Goals as goal

pub returns-in-Row : goal.returns-in-Row
returns-in-Row c = λ s t h. let text = row-bytes (rw c.in-Row.is at h) in
    rw c.in-Row.is (c.row_more.ensures ∙ ap (row_more c.args.measured c.in-Row.kind) (sym text))

pub returns-in-Lifetime : goal.returns-in-Lifetime
returns-in-Lifetime c = λ s t h. let name = sym (name-bytes (rw c.in-Lifetime.is at h)) in
    let quote = c.row_more-quote.ensures in
    rw c.in-Lifetime.is (c.row_more-in-Lifetime.ensures ∙ (λ j. row_more (quote j) IDENT (name j)))

pub returns-in-Doc : goal.returns-in-Doc
returns-in-Doc c = λ s t h. let text = slice (c.args.i + 3) c.in-Doc.e s in
    rw c.in-Doc.is (c.doc_more.ensures text (doc_bytes (rw c.in-Doc.is at h)))

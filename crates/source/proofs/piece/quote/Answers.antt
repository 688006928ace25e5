use mathlib.Core.Path.{refl, sym, ap, ◌∙◌}
use lib.ListN.{drop}
use Rattle.source.specs.Taken.{Taken, after}
use Rattle.source.specs.Piece.{quoted_or}
use Rattle.source.proofs.Offsets.{ends_as, ends_behind, ends_to, ends_not, ends_of}
use Rattle.source.proofs.Pieces.{piece_as, quote_at}
use Rattle.source.proofs.piece.quote.Goals as goal

pub returns-in-None : goal.returns-in-None
returns-in-None c =
    let no = ends_not c.in-None.ensures in
    piece_as (quote_at c.args.s.now c.args.i ∙ ap (λ (t : Taken). quoted_or t (drop c.args.i c.args.s.now)) no)
    c.lifetime.ensures

pub returns-in-Some : goal.returns-in-Some
returns-in-Some c =
    let to = ends_to c.in-Some.ensures in
    let whole = quote_at c.args.s.now c.args.i
    ∙ ap (λ (t : Taken). quoted_or t (drop c.args.i c.args.s.now)) to.taken in
    let ends = ends_behind 1 refl (ends_of to) in
    piece_as whole (c.literal.ensures c.args.i _ (ends_to (ends_as (ap (after 1) (sym to.taken)) ends)))

use mathlib.Core.Bool.{not}
use mathlib.Core.Path.{◌≡◌, refl, sym, ◌∙◌, ap}
use borrow.Author.Tests.{not-true, not-false}
use Rattle.token_list.specs.Byte.{LESS}
use Rattle.output.specs.Writes.{Writes}
use Rattle.output.specs.declared.writer.Writer.{Writer}
use Rattle.output.proofs.Writers.{unwritten, writes_as}
use Rattle.reading.specs.Declaration.{Generics, without, parameters_of}
use Rattle.parse.specs.Contract.{stream}
use Rattle.parse.proofs.Meeting.{past_in_of}
use Rattle.parse.proofs.Looks.{starts-punct}
use Rattle.parse.proofs.Inside.{generics-angle, generics-none}
use Rattle.describe.specs.Listing.{numbered, parameter_line}
use Rattle.describe.proofs.listing.generics_lines.Goals as goal

-- no parameters, no lines
none : {w : Writer} {g : Generics} → g ≡ without → Writes w w
    (numbered parameter_line 0 (parameters_of g))
none e = writes_as (ap (λ (g : Generics). numbered parameter_line 0 (parameters_of g)) e) (unwritten)

pub returns-then-not-stands_punct : goal.returns-then-not-stands_punct
returns-then-not-stands_punct c =
    let other = sym c.stands_punct.ensures ∙ not-true _ (ap not c.if-not-stands_punct.true) in
    λ g k. none (generics-none k other)

pub punct_at-t-requires : goal.punct_at-t-requires
punct_at-t-requires c = let angle = sym c.stands_punct.ensures ∙ not-false _ (ap not c.if-not-stands_punct.false) in
    record { in_list = c.requires; b_value = refl; at_value = starts-punct LESS (stream c.args.s.now c.args.c) ∙ angle }

pub parameter_lines-requires : goal.parameter_lines-requires
parameter_lines-requires c = past_in_of _ _ _ _ c.past-inside.ensures c.requires c.punct_at-t.ensures.token

pub returns : goal.returns
returns c = let angle = sym c.stands_punct.ensures ∙ not-false _ (ap not c.if-not-stands_punct.false) in
    λ g k. c.parameter_lines.ensures (parameters_of g)
    (generics-angle k _ _ c.punct_at-t.ensures c.past-inside.ensures angle).1

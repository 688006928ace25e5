use mathlib.Core.Path.{refl, ◌∙◌, ap}
use Rattle.token_list.specs.Stream.{first_kind_lem}
use Rattle.reading.specs.Reading.{variant}
use Rattle.parse.specs.Contract.{stream}
use Rattle.parse.proofs.Meeting.{meets_same, meets_as}
use Rattle.parse.proofs.Looks.{as_variant}
use Rattle.parse.proofs.variants.variant.Goals as goal

pub returns-then-look-eq0 : goal.returns-then-look-eq0
returns-then-look-eq0 c = meets_same variant c.args.s.now c.args.c c.requires _ _ _ _
    (c.look.ensures.none c.if-look-eq0.true) refl refl

pub returns : goal.returns
returns c = meets_as
    (as_variant c.args.c.row (stream c.args.s.now c.args.c)
    (λ e. c.if-look-eq0.false (c.look.ensures.kind ∙ ap first_kind_lem e)))
    c.variant_here.ensures

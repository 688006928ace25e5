use mathlib.Core.Bool.{true, false}
use mathlib.Core.Path.{◌≡◌, sym, ◌∙◌}
use Rattle.std.proofs.Common.{rules}
use Rattle.std.proofs.lemmas.Iterator.{first_from_find, YieldsList-from_slice}
use Rattle.std.proofs.lemmas.Option.{MatchOption-at_some, MatchOption-at_none}
use Rattle.token_list.specs.Text.{same}
use Rattle.replay.specs.Header.{topic_name}
use Rattle.replay.proofs.Headers.{topic_named, other_named}
use Rattle.replay.proofs.header.section_named.Goals as goal

pub returns-in-Some : goal.returns-in-Some
returns-in-Some c =
    let some = MatchOption-at_some _ _ _ c.in-Some.is
    (first_from_find _ _ _ (λ t. same c.args.name.now (topic_name t) ≡ true)
    (λ t. same c.args.name.now (topic_name t) ≡ false) c.find.ensures.ran
    (YieldsList-from_slice _ c.iter.ensures.rest) (λ x q k. search rules) (λ x q k. search rules)) in
    topic_named c.args.name.now c.in-Some.topic.now some.0

pub returns-in-None : goal.returns-in-None
returns-in-None c =
    let none = MatchOption-at_none _ _ c.in-None.is
    (first_from_find _ _ _ (λ t. same c.args.name.now (topic_name t) ≡ true)
    (λ t. same c.args.name.now (topic_name t) ≡ false) c.find.ensures.ran
    (YieldsList-from_slice _ c.iter.ensures.rest) (λ x q k. search rules) (λ x q k. search rules)) in
    other_named c.args.name.now (sym c.compare.ensures.same ∙ c.if-compare.false) none

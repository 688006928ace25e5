use native.Mathlib.Omega.{arith}
use mathlib.Core.Path.{◌≡◌, refl, sym, ◌∙◌}
use Rattle.token_list.specs.Layout.{marked}
use Rattle.token_list.specs.Rows.{list_of}
use Rattle.output.specs.Contract.{Put}
use Rattle.reading.specs.Declaration.{parameters_of}
use Rattle.parse.proofs.Meeting.{past_in_of}
use Rattle.parse.proofs.Inside.{generics-angle, generics-none}
use Rattle.writing.specs.Generics.{generics_rows}
use Rattle.generate.specs.Contract.{parameters_in}
use Rattle.generate.proofs.Answers.{none_put, some_put}
use Rattle.generate.proofs.generics.put_generics.Goals.{then-stands_punct, else-stands_punct}
use Rattle.generate.proofs.generics.put_generics.Goals as goal

pub put_angled-requires-clause-in_list : goal.put_angled-requires-clause-in_list
put_angled-requires-clause-in_list c =
    past_in_of _ _ _ _ c.past-inside.ensures c.requires.in_list c.punct_at.ensures.token

pub returns : goal.returns
returns c = λ g k.
    let f = parameters_in c.args.form in
    let b = c.if-stands_punct.b in
    let done : (b.out.ghost_name ≡ c.new-b.result.out.ghost_name)
    × Put c.args.out.now b.out.now 0 b.built.bytes (list_of (marked c.args.s.now) (generics_rows f g)) =
    elim c.if-stands_punct.branch [
      | then-stands_punct w ↦
          let angle = sym c.stands_punct.ensures ∙ w.if-stands_punct.true in
          let inside = generics-angle k _ _ w.punct_at.ensures w.past-inside.ensures angle in
          let all = w.put_angled.ensures (parameters_of g) inside.1 in
          rw w.b-is
          (all.same_output, some_put f (parameters_of g) c.is_marked.ensures inside.0 c.new-b.ensures.built all)
      | else-stands_punct w ↦
          let other = sym c.stands_punct.ensures ∙ w.if-stands_punct.false in
          rw w.b-is (refl, none_put f c.is_marked.ensures (generics-none k other) c.new-b.ensures.built)
    ] in
    record { next = done.1.next; bytes = grind arith; short = done.1.short }

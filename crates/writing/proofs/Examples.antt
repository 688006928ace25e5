-- The examples, by computation.
use mathlib.Core.Path.{◌≡◌, refl}
use mathlib.Core.Bool.{true}
use Prim.Native.String.{String}
use Rattle.token_list.specs.Byte.{bytes}
use Rattle.token_list.specs.Check.{check}
use Rattle.token_list.specs.Layout.{marked, first_row}
use Rattle.token_list.specs.Marks.{stream_of}
use Rattle.token_list.specs.Row.{form_of}
use Rattle.token_list.specs.Stream.{at, before}
use Rattle.reading.specs.Declaration.{Declaration}
use Rattle.reading.specs.Took.{Took, refuse, ran_out_lem}
use Rattle.reading.specs.Reading.{item}
use Rattle.writing.specs.Answer.{full_answer}
use Rattle.writing.specs.Examples.{all_agree, examples}

pub written_as : all_agree examples ≡ true
unfolding full_answer check at before form_of marked first_row
written_as = refl

-- what a text reads as
abbrev reads : String → Took Declaration
reads t = item 0 (stream_of (bytes t))

-- two that read back otherwise: `struct A < T : X - > ;` and `struct A < const > ;`
pub minus_again : reads "kind text\ni struct\ni A\np <\ni T\np :\ni X\np -\np >\np ;\n" ≡ ran_out_lem 14 2
unfolding at before marked first_row
minus_again = refl

pub const_again : reads "kind text\ni struct\ni A\np <\ni const\np >\np ;\n" ≡ refuse 27 4
unfolding at before marked first_row
const_again = refl

-- The definitions give document 01's answers to its ★ examples, each with a role buffer of 64 bytes.
use mathlib.Core.Path.{◌≡◌, refl}
use mathlib.Core.Bool.{Bool, true, not, ◌&&◌, ◌||◌, or-true}
use mathlib.Core.List.{List, [], ◌∷◌}
use Prim.Native.Nat.{ℕ}
use Rattle.token_list.specs.Byte.{bytes}
use Rattle.token_list.specs.Layout.{marked, first_row}
use Rattle.token_list.specs.Check.{check}
use Rattle.token_list.specs.Row.{form_of}
use Rattle.token_list.specs.Stream.{Trees, before, at}
use Rattle.reading.specs.Token.{negatable}
use Rattle.reading.specs.Keyword.{keyword, identifier}
use Rattle.reading.specs.SimplePath.{scope_form}
use Rattle.reading.specs.Answer.{answer}
use Rattle.reading.specs.Examples.{all_agree, examples, VALVE, ARROW}
use Rattle.reading.specs.Grammar as g
use Rattle.reading.specs.Grammar.{Difference, Obeys, LeftOver, nothing}

pub paper : all_agree examples ≡ true
unfolding answer check form_of before at negatable marked first_row
paper = refl

-- ## The Reference's productions admit what they should: with no difference allowed, two of the examples
-- have their roles

abbrev stream : List ℕ → Trees
stream s = (at s (first_row s)).here

pub valve : Obeys nothing (stream (bytes VALVE))
    (4 ∷ 6 ∷ 7 ∷ 14 ∷ 15 ∷ 10 ∷ 16 ∷ 10 ∷ 15 ∷ 14 ∷ 18 ∷ 14 ∷ 10 ∷ 15 ∷ 10 ∷ 16 ∷ 16 ∷ 14 ∷ [])
unfolding before at negatable keyword marked first_row
valve =
    g.Obeys.obeys
    (g.Item.enum (g.Attributes.none refl) (g.Visibility.plain refl refl)
    (g.Head.head (g.Word.ident refl) (g.Word.ident refl)) (g.Generics.none refl) (g.Clause.none refl)
    (g.EnumBody.variants refl
    (g.Variants.next refl (g.Variant.valued (g.Attributes.none refl) (g.Word.ident refl) (g.VariantFields.none refl)
    (g.Value.literal refl refl) (g.Separator.present refl) refl refl)
    (g.Variants.next refl
    (g.Variant.plain (g.Attributes.none refl) (g.Word.ident refl)
    (g.VariantFields.tuple refl
    (g.TupleFields.next refl (g.TupleField.field (g.Attributes.none refl) (g.Visibility.none refl)
    (g.Run.token refl (g.Run.ended refl)) refl (g.Separator.absent refl)) g.TupleFields.last))
    (g.Separator.present refl) refl)
    (g.Variants.next refl (g.Variant.valued (g.Attributes.none refl) (g.Word.ident refl) (g.VariantFields.none refl)
    (g.Value.negative refl refl refl refl) (g.Separator.absent refl) refl refl)
    g.Variants.last)))))
    g.LeftOver.none

pub arrow : Obeys nothing (stream (bytes ARROW))
    (6 ∷ 7 ∷ 8 ∷ 9 ∷ 10 ∷ 11 ∷ 11 ∷ 11 ∷ 11 ∷ 11 ∷ 11 ∷ 8 ∷ 14 ∷ 18 ∷ 14 ∷ 0 ∷ [])
unfolding before at keyword marked first_row
arrow =
    g.Obeys.obeys
    (g.Item.struct (g.Attributes.none refl) (g.Visibility.none refl)
    (g.Head.head (g.Word.ident refl) (g.Word.ident refl))
    (g.Generics.generics refl
    (g.Parameters.next
    (g.Parameter.bounded refl refl refl (g.Run.token refl
    (g.Run.inside refl (g.Run.token refl (g.Run.arrow refl (g.Run.token refl (g.Run.angle refl refl refl)))))))
    (g.Separator.absent refl) refl refl (g.Parameters.close refl)))
    (g.Clause.none refl)
    (g.StructBody.tuple refl
    (g.TupleFields.next refl (g.TupleField.field (g.Attributes.none refl) (g.Visibility.none refl)
    (g.Run.token refl (g.Run.ended refl)) refl (g.Separator.absent refl)) g.TupleFields.last)))
    (g.LeftOver.semicolon refl)

-- ## The Reference's names, scopes and where clauses

-- `union`, `r#fn`, but not `fn`, `try` and `_`
pub names : (identifier (bytes "union") && identifier (bytes "r#fn")
    && not (identifier (bytes "fn") || identifier (bytes "try") || identifier (bytes "_"))) ≡ true
unfolding keyword
names = refl

-- `crate`, `in super : : a`, but not `crate : : X` and `in`
pub scopes : (scope_form (stream (bytes "kind text\ni crate\n"))
    && scope_form (stream (bytes "kind text\ni in\ni super\np :\np :\ni a\n"))
    && not (scope_form (stream (bytes "kind text\ni crate\np :\np :\ni X\n"))
    || scope_form (stream (bytes "kind text\ni in\n")))) ≡ true
unfolding before at scope_form keyword marked first_row
scopes = refl

-- `where u8 : X ;` after a tuple struct's body, where that difference is allowed
pub tuple_where : (allowed : Difference → Bool) → allowed g.tuple-where ≡ true
    → LeftOver allowed true (stream (bytes "kind text\ni where\ni u8\np :\ni X\np ;\n"))
unfolding before at marked first_row
tuple_where allowed e =
    g.LeftOver.clause e refl
    (g.Run.token refl (g.Run.token refl (g.Run.token refl (g.Run.token refl
    (g.Run.ended (or-true (allowed g.open-angle)))))))
    refl

-- The words for roles and refusals, by their numbers.
use Rattle.std.specs.Prelude.{List, [], ◌∷◌, ◌++◌, ℕ, slice_index_or}
use Rattle.token_list.specs.Byte.{bytes}

-- the roles 0 to 18, each with blanks up to the width of its column
abbrev pub ROLES : List (List ℕ)
ROLES =
    bytes "left over                    " ∷
    bytes "attribute mark               " ∷
    bytes "attribute group              " ∷
    bytes "idle mark                    " ∷
    bytes "visibility                   " ∷
    bytes "visibility scope             " ∷
    bytes "item word                    " ∷
    bytes "item name                    " ∷
    bytes "generics angle               " ∷
    bytes "parameter name               " ∷
    bytes "separator                    " ∷
    bytes "bound, default or const type " ∷
    bytes "where                        " ∷
    bytes "where run                    " ∷
    bytes "delimiter                    " ∷
    bytes "variant name                 " ∷
    bytes "value                        " ∷
    bytes "field name                   " ∷
    bytes "type                         " ∷ []

-- the refusals 0 to 51, nothing where a number is none
abbrev pub MEANINGS : List (List ℕ)
MEANINGS =
    [] ∷
    bytes "more than 65,536 bytes" ∷
    bytes "the line of names differs" ∷
    bytes "the row's form, its text's length or its LF is wrong" ∷
    bytes "a further row begins after 4,096" ∷
    bytes "a close without its matching open" ∷
    bytes "a 33rd open group" ∷
    bytes "the list ends; the row of the innermost open group" ∷
    (bytes "a lent buffer is too short: a role buffer needs a byte a row, scratch 20 bytes, " ++
    bytes "an output what is written (176,145 bytes are enough without added names)") ∷
    [] ∷ [] ∷
    bytes "struct or enum, the item's name or a variant's name is missing" ∷
    bytes "# with a group that is not [" ∷
    bytes "# followed by anything else" ∷
    bytes "in generics: not ', > or a name; at the end, the row of <" ∷
    bytes "> with nothing open" ∷
    bytes "a struct's body is neither a group nor ;" ∷
    bytes "a struct's body is a [ or 0 group" ∷
    bytes "an enum's body is neither a group nor ;" ∷
    bytes "a variant's group is [ or 0" ∷
    bytes "after a variant without value: not ," ∷
    bytes "no literal after = or -" ∷
    bytes "a field's name is missing" ∷
    bytes ": is missing" ∷
    bytes "no name after '; at the end, the row of '" ∷
    bytes "another item word; the row of the word itself" ∷
    bytes "the literal after - is not digits alone, or worth more than 9,223,372,036,854,775,807" ∷
    bytes "no name after const" ∷
    bytes "tagged: no , after a value" ∷
    bytes "tagged: neither a key nor a key and a value" ∷
    bytes "an added name is no name of at most 255 bytes, or has r#" ∷
    bytes "tagged: the list is not one group; the first row outside it, or -" ∷
    [] ∷ [] ∷ [] ∷ [] ∷ [] ∷ [] ∷ [] ∷ [] ∷
    bytes "source: no token begins there, or a bracket does not match" ∷
    bytes "source: the list would pass a limit" ∷
    bytes "listing: a variant's value is no integer, or above 9,223,372,036,854,775,807" ∷
    bytes "listing: a variant without value after the number 9,223,372,036,854,775,807" ∷
    [] ∷ [] ∷ [] ∷ [] ∷ [] ∷ [] ∷
    bytes "listing: the name of an earlier variant, r# aside" ∷
    bytes "listing: the number of an earlier variant" ∷ []

-- nothing past the last
unfoldable pub role_words : ℕ → List ℕ
role_words r = slice_index_or ROLES r []

unfoldable pub meaning : ℕ → List ℕ
meaning n = slice_index_or MEANINGS n []

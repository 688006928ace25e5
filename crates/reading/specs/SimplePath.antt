-- What stands in the group of a Visibility (Rust Reference 1.63, "Visibility and Privacy" and "Simple Paths"). `::` is
-- two rows.
use Rattle.std.specs.Prelude.{Bool, true, false, not, ◌&&◌, ◌||◌, [], ◌∷◌}
use Rattle.token_list.specs.Byte.{bytes, COLON}
use Rattle.token_list.specs.Row.{Row}
use Rattle.token_list.specs.Stream.{Trees, end, leaf, group}
use Rattle.reading.specs.Keyword.{one_of, identifier}
use Rattle.reading.specs.Token.{is_ident, is_punct, is_word, is_end}

-- `crate`, `self` or `super`
abbrev pub root_word : Row → Bool
root_word q = is_ident q && one_of ("crate" ∷ "self" ∷ "super" ∷ []) q.text

-- SimplePathSegment; `$crate` stands only in a macro's own text
abbrev pub segment : Row → Bool
segment q = root_word q || is_ident q && identifier q.text

abbrev mutual
  -- SimplePathSegment (`::` SimplePathSegment)*
  pub segments : Trees → Bool
  segments end = false
  segments (leaf q us) = segment q && further us
  segments (group d ts us) = false

  -- (`::` SimplePathSegment)*
  pub further : Trees → Bool
  further end = true
  further (leaf q us) = is_punct COLON q && second us
  further (group d ts us) = false

  -- the second `:`
  pub second : Trees → Bool
  second end = false
  second (leaf q us) = is_punct COLON q && segments us
  second (group d ts us) = false

-- SimplePath: `::`? SimplePathSegment (`::` SimplePathSegment)*
abbrev pub simple_path : Trees → Bool
simple_path ts = segments ts || not (is_end ts) && further ts

-- Visibility: `crate`, `self`, `super`, or `in` SimplePath
unfoldable pub scope_form : Trees → Bool
scope_form end = false
scope_form (leaf q us) = root_word q && is_end us || is_word (bytes "in") q && simple_path us
scope_form (group d ts us) = false

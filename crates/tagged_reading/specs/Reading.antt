-- What is read of a tagged attribute (document 01, module 6 and the table of refusals; src/utils.rs,
-- parse_tagged_attribute).
use Rattle.std.specs.Prelude.{cond, List, [], ◌∷◌, ◌++◌, ℕ, ◌+◌}
use Rattle.token_list.specs.Byte.{COMMA, EQUALS}
use Rattle.token_list.specs.Check.{END}
use Rattle.token_list.specs.Stream.{Trees, end, leaf, group, size}
use Rattle.reading.specs.Token.{is_ident, is_literal, is_punct, is_word, is_end, group_size}
use Rattle.tagged_reading.specs.Role as role
use Rattle.tagged_reading.specs.Role.{others}
use Rattle.tagged_reading.specs.Entry.{Entry, tag, property}

pub data Answer : Type 0 where
  -- the prefix does not stand there, or no group after it
  none : Answer
  -- the entries, and the role of each row
  read : List Entry → List ℕ → Answer
  -- the refusal's number and place
  refused : ℕ → ℕ → Answer

-- entries and roles of rows before
abbrev pub adding : List Entry → List ℕ → Answer → Answer
adding es rs none = none
adding es rs (read fs qs) = read (es ++ fs) (rs ++ qs)
adding es rs (refused n p) = refused n p

-- ## The entries, from their first row to the end of their group

abbrev mutual
  pub entries : ℕ → Trees → Answer
  entries row end = read [] []
  entries row (group d ts us) = refused 29 row
  entries row (leaf q us) = cond (is_ident q) (keyed row q.text us) (refused 29 row)

  -- after a key, which stands in this row
  pub keyed : ℕ → List ℕ → Trees → Answer
  keyed row k end = read (tag k ∷ []) (role.tag ∷ [])
  keyed row k (group d ts us) = refused 29 row
  keyed row k (leaf p us) =
      cond (is_punct COMMA p) (adding (tag k ∷ []) (role.tag ∷ role.other ∷ []) (entries (row + 2) us))
      (cond (is_punct EQUALS p) (valued row k us) (refused 29 row))

  -- After `key =`. A token that is no literal is lost, and nothing is added.
  pub valued : ℕ → List ℕ → Trees → Answer
  valued row k end = read [] (others 2)
  valued row k (group d ts us) = adding [] (others (2 + group_size ts)) (entries (row + (2 + group_size ts)) us)
  valued row k (leaf v us) =
      cond (is_literal v) (separated row (property k v.text) us) (adding [] (others 3) (entries (row + 3) us))

  -- after `key = literal`
  pub separated : ℕ → Entry → Trees → Answer
  separated row e end = read (e ∷ []) (role.key ∷ role.other ∷ role.value ∷ [])
  separated row e (group d ts us) = refused 28 (row + 3)
  separated row e (leaf c us) =
      cond (is_punct COMMA c)
      (adding (e ∷ []) (role.key ∷ role.other ∷ role.value ∷ role.other ∷ []) (entries (row + 4) us))
      (refused 28 (row + 3))

-- ## The attribute

-- the row of the first entry, after the two groups' opening rows and the prefix
abbrev pub FIRST_ENTRY : ℕ
FIRST_ENTRY = 3

-- so many rows after the entries
abbrev pub before : ℕ → Answer → Answer
before n none = none
before n (read es rs) = read es (rs ++ others n)
before n (refused m p) = refused m p

-- the group after the prefix; what follows it, up to the row that closes the attribute, is not read
abbrev pub list_after : Trees → Answer
list_after end = none
list_after (leaf q us) = none
list_after (group d ts us) = adding [] (others FIRST_ENTRY) (before (1 + size us + 1) (entries FIRST_ENTRY ts))

-- the inside of the attribute's group; the prefix is compared as text
abbrev pub attribute : List ℕ → Trees → Answer
attribute prefix end = none
attribute prefix (group d ts us) = none
attribute prefix (leaf q us) = cond (is_word prefix q) (list_after us) none

-- 31 where the list is not one group: at the first row outside it, or at the end
abbrev pub tagged : List ℕ → Trees → Answer
tagged prefix end = refused 31 END
tagged prefix (leaf q us) = refused 31 0
tagged prefix (group d ts us) = cond (is_end us) (attribute prefix ts) (refused 31 (group_size ts))

-- The grammar of tagged attributes (document 01, module 6) as relations, written without the reading. `N ts us rs`
-- says: an N stands first in the stream ts, us is what is left after it, and rs are the roles of the rows between.
-- Productions are those of the Rust Reference 1.63, "Attributes".
use Rattle.std.specs.Prelude.{◌≡◌, Bool, true, false, ◌&&◌, ◌||◌, List, [], ◌∷◌, ◌++◌, ℕ, ◌+◌, eqb}
use Rattle.token_list.specs.Byte.{COMMA, EQUALS, PARENTHESIS, BRACKET}
use Rattle.token_list.specs.Row.{Row}
use Rattle.token_list.specs.Stream.{Trees, end, leaf, group, size}
use Rattle.reading.specs.Token.{is_ident, is_literal, is_punct, is_word, is_end, group_size}
use Rattle.reading.specs.SimplePath.{segment}
use Rattle.tagged_reading.specs.Role as role
use Rattle.tagged_reading.specs.Role.{others}

-- Where document 01, with the Rust, admits what the Reference refuses or reads otherwise: docs/DIFFERENCES.md has an
-- entry for each.
pub data Difference : Type 0 where
  attribute-delimiter list-delimiter rows-after-list keyword-as-key : Difference
  key-without-value lost-token entry-after-lost : Difference

-- all of them: document 01's grammar
abbrev pub everything : Difference → Bool
everything d = true

-- None of them: what document 01 and the Reference read alike, up to what stands inside literals. Refused then, though
-- the Reference admits it: a path of several segments; a MetaItem with a group of its own; an Expression as an entry,
-- and one that is no literal as a value.
abbrev pub nothing : Difference → Bool
nothing d = false

module _ (allowed : Difference → Bool) where
  -- what the Reference asks for here, unless the difference is allowed
  abbrev pub Unless : Difference → Bool → Type 0
  Unless d b = (allowed d || b) ≡ true

  -- an `i` row as a key. A SimplePath of one segment
  abbrev pub is_key : Row → Bool
  is_key q = (allowed keyword-as-key || segment q) && is_ident q

  -- after an entry: a `,`, or the end of the group. MetaSeq has one between two of its items, and may have one more
  pub data Separated : Trees → Trees → List ℕ → Type 0 where
    last : Separated end end []
    comma : {c : Row} {us : Trees} → is_punct COMMA c ≡ true → Separated (leaf c us) us (role.other ∷ [])

  -- MetaItemInner
  pub data Entry : Trees → Trees → List ℕ → Type 0 where
    -- SimplePath, as in MetaListIdents
    tag : {q : Row} {us vs : Trees} {cs : List ℕ}
        → is_key q ≡ true → Separated us vs cs → Entry (leaf q us) vs (role.tag ∷ cs)
    -- SimplePath `=` Expression, as in MetaListNameValueStr
    property : {q e v : Row} {us vs : Trees} {cs : List ℕ}
        → is_key q ≡ true → is_punct EQUALS e ≡ true → is_literal v ≡ true → Separated us vs cs
        → Entry (leaf q (leaf e (leaf v us))) vs (role.key ∷ role.other ∷ role.value ∷ cs)
    -- `key =` at the end adds nothing
    without_value : {q e : Row}
        → allowed key-without-value ≡ true → is_key q ≡ true → is_punct EQUALS e ≡ true
        → Entry (leaf q (leaf e end)) end (others 2)
    -- `key =` followed by a token that is no literal loses that token and adds nothing; the next entry begins after it
    lost : {q e v : Row} {us : Trees}
        → allowed lost-token ≡ true → is_key q ≡ true → is_punct EQUALS e ≡ true → is_literal v ≡ false
        → Unless entry-after-lost (is_end us)
        → Entry (leaf q (leaf e (leaf v us))) us (others 3)
    -- a lost group with all its rows
    lost_group : {q e : Row} {d : ℕ} {ts us : Trees}
        → allowed lost-token ≡ true → is_key q ≡ true → is_punct EQUALS e ≡ true → Unless entry-after-lost (is_end us)
        → Entry (leaf q (leaf e (group d ts us))) us (others (2 + group_size ts))

  -- MetaSeq?, to the end of its group
  pub data Entries : Trees → List ℕ → Type 0 where
    none : Entries end []
    next : {ts us : Trees} {rs qs : List ℕ} → Entry ts us rs → Entries us qs → Entries ts (rs ++ qs)

  module _ (prefix : List ℕ) where
    -- `prefix(..)`, and rows that nobody reads. Attr, as the MetaItem: SimplePath `(` MetaSeq? `)`
    pub data Attribute : Trees → List ℕ → Type 0 where
      attribute : {q : Row} {d : ℕ} {ts us : Trees} {rs : List ℕ}
          → is_word prefix q ≡ true → Unless keyword-as-key (segment q) → Unless list-delimiter (eqb d PARENTHESIS)
          → Entries ts rs → Unless rows-after-list (is_end us)
          → Attribute (leaf q (group d ts us)) (others 2 ++ (rs ++ others (1 + size us)))

    -- An assignment of roles to the rows of a stream obeys when they are one group that holds the attribute.
    -- OuterAttribute, from its `[` on
    pub data Obeys : Trees → List ℕ → Type 0 where
      obeys : {d : ℕ} {ts : Trees} {rs : List ℕ}
          → Unless attribute-delimiter (eqb d BRACKET) → Attribute ts rs
          → Obeys (group d ts end) (role.other ∷ rs ++ role.other ∷ [])

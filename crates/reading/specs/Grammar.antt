-- The role grammar (document 01, "Runs" and "Role grammar") as relations, one for each production, written without the
-- reading. `N ts us rs` says: an N stands first in the stream ts, us is what is left after it, and rs are the roles of
-- the rows between. What is optional and can stand is taken: each `none` and `absent` says of the rows that it cannot
-- stand there. Productions are those of the Rust Reference 1.63.
use Rattle.std.specs.Prelude.{◌≡◌, Bool, true, false, cond, not, ◌&&◌, ◌||◌, List, [], ◌∷◌, ◌++◌, ℕ}
use Rattle.std.specs.Prelude.{◌+◌, ◌-◌, eqb, leb, length, replicate}
use Rattle.token_list.specs.Byte.{HASH, QUOTE, COMMA, MINUS, COLON, SEMICOLON, LESS, EQUALS, GREATER}
use Rattle.token_list.specs.Byte.{PARENTHESIS, BRACKET, BRACE}
use Rattle.token_list.specs.Text.{raw_name}
use Rattle.token_list.specs.Row.{Row}
use Rattle.token_list.specs.Stream.{Trees, end, leaf, group, size}
use Rattle.reading.specs.Role as role
use Rattle.reading.specs.Token.{is_ident, is_literal, is_punct, is_word, copied, lone, starts, opens, is_group, is_end}
use Rattle.reading.specs.Token.{scoped, negatable, PUB, STRUCT, ENUM, CONST, WHERE, Stops, stopping}
use Rattle.reading.specs.Token.{parameter_stops, field_stops, clause_stops, no_stops}
use Rattle.reading.specs.Keyword.{identifier}
use Rattle.reading.specs.SimplePath.{scope_form}

-- Where document 01, with the Rust, admits what the Reference refuses or reads otherwise: docs/DIFFERENCES.md has an
-- entry for each. What stands inside runs and attributes is not looked at, so these of its entries are no cases here:
-- default-in-bound, attribute-contents, run-contents.
pub data Difference : Type 0 where
  where-ends-at-group tuple-where tuple-without-semicolon left-over-rows comma-after-value : Difference
  comma-after-parameter enum-delimiter enum-semicolon group-and-value keyword-as-name raw-lifetime : Difference
  parameter-order const-without-type open-angle scope-contents wrapped-pub any-scope idle-mark : Difference
  one-word-group empty-type lone-field-start : Difference

-- all of them: document 01's grammar
abbrev pub everything : Difference → Bool
everything d = true

-- None of them: what document 01 and the Reference read alike, up to what stands inside runs, attributes and literals.
-- Refused then, though the Reference admits it: a `where` that goes on past a parenthesis or brace, or to a `;`; `pub`
-- before a type in parentheses that begins with `crate`, `self` or `super`; a variant's visibility, a parameter's
-- attributes; a value other than a literal or `-` and digits, and the least i64; `union`; a group without delimiter
-- around any of these forms.
abbrev pub nothing : Difference → Bool
nothing d = false

-- a run's roles: not those of an empty run
abbrev pub nonempty : List ℕ → Bool
nonempty [] = false
nonempty (r ∷ rs) = true

-- rule 6: a token that is neither `<` nor `>` nor a stop
abbrev pub ordinary : Stops → ℕ → Row → Bool
ordinary st depth q = not (is_punct LESS q || is_punct GREATER q || is_punct COMMA q && (eqb depth 0 && st.comma))

-- lifetimes first: a parameter at ts, and what follows it at us
abbrev pub lifetimes_first : Trees → Trees → Bool
lifetimes_first ts us = starts (is_punct QUOTE) ts || not (starts (is_punct QUOTE) us)

-- a visibility can stand here: `pub`, or a group holding only it
abbrev pub starts_visibility : Trees → Bool
starts_visibility end = false
starts_visibility (leaf q us) = is_word PUB q
starts_visibility (group d ts us) = lone (is_word PUB) ts

-- the last token is `;`, and no other is
abbrev pub closes : Trees → Bool
closes end = false
closes (leaf q us) = cond (is_punct SEMICOLON q) (is_end us) (closes us)
closes (group d ts us) = closes us

-- the group after a plain `pub` that is its scope
abbrev pub starts_scope : Trees → Bool
starts_scope end = false
starts_scope (leaf q us) = false
starts_scope (group d ts us) = eqb d PARENTHESIS && scoped ts

module _ (allowed : Difference → Bool) where
  -- what the Reference asks for here, unless the difference is allowed
  abbrev pub Unless : Difference → Bool → Type 0
  Unless d b = (allowed d || b) ≡ true

  -- an `i` row as a name. IDENTIFIER, which no keyword is
  abbrev pub is_name : Row → Bool
  is_name q = (allowed keyword-as-name || identifier q.text) && is_ident q

  -- ## Runs: `Run st r depth minus` goes on at that depth, with `-` the last token or not; its rows have the role r

  pub data Run (st : Stops) (r : ℕ) : ℕ → Bool → Trees → Trees → List ℕ → Type 0 where
    -- 1. `>` directly after a `-` of the same run is ordinary
    arrow : {depth : ℕ} {q : Row} {us vs : Trees} {rs : List ℕ}
        → is_punct GREATER q ≡ true → Run st r depth false us vs rs → Run st r depth true (leaf q us) vs (r ∷ rs)
    -- 2. `<` adds one to the depth
    deeper : {depth : ℕ} {minus : Bool} {q : Row} {us vs : Trees} {rs : List ℕ}
        → is_punct LESS q ≡ true → Run st r (depth + 1) false us vs rs → Run st r depth minus (leaf q us) vs (r ∷ rs)
    -- 3. other `>`: above depth 0, subtract one
    back : {depth : ℕ} {q : Row} {us vs : Trees} {rs : List ℕ}
        → is_punct GREATER q ≡ true → eqb depth 0 ≡ false → Run st r (depth - 1) false us vs rs
        → Run st r depth false (leaf q us) vs (r ∷ rs)
    -- 3. at 0, the run ends before it if `>` is a stop
    angle : {depth : ℕ} {q : Row} {us : Trees}
        → is_punct GREATER q ≡ true → eqb depth 0 ≡ true → st.angle ≡ true
        → Run st r depth false (leaf q us) (leaf q us) []
    -- 4. another stop punctuation at depth 0 ends the run before it
    comma : {depth : ℕ} {minus : Bool} {q : Row} {us : Trees}
        → is_punct COMMA q ≡ true → eqb depth 0 ≡ true → st.comma ≡ true
        → Run st r depth minus (leaf q us) (leaf q us) []
    -- 5. at depth 0, a brace or parenthesis group ends the run if `{` or `(` is a stop
    stop : {depth : ℕ} {minus : Bool} {d : ℕ} {ts us : Trees}
        → stopping st depth d ≡ true → Run st r depth minus (group d ts us) (group d ts us) []
    -- 6. everything else belongs: a token
    token : {depth : ℕ} {minus : Bool} {q : Row} {us vs : Trees} {rs : List ℕ}
        → ordinary st depth q ≡ true → Run st r depth (is_punct MINUS q) us vs rs
        → Run st r depth minus (leaf q us) vs (r ∷ rs)
    -- 6. or a group
    inside : {depth : ℕ} {minus : Bool} {d : ℕ} {ts us vs : Trees} {rs : List ℕ}
        → stopping st depth d ≡ false → Run st r depth false us vs rs
        → Run st r depth minus (group d ts us) vs (copied r ts ++ rs)
    -- 6. the stream's end ends the run, at any depth
    ended : {depth : ℕ} {minus : Bool} → Unless open-angle (eqb depth 0) → Run st r depth minus end end []

  -- ## Words: an `i` row that passes the test, or a group of any delimiter holding exactly one (three rows, one role)

  pub data Word (is : Row → Bool) (r : ℕ) : Trees → Trees → List ℕ → Type 0 where
    ident : {q : Row} {us : Trees} → is q ≡ true → Word is r (leaf q us) us (r ∷ [])
    wrapped : {d : ℕ} {ts us : Trees}
        → allowed one-word-group ≡ true → lone is ts ≡ true → Word is r (group d ts us) us (copied r ts)

  -- ## Attributes: as many as stand there. OuterAttribute*

  pub data Attributes : Trees → Trees → List ℕ → Type 0 where
    -- a `#` where attributes may stand is theirs alone
    none : {ts : Trees} → starts (is_punct HASH) ts ≡ false → Attributes ts ts []
    -- `#` with a `[` group
    attribute : {q : Row} {d : ℕ} {ts us vs : Trees} {rs : List ℕ}
        → is_punct HASH q ≡ true → eqb d BRACKET ≡ true → Attributes us vs rs
        → Attributes (leaf q (group d ts us)) vs (role.attribute_mark ∷ copied role.attribute_group ts ++ rs)
    -- or `#` followed by `#`
    idle : {q p : Row} {us vs : Trees} {rs : List ℕ}
        → allowed idle-mark ≡ true → is_punct HASH q ≡ true → is_punct HASH p ≡ true → Attributes (leaf p us) vs rs
        → Attributes (leaf q (leaf p us)) vs (role.idle_mark ∷ rs)

  -- ## Visibility

  pub data Visibility : Trees → Trees → List ℕ → Type 0 where
    none : {ts : Trees} → starts_visibility ts ≡ false → Visibility ts ts []
    -- an `i` row `pub`
    plain : {q : Row} {us : Trees}
        → is_word PUB q ≡ true → starts_scope us ≡ false → Visibility (leaf q us) us (role.visibility ∷ [])
    -- then, if a parenthesis group whose first token is an `i` row `crate`, `self`, `super` or `in` follows, that group
    -- (the Reference has nothing more in it, but a SimplePath after `in`)
    with_scope : {q : Row} {d : ℕ} {ts us : Trees}
        → is_word PUB q ≡ true → starts_scope (group d ts us) ≡ true → Unless scope-contents (scope_form ts)
        → Visibility (leaf q (group d ts us)) us (role.visibility ∷ copied role.scope ts)
    -- or a group holding only `pub`
    wrapped : {d : ℕ} {ts us : Trees} → allowed wrapped-pub ≡ true → lone (is_word PUB) ts ≡ true → is_group us ≡ false
        → Visibility (group d ts us) us (copied role.visibility ts)
    -- then any group that follows
    wrapped_scoped : {d e : ℕ} {ts us vs : Trees}
        → allowed wrapped-pub ≡ true → allowed any-scope ≡ true → lone (is_word PUB) ts ≡ true
        → Visibility (group d ts (group e us vs)) vs (copied role.visibility ts ++ copied role.scope us)

  -- ## A `,`, `:` or `=` that may stand: whether it does

  pub data Separator (b : ℕ) : Bool → Trees → Trees → List ℕ → Type 0 where
    present : {q : Row} {us : Trees} → is_punct b q ≡ true → Separator b true (leaf q us) us (role.separator ∷ [])
    absent : {ts : Trees} → starts (is_punct b) ts ≡ false → Separator b false ts ts []

  -- ## Generics. GenericParams

  -- optional `:` and run
  pub data Bound : Trees → Trees → List ℕ → Type 0 where
    none : {ts : Trees} → starts (is_punct COLON) ts ≡ false → Bound ts ts []
    bound : {c : Row} {us vs : Trees} {rs : List ℕ}
        → is_punct COLON c ≡ true → Run parameter_stops role.bound 0 false us vs rs
        → Bound (leaf c us) vs (role.separator ∷ rs)

  pub data Parameter : Trees → Trees → List ℕ → Type 0 where
    -- `'` and an `i` row with optional `:` and run. LifetimeParam: LIFETIME_OR_LABEL is `'` and NON_KEYWORD_IDENTIFIER
    lifetime : {q p : Row} {us vs : Trees} {rs : List ℕ}
        → is_punct QUOTE q ≡ true → is_name p ≡ true → Unless raw-lifetime (not (raw_name p.text)) → Bound us vs rs
        → Parameter (leaf q (leaf p us)) vs (role.parameter-name ∷ role.parameter-name ∷ rs)
    -- `const`, an `i` row, optional `:` and run. ConstParam has both, with a Type
    constant : {q p : Row} {us vs : Trees} {rs : List ℕ}
        → is_word CONST q ≡ true → is_name p ≡ true → Bound us vs rs → Unless const-without-type (leb 2 (length rs))
        → Parameter (leaf q (leaf p us)) vs (role.parameter-name ∷ role.parameter-name ∷ rs)
    -- another `i` row. TypeParam
    plain : {q : Row} {us : Trees}
        → is_word CONST q ≡ false → is_name q ≡ true → starts (is_punct COLON) us ≡ false
        → starts (is_punct EQUALS) us ≡ false
        → Parameter (leaf q us) us (role.parameter-name ∷ [])
    -- then optionally `:` and run
    bounded : {q c : Row} {us vs : Trees} {rs : List ℕ}
        → is_word CONST q ≡ false → is_name q ≡ true → is_punct COLON c ≡ true
        → Run parameter_stops role.bound 0 false us vs rs
        → Parameter (leaf q (leaf c us)) vs (role.parameter-name ∷ role.separator ∷ rs)
    -- or `=` and run; a default is a Type
    defaulted : {q c : Row} {us vs : Trees} {rs : List ℕ}
        → is_word CONST q ≡ false → is_name q ≡ true → is_punct EQUALS c ≡ true
        → Run parameter_stops role.bound 0 false us vs rs
        → Unless empty-type (nonempty rs)
        → Parameter (leaf q (leaf c us)) vs (role.parameter-name ∷ role.separator ∷ rs)

  pub data Parameters : Trees → Trees → List ℕ → Type 0 where
    -- `>`
    close : {q : Row} {us : Trees} → is_punct GREATER q ≡ true → Parameters (leaf q us) us (role.angle ∷ [])
    -- one `,` after a parameter is optional; the Reference asks for it before another one, and for lifetimes first
    next : {comma : Bool} {ts us vs ws : Trees} {ps cs rs : List ℕ}
        → Parameter ts us ps → Separator COMMA comma us vs cs
        → Unless comma-after-parameter (comma || starts (is_punct GREATER) vs)
        → Unless parameter-order (lifetimes_first ts vs)
        → Parameters vs ws rs → Parameters ts ws ((ps ++ cs) ++ rs)

  pub data Generics : Trees → Trees → List ℕ → Type 0 where
    none : {ts : Trees} → starts (is_punct LESS) ts ≡ false → Generics ts ts []
    generics : {q : Row} {us vs : Trees} {rs : List ℕ}
        → is_punct LESS q ≡ true → Parameters us vs rs → Generics (leaf q us) vs (role.angle ∷ rs)

  -- ## `where`, then a run with stops `{` and `(`. WhereClause, which goes on to the `{` of the body

  pub data Clause : Trees → Trees → List ℕ → Type 0 where
    none : {ts : Trees} → starts (is_word WHERE) ts ≡ false → Clause ts ts []
    clause : {q : Row} {us vs : Trees} {rs : List ℕ}
        → is_word WHERE q ≡ true → Run clause_stops role.where_run 0 false us vs rs
        → Unless where-ends-at-group (opens BRACE vs)
        → Clause (leaf q us) vs (role.where_word ∷ rs)

  -- ## Named fields. StructField: attributes, visibility, an `i` row, `:`, type run (stop `,`), optional `,`

  pub data NamedField : Trees → Trees → List ℕ → Type 0 where
    field : {comma : Bool} {q c : Row} {ts us vs ws xs : Trees} {ks bs rs cs : List ℕ}
        → Attributes ts us ks → Visibility us (leaf q (leaf c vs)) bs → is_name q ≡ true → is_punct COLON c ≡ true
        → Run field_stops role.type 0 false vs ws rs → Unless empty-type (nonempty rs) → Separator COMMA comma ws xs cs
        → NamedField ts xs (ks ++ (bs ++ (role.field_name ∷ role.separator ∷ rs ++ cs)))

  -- StructFields, to the end of their group
  pub data NamedFields : Trees → List ℕ → Type 0 where
    -- attributes and visibility may stand alone at the end; they belong to no field
    last : {ts us : Trees} {ks bs : List ℕ}
        → Attributes ts us ks → Visibility us end bs → Unless lone-field-start (is_end ts) → NamedFields ts (ks ++ bs)
    next : {ts us : Trees} {rs qs : List ℕ} → NamedField ts us rs → NamedFields us qs → NamedFields ts (rs ++ qs)

  -- ## Types. TupleField: attributes, visibility, type run, optional `,`

  pub data TupleField : Trees → Trees → List ℕ → Type 0 where
    field : {comma : Bool} {ts us vs ws xs : Trees} {ks bs rs cs : List ℕ}
        → Attributes ts us ks → Visibility us vs bs
        → Run field_stops role.type 0 false vs ws rs → Unless empty-type (nonempty rs) → Separator COMMA comma ws xs cs
        → TupleField ts xs (ks ++ (bs ++ (rs ++ cs)))

  -- TupleFields, to the end of their group: while tokens remain
  pub data TupleFields : Trees → List ℕ → Type 0 where
    last : TupleFields end []
    next : {ts us : Trees} {rs qs : List ℕ}
        → is_end ts ≡ false → TupleField ts us rs → TupleFields us qs → TupleFields ts (rs ++ qs)

  -- ## Variant. EnumItem

  -- an optional brace or parenthesis group as above (no other group can follow). EnumItemStruct, EnumItemTuple
  pub data VariantFields : Trees → Trees → List ℕ → Type 0 where
    none : {ts : Trees} → is_group ts ≡ false → VariantFields ts ts []
    named : {d : ℕ} {ts us : Trees} {rs : List ℕ}
        → eqb d BRACE ≡ true → NamedFields ts rs
        → VariantFields (group d ts us) us (role.delimiter ∷ rs ++ role.delimiter ∷ [])
    tuple : {d : ℕ} {ts us : Trees} {rs : List ℕ}
        → eqb d PARENTHESIS ≡ true → TupleFields ts rs
        → VariantFields (group d ts us) us (role.delimiter ∷ rs ++ role.delimiter ∷ [])

  -- `=` with a literal, or with `-` and a literal of digits alone worth at most 9,223,372,036,854,775,807.
  -- EnumItemDiscriminant
  pub data Value : Trees → Trees → List ℕ → Type 0 where
    literal : {e q : Row} {us : Trees}
        → is_punct EQUALS e ≡ true → is_literal q ≡ true
        → Value (leaf e (leaf q us)) us (role.separator ∷ role.value ∷ [])
    negative : {e m q : Row} {us : Trees}
        → is_punct EQUALS e ≡ true → is_punct MINUS m ≡ true → is_literal q ≡ true → negatable q.text ≡ true
        → Value (leaf e (leaf m (leaf q us))) us (role.separator ∷ role.value ∷ role.value ∷ [])

  pub data Variant : Trees → Trees → List ℕ → Type 0 where
    -- attributes, a word, an optional group; then `,`, which may be absent at the end of the group
    plain : {comma : Bool} {ts us vs ws xs : Trees} {ks bs fs cs : List ℕ}
        → Attributes ts us ks → Word is_name role.variant-name us vs bs → VariantFields vs ws fs
        → Separator COMMA comma ws xs cs → (comma || is_end xs) ≡ true
        → Variant ts xs (ks ++ (bs ++ (fs ++ cs)))
    -- the same with a value; then `,`, which may be absent at the end of the group or after a value. The Reference has
    -- a group or a value
    valued : {comma : Bool} {ts us vs ws xs ys : Trees} {ks bs fs es cs : List ℕ}
        → Attributes ts us ks → Word is_name role.variant-name us vs bs → VariantFields vs ws fs → Value ws xs es
        → Separator COMMA comma xs ys cs → Unless comma-after-value (comma || is_end ys)
        → Unless group-and-value (not (nonempty fs))
        → Variant ts ys (ks ++ (bs ++ (fs ++ (es ++ cs))))

  -- EnumItems, to the end of their group
  pub data Variants : Trees → List ℕ → Type 0 where
    last : Variants end []
    next : {ts us : Trees} {rs qs : List ℕ}
        → is_end ts ≡ false → Variant ts us rs → Variants us qs → Variants ts (rs ++ qs)

  -- ## Bodies

  -- `;`, a brace group of named fields, or a parenthesis group of types. StructStruct or TupleStruct: whether it is the
  -- second
  pub data StructBody : Bool → Trees → Trees → List ℕ → Type 0 where
    unit : {q : Row} {us : Trees} → is_punct SEMICOLON q ≡ true → StructBody false (leaf q us) us (role.delimiter ∷ [])
    named : {d : ℕ} {ts us : Trees} {rs : List ℕ}
        → eqb d BRACE ≡ true → NamedFields ts rs
        → StructBody false (group d ts us) us (role.delimiter ∷ rs ++ role.delimiter ∷ [])
    tuple : {d : ℕ} {ts us : Trees} {rs : List ℕ}
        → eqb d PARENTHESIS ≡ true → TupleFields ts rs
        → StructBody true (group d ts us) us (role.delimiter ∷ rs ++ role.delimiter ∷ [])

  -- `;`, or a group of any delimiter holding variants. Enumeration: braces
  pub data EnumBody : Trees → Trees → List ℕ → Type 0 where
    unit : {q : Row} {us : Trees}
        → allowed enum-semicolon ≡ true → is_punct SEMICOLON q ≡ true → EnumBody (leaf q us) us (role.delimiter ∷ [])
    variants : {d : ℕ} {ts us : Trees} {rs : List ℕ} → Unless enum-delimiter (eqb d BRACE) → Variants ts rs
        → EnumBody (group d ts us) us (role.delimiter ∷ rs ++ role.delimiter ∷ [])

  -- ## Item: attributes, visibility, a word `struct` or `enum`, a word as name, optional generics, optional `where`,
  -- body. Struct or Enumeration: whether it is a TupleStruct

  -- a word that passes the test, and a word as name
  pub data Head (is : Row → Bool) : Trees → Trees → List ℕ → Type 0 where
    head : {ts us vs : Trees} {ks bs : List ℕ}
        → Word is role.item-word ts us ks → Word is_name role.item-name us vs bs → Head is ts vs (ks ++ bs)

  pub data Item : Bool → Trees → Trees → List ℕ → Type 0 where
    struct : {tuple : Bool} {ts₀ ts₁ ts₂ ts₃ ts₄ ts₅ ts₆ : Trees} {ks bs cs ds es fs : List ℕ}
        → Attributes ts₀ ts₁ ks → Visibility ts₁ ts₂ bs → Head (is_word STRUCT) ts₂ ts₃ cs → Generics ts₃ ts₄ ds
        → Clause ts₄ ts₅ es
        → StructBody tuple ts₅ ts₆ fs → Item tuple ts₀ ts₆ (ks ++ (bs ++ (cs ++ (ds ++ (es ++ fs)))))
    enum : {ts₀ ts₁ ts₂ ts₃ ts₄ ts₅ ts₆ : Trees} {ks bs cs ds es fs : List ℕ}
        → Attributes ts₀ ts₁ ks → Visibility ts₁ ts₂ bs → Head (is_word ENUM) ts₂ ts₃ cs → Generics ts₃ ts₄ ds
        → Clause ts₄ ts₅ es
        → EnumBody ts₅ ts₆ fs → Item false ts₀ ts₆ (ks ++ (bs ++ (cs ++ (ds ++ (es ++ fs)))))

  -- the rows after the body of an item that is a TupleStruct or not
  pub data LeftOver : Bool → Trees → Type 0 where
    -- an Item ends with its body
    none : LeftOver false end
    -- a TupleStruct with `;`
    semicolon : {q : Row} → is_punct SEMICOLON q ≡ true → LeftOver true (leaf q end)
    without_semicolon : allowed tuple-without-semicolon ≡ true → LeftOver true end
    -- with its WhereClause: `where`, then a run to the end, whose last token alone is `;`
    clause : {q : Row} {us : Trees} {rs : List ℕ}
        → allowed tuple-where ≡ true → is_word WHERE q ≡ true → Run no_stops role.left_over 0 false us end rs
        → closes us ≡ true
        → LeftOver true (leaf q us)
    rows : {tuple : Bool} {ts : Trees} → allowed left-over-rows ≡ true → LeftOver tuple ts

  -- An assignment of roles to the rows of a stream obeys when they can be divided into an item; all rows after the
  -- body: 0.
  pub data Obeys : Trees → List ℕ → Type 0 where
    obeys : {tuple : Bool} {ts us : Trees} {rs : List ℕ}
        → Item tuple ts us rs → LeftOver tuple us → Obeys ts (rs ++ replicate (size us) role.left_over)

-- What the reader of declarations answers (document 01, "Runs", "Role grammar" and the table of refusals), one
-- definition for each reader of the Rust. Productions are those of the Rust Reference 1.63.
use Rattle.std.specs.Prelude.{Bool, true, false, cond, ◌&&◌, List, [], ◌∷◌, ◌++◌, ℕ, zero, suc, ◌+◌, ◌-◌}
use Rattle.std.specs.Prelude.{ltb, eqb, length}
use Rattle.token_list.specs.Byte.{HASH, QUOTE, COMMA, MINUS, COLON, SEMICOLON, LESS, EQUALS, GREATER}
use Rattle.token_list.specs.Byte.{PARENTHESIS, BRACKET, BRACE}
use Rattle.token_list.specs.Layout.{PUNCT}
use Rattle.token_list.specs.Text.{same}
use Rattle.token_list.specs.Row.{Row, first}
use Rattle.token_list.specs.Check.{END}
use Rattle.token_list.specs.Stream.{Trees, end, leaf, group, size}
use Rattle.reading.specs.Role as role
pub use Rattle.reading.specs.Token.{is_ident, is_literal, is_punct, is_word, group_size, copied, lone, PUB, STRUCT}
pub use Rattle.reading.specs.Token.{ENUM, CONST, WHERE, scope_word, scoped, worth_from, worth, negatable, Stops}
pub use Rattle.reading.specs.Token.{stopping, parameter_stops, field_stops, clause_stops}
use Rattle.reading.specs.Declaration.{Visibility, default, public, restricted, Kind, struct, enum, Parameter}
use Rattle.reading.specs.Declaration.{lifetime, constant, type, Generics, without, angled, Constraints}
use Rattle.reading.specs.Declaration.{unconstrained, constrained, UnnamedField, Field, Fields, unit, named, tuple}
use Rattle.reading.specs.Declaration.{Value, absent, literal, negative, Variant, Body, fields, variants}
use Rattle.reading.specs.Declaration.{Declaration}
use Rattle.reading.specs.Took.{Took, took, stopped, refuse, ran_out_lem, Reader, onward, after, ◌>>=◌, pure}
use Rattle.reading.specs.Took.{wrong}

-- ## Words and punctuation (parse/utils.rs)

-- a word: the ident's text and row
pub data Word : Type 0 where
  missing : Word
  found : List ℕ → ℕ → Word

-- the text of the first token, which a group has not
abbrev pub first_text : Trees → List ℕ
first_text end = []
first_text (group d ts us) = []
first_text (leaf r ts) = r.text

-- an ident, or a group that holds just one
abbrev pub word : ℕ → Reader Word
word r row end = took missing [] end
word r row (leaf q us) = cond (is_ident q) (took (found q.text row) (r ∷ []) us) (took missing [] (leaf q us))
word r row (group d ts us) =
    cond (lone is_ident ts) (took (found (first_text ts) (row + 1)) (copied r ts) us) (took missing [] (group d ts us))

abbrev pub punct_if : ℕ → ℕ → Reader Bool
punct_if b r row end = took false [] end
punct_if b r row (leaf q us) = cond (is_punct b q) (took true (r ∷ []) us) (took false [] (leaf q us))
punct_if b r row (group d ts us) = took false [] (group d ts us)

-- ## Runs

pub data Ending : Type 0 where
  at_comma at_angle at_group at_end : Ending

-- how a run ended: at what, and whether an angle was open there
pub record RunEnd : Type 0 where
  pub ending : Ending
  pub unclosed : Bool

-- what a token is to a run: it belongs, with the depth and whether a `-` was last from then on; it ends the run; or it
-- is a `>` with nothing open
pub data Verdict : Type 0 where
  belongs : ℕ → Bool → Verdict
  ends : Ending → Verdict
  unopened : Verdict

-- rules 1, 2, 3, 4 and 6, for < > , and -
abbrev pub judge_punct : Stops → ℕ → Bool → ℕ → Verdict
judge_punct st depth minus b =
    cond (minus && eqb b GREATER) (belongs depth false)
    (cond (eqb b LESS) (belongs (depth + 1) false)
    (cond (eqb b GREATER) (cond (eqb depth 0) (cond st.angle (ends at_angle) unopened) (belongs (depth - 1) false))
    (cond (eqb b COMMA && (eqb depth 0 && st.comma)) (ends at_comma) (belongs depth (eqb b MINUS)))))

abbrev pub judge : Stops → ℕ → Bool → Row → Verdict
judge st depth minus r = cond (eqb r.kind PUNCT) (judge_punct st depth minus (first r.text)) (belongs depth false)

-- a run that ends at this depth
abbrev pub ended : Ending → ℕ → RunEnd
ended e depth = record { ending = e; unclosed = ltb 0 depth }

abbrev pub judged : ℕ → Verdict → (ℕ → Bool → Took RunEnd) → Trees → ℕ → Took RunEnd
judged depth (belongs e minus) go ts row = go e minus
judged depth (ends e) go ts row = took (ended e depth) [] ts
judged depth unopened go ts row = refuse 15 row

-- read_tokens_until_punct: the rows of the run get the role r
abbrev pub run_from : Stops → ℕ → ℕ → Bool → Reader RunEnd
run_from st r depth minus row end = took (ended at_end depth) [] end
run_from st r depth minus row (leaf q us) =
    judged depth (judge st depth minus q) (λ e m. onward (r ∷ []) (run_from st r e m (row + 1) us)) (leaf q us) row
run_from st r depth minus row (group d ts us) =
    cond (stopping st depth d) (took (ended at_group depth) [] (group d ts us))
    (onward (copied r ts) (run_from st r depth false (row + group_size ts) us))

-- the first tokens of a stream, n rows in all
abbrev pub first_rows : Trees → ℕ → Trees
first_rows end n = end
first_rows (leaf r us) zero = end
first_rows (leaf r us) (suc n) = leaf r (first_rows us n)
first_rows (group d ts us) zero = end
first_rows (group d ts us) (suc n) = group d ts (first_rows us (n - (1 + size ts)))

abbrev pub kept : Trees → Took RunEnd → Took Trees
kept ts (took e rs us) = took (first_rows ts (length rs)) rs us
kept ts (stopped w n p) = stopped w n p

-- a run, with what it holds
abbrev pub run : Stops → ℕ → Reader Trees
run st r row ts = kept ts (run_from st r 0 false row ts)

abbrev pub run_if : Bool → Stops → ℕ → Reader Trees
run_if true st r = run st r
run_if false st r = pure end

-- ## Attributes (parse/attributes.rs; OuterAttribute)

abbrev mutual
  pub attributes : Reader (List Trees)
  attributes row end = took [] [] end
  attributes row (group d ts us) = took [] [] (group d ts us)
  attributes row (leaf r us) = cond (is_punct HASH r) (after_hash row us) (took [] [] (leaf r us))

  -- after a `#` in the row given
  pub after_hash : ℕ → Trees → Took (List Trees)
  after_hash row end = ran_out_lem 13 END
  after_hash row (group d ts us) =
      cond (eqb d BRACKET)
      (onward (role.attribute_mark ∷ copied role.attribute_group ts)
      (after (row + 1 + group_size ts) (attributes (row + 1 + group_size ts) us) (λ xs. pure (ts ∷ xs))))
      (refuse 12 (row + 1))
  after_hash row (leaf r us) =
      cond (is_punct HASH r) (onward (role.idle_mark ∷ []) (after_hash (row + 1) us)) (refuse 13 (row + 1))

-- ## Visibility (parse/visibility.rs; Visibility)

-- the group after a plain `pub`, and after a wrapped one
abbrev pub scope_after : Reader Visibility
scope_after row end = took public [] end
scope_after row (leaf r us) = took public [] (leaf r us)
scope_after row (group d ts us) =
    cond (eqb d PARENTHESIS && scoped ts)
    (took (restricted d ts) (copied role.scope ts) us)
    (took public [] (group d ts us))

abbrev pub any_scope : Reader Visibility
any_scope row end = took public [] end
any_scope row (leaf r us) = took public [] (leaf r us)
any_scope row (group d ts us) = took (restricted d ts) (copied role.scope ts) us

abbrev pub visibility : Reader Visibility
visibility row end = took default [] end
visibility row (leaf r us) =
    cond (is_word PUB r) (onward (role.visibility ∷ []) (scope_after (row + 1) us)) (took default [] (leaf r us))
visibility row (group d ts us) =
    cond (lone (is_word PUB) ts)
    (onward (copied role.visibility ts) (any_scope (row + group_size ts) us))
    (took default [] (group d ts us))

-- ## The item's word and name (parse/data_type.rs)

-- the word that must stand here, or 11
abbrev pub named! : Word → Reader (List ℕ)
named! missing = wrong 11
named! (found t p) = pure t

abbrev pub named_kind : Word → Reader Kind
named_kind missing = wrong 11
named_kind (found t p) = cond (same t STRUCT) (pure struct) (cond (same t ENUM) (pure enum) (λ row ts. refuse 25 p))

pub record Head : Type 0 where
  pub kind : Kind
  pub name : List ℕ

abbrev pub data_type : Reader Head
data_type = do
  w ← word role.item-word
  k ← named_kind w
  v ← word role.item-name
  n ← named! v
  pure (record { kind = k; name = n })

-- ## Generics (parse/generics.rs; GenericParams)

-- an ident as a parameter's name, or a refusal: n at what stands there, or at p where nothing does
abbrev pub parameter_name : ℕ → ℕ → Reader (List ℕ)
parameter_name n p row end = ran_out_lem n p
parameter_name n p row (leaf r us) = cond (is_ident r) (took r.text (role.parameter-name ∷ []) us) (refuse n row)
parameter_name n p row (group d ts us) = refuse n row

-- `:` or another mark, and its run
abbrev pub optional_run : ℕ → Reader Trees
optional_run b = do
  t ← punct_if b role.separator
  run_if t parameter_stops role.bound

-- from the `'` in the row before
abbrev pub lifetime_after : ℕ → Reader Parameter
lifetime_after quote = do
  n ← parameter_name 24 quote
  b ← optional_run COLON
  pure (lifetime n b)

abbrev pub constant_after : Reader Parameter
constant_after = do
  n ← parameter_name 27 END
  t ← optional_run COLON
  pure (constant n t)

-- `:` and bounds, or `=` and a default
abbrev pub type_runs : List ℕ → Bool → Reader Parameter
type_runs n true = run parameter_stops role.bound >>= λ b. pure (type n b end)
type_runs n false = optional_run EQUALS >>= λ d. pure (type n end d)

abbrev pub type_after : List ℕ → Reader Parameter
type_after n = do
  t ← punct_if COLON role.separator
  type_runs n t

-- a parameter with the `,` that may follow, or nothing at the `>`
pub data Maybe (A : Type 0) : Type 0 where
  done : Maybe A
  one : A → Maybe A

abbrev pub comma : {A : Type 0} → A → Reader (Maybe A)
comma a = punct_if COMMA role.separator >>= λ t. pure (one a)

-- the first row of a parameter is taken with the role r
abbrev pub from : {A : Type 0} → ℕ → ℕ → Trees → Reader A → Took A
from r row us m = onward (r ∷ []) (m (row + 1) us)

-- after the `<` in the row `angle`
abbrev pub parameter : ℕ → Reader (Maybe Parameter)
parameter angle row end = ran_out_lem 14 angle
parameter angle row (group d ts us) = refuse 14 row
parameter angle row (leaf r us) =
    cond (is_punct QUOTE r) (from role.parameter-name row us (lifetime_after row >>= comma))
    (cond (is_punct GREATER r) (took done (role.angle ∷ []) us)
    (cond (is_word CONST r) (from role.parameter-name row us (constant_after >>= comma))
    (cond (is_ident r) (from role.parameter-name row us (type_after r.text >>= comma)) (refuse 14 row))))

-- ## Going round: a reader again and again until it is done; the fuel is more than the stream's rows

abbrev pub more : {A : Type 0} → Reader (List A) → Maybe A → Reader (List A)
more go done = pure []
more go (one a) = go >>= λ xs. pure (a ∷ xs)

-- Refusal 0, where the fuel is spent, is never given: `every` of a reader that takes a row each round refuses with 11
-- to 27 alone (`every_conserving` and `refusal-number` in proofs/Rounds).
abbrev pub rounds : {A : Type 0} → ℕ → Reader (Maybe A) → Reader (List A)
rounds zero m row ts = refuse 0 row
rounds (suc n) m row ts = after row (m row ts) (more (rounds n m))

abbrev pub every : {A : Type 0} → Reader (Maybe A) → Reader (List A)
every m row ts = rounds (suc (size ts)) m row ts

-- after the `<` in the row `angle`
abbrev pub generics_after : ℕ → Reader Generics
generics_after angle = every (parameter angle) >>= λ ps. pure (angled ps)

abbrev pub generics : Reader Generics
generics row end = took without [] end
generics row (group d ts us) = took without [] (group d ts us)
generics row (leaf r us) =
    cond (is_punct LESS r) (from role.angle row us (generics_after row)) (took without [] (leaf r us))

-- ## The where clause (GenericConstraints; WhereClause)

abbrev pub clause_after : Reader Constraints
clause_after = run clause_stops role.where_run >>= λ r. pure (constrained r)

abbrev pub clause : Reader Constraints
clause row end = took unconstrained [] end
clause row (group d ts us) = took unconstrained [] (group d ts us)
clause row (leaf r us) =
    cond (is_word WHERE r) (from role.where_word row us clause_after) (took unconstrained [] (leaf r us))

-- ## Bodies (parse/body.rs; StructFields, TupleFields, EnumItems)

-- the inside of a group, between its delimiters; where it gave out, the stream around it did not
abbrev pub closing : {A : Type 0} → Trees → Took A → Took A
closing us (took a rs rest) = took a (role.delimiter ∷ rs ++ role.delimiter ∷ []) us
closing us (stopped w n p) = refuse n p

abbrev pub enclosed : {A : Type 0} → Reader A → ℕ → Trees → Trees → Took A
enclosed m row ts us = closing us (m (row + 1) ts)

abbrev pub must : ℕ → Bool → Reader (Unit {0})
must n true = pure tt
must n false = wrong n

-- `:`, the type's run and the `,` that may follow
abbrev pub field_after : List Trees → Visibility → List ℕ → Reader (Maybe Field)
field_after a v n = do
  t ← punct_if COLON role.separator
  u ← must 23 t
  f ← run field_stops role.type
  comma (record { name = n; field = record { attributes = a; visibility = v; type = f } })

-- attributes and visibility may stand alone at the end
abbrev pub field_start : List Trees → Visibility → Reader (Maybe Field)
field_start a v row end = took done [] end
field_start a v row (group d ts us) = refuse 22 row
field_start a v row (leaf r us) =
    cond (is_ident r) (from role.field_name row us (field_after a v r.text)) (refuse 22 row)

abbrev pub named_field : Reader (Maybe Field)
named_field = do
  a ← attributes
  v ← visibility
  field_start a v

abbrev pub tuple_type : Reader (Maybe UnnamedField)
tuple_type = do
  a ← attributes
  v ← visibility
  t ← run field_stops role.type
  comma (record { attributes = a; visibility = v; type = t })

abbrev pub tuple_field : Reader (Maybe UnnamedField)
tuple_field row end = took done [] end
tuple_field row (leaf r us) = tuple_type row (leaf r us)
tuple_field row (group d ts us) = tuple_type row (group d ts us)

abbrev pub named_fields : Reader Fields
named_fields = every named_field >>= λ fs. pure (named fs)

abbrev pub tuple_fields : Reader Fields
tuple_fields = every tuple_field >>= λ fs. pure (tuple fs)

-- EnumItemTuple or EnumItemStruct
abbrev pub variant_fields : Reader Fields
variant_fields row end = took unit [] end
variant_fields row (leaf r us) = took unit [] (leaf r us)
variant_fields row (group d ts us) =
    cond (eqb d BRACE) (enclosed named_fields row ts us)
    (cond (eqb d PARENTHESIS) (enclosed tuple_fields row ts us) (refuse 19 row))

-- after `-`
abbrev pub negative_value : Reader Value
negative_value row end = ran_out_lem 21 END
negative_value row (group d ts us) = refuse 21 row
negative_value row (leaf r us) =
    cond (is_literal r)
    (cond (negatable r.text) (took (negative (worth r.text)) (role.value ∷ []) us) (refuse 26 row))
    (refuse 21 row)

-- EnumItemDiscriminant, after `=`
abbrev pub discriminant : Reader Value
discriminant row end = ran_out_lem 21 END
discriminant row (group d ts us) = refuse 21 row
discriminant row (leaf r us) =
    cond (is_literal r) (took (literal r.text) (role.value ∷ []) us)
    (cond (is_punct MINUS r) (from role.value row us negative_value) (refuse 21 row))

abbrev pub value_if : Reader Value
value_if row end = took absent [] end
value_if row (group d ts us) = refuse 20 row
value_if row (leaf r us) =
    cond (is_punct EQUALS r) (from role.separator row us discriminant)
    (cond (is_punct COMMA r) (took absent [] (leaf r us)) (refuse 20 row))

-- EnumItem
abbrev pub variant_here : Reader (Maybe Variant)
variant_here = do
  a ← attributes
  w ← word role.variant-name
  n ← named! w
  f ← variant_fields
  v ← value_if
  comma (record { attributes = a; name = n; fields = f; value = v })

abbrev pub variant : Reader (Maybe Variant)
variant row end = took done [] end
variant row (leaf r us) = variant_here row (leaf r us)
variant row (group d ts us) = variant_here row (group d ts us)

abbrev pub enum_variants : Reader Body
enum_variants = every variant >>= λ vs. pure (variants vs)

abbrev pub struct_fields_lem : Reader Fields → Reader Body
struct_fields_lem m = m >>= λ f. pure (fields f)

abbrev pub struct_body_lem : Reader Body
struct_body_lem row end = ran_out_lem 16 END
struct_body_lem row (leaf r us) =
    cond (is_punct SEMICOLON r) (took (fields unit) (role.delimiter ∷ []) us) (refuse 16 row)
struct_body_lem row (group d ts us) =
    cond (eqb d BRACE) (enclosed (struct_fields_lem named_fields) row ts us)
    (cond (eqb d PARENTHESIS) (enclosed (struct_fields_lem tuple_fields) row ts us) (refuse 17 row))

abbrev pub enum_body : Reader Body
enum_body row end = ran_out_lem 18 END
enum_body row (leaf r us) = cond (is_punct SEMICOLON r) (took (variants []) (role.delimiter ∷ []) us) (refuse 18 row)
enum_body row (group d ts us) = enclosed enum_variants row ts us

-- ## The item (parse/mod.rs; Struct and Enumeration)

abbrev pub body_of : Kind → Reader Body
body_of struct = struct_body_lem
body_of enum = enum_body

abbrev pub item : Reader Declaration
item = do
  a ← attributes
  v ← visibility
  h ← data_type
  g ← generics
  c ← clause
  b ← body_of h.kind
  pure
      (record {
        attributes = a;
        visibility = v;
        kind = h.kind;
        name = h.name;
        generics = g;
        clause = c;
        body = b;
      })

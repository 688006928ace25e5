-- The answers of utils, runs, attributes, visibility, data_type and generics.
use Rattle.std.specs.Prelude.{◌≡◌, Bool, true, false, cond, List, [], ◌∷◌, ℕ, ◌+◌, ◌≤◌, length, Result, Ok, Err, Option}
use Rattle.std.specs.Prelude.{Some, None}
use Rattle.token_list.specs.Byte.{COLON, EQUALS}
use Rattle.token_list.specs.Layout.{IDENT}
use Rattle.token_list.specs.Stream.{Trees, end, at}
use Rattle.token_list.specs.Contract.{Skipped}
use Rattle.token_list.specs.declared.check.Cursor.{Cursor}
use Rattle.token_list.specs.declared.check.Refusal.{Refusal}
use Rattle.token_list.specs.declared.stream.Token.{Token}
use Rattle.reading.specs.Token.{starts, is_group}
use Rattle.reading.specs.Role as role
use Rattle.reading.specs.Declaration as declaration
use Rattle.reading.specs.Took.{took, Cause, stopped, refuse, Reader, pure, ◌>>=◌, Point, beyond}
use Rattle.reading.specs.Reading as reading
use Rattle.reading.specs.Place.{word_row, past_token_lem, run_end}
use Rattle.parse.specs.Meets.{Said, on, said, shown, next_of, stream, point, CursorAt, TokenIn, TextOf, InsideAt}
use Rattle.parse.specs.Meets.{Belonged, Gained}
use Rattle.parse.specs.declared.utils.Next.{Next}
use Rattle.parse.specs.declared.utils.Next.TheVariants.{One, Done}
use Rattle.parse.specs.declared.utils.PlacedName.{PlacedName}
use Rattle.parse.specs.declared.data_type.Head.{Head}
use Rattle.parse.specs.declared.generics.ParameterAt.{ParameterAt}
use Rattle.parse.specs.declared.utils.Word.{Word}
use Rattle.parse.specs.declared.runs.Stops.{Stops}
use Rattle.parse.specs.declared.runs.Ending.{Ending}
use Rattle.parse.specs.declared.runs.Ending.TheVariants as endings
use Rattle.parse.specs.declared.runs.Run.{Run}
use Rattle.parse.specs.declared.runs.Verdict.{Verdict}
use Rattle.parse.specs.declared.runs.Verdict.TheVariants as verdicts
use Rattle.parse.specs.declared.runs.RunToken.{RunToken}
use Rattle.parse.specs.declared.runs.RunToken.TheVariants as run_tokens
use Rattle.parse.specs.declared.attributes.AttributeAt.{AttributeAt}
use Rattle.parse.specs.declared.visibility.PubWord.{PubWord}
use Rattle.parse.specs.declared.visibility.PubWord.TheVariants as pub_words
use Rattle.parse.specs.declared.visibility.PubStep.{PubStep}
use Rattle.parse.specs.declared.visibility.PubStep.TheVariants as pub_steps
use Rattle.parse.specs.declared.visibility.VisibilityAt.{VisibilityAt}
use Rattle.parse.specs.declared.data_type.DataType.{DataType}
use Rattle.parse.specs.declared.data_type.DataType.TheVariants as kinds
use Rattle.parse.specs.declared.generics.ParameterKind.{ParameterKind}
use Rattle.parse.specs.declared.generics.ParameterKind.TheVariants as parameter_kinds
use Rattle.parse.specs.declared.generics.RunPart.{RunPart}
use Rattle.parse.specs.declared.generics.RunPart.TheVariants as run_parts

-- ## utils

abbrev pub step_said : Result Cursor Refusal → Said
step_said = said (λ d. d)

-- a word of this text that begins at x: its token, and the ident's row
pub record WordAt (s : List ℕ) (x : Point) (w : Word) (name : List ℕ) : Type 0 where
  pub text : TextOf s w.token name
  pub token : TokenIn s (word_row x) w.token
  pub row : w.row ≡ word_row x

abbrev pub word_said : Cursor → Option Word → Said
word_said c None = on c
word_said c (Some w) = on w.next

abbrev pub word_shown : List ℕ → Cursor → Option Word → reading.Word → Type 0
word_shown s c None v = v ≡ reading.missing
word_shown s c (Some w) v = (t : List ℕ) × (v ≡ reading.found t w.row) × WordAt s (point s c) w t

-- a name that is a word at x: its token, and the row where it begins
pub record NameAt (s : List ℕ) (x : Point) (t : Token) (row : ℕ) (name : List ℕ) : Type 0 where
  pub text : TextOf s t name
  pub token : TokenIn s (word_row x) t
  pub place : row ≡ x.row

abbrev pub placed_name_said : Result PlacedName Refusal → Said
placed_name_said = said (λ n. n.next)

abbrev pub name_said : Result (Token × Cursor) Refusal → Said
name_said = said (λ n. n.1)

-- a name that stands at x, and past it
abbrev pub name_shown : List ℕ → Point → Result (Token × Cursor) Refusal → List ℕ → Type 0
name_shown s x = shown (λ n v. TextOf s n.0 v × TokenIn s x.row n.0 × CursorAt s (past_token_lem x) n.1)

-- the ident that stands alone in the stream at c, and the way past its group
abbrev pub lone_shown : List ℕ → Cursor → Option Word → Type 0
lone_shown s c None = reading.lone reading.is_ident (stream s c) ≡ false
lone_shown s c (Some w) =
    (reading.lone reading.is_ident (stream s c) ≡ true) × TextOf s w.token (reading.first_text (stream s c))
    × (w.token.kind ≡ IDENT) × (w.row ≡ c.row) × Skipped s c w.next
    × TokenIn s c.row w.token

-- ## runs

abbrev pub stops_of : Stops → reading.Stops
stops_of st = record { comma = st.comma; angle = st.angle; group = st.group }

abbrev pub ending_of : Ending → reading.Ending
ending_of endings.Comma = reading.at_comma
ending_of endings.Angle = reading.at_angle
ending_of endings.Group = reading.at_group
ending_of endings.End = reading.at_end

abbrev pub verdict_of : Verdict → reading.Verdict
verdict_of (verdicts.Belongs d m) = reading.belongs d m
verdict_of (verdicts.Ends e) = reading.ends (ending_of e)
verdict_of verdicts.Unopened = reading.unopened

-- one token of a run, by the answer
abbrev pub RunTokenRead : List ℕ → Cursor → List ℕ → List ℕ → Stops → ℕ → ℕ → Bool → Result RunToken Refusal
    → Type 0
RunTokenRead s c before after st r depth minus (Ok (run_tokens.On d e m)) =
    Belonged s c d before after (reading.run_from (stops_of st) r depth minus c.row (stream s c))
    (reading.run_from (stops_of st) r e m d.row (stream s d)) × (e ≤ d.at)
RunTokenRead s c before after st r depth minus (Ok (run_tokens.Ended e)) =
    (reading.run_from (stops_of st) r depth minus c.row (stream s c) ≡
    took (reading.ended (ending_of e) depth) [] (stream s c)) ×
    (after ≡ before)
RunTokenRead s c before after st r depth minus (Err f) =
    (reading.run_from (stops_of st) r depth minus c.row (stream s c) ≡ refuse f.number f.place) ×
    (after ≡ before)

-- how a run ended
abbrev pub run_end_of : Run → reading.RunEnd
run_end_of r = record { ending = ending_of r.ending; unclosed = r.unclosed }

-- a run of these tokens that begins at x
pub record RunAt (s : List ℕ) (st : reading.Stops) (role : ℕ) (x : Point) (r : Run) (v : Trees) : Type 0 where
  pub from : CursorAt s x r.from
  pub to : CursorAt s (beyond (reading.run st role) x) r.to
  pub ended : run_end_of r ≡ run_end st role x
  pub tokens : InsideAt (reading.run st role) s r.from v

abbrev pub run_said : Result Run Refusal → Said
run_said = said (λ r. r.to)

-- the run that begins at c
abbrev pub run_shown : List ℕ → reading.Stops → ℕ → Cursor → Result Run Refusal → Trees → Type 0
run_shown s st role c = shown (λ r v. (r.from ≡ c) × RunAt s st role (point s c) r v)

-- ## attributes

-- the tokens of its group, where it is no idle mark
abbrev pub attribute_of : List ℕ → AttributeAt → List Trees
attribute_of s a = cond a.idle [] ((at s a.token.next).here ∷ [])

-- one `#` with its group, or an idle one, where it stands, by the answer
abbrev pub HashRead : List ℕ → Cursor → List ℕ → List ℕ → Result AttributeAt Refusal → Type 0
HashRead s c before after (Ok a) =
    Gained s c a.next before after (attribute_of s a) (reading.attributes c.row (stream s c))
    (reading.attributes a.next.row (stream s a.next)) × TokenIn s (c.row + 1) a.token
HashRead s c before after (Err r) =
    (w : Cause) × (reading.attributes c.row (stream s c) ≡ stopped w r.number r.place) × (after ≡ before)

-- the same, where one may stand
abbrev pub AttributeRead : List ℕ → Cursor → List ℕ → List ℕ → Result (Option AttributeAt) Refusal → Type 0
AttributeRead s c before after (Ok (Some a)) = HashRead s c before after (Ok a)
AttributeRead s c before after (Ok None) =
    (reading.attributes c.row (stream s c) ≡ took [] [] (stream s c)) × (after ≡ before)
AttributeRead s c before after (Err r) = HashRead s c before after (Err r)

-- ## visibility

-- a `pub`, by the answer
abbrev pub PubRead : List ℕ → Cursor → List ℕ → List ℕ → PubStep → Type 0
PubRead s c before after pub_steps.Absent =
    (reading.visibility c.row (stream s c) ≡ took declaration.default [] (stream s c)) × (after ≡ before)
PubRead s c before after (pub_steps.Plain d) =
    (starts (reading.is_word reading.PUB) (stream s c) ≡ true) × CursorAt s (past_token_lem (point s c)) d ×
    Belonged s c d before after (reading.visibility c.row (stream s c)) (reading.scope_after d.row (stream s d))
PubRead s c before after (pub_steps.Wrapped d) =
    (is_group (stream s c) ≡ true) × CursorAt s (past_token_lem (point s c)) d ×
    Belonged s c d before after (reading.visibility c.row (stream s c)) (reading.any_scope d.row (stream s d))

-- no `pub` at x; or one, plain or wrapped, and at `scope` the reading gives the visibility v
abbrev pub PubAt : List ℕ → Point → Cursor → declaration.Visibility → PubWord → Type 0
PubAt s x scope v pub_words.Absent = v ≡ declaration.default
PubAt s x scope v pub_words.Plain =
    (starts (reading.is_word reading.PUB) x.stream ≡ true) × CursorAt s (past_token_lem x) scope ×
    InsideAt reading.scope_after s scope v
PubAt s x scope v pub_words.Wrapped =
    (is_group x.stream ≡ true) × CursorAt s (past_token_lem x) scope × InsideAt reading.any_scope s scope v

abbrev pub visibility_shown : List ℕ → Point → VisibilityAt → declaration.Visibility → Type 0
visibility_shown s x r v = PubAt s x r.scope v r.word

-- ## data_type

-- the item's word alone
abbrev pub item_word : Reader declaration.Kind
item_word = reading.word role.item-word >>= reading.named_kind

abbrev pub kind_of : DataType → declaration.Kind
kind_of kinds.Struct = declaration.struct
kind_of kinds.Enum = declaration.enum

abbrev pub kind_said : Result (DataType × Cursor) Refusal → Said
kind_said = said (λ k. k.1)

abbrev pub kind_shown : Result (DataType × Cursor) Refusal → declaration.Kind → Type 0
kind_shown = shown (λ k v. kind_of k.0 ≡ v)

abbrev pub head_said : Result Head Refusal → Said
head_said = said (λ h. h.name.next)

abbrev pub head_shown : List ℕ → Cursor → Result Head Refusal → reading.Head → Type 0
head_shown s c = shown
    (λ h v. (kind_of h.kind ≡ v.kind) × NameAt s (beyond item_word (point s c)) h.name.token h.name.place v.name)

-- ## generics

abbrev pub parameter_kind : declaration.Parameter → ParameterKind
parameter_kind (declaration.lifetime n b) = parameter_kinds.Lifetime
parameter_kind (declaration.constant n t) = parameter_kinds.Const
parameter_kind (declaration.type n b d) = parameter_kinds.Type

abbrev pub is_lifetime : ParameterKind → Bool
is_lifetime parameter_kinds.Lifetime = true
is_lifetime parameter_kinds.Const = false
is_lifetime parameter_kinds.Type = false

abbrev pub parameter_text : declaration.Parameter → List ℕ
parameter_text (declaration.lifetime n b) = n
parameter_text (declaration.constant n t) = n
parameter_text (declaration.type n b d) = n

-- what stands after `:`, a bound or a const's type, and after `=`
abbrev pub bound_of_lem : declaration.Parameter → Trees
bound_of_lem (declaration.lifetime n b) = b
bound_of_lem (declaration.constant n t) = t
bound_of_lem (declaration.type n b d) = b

abbrev pub default_of : declaration.Parameter → Trees
default_of (declaration.lifetime n b) = end
default_of (declaration.constant n t) = end
default_of (declaration.type n b d) = d

-- the run after the separator at x
abbrev pub OptionalRunAt : List ℕ → ℕ → Point → Run → Trees → Type 0
OptionalRunAt s separator x r tokens =
    (starts (reading.is_punct separator) x.stream ≡ true) ×
    RunAt s reading.parameter_stops role.bound (past_token_lem x) r tokens

-- of a parameter with these bounds, or const type, and default, whose name ends at x: its run, by what it is
abbrev pub ParameterRunAt : List ℕ → Point → Trees → Trees → RunPart → Run → Type 0
ParameterRunAt s x bound default run_parts.Absent r =
    (starts (reading.is_punct COLON) x.stream ≡ false) × (bound ≡ end) × (default ≡ end)
ParameterRunAt s x bound default run_parts.Bound r = OptionalRunAt s COLON x r bound × (default ≡ end)
ParameterRunAt s x bound default run_parts.Default r =
    (starts (reading.is_punct COLON) x.stream ≡ false) × (bound ≡ end) × OptionalRunAt s EQUALS x r default

-- what is told of a parameter: its kind and its name
pub record ParameterOf (s : List ℕ) (k : ParameterKind) (name : Token) (a : declaration.Parameter) : Type 0 where
  pub kind : k ≡ parameter_kind a
  pub text : TextOf s name (parameter_text a)

abbrev pub parameter_said : Result (Next ParameterAt Cursor) Refusal → Said
parameter_said = said (next_of (λ p. p.next) (λ d. d))

-- a parameter whose name stands at x
abbrev pub parameter_at_shown : List ℕ → Point → ParameterAt → reading.Maybe declaration.Parameter → Type 0
parameter_at_shown s x p v =
    (a : declaration.Parameter) × (v ≡ reading.one a) × ParameterOf s p.kind p.name a ×
    TokenIn s x.row p.name × ParameterRunAt s (past_token_lem x) (bound_of_lem a) (default_of a) p.part p.run

-- the same, or no parameter
abbrev pub parameter_shown : List ℕ → Point → Result (Next ParameterAt Cursor) Refusal
    → reading.Maybe declaration.Parameter → Type 0
parameter_shown s x (Ok (One p)) v = parameter_at_shown s x p v
parameter_shown s x (Ok (Done d)) v = v ≡ reading.done
parameter_shown s x (Err r) v = ⊥

abbrev pub parameter_run_said : Result (RunPart × Run) Refusal → Said
parameter_run_said = said (λ m. m.1.to)

-- a separator at x and the run after it, which is told as this part; or neither
abbrev pub optional_run_shown : List ℕ → ℕ → RunPart → Point → Result (RunPart × Run) Refusal → Trees
    → Type 0
optional_run_shown s separator part x (Ok (m, r)) v =
    (starts (reading.is_punct separator) x.stream ≡ false → (m ≡ run_parts.Absent) × (v ≡ end)) ×
    (starts (reading.is_punct separator) x.stream ≡ true → (m ≡ part) × OptionalRunAt s separator x r v)
optional_run_shown s separator part x (Err r) v = ⊥

-- a type of this name, which ends at x
abbrev pub type_shown : List ℕ → Point → List ℕ → Result (RunPart × Run) Refusal → declaration.Parameter
    → Type 0
type_shown s x n (Ok (m, r)) a =
    (parameter_kinds.Type ≡ parameter_kind a) × (parameter_text a ≡ n) ×
    ParameterRunAt s x (bound_of_lem a) (default_of a) m r
type_shown s x n (Err r) a = ⊥

-- a parameter of this kind without a default
abbrev pub parameter_made : ParameterKind → List ℕ → Trees → declaration.Parameter
parameter_made parameter_kinds.Lifetime n b = declaration.lifetime n b
parameter_made parameter_kinds.Const n b = declaration.constant n b
parameter_made parameter_kinds.Type n b = declaration.type n b end

-- a lifetime, after its `'`, or a const, after its `const`
abbrev pub named_parameter : ℕ → ℕ → ParameterKind → Reader (reading.Maybe declaration.Parameter)
named_parameter n p k =
    reading.parameter_name n p
    >>= (λ x. (reading.optional_run COLON >>= λ b. pure (parameter_made k x b)))
    >>= reading.comma

abbrev pub after_name : List ℕ → Reader (reading.Maybe declaration.Parameter)
after_name n = reading.type_after n >>= reading.comma

-- how many things were read
abbrev pub count_said : Result (Cursor × ℕ) Refusal → Said
count_said = said (λ n. n.0)

abbrev pub count_shown : {A : Type 0} → Result (Cursor × ℕ) Refusal → List A → Type 0
count_shown = shown (λ n v. n.1 ≡ length v)

-- how many parameters stand in the generics
abbrev pub generics_shown : Result (Cursor × ℕ) Refusal → declaration.Generics → Type 0
generics_shown r g = count_shown r (declaration.parameters_of g)

-- no where clause at x, or the run of one
abbrev pub ClauseOf : List ℕ → Point → declaration.Constraints → Option Run → Type 0
ClauseOf s x v None = v ≡ declaration.unconstrained
ClauseOf s x v (Some r) =
    (t : Trees) × (v ≡ declaration.constrained t) × (starts (reading.is_word reading.WHERE) x.stream ≡ true) ×
    RunAt s reading.clause_stops role.where_run (past_token_lem x) r t

abbrev pub clause_said : Result (Option Run × Cursor) Refusal → Said
clause_said = said (λ r. r.1)

abbrev pub clause_shown : List ℕ → Point → Result (Option Run × Cursor) Refusal → declaration.Constraints → Type 0
clause_shown s x = shown (λ r v. ClauseOf s x v r.0)

-- What ties a ListBuilder's counts and the output to the rows that were added.
use Rattle.std.specs.Prelude.{◌≡◌, List, [], ◌∷◌, ◌++◌, map, Bool, true, false, cond, ◌&&◌, ◌||◌, ℕ, ◌+◌, ◌-◌, ◌≤◌, ◌<◌}
use Rattle.std.specs.Prelude.{eqb, length, take, drop, Result}
use Rattle.std.proofs.Math.Seq.{slice}
use Rattle.token_list.specs.Byte.{QUOTE, COMMA}
use Rattle.token_list.specs.Layout.{PUNCT, NAMES_DIFFER, marked}
use Rattle.token_list.specs.Row.{Row, written}
use Rattle.token_list.specs.Rows.{ident, punct, list_of}
use Rattle.token_list.specs.Stream.{Trees, rows_at}
use Rattle.token_list.specs.Contract.{RightRows}
use Rattle.token_list.specs.Place.{OneRefusal}
use Rattle.token_list.specs.declared.check.Cursor.{Cursor}
use Rattle.token_list.specs.declared.check.Refusal.{Refusal}
use Rattle.token_list.specs.declared.stream.Token.{Token}
use Rattle.output.specs.Contract.{further, Put, Printed}
use Rattle.output.specs.Answer.{refused, answer_text}
use Rattle.output.specs.Written.{WrittenAs}
use Rattle.writing.specs.Rows.{run_rows, sent_row, sent}
use Rattle.writing.specs.Names.{names_of, right_names, name_line, quoted}
use Rattle.writing.specs.Answer.{Writer, full_answer, answer, write_number}
use Rattle.writing.specs.Generics.{constraints, bounds, parameter_rows, sent_parameter, named, added_lifetime}
use Rattle.writing.specs.Generics.{added_type}
use Rattle.reading.specs.Token.{CONST}
use Rattle.reading.specs.Declaration.{Parameter}
use Rattle.parse.specs.Contract.{ParameterOf, bound_of_lem}
use Rattle.parse.specs.declared.generics.ParameterKind.{ParameterKind}
use Rattle.parse.specs.declared.generics.ParameterKind.TheVariants as kinds
use Rattle.parse.specs.declared.generics.RunPart.{RunPart}
use Rattle.parse.specs.declared.generics.RunPart.TheVariants as run_parts
use Rattle.parse.specs.declared.runs.Run.{Run}
use Rattle.parse.specs.declared.generics.ParameterAt.{ParameterAt}
use Rattle.generate.specs.declared.generics.Form.{Form}
use Rattle.generate.specs.declared.parameter.ConstraintsAt.{ConstraintsAt}
use Rattle.generate.specs.declared.stream_builder.ListBuilder.{ListBuilder}
use Rattle.generate.specs.declared.names.Gathered.{Gathered}

abbrev pub row : ℕ → Bool → List ℕ → Row
row k j t = record { kind = k; joint = j; text = t }

-- the mark with which a token goes out, by its kind, its mark and its byte
abbrev pub sent_mark_lem : ℕ → Bool → ℕ → Bool
sent_mark_lem k j b = j || eqb k PUNCT && eqb b QUOTE

-- an output was `before`: the list of the rows rs, with marks or without, stands from its start on, as far as there is
-- room
pub record Built (m : Bool) (before : List ℕ) (r : ListBuilder) (rs : List Row) : Type 0 where
  pub marked : r.built.marked ≡ m
  pub rows : r.built.rows ≡ further 0 (length rs)
  pub put : Put before r.out.now 0 r.built.bytes (list_of m rs)

-- the rows rs stand behind those of the builder b, in the same output
pub record Appended (b r : ListBuilder) (rs : List Row) : Type 0 where
  pub same_output : r.out.ghost_name ≡ b.out.ghost_name
  pub marked : r.built.marked ≡ b.built.marked
  pub rows : r.built.rows ≡ further b.built.rows (length rs)
  pub put : Put b.out.now r.out.now b.built.bytes r.built.bytes (written b.built.marked rs)

-- a `,`, but not before the first
abbrev pub comma : Bool → List Row
comma true = []
comma false = punct COMMA ∷ []

-- the rows of the list s from a cursor up to another
abbrev pub between : List ℕ → Cursor → Cursor → List Row
between s from to = take (to.row - from.row) (rows_at s from.at)

-- they are a part of the list
pub record Part (s : List ℕ) (from to : Cursor) : Type 0 where
  pub forth : from.at ≤ to.at
  pub rows : from.row ≤ to.row
  pub within : to.at ≤ length s
  pub long : NAMES_DIFFER < length s
  pub enough : to.row - from.row ≤ length (rows_at s from.at)
  pub bytes : slice from.at to.at s ≡ written (marked s) (between s from to)
  pub right_rows : RightRows s from.at

-- they are appended as they go out
abbrev pub Extended : (s : List ℕ) (from to : Cursor) (b r : ListBuilder) → Type 0
Extended s from to b r = Appended b r (map sent_row (between s from to))

-- the first name of the text t from `from` on ends at e; the next ones begin after the LF there
pub record NameEnd (t : List ℕ) (from e : ℕ) : Type 0 where
  pub start : from ≤ e
  pub within : e ≤ length t
  pub names : names_of (drop from t) ≡ slice from e t ∷ names_of (drop (e + 1) t)

-- an added lifetime, or else an added type
abbrev pub added : Bool → List ℕ → Parameter
added true t = added_lifetime t
added false t = added_type t

-- whichever run the rows between two cursors are, the rows that f makes of it as it goes out are appended
abbrev pub RunWritten : (s : List ℕ) (from to : Cursor) (b r : ListBuilder) → (Trees → List Row) → Type 0
RunWritten s from to b r f = (ts : Trees) → between s from to ≡ run_rows ts → Appended b r (f (sent ts))

-- `:` and a run: always, as a const has it, or where it is not empty
abbrev pub constrained : Bool → Trees → List Row
constrained true ts = constraints ts
constrained false ts = bounds ts

-- a program's argument is one line more of the one text or of the other
pub record GatheredAs (arg ls₀ ls ts₀ ts : List ℕ) (at r : Gathered) : Type 0 where
  pub lifetimes : Put ls₀ ls at.lifetimes r.lifetimes (cond (quoted arg) (name_line (drop 1 arg)) [])
  pub types : Put ts₀ ts at.types r.types (cond (quoted arg) [] (name_line arg))

-- ## Parameters that were read

-- where the constraints of a parameter stand that ends at `next`
abbrev pub constraints_of : RunPart → Run → Cursor → ConstraintsAt
constraints_of run_parts.Absent r next = record { from = next; to = next }
constraints_of run_parts.Bound r next = record { from = r.from; to = r.to }
constraints_of run_parts.Default r next = record { from = next; to = next }

abbrev pub is_const : ParameterKind → Bool
is_const kinds.Lifetime = false
is_const kinds.Const = true
is_const kinds.Type = false

-- the rows between two cursors are a run
pub record RunIn (s : List ℕ) (at : ConstraintsAt) (ts : Trees) : Type 0 where
  pub part : Part s at.from at.to
  pub rows : between s at.from at.to ≡ run_rows ts

-- the kind and the name of a parameter
pub record NameIn (s : List ℕ) (kind : ParameterKind) (name : Token) (a : Parameter) : Type 0 where
  pub told : ParameterOf s kind name a
  pub start : name.start ≤ name.end

-- and its constraints
pub record ParameterIn (s : List ℕ) (p : ParameterAt) (a : Parameter) : Type 0 where
  pub name : NameIn s p.kind p.name a
  pub run : RunIn s (constraints_of p.part p.run p.next) (bound_of_lem a)

-- a name, with the `'` of a lifetime
abbrev pub name_rows : Parameter → List Row
name_rows a = parameter_rows (named a)

abbrev pub const_rows : Bool → List Row
const_rows true = ident CONST ∷ []
const_rows false = []

-- a parameter as it stands, or its name alone
abbrev pub shaped : Bool → Parameter → Parameter
shaped true a = named a
shaped false a = a

-- the same as it goes out
abbrev pub goes_out : Bool → Parameter → Parameter
goes_out names a = shaped names (sent_parameter a)

-- ## The three writers

-- the parameters that are written: the declared ones, as they stand or by their names, between the added
abbrev pub parameters_by : Bool → List ℕ → List ℕ → List Parameter → List Parameter
parameters_by names ls ts ps =
    map added_lifetime (names_of ls) ++ (map (shaped names) ps ++ map added_type (names_of ts))

-- whether all added names are right
abbrev pub right_texts : List ℕ → List ℕ → Bool
right_texts ls ts = right_names (names_of ls) && right_names (names_of ts)

abbrev pub writer : Bool → List ℕ → List ℕ → Writer
writer names ls ts = record { parameters = parameters_by names ls ts; right = right_texts ls ts }

-- the same by the code's record of them
abbrev pub parameters_in : Form → List Parameter → List Parameter
parameters_in f = parameters_by f.names f.lifetimes.now f.types.now

abbrev pub writer_in : Form → Writer
writer_in f = writer f.names f.lifetimes.now f.types.now

-- the whole answer of a writer for a list s, the whole output, and what holds of a refusal
pub record Answered (w : Writer) (s before after : List ℕ) (r : Result ℕ Refusal) : Type 0 where
  pub answered : WrittenAs before after (answer w s (length before)) r
  pub refusal : (n p : ℕ) → answer w s (length before) ≡ refused n p → OneRefusal write_number s n p

-- the report: the text of the answer, in an output that was `before` and is `after`
pub record Reported (w : Writer) (most : ℕ) (s before after : List ℕ) (r : ℕ) : Type 0 where
  pub text : Printed before after r (answer_text (answer w s (length before)))
  -- an output of so many bytes has room for every list, so the text is never that of refusal 8
  pub roomy : most ≤ length before → Printed before after r (answer_text (full_answer w s))
  pub short : r ≤ most
  -- what holds of a refusal that is printed
  pub refusal : (n p : ℕ) → answer w s (length before) ≡ refused n p → OneRefusal write_number s n p

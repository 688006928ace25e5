-- What is read, aside from the marks of the rows: a declaration holds tokens, and with them their marks (document 02,
-- card 6).
use Rattle.std.specs.Prelude.{◌≡◌, List, map, ℕ}
use Rattle.token_list.specs.Marks.{unmarked}
use Rattle.reading.specs.Declaration.{Visibility, default, public, restricted, Parameter, lifetime, constant}
use Rattle.reading.specs.Declaration.{type, Generics, without, angled, Constraints, unconstrained, constrained}
use Rattle.reading.specs.Declaration.{UnnamedField, Field, Fields, unit, named, tuple, Variant, Body, fields}
use Rattle.reading.specs.Declaration.{variants, Declaration}
use Rattle.reading.specs.Took.{Took, took, stopped, Point}
use Rattle.reading.specs.Answer.{Answer, declared, refused, answer, buffer}
use Rattle.reading.specs.Promise.{Assignment}

-- ## A declaration

abbrev pub unmarked_visibility : Visibility → Visibility
unmarked_visibility default = default
unmarked_visibility public = public
unmarked_visibility (restricted d ts) = restricted d (unmarked ts)

abbrev pub unmarked_parameter : Parameter → Parameter
unmarked_parameter (lifetime n b) = lifetime n (unmarked b)
unmarked_parameter (constant n t) = constant n (unmarked t)
unmarked_parameter (type n b d) = type n (unmarked b) (unmarked d)

abbrev pub unmarked_generics : Generics → Generics
unmarked_generics without = without
unmarked_generics (angled ps) = angled (map unmarked_parameter ps)

abbrev pub unmarked_constraints : Constraints → Constraints
unmarked_constraints unconstrained = unconstrained
unmarked_constraints (constrained ts) = constrained (unmarked ts)

abbrev pub unmarked_unnamed_field : UnnamedField → UnnamedField
unmarked_unnamed_field f = record {
  attributes = map unmarked f.attributes;
  visibility = unmarked_visibility f.visibility;
  type = unmarked f.type;
}

abbrev pub unmarked_field : Field → Field
unmarked_field f = record { name = f.name; field = unmarked_unnamed_field f.field }

abbrev pub unmarked_fields : Fields → Fields
unmarked_fields unit = unit
unmarked_fields (named fs) = named (map unmarked_field fs)
unmarked_fields (tuple fs) = tuple (map unmarked_unnamed_field fs)

abbrev pub unmarked_variant : Variant → Variant
unmarked_variant v = record {
  attributes = map unmarked v.attributes;
  name = v.name;
  fields = unmarked_fields v.fields;
  value = v.value;
}

abbrev pub unmarked_body : Body → Body
unmarked_body (fields f) = fields (unmarked_fields f)
unmarked_body (variants vs) = variants (map unmarked_variant vs)

abbrev pub unmarked_declaration : Declaration → Declaration
unmarked_declaration d = record {
  attributes = map unmarked d.attributes;
  visibility = unmarked_visibility d.visibility;
  kind = d.kind;
  name = d.name;
  generics = unmarked_generics d.generics;
  clause = unmarked_constraints d.clause;
  body = unmarked_body d.body;
}

-- ## Answers and points

-- what a reader answers, its value by f; roles and refusals hold no marks
abbrev pub unmarked_took : {A B : Type 0} → (A → B) → Took A → Took B
unmarked_took f (took a rs us) = took (f a) rs (unmarked us)
unmarked_took f (stopped w n p) = stopped w n p

abbrev pub unmarked_answer : Answer → Answer
unmarked_answer (declared d rs) = declared (unmarked_declaration d) rs
unmarked_answer (refused n p) = refused n p

abbrev pub unmarked_point : Point → Point
unmarked_point x = record { row = x.row; stream = unmarked x.stream }

-- ## The promise: marks change nothing of what is read

-- two lists that are read alike, with a role buffer of any length
pub record ReadAlike (s t : List ℕ) : Type 0 where
  -- the same declaration aside from marks, with the same roles, or the same refusal and place
  pub answers : (n : ℕ) → unmarked_answer (answer s n) ≡ unmarked_answer (answer t n)
  pub buffers : (n : ℕ) → buffer n (answer s n) ≡ buffer n (answer t n)
  pub refusals : (n m p : ℕ) → answer s n ≡ refused m p → answer t n ≡ refused m p
  -- the same assignments of roles obey document 01's grammar
  pub assignments : (roles : List ℕ) → Assignment s roles → Assignment t roles

-- What a declaration says, as plain data without places. Names are texts; runs are the tokens that they hold. That a
-- word or `pub` was wrapped, idle marks, and attributes or visibility that belong to no field are not part of it.
use Rattle.std.specs.Prelude.{List, [], ℕ, length}
use Rattle.token_list.specs.Stream.{Trees}

-- Visibility: none stands there; `pub`; or `pub` with its scope, a group's delimiter and tokens
pub data Visibility : Type 0 where
  default : Visibility
  public : Visibility
  restricted : ℕ → Trees → Visibility

-- `struct` or `enum`
pub data Kind : Type 0 where
  struct : Kind
  enum : Kind

-- GenericParam of the Reference: LifetimeParam, ConstParam, TypeParam. An absent run is empty.
pub data Parameter : Type 0 where
  -- name and bounds
  lifetime : List ℕ → Trees → Parameter
  -- name and type
  constant : List ℕ → Trees → Parameter
  -- name, bounds and default
  type : List ℕ → Trees → Trees → Parameter

-- Generics of the Reference, and virtue's Option<Generics>: none stand there, or parameters between `<` and `>`
pub data Generics : Type 0 where
  without : Generics
  angled : List Parameter → Generics

abbrev pub parameters_of : Generics → List Parameter
parameters_of without = []
parameters_of (angled ps) = ps

-- WhereClause, and virtue's Option<GenericConstraints>: none stands there, or `where` with its run
pub data Constraints : Type 0 where
  unconstrained : Constraints
  constrained : Trees → Constraints

-- TupleField: attributes, each the tokens of its group, visibility and type
pub record UnnamedField : Type 0 where
  pub attributes : List Trees
  pub visibility : Visibility
  pub type : Trees

-- StructField: the same under a name
pub record Field : Type 0 where
  pub name : List ℕ
  pub field : UnnamedField

pub data Fields : Type 0 where
  unit : Fields
  named : List Field → Fields
  tuple : List UnnamedField → Fields

-- a variant's value: none, a literal's text, or the negative of a number
pub data Value : Type 0 where
  absent : Value
  literal : List ℕ → Value
  negative : ℕ → Value

-- EnumItem
pub record Variant : Type 0 where
  pub attributes : List Trees
  pub name : List ℕ
  pub fields : Fields
  pub value : Value

pub data Body : Type 0 where
  fields : Fields → Body
  variants : List Variant → Body

-- how many fields or variants a body has
abbrev pub fields_count : Fields → ℕ
fields_count unit = 0
fields_count (named fs) = length fs
fields_count (tuple fs) = length fs

abbrev pub body_count : Body → ℕ
body_count (fields f) = fields_count f
body_count (variants vs) = length vs

-- Struct or Enumeration
pub record Declaration : Type 0 where
  pub attributes : List Trees
  pub visibility : Visibility
  pub kind : Kind
  pub name : List ℕ
  pub generics : Generics
  pub clause : Constraints
  pub body : Body

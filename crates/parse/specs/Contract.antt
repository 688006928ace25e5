-- What ties the code's answers and the role buffer to the reading: every reader's contract (Meets), and the answers of
-- each area (Parts, Bodies).
pub use Rattle.parse.specs.Meets.{any, refusal, said, shown, next_of, stream, point, TokenIn, past_of, Moved, CursorAt}
pub use Rattle.parse.specs.Meets.{TextOf, InsideAt}
pub use Rattle.parse.specs.Meets.{Belonged, Gained, Said, Meets, on, no, stands, refuses}
pub use Rattle.parse.specs.Parts.{step_said, word_said, word_shown, placed_name_said, name_said, name_shown, lone_shown}
pub use Rattle.parse.specs.Parts.{stops_of, ending_of, verdict_of, RunTokenRead, run_end_of, run_said, run_shown}
pub use Rattle.parse.specs.Parts.{attribute_of, AttributeRead, HashRead, PubRead, PubAt, visibility_shown, item_word}
pub use Rattle.parse.specs.Parts.{kind_of}
pub use Rattle.parse.specs.Parts.{kind_said, kind_shown, head_said, head_shown, parameter_kind, is_lifetime}
pub use Rattle.parse.specs.Parts.{parameter_text, bound_of_lem, default_of, OptionalRunAt}
pub use Rattle.parse.specs.Parts.{ParameterRunAt, parameter_said, parameter_at_shown, parameter_shown}
pub use Rattle.parse.specs.Parts.{optional_run_shown, parameter_run_said, type_shown, parameter_made}
pub use Rattle.parse.specs.Parts.{named_parameter, after_name, count_said, count_shown}
pub use Rattle.parse.specs.Parts.{generics_shown, ClauseOf, clause_said, clause_shown, WordAt, NameAt, RunAt}
pub use Rattle.parse.specs.Parts.{ParameterOf}
pub use Rattle.parse.specs.Bodies.{prefix, field_type, type_said, type_at_shown, NamedAt, field_said, field_shown}
pub use Rattle.parse.specs.Bodies.{named_said, named_shown, unnamed_said, unnamed_shown, next_said, next_shown, Inside}
pub use Rattle.parse.specs.Bodies.{FieldsOf, fields_said, FieldsIn, fields_shown, ValueOf, value_said, ValueIn}
pub use Rattle.parse.specs.Bodies.{value_shown, variant_value, variant_name_shown, variant_said, variant_shown}
pub use Rattle.parse.specs.Bodies.{body_shown_lem, parts_after, item_said, ItemIn, item_shown, parts_shown, Answered}
pub use Rattle.parse.specs.Bodies.{accepted, ParsedAs, Prefix, PrefixOf, UnnamedFieldOf}
pub use Rattle.parse.specs.Bodies.{VariantOf, VariantPlaces, ItemOf, ItemPlaces, HeadOf}

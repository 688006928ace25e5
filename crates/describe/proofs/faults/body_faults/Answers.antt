use Rattle.describe.proofs.Parts.{enum_group, inside-point}
use Rattle.describe.proofs.Sightings.{struct_known, enum_known, faults_none, struct_faultless, enum_faultless}
use Rattle.describe.proofs.Sightings.{enum_faults, counted_variants}
use Rattle.describe.proofs.faults.body_faults.Goals as goal

pub enum_faults-requires : goal.enum_faults-requires
enum_faults-requires c = let body = enum_known c.in-Enum.is c.requires.inside_at.1 in
    let group = c.in-Group.ensures in
    let vs = enum_group body _ _ group c.past-inside.ensures in
    let count = counted_variants vs.1 c.requires.inside_at.2 c.requires.inside_at.3 in
    record { inside_at = (vs.0, vs.2, count.0); count_bound = count.1; s_len_bound = c.requires.s_len_bound }

pub returns-in_default : goal.returns-in_default
returns-in_default c = λ b k. faults_none (struct_faultless (struct_known c.in_default.is k))

pub returns-in_default-peek : goal.returns-in_default-peek
returns-in_default-peek c = λ b k.
    faults_none (enum_faultless c.peek.result
    (record { stands = c.peek.ensures; none = c.in_default-peek.not-Group }) (enum_known c.in-Enum.is k))

pub returns : goal.returns
returns c = let group = c.in-Group.ensures in
    let inside =
    inside-point c.args.s.now c.args.d.body c.past-inside.result c.in-Group.t group c.past-inside.ensures in
    λ b k.
    let vs = enum_group (enum_known c.in-Enum.is k) _ _ group c.past-inside.ensures in
    enum_faults inside vs.1 (c.enum_faults.ensures vs.0 vs.2)

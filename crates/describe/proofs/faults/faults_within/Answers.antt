use Rattle.describe.proofs.Sightings.{empty_tables}
use Rattle.describe.proofs.faults.faults_within.Goals as goal

pub variant_faults-requires : goal.variant_faults-requires
variant_faults-requires g c =
    let vs = c.requires.inside_at in
    record {
      inside_at = (vs.0, vs.1, empty_tables c.args.s.now g.row.ROOM c.requires.words c.requires.room_bound vs.2);
      s_len_bound = c.requires.s_len_bound;
    }

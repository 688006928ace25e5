use native.Mathlib.Omega.{arith}
use mathlib.Core.Path.{◌≡◌}
use Rattle.output.proofs.Writers.{begun, then}
use Rattle.tagged_attribute.specs.Reported.{Reported}
use Rattle.tagged_attribute.proofs.Reports.{read_as, reported_at, reported_none, reported_read, reported_refused}
use Rattle.tagged_attribute.proofs.listing.report_tagged.Goals.{in-Ok-Some, in-Ok-None, in-Err}
use Rattle.tagged_attribute.proofs.listing.report_tagged.Goals as goal

pub returns : goal.returns
returns c =
    let told = c.match-parse_tagged_attribute.w in
    let new = c.new-w.ensures.put in
    let done : (told.out.ghost_name ≡ c.new-w.result.out.ghost_name)
    × Reported c.args.prefix.now c.args.list.now c.args.roles.now c.parse_tagged_attribute.new.roles c.args.out.now
    told.out.now told.at =
    elim c.match-parse_tagged_attribute.branch [
      | in-Ok-Some w ↦
          let answered = rw w.in-Ok-Some.field-0-is at w.in-Ok-Some.ensures.answered in
          let read = read_as _ _ _ answered.answer in
          let lines = then w.bytes.ensures (w.put_entries.ensures read.es read.of.roles read.of.same) in
          rw w.w-is (lines.same_output, reported_read answered read (begun new lines))
      | in-Ok-None w ↦
          let line = w.bytes-in-Ok-None.ensures in
          rw w.w-is (
            line.same_output,
            reported_none (rw w.in-Ok-None.field-0-is at w.in-Ok-None.ensures.answered)
                (begun new line),
          )
      | in-Err w ↦
          let text = w.refusal.ensures in
          rw w.w-is (
            text.writes.same_output,
            reported_refused w.in-Err.ensures.answered text.upper_bound (begun new text.writes),
          )
    ] in
    reported_at (grind arith) done.1

use Rattle.place_pass.proofs.NotedMarksLemmas.{noted_set, clear_or, lent_there, written_mark}
use Rattle.place_pass.proofs.marks.Marks.put.Goals as goal

pub invariant_of-self : goal.invariant_of-self
invariant_of-self c =
    let items = c.self.inside.marks.items in
    let n = c.args.machine in (
      noted_set items n c.args.mark c.self.inside.keys c.put.new.self c.number_of_mark-key.result c.self.inside.until c.put.ensures (lent_there items c.args.self.now c.self.view_is n c.requires) c.self.invariant.0 c.number_of_mark-key.ensures.above c.number_of_mark-key.ensures.never,
      clear_or items c.args.self.now c.self.view_is n c.requires c.args.mark c.self.inside.noted c.notes_any.result c.self.invariant.1 c.notes_any.ensures,
    )

pub returns-clause-marks : goal.returns-clause-marks
returns-clause-marks c = written_mark c.self.inside.marks.items c.args.self.now c.self.view_is c.args.machine c.requires c.args.mark

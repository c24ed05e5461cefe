use Rattle.std.proofs.Common.{ap}
use Rattle.std.proofs.lemmas.Result.{on_ok_weaker}
use Rattle.work_plan.specs.Crews.{workers_of}
use Rattle.work_plan.proofs.settle.settle_unit.Goals as goal

pub returns : goal.returns
returns c = on_ok_weaker c.push_changed.result (λ changes. record {
  runs = c.settle.ensures.runs;
  units = λ u ne. ap workers_of (c.settle.ensures.units u ne);
  others = c.settle.ensures.others;
  admitted = c.settle.ensures.admitted;
  distinct = c.running-running.ensures.distinct;
  ran = c.marks-before.result;
  run = c.marks-after.result;
  marks_before = c.marks-before.ensures;
  marks_after = c.marks-after.ensures;
  changes = changes;
}) c.push_changed.ensures

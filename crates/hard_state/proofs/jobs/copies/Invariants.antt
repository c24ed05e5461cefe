use Rattle.std.proofs.Common.{◌≡◌, ◌≤◌, map, take, vec_capacity}
use Rattle.hard_state.specs.HardFiles.{known_job}
use Rattle.hard_state.proofs.jobs.copies.Given as goal

abbrev pub invariant-loop-entry : goal.invariant-loop-entry
invariant-loop-entry l = record {
  same : map known_job l.copies.items ≡ take l.entry-index (map known_job l.jobs);
  room : 256 ≤ vec_capacity l.copies;
}

-- A run that began with no line has taken none.
use Rattle.std.proofs.Common.{List, ℕ, [], Option, None, Some, IfSome, inl, refl, arith}
use Rattle.fuxi_terms.proofs.AppendsLemmas.{appends_none}
use Rattle.fuxi_io.specs.declared.status.Status.TheVariants.{OutOfMemory}
use Rattle.schedule_replay.specs.ScheduleRuns.{read_from, Ended}

pub untouched : (source took : Option (List ℕ)) → IfSome source (λ bytes. Ended (read_from 0) bytes OutOfMemory source took took)
untouched None took = tt
untouched (Some bytes) took = record {
  lines = [];
  behind = bytes;
  cut = refl;
  ahead = [];
  gave = refl;
  few = omega arith;
  writes = inl (record { part = 0; writes = appends_none took });
}

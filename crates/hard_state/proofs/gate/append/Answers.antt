use Rattle.hard_state.proofs.MomentsLemmas.{first_fails, then_ends}
use Rattle.hard_state.proofs.Runs.{append_fails, append_ends}
use Rattle.hard_state.proofs.gate.append.Goals as goal

pub returns-in-Err-clause-told : goal.returns-in-Err-clause-told
returns-in-Err-clause-told g c =
    append_fails c.args.gate c.args.bytes.now _ c.requires.gate _ _ c.in-Err.failed (g.met.D.Disk.measured c.args.disk.now) c.in-Err.ensures.told

pub returns-clause-told : goal.returns-clause-told
returns-clause-told g c =
    append_ends c.args.gate c.args.bytes.now _ c.requires.gate _ _ _ c.write_through-2.result (g.met.D.Disk.measured c.args.disk.now) c.in-Ok.ensures.told c.write_through-2.ensures.told

pub returns-in-Err-clause-calls : goal.returns-in-Err-clause-calls
returns-in-Err-clause-calls g c = first_fails c.args.gate c.args.bytes.now _ _ c.in-Err.failed c.in-Err.ensures.told

pub returns-clause-calls : goal.returns-clause-calls
returns-clause-calls g c = then_ends c.args.gate c.args.bytes.now _ _ _ c.write_through-2.result c.in-Ok.ensures.told c.write_through-2.ensures.told

use Rattle.spec_refinement.proofs.MastersJoin.{master_hears_alike, master_commands_alike, master_turn_alike, master_resync_alike, master_start_alike}
use Rattle.spec_refinement.proofs.law.masters_join.Goals as goal

pub returns : goal.returns
returns c = record {
  hears = λ excess w M which x there s to leads. master_hears_alike excess w M which x there s to leads;
  commands = λ w e M x s found. master_commands_alike w e M x s found;
  turns = λ w M s. master_turn_alike w M s;
  resyncs = λ w M s. master_resync_alike w M s;
  starts = λ w h ran e s none. master_start_alike w h ran e s none;
}

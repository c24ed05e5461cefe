use Rattle.spec_refinement.proofs.AppsJoin.{app_hears_alike, asks_alike, app_turn_alike, app_resync_alike, app_start_alike}
use Rattle.spec_refinement.proofs.law.apps_join.Goals as goal

pub returns : goal.returns
returns c = record {
  hears = λ w a g which x there s joined leads. app_hears_alike w a g which x there s joined leads;
  asks = λ w a g x s found. asks_alike w a g x s found;
  turns = λ w a g s. app_turn_alike w a g s;
  resyncs = λ w a g s. app_resync_alike w a g s;
  starts = λ w a b s none. app_start_alike w a b s none;
}

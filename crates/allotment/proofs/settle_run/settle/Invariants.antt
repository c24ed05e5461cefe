use Rattle.std.proofs.Common.{◌≡◌, true, map}
use Rattle.fuxi_terms.specs.Cluster.{ClusterRecord}
use Rattle.spec_roles.specs.Masters.{Master}
use Rattle.grant_table.specs.GrantTables.{IsSound}
use Rattle.place_pass.specs.Best.{spot_of}
use Rattle.place_pass.specs.Placers.{IsLevelWith, IsUpToDate, told_of}
use Rattle.allotment.specs.PlacingReads.{IsPlacing}
use Rattle.allotment.specs.SettlingRuns.{IsSettling, AreTouched, all_out}
use Rattle.allotment.proofs.settle_run.settle.Given as goal

abbrev pub invariant-loop-pick : goal.invariant-loop-pick
invariant-loop-pick g l = record {
  level : IsLevelWith l.placer l.table;
  sound : IsSound l.table;
  up : IsUpToDate l.placer.seen l.table;
  settling : (c : ClusterRecord) (M : Master) → IsPlacing l.initial.table l.initial.placer.seen c M → M.serving ≡ true → IsSettling l.table l.placer.seen c M;
  turns : l.placer.seen.turns ≡ l.initial.placer.seen.turns;
  table : l.table ≡ record l.initial.table { entries = l.table.entries };
  idle : l.initial.placer.idle ≡ true → l.steps ≡ l.initial.steps;
  none : l.initial.placer.idle ≡ true → l.picks.items ≡ l.initial.picks.items;
  same_table : l.initial.placer.idle ≡ true → l.table ≡ l.initial.table;
  same_placer : l.initial.placer.idle ≡ true → told_of l.placer ≡ told_of l.initial.placer;
  touched : AreTouched l.initial.table.entries l.table.entries (map spot_of l.initial.picks.items) (map spot_of l.picks.items);
}

abbrev pub decreases-loop-pick : goal.decreases-loop-pick
decreases-loop-pick g l = all_out l.table l.placer.seen

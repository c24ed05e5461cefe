use Rattle.std.proofs.Common.{◌≡◌, ◌≤◌, ◌++◌, length, map, take, drop}
use Rattle.std.specs.Option.{option_map}
use Rattle.fuxi_master.specs.Resyncs.{app_forgotten}
use Rattle.fuxi_master.proofs.sending.resync_apps.Given as goal

abbrev pub invariant-loop-number : goal.invariant-loop-number
invariant-loop-number l = record {
  within : l.number ≤ length l.fn.apps.items;
  now : l.apps.items ≡ map (option_map app_forgotten) (take l.number l.fn.apps.items) ++ drop l.number l.fn.apps.items;
}

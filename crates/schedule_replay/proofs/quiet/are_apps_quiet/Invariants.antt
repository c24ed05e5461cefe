use Rattle.std.proofs.Common.{◌≡◌, ◌<◌, ℕ, true}
use Rattle.std.specs.Ordering.{nat_cmp}
use Rattle.std.specs.FinMap.Entries.{find}
use Rattle.spec_roles.specs.Masters.{Master}
use Rattle.spec_roles.specs.Refusals.{with_found}
use Rattle.spec_world.specs.World.{World}
use Rattle.spec_world.specs.Quiet.{is_app_quiet}
use Rattle.spec_refinement.specs.SeenWorlds.{master_seen}
use Rattle.fuxi_master.specs.Cores.{StandsFor}
use Rattle.running_parties.specs.Peers.{AreAppsOf}
use Rattle.schedule_replay.proofs.quiet.are_apps_quiet.Given as goal

abbrev pub invariant-loop-number : goal.invariant-loop-number
invariant-loop-number l = (w : World) (m : Master) → StandsFor l.master.core (master_seen w m) → AreAppsOf w l.apps → (k : ℕ) → k < l.number
    → with_found (find nat_cmp k w.apps) true (is_app_quiet w m k) ≡ true

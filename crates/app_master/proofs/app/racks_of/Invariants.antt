use Rattle.std.proofs.Common.{◌≡◌, ℕ, false, length, take, get_or, nat_eq}
use Rattle.std.specs.List.{list_any}
use Rattle.fuxi_terms.specs.Cluster.{MachineRecord}
use Rattle.app_master.proofs.app.racks_of.Given as goal

abbrev pub invariant-loop-number : goal.invariant-loop-number
invariant-loop-number l = record {
  long : length l.racks ≡ 64;
  done : (n : ℕ) → get_or l.racks n false ≡ list_any (λ (m : MachineRecord). nat_eq m.rack n) (take l.number l.cluster.machines);
}

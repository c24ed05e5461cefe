use Rattle.std.proofs.Common.{◌≡◌, ℕ, nat_eq, ◌||◌, List, [], ◌∷◌, map, refl, ap, ◌∙◌, rules, tests}
use Rattle.std.specs.List.{list_any}
use Rattle.std.proofs.lemmas.Iterator.{YieldsList-from_slice}
use Rattle.std.proofs.lemmas.Iterator.Search.{any_from_yields_List}
use Rattle.fuxi_terms.specs.Cluster.{ClusterRecord, MachineRecord, has_rack}
use Rattle.cluster_desc.specs.declared.cluster.Machine.{Machine}
use Rattle.cluster_desc.specs.Records.{machine_record}
use Rattle.cluster_desc.proofs.cluster.Cluster.has_rack.Goals as goal

any_stands : (resources r : ℕ) (ms : List Machine) → list_any (λ (m : Machine). nat_eq m.rack.0 r) ms ≡ list_any (λ (m : MachineRecord). nat_eq m.rack r) (map (machine_record resources) ms)
any_stands resources r [] = refl
any_stands resources r (m ∷ ms) = ap (λ b. nat_eq m.rack.0 r || b) (any_stands resources r ms)

pub returns : goal.returns
returns c =
    any_from_yields_List (λ (m : Machine). nat_eq m.rack.0 c.args.rack.0) _ _ _ c.any.ensures.ran (YieldsList-from_slice c.self.inside.machines.items cc) (λ x b q k. search (rules, tests))
    ∙ any_stands c.self.inside.resources c.args.rack.0 c.self.inside.machines.items
    ∙ ap (λ (d : ClusterRecord). has_rack d c.args.rack.0) c.self.view_is

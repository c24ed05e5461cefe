use Rattle.std.proofs.Common.{◌∷◌, ◌++◌, [], List, sym, ap, ◌∙◌, ℕ}
use Rattle.locality_tree.proofs.ClusterLemmas.{next_rack}
use Rattle.locality_tree.proofs.tree.racks_of.Goals as goal

pub loop-number-preserved : goal.loop-number-preserved
loop-number-preserved c =
    c.in_ok-push.ensures.items
    ∙ ap (λ (racks : List ℕ). racks ++ c.machine.result.now.rack.0 ∷ []) c.loop-number.invariant
    ∙ sym (next_rack c.args.cluster.now.machines c.loop-number.number c.machine.result.now c.machine.ensures)

use Rattle.std.proofs.Common.{take, [], ◌∷◌}
use Rattle.std.specs.List.{flat_map}
use Rattle.spec_refinement.specs.States.{row_line}
use Rattle.party_text.specs.Texts.{Shows}
use Rattle.party_text.proofs.agent.write_rows.Given as goal

abbrev pub invariant-loop-index : goal.invariant-loop-index
invariant-loop-index l = Shows (flat_map (λ e. row_line l.machine.0 e ∷ []) (take l.index l.table)) l.initial.out.items l.out.items

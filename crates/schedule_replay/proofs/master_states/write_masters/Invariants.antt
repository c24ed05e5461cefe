use Rattle.std.proofs.Common.{take}
use Rattle.std.specs.List.{flat_map}
use Rattle.std.specs.Map.{keys_of}
use Rattle.spec_world.specs.World.{World}
use Rattle.party_text.specs.Texts.{Shows}
use Rattle.running_parties.specs.RunningMasters.{AreMastersOf}
use Rattle.schedule_replay.specs.Parts.{epoch_lines}
use Rattle.schedule_replay.proofs.Loops.{Printed}
use Rattle.schedule_replay.proofs.master_states.write_masters.Given as goal

abbrev pub invariant-loop-place : goal.invariant-loop-place
invariant-loop-place l = Printed ((w : World) → AreMastersOf w l.masters → Shows (flat_map (epoch_lines w) (take l.place (keys_of l.masters.slots))) l.initial.out.items l.out.items) l.initial.out.items l.out.items

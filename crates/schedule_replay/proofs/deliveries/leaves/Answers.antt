use Rattle.std.proofs.Common.{◌≡◌, Some, refl, subst}
use Rattle.std.specs.Prelude.{IfSome}
use Rattle.party_ledgers.specs.Packets.{IsFormed}
use Rattle.party_ledgers.specs.PacketHeaders.{header_of}
use Rattle.party_ledgers.specs.declared.packets.Packet.{Packet}
use Rattle.schedule_unit.specs.declared.party.Role.TheVariants.{Master, Agent, App}
use Rattle.schedule_replay.specs.Worlds.{WorldRecord}
use Rattle.schedule_replay.specs.Moves.{HearsIn}
use Rattle.schedule_replay.proofs.HeardInWorld.{left_by, names, number_named}
use Rattle.schedule_replay.proofs.deliveries.leaves.Goals as goal

pub returns-in-Master : goal.returns-in-Master
returns-in-Master c =
    let h = c.args.header.now in
    let old : WorldRecord = record { cluster = c.running.inside.cluster; checkpoint = c.running.inside.checkpoint; masters = c.running.inside.masters; agents = c.running.inside.agents; apps = c.running.inside.apps; pool = c.running.inside.pool; events = c.running.inside.events } in
    subst (λ r. IfSome c.leaves.result (λ t. (x : Packet) → IsFormed x → header_of x ≡ h → HearsIn x r r (Some t))) c.running.view_is
    (left_by c.masters_act.ensures.acts c.every_change_is_taken.ensures.good (number_named Master h.to) h old refl (names Master h c.in-Master.is) c.leaves.result c.leaves.ensures)

pub returns-in-Agent : goal.returns-in-Agent
returns-in-Agent c =
    let h = c.args.header.now in
    let old : WorldRecord = record { cluster = c.running.inside.cluster; checkpoint = c.running.inside.checkpoint; masters = c.running.inside.masters; agents = c.running.inside.agents; apps = c.running.inside.apps; pool = c.running.inside.pool; events = c.running.inside.events } in
    subst (λ r. IfSome c.leaves-in-Agent.result (λ t. (x : Packet) → IsFormed x → header_of x ≡ h → HearsIn x r r (Some t))) c.running.view_is
    (left_by c.agents_act.ensures c.every_change_is_taken.ensures.good (number_named Agent h.to) h old refl (names Agent h c.in-Agent.is) c.leaves-in-Agent.result c.leaves-in-Agent.ensures)

pub returns-in-App : goal.returns-in-App
returns-in-App c =
    let h = c.args.header.now in
    let old : WorldRecord = record { cluster = c.running.inside.cluster; checkpoint = c.running.inside.checkpoint; masters = c.running.inside.masters; agents = c.running.inside.agents; apps = c.running.inside.apps; pool = c.running.inside.pool; events = c.running.inside.events } in
    subst (λ r. IfSome c.leaves-in-App.result (λ t. (x : Packet) → IsFormed x → header_of x ≡ h → HearsIn x r r (Some t))) c.running.view_is
    (left_by c.apps_act.ensures c.every_change_is_taken.ensures.good (number_named App h.to) h old refl (names App h c.in-App.is) c.leaves-in-App.result c.leaves-in-App.ensures)

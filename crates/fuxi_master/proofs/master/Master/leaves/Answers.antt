use Rattle.std.proofs.Common.{◌≡◌, ◌∙◌, ap, subst}
use Rattle.std.specs.Prelude.{IfSome}
use Rattle.party_ledgers.specs.Packets.{IsFormed}
use Rattle.party_ledgers.specs.PacketHeaders.{header_of}
use Rattle.party_ledgers.specs.declared.packets.Packet.{Packet}
use Rattle.fuxi_master.specs.Cores.{CoreRecord, MasterRecord}
use Rattle.fuxi_master.specs.Seen.{core_of}
use Rattle.fuxi_master.specs.Steps.{StepsAlike}
use Rattle.fuxi_master.specs.declared.event.MasterEvent.TheVariants.{Packet as PacketComes}
use Rattle.fuxi_master.specs.declared.event.Outcome.TheVariants.{Heard as HeardOne}
use Rattle.fuxi_master.proofs.Left.{left_one}
use Rattle.fuxi_master.proofs.master.Master.leaves.Goals as goal

pub returns : goal.returns
returns c =
    subst (λ (x : CoreRecord). IfSome c.leaves.result (λ t. (p : Packet) → IsFormed p → header_of p ≡ c.args.header.now → StepsAlike (PacketComes p) x x (HeardOne t))) (ap core_of c.deref.ensures ∙ ap (λ (m : MasterRecord). m.core) c.self.view_is)
    (left_one (core_of c.deref.result.now) c.args.header.now c.leaves.result c.leaves.ensures)

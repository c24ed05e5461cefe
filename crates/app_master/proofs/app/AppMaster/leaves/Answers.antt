use Rattle.std.proofs.Common.{◌≡◌, sym, ◌∙◌, ap, subst}
use Rattle.std.specs.Prelude.{IfSome}
use Rattle.party_ledgers.specs.Packets.{IsFormed}
use Rattle.party_ledgers.specs.PacketHeaders.{header_of}
use Rattle.party_ledgers.specs.declared.packets.Packet.{Packet}
use Rattle.app_master.specs.AppSeen.{core_of}
use Rattle.app_master.specs.AppPackets.{HearsAlike}
use Rattle.app_master.proofs.AppCoresLemmas.{left_as}
use Rattle.app_master.proofs.app.AppMaster.leaves.Goals as goal

pub returns : goal.returns
returns c =
    subst (λ a. IfSome c.leaves.result (λ t. (x : Packet) → IsFormed x → header_of x ≡ c.args.header.now → HearsAlike a x (a, t))) (ap core_of c.deref.ensures ∙ c.self.view_is)
    (left_as (core_of c.deref.result.now) c.deref-2.result.now.up c.args.header.now (ap (λ k. k.up) (c.deref-2.ensures ∙ sym c.deref.ensures)) (sym c.is_for.ensures ∙ c.if-not-is_for.false) c.leaves.result c.leaves.ensures.known c.leaves.ensures.hears)

use Rattle.std.proofs.Common.{◌≡◌, true, Some, subst}
use Rattle.std.specs.Prelude.{IfSome}
use Rattle.fuxi_terms.specs.Tallies.{ChangeRecord}
use Rattle.party_ledgers.specs.declared.packets.Body.TheVariants.{DemandDelta}
use Rattle.fuxi_master.specs.Seen.{core_of}
use Rattle.fuxi_master.proofs.AgentHeardAlike.{to_master}
use Rattle.fuxi_master.proofs.AppHeard.{app_heard}
use Rattle.fuxi_master.proofs.DemandTaken.{slot_at, slot_there}
use Rattle.fuxi_master.proofs.state.Core.hear_app.Goals as goal

pub unreachable-requires : goal.unreachable-requires
unreachable-requires c =
    slot_there (core_of c.args.self.now) c.requires.core.near.kept c.args.packet.from.number c.requires.known c.index_mut.result.now c.index_mut.ensures.value c.in_default.is

pub returns : goal.returns
returns c =
    let x = core_of c.args.self.now in
    let a = c.args.packet.from.number in
    let told = c.in_ok-told in
    let at = slot_at x c.requires.core.near.kept a c.requires.known c.index_mut.result.now (Some c.in-Some.side) c.index_mut.ensures.value c.in-Some.is in
    app_heard x c.requires.core a c.in-Some.side c.hear.new.side c.args.packet told.told.0 at c.requires.known told.ensures.hears told.ensures.outgoing (to_master c.args.packet c.requires.to c.requires.zero) told.ensures.fresh told.ensures.peer
    told.told.1 (subst (λ b. IfSome told.told.1 (λ (change : ChangeRecord). (b ≡ true) × (c.args.packet.body ≡ DemandDelta change))) c.counts-counted.ensures told.ensures.change)

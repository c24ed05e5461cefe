use Rattle.std.proofs.Common.{refl, sym, subst}
use Rattle.fuxi_master.specs.Seen.{core_of}
use Rattle.fuxi_master.specs.Steps.{IsStep}
use Rattle.fuxi_master.specs.declared.event.MasterEvent.{MasterEvent}
use Rattle.fuxi_master.specs.declared.event.MasterEvent.TheVariants.{Packet as PacketComes}
use Rattle.fuxi_master.specs.declared.event.Outcome.TheVariants.{Done, Sent, Heard as HeardOne}
use Rattle.fuxi_master.proofs.StepsLemmas.{wider}
use Rattle.fuxi_master.proofs.AnswersAlike.{heard_one, sent_all, sent_one}
use Rattle.fuxi_master.proofs.state.Core.step.Goals as goal

pub returns-in_ok-heard-in-Packet : goal.returns-in_ok-heard-in-Packet
returns-in_ok-heard-in-Packet c =
    let x = core_of c.args.self.now in
    let y = core_of c.hear.new.self in
    let heard = c.in_ok-heard-in-Packet.heard in
    let one = heard_one c.in-Packet.packet c.args.steps x y heard c.in_ok-heard-in-Packet.ensures in
    let told = subst (λ h. IsStep (PacketComes c.in-Packet.packet) c.args.steps x y (HeardOne h)) (sym c.heard-in-Packet.ensures) one in
    subst (λ (event : MasterEvent). IsStep event c.args.steps x y (HeardOne c.heard-in-Packet.result)) (sym c.in-Packet.is) told

pub unreachable-requires : goal.unreachable-requires
unreachable-requires c = c.requires.other c.in-Admit.field-0 c.in-Admit.is

pub returns-in_ok-packets-in-Turn : goal.returns-in_ok-packets-in-Turn
returns-in_ok-packets-in-Turn c =
    let x = core_of c.args.self.now in
    let packets = c.in_ok-packets-in-Turn.packets in
    let sent = c.in_ok-packets-in-Turn.ensures in
    subst (λ (event : MasterEvent). IsStep event c.args.steps x x (Sent packets)) (sym c.in-Turn.is) (sent_all c.args.steps x packets c.requires.core c.requires.within sent.sends sent.formed)

pub returns-in_ok-packets-in-TurnTo : goal.returns-in_ok-packets-in-TurnTo
returns-in_ok-packets-in-TurnTo c =
    let x = core_of c.args.self.now in
    let packets = c.in_ok-packets-in-TurnTo.packets in
    let sent = c.in_ok-packets-in-TurnTo.ensures in
    subst (λ (event : MasterEvent). IsStep event c.args.steps x x (Sent packets)) (sym c.in-TurnTo.is) (sent_one c.args.steps x c.in-TurnTo.peer packets c.requires.core c.requires.within sent.sends sent.formed)

pub returns-in-Resync : goal.returns-in-Resync
returns-in-Resync c =
    let x = core_of c.args.self.now in
    let y = core_of c.resync.new.self in
    let forgets = c.resync.ensures in
    subst (λ (event : MasterEvent). IsStep event c.args.steps x y Done) (sym c.in-Resync.is) (record {
      core = forgets.core;
      within = wider c.args.steps y (forgets.within c.args.steps c.requires.within);
      answers = λ r h. record { role = forgets.stands r h; says = refl };
      formed = tt;
    })

use Rattle.std.proofs.Common.{rules, inl, inr, ◌≡◌, ◌≤◌, length, false, ap, subst, sym, ◌∙◌}
use Rattle.fuxi_terms.specs.Jobs.{is_known}
use Rattle.spec_roles.specs.MasterSteps.{talks}
use Rattle.peer_channel.specs.Parcels.{id_of}
use Rattle.fuxi_master.specs.Seen.{core_of}
use Rattle.fuxi_master.specs.Steps.{HearsRole}
use Rattle.fuxi_master.proofs.StepsLemmas.{wider, stranger_hears, agent_unknown, app_unknown}
use Rattle.fuxi_master.proofs.state.Core.hear.Goals as goal

pub returns-then-not-is_for_master : goal.returns-then-not-is_for_master
returns-then-not-is_for_master c =
    let x = core_of c.args.self.now in
    let off : c.is_for_master.result ≡ false = search rules in
    record {
      core = c.requires.core;
      within = wider c.args.steps x c.requires.within;
      hears = λ r h. subst (λ heard. HearsRole c.args.packet x heard r) (sym c.stranger.ensures) (stranger_hears c.step_ends.ensures c.strangers_change_nothing.ensures x c.requires.core c.args.packet (inl (sym c.is_for_master.ensures ∙ off)) r h);
    }

pub returns-then-packet-machines : goal.returns-then-packet-machines
returns-then-packet-machines c =
    let x = core_of c.args.self.now in
    let a = c.args.packet.from.number in
    let ge : length x.allotment.table.cluster.machines ≤ a = search rules in
    record {
      core = c.requires.core;
      within = wider c.args.steps x c.requires.within;
      hears = λ r h. subst (λ heard. HearsRole c.args.packet x heard r) (sym c.stranger-then-packet-machines.ensures) (stranger_hears c.step_ends.ensures c.strangers_change_nothing.ensures x c.requires.core c.args.packet
          (inr (λ r h. ap (λ q. talks r.cluster r.state (id_of q a)) c.in-Agent.is ∙ agent_unknown x r h a ge)) r h);
    }

pub returns-then-is_none : goal.returns-then-is_none
returns-then-is_none c =
    let x = core_of c.args.self.now in
    let a = c.args.packet.from.number in
    let unknown : is_known x.known.jobs a ≡ false = search rules in
    record {
      core = c.requires.core;
      within = wider c.args.steps x c.requires.within;
      hears = λ r h. subst (λ heard. HearsRole c.args.packet x heard r) (sym c.stranger-then-is_none.ensures) (stranger_hears c.step_ends.ensures c.strangers_change_nothing.ensures x c.requires.core c.args.packet
          (inr (λ r h. ap (λ q. talks r.cluster r.state (id_of q a)) c.in-App.is ∙ app_unknown x r h a unknown)) r h);
    }

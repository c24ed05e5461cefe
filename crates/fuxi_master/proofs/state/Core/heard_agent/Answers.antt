use Rattle.std.proofs.Common.{rules, ◌≡◌, true, false, ap}
use Rattle.peer_channel.specs.Parcels.{id_of}
use Rattle.fuxi_master.specs.Seen.{core_of}
use Rattle.fuxi_master.proofs.StepsLemmas.{wider, has_role, agent_quiet, agent_adopted, agent_talks, few_turns}
use Rattle.fuxi_master.proofs.state.Core.heard_agent.Goals as goal

pub returns-then-not-due : goal.returns-then-not-due
returns-then-not-due c =
    let x = core_of c.args.self.now in
    let y = core_of c.hear_agent.new.self in
    let e = c.in_ok-heard.ensures in
    let m = c.args.packet.from.number in
    let off : c.in_ok-heard.due ≡ false = search rules in
    record {
      core = e.core;
      within = wider c.args.steps y (e.within c.args.steps c.requires.within);
      hears = λ r h. agent_quiet c.step_ends.ensures y e.core m c.args.packet c.in_ok-heard.heard c.in_ok-heard.due r (e.hears r h) off (ap (λ q. id_of q m) c.requires.from) (agent_talks x r h m c.requires.machine);
    }

pub adopt_report-requires-clause-turns : goal.adopt_report-requires-clause-turns
adopt_report-requires-clause-turns c = few_turns c.args.steps (core_of c.hear_agent.new.self) (c.in_ok-heard.ensures.within c.args.steps c.requires.within) c.requires.steps

pub adopt_report-requires-clause-due : goal.adopt_report-requires-clause-due
adopt_report-requires-clause-due c = c.in_ok-heard.ensures.waits (search rules)

pub end_step-requires-clause-role : goal.end_step-requires-clause-role
end_step-requires-clause-role c = has_role c.in_ok-news.news _ (core_of c.hear_agent.new.self) (core_of c.adopt_report.new.self) c.in_ok-heard.ensures.core.near c.in_ok-news.ensures.changes (record { told = c.in_ok-heard.ensures.core.told.told; credits = c.in_ok-heard.ensures.core.told.credits })

pub end_step-requires-clause-within : goal.end_step-requires-clause-within
end_step-requires-clause-within c = c.in_ok-news.ensures.changes.within c.args.steps (c.in_ok-heard.ensures.within c.args.steps c.requires.within)

pub returns : goal.returns
returns c =
    let x = core_of c.args.self.now in
    let y = core_of c.hear_agent.new.self in
    let e = c.in_ok-heard.ensures in
    let m = c.args.packet.from.number in
    let a = c.in_ok-news.ensures in
    let on : c.in_ok-heard.due ≡ true = search rules in
    record {
      core = c.in_ok-end_step.ensures.core;
      within = c.in_ok-end_step.ensures.within;
      hears = λ r h. agent_adopted c.step_ends.ensures y (core_of c.adopt_report.new.self) (core_of c.end_step.new.self) (record { 0 = m }) c.args.packet c.in_ok-heard.heard c.in_ok-heard.due c.in_ok-news.news r (e.hears r h) on
          (ap (λ q. id_of q m) c.requires.from) (agent_talks x r h m c.requires.machine) a.named a.changes a.lined c.in_ok-end_step.ensures.ends;
    }

use Rattle.std.proofs.Common.{rules, sym, ◌∙◌}
use Rattle.fuxi_master.specs.Seen.{core_of}
use Rattle.fuxi_master.proofs.Left.{agent_left, app_left}
use Rattle.fuxi_master.proofs.state.Core.leaves.Goals as goal

pub returns-else-number-machines : goal.returns-else-number-machines
returns-else-number-machines c =
    agent_left c.step_ends.ensures (core_of c.args.self.now) c.requires.core c.args.header.now (sym c.is_for_master.ensures ∙ c.if-not-is_for_master.false) c.in-Agent.is (search rules) c.agent.result.now c.agent.ensures.there c.leaves.result c.leaves.ensures.left c.leaves.ensures.hears

pub returns-in_ok-job-in-App : goal.returns-in_ok-job-in-App
returns-in_ok-job-in-App c =
    app_left c.step_ends.ensures (core_of c.args.self.now) c.requires.core c.args.header.now (sym c.is_for_master.ensures ∙ c.if-not-is_for_master.false) c.in-App.is (search rules) c.app.result.now c.app.ensures.there c.leaves-in-App.result c.leaves-in-App.ensures.known c.leaves-in-App.ensures.left c.leaves-in-App.ensures.hears

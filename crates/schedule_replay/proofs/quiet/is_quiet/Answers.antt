use Rattle.std.proofs.Common.{ℕ, length, refl, sym, ◌∙◌, ap}
use Rattle.std.specs.Prelude.{◌&&◌}
use Rattle.std.specs.List.{list_all}
use Rattle.fuxi_terms.specs.Cluster.{ClusterRecord}
use Rattle.spec_world.specs.World.{App}
use Rattle.spec_world.specs.Quiet.{is_app_quiet}
use Rattle.schedule_replay.proofs.Peers.{master_runs, not_running, whole}
use Rattle.schedule_replay.proofs.quiet.is_quiet.Goals as goal

pub are_agents_quiet-requires : goal.are_agents_quiet-requires
are_agents_quiet-requires c =
    let of = c.requires.known.of in
    let r = master_runs c.parties_run.ensures.masters c.requires.known.world c.args.masters.now c.args.epoch c.in-Some.master.now of.masters c.in-Some.ensures in
    c.machines.ensures.number ∙ ap (λ (cluster : ClusterRecord). length cluster.machines) (of.cluster ∙ sym r.stands.stands.cluster)

pub returns-then-not-are_agents_quiet : goal.returns-then-not-are_agents_quiet
returns-then-not-are_agents_quiet c w of =
    let r = master_runs c.parties_run.ensures.masters w c.args.masters.now c.args.epoch c.in-Some.master.now of.masters c.in-Some.ensures in
    let apps = list_all (λ (g : ℕ × App). is_app_quiet w r.master g.0 g.1) w.apps in
    ap (λ b. b && apps) (sym c.if-not-are_agents_quiet.true)
    ∙ whole w c.args.epoch r.master c.are_agents_quiet.result apps c.machines.result r.runs
    (c.machines.ensures.number ∙ ap (λ (cluster : ClusterRecord). length cluster.machines) of.cluster)
    (c.are_agents_quiet.ensures w r.master r.stands of.agents) refl

pub returns : goal.returns
returns c w of =
    let r = master_runs c.parties_run.ensures.masters w c.args.masters.now c.args.epoch c.in-Some.master.now of.masters c.in-Some.ensures in
    ap (λ b. b && c.are_apps_quiet.result) (sym c.if-not-are_agents_quiet.false)
    ∙ whole w c.args.epoch r.master c.are_agents_quiet.result c.are_apps_quiet.result c.machines.result r.runs
    (c.machines.ensures.number ∙ ap (λ (cluster : ClusterRecord). length cluster.machines) of.cluster)
    (c.are_agents_quiet.ensures w r.master r.stands of.agents) (c.are_apps_quiet.ensures w r.master of.good r.stands of.apps of.order.apps)

pub returns-in_default : goal.returns-in_default
returns-in_default c w of = not_running c.parties_run.ensures.masters w c.args.masters.now c.args.epoch of.masters c.in_default.ensures

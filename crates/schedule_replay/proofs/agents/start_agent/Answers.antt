use Rattle.std.proofs.Common.{◌≡◌, ◌<◌, true, false, length, sym, ◌∙◌, ap, subst, arith}
use Rattle.std.proofs.lemmas.Bool.Decides.{nat_tests}
use Rattle.fuxi_terms.specs.Cluster.{ClusterRecord, has_machine, machine_of}
use Rattle.fuxi_terms.specs.Padded.{padded}
use Rattle.running_parties.specs.Slots.{boot_at}
use Rattle.running_parties.specs.Peers.{agent_steps}
use Rattle.spec_net.specs.Channels.{agent_id}
use Rattle.spec_roles.specs.Refusals.{NotRising}
use Rattle.spec_world.specs.World.{refused}
use Rattle.spec_world.specs.Events.{start_agent}
use Rattle.schedule_text.specs.declared.refusal.Refusal.TheVariants as why
use Rattle.schedule_replay.specs.Worlds.{WorldRecord}
use Rattle.schedule_replay.specs.Moves.{Acts, IsActed}
use Rattle.schedule_replay.proofs.PeersActInWorld.{acts_by, refuses, agent_beyond, agent_too_low, agent_starts, has_as}
use Rattle.schedule_replay.proofs.MovesLemmas.{once_up_to, agents_once, parties_still}
use Rattle.schedule_replay.proofs.agents.start_agent.Goals as goal
use Rattle.schedule_replay.proofs.agents.start_agent.Goals.{in-Ok, in-Err}

pub returns-then-machine-machines : goal.returns-then-machine-machines
returns-then-machine-machines c =
    let now = c.args.running.now in
    let m = c.args.machine.0 in
    let b = c.args.boot in
    acts_by (λ w. start_agent w m b) now now c.args.out.now.items c.write_refusal.new.out.items _ c.write_refusal.result c.write_refusal.ensures.ok c.write_refusal.ensures.err
    (refuses (λ w. start_agent w m b) now why.NoMachine c.args.out.now.items c.write_refusal.new.out.items (λ w is s.
    let n = c.machines.ensures.number ∙ ap (λ (r : WorldRecord). length r.cluster.machines) c.running.view_is ∙ ap (λ (d : ClusterRecord). length d.machines) s.cluster in
    let beyond = c.if-machine-machines.true in
    let none : has_machine w.cluster m ≡ false = grind (arith, nat_tests, n, beyond) in
    agent_beyond w m b none))

pub returns-then-boot-known : goal.returns-then-boot-known
returns-then-boot-known c =
    let now = c.args.running.now in
    let m = c.args.machine.0 in
    let b = c.args.boot in
    acts_by (λ w. start_agent w m b) now now c.args.out.now.items c.write_refusal-then-boot-known.new.out.items _ c.write_refusal-then-boot-known.result c.write_refusal-then-boot-known.ensures.ok c.write_refusal-then-boot-known.ensures.err
    (refuses (λ w. start_agent w m b) now (why.NotRising c.boot-known.result) c.args.out.now.items c.write_refusal-then-boot-known.new.out.items (λ w is s.
    let n = c.machines.ensures.number ∙ ap (λ (r : WorldRecord). length r.cluster.machines) c.running.view_is ∙ ap (λ (d : ClusterRecord). length d.machines) s.cluster in
    let within = c.if-machine-machines.false in
    let there : has_machine w.cluster m ≡ true = grind (arith, nat_tests, n, within) in
    let known : c.boot-known.result ≡ w.boots (agent_id m) = c.boot-known.ensures ∙ ap (λ (r : WorldRecord). boot_at r.agents m) c.running.view_is ∙ sym (s.agents.last m) in
    let low = c.if-boot-known.true in
    agent_too_low w m b there (omega (arith, known, low)) ∙ ap (λ k. refused w (NotRising k)) (sym known)))

pub returns : goal.returns
returns c =
    let old : WorldRecord = record { cluster = c.running.inside.cluster; checkpoint = c.running.inside.checkpoint; masters = c.running.inside.masters; agents = c.running.inside.agents; apps = c.running.inside.apps; pool = c.running.inside.pool; events = c.running.inside.events } in
    let m = c.args.machine.0 in
    let b = c.args.boot in
    let agents = c.start_agent.new.agents in
    elim c.match-start_agent.branch [
      | in-Ok x ↦ subst (λ r. Acts (λ w. start_agent w m b) c.args.running.now (record old { agents = agents }) c.args.out.now.items c.args.out.now.items r) (sym x.result-is)
          (subst (λ r. IsActed (λ w. start_agent w m b) r (record old { agents = agents }) c.args.out.now.items c.args.out.now.items) c.running.view_is (record {
            does = λ w is s.
                let n = c.machines.ensures.number ∙ ap (λ (d : ClusterRecord). length d.machines) s.cluster in
                let within = c.if-machine-machines.false in
                let there : has_machine w.cluster m ≡ true = grind (arith, nat_tests, n, within) in
                let known : c.boot-known.result ≡ w.boots (agent_id m) = c.boot-known.ensures ∙ sym (s.agents.last m) in
                let high = c.if-boot-known.false in
                let later : w.boots (agent_id m) < b = omega (arith, known, high) in
                let has = has_as old.cluster m c.machine.result.now c.machine.ensures ∙ ap (λ (d : ClusterRecord). padded (machine_of d m).has) s.cluster in
                agent_starts c.agents_act.ensures w old m b agents c.args.out.now.items s there later (x.in-Ok.ensures.world w is.good s.agents has later);
            moves = once_up_to old (record old { agents = agents }) (agents_once old agents old.pool (parties_still agent_steps old.agents agents x.in-Ok.ensures.within));
          }))
      | in-Err x ↦ subst (λ r. Acts (λ w. start_agent w m b) c.args.running.now (record old { agents = agents }) c.args.out.now.items c.args.out.now.items r) (sym x.result-is) (λ w is s. tt)
    ]

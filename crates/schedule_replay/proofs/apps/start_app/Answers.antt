use Rattle.std.proofs.Common.{◌≡◌, ◌<◌, true, false, List, refl, sym, ◌∙◌, ap, subst, arith}
use Rattle.fuxi_terms.specs.Jobs.{KnownJob, is_known, has_ended, unit_count}
use Rattle.hard_state.specs.HardFiles.{Kept}
use Rattle.running_parties.specs.Slots.{boot_at}
use Rattle.running_parties.specs.Peers.{app_steps}
use Rattle.spec_net.specs.Channels.{app_id}
use Rattle.spec_roles.specs.HardState.{HardState}
use Rattle.spec_roles.specs.Refusals.{NotRising}
use Rattle.spec_world.specs.World.{refused}
use Rattle.spec_world.specs.Events.{start_app}
use Rattle.schedule_text.specs.declared.refusal.Refusal.TheVariants as why
use Rattle.schedule_replay.specs.Worlds.{WorldRecord}
use Rattle.schedule_replay.specs.Moves.{Acts, IsActed}
use Rattle.schedule_replay.proofs.PeersActInWorld.{acts_by, refuses, app_unknown, app_over, app_too_low, app_starts, job_known, units_as}
use Rattle.schedule_replay.proofs.MovesLemmas.{once_up_to, apps_once, parties_still}
use Rattle.schedule_replay.proofs.apps.start_app.Goals as goal
use Rattle.schedule_replay.proofs.apps.start_app.Goals.{in-Ok, in-Err}

pub returns-in_default : goal.returns-in_default
returns-in_default c =
    let now = c.args.running.now in
    let a = c.args.app.0 in
    let b = c.args.boot in
    acts_by (λ w. start_app w a b) now now c.args.out.now.items c.write_refusal.new.out.items _ c.write_refusal.result c.write_refusal.ensures.ok c.write_refusal.ensures.err
    (refuses (λ w. start_app w a b) now why.NoJob c.args.out.now.items c.write_refusal.new.out.items (λ w is s.
    let same = ap (λ (k : Kept). k.value.jobs) c.hard.ensures ∙ ap (λ (r : WorldRecord). r.checkpoint.hard.value.jobs) c.running.view_is ∙ ap (λ (h : HardState). h.jobs) s.hard in
    app_unknown w a b (subst (λ js. is_known js a ≡ false) same (c.in_default.ensures.none refl))))

pub returns-then-ended : goal.returns-then-ended
returns-then-ended c =
    let now = c.args.running.now in
    let a = c.args.app.0 in
    let b = c.args.boot in
    acts_by (λ w. start_app w a b) now now c.args.out.now.items c.write_refusal-then-ended.new.out.items _ c.write_refusal-then-ended.result c.write_refusal-then-ended.ensures.ok c.write_refusal-then-ended.ensures.err
    (refuses (λ w. start_app w a b) now why.Ended c.args.out.now.items c.write_refusal-then-ended.new.out.items (λ w is s.
    let behind = ap (λ (r : WorldRecord). r.checkpoint.hard.value.jobs) c.running.view_is ∙ ap (λ (h : HardState). h.jobs) s.hard in
    let same = ap (λ (k : Kept). k.value.jobs) c.hard.ensures ∙ behind in
    let same_again = ap (λ (k : Kept). k.value.jobs) c.hard-2.ensures ∙ behind in
    app_over w a b (subst (λ js. is_known js a ≡ true) same (job_known c.hard.result.now.value.jobs a c.in-Some.job.now c.in-Some.ensures.some))
    (subst (λ js. has_ended js a ≡ true) same_again (sym c.ended.ensures ∙ c.if-ended.true))))

pub returns-then-boot-known : goal.returns-then-boot-known
returns-then-boot-known c =
    let now = c.args.running.now in
    let a = c.args.app.0 in
    let b = c.args.boot in
    acts_by (λ w. start_app w a b) now now c.args.out.now.items c.write_refusal-then-boot-known.new.out.items _ c.write_refusal-then-boot-known.result c.write_refusal-then-boot-known.ensures.ok c.write_refusal-then-boot-known.ensures.err
    (refuses (λ w. start_app w a b) now (why.NotRising c.boot-known.result) c.args.out.now.items c.write_refusal-then-boot-known.new.out.items (λ w is s.
    let behind = ap (λ (r : WorldRecord). r.checkpoint.hard.value.jobs) c.running.view_is ∙ ap (λ (h : HardState). h.jobs) s.hard in
    let same = ap (λ (k : Kept). k.value.jobs) c.hard.ensures ∙ behind in
    let same_again = ap (λ (k : Kept). k.value.jobs) c.hard-2.ensures ∙ behind in
    let last : c.boot-known.result ≡ w.boots (app_id a) = c.boot-known.ensures ∙ ap (λ (r : WorldRecord). boot_at r.apps a) c.running.view_is ∙ sym (s.apps.last a) in
    let low = c.if-boot-known.true in
    app_too_low w a b (subst (λ js. is_known js a ≡ true) same (job_known c.hard.result.now.value.jobs a c.in-Some.job.now c.in-Some.ensures.some))
    (subst (λ js. has_ended js a ≡ false) same_again (sym c.ended.ensures ∙ c.if-ended.false)) (omega (arith, last, low))
    ∙ ap (λ k. refused w (NotRising k)) (sym last)))

pub returns : goal.returns
returns c =
    let old : WorldRecord = record { cluster = c.running.inside.cluster; checkpoint = c.running.inside.checkpoint; masters = c.running.inside.masters; agents = c.running.inside.agents; apps = c.running.inside.apps; pool = c.running.inside.pool; events = c.running.inside.events } in
    let a = c.args.app.0 in
    let b = c.args.boot in
    let apps = c.start_app.new.apps in
    elim c.match-start_app.branch [
      | in-Ok x ↦ subst (λ r. Acts (λ w. start_app w a b) c.args.running.now (record old { apps = apps }) c.args.out.now.items c.args.out.now.items r) (sym x.result-is)
          (subst (λ r. IsActed (λ w. start_app w a b) r (record old { apps = apps }) c.args.out.now.items c.args.out.now.items) c.running.view_is (record {
            does = λ w is s.
                let behind = ap (λ (h : HardState). h.jobs) s.hard in
                let same = ap (λ (k : Kept). k.value.jobs) c.hard.ensures ∙ behind in
                let same_again = ap (λ (k : Kept). k.value.jobs) c.hard-2.ensures ∙ behind in
                let last : c.boot-known.result ≡ w.boots (app_id a) = c.boot-known.ensures ∙ sym (s.apps.last a) in
                let high = c.if-boot-known.false in
                let later : w.boots (app_id a) < b = omega (arith, last, high) in
                let units : c.units-units.result ≡ unit_count w.hard.jobs a = c.units-units.ensures.number ∙ units_as c.hard.result.now.value.jobs a c.in-Some.job.now c.in-Some.ensures.some ∙ ap (λ (js : List KnownJob). unit_count js a) same in
                app_starts c.apps_act.ensures w old a b apps c.args.out.now.items s (subst (λ js. is_known js a ≡ true) same (job_known c.hard.result.now.value.jobs a c.in-Some.job.now c.in-Some.ensures.some))
                (subst (λ js. has_ended js a ≡ false) same_again (sym c.ended.ensures ∙ c.if-ended.false)) later (x.in-Ok.ensures.world w is.good s.apps s.cluster units later);
            moves = once_up_to old (record old { apps = apps }) (apps_once old apps old.pool (parties_still app_steps old.apps apps x.in-Ok.ensures.within));
          }))
      | in-Err x ↦ subst (λ r. Acts (λ w. start_app w a b) c.args.running.now (record old { apps = apps }) c.args.out.now.items c.args.out.now.items r) (sym x.result-is) (λ w is s. tt)
    ]

use Rattle.std.proofs.Common.{◌≡◌, ◌-◌, ◌<◌, false, sym, subst, ap, ◌∙◌}
use Rattle.fuxi_terms.specs.Jobs.{is_known}
use Rattle.fuxi_terms.specs.Tables.{held}
use Rattle.fuxi_terms.specs.TallyKeys.{want_key}
use Rattle.spec_roles.specs.HardState.{with_job}
use Rattle.spec_roles.specs.Placing.{has_pair}
use Rattle.grant_table.specs.GrantTables.{TableRecord, as_known}
use Rattle.place_pass.specs.Placers.{SeenRecord}
use Rattle.allotment.specs.PlacingReads.{IsPlacing}
use Rattle.allotment.specs.Allotted.{AllotmentRecord, AllWait}
use Rattle.allotment.proofs.AdmittedStands.{admitted_placing}
use Rattle.allotment.proofs.allotment_of.Allotment.admit.Goals as goal

pub returns-clause-stands : goal.returns-clause-stands
returns-clause-stands c = λ k M h.
    let t = c.self.inside.table in
    let s = c.self.inside.placer.seen in
    let j = c.args.job.now in
    let fresh = subst (λ (x : AllotmentRecord). is_known (as_known x.table.jobs) j.number ≡ false) (sym c.self.view_is) c.requires in
    let old = subst (λ (x : AllotmentRecord). IsPlacing x.table x.placer.seen k M) (sym c.self.view_is) h.placing in
    let rest = c.in_ok-admit-2.ensures.rest in
    record {
      placing = subst (λ (x : TableRecord). IsPlacing x c.admit-2.new.self.seen k (record M { jobs = with_job j M.jobs })) (sym c.in_ok-admit.ensures.ok)
          (admitted_placing c.admitted_jobs.ensures.found t s c.admit-2.new.self.seen k M j old fresh c.in_ok-admit-2.ensures.asks (ap (λ (x : SeenRecord). x.opened) rest) (ap (λ (x : SeenRecord). x.line) rest));
    }

pub returns-clause-waits : goal.returns-clause-waits
returns-clause-waits c = λ w.
    let wait = subst AllWait (sym c.self.view_is) w in
    let line = ap (λ (x : SeenRecord). x.line) c.in_ok-admit-2.ensures.rest in
    let entries = ap (λ (x : TableRecord). x.entries) c.in_ok-admit.ensures.ok in
    record {
      each = λ a u e.
          let some = wait.each a u (ap (has_pair (a, u)) (sym line) ∙ e) in
          let asks = c.in_ok-admit-2.ensures.asks a (want_key u) in
          subst (λ n. 0 < n) (λ i. sym asks i - held (sym entries i) a u) some;
    }

use Rattle.std.proofs.Common.{◌≡◌, ◌<◌, false, List, length, set, sym, ◌∙◌, ap, subst, arith, Result, Ok, Err, OnErr}
use Rattle.std.proofs.lemmas.List.{length-map, map-set}
use Rattle.fuxi_terms.specs.Cluster.{JobRecord}
use Rattle.fuxi_terms.specs.Jobs.{is_known}
use Rattle.grant_table.specs.GrantTables.{TableRecord, as_known, cells_of, cells_in, entries_in, loads_of, fresh_cells, with_admitted, IsLevel}
use Rattle.grant_table.proofs.SameUnits.{entries_same, level_same}
use Rattle.grant_table.proofs.AdmittedTotals.{admitted_level, entries_stay}
use Rattle.grant_table.proofs.table.GrantTable.admit.Goals as goal

on_err : {T E P : Type 0} (r : Result T E) → P → OnErr r P
on_err (Ok v) p = tt
on_err (Err e) p = p

pub invariant_of-self : goal.invariant_of-self
invariant_of-self c =
    level_same _ _ (cells_of c.self.inside.slots.items) (cells_of c.reach.new.slots.items) _ _ c.self.invariant c.in_err-reach.ensures.same

pub returns-in_err-reach-clause-err : goal.returns-in_err-reach-clause-err
returns-in_err-reach-clause-err c =
    let v = c.self.inside in
    let stay = entries_same _ _ (cells_of v.slots.items) (cells_of c.reach.new.slots.items) _ _ c.self.invariant c.in_err-reach.ensures.same in
    on_err c.from_residual-in_err-reach.result ((λ i. record { cluster = v.cluster; jobs = v.jobs.items; entries = stay i }) ∙ c.self.view_is)

pub invariant_of-self-in_err-insert_job : goal.invariant_of-self-in_err-insert_job
invariant_of-self-in_err-insert_job c =
    let v = c.self.inside in
    let level = level_same _ _ (cells_of v.slots.items) (cells_of c.reach.new.slots.items) _ _ c.self.invariant c.in_ok-reach.ensures.same in
    subst (λ (js : List JobRecord). IsLevel v.cluster js (cells_of c.reach.new.slots.items) (loads_of v.used.items) (loads_of v.usages.items)) (sym c.in_err-insert_job.ensures.err) level

pub returns-in_err-insert_job-clause-err : goal.returns-in_err-insert_job-clause-err
returns-in_err-insert_job-clause-err c =
    let v = c.self.inside in
    let stay = entries_same _ _ (cells_of v.slots.items) (cells_of c.reach.new.slots.items) _ _ c.self.invariant c.in_ok-reach.ensures.same in
    on_err c.from_residual-in_err-insert_job.result ((λ i. record { cluster = v.cluster; jobs = c.in_err-insert_job.ensures.err i; entries = stay i }) ∙ c.self.view_is)

pub invariant_of-self-2 : goal.invariant_of-self-2
invariant_of-self-2 c =
    let j = c.args.job.now in
    let v = c.self.inside in
    let slots = c.reach.new.slots.items in
    let units = c.in_ok-units.units in
    let new = subst (λ (t : TableRecord). is_known (as_known t.jobs) j.number ≡ false) (sym c.self.view_is) c.requires.new in
    let fresh = c.in_ok-units.ensures ∙ ap (λ n. fresh_cells j.group n j.units) c.machines.ensures.number in
    let reached = level_same _ _ (cells_of v.slots.items) (cells_of slots) _ _ c.self.invariant c.in_ok-reach.ensures.same in
    let there : j.number < length (cells_of slots) = let n = c.app-app.ensures.number in let t = c.in_ok-reach.ensures.there in let l = length-map slots cells_in in omega (arith, n, t, l) in
    let level = admitted_level v.cluster v.jobs.items (cells_of slots) (loads_of v.used.items) (loads_of v.usages.items) j (cells_in units) reached new c.app-app.ensures.valid fresh there in
    let jobs : with_admitted j v.jobs.items ≡ c.insert_job.new.jobs.items = ap (λ (x : JobRecord). with_admitted x v.jobs.items) (sym c.in_ok-copy.ensures) ∙ sym c.in_ok-insert_job.ensures.ok in
    let cells : set (cells_of slots) j.number (cells_in units) ≡ cells_of (set slots c.app-app.result.0 units) = ap (λ n. set (cells_of slots) n (cells_in units)) (sym c.app-app.ensures.number) ∙ sym (map-set cells_in slots c.app-app.result.0 units) in
    subst (λ x. IsLevel v.cluster x (cells_of (set slots c.app-app.result.0 units)) (loads_of v.used.items) (loads_of v.usages.items)) jobs
    (subst (λ x. IsLevel v.cluster (with_admitted j v.jobs.items) x (loads_of v.used.items) (loads_of v.usages.items)) cells level)

pub returns-clause-ok : goal.returns-clause-ok
returns-clause-ok c =
    let j = c.args.job.now in
    let v = c.self.inside in
    let slots = c.reach.new.slots.items in
    let units = c.in_ok-units.units in
    let new = subst (λ (t : TableRecord). is_known (as_known t.jobs) j.number ≡ false) (sym c.self.view_is) c.requires.new in
    let fresh = c.in_ok-units.ensures ∙ ap (λ n. fresh_cells j.group n j.units) c.machines.ensures.number in
    let reached = level_same _ _ (cells_of v.slots.items) (cells_of slots) _ _ c.self.invariant c.in_ok-reach.ensures.same in
    let there : j.number < length (cells_of slots) = let n = c.app-app.ensures.number in let t = c.in_ok-reach.ensures.there in let l = length-map slots cells_in in omega (arith, n, t, l) in
    let jobs : c.insert_job.new.jobs.items ≡ with_admitted j v.jobs.items = c.in_ok-insert_job.ensures.ok ∙ ap (λ (x : JobRecord). with_admitted x v.jobs.items) c.in_ok-copy.ensures in
    let cells : cells_of (set slots c.app-app.result.0 units) ≡ set (cells_of slots) j.number (cells_in units) = map-set cells_in slots c.app-app.result.0 units ∙ ap (λ n. set (cells_of slots) n (cells_in units)) c.app-app.ensures.number in
    let stay = ap entries_in cells ∙ entries_stay v.cluster v.jobs.items (cells_of slots) (loads_of v.used.items) (loads_of v.usages.items) j (cells_in units) reached new c.app-app.ensures.valid fresh there
    ∙ entries_same _ _ (cells_of v.slots.items) (cells_of slots) _ _ c.self.invariant c.in_ok-reach.ensures.same in
    subst (λ (t : TableRecord). record { cluster = v.cluster; jobs = c.insert_job.new.jobs.items; entries = entries_in (cells_of (set slots c.app-app.result.0 units)) } ≡ record t { jobs = with_admitted j t.jobs }) c.self.view_is
    (λ i. record { cluster = v.cluster; jobs = jobs i; entries = stay i })

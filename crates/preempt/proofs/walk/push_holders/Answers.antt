use Rattle.std.proofs.Common.{◌≡◌, ◌+◌, true, nat_lt, [], ◌∷◌, ◌++◌, append_assoc, map, filter, Some, sym, ◌∙◌, ap, subst, arith}
use Rattle.std.specs.List.{AllByRecursion}
use Rattle.std.proofs.lemmas.Bool.Decides.{nat_tests}
use Rattle.std.proofs.lemmas.List.{map-append}
use Rattle.fuxi_terms.specs.Cluster.{JobRecord}
use Rattle.fuxi_terms.specs.Jobs.{unit_count}
use Rattle.fuxi_terms.specs.Tables.{held}
use Rattle.fuxi_terms.proofs.Lists.{all_push}
use Rattle.grant_table.specs.GrantTables.{as_known}
use Rattle.preempt.specs.Given.{IsEntry, pair_of}
use Rattle.preempt.specs.Walks.{holds_some, units_in}
use Rattle.preempt.proofs.UnitSteps.{units_counted, holds_more}
use Rattle.preempt.proofs.walk.push_holders.Goals as goal

pub held-requires : goal.held-requires
held-requires c =
    let t = c.args.table.now in
    let count = ap (unit_count (as_known t.jobs)) c.app.ensures.number ∙ units_counted t c.is_sound.ensures c.args.index c.job-job.result.now c.job-job.ensures in
    let test = c.loop-number-test.true in
    let end = c.units-number-end.ensures.number in
    omega (arith, count, test, end)

pub loop-number-preserved : goal.loop-number-preserved
loop-number-preserved c =
    let t = c.args.table.now in
    let n = c.loop-number.number in
    let job = c.job-job.result.now in
    let before = c.loop-number.holders.items in
    let front = c.args.holders.now.items in
    let pushed = c.in_ok-push.ensures.items in
    let h = c.held.ensures in
    let f = c.if-held-eq0.false in
    let some : nat_lt 0 (held t.entries c.app.result.0 n) ≡ true = grind (arith, nat_tests, h, f) in
    let holds : holds_some t.entries (job.number, n) ≡ true = ap (λ a. nat_lt 0 (held t.entries a n)) (sym c.app.ensures.number) ∙ some in
    let here : map pair_of c.push.new.self.items ≡ map pair_of front ++ filter (holds_some t.entries) (units_in job (n + 1)) =
    ap (map pair_of) pushed ∙ map-append pair_of before (c.entry_of.result ∷ [])
    ∙ (λ i. c.loop-number.invariant.pairs job c.job-job.ensures i ++ c.entry_of.ensures.pair i ∷ [])
    ∙ append_assoc (map pair_of front) (filter (holds_some t.entries) (units_in job n)) ((job.number, n) ∷ [])
    ∙ ap (λ ps. map pair_of front ++ ps) (sym (holds_more (holds_some t.entries) job n holds)) in
    record {
      pairs = λ j at.
          let e : Some job ≡ Some j = sym c.job-job.ensures ∙ at in
          let same : job ≡ j = cc in
          subst (λ (x : JobRecord). map pair_of c.push.new.self.items ≡ map pair_of front ++ filter (holds_some t.entries) (units_in x (n + 1))) same here;
      entries = λ each. subst (AllByRecursion (IsEntry t)) (sym pushed) (all_push (IsEntry t) before c.entry_of.result (c.loop-number.invariant.entries each) (c.entry_of.ensures.entry t c.args.index c.is_sound.ensures c.job-job.ensures));
    }

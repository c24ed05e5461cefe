use Rattle.std.proofs.Common.{◌≡◌, true, sym, ◌∙◌, ap, arith}
use Rattle.fuxi_terms.specs.Cluster.{ClusterRecord, is_narrow, limit_at}
use Rattle.fuxi_terms.specs.Jobs.{size_at}
use Rattle.fuxi_terms.specs.Tables.{usage_at}
use Rattle.grant_table.specs.GrantTables.{as_known}
use Rattle.preempt.proofs.CountedAsWritten.{size_is}
use Rattle.preempt.proofs.ShelvesLemmas.{resources_few}
use Rattle.preempt.proofs.NeedsAsWritten.{narrow_is}
use Rattle.preempt.proofs.need.need_of.Goals as goal

pub returns : goal.returns
returns c =
    let t = c.args.table.now in
    let e = c.args.e.now in
    let h = c.requires.entry in
    let few = resources_few t.cluster c.cluster.ensures.sound.valid in
    let count : c.resources-resources.result ≡ t.cluster.resources = c.resources-resources.ensures.number ∙ ap (λ (x : ClusterRecord). x.resources) c.cluster.ensures.cluster in
    let narrow : is_narrow t.cluster (size_at (as_known t.jobs) e.app.0 e.unit.0) ≡ true = sym (narrow_is t e h c.resources-resources.result count) ∙ (sym c.is_narrow.ensures ∙ c.if-not-is_narrow.false) in
    record {
      resources = count;
      narrow = narrow;
      group = h.group;
      small = h.small;
      priority = h.priority;
      guaranteed = c.is_guaranteed.ensures narrow;
      limit = λ i lt. c.requires.group.limit i ∙ ap (λ k. limit_at t.cluster k i) h.group;
      allowed = λ i lt.
          let a = c.sum_of.ensures i (omega (arith, lt, few)) in
          let u = c.requires.group.used i ∙ ap (λ k. usage_at (as_known t.jobs) k i t.entries) h.group in
          let s = size_is t e h i in
          omega (arith, a, u, s);
    }

pub returns-then-not-is_narrow : goal.returns-then-not-is_narrow
returns-then-not-is_narrow c =
    let t = c.args.table.now in
    let count : c.resources-resources.result ≡ t.cluster.resources = c.resources-resources.ensures.number ∙ ap (λ (x : ClusterRecord). x.resources) c.cluster.ensures.cluster in
    sym (narrow_is t c.args.e.now c.requires.entry c.resources-resources.result count) ∙ (sym c.is_narrow.ensures ∙ c.if-not-is_narrow.true)

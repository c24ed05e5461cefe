use Rattle.std.proofs.Common.{◌<◌, length, sym, ◌∙◌, ap, arith}
use Rattle.fuxi_terms.specs.Cluster.{ClusterRecord}
use Rattle.grant_table.specs.GrantTables.{TableRecord}
use Rattle.fuxi_master.specs.Seen.{core_of}
use Rattle.fuxi_master.specs.VoteCounts.{all_avoid}
use Rattle.fuxi_master.proofs.VoteCountsLemmas.{all_marked, none_yet, one_marked, one_unmarked, still_few}
use Rattle.fuxi_master.proofs.state.Core.mark.Goals as goal

pub loop-number-init : goal.loop-number-init
loop-number-init c = none_yet (all_avoid (core_of c.args.self.now) c.args.app.0 c.args.units.now) c.args.votes.now

pub loop-number-preserved-then-not-all_avoid : goal.loop-number-preserved-then-not-all_avoid
loop-number-preserved-then-not-all_avoid c =
    one_unmarked (all_avoid (core_of c.args.self.now) c.args.app.0 c.args.units.now) c.loop-number.number c.args.votes.now c.loop-number.votes c.loop-number.invariant (sym c.all_avoid.ensures ∙ c.if-not-all_avoid.true)

pub mark-requires-clause-there : goal.mark-requires-clause-there
mark-requires-clause-there c =
    let lt = c.loop-number-test.true in
    let wide = c.machines-number-end.ensures.number in
    let cluster = ap (λ (k : ClusterRecord). length k.machines) (c.cluster.ensures.cluster ∙ ap (λ (t : TableRecord). t.cluster) c.table.ensures) in
    let same = c.requires.machines in
    let long = c.loop-number.invariant.long in
    omega (arith, lt, wide, cluster, same, long)

pub mark-requires-clause-fewer : goal.mark-requires-clause-fewer
mark-requires-clause-fewer c =
    let lt = c.loop-number-test.true in
    let wide = c.machines-number-end.ensures.number in
    let cluster = ap (λ (k : ClusterRecord). length k.machines) (c.cluster.ensures.cluster ∙ ap (λ (t : TableRecord). t.cluster) c.table.ensures) in
    let same = c.requires.machines in
    let n = c.loop-number.number in
    let low : n < length c.args.votes.now.votes = omega (arith, lt, wide, cluster, same) in
    still_few (all_avoid (core_of c.args.self.now) c.args.app.0 c.args.units.now) n c.args.votes.now c.loop-number.votes c.loop-number.invariant low (c.requires.fewer n low)

pub loop-number-preserved : goal.loop-number-preserved
loop-number-preserved c =
    let lt = c.loop-number-test.true in
    let wide = c.machines-number-end.ensures.number in
    let cluster = ap (λ (k : ClusterRecord). length k.machines) (c.cluster.ensures.cluster ∙ ap (λ (t : TableRecord). t.cluster) c.table.ensures) in
    let same = c.requires.machines in
    one_marked (all_avoid (core_of c.args.self.now) c.args.app.0 c.args.units.now) c.loop-number.number c.args.votes.now c.loop-number.votes c.loop-number.invariant c.mark.new.self
    (omega (arith, lt, wide, cluster, same)) (sym c.all_avoid.ensures ∙ c.if-not-all_avoid.false) c.mark.ensures

pub returns : goal.returns
returns c =
    let past = c.loop-number-test.false in
    let wide = c.machines-number-end.ensures.number in
    let cluster = ap (λ (k : ClusterRecord). length k.machines) (c.cluster.ensures.cluster ∙ ap (λ (t : TableRecord). t.cluster) c.table.ensures) in
    let same = c.requires.machines in
    all_marked (all_avoid (core_of c.args.self.now) c.args.app.0 c.args.units.now) c.loop-number.number c.args.votes.now c.loop-number.votes c.loop-number.invariant (omega (arith, past, wide, cluster, same))

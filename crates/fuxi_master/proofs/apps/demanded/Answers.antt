use Rattle.std.proofs.Common.{rules, ◌≡◌, true, false, cond, [], sym, ◌∙◌, ap, subst}
use Rattle.std.proofs.lemmas.Option.{IfSome_then}
use Rattle.fuxi_terms.specs.Counts.{AreCounts}
use Rattle.fuxi_terms.specs.Jobs.{unit_count}
use Rattle.grant_table.specs.GrantTables.{as_known}
use Rattle.fuxi_terms.specs.Keys.{key_cmp}
use Rattle.fuxi_terms.specs.TallyKeys.{greatest_demand}
use Rattle.fuxi_terms.specs.Tallies.{TallyRecord}
use Rattle.allotment.specs.Allotted.{newly_credited}
use Rattle.fuxi_master.specs.Heard.{IsCredited}
use Rattle.fuxi_master.specs.ToldAsHeard.{ToldButAt}
use Rattle.fuxi_master.proofs.Demanded.{dead_demanded, alive_demanded}
use Rattle.fuxi_master.proofs.apps.demanded.Goals as goal

pub returns-then-not-live : goal.returns-then-not-live
returns-then-not-live c =
    let a = c.asked-then-not-live.ensures in
    let d = c.args.side.now in
    let dead : c.args.live ≡ false = search rules in
    let counts = subst (λ (t : TallyRecord). AreCounts key_cmp greatest_demand t.entries) c.got.ensures.received c.entries-entries.ensures.counts in
    dead_demanded c.args.app.0 c.args.fresh c.args.live d c.empty.result.entries c.args.allotment.now c.asked-then-not-live.new.self dead (ap (λ (t : TallyRecord). t.entries) c.empty.ensures) a.stands a.table a.touched a.turns counts c.new.result.items c.new.ensures.items

pub returns-then-fresh : goal.returns-then-fresh
returns-then-fresh c =
    let x = c.args.allotment.now in
    let a = c.args.app.0 in
    let d = c.args.side.now in
    let y = c.credited.new.allotment in
    let l = c.in_ok-numbers in
    let on : c.args.live ≡ true = search rules in
    let fresh : c.args.fresh ≡ true = search rules in
    let counts = subst (λ (t : TallyRecord). AreCounts key_cmp greatest_demand t.entries) c.got.ensures.received c.entries-entries.ensures.counts in
    let got = c.got-then-fresh.ensures.received in
    let given : c.empty-given.result.entries ≡ cond c.args.fresh [] d.outgoing.present.entries = ap (λ (t : TallyRecord). t.entries) c.empty-given.ensures ∙ sym (ap (λ f. cond f [] d.outgoing.present.entries) fresh) in
    alive_demanded a c.args.fresh c.args.live d c.empty-given.result.entries x y l.numbers.items on given
    (subst (λ (t : TallyRecord). IsCredited a t.entries c.empty-given.result.entries x y) got l.ensures.credits) counts
    (subst (λ (t : TallyRecord). l.numbers.items ≡ newly_credited x.table.cluster (unit_count (as_known x.table.jobs) a) c.empty-given.result.entries t.entries) got l.ensures.numbers)

pub credited-requires-2-clause-told : goal.credited-requires-2-clause-told
credited-requires-2-clause-told c =
    let x = c.args.allotment.now in
    let a = c.args.app.0 in
    let d = c.args.side.now in
    let on : c.args.live ≡ true = search rules in
    let old : c.args.fresh ≡ false = search rules in
    IfSome_then c.args.change.now c.requires.told (λ change asks.
    subst (λ (t : TallyRecord). ToldButAt change.entries a t.entries c.sent.result.now.entries x) (sym c.got-2.ensures.received)
    (subst (λ (g : TallyRecord). ToldButAt change.entries a d.incoming.received.entries g.entries x) (sym c.sent.ensures) (asks old on)))

pub returns : goal.returns
returns c =
    let x = c.args.allotment.now in
    let a = c.args.app.0 in
    let d = c.args.side.now in
    let y = c.credited-2.new.allotment in
    let l = c.in_ok-numbers-2 in
    let on : c.args.live ≡ true = search rules in
    let old : c.args.fresh ≡ false = search rules in
    let counts = subst (λ (t : TallyRecord). AreCounts key_cmp greatest_demand t.entries) c.got.ensures.received c.entries-entries.ensures.counts in
    let got = c.got-2.ensures.received in
    let given : c.sent.result.now.entries ≡ cond c.args.fresh [] d.outgoing.present.entries = ap (λ (t : TallyRecord). t.entries) c.sent.ensures ∙ sym (ap (λ f. cond f [] d.outgoing.present.entries) old) in
    alive_demanded a c.args.fresh c.args.live d c.sent.result.now.entries x y l.numbers.items on given
    (subst (λ (t : TallyRecord). IsCredited a t.entries c.sent.result.now.entries x y) got l.ensures.credits) counts
    (subst (λ (t : TallyRecord). l.numbers.items ≡ newly_credited x.table.cluster (unit_count (as_known x.table.jobs) a) c.sent.result.now.entries t.entries) got l.ensures.numbers)

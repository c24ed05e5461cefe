use Rattle.std.proofs.Common.{Some, ◌∙◌, ap, subst, arith}
use Rattle.std.proofs.lemmas.List.{length-map, take_all}
use Rattle.fuxi_terms.specs.Cluster.{JobRecord}
use Rattle.ledger_updates.specs.OfNumbers.{AreReached}
use Rattle.ledger_updates.specs.OneJob.{numbers_in, IsSlotShown}
use Rattle.ledger_updates.proofs.OfNumbersLemmas.{none_reached, at_turn, no_turn, next_turn}
use Rattle.ledger_updates.proofs.TableJobs.{job_turn}
use Rattle.ledger_updates.proofs.grants.show_known.Goals as goal

pub loop-index-init : goal.loop-index-init
loop-index-init c = none_reached (IsSlotShown c.args.counts.now c.args.news.now) c.args.apps.now.items

pub loop-index-preserved-then-app-len : goal.loop-index-preserved-then-app-len
loop-index-preserved-then-app-len c =
    let js = c.args.table.now.jobs in
    let f = job_turn js c.loop-index.index c.job.result.now c.app-app.result.0 c.is_sound.ensures.in_order c.job.ensures c.app-app.ensures.number in
    no_turn (IsSlotShown c.args.counts.now c.args.news.now) (numbers_in js) c.loop-index.index f.0 c.args.apps.now.items c.loop-index.apps.items c.loop-index.invariant c.app-app.result.0 f.1
    (omega (arith, c.if-app-len.true, c.len.ensures, c.loop-index.invariant.wide))

pub show_slot-requires-clause-last : goal.show_slot-requires-clause-last
show_slot-requires-clause-last c d is =
    let js = c.args.table.now.jobs in
    let f = job_turn js c.loop-index.index c.job.result.now c.app-app.result.0 c.is_sound.ensures.in_order c.job.ensures c.app-app.ensures.number in
    let was = at_turn (IsSlotShown c.args.counts.now c.args.news.now) (numbers_in js) c.loop-index.index f.0 c.args.apps.now.items c.loop-index.apps.items c.loop-index.invariant c.app-app.result.0 f.1 c.index_mut.result.now (omega (arith, c.if-app-len.false, c.len.ensures)) c.index_mut.ensures.value in
    c.requires.room c.app-app.result.0 d (was ∙ ap (λ o. Some o) is)

pub show_slot-requires-clause-counts : goal.show_slot-requires-clause-counts
show_slot-requires-clause-counts c = c.requires.counts c.app-app.result.0

pub loop-index-preserved : goal.loop-index-preserved
loop-index-preserved c =
    let js = c.args.table.now.jobs in
    let f = job_turn js c.loop-index.index c.job.result.now c.app-app.result.0 c.is_sound.ensures.in_order c.job.ensures c.app-app.ensures.number in
    next_turn (IsSlotShown c.args.counts.now c.args.news.now) (numbers_in js) c.loop-index.index f.0 c.args.apps.now.items c.loop-index.apps.items c.loop-index.invariant c.app-app.result.0 f.1
    c.index_mut.result.now c.show_slot.new.slot (omega (arith, c.if-app-len.false, c.len.ensures)) c.index_mut.ensures.value (record { none = c.in_ok-show_slot.ensures.none; some = c.in_ok-show_slot.ensures.some })

pub returns : goal.returns
returns c =
    let js = c.args.table.now.jobs in
    let k = c.loop-index.index in
    subst (λ due. AreReached (IsSlotShown c.args.counts.now c.args.news.now) due c.args.apps.now.items c.loop-index.apps.items) (take_all k (numbers_in js) (omega (arith, c.loop-index-test.false, c.jobs-jobs.ensures, length-map js (λ (j : JobRecord). j.number)))) c.loop-index.invariant

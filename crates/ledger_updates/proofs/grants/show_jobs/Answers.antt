use Rattle.std.proofs.Common.{◌<◌, Some, length, sym, ◌∙◌, ap, arith}
use Rattle.ledger_updates.specs.OfNumbers.{turns}
use Rattle.ledger_updates.specs.OneJob.{IsSlotShown}
use Rattle.ledger_updates.proofs.OfNumbersLemmas.{turns_length, reached_again, at_turn, no_turn, next_turn}
use Rattle.ledger_updates.proofs.grants.show_jobs.Goals as goal

pub loop-index-preserved-in_default : goal.loop-index-preserved-in_default
loop-index-preserved-in_default c =
    let ts = turns c.args.counts.now c.args.others.now in
    let next : c.loop-index.index < length ts = omega (arith, c.loop-index-test.true, turns_length c.args.counts.now c.args.others.now) in
    reached_again (IsSlotShown c.args.counts.now c.args.news.now) ts c.loop-index.index next c.args.apps.now.items c.loop-index.apps.items c.loop-index.invariant (sym c.turn.ensures ∙ c.in_default.is)

pub loop-index-preserved-then-app-len : goal.loop-index-preserved-then-app-len
loop-index-preserved-then-app-len c =
    let ts = turns c.args.counts.now c.args.others.now in
    let next : c.loop-index.index < length ts = omega (arith, c.loop-index-test.true, turns_length c.args.counts.now c.args.others.now) in
    no_turn (IsSlotShown c.args.counts.now c.args.news.now) ts c.loop-index.index next c.args.apps.now.items c.loop-index.apps.items c.loop-index.invariant c.in-Some.app (sym c.turn.ensures ∙ c.in-Some.is)
    (omega (arith, c.if-app-len.true, c.len.ensures, c.loop-index.invariant.wide))

pub show_slot-requires-clause-last : goal.show_slot-requires-clause-last
show_slot-requires-clause-last c d is =
    let ts = turns c.args.counts.now c.args.others.now in
    let next : c.loop-index.index < length ts = omega (arith, c.loop-index-test.true, turns_length c.args.counts.now c.args.others.now) in
    let was = at_turn (IsSlotShown c.args.counts.now c.args.news.now) ts c.loop-index.index next c.args.apps.now.items c.loop-index.apps.items c.loop-index.invariant c.in-Some.app (sym c.turn.ensures ∙ c.in-Some.is) c.index_mut.result.now (omega (arith, c.if-app-len.false, c.len.ensures)) c.index_mut.ensures.value in
    c.requires.room c.in-Some.app d (was ∙ ap (λ o. Some o) is)

pub show_slot-requires-clause-counts : goal.show_slot-requires-clause-counts
show_slot-requires-clause-counts c = c.requires.counts c.in-Some.app

pub loop-index-preserved : goal.loop-index-preserved
loop-index-preserved c =
    let ts = turns c.args.counts.now c.args.others.now in
    let next : c.loop-index.index < length ts = omega (arith, c.loop-index-test.true, turns_length c.args.counts.now c.args.others.now) in
    next_turn (IsSlotShown c.args.counts.now c.args.news.now) ts c.loop-index.index next c.args.apps.now.items c.loop-index.apps.items c.loop-index.invariant c.in-Some.app (sym c.turn.ensures ∙ c.in-Some.is)
    c.index_mut.result.now c.show_slot.new.slot (omega (arith, c.if-app-len.false, c.len.ensures)) c.index_mut.ensures.value (record { none = c.in_ok-show_slot.ensures.none; some = c.in_ok-show_slot.ensures.some })

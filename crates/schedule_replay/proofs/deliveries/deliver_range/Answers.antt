use Rattle.std.proofs.Common.{◌≡◌, ◌+◌, ◌-◌, ◌<◌, ◌≤◌, ◌++◌, length, Some, subst, arith}
use Rattle.spec_world.specs.Events.{deliver_all, deliver_one, deliver_range}
use Rattle.schedule_text.specs.declared.refusal.Refusal.TheVariants as why
use Rattle.schedule_replay.specs.ReplayTexts.{lines_text}
use Rattle.schedule_replay.specs.Worlds.{WorldRecord, event_steps}
use Rattle.schedule_replay.specs.WorldSteps.{limit_of}
use Rattle.schedule_replay.specs.Moves.{GoesThrough, IsActedOnce, TookSteps, refusal_lines}
use Rattle.schedule_replay.proofs.ActsByOneStep.{acts_if}
use Rattle.schedule_replay.proofs.StepAfterStep.{goes_none, goes_on, took_none, took_more, can_go_on, valid_of}
use Rattle.schedule_replay.proofs.StoredIsDelivered.{all_then, delivery_is}
use Rattle.schedule_replay.proofs.RangeIsDeliveries.{refuses_first, refuses_last, range_done}
use Rattle.schedule_replay.proofs.deliveries.deliver_range.Goals as goal

pub returns-then-first-sent : goal.returns-then-first-sent
returns-then-first-sent c =
    let now = c.args.running.now in
    let sent = c.len-sent.result in
    let before = c.args.out.now.items in
    let after = c.write_refusal.new.out.items in
    let len = subst (λ (r : WorldRecord). sent ≡ length r.pool.frames) c.running.view_is c.len-sent.ensures.len in
    acts_if (λ w. deliver_range w c.args.first c.args.last) now now before after (after ≡ before ++ lines_text (refusal_lines (Some (why.NoPacket sent)))) c.write_refusal.result c.write_refusal.ensures.ok c.write_refusal.ensures.err
    (refuses_first now c.args.first c.args.last sent before after len c.if-first-sent.true)

pub returns-then-last-sent : goal.returns-then-last-sent
returns-then-last-sent c =
    let now = c.args.running.now in
    let sent = c.len-sent.result in
    let before = c.args.out.now.items in
    let after = c.write_refusal-then-last-sent.new.out.items in
    let len = subst (λ (r : WorldRecord). sent ≡ length r.pool.frames) c.running.view_is c.len-sent.ensures.len in
    acts_if (λ w. deliver_range w c.args.first c.args.last) now now before after (after ≡ before ++ lines_text (refusal_lines (Some (why.NoPacket sent)))) c.write_refusal-then-last-sent.result
    c.write_refusal-then-last-sent.ensures.ok c.write_refusal-then-last-sent.ensures.err
    (refuses_last now c.args.first c.args.last sent before after len c.if-first-sent.false c.if-last-sent.true)

pub loop-number-init : goal.loop-number-init
loop-number-init c =
    let now = c.args.running.now in
    let first = c.args.first in
    let order = c.requires.order in
    let none : 0 ≡ first - first = omega arith in
    record {
      from = omega arith;
      to = omega (arith, order);
      goes = subst (λ n. GoesThrough (deliver_all n first) now now c.args.out.now.items c.args.out.now.items) none (goes_none now c.args.out.now.items);
      took = subst (λ n. TookSteps n now now) none (took_none now);
    }

pub deliver_one-requires-clause-can : goal.deliver_one-requires-clause-can
deliver_one-requires-clause-can c =
    let i = c.loop-number.invariant in
    let n = c.loop-number.number - c.args.first in
    let test = c.loop-number-test.true in
    let one = c.if-last-sent.false in
    let most = c.len-sent.ensures.within in
    let few : n < event_steps = omega (arith, test, one, most) in
    can_go_on (deliver_all n c.args.first) n c.args.running.now c.loop-number.running c.args.out.now.items c.loop-number.out.items c.requires.can few i.took i.goes

pub returns-in-Err : goal.returns-in-Err
returns-in-Err c = λ w is s. c.in-Err.ensures (limit_of w (deliver_range w c.args.first c.args.last).world)

pub loop-number-preserved : goal.loop-number-preserved
loop-number-preserved c =
    let old = c.args.running.now in
    let now = c.loop-number.running in
    let new = c.deliver_one.new.running in
    let first = c.args.first in
    let number = c.loop-number.number in
    let before = c.args.out.now.items in
    let mid = c.loop-number.out.items in
    let after = c.deliver_one.new.out.items in
    let i = c.loop-number.invariant in
    let from = i.from in
    let test = c.loop-number-test.true in
    let last = c.if-last-sent.false in
    let n = number - first in
    let len = subst (λ (r : WorldRecord). c.len-sent.result ≡ length r.pool.frames) c.running.view_is c.len-sent.ensures.len in
    let there : first + n ≤ length old.pool.frames = omega (arith, from, test, last, len) in
    let next : n + 1 ≡ number + 1 - first = omega (arith, from) in
    let this : number ≡ first + n = omega (arith, from) in
    let one = subst (λ k. IsActedOnce (deliver_one k) now new mid after) this c.in-Ok.ensures in
    record {
      from = omega (arith, from);
      to = omega (arith, test);
      goes = subst (λ k. GoesThrough (deliver_all k first) old new before after) next
          (goes_on (deliver_all n first) (deliver_one (first + n)) (deliver_all (n + 1) first) n old now new before mid after c.requires.counted (valid_of old c.requires.can) (λ w. all_then n first w)
          (delivery_is c.every_event_keeps_good.ensures.kept c.worlds_in_order.ensures.kept first n old now c.requires.first there i.took) i.took i.goes one);
      took = subst (λ k. TookSteps k old new) next (took_more (deliver_one (first + n)) n old now new mid after i.took one);
    }

pub returns : goal.returns
returns c =
    let old = c.args.running.now in
    let sent = c.len-sent.result in
    let i = c.loop-number.invariant in
    let to = i.to in
    let test = c.loop-number-test.false in
    let one = c.if-last-sent.false in
    let most = c.len-sent.ensures.within in
    let n = c.loop-number.number - c.args.first in
    let len = subst (λ (r : WorldRecord). sent ≡ length r.pool.frames) c.running.view_is c.len-sent.ensures.len in
    let many : n ≡ c.args.last + 1 - c.args.first = omega (arith, to, test) in
    let few : n ≤ event_steps = omega (arith, to, one, most) in
    range_done old c.loop-number.running c.args.first c.args.last n sent c.args.out.now.items c.loop-number.out.items len c.if-first-sent.false c.if-last-sent.false many few i.took i.goes

use Rattle.std.proofs.Common.{◌≡◌, ◌++◌, length, Some, subst}
use Rattle.spec_world.specs.Events.{deliver, deliver_one}
use Rattle.schedule_text.specs.declared.refusal.Refusal.TheVariants as why
use Rattle.schedule_replay.specs.ReplayTexts.{lines_text}
use Rattle.schedule_replay.specs.Worlds.{WorldRecord}
use Rattle.schedule_replay.specs.Moves.{refusal_lines}
use Rattle.schedule_replay.proofs.ActsByOneStep.{acts_if, acts_once}
use Rattle.schedule_replay.proofs.RangeIsDeliveries.{refuses_one, one_is}
use Rattle.schedule_replay.proofs.deliveries.deliver.Goals as goal

pub returns-then-number-sent : goal.returns-then-number-sent
returns-then-number-sent c =
    let now = c.args.running.now in
    let sent = c.len-sent.result in
    let before = c.args.out.now.items in
    let after = c.write_refusal.new.out.items in
    let len = subst (λ (r : WorldRecord). sent ≡ length r.pool.frames) c.running.view_is c.len-sent.ensures.len in
    acts_if (λ w. deliver w c.args.number) now now before after (after ≡ before ++ lines_text (refusal_lines (Some (why.NoPacket sent)))) c.write_refusal.result c.write_refusal.ensures.ok c.write_refusal.ensures.err
    (refuses_one now c.args.number sent before after len c.if-number-sent.true)

pub returns : goal.returns
returns c =
    let now = c.args.running.now in
    let sent = c.len-sent.result in
    let len = subst (λ (r : WorldRecord). sent ≡ length r.pool.frames) c.running.view_is c.len-sent.ensures.len in
    acts_once (λ w. deliver w c.args.number) (deliver_one c.args.number) now c.deliver_one.new.running c.args.out.now.items c.deliver_one.new.out.items c.deliver_one.result
    (one_is now c.args.number sent len c.if-number-sent.false) c.deliver_one.ensures

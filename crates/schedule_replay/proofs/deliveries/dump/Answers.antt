use Rattle.std.proofs.Common.{◌≡◌, ◌-◌, ◌<◌, ◌++◌, length, slice_get, Some, refl, subst, arith}
use Rattle.spec_world.specs.Events.{dump}
use Rattle.schedule_text.specs.declared.refusal.Refusal.TheVariants as why
use Rattle.schedule_replay.specs.ReplayTexts.{lines_text}
use Rattle.schedule_replay.specs.Worlds.{WorldRecord}
use Rattle.schedule_replay.specs.Moves.{refusal_lines}
use Rattle.schedule_replay.proofs.ActsByOneStep.{acts_if}
use Rattle.schedule_replay.proofs.RangeIsDeliveries.{WritesFrame, refuses_dump, dumps}
use Rattle.schedule_replay.proofs.deliveries.dump.Goals as goal

pub returns-in_default : goal.returns-in_default
returns-in_default c =
    let now = c.args.running.now in
    let sent = c.len-sent.result in
    let before = c.args.out.now.items in
    let after = c.write_refusal.new.out.items in
    let len = subst (λ (r : WorldRecord). sent ≡ length r.pool.frames) c.running.view_is c.len-sent.ensures.len in
    let few : sent < c.args.number = (let short = c.in_default.ensures.none refl in let long = c.len-sent.ensures.len in omega (arith, short, long)) in
    acts_if (λ w. dump w c.args.number) now now before after (after ≡ before ++ lines_text (refusal_lines (Some (why.NoPacket sent)))) c.write_refusal.result c.write_refusal.ensures.ok c.write_refusal.ensures.err
    (refuses_dump now c.args.number sent before after len few)

pub returns : goal.returns
returns c =
    let now = c.args.running.now in
    let bytes = c.in-Some.bytes.now in
    let before = c.args.out.now.items in
    let after = c.write_kept.new.out.items in
    let at = subst (λ (r : WorldRecord). slice_get r.pool.frames (c.args.number - 1) ≡ Some bytes) c.running.view_is c.in-Some.ensures.some in
    acts_if (λ w. dump w c.args.number) now now before after (WritesFrame c.args.number bytes before after) c.write_kept.result c.write_kept.ensures.ok c.write_kept.ensures.err
    (dumps now c.args.number bytes before after c.requires at)

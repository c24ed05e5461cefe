use Rattle.std.proofs.Common.{◌≡◌, ◌<◌, ◌++◌, length, refl, subst, arith}
use Rattle.spec_world.specs.Events.{deliver_one}
use Rattle.schedule_replay.specs.ReplayTexts.{lines_text}
use Rattle.schedule_replay.specs.Worlds.{WorldRecord}
use Rattle.schedule_replay.specs.Moves.{heard_lines}
use Rattle.schedule_replay.proofs.ActsByOneStep.{once_if}
use Rattle.schedule_replay.proofs.MovesLemmas.{none_once}
use Rattle.schedule_replay.proofs.StoredIsDelivered.{delivers_none}
use Rattle.schedule_replay.proofs.deliveries.deliver_one.Goals as goal

pub returns : goal.returns
returns c =
    let now = c.args.running.now in
    let new = c.hear_stored.new.running in
    let heard = c.in-Ok.heard in
    let before = c.args.out.now.items in
    let after = c.write_heard.new.out.items in
    once_if (deliver_one c.args.number) now new before after (after ≡ before ++ lines_text (heard_lines c.args.number heard)) c.write_heard.result c.write_heard.ensures.ok c.write_heard.ensures.err (λ text. record {
      does = c.in-Ok.ensures.does before after text;
      moves = c.in-Ok.ensures.once;
      pool = c.in-Ok.ensures.pool;
    })

pub returns-then-number-len : goal.returns-then-number-len
returns-then-number-len c =
    let now = c.args.running.now in
    let more = c.if-number-len.true in
    let kept = c.len.ensures.len in
    let few = subst (λ (r : WorldRecord). length r.pool.frames < c.args.number) c.running.view_is (omega (arith, more, kept)) in
    record { does = delivers_none c.args.number now c.args.out.now.items c.requires.first few; moves = none_once now now.pool; pool = refl }

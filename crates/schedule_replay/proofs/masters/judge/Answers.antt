use Rattle.std.proofs.Common.{◌≡◌, ◌++◌, map, Some, Ok, Err}
use Rattle.spec_world.specs.Events.{ban_each, judge}
use Rattle.bad_nodes.specs.Ranks.{number_of}
use Rattle.schedule_replay.specs.ReplayTexts.{lines_text}
use Rattle.schedule_replay.specs.Worlds.{WorldRecord}
use Rattle.schedule_replay.specs.Moves.{refusal_lines}
use Rattle.schedule_replay.proofs.ActsByOneStep.{acts_as, acts_if}
use Rattle.schedule_replay.proofs.PeersActInWorld.{refuses}
use Rattle.schedule_replay.proofs.JudgementIsBans.{decides_in}
use Rattle.schedule_replay.proofs.masters.judge.Goals as goal

pub ban_each-requires-clause-may : goal.ban_each-requires-clause-may
ban_each-requires-clause-may c =
    let old : WorldRecord = record { cluster = c.running.inside.cluster; checkpoint = c.running.inside.checkpoint; masters = c.running.inside.masters; agents = c.running.inside.agents; apps = c.running.inside.apps; pool = c.running.inside.pool; events = c.running.inside.events } in
    let can = c.requires.can in
    (decides_in c.args.epoch c.args.least c.args.percent old c.args.running.now c.in-Ok-Ok.field-0 (Ok c.in-Ok-Ok.judgement) c.running.view_is c.in-Ok-Ok.field-0-is c.in-Ok-Ok.ensures can.world can.is can.stands).may

pub returns-in-Ok-Ok : goal.returns-in-Ok-Ok
returns-in-Ok-Ok c =
    let old : WorldRecord = record { cluster = c.running.inside.cluster; checkpoint = c.running.inside.checkpoint; masters = c.running.inside.masters; agents = c.running.inside.agents; apps = c.running.inside.apps; pool = c.running.inside.pool; events = c.running.inside.events } in
    let e = c.args.epoch in
    let now = c.args.running.now in
    let j = c.in-Ok-Ok.judgement in
    acts_as (λ w. judge w e c.args.least c.args.percent) (ban_each e j.votes (map number_of j.machines.items)) now c.ban_each.new.running c.args.out.now.items c.ban_each.new.out.items c.ban_each.result
    (λ w is s. (decides_in e c.args.least c.args.percent old now c.in-Ok-Ok.field-0 (Ok j) c.running.view_is c.in-Ok-Ok.field-0-is c.in-Ok-Ok.ensures w is s).bans) c.ban_each.ensures

pub returns-in-Ok-Err : goal.returns-in-Ok-Err
returns-in-Ok-Err c =
    let old : WorldRecord = record { cluster = c.running.inside.cluster; checkpoint = c.running.inside.checkpoint; masters = c.running.inside.masters; agents = c.running.inside.agents; apps = c.running.inside.apps; pool = c.running.inside.pool; events = c.running.inside.events } in
    let e = c.args.epoch in
    let now = c.args.running.now in
    let refusal = c.in-Ok-Err.refusal in
    let before = c.args.out.now.items in
    let after = c.write_refusal.new.out.items in
    acts_if (λ w. judge w e c.args.least c.args.percent) now now before after (after ≡ before ++ lines_text (refusal_lines (Some refusal))) c.write_refusal.result c.write_refusal.ensures.ok c.write_refusal.ensures.err
    (refuses (λ w. judge w e c.args.least c.args.percent) now refusal before after (decides_in e c.args.least c.args.percent old now c.in-Ok-Err.field-0 (Err refusal) c.running.view_is c.in-Ok-Err.field-0-is c.in-Ok-Err.ensures))

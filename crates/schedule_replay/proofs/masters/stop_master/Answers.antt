use Rattle.std.proofs.Common.{subst}
use Rattle.spec_world.specs.World.{World, Step}
use Rattle.spec_world.specs.Events.{stop_master}
use Rattle.schedule_replay.specs.Worlds.{WorldRecord}
use Rattle.schedule_replay.specs.Moves.{IsActed}
use Rattle.schedule_replay.proofs.MastersActInWorld.{governed}
use Rattle.schedule_replay.proofs.PeersActInWorld.{acts_by}
use Rattle.schedule_replay.proofs.masters.stop_master.Goals as goal

pub returns : goal.returns
returns c =
    let old : WorldRecord = record { cluster = c.running.inside.cluster; checkpoint = c.running.inside.checkpoint; masters = c.running.inside.masters; agents = c.running.inside.agents; apps = c.running.inside.apps; pool = c.running.inside.pool; events = c.running.inside.events } in
    let step : World → Step = λ w. stop_master w c.args.epoch in
    let now = c.args.running.now in
    let before = c.args.out.now.items in
    let masters = c.stop_master-refusal.new.masters in
    let new : WorldRecord = record old { masters = masters } in
    let after = c.write_refusal.new.out.items in
    acts_by step now new before after _ c.write_refusal.result c.write_refusal.ensures.ok c.write_refusal.ensures.err (λ text.
    subst (λ r. IsActed step r new before after) c.running.view_is
    (governed c.masters_act.ensures.orders step old old.checkpoint masters c.stop_master-refusal.result before after (c.stop_master-refusal.ensures.world old.checkpoint) c.stop_master-refusal.ensures.steps text))

use Rattle.std.proofs.Common.{◌<◌, ◌≤◌, ◌+◌, length, map, take, subst, arith}
use Rattle.std.proofs.lemmas.List.{take_all}
use Rattle.fuxi_terms.specs.Limits.{most_machines}
use Rattle.spec_world.specs.Events.{ban_each}
use Rattle.bad_nodes.specs.Ranks.{number_of}
use Rattle.schedule_replay.specs.Worlds.{event_steps}
use Rattle.schedule_replay.specs.WorldSteps.{limit_of}
use Rattle.schedule_replay.specs.Moves.{GoesThrough, ban_one}
use Rattle.schedule_replay.proofs.StepAfterStep.{goes_none, goes_on, took_none, took_more, can_go_on, valid_of, all_done}
use Rattle.schedule_replay.proofs.JudgementIsBans.{ban_is, bans_next, is_there}
use Rattle.schedule_replay.proofs.masters.ban_each.Goals as goal

pub loop-place-init : goal.loop-place-init
loop-place-init c = record { to = omega arith; goes = goes_none c.args.running.now c.args.out.now.items; took = took_none c.args.running.now }

pub votes-votes-requires : goal.votes-votes-requires
votes-votes-requires c =
    let j = c.args.judgement.now in
    let test = c.loop-place-test.true in
    let len = c.len-place-end.ensures in
    is_there (λ m. m < length j.votes.votes) j.machines.items c.loop-place.place c.index-machine.result.now c.requires.may.there (omega (arith, test, len)) c.index-machine.ensures

pub ban_one-requires : goal.ban_one-requires
ban_one-requires c =
    let j = c.args.judgement.now in
    let i = c.loop-place.invariant in
    let n = c.loop-place.place in
    let test = c.loop-place-test.true in
    let len = c.len-place-end.ensures in
    let most = c.requires.may.few in
    let few : n < event_steps = omega (arith, test, len, most) in
    record { can = can_go_on (ban_each c.args.epoch j.votes (map number_of (take n j.machines.items))) n c.args.running.now c.loop-place.running c.args.out.now.items c.loop-place.out.items c.requires.can few i.took i.goes }

pub returns-in-Err : goal.returns-in-Err
returns-in-Err c = λ w is s. c.in-Err.ensures (limit_of w (ban_each c.args.epoch c.args.judgement.now.votes (map number_of c.args.judgement.now.machines.items) w).world)

pub loop-place-preserved : goal.loop-place-preserved
loop-place-preserved c =
    let old = c.args.running.now in
    let now = c.loop-place.running in
    let new = c.ban_one.new.running in
    let e = c.args.epoch in
    let j = c.args.judgement.now in
    let ms = j.machines.items in
    let n = c.loop-place.place in
    let machine = c.index-machine.result.now in
    let m = machine.0 in
    let votes = c.votes-votes.result in
    let before = c.args.out.now.items in
    let mid = c.loop-place.out.items in
    let after = c.ban_one.new.out.items in
    let i = c.loop-place.invariant in
    let test = c.loop-place-test.true in
    let len = c.len-place-end.ensures in
    let one : n < length ms = omega (arith, test, len) in
    let is = c.index-machine.ensures in
    let there = is_there (λ m. m < length j.votes.votes) ms n machine c.requires.may.there one is in
    let few = c.requires.may.votes in
    let within : m < most_machines = omega (arith, there, few) in
    record {
      to = omega (arith, one);
      goes = goes_on (ban_each e j.votes (map number_of (take n ms))) (ban_one e m votes) (ban_each e j.votes (map number_of (take (n + 1) ms))) n old now new before mid after c.requires.counted (valid_of old c.requires.can)
          (bans_next e j.votes ms n machine votes is one c.votes-votes.ensures.votes) (λ v k s some valid. ban_is c.every_event_keeps_good.ensures.kept c.worlds_in_order.ensures.kept e m c.requires.first within v k some valid) i.took i.goes c.in-Ok.ensures;
      took = took_more (ban_one e m votes) n old now new mid after i.took c.in-Ok.ensures;
    }

pub returns : goal.returns
returns c =
    let old = c.args.running.now in
    let now = c.loop-place.running in
    let e = c.args.epoch in
    let j = c.args.judgement.now in
    let ms = j.machines.items in
    let n = c.loop-place.place in
    let before = c.args.out.now.items in
    let after = c.loop-place.out.items in
    let i = c.loop-place.invariant in
    let to = i.to in
    let most = c.requires.may.few in
    let few : n ≤ event_steps = omega (arith, to, most) in
    let test = c.loop-place-test.false in
    let len = c.len-place-end.ensures in
    let all : length ms ≤ n = omega (arith, test, len) in
    all_done (ban_each e j.votes (map number_of ms)) n old now before after few i.took
    (subst (λ xs. GoesThrough (ban_each e j.votes (map number_of xs)) old now before after) (take_all n ms all) i.goes)

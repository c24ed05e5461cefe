use Rattle.std.proofs.Common.{◌<◌, ◌≤◌, ◌^◌, sym, subst}
use Rattle.fuxi_terms.specs.Limits.{most_packets, most_packet_bytes}
use Rattle.schedule_replay.specs.LineEvents.{event_as}
use Rattle.schedule_replay.specs.Worlds.{WorldRecord, IsReached}
use Rattle.schedule_replay.specs.WorldSteps.{StopsAt}
use Rattle.schedule_replay.proofs.WorldStepsLemmas.{can_move, can_move_long, reached_by, stops, taken_by}
use Rattle.schedule_replay.proofs.running.Running.step.Goals as goal

pub act-requires-clause-can : goal.act-requires-clause-can
act-requires-clause-can c =
    let r : WorldRecord = record { cluster = c.self.inside.cluster; checkpoint = c.self.inside.checkpoint; masters = c.self.inside.masters; agents = c.self.inside.agents; apps = c.self.inside.apps; pool = c.self.inside.pool; events = c.self.inside.events } in
    can_move r (subst IsReached (sym c.self.view_is) c.requires.reached) (subst (λ (x : WorldRecord). x.events < 2 ^ 29) (sym c.self.view_is) c.requires.events)

pub act-requires-clause-long : goal.act-requires-clause-long
act-requires-clause-long c =
    let r : WorldRecord = record { cluster = c.self.inside.cluster; checkpoint = c.self.inside.checkpoint; masters = c.self.inside.masters; agents = c.self.inside.agents; apps = c.self.inside.apps; pool = c.self.inside.pool; events = c.self.inside.events } in
    can_move_long r (subst IsReached (sym c.self.view_is) c.requires.reached) (subst (λ (x : WorldRecord). x.events < 2 ^ 29) (sym c.self.view_is) c.requires.events)

pub returns-in-Err-clause-stops : goal.returns-in-Err-clause-stops
returns-in-Err-clause-stops c =
    let r : WorldRecord = record { cluster = c.self.inside.cluster; checkpoint = c.self.inside.checkpoint; masters = c.self.inside.masters; agents = c.self.inside.agents; apps = c.self.inside.apps; pool = c.self.inside.pool; events = c.self.inside.events } in
    let e = event_as c.args.event.now in
    subst (λ x. StopsAt e x c.in-Err.stop) c.self.view_is (stops e r c.in-Err.stop c.in-Err.ensures)

pub returns-clause-reached : goal.returns-clause-reached
returns-clause-reached c =
    let r : WorldRecord = record { cluster = c.self.inside.cluster; checkpoint = c.self.inside.checkpoint; masters = c.self.inside.masters; agents = c.self.inside.agents; apps = c.self.inside.apps; pool = c.self.inside.pool; events = c.self.inside.events } in
    let now : WorldRecord = record { cluster = c.self-2.inside.cluster; checkpoint = c.self-2.inside.checkpoint; masters = c.self-2.inside.masters; agents = c.self-2.inside.agents; apps = c.self-2.inside.apps; pool = c.self-2.inside.pool; events = c.self-2.inside.events } in
    let e = event_as c.args.event.now in
    let few = subst (λ n. n ≤ most_packets) c.len-packets.ensures.len c.len-packets.ensures.within in
    let small = subst (λ n. n ≤ most_packet_bytes) c.bytes-bytes.ensures.sum c.bytes-bytes.ensures.within in
    let t = taken_by c.every_event_keeps_good.ensures.kept c.worlds_in_order.ensures.kept c.written_frame_lengths.ensures e r c.args.self.now now c.act.new.running c.clear.new.self.items c.act.new.out.items c.self.view_is c.self-2.view_is c.clear.ensures.items (c.events_are_inputs.ensures c.args.event.now c.requires.line) few small c.in-Ok.ensures in
    reached_by e r c.args.self.now c.act.new.running c.clear.new.self.items c.act.new.out.items c.self.view_is c.clear.ensures.items c.requires.reached c.in-Ok.ensures t

pub returns-clause-takes : goal.returns-clause-takes
returns-clause-takes c =
    let r : WorldRecord = record { cluster = c.self.inside.cluster; checkpoint = c.self.inside.checkpoint; masters = c.self.inside.masters; agents = c.self.inside.agents; apps = c.self.inside.apps; pool = c.self.inside.pool; events = c.self.inside.events } in
    let now : WorldRecord = record { cluster = c.self-2.inside.cluster; checkpoint = c.self-2.inside.checkpoint; masters = c.self-2.inside.masters; agents = c.self-2.inside.agents; apps = c.self-2.inside.apps; pool = c.self-2.inside.pool; events = c.self-2.inside.events } in
    let e = event_as c.args.event.now in
    let few = subst (λ n. n ≤ most_packets) c.len-packets.ensures.len c.len-packets.ensures.within in
    let small = subst (λ n. n ≤ most_packet_bytes) c.bytes-bytes.ensures.sum c.bytes-bytes.ensures.within in
    taken_by c.every_event_keeps_good.ensures.kept c.worlds_in_order.ensures.kept c.written_frame_lengths.ensures e r c.args.self.now now c.act.new.running c.clear.new.self.items c.act.new.out.items c.self.view_is c.self-2.view_is c.clear.ensures.items (c.events_are_inputs.ensures c.args.event.now c.requires.line) few small c.in-Ok.ensures

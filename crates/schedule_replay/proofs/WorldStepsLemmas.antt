-- One event of what runs, from what it does to a world that has counted it.
use Rattle.std.proofs.Common.{◌≡◌, ℕ, ◌+◌, ◌*◌, ◌^◌, ◌<◌, ◌≤◌, true, List, [], length, sym, ◌∙◌, ap, subst, arith}
use Rattle.fuxi_terms.specs.Cluster.{is_valid_cluster}
use Rattle.fuxi_terms.specs.Limits.{most_packets, most_packet_bytes, most_steps}
use Rattle.schedule_replay.specs.PacketPools.{bytes_of}
use Rattle.spec_world.specs.World.{World}
use Rattle.spec_world.specs.Events.{Event, act, counted_in, world_step}
use Rattle.spec_world.specs.EventRanges.{is_from_line}
use Rattle.schedule_replay.specs.declared.stop.WorldStop.{WorldStop}
use Rattle.schedule_replay.specs.Worlds.{WorldRecord, StandsFor, IsReached, event_steps}
use Rattle.schedule_replay.specs.WorldSteps.{Takes, StopsAt}
use Rattle.schedule_replay.specs.Moves.{CanMove, CanMoveLong, IsActed, Fails}
use Rattle.schedule_replay.proofs.MovesLemmas.{all_wider}
use Rattle.schedule_replay.proofs.SentIsKept.{FrameLengths, within_limits}
use Rattle.schedule_replay.proofs.StepAfterStep.{GoodKept, OrderKept, event_is, numbered_is}

-- one event more is counted
abbrev pub counted : WorldRecord → WorldRecord
counted r = record r { events = r.events + 1 }

pub counted_stands : (r : WorldRecord) (w : World) → StandsFor r w → StandsFor (counted r) (counted_in w)
counted_stands r w s = record {
  cluster = s.cluster;
  hard = s.hard;
  rests = s.rests;
  masters = record { each = s.masters.each; last = s.masters.last; full = s.masters.full };
  agents = record { each = s.agents.each; last = s.agents.last; full = s.agents.full };
  apps = record { each = s.apps.each; last = s.apps.last; full = s.apps.full };
  packets = record { packets = s.packets.packets; kept = s.packets.kept; sent = s.packets.sent; same = s.packets.same };
  events = ap (λ n. n + 1) s.events;
}

few_steps : (n : ℕ) → n < 2 ^ 29 → n * event_steps + event_steps ≤ most_steps
few_steps n lt = omega (arith, lt)

fewer_steps : (n : ℕ) → n < 2 ^ 29 → n * event_steps < most_steps
fewer_steps n lt = omega (arith, lt)

pub can_move : (r : WorldRecord) → IsReached r → r.events < 2 ^ 29 → CanMove (counted r)
can_move r h lt = record {
  world = counted_in h.world;
  is = numbered_is h.world (h.world.events + 1) h.is;
  stands = counted_stands r h.world h.stands;
  steps = r.events * event_steps;
  few = fewer_steps r.events lt;
  within = record { masters = h.within.masters; agents = h.within.agents; apps = h.within.apps };
}

pub can_move_long : (r : WorldRecord) → IsReached r → r.events < 2 ^ 29 → CanMoveLong (counted r)
can_move_long r h lt = record {
  world = counted_in h.world;
  is = numbered_is h.world (h.world.events + 1) h.is;
  stands = counted_stands r h.world h.stands;
  steps = r.events * event_steps;
  few = few_steps r.events lt;
  within = record { masters = h.within.masters; agents = h.within.agents; apps = h.within.apps };
}

-- An event that is done
pub takes : GoodKept → OrderKept → FrameLengths → (e : Event) (old new : WorldRecord) (text : List ℕ) → is_from_line e ≡ true → length new.pool.frames ≤ most_packets → bytes_of new.pool.frames ≤ most_packet_bytes
    → IsActed (λ w. act w e) (counted old) new [] text → Takes e old new text
takes good order law e old new text line few small h w is s =
    let d = h.does (counted_in w) (numbered_is w (w.events + 1) is) (counted_stands old w s) in
    let cluster : is_valid_cluster (world_step w e).world.cluster ≡ true = ap is_valid_cluster (sym d.stands.cluster ∙ h.moves.cluster ∙ s.cluster) ∙ is.valid in
    record {
      is = event_is good order w e line cluster is;
      stands = d.stands;
      text = d.text;
      limit = within_limits law w (world_step w e).world new.pool d.stands.packets few small;
    }

more_steps : (n m : ℕ) → m ≡ n + 1 → n * event_steps + event_steps ≤ m * event_steps
more_steps n m is = omega (arith, is)

pub is_reached : (e : Event) (old new : WorldRecord) (text : List ℕ) → (h : IsReached old) → IsActed (λ w. act w e) (counted old) new [] text → Takes e old new text → IsReached new
is_reached e old new text h a t =
    let x = t h.world h.is h.stands in
    let w = a.moves.steps (old.events * event_steps) (record { masters = h.within.masters; agents = h.within.agents; apps = h.within.apps }) in
    record {
      world = (world_step h.world e).world;
      is = x.is;
      stands = x.stands;
      within = all_wider (old.events * event_steps + event_steps) (new.events * event_steps) new (more_steps old.events new.events a.moves.events) w;
    }

-- and one that is not
pub stops : (e : Event) (old : WorldRecord) (stop : WorldStop) → Fails (λ w. act w e) (counted old) stop → StopsAt e old stop
stops e old stop h w is s = h (counted_in w) (numbered_is w (w.events + 1) is) (counted_stands old w s)

-- what runs, with the record that is counted, and what it prints behind nothing
pub taken_by : GoodKept → OrderKept → FrameLengths → (e : Event) (r old now new : WorldRecord) (before after : List ℕ) → r ≡ old → now ≡ new → before ≡ [] → is_from_line e ≡ true → length now.pool.frames ≤ most_packets → bytes_of now.pool.frames ≤ most_packet_bytes
    → IsActed (λ w. act w e) (counted r) new before after → Takes e old new after
taken_by good order law e r old now new before after is same none line few small a =
    let few_new = subst (λ (x : WorldRecord). length x.pool.frames ≤ most_packets) same few in
    let small_new = subst (λ (x : WorldRecord). bytes_of x.pool.frames ≤ most_packet_bytes) same small in
    let acted = subst (λ b. IsActed (λ w. act w e) (counted r) new b after) none a in
    subst (λ x. Takes e x new after) is (takes good order law e r new after line few_new small_new acted)

pub reached_by : (e : Event) (r old new : WorldRecord) (before after : List ℕ) → r ≡ old → before ≡ [] → IsReached old → IsActed (λ w. act w e) (counted r) new before after → Takes e old new after → IsReached new
reached_by e r old new before after is none h a t =
    is_reached e r new after (subst IsReached (sym is) h) (subst (λ b. IsActed (λ w. act w e) (counted r) new b after) none a) (subst (λ x. Takes e x new after) (sym is) t)

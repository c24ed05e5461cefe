-- An event that is several steps of the world, one after another.
use Rattle.std.proofs.Common.{◌≡◌, ℕ, ◌+◌, ◌-◌, ◌<◌, ◌≤◌, true, List, ◌++◌, refl, sym, ◌∙◌, ap, subst, arith, append-nil, append_assoc}
use Rattle.fuxi_terms.specs.Cluster.{is_valid_cluster}
use Rattle.spec_world.specs.World.{World, Step, prints_nothing, then_step}
use Rattle.spec_world.specs.Events.{Event, act, world_step, counted_in}
use Rattle.spec_world.specs.EventRanges.{is_from_line}
use Rattle.spec_world.specs.Good.{Good}
use Rattle.spec_world.specs.Orders.{IsInOrder}
use Rattle.schedule_replay.specs.ReplayTexts.{lines_text}
use Rattle.schedule_replay.specs.Worlds.{WorldRecord, IsWorld, StandsFor, AreWithin, event_steps}
use Rattle.schedule_replay.specs.Moves.{CanMove, CanMoveLong, IsActed, IsActedOnce, IsThrough, GoesThrough, TookSteps}
use Rattle.schedule_replay.proofs.MovesLemmas.{all_wider}
use Rattle.schedule_replay.proofs.ReplayTextsLemmas.{lines_append}

-- The number of events plays no part in what a good world is
abbrev numbered : World → ℕ → World
numbered w n = record w { events = n }

numbered_good : (w : World) (n : ℕ) → Good w → Good (numbered w n)
numbered_good w n g = record {
  hard = g.hard;
  stands = record {
    sound = g.stands.sound;
    unstarted = g.stands.unstarted;
    masters = g.stands.masters;
    agents = g.stands.agents;
    apps = g.stands.apps;
    machines = g.stands.machines;
    origins = g.stands.origins;
    units = g.stands.units;
    written = g.stands.written;
    entries = g.stands.entries;
    reports = g.stands.reports;
  };
  rests = g.rests;
  recorded = record { masters = g.recorded.masters; agents = g.recorded.agents; apps = g.recorded.apps; below = g.recorded.below; net = g.recorded.net };
  knows = g.knows;
  given = g.given;
}

pub numbered_is : (w : World) (n : ℕ) → IsWorld w → IsWorld (numbered w n)
numbered_is w n h = record { valid = h.valid; good = numbered_good w n h.good; order = record { masters = h.order.masters; agents = h.order.agents; apps = h.order.apps; bans = h.order.bans; banned = h.order.banned } }

-- The laws of all events, as they are called for
abbrev pub GoodKept : Type 0
GoodKept = (w : World) (e : Event) → is_valid_cluster w.cluster ≡ true → is_from_line e ≡ true → Good w → Good (world_step w e).world

abbrev pub OrderKept : Type 0
OrderKept = (w : World) (e : Event) → is_valid_cluster w.cluster ≡ true → is_from_line e ≡ true → IsInOrder w → IsInOrder (world_step w e).world

pub event_is : GoodKept → OrderKept → (w : World) (e : Event) → is_from_line e ≡ true → is_valid_cluster (world_step w e).world.cluster ≡ true → IsWorld w → IsWorld (world_step w e).world
event_is good order w e line valid h = record { valid = valid; good = good w e h.valid line h.good; order = order w e h.valid line h.order }

-- a world that has counted an event
counted_again : (w : World) → 0 < w.events → counted_in (numbered w (w.events - 1)) ≡ w
counted_again w some = let e : w.events - 1 + 1 ≡ w.events = omega (arith, some) in λ i. record w { events = e i }

-- so a step of it that is an event leads again to one to which inputs lead
pub acted_is : GoodKept → OrderKept → (w : World) (e : Event) → 0 < w.events → is_from_line e ≡ true → is_valid_cluster (act w e).world.cluster ≡ true → IsWorld w → IsWorld (act w e).world
acted_is good order w e some line valid h =
    let w0 = numbered w (w.events - 1) in
    let same : (world_step w0 e).world ≡ (act w e).world = ap (λ v. (act v e).world) (counted_again w some) in
    subst IsWorld same (event_is good order w0 e line (ap (λ (v : World). is_valid_cluster v.cluster) same ∙ valid) (numbered_is w (w.events - 1) h))

-- None of the steps is done yet
pub goes_none : (old : WorldRecord) (before : List ℕ) → GoesThrough prints_nothing old old before before
goes_none old before w is s = record { is = is; stands = s; text = sym (append-nil before) }

pub took_none : (old : WorldRecord) → TookSteps 0 old old
took_none old = record { steps = λ k w. subst (λ n. AreWithin n old) (omega arith) w; events = refl; cluster = refl; pool = refl }

-- one more is, which leads to a world to which inputs lead wherever an event was counted before
pub goes_on : (f g h : World → Step) (n : ℕ) (old now new : WorldRecord) (before mid after : List ℕ) → 0 < old.events → is_valid_cluster old.cluster ≡ true → ((w : World) → h w ≡ then_step (f w) g)
    → ((v : World) → IsWorld v → StandsFor now v → 0 < v.events → is_valid_cluster (g v).world.cluster ≡ true → IsWorld (g v).world)
    → TookSteps n old now → GoesThrough f old now before mid → IsActedOnce g now new mid after → GoesThrough h old new before after
goes_on f g h n old now new before mid after some valid same kept took through one w is s =
    let t = through w is s in
    let v = (f w).world in
    let d = one.does v t.is t.stands in
    let events : 0 < v.events = subst (λ k. 0 < k) (sym took.events ∙ t.stands.events) some in
    let cluster : is_valid_cluster (g v).world.cluster ≡ true = subst (λ c. is_valid_cluster c ≡ true) (sym took.cluster ∙ sym one.moves.cluster ∙ d.stands.cluster) valid in
    subst (λ x. IsThrough x new before after) (sym (same w)) (record {
      is = kept v t.is t.stands events cluster;
      stands = d.stands;
      text = d.text ∙ ap (λ ts. ts ++ lines_text (g v).lines) t.text ∙ append_assoc before (lines_text (f w).lines) (lines_text (g v).lines) ∙ ap (λ ts. before ++ ts) (sym (lines_append (f w).lines (g v).lines));
    })

pub took_more : (g : World → Step) (n : ℕ) (old now new : WorldRecord) (mid after : List ℕ) → TookSteps n old now → IsActedOnce g now new mid after → TookSteps (n + 1) old new
took_more g n old now new mid after took one = record {
  steps = λ k w. subst (λ j. AreWithin j new) (omega arith) (one.moves.steps (k + n) (took.steps k w));
  events = one.moves.events ∙ took.events;
  cluster = one.moves.cluster ∙ took.cluster;
  pool = one.pool ∙ took.pool;
}

-- each core may take a step still
pub can_go_on : (f : World → Step) (n : ℕ) (old now : WorldRecord) (before mid : List ℕ) → CanMoveLong old → n < event_steps → TookSteps n old now → GoesThrough f old now before mid → CanMove now
can_go_on f n old now before mid can few took through =
    let t = through can.world can.is can.stands in
    let long = can.few in
    record { world = (f can.world).world; is = t.is; stands = t.stands; steps = can.steps + n; few = omega (arith, few, long); within = took.steps can.steps can.within }

pub valid_of : (old : WorldRecord) → CanMoveLong old → is_valid_cluster old.cluster ≡ true
valid_of old can = subst (λ c. is_valid_cluster c ≡ true) (sym can.stands.cluster) can.is.valid

-- All are done
pub all_done : (f : World → Step) (n : ℕ) (old now : WorldRecord) (before after : List ℕ) → n ≤ event_steps → TookSteps n old now → GoesThrough f old now before after → IsActed f old now before after
all_done f n old now before after few took through = record {
  does = λ w is s. let t = through w is s in record { stands = t.stands; text = t.text };
  moves = record { steps = λ k w. all_wider (k + n) (k + event_steps) now (omega (arith, few)) (took.steps k w); events = took.events; cluster = took.cluster };
}

-- Each event that a line can give keeps Good, and Safe follows from it.
use Rattle.std.proofs.Common.{◌≡◌, true, List, [], ◌∷◌, refl, sym, ◌∙◌, ap, subst, arith}
use Rattle.std.specs.List.{AllByRecursion}
use Rattle.fuxi_terms.specs.Cluster.{ClusterRecord, is_valid_cluster}
use Rattle.spec_net.specs.Net.{Net, Packet, Kind, Ack, Delta, Full, Party, Id}
use Rattle.spec_net.specs.Ledgers.{Ledger}
use Rattle.spec_net.specs.Channels.{shape}
use Rattle.spec_net.specs.Sound.{Sound, Bounded, PacketNames, PacketWithin}
use Rattle.spec_world.specs.World.{World, empty_world}
use Rattle.spec_world.specs.Events.{Event, counted_in, world_step}
use Rattle.spec_world.specs.Runs.{run_from, run}
use Rattle.spec_world.specs.EventRanges.{IsInput, is_from_line}
use Rattle.spec_world.specs.Good.{IsHard, Good}
use Rattle.spec_world.specs.Safe.{Safe}
use Rattle.spec_world.proofs.AgreementLemmas.{agent_agrees, app_agrees}
use Rattle.spec_world.proofs.CarriedLemmas.{counts_once}
use Rattle.spec_world.proofs.GivesBackLemmas.{act_given, given_at_start}
use Rattle.spec_world.proofs.InvariantKept.{counted_holds, at_start, table_fits}
use Rattle.spec_world.proofs.JobsKept.{act_has, few_resources}
use Rattle.spec_world.proofs.SettledKept.{act_rests}
use Rattle.spec_world.proofs.KnowledgeKept.{act_known}
use Rattle.spec_world.proofs.RecordsKept.{act_recorded, empty_recorded}
use Rattle.spec_world.proofs.ViewsLemmas.{views_of}

-- one event
record StepIsGood (w w' : World) : Type 0 where
  good : Good w'
  same : w'.cluster ≡ w.cluster

step_good : (w : World) (e : Event) → is_valid_cluster w.cluster ≡ true → is_from_line e ≡ true → Good w → StepIsGood w (world_step w e).world
step_good w e valid line h =
    let j = (act_has w.cluster (few_resources w.cluster valid) (counted_in w) e line (record { same = refl; hard = h.hard })).it in
    let g = (act_given (counted_in w) e (record { inv = counted_holds w h.stands; given = h.given })).it in
    let r = (act_rests (counted_in w) e (record { rests = λ k. record { has = λ M f. h.rests k M f } })).all in
    let k = (act_known (counted_in w) e (record { all = λ n M f. let s = h.stands.masters n M f in record { epoch = s.epoch; ran = s.ran; knows = h.knows n M f } })).it in
    record {
      good = record {
        hard = subst (λ c. IsHard c (world_step w e).world.hard) (sym j.same) j.hard;
        stands = g.inv;
        rests = λ k M f. (r.rests k).has M f;
        knows = λ n M f. (k.all n M f).knows;
        given = g.given;
        recorded = (act_recorded (counted_in w) e (record { masters = h.recorded.masters; agents = h.recorded.agents; apps = h.recorded.apps; below = h.recorded.below; net = h.recorded.net })).it;
      };
      same = j.same;
    }

-- each event keeps it
pub good_kept : (w : World) (e : Event) → is_valid_cluster w.cluster ≡ true → is_from_line e ≡ true → Good w → Good (world_step w e).world
good_kept w e valid line h = (step_good w e valid line h).good

-- the empty world
pub good_at_start : (c : ClusterRecord) → Good (empty_world c)
good_at_start c = record { hard = record { jobs = tt; distinct = tt; few = omega arith }; stands = at_start c; rests = λ e M found. cc; recorded = empty_recorded c; knows = λ e M found. cc; given = record { it = given_at_start } }

-- every run
run_good : (es : List Event) (w : World) → is_valid_cluster w.cluster ≡ true → AllByRecursion (λ e. is_from_line e ≡ true) es → Good w → Good (run_from es w).world
run_good [] w valid lines h = h
run_good (e ∷ es) w valid lines h =
    let s = step_good w e valid lines.0 h in
    run_good es (world_step w e).world (ap is_valid_cluster s.same ∙ valid) lines.1 s.good

-- of an input
pub always_good : (c : ClusterRecord) (es : List Event) → IsInput c es → Good (run c es)
always_good c es i = run_good es (empty_world c) i.cluster i.lines (good_at_start c)

-- Safe. What is sound is within its histories
within : (hs : Party → Id → List Ledger) (k : Kind) (x : Packet) → PacketNames shape hs k x → PacketWithin hs k x
within hs Ack x h = h.there
within hs Delta x h = h.names.there
within hs Full x h = h.names.there

all_within : (hs : Party → Id → List Ledger) (xs : List Packet) → AllByRecursion (λ x. PacketNames shape hs x.kind x) xs → AllByRecursion (λ x. PacketWithin hs x.kind x) xs
all_within hs [] h = tt
all_within hs (x ∷ xs) h = (within hs x.kind x h.0, all_within hs xs h.1)

bounded : (net : Net Ledger) → Sound shape net → Bounded net
bounded net s = record { links = λ p q. record { place = (s.links p q).place.there; acked = (s.links p q).acked.there }; packets = all_within net.histories net.packets s.packets }

-- all five parts
pub safe_of : (w : World) → Good w → Safe w
safe_of w h = record {
  capacity = λ m g found. (table_fits w m g h.stands).fits;
  once = λ a g found m. counts_once w a g m h.stands found;
  views = views_of w.net (bounded w.net h.stands.sound);
  agreement = λ e M found quiet. record {
    agents = λ m g runs a u. agent_agrees w e M m g h.stands found quiet runs a u;
    apps = λ a g runs known u m there. app_agrees w e M a g h.stands found quiet runs known u m there;
  };
  settled = λ e M found a u m. (h.rests e M found).settled a u m;
}

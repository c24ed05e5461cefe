-- What an application holds.
use Rattle.std.proofs.Common.{◌≡◌, ℕ, zero, suc, ◌-◌, ◌*◌, ◌<◌, ◌≤◌, Bool, true, false, cond, nat_lt, min, List, [], ◌∷◌, length, Some, refl, sym, ◌∙◌, ap, subst, arith}
use Rattle.std.specs.List.{sum_by}
use Rattle.std.specs.Option.{option_map}
use Rattle.std.specs.Ordering.{nat_cmp}
use Rattle.std.specs.FinMap.Entries.{find}
use Rattle.std.proofs.lemmas.List.Sums.{sum_by-cons, sum_by-append}
use Rattle.std.proofs.lemmas.Bool.Decides.{nat_tests}
use Rattle.fuxi_terms.specs.Cluster.{ClusterRecord, has_at, has_machine}
use Rattle.fuxi_terms.specs.Counts.{count}
use Rattle.fuxi_terms.specs.Jobs.{KnownJob, size_at}
use Rattle.fuxi_terms.specs.Keys.{key_cmp}
use Rattle.fuxi_terms.specs.Lists.{below}
use Rattle.fuxi_terms.specs.TallyKeys.{count_key}
use Rattle.delta_channel.specs.declared.receiver.Place.{Place}
use Rattle.spec_net.specs.Ledgers.{Ledger, at_key}
use Rattle.spec_net.specs.Channels.{master_id, app_id, party}
use Rattle.spec_roles.specs.HardState.{HardState}
use Rattle.spec_roles.specs.Apps.{AppRole, Carried, names, uncredited, usable_of, held_by}
use Rattle.spec_world.specs.World.{World, App}
use Rattle.spec_world.specs.Good.{Good}
use Rattle.spec_world.specs.Safe.{Safe, grants_at, units_total_at}
use Rattle.spec_net.specs.Sides.{shown}
use Rattle.spec_refinement.specs.SeenWorlds.{app_seen}
use Rattle.peer_channel.specs.Bodies.{tally_of}
use Rattle.app_master.specs.AppCores.{AppCore, StandsFor as AppStandsFor}
use Rattle.app_master.specs.Usable.{is_named, carried_at}
use Rattle.running_parties.specs.Slots.{slot_at}
use Rattle.schedule_replay.specs.Worlds.{WorldRecord, StandsFor}
use Rattle.schedule_replay.specs.CoreReads.{held_now}
use Rattle.schedule_replay.specs.Promises.{IsOfOneEntry, AllHeldOnce}
use Rattle.schedule_replay.proofs.CoresStandFor.{PartiesRun, app_runs}

-- what a core holds is what its application holds
pub held_is : (a : AppCore) (r : AppRole) (u m : ℕ) → AppStandsFor a r → u < a.units → m < a.machines → held_now a u m ≡ held_by r u m
held_is a r u m s lu lm =
    let got : tally_of a.up.incoming.received ≡ r.up.got = sym s.up.got in
    let own : tally_of a.up.outgoing.present ≡ shown r.up = sym s.up.shown in
    λ i. cond (names (got i) m) (usable_of (got i) (own i) (s.up.own i) u m) (s.carried u m lu lm i)

-- a machine of the cluster is one of those that a core knows
pub machine_there : (a : AppCore) (w : World) (n : ℕ) (g : App) (c : ClusterRecord) (m : ℕ) → AppStandsFor a (app_seen w n g) → c ≡ w.cluster → has_machine c m ≡ true → m < a.machines
machine_there a w n g c m s same there =
    let here : nat_lt m (length w.cluster.machines) ≡ true = subst (λ (d : ClusterRecord). has_machine d m ≡ true) same there in
    let wide = s.machines in
    grind (arith, nat_tests, here, wide)

-- sums over the units below a number
pub sums_same : (f g : ℕ → ℕ) (n : ℕ) → ((u : ℕ) → u < n → f u ≡ g u) → sum_by f (below n) ≡ sum_by g (below n)
sums_same f g zero h = refl
sums_same f g (suc n) h =
    let rest = sums_same f g n (λ u lt. h u (omega (arith, lt))) in
    let here = h n (omega arith) in
    rw (sum_by-append f (below n) (n ∷ []), sum_by-append g (below n) (n ∷ []), sum_by-cons f n [], sum_by-cons g n []) (omega (arith, rest, here))

totals_same : (jobs : List KnownJob) (n units i : ℕ) (f g : ℕ → ℕ) → ((u : ℕ) → u < units → f u ≡ g u) → units_total_at jobs n units f i ≡ units_total_at jobs n units g i
totals_same jobs n units i f g h = sums_same (λ u. f u * size_at jobs n u i) (λ u. g u * size_at jobs n u i) units (λ u lt. ap (λ k. k * size_at jobs n u i) (h u lt))

-- of grants that name a machine no more is held there than they count
within : (b : Bool) (x y z : ℕ) → b ≡ true → cond b (x - min x y) z ≤ x
within true x y z t = omega arith
within false x y z t = absurd cc

granted : (a : AppCore) (m u : ℕ) → is_named a.up.incoming.received m ≡ true → held_now a u m ≤ count key_cmp a.up.incoming.received.entries (count_key u m)
granted a m u named = within (is_named a.up.incoming.received m) (count key_cmp a.up.incoming.received.entries (count_key u m))
    (uncredited (tally_of a.up.incoming.received) (tally_of a.up.outgoing.present) a.up.outgoing.own u m) (carried_at a.carried u m) named

-- in a world, each is part of one entry
one_entry : PartiesRun → (r : WorldRecord) (w : World) (n : ℕ) (a : AppCore) (m : ℕ) → StandsFor r w → Safe w → slot_at r.apps n ≡ Some a → has_machine r.cluster m ≡ true → IsOfOneEntry w n a m
one_entry run r w n a m s safe is there =
    let g = app_runs run r w n a s is in
    let p = party (app_id n) g.app.boot in
    let lm = machine_there a w n g.app r.cluster m g.stands s.cluster there in
    let once = (safe.once n g.app g.runs m).once in
    let same : (u : ℕ) → u < a.units → held_now a u m ≡ held_by (app_seen w n g.app) u m = λ u lu. held_is a (app_seen w n g.app) u m g.stands lu lm in
    record {
      app = g.app;
      runs = g.runs;
      own = λ named.
          ap (λ (l : Ledger). cond (names l m) (Some ((w.net.links p master_id).known, (w.net.links p master_id).seq)) (option_map (λ (c : Carried). (c.inc, c.seq)) (find nat_cmp m g.app.carried))) g.stands.up.got
          ∙ ap (λ b. cond b (Some ((w.net.links p master_id).known, (w.net.links p master_id).seq)) (option_map (λ (c : Carried). (c.inc, c.seq)) (find nat_cmp m g.app.carried))) named
          ∙ ap (λ (x : Place). Some (x.inc, x.seq)) (sym g.stands.up.place);
      nowhere = λ none u lu. same u lu ∙ once.nowhere none u;
      counts = λ place at u lu. subst (λ k. k ≤ at_key (grants_at w.net n place) (count_key u m)) (sym (same u lu)) (once.counts place at u);
    }

-- together they fit
held_fits : PartiesRun → (r : WorldRecord) (w : World) (n : ℕ) (a : AppCore) (m i : ℕ) → StandsFor r w → Safe w → slot_at r.apps n ≡ Some a → has_machine r.cluster m ≡ true → i < r.cluster.resources
    → units_total_at r.checkpoint.hard.value.jobs n a.units (λ u. held_now a u m) i ≤ has_at r.cluster m i
held_fits run r w n a m i s safe is there lt =
    let g = app_runs run r w n a s is in
    let lm = machine_there a w n g.app r.cluster m g.stands s.cluster there in
    let jobs : r.checkpoint.hard.value.jobs ≡ w.hard.jobs = ap (λ (h : HardState). h.jobs) s.hard in
    let fits = (safe.once n g.app g.runs m).fits i (subst (λ (c : ClusterRecord). i < c.resources) s.cluster lt) in
    let total : units_total_at r.checkpoint.hard.value.jobs n a.units (λ u. held_now a u m) i ≡ units_total_at w.hard.jobs n g.app.units (λ u. held_by (app_seen w n g.app) u m) i =
    ap (λ (js : List KnownJob). units_total_at js n a.units (λ u. held_now a u m) i) jobs
    ∙ totals_same w.hard.jobs n a.units i (λ u. held_now a u m) (λ u. held_by (app_seen w n g.app) u m) (λ u lu. held_is a (app_seen w n g.app) u m g.stands lu lm)
    ∙ ap (λ k. units_total_at w.hard.jobs n k (λ u. held_by (app_seen w n g.app) u m) i) g.stands.units in
    subst (λ (c : ClusterRecord). units_total_at r.checkpoint.hard.value.jobs n a.units (λ u. held_now a u m) i ≤ has_at c m i) (sym s.cluster)
    (subst (λ k. k ≤ has_at w.cluster m i) (sym total) fits)

pub all_held_once : PartiesRun → (r : WorldRecord) (w : World) → ((v : World) → Good v → Safe v) → StandsFor r w → Good w → AllHeldOnce r
all_held_once run r w safe s good n a is m there = record {
  fits = λ i lt. held_fits run r w n a m i s (safe w good) is there lt;
  granted = λ named u. granted a m u named;
  entry = λ v is_world stands. one_entry run r v n a m stands (safe v is_world.good) is there;
}

-- What the parts of a storm make of the world, where no event passes a limit.
use Rattle.std.proofs.Common.{◌≡◌, ℕ, zero, suc, ◌+◌, ◌<◌, ◌^◌, Bool, true, false, cond, nat_lt, List, [], ◌∷◌, ◌++◌, length, map, Option, Some, None, Result, Ok, Err, refl, sym, ◌∙◌, ap, subst, arith}
use Rattle.std.proofs.lemmas.Bool.Decides.{nat_tests}
use Rattle.std.proofs.lemmas.List.{map-append}
use Rattle.fuxi_terms.specs.Cluster.{ClusterRecord}
use Rattle.fuxi_terms.specs.Counts.{then_do}
use Rattle.fuxi_terms.specs.Lists.{below}
use Rattle.fuxi_terms.proofs.Booleans.{and_true}
use Rattle.spec_roles.specs.HardState.{HardState}
use Rattle.spec_world.specs.World.{World}
use Rattle.spec_world.specs.Events.{Event, DeliverRange, TurnAgent, TurnApp, TurnMaster, world_step}
use Rattle.spec_world.specs.Runs.{run_from}
use Rattle.schedule_replay.specs.declared.stop.WorldStop.{WorldStop}
use Rattle.schedule_replay.specs.WorldSteps.{limit_of}
use Rattle.storm_run.specs.Choices.{counted}
use Rattle.storm_run.specs.Clusters.{storm_cluster}
use Rattle.storm_run.specs.Storms.{all_taken, closed, delivered, each, master_turned, peers_turned, round, rounds, taken, unless_past, with_delivery}
use Rattle.spec_progress.specs.CalmRounds.{IsAsBefore, calm_rounds, delivered_since, master_tells, peers_tell, peers_turn}
use Rattle.spec_progress.specs.CalmRounds as calm

-- one thing done, and then another
pub record Did {A B E : Type 0} (r : Result A E) (f : A → Result B E) (y : B) : Type 0 where
  pub value : A
  pub first : r ≡ Ok value
  pub behind : f value ≡ Ok y

pub did : {A B E : Type 0} (r : Result A E) (f : A → Result B E) (y : B) → then_do r f ≡ Ok y → Did r f y
did (Ok x) f y e = record { value = x; first = refl; behind = e }
did (Err s) f y e = cc

-- an event that was taken
pub taken_is : (w w' : World) (e : Event) → taken w e ≡ Ok w' → w' ≡ (world_step w e).world
taken_is w w' e t = by (limit_of w (world_step w e).world) t
  where
    by : (o : Option WorldStop) → unless_past (world_step w e).world o ≡ Ok w' → w' ≡ (world_step w e).world
    by None t = let same : (world_step w e).world ≡ w' = cc in sym same
    by (Some stop) t = cc

pub run_append : (es fs : List Event) (w : World) → (run_from (es ++ fs) w).world ≡ (run_from fs (run_from es w).world).world
run_append [] fs w = refl
run_append (e ∷ es) fs w = run_append es fs (world_step w e).world

-- one for each number
pub each_is : (n : ℕ) (f : ℕ → Event) (w w' : World) → each n (λ m w. taken w (f m)) w ≡ Ok w' → w' ≡ (run_from (map f (below n)) w).world
each_is zero f w w' e = let same : w ≡ w' = cc in sym same
each_is (suc n) f w w' e =
    let d = did (each n (λ m w. taken w (f m)) w) (λ w. taken w (f n)) w' e in
    taken_is d.value w' (f n) d.behind ∙ ap (λ v. (world_step v (f n)).world) (each_is n f w d.value d.first)
    ∙ sym (run_append (map f (below n)) (f n ∷ []) w) ∙ ap (λ es. (run_from es w).world) (sym (map-append f (below n) (n ∷ [])))

-- The closing rounds are calm rounds
delivered_is : (before : ℕ) (w w' : World) → delivered before w ≡ Ok w' → w' ≡ delivered_since before w
delivered_is before w w' e = by (nat_lt before (length w.net.packets)) e
  where
    by : (b : Bool) → cond b (taken w (DeliverRange (before + 1) (length w.net.packets))) (Ok w) ≡ Ok w' → w' ≡ cond b (world_step w (DeliverRange (before + 1) (length w.net.packets))).world w
    by true e = taken_is w w' (DeliverRange (before + 1) (length w.net.packets)) e
    by false e = let same : w ≡ w' = cc in sym same

with_delivery_is : (f : World → Result World WorldStop) (es : List Event) (w w' : World) → ((v : World) → f w ≡ Ok v → v ≡ (run_from es w).world) → with_delivery f w ≡ Ok w' → w' ≡ calm.with_delivery es w
with_delivery_is f es w w' h e =
    let d = did (f w) (delivered (length w.net.packets)) w' e in
    delivered_is (length w.net.packets) d.value w' d.behind ∙ ap (delivered_since (length w.net.packets)) (h d.value d.first)

counted_is : (n : ℕ) (f : ℕ → Event) → 0 < n → n < 2 ^ 64 → counted n f ≡ f n ∷ []
counted_is n f some few =
    let a : nat_lt 0 n ≡ true = grind (arith, nat_tests, some) in
    let b : nat_lt n (2 ^ 64) ≡ true = grind (arith, nat_tests, few) in
    ap (λ t. cond t (f n ∷ []) []) (and_true (nat_lt 0 n) (nat_lt n (2 ^ 64)) a b)

master_is : (w w' : World) → 0 < w.hard.fence → w.hard.fence < 2 ^ 64 → with_delivery master_turned w ≡ Ok w' → w' ≡ master_tells w
master_is w w' some few e = with_delivery_is master_turned (TurnMaster w.hard.fence ∷ []) w w' turned e
  where
    turned : (v : World) → all_taken (counted w.hard.fence TurnMaster) w ≡ Ok v → v ≡ (run_from (TurnMaster w.hard.fence ∷ []) w).world
    turned v t =
        let d = did (taken w (TurnMaster w.hard.fence)) (all_taken []) v (sym (ap (λ es. all_taken es w) (counted_is w.hard.fence TurnMaster some few)) ∙ t) in
        let same : d.value ≡ v = (let x = d.behind in cc) in
        sym same ∙ taken_is w d.value (TurnMaster w.hard.fence) d.first

peers_are : (w w' : World) → w.cluster ≡ storm_cluster → with_delivery peers_turned w ≡ Ok w' → w' ≡ peers_tell (below 3) w
unfolding peers_turned
peers_are w w' cluster e = with_delivery_is peers_turned (peers_turn (below 3) w) w w' turned e
  where
    turned : (v : World) → then_do (each 8 (λ m w. taken w (TurnAgent m)) w) (each 3 (λ a w. taken w (TurnApp a))) ≡ Ok v → v ≡ (run_from (peers_turn (below 3) w) w).world
    turned v t =
        let d = did (each 8 (λ m w. taken w (TurnAgent m)) w) (each 3 (λ a w. taken w (TurnApp a))) v t in
        each_is 3 TurnApp d.value v d.behind ∙ ap (λ u. (run_from (map TurnApp (below 3)) u).world) (each_is 8 TurnAgent w d.value d.first)
        ∙ sym (run_append (map TurnAgent (below 8)) (map TurnApp (below 3)) w)
        ∙ ap (λ (c : ClusterRecord). (run_from (map TurnAgent (below (length c.machines)) ++ map TurnApp (below 3)) w).world) (sym cluster)

-- with what calm rounds leave as it was
module _ (w : World) (cluster : w.cluster ≡ storm_cluster) (some : 0 < w.hard.fence) (few : w.hard.fence < 2 ^ 64)
    (keeps : (n : ℕ) → IsAsBefore w (calm_rounds n (below 3) w) × IsAsBefore w (calm.closed n (below 3) w)) where
  some_at : (n : ℕ) → 0 < (calm_rounds n (below 3) w).hard.fence
  some_at n = subst (λ (h : HardState). 0 < h.fence) (sym (keeps n).0.hard) some

  few_at : (n : ℕ) → (calm_rounds n (below 3) w).hard.fence < 2 ^ 64
  few_at n = subst (λ (h : HardState). h.fence < 2 ^ 64) (sym (keeps n).0.hard) few

  rounds_are : (n : ℕ) (v : World) → rounds n w ≡ Ok v → v ≡ calm_rounds n (below 3) w
  rounds_are zero v e = let same : w ≡ v = cc in sym same
  rounds_are (suc n) v e =
      let d = did (rounds n w) round v e in
      let u = calm_rounds n (below 3) w in
      let at : round u ≡ Ok v = subst (λ (x : World). round x ≡ Ok v) (rounds_are n d.value d.first) d.behind in
      let k = did (with_delivery master_turned u) (with_delivery peers_turned) v at in
      let told = master_is u k.value (some_at n) (few_at n) k.first in
      peers_are (master_tells u) v ((keeps n).1.cluster ∙ cluster) (subst (λ (x : World). with_delivery peers_turned x ≡ Ok v) told k.behind)

  pub closed_is : (v : World) → closed w ≡ Ok v → v ≡ calm.closed 8 (below 3) w
  unfolding closed
  closed_is v e =
      let d = did (rounds 8 w) (with_delivery master_turned) v e in
      master_is (calm_rounds 8 (below 3) w) v (some_at 8) (few_at 8) (subst (λ (x : World). with_delivery master_turned x ≡ Ok v) (rounds_are 8 d.value d.first) d.behind)

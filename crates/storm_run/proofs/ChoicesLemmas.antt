-- The events of a step, and packets that were sent since.
use Rattle.std.proofs.Common.{◌≡◌, ℕ, ◌+◌, ◌^◌, ◌<◌, ◌≤◌, true, false, cond, nat_lt, [], ◌∷◌, length, Some, Ok, Result, refl, sym, ◌∙◌, ap, subst, arith}
use Rattle.std.specs.Ordering.{nat_cmp}
use Rattle.std.specs.FinMap.Entries.{find}
use Rattle.std.proofs.lemmas.Bool.Decides.{nat_tests}
use Rattle.spec_net.specs.Channels.{agent_id}
use Rattle.spec_roles.specs.Refusals.{with_found}
use Rattle.spec_world.specs.World.{World, Agent}
use Rattle.spec_world.specs.Events.{Event, StartAgent, DeliverRange}
use Rattle.schedule_replay.specs.declared.stop.WorldStop.{WorldStop}
use Rattle.schedule_replay.specs.Worlds.{WorldRecord, StandsFor}
use Rattle.storm_run.specs.Choices.{counted, restart}
use Rattle.storm_run.specs.Storms.{taken, delivered, with_delivery}
use Rattle.storm_run.specs.StormRuns.{Runs}
use Rattle.storm_run.proofs.StormsLemmas.{Part, then_ran}

pub counted_some : (n : ℕ) (f : ℕ → Event) → 0 < n → n < 2 ^ 64 → counted n f ≡ f n ∷ []
counted_some n f low high =
    let l : nat_lt 0 n ≡ true = grind (arith, nat_tests) in
    let h : nat_lt n (2 ^ 64) ≡ true = grind (arith, nat_tests) in
    rw (l, h) refl

-- the agent that runs there starts with one more than its boot, which is its last
pub restart_there : (w : World) (m b : ℕ) (g : Agent) → find nat_cmp m w.agents ≡ Some g → g.boot ≡ w.boots (agent_id m) → b ≡ g.boot + 1 → b < 2 ^ 64 → StartAgent m b ∷ [] ≡ restart w m
restart_there w m b g runs last is high =
    let next : b ≡ w.boots (agent_id m) + 1 = is ∙ ap (λ n. n + 1) last in
    let some : counted b (StartAgent m) ≡ StartAgent m b ∷ [] = counted_some b (StartAgent m) (omega (arith, next)) high in
    sym some ∙ ap (λ n. counted n (StartAgent m)) next ∙ sym (ap (λ o. with_found o [] (λ g. counted (w.boots (agent_id m) + 1) (StartAgent m))) runs)

-- what was sent since there were so many packets
pub none_since : (before : ℕ) (w : World) → length w.net.packets ≤ before → delivered before w ≡ Ok w
none_since before w le = let l : nat_lt before (length w.net.packets) ≡ false = grind (arith, nat_tests) in rw l refl

pub some_since : (before n : ℕ) (w : World) → before < n → n ≡ length w.net.packets → taken w (DeliverRange (before + 1) n) ≡ delivered before w
some_since before n w lt is =
    let l : nat_lt before n ≡ true = grind (arith, nat_tests) in
    subst (λ k. taken w (DeliverRange (before + 1) n) ≡ cond (nat_lt before k) (taken w (DeliverRange (before + 1) k)) (Ok w)) is (rw l refl)

pub delivering : (f : Part) (old mid : WorldRecord) (result : Result WorldRecord WorldStop) (before : ℕ) → ((w : World) → StandsFor old w → before ≡ length w.net.packets)
    → Runs f old (Ok mid) → Runs (delivered before) mid result → Runs (with_delivery f) old result
delivering f old mid result before is ran since =
    then_ran f (λ w. delivered (length w.net.packets)) old mid result ran (λ w good stands. subst (λ n. Runs (delivered n) mid result) (is w stands) since)

-- A storm ends quiet.
use Rattle.std.proofs.Common.{◌≡◌, ℕ, zero, suc, ◌+◌, ◌-◌, ◌<◌, ◌≤◌, ◌^◌, Bool, true, false, cond, nat_eq, nat_lt, List, [], ◌∷◌, ◌++◌, length, map, mod-lt, Option, Some, None, Ok, is_some, codes, refl, sym, ◌∙◌, ap, subst, arith}
use Rattle.std.specs.Prelude.{◌&&◌}
use Rattle.std.specs.List.{AllByRecursion, list_all}
use Rattle.std.specs.Ordering.{nat_cmp, eq_by_cmp}
use Rattle.std.specs.FinMap.Entries.{find}
use Rattle.std.proofs.lemmas.Bool.Decides.{nat_tests}
use Rattle.fuxi_terms.specs.Cluster.{ClusterRecord, has_machine}
use Rattle.fuxi_terms.specs.Counts.{then_do}
use Rattle.fuxi_terms.specs.Lists.{below}
use Rattle.fuxi_terms.specs.Numbers.{has_number}
use Rattle.fuxi_terms.proofs.Alls.{all_append}
use Rattle.fuxi_terms.proofs.Booleans.{both_true}
use Rattle.spec_net.specs.Channels.{agent_id}
use Rattle.spec_roles.specs.HardState.{HardState}
use Rattle.spec_roles.specs.Refusals.{with_found}
use Rattle.spec_world.specs.World.{World, Agent, App, empty_world}
use Rattle.spec_world.specs.Events.{Event, StartMaster, StopMaster, StartAgent, StartApp, Submit, Begin, Preempt, Want, Near, GiveBack, TurnMaster, TurnAgent, TurnApp, ResyncMaster, Deliver, counted_in, world_step}
use Rattle.spec_world.specs.EventRanges.{IsInput, is_from_line}
use Rattle.spec_world.specs.Quiet.{is_quiet}
use Rattle.spec_world.specs.Runs.{run, run_from}
use Rattle.spec_world.proofs.JobsKept.{run_cluster}
use Rattle.storm_run.specs.declared.choices.Move.{Move}
use Rattle.storm_run.specs.declared.choices.Move.TheVariants as move
use Rattle.storm_run.specs.declared.counts.Count.TheVariants.{Granted, Held, Rows}
use Rattle.storm_run.specs.Choices.{Chosen, chosen, chosen_by, counted, failover, move_at, restart, trouble}
use Rattle.storm_run.specs.Clusters.{storm_cluster}
use Rattle.storm_run.specs.Generators.{drawn, next, number}
use Rattle.storm_run.specs.Storms.{Storm, all_stepped, all_taken, closed, each, job, opened, stepped, storm, storm_at, submitted, taken}
use Rattle.storm_run.specs.Summaries.{answer, count_lines, line, storm_of, summary}
use Rattle.spec_progress.specs.CalmRounds.{CalmBringsQuiet, CalmKeeps}
use Rattle.spec_progress.specs.CalmRounds as calm
use Rattle.storm_run.specs.StormEnds.{EndsQuiet, EndsWith}
use Rattle.storm_run.proofs.BefallsLemmas.{Facts, Harmless, befalls}
use Rattle.storm_run.proofs.TakenLemmas.{Did, closed_is, did, each_is, run_append, taken_is}

-- a world of a storm: an input leads to it
pub record InStorm (w : World) : Type 0 where
  pub events : List Event
  pub input : IsInput storm_cluster events
  pub is : w ≡ run storm_cluster events
  pub facts : Facts w

-- The first events
abbrev opening : List Event
opening = StartMaster 1 ∷ (map (λ m. StartAgent m 1) (below 8) ++ (Submit 1 (job 0 0 5 (100 ∷ 400 ∷ [])) ∷ Submit 1 (job 1 0 3 (200 ∷ 300 ∷ [])) ∷ Submit 1 (job 2 1 4 (50 ∷ 700 ∷ [])) ∷ []) ++ map (λ a. StartApp a 1) (below 3))

opened_is : (w : World) → opened (empty_world storm_cluster) ≡ Ok w → w ≡ run storm_cluster opening
unfolding opened
opened_is w e =
    let e0 = empty_world storm_cluster in
    let a = did (taken e0 (StartMaster 1)) (λ w. then_do (each 8 (λ m w. taken w (StartAgent m 1)) w) (λ w. then_do (submitted w) (each 3 (λ a w. taken w (StartApp a 1))))) w e in
    let b = did (each 8 (λ m w. taken w (StartAgent m 1)) a.value) (λ w. then_do (submitted w) (each 3 (λ a w. taken w (StartApp a 1)))) w a.behind in
    let c = did (submitted b.value) (each 3 (λ a w. taken w (StartApp a 1))) w b.behind in
    let s1 = did (taken b.value (Submit 1 (job 0 0 5 (100 ∷ 400 ∷ [])))) (λ w. then_do (taken w (Submit 1 (job 1 0 3 (200 ∷ 300 ∷ [])))) (λ w. taken w (Submit 1 (job 2 1 4 (50 ∷ 700 ∷ []))))) c.value c.first in
    let s2 = did (taken s1.value (Submit 1 (job 1 0 3 (200 ∷ 300 ∷ [])))) (λ w. taken w (Submit 1 (job 2 1 4 (50 ∷ 700 ∷ [])))) c.value s1.behind in
    each_is 3 (λ a. StartApp a 1) c.value w c.behind
    ∙ ap (λ v. (run_from (map (λ a. StartApp a 1) (below 3)) v).world)
    (taken_is s2.value c.value (Submit 1 (job 2 1 4 (50 ∷ 700 ∷ []))) s2.behind
    ∙ ap (λ v. (world_step v (Submit 1 (job 2 1 4 (50 ∷ 700 ∷ [])))).world) (taken_is s1.value s2.value (Submit 1 (job 1 0 3 (200 ∷ 300 ∷ []))) s2.first
    ∙ ap (λ v. (world_step v (Submit 1 (job 1 0 3 (200 ∷ 300 ∷ [])))).world) (taken_is b.value s1.value (Submit 1 (job 0 0 5 (100 ∷ 400 ∷ []))) s1.first
    ∙ ap (λ v. (world_step v (Submit 1 (job 0 0 5 (100 ∷ 400 ∷ [])))).world) (each_is 8 (λ m. StartAgent m 1) a.value b.value b.first
    ∙ ap (λ v. (run_from (map (λ m. StartAgent m 1) (below 8)) v).world) (taken_is e0 a.value (StartMaster 1) a.first)))))

from_all : (es : List Event) → list_all is_from_line es ≡ true → AllByRecursion (λ e. is_from_line e ≡ true) es
from_all [] h = tt
from_all (e ∷ es) h = let b = both_true (is_from_line e) (list_all is_from_line es) h in (b.0, from_all es b.1)

found_named : (es : List (ℕ × App)) → AllByRecursion (λ e. has_number e.0 (below 3) ≡ true) es → (a : ℕ) (g : App) → find nat_cmp a es ≡ Some g → has_number a (below 3) ≡ true
found_named [] h a g f = cc
found_named (e ∷ es) h a g f = by (λ k. found_named es h.1 a g k) (eq_by_cmp nat_cmp a e.0) refl f
  where
    by : (find nat_cmp a es ≡ Some g → has_number a (below 3) ≡ true) → (b : Bool) → eq_by_cmp nat_cmp a e.0 ≡ b → cond b (Some e.1) (find nat_cmp a es) ≡ Some g → has_number a (below 3) ≡ true
    by rest true t k = let same : a ≡ e.0 = grind (arith, nat_tests, t) in subst (λ n. has_number n (below 3) ≡ true) (sym same) h.0
    by rest false t k = rest k

abbrev first_world : World
first_world = run storm_cluster opening

opening_facts : Facts first_world
opening_facts = record {
  manned = record { master = refl; agents = agents };
  named = record { named = apps };
  first = omega arith;
  few = (let t : nat_lt 1 (2 ^ 64) ≡ true = refl in grind (arith, nat_tests, t));
}
  where
    agents : (m : ℕ) → has_machine first_world.cluster m ≡ true → is_some (find nat_cmp m first_world.agents) ≡ true
    agents zero t = refl
    agents (suc zero) t = refl
    agents (suc (suc zero)) t = refl
    agents (suc (suc (suc zero))) t = refl
    agents (suc (suc (suc (suc zero)))) t = refl
    agents (suc (suc (suc (suc (suc zero))))) t = refl
    agents (suc (suc (suc (suc (suc (suc zero)))))) t = refl
    agents (suc (suc (suc (suc (suc (suc (suc zero))))))) t = refl
    agents (suc (suc (suc (suc (suc (suc (suc (suc m)))))))) t = absurd (let f : suc (suc (suc (suc (suc (suc (suc (suc m))))))) < 8 = grind (arith, nat_tests, t) in omega (arith, f))

    apps : (a : ℕ) (g : App) → find nat_cmp a first_world.apps ≡ Some g → has_number a (below 3) ≡ true
    apps a g f = found_named first_world.apps (refl, (refl, (refl, tt))) a g f

opened_in : (w : World) → opened (empty_world storm_cluster) ≡ Ok w → InStorm w
opened_in w e = let is = opened_is w e in record {
  events = opening;
  input = record { cluster = refl; lines = from_all opening refl };
  is = is;
  facts = subst Facts (sym is) opening_facts;
}

-- One event more
counts : (w : World) → Facts w → Facts (counted_in w)
counts w f = record { manned = record { master = f.manned.master; agents = f.manned.agents }; named = record { named = f.named.named }; first = f.first; few = f.few }

one_more : (w w' : World) (e : Event) → InStorm w → is_from_line e ≡ true → Harmless w.hard.fence e → taken w e ≡ Ok w' → InStorm w'
one_more w w' e s line harmless t =
    let is = taken_is w w' e t in
    record {
      events = s.events ++ e ∷ [];
      input = record { cluster = s.input.cluster; lines = all_append (λ e. is_from_line e ≡ true) s.events (e ∷ []) s.input.lines (line, tt) };
      is = is ∙ ap (λ v. (world_step v e).world) s.is ∙ sym (run_append s.events (e ∷ []) (empty_world storm_cluster));
      facts = subst Facts (sym is) (befalls (counted_in w) (counts w s.facts) e harmless);
    }

-- events that may befall a world, whatever it has become of those before
abbrev MayBefall : ℕ → Event → Type 0
MayBefall fence e = (is_from_line e ≡ true) × Harmless fence e

none_taken : (w w' : World) → InStorm w → all_taken [] w ≡ Ok w' → InStorm w'
none_taken w w' s t = let same : w ≡ w' = cc in subst InStorm same s

one_taken : (w w' : World) (e : Event) → InStorm w → MayBefall w.hard.fence e → all_taken (e ∷ []) w ≡ Ok w' → InStorm w'
one_taken w w' e s may t = let d = did (taken w e) (all_taken []) w' t in none_taken d.value w' (one_more w d.value e s may.0 may.1 d.first) d.behind

-- an event of an epoch or a boot, where that is one
counted_taken : (w w' : World) (n : ℕ) (f : ℕ → Event) → InStorm w → (0 < n → n < 2 ^ 64 → MayBefall w.hard.fence (f n)) → all_taken (counted n f) w ≡ Ok w' → InStorm w'
counted_taken w w' n f s may t = by (nat_lt 0 n && nat_lt n (2 ^ 64)) refl t
  where
    by : (b : Bool) → (nat_lt 0 n && nat_lt n (2 ^ 64)) ≡ b → all_taken (cond b (f n ∷ []) []) w ≡ Ok w' → InStorm w'
    by true e t =
        let b = both_true (nat_lt 0 n) (nat_lt n (2 ^ 64)) e in
        let b0 = b.0 in
        let b1 = b.1 in
        one_taken w w' (f n) s (may (grind (arith, nat_tests, b0)) (grind (arith, nat_tests, b1))) t
    by false e t = none_taken w w' s t

counted_line : (n : ℕ) → 0 < n → nat_lt 0 n ≡ true
counted_line n some = grind (arith, nat_tests, some)

both_taken : (xs ys : List Event) (w w' : World) → all_taken (xs ++ ys) w ≡ Ok w' → Did (all_taken xs w) (all_taken ys) w'
both_taken [] ys w w' t = record { value = w; first = refl; behind = t }
both_taken (x ∷ xs) ys w w' t =
    let d = did (taken w x) (all_taken (xs ++ ys)) w' t in
    let r = both_taken xs ys d.value w' d.behind in
    record { value = r.value; first = ap (λ o. then_do o (all_taken xs)) d.first ∙ r.first; behind = r.behind }

failover_taken : (w w' : World) → InStorm w → all_taken (failover w.hard.fence) w ≡ Ok w' → InStorm w'
failover_taken w w' s t =
    let d = both_taken (counted (w.hard.fence - 1) StopMaster) (counted (w.hard.fence + 1) StartMaster) w w' t in
    let stopped = counted_taken w d.value (w.hard.fence - 1) StopMaster s (λ some few. (counted_line (w.hard.fence - 1) some, omega (arith, some))) d.first in
    counted_taken d.value w' (w.hard.fence + 1) StartMaster stopped (λ some few. (counted_line (w.hard.fence + 1) some, (some, few))) d.behind

trouble_taken : (n : ℕ) (w w' : World) → InStorm w → all_taken (trouble n w.hard.fence) w ≡ Ok w' → InStorm w'
trouble_taken n w w' s t = by (nat_eq n 0) (nat_eq n 1) (nat_eq n 2) (nat_eq n 3) t
  where
    by : (a b c d : Bool) → all_taken (cond a (failover w.hard.fence) (cond b (counted w.hard.fence Preempt) (cond c (counted w.hard.fence Begin) (cond d (counted w.hard.fence ResyncMaster) [])))) w ≡ Ok w' → InStorm w'
    by true b c d t = failover_taken w w' s t
    by false true c d t = counted_taken w w' w.hard.fence Preempt s (λ some few. (counted_line w.hard.fence some, tt)) t
    by false false true d t = counted_taken w w' w.hard.fence Begin s (λ some few. (counted_line w.hard.fence some, tt)) t
    by false false false true t = counted_taken w w' w.hard.fence ResyncMaster s (λ some few. (counted_line w.hard.fence some, tt)) t
    by false false false false t = none_taken w w' s t

-- numbers that are drawn
small : (bound x most : ℕ) → 0 < bound → bound ≤ most → nat_lt (drawn bound x) most ≡ true
small bound x most some le = let lt : drawn bound x < bound = mod-lt (number x) some in grind (arith, nat_tests, lt, le)

chosen_taken : (m : Move) (w w' : World) (x : ℕ) → InStorm w → all_taken (chosen_by m w x).events w ≡ Ok w' → InStorm w'
chosen_taken move.Deliver w w' x s t = by (nat_eq (length w.net.packets) 0) t
  where
    by : (b : Bool) → all_taken (cond {A = Chosen} b (record { events = []; generator = x }) (record { events = Deliver (1 + drawn (length w.net.packets) x) ∷ []; generator = next x })).events w ≡ Ok w' → InStorm w'
    by true t = none_taken w w' s t
    by false t = one_taken w w' (Deliver (1 + drawn (length w.net.packets) x)) s (counted_line (1 + drawn (length w.net.packets) x) (omega arith), tt) t
chosen_taken move.TurnMaster w w' x s t = counted_taken w w' w.hard.fence TurnMaster s (λ some few. (counted_line w.hard.fence some, tt)) t
chosen_taken move.TurnAgent w w' x s t = one_taken w w' (TurnAgent (drawn 8 x)) s (small 8 x 256 (omega arith) (omega arith), tt) t
chosen_taken move.TurnApp w w' x s t = one_taken w w' (TurnApp (drawn 3 x)) s (small 3 x 256 (omega arith) (omega arith), tt) t
chosen_taken move.Want w w' x s t = one_taken w w' (Want (drawn 3 x) 0 (drawn 41 (next x))) s (ap (λ b. b && true) (small 3 x 256 (omega arith) (omega arith)), tt) t
chosen_taken move.Near w w' x s t = one_taken w w' (Near (drawn 3 x) 0 (drawn 8 (next x)) (drawn 5 (next (next x)))) s ((λ i. small 3 x 256 (omega arith) (omega arith) i && (true && small 8 (next x) 256 (omega arith) (omega arith) i)), tt) t
chosen_taken move.GiveBack w w' x s t = one_taken w w' (GiveBack (drawn 3 x) 0 (drawn 8 (next x)) 1) s ((λ i. small 3 x 256 (omega arith) (omega arith) i && (true && small 8 (next x) 256 (omega arith) (omega arith) i)), tt) t
chosen_taken move.Restart w w' x s t = by (nat_eq (drawn 10 (next x)) 0) t
  where
    found : (o : Option Agent) → all_taken (with_found o [] (λ g. counted (w.boots (agent_id (drawn 8 x)) + 1) (StartAgent (drawn 8 x)))) w ≡ Ok w' → InStorm w'
    found None t = none_taken w w' s t
    found (Some g) t = counted_taken w w' (w.boots (agent_id (drawn 8 x)) + 1) (StartAgent (drawn 8 x)) s (λ some few. ((λ i. small 8 x 256 (omega arith) (omega arith) i && counted_line (w.boots (agent_id (drawn 8 x)) + 1) some i), tt)) t

    by : (b : Bool) → all_taken (cond b (restart w (drawn 8 x)) []) w ≡ Ok w' → InStorm w'
    by true t = found (find nat_cmp (drawn 8 x) w.agents) t
    by false t = none_taken w w' s t
chosen_taken move.Trouble w w' x s t = trouble_taken (drawn 10 x) w w' s t

-- Steps
step_in : (s t : Storm) → InStorm s.world → stepped s ≡ Ok t → InStorm t.world
step_in s t i e =
    let c = chosen s.world s.generator in
    let d = did (all_taken c.events s.world) (λ w. Ok (storm_at w c.generator)) t e in
    let same : storm_at d.value c.generator ≡ t = (let b = d.behind in cc) in
    subst (λ (u : Storm). InStorm u.world) same (chosen_taken (move_at (drawn 12 s.generator)) s.world d.value (next s.generator) i d.first)

steps_in : (n : ℕ) (s t : Storm) → InStorm s.world → all_stepped n s ≡ Ok t → InStorm t.world
steps_in zero s t i e = let same : s ≡ t = cc in subst (λ (u : Storm). InStorm u.world) same i
steps_in (suc n) s t i e = let d = did (all_stepped n s) stepped t e in step_in d.value t (steps_in n s d.value i d.first) d.behind

-- The end
ends_behind : (end s t : List ℕ) → EndsWith end t → EndsWith end (s ++ t)
ends_behind end s t e = record { front = s ++ e.front; is = ap (λ l. s ++ l) e.is ∙ sym (assoc s e.front end) }
  where
    assoc : (ks ls ms : List ℕ) → (ks ++ ls) ++ ms ≡ ks ++ (ls ++ ms)
    assoc [] ls ms = refl
    assoc (k ∷ ks) ls ms = ap (λ l. k ∷ l) (assoc ks ls ms)

summary_ends : (seed steps : ℕ) (w : World) → is_quiet w w.hard.fence ≡ true → EndsQuiet (summary seed steps w)
unfolding summary
summary_ends seed steps w quiet =
    let end = codes "quiet yes\n" in
    let last : List ℕ = answer (is_quiet w w.hard.fence) in
    let rows : List ℕ = count_lines Rows 8 w in
    let held : List ℕ = count_lines Held 3 w in
    let granted : List ℕ = count_lines Granted 3 w in
    let fence : List ℕ = line (codes "fence") (w.hard.fence ∷ []) in
    let packets : List ℕ = line (codes "packets") (length w.net.packets ∷ []) in
    let events : List ℕ = line (codes "events") (w.events ∷ []) in
    let name : List ℕ = line (codes "storm") (seed ∷ steps ∷ []) in
    let a : EndsWith end last = record { front = []; is = ap answer quiet } in
    let b = ends_behind end rows last a in
    let c = ends_behind end held (rows ++ last) b in
    let d = ends_behind end granted (held ++ (rows ++ last)) c in
    let e = ends_behind end fence (granted ++ (held ++ (rows ++ last))) d in
    let f = ends_behind end packets (fence ++ (granted ++ (held ++ (rows ++ last)))) e in
    let g = ends_behind end events (packets ++ (fence ++ (granted ++ (held ++ (rows ++ last))))) f in
    ends_behind end name (events ++ (packets ++ (fence ++ (granted ++ (held ++ (rows ++ last)))))) g

module _ (law : (c : ClusterRecord) (es : List Event) → IsInput c es → CalmBringsQuiet c es) (keeps : (c : ClusterRecord) (es : List Event) → IsInput c es → CalmKeeps c es) where
  closed_quiet : (w v : World) → InStorm w → closed w ≡ Ok v → is_quiet v v.hard.fence ≡ true
  closed_quiet w v s e =
      let r = run storm_cluster s.events in
      let facts : Facts r = subst Facts s.is s.facts in
      let k = keeps storm_cluster s.events s.input facts.manned (below 3) facts.named in
      let calmed = law storm_cluster s.events s.input facts.manned (below 3) facts.named 8 (omega arith) in
      let is : v ≡ calm.closed 8 (below 3) r = closed_is r (run_cluster storm_cluster s.events s.input) facts.first facts.few k v (subst (λ (u : World). closed u ≡ Ok v) s.is e) in
      subst (λ (u : World). is_quiet u u.hard.fence ≡ true) (sym is) (ap (λ (h : HardState). is_quiet (calm.closed 8 (below 3) r) h.fence) (k 8).1.hard ∙ calmed.quiet)

  pub storms_end_quiet : (seed steps : ℕ) (text : List ℕ) → storm_of seed steps ≡ Ok text → EndsQuiet text
  storms_end_quiet seed steps text e =
      let d = did (storm seed steps) (λ w. Ok (summary seed steps w)) text e in
      let same : summary seed steps d.value ≡ text = (let b = d.behind in cc) in
      let a = did (opened (empty_world storm_cluster)) (λ w. then_do (all_stepped steps (storm_at w seed)) (λ s. closed s.world)) d.value d.first in
      let b = did (all_stepped steps (storm_at a.value seed)) (λ s. closed s.world) d.value a.behind in
      subst EndsQuiet same (summary_ends seed steps d.value (closed_quiet b.value.world d.value (steps_in steps (storm_at a.value seed) b.value (opened_in a.value a.first) b.first) b.behind))

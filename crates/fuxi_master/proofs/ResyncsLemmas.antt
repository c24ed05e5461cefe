-- Forgetting what peers have acknowledged.
use Rattle.std.proofs.Common.{◌≡◌, ℕ, zero, suc, ◌<◌, ◌≤◌, Bool, true, false, cond, nat_eq, List, [], ◌∷◌, ◌++◌, length, map, Option, Some, None, slice_get, Result, refl, sym, ◌∙◌, ap, subst, arith}
use Rattle.std.specs.Prelude.{◌||◌, ◌&&◌}
use Rattle.std.specs.Option.{is_some, option_map}
use Rattle.std.proofs.lemmas.List.{map-append, length-map}
use Rattle.std.proofs.lemmas.List.Folds.{list_any-append}
use Rattle.std.proofs.lemmas.Option.{slice_get_within}
use Rattle.std.proofs.lemmas.Bool.Decides.{nat_tests}
use Rattle.fuxi_terms.specs.Jobs.{KnownJob, job_of, is_known, job_numbers}
use Rattle.fuxi_terms.specs.Lists.{below}
use Rattle.fuxi_terms.specs.Numbers.{has_number}
use Rattle.fuxi_terms.specs.declared.answers.LedgerFault.{LedgerFault}
use Rattle.fuxi_terms.proofs.Booleans.{eq_turned, or_left, or_right}
use Rattle.fuxi_terms.proofs.Lists.{all_at}
use Rattle.full_sync.specs.Turns.{Endpoint}
use Rattle.spec_net.specs.Net.{Id}
use Rattle.spec_net.specs.Ledgers.{Ledger}
use Rattle.spec_net.specs.Channels.{agent_id, app_id}
use Rattle.spec_net.specs.Sides.{Side, new_side, resynced_side}
use Rattle.spec_roles.specs.Masters.{credited_of}
use Rattle.spec_roles.specs.MasterSteps.{peers, is_one_of}
use Rattle.spec_roles.specs.MasterRoles.{MasterRole, resync_alone, master_resynced}
use Rattle.peer_channel.specs.CoreSides.{IsSide}
use Rattle.grant_table.specs.GrantTables.{as_known}
use Rattle.ledger_updates.specs.Projections.{row_of}
use Rattle.ledger_updates.specs.AllShown.{Down, App, ShowsJob, credited_in}
use Rattle.fuxi_master.specs.Cores.{CoreRecord, IsDown, IsApp, IsCore, IsKept, IsWithin, StandsFor}
use Rattle.fuxi_master.specs.Resyncs.{agent_forgotten, app_forgotten}
use Rattle.fuxi_master.proofs.EndsOfChannels.{stands_at_ends}
use Rattle.fuxi_master.proofs.Indexed.{all_from}
use Rattle.fuxi_master.proofs.PeersSides.{resynced_at}
use Rattle.fuxi_master.proofs.ToldAsHeardLemmas.{told_resynced}
use Rattle.fuxi_terms.proofs.NumbersLemmas.{with_is}

-- Who is among the peers
agent_listed : (m n : ℕ) → m < n → is_one_of (agent_id m) (map agent_id (below n)) ≡ true
agent_listed m zero lt = absurd (omega (arith, lt))
agent_listed m (suc n) lt =
    ap (is_one_of (agent_id m)) (map-append agent_id (below n) (n ∷ []))
    ∙ list_any-append (λ (p : Id). nat_eq p.role 2 && nat_eq p.number m) (map agent_id (below n)) (agent_id n ∷ [])
    ∙ by (nat_eq n m) refl (λ less. agent_listed m n less)
  where
    by : (b : Bool) → nat_eq n m ≡ b → (m < n → is_one_of (agent_id m) (map agent_id (below n)) ≡ true) → (is_one_of (agent_id m) (map agent_id (below n)) || (b || false)) ≡ true
    by true e rest = or_right (is_one_of (agent_id m) (map agent_id (below n))) true refl
    by false e rest = or_left (is_one_of (agent_id m) (map agent_id (below n))) false (rest (grind (arith, nat_tests, lt, e)))

app_listed : (a : ℕ) (ns : List ℕ) → is_one_of (app_id a) (map app_id ns) ≡ has_number a ns
app_listed a [] = refl
app_listed a (n ∷ ns) = λ i. eq_turned n a i || app_listed a ns i

known_listed : (jobs : List KnownJob) (a : ℕ) → is_known jobs a ≡ true → has_number a (job_numbers jobs) ≡ true
known_listed [] a e = cc
known_listed (j ∷ js) a e = with_is a j.job.number (job_numbers js) ∙ by (nat_eq j.job.number a) refl e (λ k. known_listed js a k)
  where
    by : (b : Bool) → nat_eq j.job.number a ≡ b → is_some (cond b (Some j) (job_of js a)) ≡ true → (is_known js a ≡ true → has_number a (job_numbers js) ≡ true) → (nat_eq a j.job.number || has_number a (job_numbers js)) ≡ true
    by true t k rest = or_left (nat_eq a j.job.number) (has_number a (job_numbers js)) (eq_turned a j.job.number ∙ t)
    by false f k rest = or_right (nat_eq a j.job.number) (has_number a (job_numbers js)) (rest k)

listed_both : (q : Id) (xs ys : List Id) (b c : Bool) → is_one_of q xs ≡ b → is_one_of q ys ≡ c → is_one_of q (xs ++ ys) ≡ (b || c)
listed_both q xs ys b c e f = list_any-append (λ (p : Id). nat_eq p.role q.role && nat_eq p.number q.number) xs ys ∙ (λ i. e i || f i)

-- Items of a list to which a function was applied
pub each_was : {A B : Type 0} (P : ℕ → B → Type 0) (f : A → B) (xs : List A) → ((i : ℕ) (x : A) → slice_get xs i ≡ Some x → P i (f x)) → (i : ℕ) (y : B) → slice_get (map f xs) i ≡ Some y → P i y
each_was P f [] h i y e = cc
each_was P f (x ∷ xs) h zero y e = let same : f x ≡ y = cc in subst (P 0) same (h 0 x refl)
each_was P f (x ∷ xs) h (suc i) y e = each_was (λ k. P (suc k)) f xs (λ k z there. h (suc k) z there) i y e

app_was : (Q : ℕ → App → Type 0) (slots : List (Option App)) → ((a : ℕ) (d : App) → slice_get slots a ≡ Some (Some d) → Q a (app_forgotten d)) → (a : ℕ) (d : App) → slice_get (map (option_map app_forgotten) slots) a ≡ Some (Some d) → Q a d
app_was Q slots h a d e = each_was (λ a (o : Option App). (d : App) → o ≡ Some d → Q a d) (option_map app_forgotten) slots (λ k o there. by k o there) a (Some d) e d refl
  where
    by : (k : ℕ) (o : Option App) → slice_get slots k ≡ Some o → (d : App) → option_map app_forgotten o ≡ Some d → Q k d
    by k None there d e = cc
    by k (Some b) there d e = let same : app_forgotten b ≡ d = cc in subst (Q k) same (h k b there)

-- A side of which the end forgets what was acknowledged
side_forgotten : {V D W : Type 0} (nothing : V) (patched : V → D → Result V LedgerFault) (valid : V → Type 0) (out : V → Ledger) (inward : W → Ledger) (d : Endpoint V D W) (inc : ℕ) (e : Side)
    → IsSide nothing patched valid out inward d inc e → IsSide nothing patched valid out inward (record { outgoing = d.outgoing; incoming = d.incoming; acked = 0 }) inc (resynced_side e)
side_forgotten nothing patched valid out inward d inc e s =
    record { own = s.own; place = s.place; acked = refl; got = s.got; last = s.last; shown = s.shown; ledgers = s.ledgers; sent = s.sent; stands = s.stands; all_valid = s.all_valid }

module _ (x : CoreRecord) where
  abbrev pub forgotten : CoreRecord
  forgotten = record x { agents = map agent_forgotten x.agents; apps = map (option_map app_forgotten) x.apps }

  module _ (kept : IsKept x) where
    pub stands_forgotten : (r : MasterRole) → StandsFor x r → StandsFor forgotten (master_resynced r)
    stands_forgotten r h = stands_at_ends x r h (map agent_forgotten x.agents) (map (option_map app_forgotten) x.apps) after
        (each_was (λ m (d : Down). IsDown d x.epoch (after (agent_id m))) agent_forgotten x.agents (λ m d there.
        subst (IsDown (agent_forgotten d) x.epoch) (sym (at (agent_id m) ∙ ap (λ b. cond b (resynced_side (r.sides (agent_id m))) (r.sides (agent_id m))) (agent_here m d there)))
        (side_forgotten _ _ _ _ _ d x.epoch (r.sides (agent_id m)) (h.stands.agents m d there))))
        (app_was (λ a (d : App). IsApp d x.epoch (after (app_id a))) x.apps (λ a d there.
        subst (IsApp (app_forgotten d) x.epoch) (sym (at (app_id a) ∙ ap (λ b. cond b (resynced_side (r.sides (app_id a))) (r.sides (app_id a))) (app_here a d there)))
        (side_forgotten _ _ _ _ _ d x.epoch (r.sides (app_id a)) (h.stands.apps a d there))))
        (app_was (λ a (d : App). credited_of r.state a ≡ credited_in d.outgoing.present.entries) x.apps h.stands.credited)
        (λ a e. at (app_id a) ∙ ap (λ s. cond (is_one_of (app_id a) (peers r.cluster r.state)) (resynced_side s) s) (h.stands.unheard a e) ∙ stays (is_one_of (app_id a) (peers r.cluster r.state)))
      where
        after : Id → Side
        after = resync_alone r.sides (peers r.cluster r.state)

        at : (q : Id) → after q ≡ cond (is_one_of q (peers r.cluster r.state)) (resynced_side (r.sides q)) (r.sides q)
        at q = resynced_at (peers r.cluster r.state) r.sides q

        stays : (b : Bool) → cond b (resynced_side new_side) new_side ≡ new_side
        stays true = refl
        stays false = refl

        agent_here : (m : ℕ) (d : Down) → slice_get x.agents m ≡ Some d → is_one_of (agent_id m) (peers r.cluster r.state) ≡ true
        agent_here m d there =
            let lt = slice_get_within x.agents m d there in
            let wide : length x.agents ≡ length r.cluster.machines = kept.agents ∙ ap (λ c. length c.machines) h.stands.cluster in
            listed_both (agent_id m) (map agent_id (below (length r.cluster.machines))) (map app_id (job_numbers r.state.jobs)) true (is_one_of (agent_id m) (map app_id (job_numbers r.state.jobs)))
            (agent_listed m (length r.cluster.machines) (omega (arith, lt, wide))) refl

        app_here : (a : ℕ) (d : App) → slice_get x.apps a ≡ Some (Some d) → is_one_of (app_id a) (peers r.cluster r.state) ≡ true
        app_here a d there =
            listed_both (app_id a) (map agent_id (below (length r.cluster.machines))) (map app_id (job_numbers r.state.jobs)) (is_one_of (app_id a) (map agent_id (below (length r.cluster.machines)))) true
            refl (app_listed a (job_numbers r.state.jobs) ∙ known_listed r.state.jobs a (ap (λ js. is_known js a) h.stands.jobs ∙ sym (kept.slots a (Some d) there)))
            ∙ or_right (is_one_of (app_id a) (map agent_id (below (length r.cluster.machines)))) true refl

  kept_forgotten : IsKept x → IsKept forgotten
  kept_forgotten kept = record {
    epoch = kept.epoch;
    numbers = kept.numbers;
    jobs = kept.jobs;
    agents = length-map x.agents agent_forgotten ∙ kept.agents;
    apps = λ a e. let lt = kept.apps a e in let wide = length-map x.apps (option_map app_forgotten) in omega (arith, lt, wide);
    slots = each_was (λ a (o : Option App). is_some o ≡ is_known x.known.jobs a) (option_map app_forgotten) x.apps (λ a o there. filled o ∙ kept.slots a o there);
    size = kept.size;
    rising = kept.rising;
    below = kept.below;
    agents_own = all_from (λ (d : Down). d.outgoing.own ≡ x.epoch) forgotten.agents (each_was (λ _ (d : Down). d.outgoing.own ≡ x.epoch) agent_forgotten x.agents (λ m d there. all_at (λ (d : Down). d.outgoing.own ≡ x.epoch) x.agents m d kept.agents_own there));
    apps_own = app_was (λ _ (d : App). d.outgoing.own ≡ x.epoch) x.apps kept.apps_own;
  }
    where
      filled : (o : Option App) → is_some (option_map app_forgotten o) ≡ is_some o
      filled None = refl
      filled (Some d) = refl

  pub core_forgotten : IsCore x → IsCore forgotten
  core_forgotten core = record {
    near = record {
      kept = kept_forgotten core.near.kept;
      waits = core.near.waits;
      up = core.near.up;
      touched = core.near.touched;
      rows = each_was (λ m (d : Down). d.outgoing.present ≡ row_of (as_known x.allotment.table.jobs) m x.allotment.table.entries) agent_forgotten x.agents core.near.rows;
      grants = app_was (λ a (d : App). ShowsJob a x.reported.numbers x.allotment.table.entries d.outgoing.present) x.apps core.near.grants;
      role = master_resynced core.near.role;
      stands = stands_forgotten core.near.kept core.near.role core.near.stands;
    };
    boots = record {
      known = app_was (λ a (d : App). false ≡ false → d.outgoing.present.head ≡ d.incoming.place.inc) x.apps core.boots.known;
      unknown = λ a d there e. cc;
    };
    told = told_resynced core.near.role core.told;
  }

  pub within_forgotten : (n : ℕ) → IsWithin n x → IsWithin n forgotten
  within_forgotten n w = record {
    agents = all_from (λ (d : Down). d.outgoing.last ≤ n) forgotten.agents (each_was (λ _ (d : Down). d.outgoing.last ≤ n) agent_forgotten x.agents (λ m d there. all_at (λ (d : Down). d.outgoing.last ≤ n) x.agents m d w.agents there));
    apps = app_was (λ _ (d : App). d.outgoing.last ≤ n) x.apps w.apps;
    turns = w.turns;
  }

-- Each event keeps the invariant.
use Rattle.std.proofs.Common.{◌≡◌, ◌⊎◌, inl, inr, ℕ, ◌+◌, ◌-◌, ◌<◌, ◌≤◌, Bool, true, false, cond, not, nat_eq, nat_lt, List, [], ◌∷◌, ◌++◌, length, map, Some, None, slice_get, refl, sym, ◌∙◌, ap, subst, arith}
use Rattle.std.specs.Prelude.{⊤, ◌&&◌, min}
use Rattle.std.specs.List.{AllByRecursion}
use Rattle.std.specs.Ordering.{nat_cmp}
use Rattle.std.specs.FinMap.Entries.{find}
use Rattle.std.proofs.lemmas.Bool.Decides.{nat_tests}
use Rattle.fuxi_terms.specs.declared.Key.{Key}
use Rattle.fuxi_terms.specs.Cluster.{ClusterRecord, has_rack, has_machine}
use Rattle.fuxi_terms.specs.Limits.{greatest_count, greatest_back, most_masters}
use Rattle.spec_net.specs.Net.{Net, Party, Id, Link, Packet, Heard, Starts, unknown, last, move, same_party, comes, heard_of, at_index, is_taken}
use Rattle.spec_net.specs.Ledgers.{Ledger, nothing, at_key, report_ledger}
use Rattle.spec_world.specs.Good.{greatest_in_demand, greatest_in_grants, IsTidy, IsRanged, NamesJobs, IsCredited, DemandsHold, EntryHolds, FitsMachines, GrantHolds, Invariant, IsBounded, IsInOrder, IsShowing, KnowsMore, Origins, ReportHolds}
use Rattle.fuxi_terms.specs.TallyKeys.{is_back, want_key, near_key, rack_key, avoid_key, back_key}
use Rattle.spec_net.specs.Channels.{content, view, master_id, agent_id, app_id, party, is_master, is_agent, is_app, present, send_all, resync_all, shape, HasJoined}
use Rattle.fuxi_terms.specs.Jobs.{job_numbers, unit_count, is_known, is_live, has_ended, eight_places}
use Rattle.fuxi_terms.specs.Numbers.{without_number}
use Rattle.fuxi_terms.specs.Lists.{below}
use Rattle.spec_roles.specs.Masters.{Master}
use Rattle.spec_roles.specs.HardState.{HardState, is_full, raised, submitted, finished, banned, unbanned, with_job}
use Rattle.spec_roles.specs.Preemption.{preempted}
use Rattle.spec_roles.specs.Refusals.{Refusal, NotRising, TooManyMasters, Fenced, Known, NoMachine, NoRack, NoUnit, NoJob, Ended, WantRange, NotUsable, BackRange, first_refusal}
use Rattle.spec_world.specs.World.{World, Agent, App, empty_world}
use Rattle.spec_roles.specs.MasterSteps.{master_party, is_there, talks, peers, adopts, take_report, take_demand, meet_app, row, grants, counted, ended_in, banned_in, new_master, is_one_of}
use Rattle.spec_world.specs.Parties.{projection, end_step, told, received, adopted_now, joined, agent_table, agent_hears, app_hears, carry}
use Rattle.spec_roles.specs.Apps.{joined_demand, changed_demand, AppCommand, command_tests, command_key, command_number, Wants, WantsNear, WantsInRack, Avoids, GivesBack}
use Rattle.spec_world.specs.Events.{Event, demanded, turned, given_back, usable_now, counted_in, without_master}
use Rattle.spec_world.specs.Runs.{run}
use Rattle.spec_net.specs.Sound.{Sound, Current, PacketNames}
use Rattle.spec_world.specs.ShownLast.{AllShown, AllCredited, AllGiveBacks}
use Rattle.spec_world.specs.Credits.{AllCreditedOnce}
use Rattle.spec_world.specs.Safe.{AllAgree, AllFit, CountsOnce}
use Rattle.spec_net.proofs.BoundedLemmas.{found_within}
use Rattle.fuxi_terms.proofs.Booleans.{either, and_true, number_is, not_false}
use Rattle.spec_net.proofs.SoundLemmas.{Grows, comes_sound, move_sound}
use Rattle.spec_world.proofs.GoodAtStart.{empty_at, no_rows, sound_at_start}
use Rattle.spec_net.proofs.PublishLemmas.{Acted, same_party_itself, grows_itself, Leaves, leaves_nothing, start_leaves, comes_leaves, send_all_acted, resync_all_acted}
use Rattle.spec_net.proofs.NetLemmas.{id_is}
use Rattle.spec_world.proofs.GrantsFit.{nothing_granted}
use Rattle.spec_world.proofs.TablesFit.{new_fits_machines, same_fits_machines, added_fits_machines, ended_fits_machines, banned_fits_machines, told_fits_machines, preempted_fits_machines}
use Rattle.fuxi_terms.specs.Keys.{key_cmp}
use Rattle.fuxi_terms.specs.Counts.{AreCounts}
use Rattle.fuxi_terms.proofs.CountsLemmas.{counts-where_key}
use Rattle.fuxi_terms.proofs.KeyOrders.{key_total}
use Rattle.spec_world.proofs.TablesBounded.{new_bounded, same_bounded, added_bounded, ended_bounded, banned_bounded, preempted_bounded, told_bounded, counted_ranged}
use Rattle.spec_world.proofs.RowsShown.{rows_same, rows_told, no_agents}
use Rattle.spec_world.proofs.SettledKept.{talks_machine, talks_app}
use Rattle.spec_world.proofs.TablesInOrder.{met_in_order, new_in_order, same_in_order, added_in_order, told_in_order, ended_in_order, banned_in_order, preempted_in_order}
use Rattle.spec_world.proofs.Invariant.{origins_grow, stepped, finish_invariant, projection_head}
use Rattle.spec_world.proofs.DemandsLemmas.{knows_itself, changed_follows, published_demands}
use Rattle.spec_world.proofs.CreditsLemmas.{credited_view, credited_like, heard_credited}
use Rattle.spec_world.proofs.KnownJobsLemmas.{job_added, both_added, added_credited, ended_knows, both_ended, ended_credited}
use Rattle.spec_world.proofs.CreditedOnce.{credited_once}
use Rattle.spec_world.proofs.AgreementLemmas.{agent_agrees, app_agrees}
use Rattle.spec_world.proofs.CarriedLemmas.{carry_origins, counts_once}
use Rattle.spec_world.proofs.PartiesKept.{joined_reports, joins, joined_written, demands, acted, agent_invariant, app_invariant, app_put_invariant, agent_starts, app_starts}
use Rattle.spec_world.proofs.LeftLemmas.{BanWritten, FinishWritten, Left, StartWritten, SubmitWritten, UnbanWritten, Unwritten, left_hard, still_runs}
use Rattle.spec_world.proofs.EventsWalk.{WorldKept, run_keeps_world, unasked}

-- A master that heard something has its epoch and its jobs
pub record SameMaster (M N : Master) : Type 0 where
  pub epoch : N.epoch ≡ M.epoch
  pub jobs : N.jobs ≡ M.jobs

-- whatever it heard
pub told_same : (M : Master) (h : Heard) (from : Id) (l : Ledger) → SameMaster M (told M h from l)
told_same M h from l =
    let N = meet_app h.fresh M from.number in
    either (SameMaster M) (is_agent from) (cond (is_taken h.what) (take_report M from.number l) M) (cond (is_taken h.what) (take_demand N from.number l) N)
    (λ _. either (SameMaster M) (is_taken h.what) (take_report M from.number l) M (λ _. reported from.number) (λ _. record { epoch = refl; jobs = refl }))
    (λ _. either (SameMaster M) (is_taken h.what) (take_demand N from.number l) N (λ _. demanded N from.number (met h.fresh)) (λ _. met h.fresh))
  where
    reported : (m : ℕ) → SameMaster M (take_report M m l)
    reported m = either (SameMaster M) (adopts M m l) _ M (λ _. record { epoch = refl; jobs = refl }) (λ _. record { epoch = refl; jobs = refl })

    demanded : (N : Master) (a : ℕ) → SameMaster M N → SameMaster M (take_demand N a l)
    demanded N a s = either (SameMaster M) (nat_eq l.head N.epoch && is_live N.jobs a) _ _ (λ _. record { epoch = s.epoch; jobs = s.jobs }) (λ _. record { epoch = s.epoch; jobs = s.jobs })

    met : (fresh : Bool) → SameMaster M (meet_app fresh M from.number)
    met true = record { epoch = refl; jobs = refl }
    met false = record { epoch = refl; jobs = refl }

-- A running master that takes a step on the net as it is
runs : (w : World) (e : ℕ) (M : Master) → Invariant w → find nat_cmp e w.masters ≡ Some M → M.epoch ≤ w.hard.fence
runs w e M h found = let k = h.masters e M found in omega (arith, k.epoch, k.ran)

master_acts : (w : World) (hard : HardState) (e : ℕ) (M N : Master) (even_if_equal : List Id) → Invariant w → find nat_cmp e w.masters ≡ Some M → w.hard.fence ≤ hard.fence → KnowsMore w.hard.jobs hard.jobs
    → N.epoch ≡ M.epoch → KnowsMore N.jobs hard.jobs → (IsInOrder M → IsInOrder N) → (IsInOrder M → FitsMachines w.cluster M → FitsMachines w.cluster N) → (IsBounded w.cluster M → IsBounded w.cluster N) → N.reported ≡ M.reported → ((m : ℕ) → is_one_of (agent_id m) even_if_equal ≡ false) → (IsCredited w.net M → IsCredited w.net N) → Invariant (end_step (record w { hard = hard }) w.net N even_if_equal)
master_acts w hard e M N even_if_equal h found up more same knows t hs bs sr nf cr = let k = h.masters e M found in
    finish_invariant w hard w.ran w.net N even_if_equal h up more (omega (arith, same, up, runs w e M h found)) knows (t k.tabled) (hs k.tabled k.housed) (bs k.bounded) (λ m. rows_same m (nat_lt 0 (last w.net (master_party N) (agent_id m))) even_if_equal M.reported N.reported (nf m) sr (ap (λ n. nat_lt 0 (last w.net (party master_id n) (agent_id m))) same ∙ k.rows m)) (cr k.credited) h.sound (leaves_nothing (master_party N) w.net) (grows_itself w.net) refl

-- the same where no job changes
master_changes : (w : World) (hard : HardState) (e : ℕ) (M N : Master) (even_if_equal : List Id) → Invariant w → find nat_cmp e w.masters ≡ Some M → w.hard.fence ≤ hard.fence → hard.jobs ≡ w.hard.jobs
    → N.epoch ≡ M.epoch → N.jobs ≡ M.jobs → N.credited ≡ M.credited → (IsInOrder M → IsInOrder N) → (IsInOrder M → FitsMachines w.cluster M → FitsMachines w.cluster N) → (IsBounded w.cluster M → IsBounded w.cluster N) → N.reported ≡ M.reported → ((m : ℕ) → is_one_of (agent_id m) even_if_equal ≡ false) → Invariant (end_step (record w { hard = hard }) w.net N even_if_equal)
master_changes w hard e M N even_if_equal h found up jobs same mine credited t hs bs sr nf =
    master_acts w hard e M N even_if_equal h found up (subst (KnowsMore w.hard.jobs) (sym jobs) (knows_itself w.hard.jobs)) same
    (subst (KnowsMore N.jobs) (sym jobs) (subst (λ js. KnowsMore js w.hard.jobs) (sym mine) (h.masters e M found).knows)) t hs bs sr nf (credited_like w.net M N same mine credited)

-- a test that did not refuse
pub not_refused : (b : Bool) (r : Refusal) (ts : List (Bool × Refusal)) → first_refusal ((b, r) ∷ ts) ≡ None → (b ≡ false) × (first_refusal ts ≡ None)
not_refused true r ts e = cc
not_refused false r ts e = (refl, e)

pub rising : {a b : ℕ} → not (nat_lt a b) ≡ false → a < b
rising {a} {b} t = grind (arith, nat_tests, t)

-- Turns and resyncs of a master
currents : (net : Net Ledger) (M : Master) (qs : List Id) → AllByRecursion (λ q. present net (master_party M) q ≡ projection net M q) qs → AllByRecursion (λ q. Current shape net (master_party M) q) qs
currents net M [] h = tt
currents net M (q ∷ qs) h = (record { head = λ hd some. ap (λ (l : Ledger). l.head) h.0 ∙ projection_head net M q hd }, currents net M qs h.1)

master_acted : (w : World) (e : ℕ) (M : Master) (net' : Net Ledger) → Invariant w → find nat_cmp e w.masters ≡ Some M → Acted (master_party M) w.net net' → Invariant (record w { net = net' })
master_acted w e M net' h found a =
    let k = h.masters e M found in
    stepped w (record w { net = net' }) (master_party M) h (record {
      cluster = refl;
      sound = a.sound;
      leaves = a.leaves;
      grows = subst (λ hs. Grows shape w.net.histories hs) (sym a.histories) (grows_itself w.net);
      fence = omega arith;
      more = knows_itself w.hard.jobs;
      boots = λ d. omega arith;
      own = runs w e M h found;
      masters = λ e' N f. by e' N f (nat_eq e e') refl;
      agents = λ m g f. inl (refl, f);
      apps = λ b g f. inl (refl, f);
      machines = h.machines;
      origins = λ b g f. inl f;
      written = λ b n. inl refl;
      entries = λ k. inr (λ q n. subst (λ (hs : Party → Id → List Ledger). EntryHolds w.cluster w.hard.jobs q (at_index nothing (hs (party master_id k) q) n)) (sym a.histories) (h.entries k q n));
      reports = λ m b. inl refl;
    })
  where
    shows : (qs : List Id) → AllByRecursion (λ q. present w.net (master_party M) q ≡ projection w.net M q) qs → AllByRecursion (λ q. present net' (master_party M) q ≡ projection net' M q) qs
    shows [] s = tt
    shows (q ∷ qs) s = (
      ap (λ (hs : Party → Id → List Ledger). at_index nothing (hs (master_party M) q) (length (hs (master_party M) q))) a.histories ∙ s.0 ∙ ap (λ n. cond (is_agent q) (row M q.number) (grants M n q.number)) (sym (a.known q)),
      shows qs s.1,
    )

    by : (e' : ℕ) (N : Master) → find nat_cmp e' w.masters ≡ Some N → (b : Bool) → nat_eq e e' ≡ b → ((same_party (master_party M) (party master_id e') ≡ false) × (find nat_cmp e' w.masters ≡ Some N)) ⊎ IsShowing w.cluster w.hard net' e' N
    by e' N f false t = inl (ap (λ n. nat_eq n e') (h.masters e M found).epoch ∙ t, f)
    by e' N f true t =
        let same : e ≡ e' = grind (arith, nat_tests, t) in
        let some : Some M ≡ Some N = sym found ∙ ap (λ n. find nat_cmp n w.masters) same ∙ f in
        let one : M ≡ N = cc in
        let k = h.masters e M found in
        inr (subst (λ (R : Master). IsShowing w.cluster w.hard net' e' R) one (record {
          epoch = k.epoch ∙ same;
          ran = omega (arith, same, k.ran);
          knows = k.knows;
          tabled = k.tabled;
          housed = k.housed;
          bounded = k.bounded;
          waits = k.waits;
          credited = credited_view w.net net' M (λ b i. at_index nothing (a.histories i (party (app_id b) (a.known (app_id b) i)) master_id) (a.seq (app_id b) i)) (λ b. a.seq (app_id b)) k.credited;
          shows = shows (peers w.cluster M) k.shows;
          rows = λ m. ap (λ (hs : Party → Id → List Ledger). nat_lt 0 (length (hs (master_party M) (agent_id m)))) a.histories ∙ k.rows m;
        }))

-- of an agent or an application
current_of : (net : Net Ledger) (p : Party) → HasJoined net p → AllByRecursion (λ q. Current shape net p q) (master_id ∷ [])
current_of net p h = (record { head = λ hd some. h.head }, tt)

same_reports : (w : World) (m : ℕ) (g : Agent) (hs : Party → Id → List Ledger) → Invariant w → hs ≡ w.net.histories → (n : ℕ) → ReportHolds w.cluster w.hard.jobs m (at_index nothing (hs (party (agent_id m) g.boot) master_id) n).rows
same_reports w m g hs h same n = subst (λ (hs : Party → Id → List Ledger). ReportHolds w.cluster w.hard.jobs m (at_index nothing (hs (party (agent_id m) g.boot) master_id) n).rows) (sym same) (h.reports m g.boot n)

agent_turns : (w : World) (m : ℕ) (g : Agent) → Invariant w → find nat_cmp m w.agents ≡ Some g → Invariant (turned w (party (agent_id m) g.boot) (master_id ∷ [])).world
agent_turns w m g h found =
    let p = party (agent_id m) g.boot in
    let j = (h.agents m g found).joined in
    let r = send_all_acted w.net p (master_id ∷ []) (current_of w.net p j) h.sound in
    agent_invariant w m g (send_all w.net p (master_id ∷ [])) h found (acted w.net (send_all w.net p (master_id ∷ [])) p r j) (same_reports w m g _ h r.histories)

same_demands : (w : World) (a : ℕ) (g : App) (hs : Party → Id → List Ledger) → Invariant w → hs ≡ w.net.histories → DemandsHold w.cluster (unit_count w.hard.jobs a) (hs (party (app_id a) g.boot) master_id)
same_demands w a g hs h same = subst (λ (hs : Party → Id → List Ledger). DemandsHold w.cluster (unit_count w.hard.jobs a) (hs (party (app_id a) g.boot) master_id)) (sym same) (h.written a g.boot)

app_turns : (w : World) (a : ℕ) (g : App) → Invariant w → find nat_cmp a w.apps ≡ Some g → Invariant (turned w (party (app_id a) g.boot) (master_id ∷ [])).world
app_turns w a g h found =
    let p = party (app_id a) g.boot in
    let j = (h.apps a g found).joined in
    let r = send_all_acted w.net p (master_id ∷ []) (current_of w.net p j) h.sound in
    app_invariant w a g (send_all w.net p (master_id ∷ [])) h found (acted w.net (send_all w.net p (master_id ∷ [])) p r j) (same_demands w a g _ h r.histories)

demanded_holds : (w : World) (a : ℕ) (g : App) (k : Key) (n : ℕ) → Invariant w → find nat_cmp a w.apps ≡ Some g → n ≤ greatest_in_demand k → is_there w.cluster g.units k ≡ true
    → (is_back k ≡ true → at_key (present w.net (party (app_id a) g.boot) master_id) k ≤ n) → Invariant (demanded w a g k n).world
demanded_holds w a g k n h found le there rises =
    let p = party (app_id a) g.boot in
    let d = h.written a g.boot in
    let u = subst (λ i. is_there w.cluster i k ≡ true) (h.units a g found).units there in
    app_invariant w a g _ h found (demands w.net p (changed_demand (present w.net p master_id) k n) refl h.sound (h.apps a g found).joined)
    (published_demands w.cluster (unit_count w.hard.jobs a) w.net p (changed_demand (present w.net p master_id) k n)
    (changed_follows w.cluster (unit_count w.hard.jobs a) (present w.net p master_id) k n le u rises (d.tidy (last w.net p master_id)) (d.ranged (last w.net p master_id))) d)

-- Deliveries
master_hears_holds : (w : World) (e which : ℕ) (M : Master) (x : Packet) → Invariant w → is_master x.to.id ≡ true → find nat_cmp e w.masters ≡ Some M → slice_get w.net.packets which ≡ Some x → talks w.cluster M x.from.id ≡ true
    → Invariant (let h = heard_of w.net (master_party M) (talks w.cluster M) x in let l = received w.cluster M w.net x in end_step w (comes w.net (master_party M) (talks w.cluster M) (Some x)) (told M h x.from.id l) (adopted_now M h x.from.id l))
master_hears_holds w e which M x h to found sent t =
    let hd = heard_of w.net (master_party M) (talks w.cluster M) x in
    let l = received w.cluster M w.net x in
    let n = comes w.net (master_party M) (talks w.cluster M) (Some x) in
    let N = told M hd x.from.id l in
    let same : N.epoch ≡ M.epoch = (told_same M hd x.from.id l).epoch in
    let k = h.masters e M found in
    finish_invariant w w.hard w.ran n N (adopted_now M hd x.from.id l) h (omega arith) (knows_itself w.hard.jobs) (omega (arith, same, runs w e M h found)) (subst (λ js. KnowsMore js w.hard.jobs) (sym ((told_same M hd x.from.id l).jobs)) k.knows) (told_in_order M hd x.from.id l k.tabled)
    (told_fits_machines w.cluster M hd x.from.id l (λ agent _. (reported agent).fits) (k.tabled, met_in_order M hd.fresh x.from.id.number k.tabled) k.housed)
    (told_bounded w.cluster M hd x.from.id l (λ agent. (talks_machine w.cluster M x.from.id t agent, (reported agent).named.counts)) (λ other. asked other (talks_app w.cluster M x.from.id t other)) k.bounded)
    (λ m. rows_told M hd x.from.id l m (nat_lt 0 (last n (master_party N) (agent_id m))) (ap (λ i. nat_lt 0 (last w.net (party master_id i) (agent_id m))) same ∙ k.rows m))
    (heard_credited w.cluster w.hard.jobs w.net M x h.sound (found_within (λ y. PacketNames shape w.net.histories y.kind y) w.net.packets which x h.sound.packets sent) k.credited t k.knows h.written)
    (comes_sound shape w.net (master_party M) (talks w.cluster M) (Some x) (λ y t. found_within (λ y. PacketNames shape w.net.histories y.kind y) w.net.packets which y h.sound.packets (sent ∙ t)) h.sound)
    (subst (λ b. Leaves (party master_id b) w.net n) (sym same) (comes_leaves w.net (master_party M) (talks w.cluster M) x)) (grows_itself w.net) refl
  where
    -- what an agent reported fits its machine
    reported : is_agent x.from.id ≡ true → ReportHolds w.cluster w.hard.jobs x.from.id.number (received w.cluster M w.net x).rows
    reported e =
        let from : x.from ≡ party (agent_id x.from.id.number) x.from.inc = (let r = number_is x.from.id.role 2 e in λ i. record { id = record { role = r i; number = x.from.id.number }; inc = x.from.inc }) in
        let here : x.to.id ≡ master_id = id_is x.to.id master_id to in
        subst (λ b. ReportHolds w.cluster w.hard.jobs x.from.id.number (cond b (content w.net x) (counted w.cluster M.jobs x.from.id.number (content w.net x))).rows) (sym e)
        (subst (λ (r : Party). ReportHolds w.cluster w.hard.jobs x.from.id.number (at_index nothing (w.net.histories r x.to.id) x.seq).rows) (sym from)
        (subst (λ d. ReportHolds w.cluster w.hard.jobs x.from.id.number (at_index nothing (w.net.histories (party (agent_id x.from.id.number) x.from.inc) d) x.seq).rows) (sym here) (h.reports x.from.id.number x.from.inc x.seq)))

    -- what an application asks for is in range
    asked : is_agent x.from.id ≡ false → is_app x.from.id ≡ true → IsTidy (received w.cluster M w.net x) × IsRanged w.cluster (unit_count M.jobs x.from.id.number) (received w.cluster M w.net x)
    asked other e =
        let n = x.from.id.number in
        let units = unit_count M.jobs n in
        let from : x.from ≡ party (app_id n) x.from.inc = (let r = number_is x.from.id.role 3 e in λ i. record { id = record { role = r i; number = x.from.id.number }; inc = x.from.inc }) in
        let here : x.to.id ≡ master_id = id_is x.to.id master_id to in
        let C = content w.net x in
        let tidy : IsTidy C = subst (λ (r : Party). IsTidy (at_index nothing (w.net.histories r x.to.id) x.seq)) (sym from) (subst (λ d. IsTidy (at_index nothing (w.net.histories (party (app_id n) x.from.inc) d) x.seq)) (sym here) ((h.written n x.from.inc).tidy x.seq)) in
        subst (λ b. IsTidy (cond b C (counted w.cluster M.jobs n C)) × IsRanged w.cluster units (cond b C (counted w.cluster M.jobs n C))) (sym other)
        (counts-where_key key_total greatest_in_demand (is_there w.cluster units) C.entries tidy, counted_ranged w.cluster M.jobs n C)

-- an agent's table is a row that a master sent, or one that it reported
pub table_fits : (w : World) (m : ℕ) (g : Agent) → Invariant w → ReportHolds w.cluster w.hard.jobs m (agent_table w.net (party (agent_id m) g.boot))
table_fits w m g h = let p = party (agent_id m) g.boot in
    either (ReportHolds w.cluster w.hard.jobs m) (nat_eq (w.net.links p master_id).seq 0) (present w.net p master_id).rows (view w.net p master_id).rows
    (λ _. h.reports m g.boot (last w.net p master_id)) (λ _. let e = h.entries (w.net.links p master_id).known (agent_id m) (w.net.links p master_id).seq in record { fits = e.rows refl; named = e.named refl })

agent_hears_holds : (w : World) (m which : ℕ) (g : Agent) (x : Packet) → Invariant w → find nat_cmp m w.agents ≡ Some g → slice_get w.net.packets which ≡ Some x → Invariant (agent_hears w m g x)
agent_hears_holds w m which g x h found sent =
    let p = party (agent_id m) g.boot in
    let report = report_ledger x.from.inc (agent_table w.net p) in
    agent_invariant w m g _ h found (joins w.net p which x report sent refl h.sound (h.agents m g found).joined) (joined_reports w.cluster w.hard.jobs w.net p m x report (table_fits w m g h) (h.reports m g.boot))

app_hears_holds : (w : World) (a which : ℕ) (g : App) (x : Packet) → Invariant w → find nat_cmp a w.apps ≡ Some g → slice_get w.net.packets which ≡ Some x → Invariant (app_hears w a g x)
app_hears_holds w a which g x h found sent =
    let p = party (app_id a) g.boot in
    let fresh = (heard_of w.net p is_master x).fresh in
    let carried = carry w.net p g.units (below (length w.cluster.machines)) g.carried in
    let j = joins w.net p which x (joined_demand x.from.inc (present w.net p master_id)) sent refl h.sound (h.apps a g found).joined in
    let o : Origins w.net a (cond fresh carried g.carried) = either (Origins w.net a) fresh carried g.carried (λ _. carry_origins w.net a g.boot g.units (below (length w.cluster.machines)) g.carried h.sound (h.origins a g found)) (λ _. h.origins a g found) in
    app_put_invariant w a g (record g { carried = cond fresh carried g.carried }) _ refl h found j (origins_grow w.net (joined w.net p x (joined_demand x.from.inc (present w.net p master_id))) a (cond fresh carried g.carried) j.grows o)
    (let u = h.units a g found in record { known = u.known; units = u.units }) (joined_written w.cluster (unit_count w.hard.jobs a) w.net p x (h.apps a g found).joined (h.written a g.boot))

-- Starts and stops
new_holds : (w : World) (e : ℕ) → Invariant w → w.hard.fence < e
    → Invariant (end_step (record w { hard = raised w.hard e; ran = w.ran ++ party master_id e ∷ [] }) (move w.net (Starts (party master_id e))) (new_master (raised w.hard e) e) (map app_id (job_numbers w.hard.jobs)))
new_holds w e h lt = finish_invariant w (raised w.hard e) (w.ran ++ party master_id e ∷ []) (move w.net (Starts (party master_id e))) (new_master (raised w.hard e) e) (map app_id (job_numbers w.hard.jobs)) h (omega (arith, lt)) (knows_itself w.hard.jobs) (omega arith) (knows_itself w.hard.jobs) (new_in_order (new_master (raised w.hard e) e) refl refl refl) (new_fits_machines w.cluster (new_master (raised w.hard e) e) refl) (new_bounded w.cluster (new_master (raised w.hard e) e) refl refl refl refl) (λ m. rows_same m (nat_lt 0 (last w.net (party master_id e) (agent_id m))) (map app_id (job_numbers w.hard.jobs)) [] [] (no_agents m (job_numbers w.hard.jobs)) refl (ap (λ (hs : List Ledger). nat_lt 0 (length hs)) (h.unstarted (party master_id e) (agent_id m) lt))) credited
    (move_sound shape w.net (Starts (party master_id e)) refl (λ q. h.unstarted (party master_id e) q lt) h.sound) (start_leaves w.net (party master_id e)) (grows_itself w.net) refl
  where
    link : (a : ℕ) → (move w.net (Starts (party master_id e))).links (party master_id e) (app_id a) ≡ unknown
    link a = ap (λ b. elim b as (λ _. Link) [ true ↦ unknown | false ↦ w.net.links (party master_id e) (app_id a) ]) (same_party_itself (party master_id e))

    credited : IsCredited (move w.net (Starts (party master_id e))) (new_master (raised w.hard e) e)
    credited = record {
      credits = λ a alive u m. sym (ap (λ (l : Link). at_key (at_index nothing (w.net.histories (party (app_id a) l.known) master_id) l.seq) (back_key u m)) (link a));
      stranger = λ a none. ap (λ (l : Link). l.seq) (link a);
      uncredited = λ a none. refl;
    }

-- a master stops and the hard state grows, which is a step of no party
abbrev nobody : Party
nobody = record { id = record { role = 0; number = 0 }; inc = 0 }

stopped_holds : (w : World) (hard : HardState) (e : ℕ) → w.hard.fence ≤ hard.fence → KnowsMore w.hard.jobs hard.jobs → Invariant w → Invariant (without_master w e hard)
stopped_holds w hard e up more h = stepped w (without_master w e hard) nobody h (record {
  cluster = refl;
  sound = h.sound;
  leaves = leaves_nothing nobody w.net;
  grows = grows_itself w.net;
  fence = up;
  more = more;
  boots = λ d. omega arith;
  own = omega arith;
  masters = λ q M f. inl (refl, (still_runs e q M w.masters f).1);
  agents = λ m g f. inl (refl, f);
  apps = λ b g f. inl (refl, f);
  machines = h.machines;
  origins = λ b g f. inl f;
  written = λ b n. inl refl;
  entries = λ k. inl refl;
  reports = λ m b. inl refl;
})

-- what a stop leaves
pub left_fence : (A : Event → Type 0) (c : ClusterRecord) (h : HardState) (masters : List (ℕ × Master)) (e : ℕ) (l : Left A c h masters e) → h.fence ≤ (left_hard h l).fence
left_fence A c h masters e Unwritten = omega arith
left_fence A c h masters e (StartWritten n t) = let up = rising (not_refused (not (nat_lt h.fence e)) (NotRising h.fence) ((not (nat_lt (length masters) most_masters), TooManyMasters most_masters) ∷ []) n).0 in omega (arith, up)
left_fence A c h masters e (SubmitWritten M j calls all f line own t) = omega arith
left_fence A c h masters e (FinishWritten M a f t) = omega arith
left_fence A c h masters e (BanWritten M m f t) = omega arith
left_fence A c h masters e (UnbanWritten M m f t) = omega arith

left_more : (A : Event → Type 0) (c : ClusterRecord) (h : HardState) (masters : List (ℕ × Master)) (e : ℕ) (l : Left A c h masters e) → KnowsMore h.jobs (left_hard h l).jobs
left_more A c h masters e Unwritten = knows_itself h.jobs
left_more A c h masters e (StartWritten n t) = knows_itself h.jobs
left_more A c h masters e (SubmitWritten M j calls all f line own t) = job_added h.jobs (eight_places j)
left_more A c h masters e (FinishWritten M a f t) = ended_knows a h.jobs h.jobs (knows_itself h.jobs)
left_more A c h masters e (BanWritten M m f t) = knows_itself h.jobs
left_more A c h masters e (UnbanWritten M m f t) = knows_itself h.jobs

-- What applications ask for, and give back
unit_there : (w : World) (g : App) (u : ℕ) (rest : Bool) → nat_lt u g.units ≡ true → rest ≡ true → (nat_lt u g.units && rest) ≡ true
unit_there w g u rest e f = and_true (nat_lt u g.units) rest e f

within : {a b : ℕ} → nat_lt a b ≡ false → b ≤ a
within {a} {b} t = grind (arith, nat_tests, t)

asks_hold : (w : World) (a : ℕ) (g : App) (x : AppCommand) → Invariant w → find nat_cmp a w.apps ≡ Some g → first_refusal (command_tests w.cluster g.units (usable_now w a g) (given_back w a g) x) ≡ None → Invariant (demanded w a g (command_key x) (command_number (given_back w a g) x)).world
asks_hold w a g (Wants u n) h f t =
    let range = nat_lt greatest_count n in
    let x = not_refused (not (nat_lt u g.units)) NoUnit ((range, WantRange greatest_count) ∷ []) t in
    let y = not_refused range (WantRange greatest_count) [] x.1 in
    demanded_holds w a g (want_key u) n h f (within y.0) (unit_there w g u true (not_false (nat_lt u g.units) x.0) refl) (λ e. cc)
asks_hold w a g (WantsNear u m n) h f t =
    let range = nat_lt greatest_count n in
    let machine = not (has_machine w.cluster m) in
    let x = not_refused (not (nat_lt u g.units)) NoUnit ((machine, NoMachine) ∷ (range, WantRange greatest_count) ∷ []) t in
    let y = not_refused machine NoMachine ((range, WantRange greatest_count) ∷ []) x.1 in
    let z = not_refused range (WantRange greatest_count) [] y.1 in
    demanded_holds w a g (near_key u m) n h f (within z.0) (unit_there w g u (has_machine w.cluster m) (not_false (nat_lt u g.units) x.0) (not_false (has_machine w.cluster m) y.0)) (λ e. cc)
asks_hold w a g (WantsInRack u r n) h f t =
    let range = nat_lt greatest_count n in
    let there = not (has_rack w.cluster r) in
    let x = not_refused (not (nat_lt u g.units)) NoUnit ((there, NoRack) ∷ (range, WantRange greatest_count) ∷ []) t in
    let y = not_refused there NoRack ((range, WantRange greatest_count) ∷ []) x.1 in
    let z = not_refused range (WantRange greatest_count) [] y.1 in
    demanded_holds w a g (rack_key u r) n h f (within z.0) (unit_there w g u (has_rack w.cluster r) (not_false (nat_lt u g.units) x.0) (not_false (has_rack w.cluster r) y.0)) (λ e. cc)
asks_hold w a g (Avoids u m on) h f t =
    let machine = not (has_machine w.cluster m) in
    let x = not_refused (not (nat_lt u g.units)) NoUnit ((machine, NoMachine) ∷ []) t in
    let y = not_refused machine NoMachine [] x.1 in
    demanded_holds w a g (avoid_key u m) (min on 1) h f (omega arith) (unit_there w g u (has_machine w.cluster m) (not_false (nat_lt u g.units) x.0) (not_false (has_machine w.cluster m) y.0)) (λ e. cc)
asks_hold w a g (GivesBack u m n) h f t =
    let machine = not (has_machine w.cluster m) in
    let usable = nat_lt (usable_now w a g u m) n in
    let range = nat_lt greatest_back (given_back w a g u m + n) in
    let x = not_refused (not (nat_lt u g.units)) NoUnit ((machine, NoMachine) ∷ (usable, NotUsable (usable_now w a g u m)) ∷ (range, BackRange) ∷ []) t in
    let y = not_refused machine NoMachine ((usable, NotUsable (usable_now w a g u m)) ∷ (range, BackRange) ∷ []) x.1 in
    let z = not_refused range BackRange [] (not_refused usable (NotUsable (usable_now w a g u m)) ((range, BackRange) ∷ []) y.1).1 in
    demanded_holds w a g (back_key u m) (given_back w a g u m + n) h f (within z.0) (unit_there w g u (has_machine w.cluster m) (not_false (nat_lt u g.units) x.0) (not_false (has_machine w.cluster m) y.0)) (λ _. omega arith)

-- an event that is counted
pub counted_holds : (w : World) → Invariant w → Invariant (counted_in w)
counted_holds w h = record { sound = h.sound; unstarted = h.unstarted; masters = h.masters; agents = h.agents; apps = h.apps; machines = h.machines; origins = h.origins; units = h.units; written = h.written; entries = h.entries; reports = h.reports }

-- Each event
pub events_hold : (w : World) → Invariant w → WorldKept Invariant (λ _. ⊤) w
events_hold w h = record {
  counted = counted_holds w h;
  starts = λ e n _. new_holds w e h (rising (not_refused (not (nat_lt w.hard.fence e)) (NotRising w.hard.fence) ((not (nat_lt (length w.masters) most_masters), TooManyMasters most_masters) ∷ []) n).0);
  stops = λ e l. stopped_holds w (left_hard w.hard l) e (left_fence (λ _. ⊤) w.cluster w.hard w.masters e l) (left_more (λ _. ⊤) w.cluster w.hard w.masters e l) h;
  starts_agent = λ m b n.
      let rest = not (nat_lt (w.boots (agent_id m)) b) in
      let first = not_refused (not (has_machine w.cluster m)) NoMachine ((rest, NotRising (w.boots (agent_id m))) ∷ []) n in
      agent_starts w (w.ran ++ party (agent_id m) b ∷ []) m b h (not_false (has_machine w.cluster m) first.0) (rising (not_refused rest (NotRising (w.boots (agent_id m))) [] first.1).0);
  starts_app = λ a b n.
      let last : Bool × Refusal = (not (nat_lt (w.boots (app_id a)) b), NotRising (w.boots (app_id a))) in
      let x = not_refused (not (is_known w.hard.jobs a)) NoJob ((has_ended w.hard.jobs a, Ended) ∷ last ∷ []) n in
      let y = not_refused (has_ended w.hard.jobs a) Ended (last ∷ []) x.1 in
      let z = not_refused last.0 last.1 [] y.1 in
      app_starts w (w.ran ++ party (app_id a) b ∷ []) a b _ refl h (rising z.0) (record { has = λ m r none. cc }) (record { known = not_false (is_known w.hard.jobs a) x.0; units = refl });
  submits = λ e M j f _ _ tests.
      let k = h.masters e M f in
      let new : is_known w.hard.jobs j.number ≡ false = (not_refused (is_known w.hard.jobs j.number) Known (is_full w.hard ∷ []) (not_refused (nat_lt M.epoch w.hard.fence) (Fenced w.hard.fence) ((is_known w.hard.jobs j.number, Known) ∷ is_full w.hard ∷ []) tests).1).0 in
      master_acts w (submitted w.hard (eight_places j)) e M (record M { jobs = with_job (eight_places j) M.jobs }) (app_id j.number ∷ []) h f (omega arith) (job_added w.hard.jobs (eight_places j)) refl (both_added M.jobs w.hard.jobs (eight_places j) new k.knows) (added_in_order M (eight_places j)) (added_fits_machines w.cluster M (eight_places j)) (added_bounded w.cluster M (eight_places j)) refl (λ m. refl) (added_credited w.net M (eight_places j));
  finishes = λ e M a f _. master_acts w (finished w.hard a) e M (ended_in M a) [] h f (omega arith) (ended_knows a w.hard.jobs w.hard.jobs (knows_itself w.hard.jobs)) refl (both_ended a M.jobs w.hard.jobs (h.masters e M f).knows) (ended_in_order M a) (λ _. ended_fits_machines w.cluster M a) (ended_bounded w.cluster M a) refl (λ m. refl) (ended_credited w.net M a);
  bans = λ e M m f _. master_changes w (banned w.hard m) e M (banned_in M m) [] h f (omega arith) refl refl refl refl (banned_in_order M m) (λ _. banned_fits_machines w.cluster M m) (banned_bounded w.cluster M m) refl (λ m. refl);
  unbans = λ e M m f _. master_changes w (unbanned w.hard m) e M (record M { bans = without_number m M.bans }) [] h f (omega arith) refl refl refl refl (same_in_order M (record M { bans = without_number m M.bans }) refl refl refl refl) (λ _. same_fits_machines w.cluster M (record M { bans = without_number m M.bans }) refl refl refl) (same_bounded w.cluster M (record M { bans = without_number m M.bans }) refl refl refl refl refl) refl (λ m. refl);
  begins = λ e M f. master_changes w w.hard e M (record M { serving = true }) [] h f (omega arith) refl refl refl refl (same_in_order M (record M { serving = true }) refl refl refl refl) (λ _. same_fits_machines w.cluster M (record M { serving = true }) refl refl refl) (same_bounded w.cluster M (record M { serving = true }) refl refl refl refl refl) refl (λ m. refl);
  preempts = λ e M p f _ planned. master_changes w w.hard e M (preempted M p) [] h f (omega arith) refl refl refl refl (preempted_in_order w.cluster M p planned (h.masters e M f).waits) (preempted_fits_machines w.cluster M p planned) (preempted_bounded w.cluster M p planned (h.masters e M f).waits) refl (λ m. refl);
  asks = λ a g x f t. asks_hold w a g x h f t;
  master_turns = λ e M f. master_acted w e M _ h f (send_all_acted w.net (master_party M) (peers w.cluster M) (currents w.net M (peers w.cluster M) (h.masters e M f).shows) h.sound);
  agent_turns = λ m g f. agent_turns w m g h f;
  app_turns = λ a g f. app_turns w a g h f;
  master_resyncs = λ e M f. master_acted w e M _ h f (resync_all_acted w.net (master_party M) (peers w.cluster M) h.sound);
  agent_resyncs = λ m g f. let p = party (agent_id m) g.boot in agent_invariant w m g _ h f (acted w.net (resync_all w.net p (master_id ∷ [])) p (resync_all_acted w.net p (master_id ∷ []) h.sound) (h.agents m g f).joined) (same_reports w m g _ h (resync_all_acted w.net p (master_id ∷ []) h.sound).histories);
  app_resyncs = λ a g f. let p = party (app_id a) g.boot in app_invariant w a g _ h f (acted w.net (resync_all w.net p (master_id ∷ [])) p (resync_all_acted w.net p (master_id ∷ []) h.sound) (h.apps a g f).joined) (same_demands w a g _ h (resync_all_acted w.net p (master_id ∷ []) h.sound).histories);
  hears = λ e M k x f sent to t. master_hears_holds w e (k - 1) M x h to f sent t;
  agent_hears = λ m g k x f sent. agent_hears_holds w m (k - 1) g x h f sent;
  app_hears = λ a g k x f sent. app_hears_holds w a (k - 1) g x h f sent;
}

-- the empty world
pub at_start : (c : ClusterRecord) → Invariant (empty_world c)
at_start c = record {
  sound = sound_at_start;
  unstarted = λ p q above. refl;
  masters = λ e M found. cc;
  agents = λ m g found. cc;
  apps = λ a g found. cc;
  machines = λ m g found. cc;
  origins = λ a g found. cc;
  units = λ a g found. cc;
  written = λ a b. record { backs = λ n within. absurd (omega (arith, within)); anew = λ n within. absurd (omega (arith, within)); tidy = λ n. subst IsTidy (sym (empty_at n)) (record { sorted = tt; positive = tt; within = tt }); ranged = λ n k _. ap (λ (l : Ledger). at_key l k) (empty_at n) };
  entries = λ e q n. record {
    rows = λ _. no_rows c q.number n;
    named = λ _. subst (λ (l : Ledger). NamesJobs [] l.rows) (sym (empty_at n)) (record { counts = record { sorted = tt; positive = tt; within = tt }; named = tt });
    grants = λ _. subst (GrantHolds c [] q.number) (sym (empty_at n)) (nothing_granted c [] q.number);
    tally = λ _. subst (λ (l : Ledger). AreCounts key_cmp (greatest_in_grants c 0) l.entries) (sym (empty_at n)) (record { sorted = tt; positive = tt; within = tt });
  };
  reports = λ m b n. record { fits = no_rows c m n; named = subst (λ (l : Ledger). NamesJobs [] l.rows) (sym (empty_at n)) (record { counts = record { sorted = tt; positive = tt; within = tt }; named = tt }) };
}

-- the invariant holds in every state
pub always : (c : ClusterRecord) (es : List Event) → Invariant (run c es)
always c es = (run_keeps_world Invariant (λ _. ⊤) events_hold es (empty_world c) (unasked es) (at_start c)).it

-- in every state: the net is sound
pub always_sound : (c : ClusterRecord) (es : List Event) → Sound shape (run c es).net
always_sound c es = (always c es).sound

-- what is shown
pub always_shown : (c : ClusterRecord) (es : List Event) → AllShown (run c es)
always_shown c es = let h = always c es in record {
  masters = λ e M found. (h.masters e M found).shows;
  agents = λ m g found. (h.agents m g found).joined;
  apps = λ a g found. (h.apps a g found).joined;
}

-- what is credited
pub always_credited : (c : ClusterRecord) (es : List Event) → AllCredited (run c es)
always_credited c es e M found = ((always c es).masters e M found).credited

-- numbers given back
pub always_backs : (c : ClusterRecord) (es : List Event) → AllGiveBacks (run c es).net
always_backs c es = record { rise = λ a b. ((always c es).written a b).backs; anew = λ a b. ((always c es).written a b).anew }

-- credited once
pub always_credited_once : (c : ClusterRecord) (es : List Event) → AllCreditedOnce c es
always_credited_once c es = credited_once c es (always c)

-- counted once
pub always_counts : (c : ClusterRecord) (es : List Event) (a : ℕ) (g : App) → find nat_cmp a (run c es).apps ≡ Some g → (m : ℕ) → CountsOnce (run c es) a g m
always_counts c es a g found m = counts_once (run c es) a g m (always c es) found

-- agents' tables fit
pub always_fit : (c : ClusterRecord) (es : List Event) → AllFit (run c es)
always_fit c es m g found = (table_fits (run c es) m g (always c es)).fits

-- agreement
pub always_agree : (c : ClusterRecord) (es : List Event) → AllAgree (run c es)
always_agree c es e M found quiet = let h = always c es in record {
  agents = λ m g runs a u. agent_agrees (run c es) e M m g h found quiet runs a u;
  apps = λ a g runs known u m there. app_agrees (run c es) e M a g h found quiet runs known u m there;
}

-- What settling the units of an application makes of it.
use Rattle.std.proofs.Common.{◌≡◌, ◌≢◌, ℕ, ◌+◌, ◌<◌, ◌≤◌, Bool, true, false, cond, not, nat_eq, nat_lt, min, List, [], ◌∷◌, length, None, IsSome, get_or, set, refl, sym, ◌∙◌, ap, subst, arith}
use Rattle.std.specs.Prelude.{◌||◌}
use Rattle.std.specs.List.{AllByRecursion}
use Rattle.std.proofs.lemmas.Bool.Decides.{nat_tests}
use Rattle.std.proofs.lemmas.List.{get_or-set_same, get_or-set_other}
use Rattle.fuxi_terms.specs.declared.Key.{Key}
use Rattle.fuxi_terms.specs.Counts.{AreCounts, count}
use Rattle.fuxi_terms.specs.Keys.{key_cmp}
use Rattle.fuxi_terms.specs.Limits.{most_units}
use Rattle.fuxi_terms.specs.Numbers.{has_number}
use Rattle.fuxi_terms.specs.Tallies.{TallyRecord, ChangeRecord, empty_tally}
use Rattle.fuxi_terms.proofs.Booleans.{number_is}
use Rattle.full_sync.specs.Turns.{Endpoint}
use Rattle.spec_net.specs.Net.{Link, at_index}
use Rattle.work_plan.specs.Crews.{AreNumbers as AreNumbersOf, Distinct, runs_at}
use Rattle.work_plan.specs.PlanKeys.{greatest_named, most_workers, named, of_unit, worker_key}
use Rattle.work_plan.specs.RunAfter.{run_after}
use Rattle.work_plan.specs.Ends.{IsEnd, Sets, histories, names_set}
use Rattle.fuxi_terms.specs.NumbersSet.{numbers_set}
use Rattle.work_plan.specs.WorkEvents.{set_to}
use Rattle.work_plan.specs.WorkSettling.{published, running_of}
use Rattle.work_plan.specs.AgentWithApps.{agent_id, app_id}
use Rattle.work_plan.specs.WorkMoves.{CountsPeer}
use Rattle.work_plan.specs.NameChanges.{Tells}
use Rattle.work_plan.specs.Settles.{Crews, IsPublished, SettlesPeer, SettlesUnit, SettlesUnits, force_of, is_outside}
use Rattle.work_plan.specs.WorkWorlds.{Crew, HasPeer, IsPeer, agent_of, force_at, settled_work}
use Rattle.work_plan.specs.declared.parts.Peer.{Peer}
use Rattle.work_plan.proofs.HistoriesGrow.{received_is}
use Rattle.work_plan.proofs.NamesThatChange.{InOrder, running_count, told_is, unit_in_order, unit_told}

-- Units, one after another
outside_all : (first u : ℕ) → is_outside first first u ≡ true
outside_all first u = by (nat_lt u first)
  where
    by : (b : Bool) → (b || not b) ≡ true
    by true = refl
    by false = refl

pub settled_none : (app : ℕ) (plan : TallyRecord) (counts : List ℕ) (first : ℕ) (ws : Crews) → IsSome (get_or ws app None) → SettlesUnits app plan counts first first ws ws []
settled_none app plan counts first ws there = record {
  runs = λ u. sym (ap (λ b. elim b as (λ _. List ℕ) [ true ↦ runs_at ws app u | false ↦ run_after (runs_at ws app u) (named u plan.entries) (get_or counts u 0) ]) (outside_all first u));
  others = λ a ne. refl;
  admitted = there;
  distinct = λ u f. let bad : true ≡ false = sym (outside_all first u) ∙ f in cc;
  tells = λ entries t. t;
  are = record { sorted = tt; within = tt };
  below = tt;
}

pub settled_one_more : (app : ℕ) (plan : TallyRecord) (counts : List ℕ) (first k : ℕ) (old mid new : Crews) (ns ns' : List (Key × ℕ)) → first ≤ k → k < most_units → SettlesUnits app plan counts first k old mid ns → SettlesUnit app k plan (get_or counts k 0) mid new ns ns' → SettlesUnits app plan counts first (k + 1) old new ns'
settled_one_more app plan counts first k old mid new ns ns' le lk s u =
    let order = unit_in_order k u.ran u.run ns lk (record { are = s.are; below = s.below }) in
    let order' : InOrder (worker_key (k + 1) 0) ns' = subst (InOrder (worker_key (k + 1) 0)) (sym u.changes) order in
    record {
      runs = λ v. runs v (nat_eq v k) refl;
      others = λ a ne. u.others a ne ∙ s.others a ne;
      admitted = u.admitted;
      distinct = λ v f. distinct v f (nat_eq v k) refl;
      tells = λ entries t. subst (λ ms. Tells entries ms (runs_at new app)) (sym u.changes) (unit_told entries ns k u.ran u.run (runs_at mid app) (runs_at new app) lk u.marks_before u.marks_after (λ v ne. u.units v ne) (s.tells entries t));
      are = order'.are;
      below = order'.below;
    }
  where
    at : ℕ → Bool → List ℕ
    at v b = elim b as (λ _. List ℕ) [ true ↦ runs_at old app v | false ↦ run_after (runs_at old app v) (named v plan.entries) (get_or counts v 0) ]

    not_yet : is_outside first k k ≡ true
    not_yet = let f : nat_lt k first ≡ false = grind (arith, nat_tests, le) in let g : nat_lt k k ≡ false = grind (arith, nat_tests) in λ i. f i || not (g i)

    now : is_outside first (k + 1) k ≡ false
    now = let f : nat_lt k first ≡ false = grind (arith, nat_tests, le) in let g : nat_lt k (k + 1) ≡ true = grind (arith, nat_tests) in λ i. f i || not (g i)

    before : runs_at mid app k ≡ runs_at old app k
    before = s.runs k ∙ ap (at k) not_yet

    other : (v : ℕ) → nat_eq v k ≡ false → is_outside first (k + 1) v ≡ is_outside first k v
    other v t = ap (λ b. nat_lt v first || not b) (by (nat_lt v k) refl)
      where
        by : (b : Bool) → nat_lt v k ≡ b → nat_lt v (k + 1) ≡ b
        by true e = grind (arith, nat_tests, e)
        by false e = grind (arith, nat_tests, e, t)

    apart : (v : ℕ) → nat_eq v k ≡ false → v ≢ k
    apart v t = λ e. let bad : nat_eq v k ≡ true = grind (arith, nat_tests, e) in let both : true ≡ false = sym bad ∙ t in cc

    runs : (v : ℕ) (b : Bool) → nat_eq v k ≡ b → runs_at new app v ≡ elim (is_outside first (k + 1) v) as (λ _. List ℕ) [ true ↦ runs_at old app v | false ↦ run_after (runs_at old app v) (named v plan.entries) (get_or counts v 0) ]
    runs v true t = subst (λ n. runs_at new app n ≡ elim (is_outside first (k + 1) n) as (λ _. List ℕ) [ true ↦ runs_at old app n | false ↦ run_after (runs_at old app n) (named n plan.entries) (get_or counts n 0) ]) (sym (number_is v k t))
        (u.runs ∙ ap (λ ws. run_after ws (named k plan.entries) (get_or counts k 0)) before ∙ sym (ap (at k) now))
    runs v false t = u.units v (apart v t) ∙ s.runs v ∙ sym (ap (at v) (other v t))

    distinct : (v : ℕ) → is_outside first (k + 1) v ≡ false → (b : Bool) → nat_eq v k ≡ b → Distinct (runs_at old app v)
    distinct v f true t = subst (λ n. Distinct (runs_at old app n)) (sym (number_is v k t)) (subst Distinct before u.distinct)
    distinct v f false t = s.distinct v (sym (other v t) ∙ f)

-- The plan in force, in the program and as it is written
pub force_is : (p : Peer) (crew : Crew) (b a : ℕ) (l : Link) (hs : histories) (plan : TallyRecord) (counts : ℕ → ℕ) (work : ℕ → List ℕ) → HasPeer p crew b a l hs plan counts work → force_of p.ends p.plan ≡ force_at hs a l plan
force_is p crew b a l hs plan counts work h =
    ap (λ y. elim (nat_eq y.seq 0) as (λ _. TallyRecord) [ true ↦ p.plan | false ↦ p.ends.incoming.received ]) h.ends.place ∙ by (nat_eq l.seq 0) refl
  where
    by : (t : Bool) → nat_eq l.seq 0 ≡ t → elim t as (λ _. TallyRecord) [ true ↦ p.plan | false ↦ p.ends.incoming.received ] ≡ elim t as (λ _. TallyRecord) [ true ↦ plan | false ↦ at_index empty_tally (hs (record { id = app_id a; inc = l.known }) agent_id) l.seq ]
    by true t = h.before t
    by false t = sym (received_is p.ends (agent_of b) (app_id a) l hs h.ends)

force_again : (hs hs' : histories) (a : ℕ) (l : Link) (plan : TallyRecord) → hs' (record { id = app_id a; inc = l.known }) agent_id ≡ hs (record { id = app_id a; inc = l.known }) agent_id → force_at hs' a l (force_at hs a l plan) ≡ force_at hs a l plan
force_again hs hs' a l plan same = by (nat_eq l.seq 0)
  where
    by : (t : Bool) → elim t as (λ _. TallyRecord) [ true ↦ elim t as (λ _. TallyRecord) [ true ↦ plan | false ↦ at_index empty_tally (hs (record { id = app_id a; inc = l.known }) agent_id) l.seq ] | false ↦ at_index empty_tally (hs' (record { id = app_id a; inc = l.known }) agent_id) l.seq ]
        ≡ elim t as (λ _. TallyRecord) [ true ↦ plan | false ↦ at_index empty_tally (hs (record { id = app_id a; inc = l.known }) agent_id) l.seq ]
    by true = refl
    by false = ap (λ h. at_index empty_tally h l.seq) same

force_before : (hs : histories) (a : ℕ) (l : Link) (plan : TallyRecord) → nat_eq l.seq 0 ≡ true → force_at hs a l plan ≡ plan
force_before hs a l plan t = ap (λ b. elim b as (λ _. TallyRecord) [ true ↦ plan | false ↦ at_index empty_tally (hs (record { id = app_id a; inc = l.known }) agent_id) l.seq ]) t

-- numbers that a list of small numbers has are small
has_small : (plan : List ℕ) (n : ℕ) → has_number n plan ≡ true → AllByRecursion (λ m. m < most_workers) plan → n < most_workers
has_small [] n t h = cc
has_small (m ∷ ms) n t h = by (nat_eq n m) refl (λ u. has_small ms n u h.1)
  where
    by : (b : Bool) → nat_eq n m ≡ b → (has_number n ms ≡ true → n < most_workers) → n < most_workers
    by true e k = subst (λ k. k < most_workers) (sym (number_is n m e)) h.0
    by false e k = k (sym (ap (λ b. b || has_number n ms) e) ∙ t)

all_small : (plan ns : List ℕ) → AllByRecursion (λ n. has_number n plan ≡ true) ns → AllByRecursion (λ m. m < most_workers) plan → AllByRecursion (λ m. m < most_workers) ns
all_small plan [] w h = tt
all_small plan (n ∷ ns) w h = (has_small plan n w.0 h, all_small plan ns w.1 h)

-- What holds of those that run after a plan
pub record RunLaws : Type 0 where
  pub distinct : (running plan : List ℕ) (n : ℕ) → Distinct running → Distinct plan → Distinct (run_after running plan n)
  pub wanted : (running plan : List ℕ) (n : ℕ) → Distinct running → Distinct plan → AllByRecursion (λ w. has_number w plan ≡ true) (run_after running plan n)
  pub many : (running plan : List ℕ) (n : ℕ) → Distinct running → Distinct plan → length (run_after running plan n) ≡ min n (length plan)
  pub stays : (running plan : List ℕ) (n : ℕ) → Distinct running → Distinct plan → AllByRecursion (λ w. has_number w plan ≡ true) running → length running ≡ min n (length plan) → run_after running plan n ≡ running

module _ (laws : RunLaws) (once : (entries : List (Key × ℕ)) (unit : ℕ) → AreCounts key_cmp greatest_named entries → AreNumbersOf (of_unit unit entries)) (app first last : ℕ) (p p' : Peer) (old new : Crews) (ns : List (Key × ℕ))
    (s : SettlesUnits app (force_of p.ends p.plan) p.counts first last old new ns) (sets : Sets (names_set p.ends.outgoing.present ns) p.ends p'.ends) (same_plan : p'.plan ≡ p.plan) (same_counts : p'.counts ≡ p.counts)
    (plan_counts : AreCounts key_cmp greatest_named (force_of p.ends p.plan).entries) (sent_counts : AreCounts key_cmp greatest_named p'.ends.outgoing.present.entries) where
  module _ (b : ℕ) (l : Link) (hs hs' : histories) (plan : TallyRecord) (counts : ℕ → ℕ) (work : ℕ → List ℕ) (h : HasPeer p (get_or old app None) b app l hs plan counts work)
      (outside : (u : ℕ) → is_outside first last u ≡ true → settled_work work (force_at hs app l plan) counts u ≡ work u) (sent : IsPublished hs hs' b app l (settled_work work (force_at hs app l plan) counts)) where
    abbrev force : TallyRecord
    force = force_at hs app l plan

    abbrev after : ℕ → List ℕ
    after = settled_work work force counts

    here : force_of p.ends p.plan ≡ force
    here = force_is p (get_or old app None) b app l hs plan counts work h

    counted : AreCounts key_cmp greatest_named force.entries
    counted = subst (λ (t : TallyRecord). AreCounts key_cmp greatest_named t.entries) here plan_counts

    runs : (u : ℕ) → runs_at new app u ≡ after u
    runs u = s.runs u ∙ by (is_outside first last u) refl
      where
        by : (t : Bool) → is_outside first last u ≡ t → elim t as (λ _. List ℕ) [ true ↦ runs_at old app u | false ↦ run_after (runs_at old app u) (named u (force_of p.ends p.plan).entries) (get_or p.counts u 0) ] ≡ after u
        by true t = h.runs u ∙ sym (outside u t)
        by false t = λ i. run_after (h.runs u i) (named u (here i).entries) (h.counted u i)

    rests_small : (u : ℕ) (t : Bool) → is_outside first last u ≡ t → (settled_work after force counts u ≡ after u) × AllByRecursion (λ n. n < most_workers) (after u)
    rests_small u true t = (ap (λ ws. run_after ws (named u force.entries) (counts u)) (outside u t), subst (AllByRecursion (λ n. n < most_workers)) (sym (outside u t)) (h.small u))
    rests_small u false t =
        let d : Distinct (work u) = subst Distinct (h.runs u) (s.distinct u t) in
        let o = once force.entries u counted in
        let wanted = laws.wanted (work u) (named u force.entries) (counts u) d o.distinct in (
          laws.stays (after u) (named u force.entries) (counts u) (laws.distinct (work u) (named u force.entries) (counts u) d o.distinct) o.distinct wanted (laws.many (work u) (named u force.entries) (counts u) d o.distinct),
          all_small (named u force.entries) (after u) wanted o.within,
        )

    small : (u : ℕ) → AllByRecursion (λ n. n < most_workers) (after u)
    small u = (rests_small u (is_outside first last u) refl).1

    names : names_set p.ends.outgoing.present ns ≡ running_of after
    names =
        let entries = p.ends.outgoing.present.entries in
        let first_told : Tells entries [] (runs_at old app) = λ u n lu ln. ap (λ (t : TallyRecord). count key_cmp t.entries (worker_key u n)) h.told ∙ running_count work u n lu ∙ ap (λ ws. cond (has_number n ws) 1 0) (sym (h.runs u)) in
        let told : Tells entries ns after = subst (Tells entries ns) (λ i u. runs u i) (s.tells entries first_told) in
        let counts_are : AreCounts key_cmp greatest_named (numbers_set key_cmp entries ns) = subst (λ (t : TallyRecord). AreCounts key_cmp greatest_named t.entries) sets.present sent_counts in
        let same = told_is entries ns after told counts_are small in
        λ i. record { head = (ap (λ (t : TallyRecord). t.head) h.told) i; entries = same i }

    settled : IsPeer p' (get_or new app None) b app l hs' force counts after
    settled = record {
      has = record {
        ends = sets.ends (agent_of b) (app_id app) l hs hs' h.ends (sent.own ∙ ap (published (hs (agent_of b) (app_id app))) (sym names)) sent.theirs;
        told = sets.present ∙ names;
        before = λ t. same_plan ∙ h.before t ∙ sym (force_before hs app l plan t);
        counted = λ u. ap (λ cs. get_or cs u 0) same_counts ∙ h.counted u;
        none = h.none;
        admitted = s.admitted;
        runs = runs;
        small = small;
      };
      force = force_again hs hs' app l plan sent.theirs;
      rests = λ u. (rests_small u (is_outside first last u) refl).0;
    }

  pub peer_is_settled : SettlesPeer app first last p p' old new
  peer_is_settled = record { others = s.others; peer = settled }

-- The count of a unit changes
pub peer_is_counted : (app unit most : ℕ) (p p' p'' : Peer) (old new : Crews) → unit < length p.counts → unit < most_units → p'.ends ≡ p.ends → p'.plan ≡ p.plan → p'.counts ≡ set p.counts unit most → SettlesPeer app unit (unit + 1) p' p'' old new → CountsPeer app unit most p p'' old new
peer_is_counted app unit most p p' p'' old new long lu same_ends same_plan counted s = record { others = s.others; peer = λ b l hs hs' plan counts work h published. s.peer b l hs hs' plan (set_to counts unit most) work (has b l hs plan counts work h) (rests b l hs plan counts work h) published }
  where
    apart : (u : ℕ) → nat_eq u unit ≡ false → u ≢ unit
    apart u t = λ e. let bad : nat_eq u unit ≡ true = grind (arith, nat_tests, e) in let both : true ≡ false = sym bad ∙ t in cc

    has : (b : ℕ) (l : Link) (hs : histories) (plan : TallyRecord) (counts : ℕ → ℕ) (work : ℕ → List ℕ) → IsPeer p (get_or old app None) b app l hs plan counts work → HasPeer p' (get_or old app None) b app l hs plan (set_to counts unit most) work
    has b l hs plan counts work h = record {
      ends = subst (λ e. IsEnd e (agent_of b) (app_id app) l hs) (sym same_ends) h.has.ends;
      told = ap (λ (e : Endpoint TallyRecord ChangeRecord TallyRecord). e.outgoing.present) same_ends ∙ h.has.told;
      before = λ t. same_plan ∙ h.has.before t;
      counted = λ u. ap (λ cs. get_or cs u 0) counted ∙ at u (nat_eq u unit) refl;
      none = λ u le. let other : nat_eq u unit ≡ false = grind (arith, nat_tests, le, lu) in ap (λ t. elim t as (λ _. ℕ) [ true ↦ most | false ↦ counts u ]) other ∙ h.has.none u le;
      admitted = h.has.admitted;
      runs = h.has.runs;
      small = h.has.small;
    }
      where
        at : (u : ℕ) (t : Bool) → nat_eq u unit ≡ t → get_or (set p.counts unit most) u 0 ≡ elim t as (λ _. ℕ) [ true ↦ most | false ↦ counts u ]
        at u true t = ap (λ k. get_or (set p.counts unit most) k 0) (number_is u unit t) ∙ get_or-set_same p.counts unit most 0 long
        at u false t = get_or-set_other p.counts unit u most 0 (apart u t) ∙ h.has.counted u

    rests : (b : ℕ) (l : Link) (hs : histories) (plan : TallyRecord) (counts : ℕ → ℕ) (work : ℕ → List ℕ) → IsPeer p (get_or old app None) b app l hs plan counts work → (u : ℕ) → is_outside unit (unit + 1) u ≡ true → settled_work work (force_at hs app l plan) (set_to counts unit most) u ≡ work u
    rests b l hs plan counts work h u out =
        let other : nat_eq u unit ≡ false = not_it (nat_eq u unit) refl in
        (λ i. run_after (work u) (named u (h.force i).entries) ((ap (λ t. elim t as (λ _. ℕ) [ true ↦ most | false ↦ counts u ]) other) i)) ∙ h.rests u
      where
        not_it : (t : Bool) → nat_eq u unit ≡ t → t ≡ false
        not_it false t = refl
        not_it true t =
            let same = number_is u unit t in
            let f : nat_lt u unit ≡ false = grind (arith, nat_tests, same) in
            let g : nat_lt u (unit + 1) ≡ true = grind (arith, nat_tests, same) in
            let bad : is_outside unit (unit + 1) u ≡ false = λ i. f i || not (g i) in
            sym out ∙ bad

-- What an adopted report says is kept.
use Rattle.std.proofs.Common.{◌≡◌, ℕ, ◌<◌, ◌≤◌, Bool, true, false, cond, not, nat_lt, List, [], ◌∷◌, Option, Some, None, slice_get, refl, sym, ◌∙◌, ap, subst, arith}
use Rattle.std.specs.Prelude.{◌&&◌, T}
use Rattle.std.specs.Option.{unwrap_or}
use Rattle.std.specs.List.{AllByRecursion}
use Rattle.std.specs.Ordering.{nat_cmp, eq_by_cmp, is_eq}
use Rattle.std.specs.Cmp.{tied_itself}
use Rattle.std.specs.FinMap.Entries.{below_all, find, put, is_sorted, find-put}
use Rattle.std.proofs.lemmas.Bool.Decides.{nat_tests}
use Rattle.fuxi_terms.specs.Cluster.{ClusterRecord}
use Rattle.fuxi_terms.specs.Counts.{count}
use Rattle.fuxi_terms.specs.Jobs.{KnownJob, is_known, is_live, unit_count, unit_of, no_unit, job_of}
use Rattle.fuxi_terms.specs.Keys.{RowKey, row_cmp, Spot, spot_cmp}
use Rattle.fuxi_terms.specs.Numbers.{has_number}
use Rattle.fuxi_terms.specs.Tables.{spot, held_on, Table}
use Rattle.fuxi_terms.specs.Vectors.{fits}
use Rattle.fuxi_terms.proofs.Alls.{all_more}
use Rattle.fuxi_terms.proofs.VectorLaws.{fits_places}
use Rattle.fuxi_terms.proofs.Booleans.{and_true, both_true, either}
use Rattle.fuxi_terms.proofs.CountsLemmas.{both_true as both, tied, below_none}
use Rattle.fuxi_terms.proofs.KeyOrders.{spot_total, same_spot, row_key_total}
use Rattle.spec_net.specs.Net.{Id, Packet, at_index, heard_of, is_taken}
use Rattle.spec_net.specs.Ledgers.{nothing}
use Rattle.spec_net.specs.Channels.{agent_id, party, is_master, is_agent, content}
use Rattle.spec_roles.specs.Masters.{Master}
use Rattle.spec_roles.specs.MasterSteps.{master_party, talks, counted, same_size, is_kept, adopted, ready}
use Rattle.spec_roles.proofs.TransitionsLemmas.{EachHeard, heard_has, reported_in, ready_besides, ready_rises}
use Rattle.spec_world.specs.World.{World}
use Rattle.spec_world.specs.Parties.{told, received}
use Rattle.spec_world.specs.Events.{Event, Deliver, counted_in, packet_of}
use Rattle.spec_world.specs.Good.{Invariant, IsOfJob, ReportHolds, KnowsMore}
use Rattle.spec_world.specs.KeepsGrants.{IsKept, IsAdopted, AllAdopt}
use Rattle.spec_world.specs.Runs.{run}
use Rattle.spec_world.proofs.InvariantKept.{always, counted_holds}
use Rattle.spec_world.proofs.EventStepsLemmas.{MasterSteps, master_through, master_is}

-- a row of a report fits the units that a master knows, as far as it knows the job
record IsExact (jobs : List KnownJob) (k : RowKey) : Type 0 where
  size : is_known jobs k.job ≡ true → k.size ≡ (unit_of jobs k.job k.unit).size

live_known : (jobs : List KnownJob) (a : ℕ) → is_live jobs a ≡ true → is_known jobs a ≡ true
live_known jobs a e = by (job_of jobs a) e
  where
    by : (o : Option KnownJob) → unwrap_or (Rattle.std.specs.Option.option_map (λ (j : KnownJob). not j.ended) o) false ≡ true → Rattle.std.specs.Prelude.is_some o ≡ true
    by None e = cc
    by (Some j) e = refl

-- rows behind a row are of other keys
other_rows : (k : RowKey) (rows : List (RowKey × ℕ)) → T (below_all row_cmp k rows) → AllByRecursion (λ r. eq_by_cmp row_cmp k r.0 ≡ false) rows
other_rows k [] h = tt
other_rows k (r ∷ rs) h = (by (eq_by_cmp row_cmp k r.0) refl, other_rows k rs (both (Rattle.std.specs.Ordering.is_lt (row_cmp k r.0)) (below_all row_cmp k rs) h).1)
  where
    by : (b : Bool) → eq_by_cmp row_cmp k r.0 ≡ b → eq_by_cmp row_cmp k r.0 ≡ false
    by true t = let none : find row_cmp k (r ∷ rs) ≡ None = below_none row_cmp k (r ∷ rs) h in
        let some : find row_cmp k (r ∷ rs) ≡ Some r.1 = ap (λ b. cond b (Some r.1) (find row_cmp k rs)) t in absurd (let f : ⊥ = cc in f)
    by false t = t

-- a row of another key leaves what a row put
put_other : (jobs : List KnownJob) (m : ℕ) (k : RowKey) (r : RowKey × ℕ) (table : Table) → IsExact jobs r.0 → k.size ≡ (unit_of jobs k.job k.unit).size → eq_by_cmp row_cmp k r.0 ≡ false
    → count spot_cmp (cond (is_kept jobs r.0) (put spot_cmp (spot r.0.job r.0.unit m) r.1 table) table) (spot k.job k.unit m) ≡ count spot_cmp table (spot k.job k.unit m)
put_other jobs m k r table exact size other = either (λ t. count spot_cmp t (spot k.job k.unit m) ≡ count spot_cmp table (spot k.job k.unit m)) (is_kept jobs r.0) (put spot_cmp (spot r.0.job r.0.unit m) r.1 table) table
    (λ kept. ap (λ o. unwrap_or o 0) (find-put spot_cmp spot_total (spot k.job k.unit m) (spot r.0.job r.0.unit m) r.1 table) ∙ ap (λ b. unwrap_or (cond b (Some r.1) (find spot_cmp (spot k.job k.unit m) table)) 0) (apart kept (eq_by_cmp spot_cmp (spot k.job k.unit m) (spot r.0.job r.0.unit m)) refl)) (λ _. refl)
  where
    apart : is_kept jobs r.0 ≡ true → (b : Bool) → eq_by_cmp spot_cmp (spot k.job k.unit m) (spot r.0.job r.0.unit m) ≡ b → eq_by_cmp spot_cmp (spot k.job k.unit m) (spot r.0.job r.0.unit m) ≡ false
    apart kept false t = t
    apart kept true t =
        let same : spot k.job k.unit m ≡ spot r.0.job r.0.unit m = same_spot _ _ (tied _ t) in
        let job : k.job ≡ r.0.job = ap (λ (s : Spot). s.job) same in
        let unit : k.unit ≡ r.0.unit = ap (λ (s : Spot). s.unit) same in
        let its : r.0.size ≡ (unit_of jobs r.0.job r.0.unit).size = exact.size (live_known jobs r.0.job (both_true (is_live jobs r.0.job) _ kept).0) in
        let sizes : k.size ≡ r.0.size = size ∙ (λ i. (unit_of jobs (job i) (unit i)).size) ∙ sym its in
        let key : k ≡ r.0 = (λ i. record { job = job i; unit = unit i; size = sizes i }) in
        let yes : eq_by_cmp row_cmp k r.0 ≡ true = ap (λ q. eq_by_cmp row_cmp k q) (sym key) ∙ ap is_eq (tied_itself row_key_total k) in
        absurd (let f : ⊥ = cc in f)

adopted_other : (jobs : List KnownJob) (m : ℕ) (k : RowKey) (rows : List (RowKey × ℕ)) (table : Table) → AllByRecursion (λ r. IsExact jobs r.0) rows → k.size ≡ (unit_of jobs k.job k.unit).size → AllByRecursion (λ r. eq_by_cmp row_cmp k r.0 ≡ false) rows
    → count spot_cmp (adopted jobs m rows table) (spot k.job k.unit m) ≡ count spot_cmp table (spot k.job k.unit m)
adopted_other jobs m k [] table exact size other = refl
adopted_other jobs m k (r ∷ rs) table exact size other = adopted_other jobs m k rs (cond (is_kept jobs r.0) (put spot_cmp (spot r.0.job r.0.unit m) r.1 table) table) exact.1 size other.1 ∙ put_other jobs m k r table exact.0 size other.0

-- a row whose size is the unit's
size_kept : (jobs : List KnownJob) (k : RowKey) → is_live jobs k.job ≡ true → k.unit < unit_count jobs k.job → k.size ≡ (unit_of jobs k.job k.unit).size → is_kept jobs k ≡ true
size_kept jobs k live unit size = and_true (is_live jobs k.job) (nat_lt k.unit (unit_count jobs k.job) && same_size (unit_of jobs k.job k.unit).size k.size) live
    (and_true (nat_lt k.unit (unit_count jobs k.job)) (same_size (unit_of jobs k.job k.unit).size k.size) (grind (arith, nat_tests, unit)) (subst (λ z. same_size z k.size ≡ true) size (and_true (fits k.size k.size) (fits k.size k.size) itself itself)))
  where
    itself : fits k.size k.size ≡ true
    itself = (fits_places k.size k.size).1 (λ i. omega arith)

-- each row that is kept is then in the table
abbrev HeldFrom : List KnownJob → ℕ → Table → RowKey × ℕ → Type 0
HeldFrom jobs m table e = is_live jobs e.0.job ≡ true → e.0.unit < unit_count jobs e.0.job → e.0.size ≡ (unit_of jobs e.0.job e.0.unit).size → e.1 ≤ held_on table e.0.job e.0.unit m

adopted_held : (jobs : List KnownJob) (m : ℕ) (rows : List (RowKey × ℕ)) (table : Table) → T (is_sorted row_cmp rows) → AllByRecursion (λ r. IsExact jobs r.0) rows → AllByRecursion (HeldFrom jobs m (adopted jobs m rows table)) rows
adopted_held jobs m [] table k exact = tt
adopted_held jobs m (e ∷ es) table k exact = (
  λ live unit size.
      let other = other_rows e.0 es (both (below_all row_cmp e.0 es) (is_sorted row_cmp es) k).0 in
      let stays = adopted_other jobs m e.0 es (cond (is_kept jobs e.0) (put spot_cmp (spot e.0.job e.0.unit m) e.1 table) table) exact.1 size other in
      let here = here_now (size_kept jobs e.0 live unit size) in
      omega (arith, stays, here),
  adopted_held jobs m es (cond (is_kept jobs e.0) (put spot_cmp (spot e.0.job e.0.unit m) e.1 table) table) (both (below_all row_cmp e.0 es) (is_sorted row_cmp es) k).1 exact.1,
)
  where
    q : Spot
    q = spot e.0.job e.0.unit m

    here_now : is_kept jobs e.0 ≡ true → count spot_cmp (cond (is_kept jobs e.0) (put spot_cmp q e.1 table) table) q ≡ e.1
    here_now kept = ap (λ b. count spot_cmp (cond b (put spot_cmp q e.1 table) table) q) kept ∙ ap (λ o. unwrap_or o 0) (find-put spot_cmp spot_total q q e.1 table) ∙ ap (λ o. unwrap_or (cond (is_eq o) (Some e.1) (find spot_cmp q table)) 0) (tied_itself spot_total q)

clash : (b : Bool) → b ≡ true → b ≡ false → ⊥
clash true e f = cc
clash false e f = cc

-- what a master of the world knows of a row that was reported
exact_row : (c : ClusterRecord) (jobs hard : List KnownJob) (k : RowKey) → KnowsMore jobs hard → IsOfJob hard k → IsExact jobs k
exact_row c jobs hard k more of = record { size = λ known. of.2 ∙ ap (λ us. (unwrap_or (slice_get us k.unit) no_unit).size) (more.known k.job known).1 }

module _ (w : World) (h : Invariant w) where
  abbrev Adopting : Event → ℕ → Master → Master → Type 0
  Adopting v e M N = (k m : ℕ) (x : Packet) → v ≡ Deliver k → IsAdopted w k m x M N → has_number m N.bans ≡ false → AllByRecursion (IsKept N m) (content w.net x).rows

  report : (m : ℕ) (y : Packet) → y.from.id ≡ agent_id m → is_master y.to.id ≡ true → ReportHolds w.cluster w.hard.jobs m (content w.net y).rows
  report m y from to = subst (λ (d : Id). ReportHolds w.cluster w.hard.jobs m (at_index nothing (w.net.histories (party d y.from.inc) y.to.id) y.seq).rows) (sym from)
      (subst (λ (d : Id). ReportHolds w.cluster w.hard.jobs m (at_index nothing (w.net.histories (party (agent_id m) y.from.inc) d) y.seq).rows) (sym (master_is y.to.id to)) (h.reports m y.from.inc y.seq))

  record IsWhole (M : Master) (m : ℕ) (rows : List (RowKey × ℕ)) (X : Master) : Type 0 where
    it : has_number m X.reported ≡ true → has_number m X.bans ≡ false → AllByRecursion (IsKept X m) rows

  heard_whole : (M : Master) (m : ℕ) (y : Packet) → find nat_cmp y.to.inc w.masters ≡ Some M → y.from.id ≡ agent_id m → is_master y.to.id ≡ true → has_number m M.reported ≡ false
      → EachHeard M (heard_of w.net (master_party M) (talks w.cluster M) y).fresh y.from.id (received w.cluster M w.net y) (IsWhole M m (content w.net y).rows)
  heard_whole M m y f from to new = record {
    same = λ _. record { it = λ rep _. absurd (clash (has_number m M.reported) rep new) };
    reports = λ agent _. record { it = λ _ free. kept agent free };
    meets = λ other. record { it = λ _ _. absurd (clash (is_agent y.from.id) (ap is_agent from) other) };
    demands = λ other. record { it = λ _ _. absurd (clash (is_agent y.from.id) (ap is_agent from) other) };
  }
    where
      rows : List (RowKey × ℕ)
      rows = (content w.net y).rows

      number : y.from.id.number ≡ m
      number = ap (λ (d : Id). d.number) from

      held : ReportHolds w.cluster w.hard.jobs m rows → AllByRecursion (HeldFrom M.jobs m (adopted M.jobs m rows M.table)) rows
      held r = adopted_held M.jobs m rows M.table r.named.counts.sorted (all_more (λ q. IsOfJob w.hard.jobs q.0) (λ q. IsExact M.jobs q.0) (λ q of. exact_row w.cluster M.jobs w.hard.jobs q.0 (h.masters y.to.inc M f).knows of) rows r.named.named)

      table : is_agent y.from.id ≡ true → has_number m M.bans ≡ false → (reported_in M y.from.id.number (received w.cluster M w.net y)).table ≡ adopted M.jobs m rows M.table
      table agent free =
          ap (λ n. cond (has_number n M.bans) M.table (adopted M.jobs n (received w.cluster M w.net y).rows M.table)) number
          ∙ ap (λ b. cond b M.table (adopted M.jobs m (received w.cluster M w.net y).rows M.table)) free
          ∙ ap (λ b. adopted M.jobs m (cond b (content w.net y) (counted w.cluster M.jobs y.from.id.number (content w.net y))).rows M.table) agent

      kept : is_agent y.from.id ≡ true → has_number m M.bans ≡ false → AllByRecursion (IsKept (reported_in M y.from.id.number (received w.cluster M w.net y)) m) rows
      kept agent free = all_more (HeldFrom M.jobs m (adopted M.jobs m rows M.table)) (IsKept (reported_in M y.from.id.number (received w.cluster M w.net y)) m)
          (λ e g. λ live unit size. (let x = g live unit size in let t = ap (λ t. held_on t e.0.job e.0.unit m) (table agent free) in omega (arith, x, t))) rows (held (report m y from to))

  ready_kept : (c : ClusterRecord) (X : Master) (m : ℕ) (e : RowKey × ℕ) → IsKept X m e → IsKept (ready c X) m e
  ready_kept c X m e g = λ live unit size.
      let s = ready_besides c X in
      let x = g (subst (λ (js : List KnownJob). is_live js e.0.job ≡ true) s.jobs live) (subst (λ (js : List KnownJob). e.0.unit < unit_count js e.0.job) s.jobs unit) (size ∙ ap (λ (js : List KnownJob). (unit_of js e.0.job e.0.unit).size) s.jobs) in
      let r = ready_rises c X (spot e.0.job e.0.unit m) in
      omega (arith, x, r)

  heard_adopts : (M : Master) (k : ℕ) (y : Packet) → find nat_cmp y.to.inc w.masters ≡ Some M → packet_of w k ≡ Some y → is_master y.to.id ≡ true → (m : ℕ) → y.from.id ≡ agent_id m
      → let N = ready w.cluster (told M (heard_of w.net (master_party M) (talks w.cluster M) y) y.from.id (received w.cluster M w.net y)) in has_number m M.reported ≡ false → has_number m N.reported ≡ true → has_number m N.bans ≡ false → AllByRecursion (IsKept N m) (content w.net y).rows
  heard_adopts M k y f sent to m from new rep free =
      let d = heard_of w.net (master_party M) (talks w.cluster M) y in
      let X = told M d y.from.id (received w.cluster M w.net y) in
      let s = ready_besides w.cluster X in
      let x = (heard_has M d.fresh (is_taken d.what) y.from.id (received w.cluster M w.net y) (IsWhole M m (content w.net y).rows) (heard_whole M m y f from to new)).it (subst (λ ms. has_number m ms ≡ true) s.reported rep) (subst (λ ms. has_number m ms ≡ false) s.bans free) in
      all_more (IsKept X m) (IsKept (ready w.cluster X) m) (ready_kept w.cluster X m) (content w.net y).rows x

  adopts_steps : MasterSteps (counted_in w) Adopting
  adopts_steps = record {
    same = λ v e M f k m x _ ad _. absurd (clash (has_number m M.reported) ad.adopted ad.new);
    submits = λ e M j f k m x is ad _. cc;
    finishes = λ e M a f k m x is ad _. cc;
    bans = λ e M n f k m x is ad _. cc;
    unbans = λ e M n f k m x is ad _. cc;
    begins = λ e M f k m x is ad _. cc;
    preempts = λ e M p f _ _ k m x is ad _. cc;
    hears = λ M j y f sent to t k m x is ad free. heard M j y f sent to k m x is ad free;
  }
    where
      heard : (M : Master) (j : ℕ) (y : Packet) → find nat_cmp y.to.inc w.masters ≡ Some M → packet_of w j ≡ Some y → is_master y.to.id ≡ true → (k m : ℕ) (x : Packet) → Deliver j ≡ Deliver k
          → let N = ready w.cluster (told M (heard_of w.net (master_party M) (talks w.cluster M) y) y.from.id (received w.cluster M w.net y)) in IsAdopted w k m x M N → has_number m N.bans ≡ false → AllByRecursion (IsKept N m) (content w.net x).rows
      heard M j y f sent to k m x is ad free =
          let number : j ≡ k = cc in
          let one : Some y ≡ Some x = sym sent ∙ ap (packet_of w) number ∙ ad.sent in
          let same : y ≡ x = ap (λ o. unwrap_or o y) one in
          subst (λ (z : Packet). AllByRecursion (IsKept (ready w.cluster (told M (heard_of w.net (master_party M) (talks w.cluster M) y) y.from.id (received w.cluster M w.net y))) m) (content w.net z).rows) same
          (heard_adopts M j y f sent to m (ap (λ (z : Packet). z.from.id) same ∙ ad.from) ad.new ad.adopted free)

pub all_adopt : (c : ClusterRecord) (events : List Event) → AllAdopt (run c events)
all_adopt c events = let w = run c events in record {
  adopts = λ k e m x M N r ad free. master_through (counted_in w) (counted_holds w (always c events)) (Adopting w (always c events)) (adopts_steps w (always c events)) (Deliver k) e M N r.single r.before r.behind k m x refl ad free;
}

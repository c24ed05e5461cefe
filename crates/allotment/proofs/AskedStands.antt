-- A demand is taken over.
use Rattle.std.proofs.Common.{◌≡◌, ℕ, Bool, true, false, cond, nat_eq, List, [], length, get_or, refl, sym, ◌∙◌, ap}
use Rattle.std.specs.Prelude.{Option, Some, None}
use Rattle.std.specs.Option.{unwrap_or, option_map}
use Rattle.std.specs.Ordering.{nat_cmp}
use Rattle.std.specs.Cmp.{nat_cmp_total}
use Rattle.std.specs.FinMap.Entries.{put, find, find-put, find-where_key}
use Rattle.fuxi_terms.specs.Cluster.{ClusterRecord, JobRecord}
use Rattle.fuxi_terms.specs.declared.Key.{Key}
use Rattle.fuxi_terms.specs.Counts.{count}
use Rattle.fuxi_terms.specs.Jobs.{KnownJob, unit_count, job_of}
use Rattle.fuxi_terms.specs.Keys.{key_cmp}
use Rattle.fuxi_terms.specs.TallyKeys.{want_key, near_key, rack_key, avoid_key}
use Rattle.fuxi_terms.proofs.KeyOrders.{same_key}
use Rattle.spec_net.specs.Ledgers.{Ledger, nothing, tally_ledger}
use Rattle.spec_roles.specs.Masters.{Master, asked, demand_of}
use Rattle.spec_roles.specs.MasterSteps.{counted, is_there as counts_there}
use Rattle.grant_table.specs.GrantTables.{TableRecord, as_known}
use Rattle.place_pass.specs.Placers.{SeenRecord, asks_seen, asks_after, units_seen, is_there}
use Rattle.allotment.specs.PlacingReads.{IsPlacing, record_of}
use Rattle.fuxi_terms.proofs.NumbersLemmas.{same_number}

demand_put : (M : Master) (a b : ℕ) (d : Ledger) → demand_of (record M { demands = put nat_cmp a d M.demands }) b ≡ cond (nat_eq a b) d (demand_of M b)
demand_put M a b d = ap (λ o. unwrap_or o nothing) (find-put nat_cmp nat_cmp_total b a d M.demands) ∙ ap (λ t. unwrap_or (cond t (Some d) (find nat_cmp b M.demands)) nothing) (same_number a b) ∙ split (nat_eq a b)
  where
    split : (t : Bool) → unwrap_or (cond t (Some d) (find nat_cmp b M.demands)) nothing ≡ cond t d (demand_of M b)
    split true = refl
    split false = refl

-- what counts of a demand, at a key
counted_at : (c : ClusterRecord) (jobs : List KnownJob) (a head : ℕ) (es : List (Key × ℕ)) (k : Key) → count key_cmp (counted c jobs a (tally_ledger head es)).entries k ≡ cond (counts_there c (unit_count jobs a) k) (count key_cmp es k) 0
counted_at c jobs a head es k = ap (λ o. unwrap_or o 0) (find-where_key key_cmp (counts_there c (unit_count jobs a)) k (λ x t. ap (counts_there c (unit_count jobs a)) (sym (same_key k x t))) es) ∙ split (counts_there c (unit_count jobs a) k)
  where
    split : (t : Bool) → unwrap_or (cond t (find key_cmp k es) None) 0 ≡ cond t (count key_cmp es k) 0
    split true = refl
    split false = refl

asked_put : (M : Master) (c : ClusterRecord) (a b head : ℕ) (es : List (Key × ℕ)) (k : Key)
    → asked (record M { demands = put nat_cmp a (counted c M.jobs a (tally_ledger head es)) M.demands }) b k ≡ cond (nat_eq a b) (cond (counts_there c (unit_count M.jobs a) k) (count key_cmp es k) 0) (asked M b k)
asked_put M c a b head es k = ap (λ (d : Ledger). count key_cmp d.entries k) (demand_put M a b (counted c M.jobs a (tally_ledger head es))) ∙ split (nat_eq a b)
  where
    split : (t : Bool) → count key_cmp (cond t (counted c M.jobs a (tally_ledger head es)) (demand_of M b)).entries k ≡ cond t (cond (counts_there c (unit_count M.jobs a) k) (count key_cmp es k) 0) (asked M b k)
    split true = counted_at c M.jobs a head es k
    split false = refl

units_of_record : (o : Option JobRecord) → ℕ
units_of_record None = 0
units_of_record (Some j) = length j.units

units_recorded : (jobs : List KnownJob) (a : ℕ) → unit_count jobs a ≡ units_of_record (record_of jobs a)
unfolding units_of_record
units_recorded jobs a = by (job_of jobs a)
  where
    by : (o : Option KnownJob) → length (unwrap_or (option_map (λ (k : KnownJob). k.job.units) o) []) ≡ units_of_record (option_map (λ (k : KnownJob). k.job) o)
    by None = refl
    by (Some k) = refl

pub same_units : (xs ys : List KnownJob) (a : ℕ) → record_of xs a ≡ record_of ys a → unit_count xs a ≡ unit_count ys a
same_units xs ys a e = units_recorded xs a ∙ ap units_of_record e ∙ sym (units_recorded ys a)

module _ (t : TableRecord) (s new : SeenRecord) (c : ClusterRecord) (M : Master) (a head : ℕ) (es : List (Key × ℕ)) (h : IsPlacing t s c M) (cluster : s.cluster ≡ t.cluster) (units : units_seen s a ≡ unit_count (as_known t.jobs) a)
    (asks : (b : ℕ) (k : Key) → asks_seen new b k ≡ asks_after s a es b k) (opened : new.opened ≡ s.opened) (line : new.line ≡ s.line) where
  abbrev after : Master
  after = record M { demands = put nat_cmp a (counted c M.jobs a (tally_ledger head es)) M.demands }

  -- at a key where both tests say the same
  at : (b : ℕ) (k : Key) → is_there c (unit_count M.jobs a) k ≡ counts_there c (unit_count M.jobs a) k → asks_seen s b k ≡ asked M b k → asks_seen new b k ≡ asked after b k
  at b k same old =
      let place = cluster ∙ h.cluster in
      let count_is = units ∙ same_units (as_known t.jobs) M.jobs a (h.jobs a) in
      asks b k ∙ (λ i. cond (nat_eq a b) (cond (is_there (place i) (count_is i) k) (count key_cmp es k) 0) (old i)) ∙ ap (λ q. cond (nat_eq a b) (cond q (count key_cmp es k) 0) (asked M b k)) same ∙ sym (asked_put M c a b head es k)

  pub asked_placing : IsPlacing t new c after
  asked_placing = record {
    cluster = h.cluster;
    numbers = h.numbers;
    jobs = h.jobs;
    entries = h.entries;
    wants = λ b u. at b (want_key u) refl (h.wants b u);
    near = λ b u m. at b (near_key u m) refl (h.near b u m);
    racks = λ b u r. at b (rack_key u r) refl (h.racks b u r);
    avoids = λ b u m. at b (avoid_key u m) refl (h.avoids b u m);
    usable = λ m. ap (λ os. get_or os m false) opened ∙ h.usable m;
    line = line ∙ h.line;
  }

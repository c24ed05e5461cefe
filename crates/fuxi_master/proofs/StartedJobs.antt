-- The known jobs are admitted, one number after another.
use Rattle.std.proofs.Common.{◌≡◌, ℕ, suc, ◌+◌, ◌<◌, Bool, true, false, cond, nat_eq, nat_lt, T, List, [], ◌∷◌, length, map, slice_get, Option, Some, None, refl, sym, ◌∙◌, ap, subst, arith}
use Rattle.std.specs.Prelude.{◌||◌, is_some}
use Rattle.std.specs.Option.{option_map}
use Rattle.std.specs.Ordering.{nat_cmp, eq_by_cmp, is_eq}
use Rattle.std.specs.Cmp.{tied_itself}
use Rattle.std.specs.FinMap.Entries.{is_sorted, find, same_entries}
use Rattle.std.proofs.lemmas.Bool.Decides.{nat_tests}
use Rattle.std.proofs.lemmas.Cmp.{nat_cmp_total}
use Rattle.std.proofs.lemmas.Map.Lookups.{exact_unsigned}
use Rattle.fuxi_terms.specs.Cluster.{ClusterRecord, JobRecord}
use Rattle.fuxi_terms.specs.Jobs.{KnownJob, job_of, is_known, job_numbers}
use Rattle.fuxi_terms.specs.Numbers.{has_number, with_number}
use Rattle.fuxi_terms.proofs.Booleans.{number_is, nat_itself, same_tests, or_left}
use Rattle.fuxi_terms.proofs.CountsLemmas.{tied}
use Rattle.spec_roles.specs.HardState.{with_job}
use Rattle.spec_roles.specs.Masters.{Master}
use Rattle.grant_table.specs.GrantTables.{TableRecord, as_known, with_admitted}
use Rattle.allotment.specs.PlacingReads.{record_of}
use Rattle.allotment.specs.Allotted.{AllotmentRecord, Allots, AllWait}
use Rattle.fuxi_master.specs.MasterStarts.{AreAdmitted}
use Rattle.fuxi_master.proofs.AllotsAlike.{allots_alike}
use Rattle.fuxi_terms.proofs.NumbersLemmas.{with_is, with_rises}
use Rattle.fuxi_master.proofs.Projected.{known_alike}
use Rattle.fuxi_master.proofs.Readied.{listed}

-- ---- what is found by number
recorded : (b : Bool) (k : KnownJob) (o : Option KnownJob) → option_map (λ (x : KnownJob). x.job) (cond b (Some k) o) ≡ cond b (Some k.job) (option_map (λ (x : KnownJob). x.job) o)
recorded true k o = refl
recorded false k o = refl

one_more : (k : JobRecord) (ks : List JobRecord) (a : ℕ) → record_of (as_known (k ∷ ks)) a ≡ cond (nat_eq k.number a) (Some k) (record_of (as_known ks) a)
one_more k ks a = recorded (nat_eq k.number a) (record { job = k; ended = false }) (job_of (as_known ks) a)

record Apart (b : Bool) (o : Option JobRecord) : Type 0 where
  other : b ≡ false
  none : o ≡ None

apart : (b : Bool) (k : JobRecord) (o : Option JobRecord) → cond b (Some k) o ≡ None → Apart b o
apart true k o e = cc
apart false k o e = record { other = refl; none = e }

turned : (x y : Bool) (k j : JobRecord) (o : Option JobRecord) → (x ≡ true → y ≡ false) → cond x (Some k) (cond y (Some j) o) ≡ cond y (Some j) (cond x (Some k) o)
turned true y k j o f = ap (λ b. cond b (Some j) (Some k)) (sym (f refl))
turned false y k j o f = refl

found : (j : JobRecord) (ks : List JobRecord) (a : ℕ) → record_of (as_known ks) j.number ≡ None → record_of (as_known (with_admitted j ks)) a ≡ cond (nat_eq j.number a) (Some j) (record_of (as_known ks) a)
found j [] a e = one_more j [] a
found j (k ∷ ks) a e = elim (nat_lt j.number k.number) as (λ b. record_of (as_known (cond b (j ∷ k ∷ ks) (k ∷ with_admitted j ks))) a ≡ cond (nat_eq j.number a) (Some j) (record_of (as_known (k ∷ ks)) a)) [
  | true ↦ one_more j (k ∷ ks) a
  | false ↦
      let off = apart (nat_eq k.number j.number) k (record_of (as_known ks) j.number) (sym (one_more k ks j.number) ∙ e) in
      one_more k (with_admitted j ks) a ∙ ap (cond (nat_eq k.number a) (Some k)) (found j ks a off.none)
      ∙ turned (nat_eq k.number a) (nat_eq j.number a) k j (record_of (as_known ks) a) (λ t. let s = number_is k.number a t in let o = off.other in grind (arith, nat_tests, s, o))
      ∙ ap (cond (nat_eq j.number a) (Some j)) (sym (one_more k ks a))
]

pub numbered : (jobs : List KnownJob) (a : ℕ) (j : JobRecord) → record_of jobs a ≡ Some j → j.number ≡ a
numbered [] a j e = cc
numbered (k ∷ ks) a j e = by (nat_eq k.job.number a) refl (sym (recorded (nat_eq k.job.number a) k (job_of ks a)) ∙ e) (numbered ks a j)
  where
    by : (b : Bool) → nat_eq k.job.number a ≡ b → cond b (Some k.job) (record_of ks a) ≡ Some j → (record_of ks a ≡ Some j → j.number ≡ a) → j.number ≡ a
    by true t e more = let same : k.job ≡ j = cc in ap (λ (x : JobRecord). x.number) (sym same) ∙ number_is k.job.number a t
    by false t e more = more e

pub none_known : (jobs : List KnownJob) (a : ℕ) → record_of jobs a ≡ None → is_known jobs a ≡ false
none_known jobs a e = by (job_of jobs a) e
  where
    by : (o : Option KnownJob) → option_map (λ (x : KnownJob). x.job) o ≡ None → is_some o ≡ false
    by None e = refl
    by (Some k) e = cc

pub no_record : (jobs : List KnownJob) (a : ℕ) → is_known jobs a ≡ false → record_of jobs a ≡ None
no_record jobs a e = by (job_of jobs a) e
  where
    by : (o : Option KnownJob) → is_some o ≡ false → option_map (λ (x : KnownJob). x.job) o ≡ None
    by None e = refl
    by (Some k) e = cc

-- ---- below a number
abbrev upto : List KnownJob → ℕ → ℕ → Option JobRecord
upto jobs n a = elim (nat_lt a n) as (λ _. Option JobRecord) [ true ↦ record_of jobs a | false ↦ None ]

one_below : (jobs : List KnownJob) (n a : ℕ) → upto jobs (n + 1) a ≡ cond (nat_eq n a) (record_of jobs n) (upto jobs n a)
one_below jobs n a = by (nat_eq n a) refl
  where
    by : (b : Bool) → nat_eq n a ≡ b → upto jobs (n + 1) a ≡ cond b (record_of jobs n) (upto jobs n a)
    by true e =
        let same = number_is n a e in
        let lt : nat_lt a (n + 1) ≡ true = grind (arith, nat_tests, same) in
        ap (λ b. elim b as (λ _. Option JobRecord) [ true ↦ record_of jobs a | false ↦ None ]) lt ∙ ap (record_of jobs) (sym same)
    by false e =
        let lt : nat_lt a (n + 1) ≡ nat_lt a n = grind (arith, nat_tests, e) in
        ap (λ b. elim b as (λ _. Option JobRecord) [ true ↦ record_of jobs a | false ↦ None ]) lt

not_below : (jobs : List KnownJob) (n a : ℕ) → nat_eq n a ≡ true → upto jobs n a ≡ None
not_below jobs n a e =
    let same = number_is n a e in
    let off : nat_lt a n ≡ false = grind (arith, nat_tests, same) in
    ap (λ b. elim b as (λ _. Option JobRecord) [ true ↦ record_of jobs a | false ↦ None ]) off

none_there : (jobs : List KnownJob) (n a : ℕ) → record_of jobs n ≡ None → upto jobs (n + 1) a ≡ upto jobs n a
none_there jobs n a none = one_below jobs n a ∙ ap (λ o. cond (nat_eq n a) o (upto jobs n a)) none ∙ by (nat_eq n a) refl
  where
    by : (b : Bool) → nat_eq n a ≡ b → cond b None (upto jobs n a) ≡ upto jobs n a
    by true e = sym (not_below jobs n a e)
    by false e = refl

-- ---- one number after another
pub none_admitted : (jobs : List KnownJob) (x : AllotmentRecord) → x.table.jobs ≡ [] → AllWait x → AreAdmitted jobs 0 x x
none_admitted jobs x empty waits = record {
  records = λ a. ap (λ js. record_of (as_known js) a) empty ∙ (let off : false ≡ nat_lt a 0 = grind (arith, nat_tests) in ap (λ b. elim b as (λ _. Option JobRecord) [ true ↦ record_of jobs a | false ↦ None ]) off);
  stands = λ c M h e. subst (Allots x c) (ap {A = List KnownJob} (λ js. record M { jobs = js }) (e ∙ sym (ap as_known empty))) h;
  waits = waits;
  rest = refl;
  turns = refl;
}

pub none_of_number : (jobs : List KnownJob) (n : ℕ) (x y : AllotmentRecord) → is_known jobs n ≡ false → AreAdmitted jobs n x y → AreAdmitted jobs (n + 1) x y
none_of_number jobs n x y none h = record {
  records = λ a. h.records a ∙ sym (none_there jobs n a (no_record jobs n none));
  stands = h.stands;
  waits = h.waits;
  rest = h.rest;
  turns = h.turns;
}

pub absent : (jobs : List KnownJob) (n : ℕ) (x y : AllotmentRecord) (j : JobRecord) → AreAdmitted jobs n x y → record_of jobs n ≡ Some j → record_of (as_known y.table.jobs) j.number ≡ None
absent jobs n x y j h is = h.records j.number ∙ not_below jobs n j.number (ap (nat_eq n) (numbered jobs n j is) ∙ nat_itself n)

module _ (jobs : List KnownJob) (n : ℕ) (x y z : AllotmentRecord) (j : JobRecord) (h : AreAdmitted jobs n x y) (is : record_of jobs n ≡ Some j)
    (stands : (c : ClusterRecord) (M : Master) → Allots y c M → Allots z c (record M { jobs = with_job j M.jobs })) (waits : AllWait y → AllWait z)
    (table : z.table ≡ record y.table { jobs = with_admitted j y.table.jobs }) (touched : z.touched ≡ y.touched) (turns : z.placer.seen.turns ≡ y.placer.seen.turns) where
  number : j.number ≡ n
  number = numbered jobs n j is

  stands_more : (c : ClusterRecord) (M : Master) → Allots x c M → M.jobs ≡ [] → Allots z c (record M { jobs = as_known z.table.jobs })
  stands_more c M a e =
      let L : Master = record M { jobs = with_job j (as_known y.table.jobs) } in
      let b = stands c (record M { jobs = as_known y.table.jobs }) (h.stands c M a e) in
      allots_alike z c L (record M { jobs = as_known z.table.jobs }) b
      (record { numbers = b.placing.numbers; jobs = b.placing.jobs; table = refl; demands = λ _. refl; usable = λ _. refl; line = refl })

  table_more : z.table ≡ record x.table { jobs = z.table.jobs }
  table_more =
      table ∙ ap {A = TableRecord} (λ t. record t { jobs = with_admitted j y.table.jobs }) (ap (λ (r : AllotmentRecord). r.table) h.rest)
      ∙ ap {A = List JobRecord} (λ js. record x.table { jobs = js }) (sym (ap (λ (t : TableRecord). t.jobs) table))

  pub one_admitted : AreAdmitted jobs (n + 1) x z
  one_admitted = record {
    records = λ a. ap (λ (t : TableRecord). record_of (as_known t.jobs) a) table ∙ found j y.table.jobs a (absent jobs n x y j h is)
        ∙ (λ i. cond (nat_eq (number i) a) (sym is i) (h.records a i)) ∙ sym (one_below jobs n a);
    stands = stands_more;
    waits = waits h.waits;
    rest = λ i. record { table = table_more i; placer = z.placer; touched = (touched ∙ ap (λ (r : AllotmentRecord). r.touched) h.rest) i };
    turns = turns ∙ h.turns;
  }

-- ---- at the end: all of them, where each number is below the bound
pub all_records : (jobs : List KnownJob) (n : ℕ) (x y : AllotmentRecord) → ((a : ℕ) → is_known jobs a ≡ true → a < n) → AreAdmitted jobs n x y → (a : ℕ) → record_of (as_known y.table.jobs) a ≡ record_of jobs a
all_records jobs n x y below h a = h.records a ∙ by (nat_lt a n) (is_known jobs a) refl refl
  where
    by : (b k : Bool) → nat_lt a n ≡ b → is_known jobs a ≡ k → elim b as (λ _. Option JobRecord) [ true ↦ record_of jobs a | false ↦ None ] ≡ record_of jobs a
    by true k e f = refl
    by false false e f = sym (no_record jobs a f)
    by false true e f = absurd (let lt = below a f in let t : nat_lt a n ≡ true = grind (arith, nat_tests, lt) in let x : true ≡ false = sym t ∙ e in cc)

-- ---- a bound of the numbers of the first jobs
abbrev pub AreBelow : List KnownJob → ℕ → ℕ → Type 0
AreBelow jobs n numbers = (k : ℕ) (j : KnownJob) → k < n → slice_get jobs k ≡ Some j → j.job.number < numbers

pub all_below : (jobs : List KnownJob) (n numbers : ℕ) → n ≡ length jobs → AreBelow jobs n numbers → (a : ℕ) → is_known jobs a ≡ true → a < numbers
all_below [] n numbers all h a e = cc
all_below (k ∷ ks) n numbers all h a e = by (nat_eq k.job.number a) refl e (all_below ks (length ks) numbers refl (λ i j lt there. h (suc i) j (omega (arith, lt, all)) there) a)
  where
    by : (b : Bool) → nat_eq k.job.number a ≡ b → is_some (cond b (Some k) (job_of ks a)) ≡ true → (is_known ks a ≡ true → a < numbers) → a < numbers
    by true t f more = let same = number_is k.job.number a t in let first = h 0 k (omega (arith, all)) refl in omega (arith, first, same)
    by false t f more = more f

-- ---- jobs of the same records have the same numbers
rises : (jobs : List KnownJob) → T (is_sorted {X = ℕ} nat_cmp (map (λ (n : ℕ). (n, 0)) (job_numbers jobs)))
rises [] = tt
rises (j ∷ js) = with_rises j.job.number (job_numbers js) (rises js)

ties : (q n : ℕ) → eq_by_cmp nat_cmp q n ≡ nat_eq q n
ties q n = same_tests (eq_by_cmp nat_cmp q n) (nat_eq q n)
    (λ t. let s : q ≡ n = exact_unsigned q n (tied _ t) in ap (nat_eq q) (sym s) ∙ nat_itself q)
    (λ t. let s : q ≡ n = number_is q n t in ap (λ x. is_eq (nat_cmp q x)) (sym s) ∙ ap is_eq (tied_itself nat_cmp_total q))

found_at : (q : ℕ) (ns : List ℕ) → find nat_cmp q (map {B = ℕ × ℕ} (λ n. (n, 0)) ns) ≡ cond {A = Option ℕ} (has_number q ns) (Some 0) None
found_at q [] = refl
found_at q (n ∷ ns) =
    ap (λ b. cond {A = Option ℕ} b (Some 0) (find nat_cmp q (map {B = ℕ × ℕ} (λ n. (n, 0)) ns))) (ties q n)
    ∙ ap (cond {A = Option ℕ} (nat_eq q n) (Some 0)) (found_at q ns)
    ∙ by (nat_eq q n)
  where
    by : (b : Bool) → cond {A = Option ℕ} b (Some 0) (cond {A = Option ℕ} (has_number q ns) (Some 0) None) ≡ cond {A = Option ℕ} (b || has_number q ns) (Some 0) None
    by true = refl
    by false = refl

unpaired : (ns : List ℕ) → map (λ (p : ℕ × ℕ). p.0) (map {B = ℕ × ℕ} (λ n. (n, 0)) ns) ≡ ns
unpaired [] = refl
unpaired (n ∷ ns) = ap (λ ms. n ∷ ms) (unpaired ns)

pub same_numbers : (js ks : List KnownJob) → ((a : ℕ) → record_of js a ≡ record_of ks a) → job_numbers js ≡ job_numbers ks
same_numbers js ks same =
    let pairs : map {B = ℕ × ℕ} (λ n. (n, 0)) (job_numbers js) ≡ map {B = ℕ × ℕ} (λ n. (n, 0)) (job_numbers ks) =
    same_entries nat_cmp nat_cmp_total exact_unsigned (map {B = ℕ × ℕ} (λ n. (n, 0)) (job_numbers js)) (map {B = ℕ × ℕ} (λ n. (n, 0)) (job_numbers ks)) (rises js) (rises ks)
    (λ q. found_at q (job_numbers js) ∙ ap (λ b. cond {A = Option ℕ} b (Some 0) None) (listed js q ∙ known_alike js ks q (same q) ∙ sym (listed ks q)) ∙ sym (found_at q (job_numbers ks))) in
    sym (unpaired (job_numbers js)) ∙ ap (map (λ (p : ℕ × ℕ). p.0)) pairs ∙ unpaired (job_numbers ks)

-- where there is no number there is no job
some_number : (n : ℕ) (ms : List ℕ) → with_number n ms ≡ [] → ⊥
some_number n ms e = let there : has_number n (with_number n ms) ≡ true = with_is n n ms ∙ or_left (nat_eq n n) (has_number n ms) (nat_itself n) in let x : true ≡ false = sym there ∙ ap (has_number n) e in cc

pub no_jobs : (js : List JobRecord) → job_numbers (as_known js) ≡ [] → js ≡ []
no_jobs [] e = refl
no_jobs (j ∷ js) e = absurd (some_number j.number (job_numbers (as_known js)) e)

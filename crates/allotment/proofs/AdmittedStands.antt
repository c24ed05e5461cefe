-- A job is admitted.
use Rattle.std.proofs.Common.{◌≡◌, ℕ, ◌<◌, Bool, true, false, cond, nat_eq, nat_lt, List, [], ◌∷◌, get_or, refl, sym, ◌∙◌, ap, arith, inl, inr}
use Rattle.std.specs.Prelude.{Option, Some, None}
use Rattle.std.specs.Option.{option_map}
use Rattle.std.proofs.lemmas.Bool.{cases_lt}
use Rattle.std.proofs.lemmas.Bool.Decides.{nat_tests}
use Rattle.fuxi_terms.specs.Cluster.{ClusterRecord, JobRecord}
use Rattle.fuxi_terms.specs.declared.Key.{Key}
use Rattle.fuxi_terms.specs.Jobs.{KnownJob, job_of, job_numbers, is_known}
use Rattle.fuxi_terms.specs.Numbers.{with_number}
use Rattle.fuxi_terms.specs.TallyKeys.{want_key, near_key, rack_key, avoid_key}
use Rattle.fuxi_terms.proofs.Booleans.{number_is}
use Rattle.fuxi_terms.proofs.Lookups.{none_is}
use Rattle.spec_roles.specs.HardState.{with_job}
use Rattle.spec_roles.specs.Masters.{Master}
use Rattle.grant_table.specs.GrantTables.{TableRecord, as_known, with_admitted}
use Rattle.place_pass.specs.Placers.{SeenRecord, asks_seen}
use Rattle.allotment.specs.PlacingReads.{IsPlacing}

-- ---- numbers go into a rising list in any order
with_less : (n x : ℕ) (xs : List ℕ) → n < x → with_number n (x ∷ xs) ≡ n ∷ x ∷ xs
with_less n x xs lt = let t : nat_lt n x ≡ true = grind (arith, nat_tests, lt) in ap (λ b. cond b (n ∷ x ∷ xs) (cond (nat_eq n x) (x ∷ xs) (x ∷ with_number n xs))) t

with_itself : (n : ℕ) (xs : List ℕ) → with_number n (n ∷ xs) ≡ n ∷ xs
with_itself n xs =
    let f : nat_lt n n ≡ false = grind (arith, nat_tests) in
    let t : nat_eq n n ≡ true = grind (arith, nat_tests) in
    λ i. cond (f i) (n ∷ n ∷ xs) (cond (t i) (n ∷ xs) (n ∷ with_number n xs))

with_more : (n x : ℕ) (xs : List ℕ) → x < n → with_number n (x ∷ xs) ≡ x ∷ with_number n xs
with_more n x xs lt =
    let f : nat_lt n x ≡ false = grind (arith, nat_tests, lt) in
    let g : nat_eq n x ≡ false = grind (arith, nat_tests, lt) in
    λ i. cond (f i) (n ∷ x ∷ xs) (cond (g i) (x ∷ xs) (x ∷ with_number n xs))

in_turn : (n m : ℕ) (xs : List ℕ) → n < m → with_number n (with_number m xs) ≡ with_number m (with_number n xs)
in_turn n m [] lt = with_less n m [] lt ∙ sym (with_more m n [] lt)
in_turn n m (x ∷ xs) lt = elim (cases_lt m x) [
  | inl less ↦
      ap (with_number n) (with_less m x xs less) ∙ with_less n m (x ∷ xs) lt ∙ ap (λ ys. n ∷ ys) (sym (with_less m x xs less)) ∙ sym (with_more m n (x ∷ xs) lt) ∙ ap (with_number m) (sym (with_less n x xs (omega (arith, lt, less))))
  | inr ge ↦ elim (cases_lt x m) [
    | inr le ↦
        let same : m ≡ x = omega (arith, ge, le) in
        let kept : with_number m (x ∷ xs) ≡ x ∷ xs = ap (λ k. with_number k (x ∷ xs)) same ∙ with_itself x xs in
        let below : n < x = omega (arith, lt, same) in
        ap (with_number n) kept ∙ with_less n x xs below ∙ ap (λ ys. n ∷ ys) (sym kept) ∙ sym (with_more m n (x ∷ xs) lt) ∙ ap (with_number m) (sym (with_less n x xs below))
    | inl more ↦ elim (cases_lt n x) [
      | inl less ↦
          ap (with_number n) (with_more m x xs more) ∙ with_less n x (with_number m xs) less ∙ ap (λ ys. n ∷ ys) (sym (with_more m x xs more)) ∙ sym (with_more m n (x ∷ xs) lt) ∙ ap (with_number m) (sym (with_less n x xs less))
      | inr ge' ↦ elim (cases_lt x n) [
        | inl over ↦
            ap (with_number n) (with_more m x xs more) ∙ with_more n x (with_number m xs) over ∙ ap (λ ys. x ∷ ys) (in_turn n m xs lt) ∙ sym (with_more m x (with_number n xs) more) ∙ ap (with_number m) (sym (with_more n x xs over))
        | inr le' ↦
            let same : n ≡ x = omega (arith, ge', le') in
            let kept : with_number n (x ∷ xs) ≡ x ∷ xs = ap (λ k. with_number k (x ∷ xs)) same ∙ with_itself x xs in
            let stays : with_number n (x ∷ with_number m xs) ≡ x ∷ with_number m xs = ap (λ k. with_number k (x ∷ with_number m xs)) same ∙ with_itself x (with_number m xs) in
            ap (with_number n) (with_more m x xs more) ∙ stays ∙ sym (with_more m x xs more) ∙ ap (with_number m) (sym kept)
      ]
    ]
  ]
]

either_order : (n m : ℕ) (xs : List ℕ) → with_number n (with_number m xs) ≡ with_number m (with_number n xs)
either_order n m xs = elim (cases_lt n m) [
  | inl lt ↦ in_turn n m xs lt
  | inr ge ↦ elim (cases_lt m n) [
    | inl lt ↦ sym (in_turn m n xs lt)
    | inr le ↦ let same : n ≡ m = omega (arith, ge, le) in λ i. with_number (same i) (with_number (sym same i) xs)
  ]
]

numbers_admitted : (j : JobRecord) (ks : List JobRecord) → job_numbers (as_known (with_admitted j ks)) ≡ with_number j.number (job_numbers (as_known ks))
numbers_admitted j [] = refl
numbers_admitted j (k ∷ ks) = elim (nat_lt j.number k.number) as (λ b. job_numbers (as_known (cond b (j ∷ k ∷ ks) (k ∷ with_admitted j ks))) ≡ with_number j.number (with_number k.number (job_numbers (as_known ks)))) [
  | true ↦ refl
  | false ↦ ap (with_number k.number) (numbers_admitted j ks) ∙ either_order k.number j.number (job_numbers (as_known ks))
]

numbers_behind : (j : JobRecord) (xs : List KnownJob) → job_numbers (with_job j xs) ≡ with_number j.number (job_numbers xs)
numbers_behind j [] = refl
numbers_behind j (x ∷ xs) = ap (with_number x.job.number) (numbers_behind j xs) ∙ either_order x.job.number j.number (job_numbers xs)

-- ---- and is found by its number
no_job : (o : Option KnownJob) → option_map (λ (k : KnownJob). k.job) o ≡ None → o ≡ None
no_job None e = refl
no_job (Some k) e = cc

job_behind : (j : JobRecord) (xs : List KnownJob) (a : ℕ) → job_of xs j.number ≡ None → job_of (with_job j xs) a ≡ cond (nat_eq j.number a) (Some (record { job = j; ended = false })) (job_of xs a)
job_behind j [] a e = refl
job_behind j (x ∷ xs) a e = by (nat_eq x.job.number j.number) refl e (nat_eq x.job.number a) refl (job_behind j xs a)
  where
    new : KnownJob
    new = record { job = j; ended = false }

    by : (b : Bool) → nat_eq x.job.number j.number ≡ b → cond b (Some x) (job_of xs j.number) ≡ None → (d : Bool) → nat_eq x.job.number a ≡ d
        → (job_of xs j.number ≡ None → job_of (with_job j xs) a ≡ cond (nat_eq j.number a) (Some new) (job_of xs a))
        → cond d (Some x) (job_of (with_job j xs) a) ≡ cond (nat_eq j.number a) (Some new) (cond d (Some x) (job_of xs a))
    by true p q d e r = cc
    by false p q false e r = r q
    by false p q true e r = let f : nat_eq j.number a ≡ false = let s = number_is x.job.number a e in grind (arith, nat_tests, s, p) in ap (λ b. cond b (Some new) (Some x)) (sym f)

recorded : (b : Bool) (j : JobRecord) (o : Option KnownJob) → option_map (λ (k : KnownJob). k.job) (cond b (Some (record { job = j; ended = false })) o) ≡ cond b (Some j) (option_map (λ (k : KnownJob). k.job) o)
recorded true j o = refl
recorded false j o = refl

abbrev pub FoundLaw : Type 0
FoundLaw = (j : JobRecord) (ks : List JobRecord) (a : ℕ) → is_known (as_known ks) j.number ≡ false → job_of (as_known (with_admitted j ks)) a ≡ cond (nat_eq j.number a) (Some (record { job = j; ended = false })) (job_of (as_known ks) a)

module _ (law : FoundLaw) (t : TableRecord) (s new : SeenRecord) (c : ClusterRecord) (M : Master) (j : JobRecord) (h : IsPlacing t s c M) (fresh : is_known (as_known t.jobs) j.number ≡ false)
    (asks : (a : ℕ) (k : Key) → asks_seen new a k ≡ asks_seen s a k) (opened : new.opened ≡ s.opened) (line : new.line ≡ s.line) where
  absent : job_of M.jobs j.number ≡ None
  absent = no_job (job_of M.jobs j.number) (sym (h.jobs j.number) ∙ ap (option_map (λ (k : KnownJob). k.job)) (none_is (job_of (as_known t.jobs) j.number) fresh))

  pub admitted_placing : IsPlacing (record t { jobs = with_admitted j t.jobs }) new c (record M { jobs = with_job j M.jobs })
  admitted_placing = record {
    cluster = h.cluster;
    numbers = numbers_admitted j t.jobs ∙ ap (with_number j.number) h.numbers ∙ sym (numbers_behind j M.jobs);
    jobs = λ a.
        ap (option_map (λ (k : KnownJob). k.job)) (law j t.jobs a fresh) ∙ recorded (nat_eq j.number a) j (job_of (as_known t.jobs) a) ∙ ap (cond (nat_eq j.number a) (Some j)) (h.jobs a)
        ∙ sym (recorded (nat_eq j.number a) j (job_of M.jobs a)) ∙ sym (ap (option_map (λ (k : KnownJob). k.job)) (job_behind j M.jobs a absent));
    entries = h.entries;
    wants = λ a u. asks a (want_key u) ∙ h.wants a u;
    near = λ a u m. asks a (near_key u m) ∙ h.near a u m;
    racks = λ a u r. asks a (rack_key u r) ∙ h.racks a u r;
    avoids = λ a u m. asks a (avoid_key u m) ∙ h.avoids a u m;
    usable = λ m. ap (λ os. get_or os m false) opened ∙ h.usable m;
    line = line ∙ h.line;
  }

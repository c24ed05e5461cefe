-- After the end of a master's step nothing is placeable, whatever the job, the unit and the machine.
use Rattle.std.proofs.Common.{◌≡◌, ℕ, zero, suc, ◌<◌, Bool, true, false, cond, not, nat_eq, nat_lt, List, [], ◌∷◌, ◌++◌, length, map, Some, None, refl, sym, ◌∙◌, ap, subst, arith}
use Rattle.std.specs.Prelude.{◌&&◌, ◌||◌, filter}
use Rattle.std.specs.Option.{unwrap_or, option_map}
use Rattle.std.specs.List.{flat_map}
use Rattle.std.specs.Ordering.{nat_cmp}
use Rattle.std.specs.FinMap.Entries.{find}
use Rattle.std.proofs.lemmas.Bool.Decides.{nat_tests}
use Rattle.fuxi_terms.specs.Cluster.{ClusterRecord}
use Rattle.fuxi_terms.specs.Keys.{Spot, Pair}
use Rattle.spec_net.specs.Ledgers.{nothing, at_key}
use Rattle.fuxi_terms.specs.TallyKeys.{want_key}
use Rattle.fuxi_terms.specs.Jobs.{KnownJob, job_of, unit_count, job_numbers}
use Rattle.fuxi_terms.specs.Numbers.{has_number, with_number}
use Rattle.fuxi_terms.specs.Lists.{below}
use Rattle.spec_roles.specs.Masters.{Master, out}
use Rattle.spec_roles.specs.Placing.{waiting_pairs, has_pair, lined, line_up, is_usable, accepts, may_grow, has_room, is_allowed, placeable, first_placeable, granted, settle, settled, all_out}
use Rattle.fuxi_terms.specs.Tables.{with_grant}
use Rattle.spec_roles.specs.Settling.{NothingPlaceable}
use Rattle.spec_roles.specs.MasterSteps.{phased, ready}
use Rattle.fuxi_terms.proofs.Booleans.{both_true, number_is, nat_itself, same_tests, or_left, or_right}
use Rattle.fuxi_terms.proofs.Sums.{held_more}
use Rattle.spec_roles.proofs.PlacingEnds.{settled_nothing}
use Rattle.spec_world.specs.Good.{AllWait, IsRangedMaster, IsResting}
use Rattle.spec_world.proofs.TablesInOrder.{ready_waits, waits_too}

-- numbers in lists
number_filter : (n : ℕ) (test : ℕ → Bool) (ns : List ℕ) → test n ≡ true → has_number n ns ≡ true → has_number n (filter test ns) ≡ true
number_filter n test [] t h = cc
number_filter n test (m ∷ ms) t h = elim (nat_eq n m) as (λ b. nat_eq n m ≡ b → (b || has_number n ms) ≡ true → has_number n (cond (test m) (m ∷ filter test ms) (filter test ms)) ≡ true) [
  | true ↦ λ e _.
      let same : n ≡ m = number_is n m e in
      let passes : test m ≡ true = subst (λ k. test k ≡ true) same t in
      ap (λ b. has_number n (cond b (m ∷ filter test ms) (filter test ms))) passes ∙ or_left (nat_eq n m) (has_number n (filter test ms)) e
  | false ↦ λ e h.
      let rest = number_filter n test ms t h in
      elim (test m) as (λ b. has_number n (cond b (m ∷ filter test ms) (filter test ms)) ≡ true) [ true ↦ or_right (nat_eq n m) _ rest | false ↦ rest ]
] refl h

number_append : (n : ℕ) (xs ys : List ℕ) → has_number n (xs ++ ys) ≡ (has_number n xs || has_number n ys)
number_append n [] ys = refl
number_append n (x ∷ xs) ys = elim (nat_eq n x) as (λ b. (b || has_number n (xs ++ ys)) ≡ ((b || has_number n xs) || has_number n ys)) [ true ↦ refl | false ↦ number_append n xs ys ]

-- a number below another is one of those
pub number_below : (n m : ℕ) → nat_lt m n ≡ true → has_number m (below n) ≡ true
number_below zero m lt = absurd (let f : m < 0 = grind (arith, nat_tests, lt) in omega (arith, f))
number_below (suc n) m lt = number_append m (below n) (n ∷ []) ∙ elim (nat_lt m n) as (λ b. nat_lt m n ≡ b → (has_number m (below n) || has_number m (n ∷ [])) ≡ true) [
  | true ↦ λ t. or_left (has_number m (below n)) _ (number_below n m t)
  | false ↦ λ t. let same : nat_eq m n ≡ true = grind (arith, nat_tests, lt, t) in or_right (has_number m (below n)) _ (or_left (nat_eq m n) false same)
] refl

-- a number that is added is there
pub number_with : (n m : ℕ) (ms : List ℕ) → (nat_eq n m || has_number n ms) ≡ true → has_number n (with_number m ms) ≡ true
number_with n m [] h = h
number_with n m (k ∷ ks) h = elim (nat_lt m k) as (λ b. has_number n (cond b (m ∷ k ∷ ks) (cond (nat_eq m k) (k ∷ ks) (k ∷ with_number m ks))) ≡ true) [
  | true ↦ h
  | false ↦ elim (nat_eq m k) as (λ b. nat_eq m k ≡ b → has_number n (cond b (k ∷ ks) (k ∷ with_number m ks)) ≡ true) [
    | true ↦ λ e. let same : m ≡ k = number_is m k e in elim (nat_eq n m) as (λ b. nat_eq n m ≡ b → (b || (nat_eq n k || has_number n ks)) ≡ true → (nat_eq n k || has_number n ks) ≡ true) [
      | true ↦ λ t _. or_left (nat_eq n k) _ (subst (λ x. nat_eq n x ≡ true) same t)
      | false ↦ λ _ h. h
    ] refl h
    | false ↦ λ _. elim (nat_eq n k) as (λ b. (nat_eq n m || (b || has_number n ks)) ≡ true → (b || has_number n (with_number m ks)) ≡ true) [
      | true ↦ λ _. refl
      | false ↦ λ h. number_with n m ks h
    ] h
  ] refl
]

-- a job with a unit is one of the known ones
pub job_listed : (jobs : List KnownJob) (a u : ℕ) → nat_lt u (unit_count jobs a) ≡ true → has_number a (job_numbers jobs) ≡ true
job_listed [] a u h = absurd (let f : u < 0 = grind (arith, nat_tests, h) in omega (arith, f))
job_listed (j ∷ js) a u h = elim (nat_eq j.job.number a) as (λ b. nat_eq j.job.number a ≡ b → nat_lt u (length (unwrap_or (option_map (λ j. j.job.units) (cond b (Some j) (job_of js a))) [])) ≡ true → has_number a (with_number j.job.number (job_numbers js)) ≡ true) [
  | true ↦ λ e _. let same : j.job.number ≡ a = number_is _ _ e in number_with a j.job.number (job_numbers js) (or_left (nat_eq a j.job.number) _ (subst (λ x. nat_eq a x ≡ true) (sym same) (nat_itself a)))
  | false ↦ λ e h. number_with a j.job.number (job_numbers js) (or_right (nat_eq a j.job.number) _ (job_listed js a u h))
] refl h

-- pairs in lists
pair_append : (p : Pair) (xs ys : List Pair) → has_pair p (xs ++ ys) ≡ (has_pair p xs || has_pair p ys)
pair_append p [] ys = refl
pair_append p (x ∷ xs) ys = elim (nat_eq p.0 x.0 && nat_eq p.1 x.1) as (λ b. (b || has_pair p (xs ++ ys)) ≡ ((b || has_pair p xs) || has_pair p ys)) [ true ↦ refl | false ↦ pair_append p xs ys ]

same_pair : (p q : Pair) → (nat_eq p.0 q.0 && nat_eq p.1 q.1) ≡ true → p ≡ q
same_pair p q e = let parts = both_true (nat_eq p.0 q.0) (nat_eq p.1 q.1) e in let a = number_is _ _ parts.0 in let b = number_is _ _ parts.1 in λ i. (a i, b i)

pair_filter : (p : Pair) (test : Pair → Bool) (ps : List Pair) → test p ≡ true → has_pair p ps ≡ true → has_pair p (filter test ps) ≡ true
pair_filter p test [] t h = cc
pair_filter p test (q ∷ qs) t h = elim (nat_eq p.0 q.0 && nat_eq p.1 q.1) as (λ b. (nat_eq p.0 q.0 && nat_eq p.1 q.1) ≡ b → (b || has_pair p qs) ≡ true → has_pair p (cond (test q) (q ∷ filter test qs) (filter test qs)) ≡ true) [
  | true ↦ λ e _.
      let passes : test q ≡ true = subst (λ x. test x ≡ true) (same_pair p q e) t in
      ap (λ b. has_pair p (cond b (q ∷ filter test qs) (filter test qs))) passes ∙ or_left (nat_eq p.0 q.0 && nat_eq p.1 q.1) (has_pair p (filter test qs)) e
  | false ↦ λ e h.
      let rest = pair_filter p test qs t h in
      elim (test q) as (λ b. has_pair p (cond b (q ∷ filter test qs) (filter test qs)) ≡ true) [ true ↦ or_right (nat_eq p.0 q.0 && nat_eq p.1 q.1) _ rest | false ↦ rest ]
] refl h

pair_mapped : (a u : ℕ) (us : List ℕ) → has_number u us ≡ true → has_pair (a, u) (map (λ u. (a, u)) us) ≡ true
pair_mapped a u [] h = cc
pair_mapped a u (v ∷ vs) h = elim (nat_eq u v) as (λ b. nat_eq u v ≡ b → (b || has_number u vs) ≡ true → has_pair (a, u) ((a, v) ∷ map (λ u. (a, u)) vs) ≡ true) [
  | true ↦ λ e _. or_left (nat_eq a a && nat_eq u v) _ (ap (λ b. b && nat_eq u v) (nat_itself a) ∙ e)
  | false ↦ λ e h. or_right (nat_eq a a && nat_eq u v) _ (pair_mapped a u vs h)
] refl h

pair_flat : (a u : ℕ) (f : ℕ → List Pair) (ns : List ℕ) → has_number a ns ≡ true → has_pair (a, u) (f a) ≡ true → has_pair (a, u) (flat_map f ns) ≡ true
pair_flat a u f [] h k = cc
pair_flat a u f (n ∷ ns) h k = pair_append (a, u) (f n) (flat_map f ns) ∙ elim (nat_eq a n) as (λ b. nat_eq a n ≡ b → (b || has_number a ns) ≡ true → (has_pair (a, u) (f n) || has_pair (a, u) (flat_map f ns)) ≡ true) [
  | true ↦ λ e _. or_left (has_pair (a, u) (f n)) _ (subst (λ x. has_pair (a, u) (f x) ≡ true) (number_is a n e) k)
  | false ↦ λ e h. or_right (has_pair (a, u) (f n)) _ (pair_flat a u f ns h k)
] refl h

-- each pair with something out stands in the line
record IsFullLine (M : Master) : Type 0 where
  full : (a u : ℕ) → nat_lt 0 (out M a u) ≡ true → has_pair (a, u) M.line ≡ true

waits : (c : ClusterRecord) (M : Master) → IsRangedMaster c M → (a u : ℕ) → nat_lt 0 (out M a u) ≡ true → has_pair (a, u) (waiting_pairs M) ≡ true
waits c M r a u h =
    let there : nat_lt u (unit_count M.jobs a) ≡ true = elim (nat_lt u (unit_count M.jobs a)) as (λ b. nat_lt u (unit_count M.jobs a) ≡ b → b ≡ true) [
      | true ↦ λ _. refl
      | false ↦ λ e. let none = r.wanted a u e in absurd (let some : 0 < out M a u = grind (arith, nat_tests, h) in omega (arith, some, none))
    ] refl in
    pair_flat a u (λ a. map (λ u. (a, u)) (filter (λ u. nat_lt 0 (out M a u)) (below (unit_count M.jobs a)))) (job_numbers M.jobs) (job_listed M.jobs a u there)
    (pair_mapped a u (filter (λ u. nat_lt 0 (out M a u)) (below (unit_count M.jobs a))) (number_filter u (λ u. nat_lt 0 (out M a u)) (below (unit_count M.jobs a)) h (number_below (unit_count M.jobs a) u there)))

lined_has : (p : Pair) (line pairs : List Pair) → has_pair p pairs ≡ true → has_pair p (lined line pairs) ≡ true
lined_has p line pairs h = pair_append p (filter (λ q. has_pair q pairs) line) (filter (λ q. not (has_pair q line)) pairs) ∙ elim (has_pair p line) as (λ b. has_pair p line ≡ b → (has_pair p (filter (λ q. has_pair q pairs) line) || has_pair p (filter (λ q. not (has_pair q line)) pairs)) ≡ true) [
  | true ↦ λ e. or_left (has_pair p (filter (λ q. has_pair q pairs) line)) _ (pair_filter p (λ q. has_pair q pairs) line h e)
  | false ↦ λ e. or_right (has_pair p (filter (λ q. has_pair q pairs) line)) _ (pair_filter p (λ q. not (has_pair q line)) pairs (ap not e) h)
] refl

lined_full : (c : ClusterRecord) (M : Master) → IsRangedMaster c M → IsFullLine (line_up M)
lined_full c M r = record { full = λ a u h. lined_has (a, u) M.line (waiting_pairs M) (waits c M r a u h) }

granted_full : (M : Master) (s : Spot) → IsFullLine M → IsFullLine (granted M s)
granted_full M s f = record {
  full = λ a u h.
      let before : nat_lt 0 (out M a u) ≡ true = let more = held_more M.table s a u in grind (arith, nat_tests, more, h) in
      pair_filter (a, u) (λ p. nat_lt 0 (out (record M { table = with_grant M.table s }) p.0 p.1)) M.line h (f.full a u before);
}

settle_full : (c : ClusterRecord) (fuel : ℕ) (M : Master) → IsFullLine M → IsFullLine (settle c fuel M)
settle_full c zero M f = f
settle_full c (suc fuel) M f = elim (first_placeable c M) as (λ o. IsFullLine (elim o as (λ _. Master) [ None ↦ M | Some s ↦ settle c fuel (granted M s) ])) [ None ↦ f | Some s ↦ settle_full c fuel (granted M s) (granted_full M s f) ]

-- what settling leaves as it is
pub record SameParts (M N : Master) : Type 0 where
  pub jobs : N.jobs ≡ M.jobs
  pub demands : N.demands ≡ M.demands
  pub reported : N.reported ≡ M.reported

settle_parts : (c : ClusterRecord) (fuel : ℕ) (M : Master) → SameParts M (settle c fuel M)
settle_parts c zero M = record { jobs = refl; demands = refl; reported = refl }
settle_parts c (suc fuel) M = elim (first_placeable c M) as (λ o. SameParts M (elim o as (λ _. Master) [ None ↦ M | Some s ↦ settle c fuel (granted M s) ])) [
  | None ↦ record { jobs = refl; demands = refl; reported = refl }
  | Some s ↦ let p = settle_parts c fuel (granted M s) in record { jobs = p.jobs; demands = p.demands; reported = p.reported }
]

-- a master with the same parts
pub ranged_same : (c : ClusterRecord) (M N : Master) → SameParts M N → IsRangedMaster c M → IsRangedMaster c N
ranged_same c M N same r = record {
  reported = λ m h. r.reported m (subst (λ ms. has_number m ms ≡ true) same.reported h);
  wanted = λ a u h. ap (λ ds. at_key (unwrap_or (find nat_cmp a ds) nothing) (want_key u)) same.demands ∙ r.wanted a u (subst (λ js. nat_lt u (unit_count js a) ≡ false) same.jobs h);
}

-- placeable anywhere means: the line has it, on a machine of the cluster
none_anywhere : (c : ClusterRecord) (M : Master) → IsRangedMaster c M → IsFullLine M → NothingPlaceable c M → (a u m : ℕ) → placeable c M a u m ≡ false
none_anywhere c M r f none a u m = elim (placeable c M a u m) as (λ b. placeable c M a u m ≡ b → b ≡ false) [
  | true ↦ λ e.
      let parts = both_true (may_grow c M a u) (accepts c M a u m && has_room c M a u m) e in
      let grows = both_true M.serving (nat_lt 0 (out M a u) && is_allowed c M a u) parts.0 in
      let some = (both_true (nat_lt 0 (out M a u)) (is_allowed c M a u) grows.1).0 in
      let accepted = (both_true (accepts c M a u m) (has_room c M a u m) parts.1).0 in
      let usable = (both_true (is_usable M a u m) _ accepted).0 in
      let there = r.reported m (both_true (has_number m M.reported) _ usable).0 in
      let no = none a u m (f.full a u some) there in
      sym e ∙ no
  | false ↦ λ _. refl
] refl

rests_unserved : (c : ClusterRecord) (M : Master) → M.serving ≡ false → (a u m : ℕ) → placeable c M a u m ≡ false
rests_unserved c M e a u m = ap (λ b. (b && (nat_lt 0 (out M a u) && is_allowed c M a u)) && (accepts c M a u m && has_room c M a u m)) e

lined_ranged : (c : ClusterRecord) (M : Master) → IsRangedMaster c M → IsRangedMaster c (line_up (phased c M))
lined_ranged c M r = record { reported = r.reported; wanted = r.wanted }

phased_ranged : (c : ClusterRecord) (M : Master) → IsRangedMaster c M → IsRangedMaster c (phased c M)
phased_ranged c M r = record { reported = r.reported; wanted = r.wanted }

-- a pair stands in the line exactly where something is out
lined_out : (M : Master) → IsFullLine M → AllWait M M.line → (a u : ℕ) → has_pair (a, u) M.line ≡ nat_lt 0 (out M a u)
lined_out M f w a u = same_tests (has_pair (a, u) M.line) (nat_lt 0 (out M a u)) (λ e. waits_too M (a, u) M.line w e) (λ e. f.full a u e)

-- at the end of each step
pub ready_rests : (c : ClusterRecord) (M : Master) → IsRangedMaster c M → IsResting c (ready c M)
ready_rests c M r =
    let N = line_up (phased c M) in
    elim N.serving as (λ b. N.serving ≡ b → AllWait (elim b as (λ _. Master) [ true ↦ settled c N | false ↦ N ]) (elim b as (λ _. Master) [ true ↦ settled c N | false ↦ N ]).line → IsResting c (elim b as (λ _. Master) [ true ↦ settled c N | false ↦ N ])) [
      | true ↦ λ e w.
          let rs = ranged_same c N (settled c N) (settle_parts c (all_out N) N) (lined_ranged c M r) in
          let f = settle_full c (all_out N) N (lined_full c (phased c M) (phased_ranged c M r)) in
          record { ranged = rs; line = lined_out (settled c N) f w; settled = none_anywhere c (settled c N) rs f (settled_nothing c N) }
      | false ↦ λ e w. record { ranged = lined_ranged c M r; line = lined_out N (lined_full c (phased c M) (phased_ranged c M r)) w; settled = rests_unserved c N e }
    ] refl (ready_waits c M)

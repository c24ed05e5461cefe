-- The phase, the line and settling: what they keep, and that at their end nothing is left for them to do.
use Rattle.std.proofs.Common.{◌≡◌, ℕ, zero, suc, ◌+◌, Bool, true, false, cond, not, nat_eq, nat_lt, List, [], ◌∷◌, ◌++◌, filter, map, length, Option, Some, None, slice_get, refl, sym, ◌∙◌, ap, subst, arith}
use Rattle.std.specs.Prelude.{◌&&◌, ◌||◌}
use Rattle.std.specs.List.{AllByRecursion, list_all}
use Rattle.std.specs.Option.{is_some, unwrap_or, option_map}
use Rattle.std.proofs.lemmas.List.{map-append, append-nil}
use Rattle.std.proofs.lemmas.List.Elements.{filter-append}
use Rattle.std.proofs.lemmas.List.Folds.{list_any-append}
use Rattle.std.specs.Ordering.{eq_by_cmp}
use Rattle.std.proofs.lemmas.Bool.Decides.{nat_tests}
use Rattle.fuxi_terms.specs.Cluster.{ClusterRecord, has_machine}
use Rattle.fuxi_terms.specs.Counts.{count}
use Rattle.fuxi_terms.specs.Keys.{Spot, spot_cmp, Pair}
use Rattle.fuxi_terms.specs.Numbers.{has_number}
use Rattle.fuxi_terms.specs.Jobs.{KnownJob, job_of, is_known, unit_count, job_numbers}
use Rattle.fuxi_terms.specs.declared.Key.{Key}
use Rattle.fuxi_terms.specs.Lists.{below}
use Rattle.fuxi_terms.proofs.Booleans.{both_true, and_true, false_and, or_left, or_right, or_false, number_is, nat_itself, eq_turned}
use Rattle.fuxi_terms.proofs.CountsLemmas.{count-set_count, tied}
use Rattle.fuxi_terms.proofs.KeyOrders.{spot_total, same_spot}
use Rattle.spec_roles.specs.Masters.{Master, asked, out, out_of}
use Rattle.spec_roles.specs.MasterSteps.{phased, ready, settled_if_serving, is_all_reported}
use Rattle.spec_roles.specs.Placing.{has_pair, lined, waiting_in, waiting_pairs, line_up, placeable, may_grow, accepts, has_room, is_usable, first_placeable, granted, settle, settled, all_out}
use Rattle.spec_roles.specs.Settling.{NothingPlaceable, Picks, IsFirst}
use Rattle.fuxi_master.specs.Cores.{IsTidy}
use Rattle.fuxi_terms.proofs.NumbersLemmas.{with_is}
use Rattle.fuxi_terms.specs.Tables.{Table}

-- all of a master but its grants and its line
pub record SameBut (M N : Master) : Type 0 where
  pub epoch : N.epoch ≡ M.epoch
  pub jobs : N.jobs ≡ M.jobs
  pub bans : N.bans ≡ M.bans
  pub serving : N.serving ≡ M.serving
  pub reported : N.reported ≡ M.reported
  pub demands : N.demands ≡ M.demands
  pub credited : N.credited ≡ M.credited

itself : (M : Master) → SameBut M M
itself M = record { epoch = refl; jobs = refl; bans = refl; serving = refl; reported = refl; demands = refl; credited = refl }

pub settle_same : (c : ClusterRecord) (fuel : ℕ) (M : Master) → SameBut M (settle c fuel M)
settle_same c zero M = itself M
settle_same c (suc fuel) M = elim (first_placeable c M) as (λ o. SameBut M (elim o as (λ _. Master) [ None ↦ M | Some s ↦ settle c fuel (granted M s) ])) [
  | None ↦ itself M
  | Some s ↦ let r = settle_same c fuel (granted M s) in record { epoch = r.epoch; jobs = r.jobs; bans = r.bans; serving = r.serving; reported = r.reported; demands = r.demands; credited = r.credited }
]

pub serving_same : (c : ClusterRecord) (M : Master) → SameBut M (settled_if_serving c M)
serving_same c M = elim M.serving as (λ b. SameBut M (elim b as (λ _. Master) [ true ↦ settled c M | false ↦ M ])) [ true ↦ settle_same c (all_out M) M | false ↦ itself M ]

-- Settling grants on machines that are reported alone
LawFirst : Type 0
LawFirst = (c : ClusterRecord) (M : Master) (s : Spot) → first_placeable c M ≡ Some s → IsFirst c M s

granted_tidy : (M : Master) (s : Spot) → has_number s.machine M.reported ≡ true → IsTidy M → IsTidy (granted M s)
granted_tidy M s there tidy t unreported =
    count-set_count spot_total M.table s (count spot_cmp M.table s + 1) t
    ∙ elim (eq_by_cmp spot_cmp t s) as (λ b. eq_by_cmp spot_cmp t s ≡ b → cond b (count spot_cmp M.table s + 1) (count spot_cmp M.table t) ≡ 0) [
      | true ↦ λ e. let same : t ≡ s = same_spot t s (tied _ e) in absurd (let f : true ≡ false = sym there ∙ ap (λ (x : Spot). has_number x.machine M.reported) (sym same) ∙ unreported in cc)
      | false ↦ λ _. tidy t unreported
    ] refl

first_reported : LawFirst → (c : ClusterRecord) (M : Master) (s : Spot) → first_placeable c M ≡ Some s → has_number s.machine M.reported ≡ true
unfolding LawFirst
first_reported law c M s e =
    let may : placeable c M s.job s.unit s.machine ≡ true = (law c M s e).may in
    let b = both_true (may_grow c M s.job s.unit) (accepts c M s.job s.unit s.machine && has_room c M s.job s.unit s.machine) may in
    let a = both_true (accepts c M s.job s.unit s.machine) (has_room c M s.job s.unit s.machine) b.1 in
    let u = both_true (is_usable M s.job s.unit s.machine) _ a.0 in
    (both_true (has_number s.machine M.reported) _ u.0).0

settle_tidy : LawFirst → (c : ClusterRecord) (fuel : ℕ) (M : Master) → IsTidy M → IsTidy (settle c fuel M)
settle_tidy law c zero M tidy = tidy
settle_tidy law c (suc fuel) M tidy = elim (first_placeable c M) as (λ o. first_placeable c M ≡ o → IsTidy (elim o as (λ _. Master) [ None ↦ M | Some s ↦ settle c fuel (granted M s) ])) [
  | None ↦ λ _. tidy
  | Some s ↦ λ e. settle_tidy law c fuel (granted M s) (granted_tidy M s (first_reported law c M s e) tidy)
] refl

pub serving_tidy : ((c : ClusterRecord) (M : Master) (s : Spot) → first_placeable c M ≡ Some s → IsFirst c M s) → (c : ClusterRecord) (M : Master) → IsTidy M → IsTidy (settled_if_serving c M)
unfolding LawFirst
serving_tidy law c M tidy = elim M.serving as (λ b. IsTidy (elim b as (λ _. Master) [ true ↦ settled c M | false ↦ M ])) [ true ↦ settle_tidy law c (all_out M) M tidy | false ↦ tidy ]

-- At its end: the line has exactly the pairs with something out
module _ {A : Type 0} (q : A → Bool) where
  filter_all : (xs : List A) → AllByRecursion (λ x. q x ≡ true) xs → filter q xs ≡ xs
  filter_all [] h = refl
  filter_all (x ∷ xs) h = ap (λ b. cond b (x ∷ filter q xs) (filter q xs)) h.0 ∙ ap (λ ys. x ∷ ys) (filter_all xs h.1)

  filter_none : (xs : List A) → AllByRecursion (λ x. q x ≡ false) xs → filter q xs ≡ []
  filter_none [] h = refl
  filter_none (x ∷ xs) h = ap (λ b. cond b (x ∷ filter q xs) (filter q xs)) h.0 ∙ filter_none xs h.1

each_listed : (P : Pair → Type 0) (xs : List Pair) → ((p : Pair) → has_pair p xs ≡ true → P p) → AllByRecursion P xs
each_listed P [] h = tt
each_listed P (x ∷ xs) h = (h x (or_left (nat_eq x.0 x.0 && nat_eq x.1 x.1) (has_pair x xs) (and_true (nat_eq x.0 x.0) (nat_eq x.1 x.1) (nat_itself x.0) (nat_itself x.1))), each_listed P xs (λ p e. h p (or_right (nat_eq p.0 x.0 && nat_eq p.1 x.1) (has_pair p xs) e)))

pub got_listed : (xs : List Pair) (n : ℕ) (p : Pair) → slice_get xs n ≡ Some p → has_pair p xs ≡ true
got_listed [] n p e = cc
got_listed (x ∷ xs) zero p e = let same : x ≡ p = cc in subst (λ y. has_pair p (y ∷ xs) ≡ true) (sym same) (or_left (nat_eq p.0 p.0 && nat_eq p.1 p.1) (has_pair p xs) (and_true (nat_eq p.0 p.0) (nat_eq p.1 p.1) (nat_itself p.0) (nat_itself p.1)))
got_listed (x ∷ xs) (suc n) p e = or_right (nat_eq p.0 x.0 && nat_eq p.1 x.1) (has_pair p xs) (got_listed xs n p e)

has_both : (p : Pair) (xs ys : List Pair) → has_pair p (xs ++ ys) ≡ (has_pair p xs || has_pair p ys)
has_both p xs ys = list_any-append (λ q. nat_eq p.0 q.0 && nat_eq p.1 q.1) xs ys

below_one : (a u n k : ℕ) (f r : Bool) → r ≡ (nat_eq a n && (nat_lt u k && f)) → (r || ((nat_eq a n && nat_eq u k) && f)) ≡ (nat_eq a n && (nat_lt u (suc k) && f))
below_one a u n k f r e = ap (λ x. x || ((nat_eq a n && nat_eq u k) && f)) e ∙ by (nat_eq a n) (nat_lt u k) (nat_eq u k) (nat_lt u (suc k)) f (grind (arith, nat_tests))
  where
    by : (x y z w f : Bool) → (y || z) ≡ w → ((x && (y && f)) || ((x && z) && f)) ≡ (x && (w && f))
    by false y z w f e = refl
    by true true z w true e = ap (λ b. b && true) e
    by true true z w false e = by_false z w
      where
        by_false : (z w : Bool) → (false || (z && false)) ≡ (w && false)
        by_false true true = refl
        by_false true false = refl
        by_false false true = refl
        by_false false false = refl
    by true false z w f e = ap (λ b. b && f) e

one_waits : (q : ℕ → Bool) (a u n k : ℕ) → has_pair (a, u) (map (λ v. (n, v)) (filter q (below k))) ≡ (nat_eq a n && (nat_lt u k && q u))
one_waits q a u n zero = by (nat_eq a n) (nat_lt u 0) (q u) (grind (arith, nat_tests))
  where
    by : (x y z : Bool) → y ≡ false → false ≡ (x && (y && z))
    by true true z e = cc
    by true false z e = refl
    by false y z e = refl
one_waits q a u n (suc k) =
    ap (λ xs. has_pair (a, u) (map {B = ℕ × ℕ} (λ v. (n, v)) xs)) (filter-append q (below k) (k ∷ []))
    ∙ ap (has_pair (a, u)) (map-append {B = ℕ × ℕ} (λ v. (n, v)) (filter q (below k)) (filter q (k ∷ [])))
    ∙ has_both (a, u) (map (λ v. (n, v)) (filter q (below k))) (map (λ v. (n, v)) (filter q (k ∷ [])))
    ∙ ap (λ b. has_pair (a, u) (map {B = ℕ × ℕ} (λ v. (n, v)) (filter q (below k))) || b) last
    ∙ below_one a u n k (q u) (has_pair (a, u) (map (λ v. (n, v)) (filter q (below k)))) (one_waits q a u n k)
  where
    last : has_pair (a, u) (map (λ v. (n, v)) (filter q (k ∷ []))) ≡ ((nat_eq a n && nat_eq u k) && q u)
    last = elim (q k) as (λ b. q k ≡ b → has_pair (a, u) (map {B = ℕ × ℕ} (λ v. (n, v)) (cond b (k ∷ []) [])) ≡ ((nat_eq a n && nat_eq u k) && q u)) [
      | true ↦ λ e. or_false (nat_eq a n && nat_eq u k) ∙ by (nat_eq a n) (nat_eq u k) (λ t. ap q (number_is u k t) ∙ e)
      | false ↦ λ e. by_not (nat_eq a n) (nat_eq u k) (λ t. ap q (number_is u k t) ∙ e)
    ] refl
      where
        by : (x y : Bool) → (y ≡ true → q u ≡ true) → (x && y) ≡ ((x && y) && q u)
        by true true h = sym (h refl)
        by true false h = refl
        by false y h = refl

        by_not : (x y : Bool) → (y ≡ true → q u ≡ false) → false ≡ ((x && y) && q u)
        by_not true true h = sym (h refl)
        by_not true false h = refl
        by_not false y h = refl

waits_in : (asks : ℕ → Key → ℕ) (table : Table) (units : ℕ → ℕ) (numbers : List ℕ) (a u : ℕ) → has_pair (a, u) (waiting_in numbers units asks table) ≡ (has_number a numbers && (nat_lt u (units a) && nat_lt 0 (out_of asks table a u)))
waits_in asks table units [] a u = refl
waits_in asks table units (n ∷ ns) a u =
    has_both (a, u) (map (λ v. (n, v)) (filter (λ v. nat_lt 0 (out_of asks table n v)) (below (units n)))) (waiting_in ns units asks table)
    ∙ (λ i. one_waits (λ v. nat_lt 0 (out_of asks table n v)) a u n (units n) i || waits_in asks table units ns a u i)
    ∙ by (nat_eq a n) refl
  where
    by : (x : Bool) → nat_eq a n ≡ x → ((x && (nat_lt u (units n) && nat_lt 0 (out_of asks table n u))) || (has_number a ns && (nat_lt u (units a) && nat_lt 0 (out_of asks table a u)))) ≡ ((x || has_number a ns) && (nat_lt u (units a) && nat_lt 0 (out_of asks table a u)))
    by true e = subst (λ m. ((nat_lt u (units m) && nat_lt 0 (out_of asks table m u)) || (has_number a ns && (nat_lt u (units a) && nat_lt 0 (out_of asks table a u)))) ≡ (nat_lt u (units a) && nat_lt 0 (out_of asks table a u))) (number_is a n e) (twice (nat_lt u (units a) && nat_lt 0 (out_of asks table a u)) (has_number a ns))
      where
        twice : (y z : Bool) → (y || (z && y)) ≡ y
        twice true z = refl
        twice false true = refl
        twice false false = refl
    by false e = refl

pub listed : (jobs : List KnownJob) (a : ℕ) → has_number a (job_numbers jobs) ≡ is_known jobs a
listed [] a = refl
listed (j ∷ js) a = with_is a j.job.number (job_numbers js) ∙ ap (λ b. nat_eq a j.job.number || b) (listed js a) ∙ ap (λ b. b || is_known js a) (eq_turned a j.job.number) ∙ by (nat_eq j.job.number a)
  where
    by : (b : Bool) → (b || is_known js a) ≡ is_some (cond b (Some j) (job_of js a))
    by true = refl
    by false = refl

unknown_units : (jobs : List KnownJob) (a u : ℕ) → is_known jobs a ≡ false → nat_lt u (unit_count jobs a) ≡ false
unknown_units jobs a u h = by (job_of jobs a) h
  where
    by : (o : Option KnownJob) → is_some o ≡ false → nat_lt u (length (unwrap_or (option_map (λ (j : KnownJob). j.job.units) o) [])) ≡ false
    by None e = grind (arith, nat_tests)
    by (Some j) e = cc

pub waits_as : (M : Master) (a u : ℕ) → has_pair (a, u) (waiting_pairs M) ≡ (nat_lt u (unit_count M.jobs a) && nat_lt 0 (out M a u))
waits_as M a u = waits_in (asked M) M.table (unit_count M.jobs) (job_numbers M.jobs) a u ∙ ap (λ b. b && (nat_lt u (unit_count M.jobs a) && nat_lt 0 (out M a u))) (listed M.jobs a) ∙ by (is_known M.jobs a) refl
  where
    by : (b : Bool) → is_known M.jobs a ≡ b → (b && (nat_lt u (unit_count M.jobs a) && nat_lt 0 (out M a u))) ≡ (nat_lt u (unit_count M.jobs a) && nat_lt 0 (out M a u))
    by true e = refl
    by false e = sym (false_and (nat_lt u (unit_count M.jobs a)) (nat_lt 0 (out M a u)) (unknown_units M.jobs a u e))

-- a line that has exactly the pairs with something out is up to date
pub IsLined : Master → Type 0
IsLined M = (a u : ℕ) → has_pair (a, u) M.line ≡ (nat_lt u (unit_count M.jobs a) && nat_lt 0 (out M a u))

pub lined_again : (M : Master) → ((a u : ℕ) → has_pair (a, u) M.line ≡ (nat_lt u (unit_count M.jobs a) && nat_lt 0 (out M a u))) → line_up M ≡ M
lined_again M up = ap {A = List Pair} (λ l. record M { line = l }) same
  where
    agree : (p : Pair) → has_pair p M.line ≡ has_pair p (waiting_pairs M)
    agree p = up p.0 p.1 ∙ sym (waits_as M p.0 p.1)

    same : lined M.line (waiting_pairs M) ≡ M.line
    same = (λ i. filter_all (λ p. has_pair p (waiting_pairs M)) M.line (each_listed (λ p. has_pair p (waiting_pairs M) ≡ true) M.line (λ p e. sym (agree p) ∙ e)) i ++ filter_none (λ p. not (has_pair p M.line)) (waiting_pairs M) (each_listed (λ p. not (has_pair p M.line) ≡ false) (waiting_pairs M) (λ p e. ap not (agree p ∙ e))) i) ∙ append-nil M.line

-- Once more. Nothing is placeable, so nothing is placed
module _ (first : (c : ClusterRecord) (M : Master) (s : Spot) → first_placeable c M ≡ Some s → IsFirst c M s)
    (ends : (c : ClusterRecord) (M : Master) → NothingPlaceable c (settled c M))
    (runs : (c : ClusterRecord) (picks : List Spot) (M N : Master) → Picks c M picks N → N ≡ settled c M) where
  none_first : (c : ClusterRecord) (M : Master) → NothingPlaceable c M → ((m : ℕ) → has_number m M.reported ≡ true → has_machine c m ≡ true) → first_placeable c M ≡ None
  unfolding LawFirst
  none_first c M nothing machines = elim (first_placeable c M) as (λ o. first_placeable c M ≡ o → o ≡ None) [
    | None ↦ λ _. refl
    | Some s ↦ λ e.
        let f = first c M s e in
        absurd (let x : false ≡ true = sym (nothing s.job s.unit s.machine (got_listed M.line f.place (s.job, s.unit) f.there) (machines s.machine (first_reported first c M s e))) ∙ f.may in cc)
  ] refl

  settled_again : (c : ClusterRecord) (M : Master) → ((m : ℕ) → has_number m M.reported ≡ true → has_machine c m ≡ true) → settled c (settled c M) ≡ settled c M
  settled_again c M machines =
      let same = settle_same c (all_out M) M in
      sym (runs c [] (settled c M) (settled c M) (none_first c (settled c M) (ends c M) (λ m e. machines m (ap (has_number m) (sym same.reported) ∙ e)), refl))

  serving_again : (c : ClusterRecord) (M : Master) → ((m : ℕ) → has_number m M.reported ≡ true → has_machine c m ≡ true) → settled_if_serving c (settled_if_serving c M) ≡ settled_if_serving c M
  serving_again c M machines = by M.serving refl
    where
      by : (b : Bool) → M.serving ≡ b → settled_if_serving c (settled_if_serving c M) ≡ settled_if_serving c M
      by true e =
          let one : settled_if_serving c M ≡ settled c M = ap (λ b. elim b as (λ _. Master) [ true ↦ settled c M | false ↦ M ]) e in
          let two : (settled c M).serving ≡ true = (settle_same c (all_out M) M).serving ∙ e in
          ap (settled_if_serving c) one ∙ ap (λ b. elim b as (λ _. Master) [ true ↦ settled c (settled c M) | false ↦ settled c M ]) two ∙ settled_again c M machines ∙ sym one
      by false e =
          let one : settled_if_serving c M ≡ M = ap (λ b. elim b as (λ _. Master) [ true ↦ settled c M | false ↦ M ]) e in
          ap (settled_if_serving c) one

  -- a step that has ended, ended once more
  pub ready_again : (c : ClusterRecord) (M : Master) → ((m : ℕ) → has_number m M.reported ≡ true → has_machine c m ≡ true) → ((a u : ℕ) → has_pair (a, u) (ready c M).line ≡ (nat_lt u (unit_count (ready c M).jobs a) && nat_lt 0 (out (ready c M) a u))) → ready c (ready c M) ≡ ready c M
  ready_again c M machines up =
      let R = ready c M in
      let same = serving_same c (line_up (phased c M)) in
      let all : is_all_reported c R ≡ is_all_reported c M = ap (λ ms. list_all (λ m. has_number m ms) (below (length c.machines))) same.reported in
      let serves : (R.serving || is_all_reported c R) ≡ R.serving = (λ i. same.serving i || all i) ∙ again M.serving (is_all_reported c M) ∙ sym same.serving in
      let phase : phased c R ≡ R = ap {A = Bool} (λ b. record R { serving = b }) serves in
      ap (λ N. settled_if_serving c (line_up N)) phase ∙ ap (settled_if_serving c) (lined_again R up) ∙ serving_again c (line_up (phased c M)) machines
    where
      again : (x y : Bool) → ((x || y) || y) ≡ (x || y)
      again true y = refl
      again false true = refl
      again false false = refl

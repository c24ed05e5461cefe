-- Numbers of grants in order: machines that are reported, then counts, then what is credited.
use Rattle.std.proofs.Common.{◌≡◌, ℕ, ◌<◌, ◌≤◌, Bool, true, false, cond, nat_eq, nat_lt, List, [], ◌∷◌, ◌++◌, map, filter, Some, None, refl, sym, ◌∙◌, ap, subst, arith}
use Rattle.std.specs.Prelude.{T, ◌&&◌}
use Rattle.std.specs.Ordering.{nat_cmp, ordering_then, is_lt}
use Rattle.std.specs.Cmp.{tied_itself, nat_cmp_total, nat_cmp_is}
use Rattle.std.specs.List.{AllByRecursion}
use Rattle.std.specs.declared.cmp.Ordering.{Ordering}
use Rattle.std.specs.declared.cmp.Ordering.TheVariants.{Less}
use Rattle.std.specs.FinMap.Entries.{below_all, is_sorted}
use Rattle.std.proofs.lemmas.Bool.Decides.{nat_tests}
use Rattle.fuxi_terms.specs.declared.Key.{Key}
use Rattle.fuxi_terms.specs.Keys.{Spot, spot_cmp, key_cmp}
use Rattle.fuxi_terms.specs.TallyKeys.{reported_key, count_key, greatest_grant}
use Rattle.fuxi_terms.proofs.Alls.{all_append, all_mapped, all_filter}
use Rattle.fuxi_terms.proofs.Booleans.{number_is}
use Rattle.fuxi_terms.proofs.CountsLemmas.{both_true}
use Rattle.schedule_unit.specs.declared.party.MachineNo.{MachineNo}
use Rattle.spec_roles.specs.MasterSteps.{count_entries}
use Rattle.fuxi_terms.specs.NumbersSet.{AreNumbers}
use Rattle.fuxi_terms.specs.Tables.{Table}
use Rattle.ledger_updates.specs.AllShown.{is_job}
use Rattle.ledger_updates.specs.OneJob.{AreOf, AreNumbersOf, AreStepChanges, reported_now, machines_of, reported_numbers, credited_to, numbers_of}
use Rattle.ledger_updates.specs.declared.grants.StepChanges.{StepChanges}

pub both : (a b : Bool) → T a → T b → T (a && b)
both true b p q = q
both false b p q = p

-- one map behind another
below_append : {K X : Type 0} (R : K → K → Ordering) (k : K) (xs ys : List (K × X)) → T (below_all R k xs) → T (below_all R k ys) → T (below_all R k (xs ++ ys))
below_append R k [] ys h g = g
below_append R k (e ∷ xs) ys h g = let p = both_true (is_lt (R k e.0)) (below_all R k xs) h in both (is_lt (R k e.0)) (below_all R k (xs ++ ys)) p.0 (below_append R k xs ys p.1 g)

sorted_append : {K X : Type 0} (R : K → K → Ordering) (xs ys : List (K × X)) → T (is_sorted R xs) → T (is_sorted R ys) → AllByRecursion (λ e. T (below_all R e.0 ys)) xs → T (is_sorted R (xs ++ ys))
sorted_append R [] ys h g before = g
sorted_append R (e ∷ xs) ys h g before =
    let p = both_true (below_all R e.0 xs) (is_sorted R xs) h in
    both (below_all R e.0 (xs ++ ys)) (is_sorted R (xs ++ ys)) (below_append R e.0 xs ys p.0 before.0) (sorted_append R xs ys p.1 g before.1)

-- a key stands before those of a greater kind
before_kind : (k : Key) (w : ℕ) (ys : List (Key × ℕ)) → k.what < w → AreOf w ys → T (below_all key_cmp k ys)
before_kind k w [] lt h = tt
before_kind k w (e ∷ ys) lt h =
    let less : k.what < e.0.what = let is = number_is e.0.what w h.0 in omega (arith, is, lt) in
    both (is_lt (key_cmp k e.0)) (below_all key_cmp k ys)
    (subst (λ r. T (is_lt (ordering_then r (ordering_then (nat_cmp k.unit e.0.unit) (nat_cmp k.number e.0.number))))) (nat_cmp_is k.what e.0.what Less less) tt)
    (before_kind k w ys lt h.1)

each_before : (v w : ℕ) (xs ys : List (Key × ℕ)) → v < w → AreOf v xs → AreOf w ys → AllByRecursion (λ e. T (below_all key_cmp e.0 ys)) xs
each_before v w [] ys lt h g = tt
each_before v w (e ∷ xs) ys lt h g = (let is = number_is e.0.what v h.0 in before_kind e.0 w ys (omega (arith, is, lt)) g, each_before v w xs ys lt h.1 g)

all_before : (xs ys zs : List (Key × ℕ)) → AllByRecursion (λ e. T (below_all key_cmp e.0 ys)) xs → AllByRecursion (λ e. T (below_all key_cmp e.0 zs)) xs → AllByRecursion (λ e. T (below_all key_cmp e.0 (ys ++ zs))) xs
all_before [] ys zs h g = tt
all_before (e ∷ xs) ys zs h g = (below_append key_cmp e.0 ys zs h.0 g.0, all_before xs ys zs h.1 g.1)

-- numbers of the three kinds, one after the other
pub three_kinds : (xs ys zs : List (Key × ℕ)) → AreNumbersOf 1 xs → AreNumbersOf 2 ys → AreNumbersOf 3 zs → AreNumbers key_cmp greatest_grant (xs ++ (ys ++ zs))
three_kinds xs ys zs x y z = record {
  sorted = sorted_append key_cmp xs (ys ++ zs) x.numbers.sorted
      (sorted_append key_cmp ys zs y.numbers.sorted z.numbers.sorted (each_before 2 3 ys zs (omega arith) y.kinds z.kinds))
      (all_before xs ys zs (each_before 1 2 xs ys (omega arith) x.kinds y.kinds) (each_before 1 3 xs zs (omega arith) x.kinds z.kinds));
  within = all_append (λ n. n.1 ≤ greatest_grant n.0) xs (ys ++ zs) x.numbers.within (all_append (λ n. n.1 ≤ greatest_grant n.0) ys zs y.numbers.within z.numbers.within);
}

-- Machines that are reported
reported_within : (m : ℕ) → m < 256 → 1 ≤ greatest_grant (reported_key m)
reported_within m lt = grind (arith, nat_tests, lt)

pub machines_in_order : (ms : List ℕ) → T (is_sorted {X = ℕ} nat_cmp (map (λ m. (m, 0)) ms)) → AllByRecursion (λ m. m < 256) ms → AreNumbersOf 1 (reported_numbers ms)
machines_in_order ms h below = record { numbers = record { sorted = sorted ms h; within = within ms below }; kinds = kinds ms }
  where
    belows : (m : ℕ) (ms : List ℕ) → T (below_all {X = ℕ} nat_cmp m (map (λ m. (m, 0)) ms)) → T (below_all key_cmp (reported_key m) (reported_numbers ms))
    belows m [] h = tt
    belows m (n ∷ ms) h = let p = both_true (is_lt (nat_cmp m n)) _ h in both (is_lt (nat_cmp m n)) (below_all key_cmp (reported_key m) (reported_numbers ms)) p.0 (belows m ms p.1)

    sorted : (ms : List ℕ) → T (is_sorted {X = ℕ} nat_cmp (map (λ m. (m, 0)) ms)) → T (is_sorted key_cmp (reported_numbers ms))
    sorted [] h = tt
    sorted (m ∷ ms) h = let p = both_true (below_all {X = ℕ} nat_cmp m (map (λ m. (m, 0)) ms)) _ h in both (below_all key_cmp (reported_key m) (reported_numbers ms)) (is_sorted key_cmp (reported_numbers ms)) (belows m ms p.0) (sorted ms p.1)

    within : (ms : List ℕ) → AllByRecursion (λ m. m < 256) ms → AllByRecursion (λ n. n.1 ≤ greatest_grant n.0) (reported_numbers ms)
    within [] h = tt
    within (m ∷ ms) h = (reported_within m h.0, within ms h.1)

    kinds : (ms : List ℕ) → AreOf 1 (reported_numbers ms)
    kinds [] = tt
    kinds (m ∷ ms) = (refl, kinds ms)

-- those that are set in the grants of a job
reported_in_order : (news : StepChanges) (a : ℕ) → AreStepChanges news → AreNumbersOf 1 (reported_numbers (machines_of news a))
reported_in_order news a n = by (is_job news.admitted a)
  where
    numbered : (ms : List MachineNo) → map {B = ℕ × ℕ} (λ (m : ℕ). (m, 0)) (map (λ (m : MachineNo). m.0) ms) ≡ map (λ (m : MachineNo). (m.0, 0)) ms
    numbered [] = refl
    numbered (m ∷ ms) = ap (λ xs. (m.0, 0) ∷ xs) (numbered ms)

    one : (m : ℕ) (b : Bool) → nat_lt m 256 ≡ b → AreNumbersOf 1 (reported_numbers (cond b (m ∷ []) []))
    one m true lt = machines_in_order (m ∷ []) tt (grind (arith, nat_tests, lt), tt)
    one m false lt = machines_in_order [] tt tt

    by : (b : Bool) → AreNumbersOf 1 (reported_numbers (cond b (map (λ (m : MachineNo). m.0) news.machines.items) (reported_now news.reported)))
    by true = machines_in_order (map (λ (m : MachineNo). m.0) news.machines.items) (subst (λ (es : List (ℕ × ℕ)). T (is_sorted nat_cmp es)) (sym (numbered news.machines.items)) n.rising) (all_mapped (λ m. m < 256) (λ (m : MachineNo). m.0) news.machines.items n.below)
    by false = elim news.reported as (λ r. AreNumbersOf 1 (reported_numbers (reported_now r))) [ None ↦ machines_in_order [] tt tt | Some m ↦ one m.0 (nat_lt m.0 256) refl ]

pub credits_in_order : (news : StepChanges) (a : ℕ) → AreStepChanges news → AreNumbersOf 3 (credited_to news a)
credits_in_order news a n = elim (is_job news.job a) as (λ b. AreNumbersOf 3 (cond b news.credited.items [])) [ true ↦ n.given | false ↦ record { numbers = record { sorted = tt; within = tt }; kinds = tt } ]

pub numbers_in_order : (news : StepChanges) (a : ℕ) (counts : List (Key × ℕ)) → AreStepChanges news → AreNumbersOf 2 counts → AreNumbers key_cmp greatest_grant (numbers_of news a counts)
numbers_in_order news a counts n h = three_kinds (reported_numbers (machines_of news a)) counts (credited_to news a) (reported_in_order news a n) h (credits_in_order news a n)

-- Counts, of units and machines that there may be
pub record IsSmall (e : Spot × ℕ) : Type 0 where
  pub unit : e.0.unit < 8
  pub machine : e.0.machine < 256
  pub number : e.1 ≤ 100000

count_within : (u m n : ℕ) → u < 8 → m < 256 → n ≤ 100000 → n ≤ greatest_grant (count_key u m)
count_within u m n lu lm ln = grind (arith, nat_tests, lu, lm, ln)

pub counts_in_order : (a : ℕ) (es : Table) → T (is_sorted spot_cmp es) → AllByRecursion IsSmall es → AreNumbersOf 2 (count_entries a es)
counts_in_order a es h small = record { numbers = record { sorted = sorted es h; within = within es small }; kinds = kinds es }
  where
    f : Spot × ℕ → Key × ℕ
    f e = (count_key e.0.unit e.0.machine, e.1)

    lesser : (s x : Spot) → s.job ≡ a → x.job ≡ a → T (is_lt (spot_cmp s x)) → T (is_lt (ordering_then (nat_cmp s.unit x.unit) (nat_cmp s.machine x.machine)))
    lesser s x sj xj lt = subst (λ r. T (is_lt (ordering_then r (ordering_then (nat_cmp s.unit x.unit) (nat_cmp s.machine x.machine))))) (ap (λ j. nat_cmp j x.job) (sj ∙ sym xj) ∙ tied_itself nat_cmp_total x.job) lt

    belows : (s : Spot) (es : Table) → s.job ≡ a → T (below_all spot_cmp s es) → T (below_all key_cmp (count_key s.unit s.machine) (count_entries a es))
    belows s [] job h = tt
    belows s (e ∷ es) job h =
        let p = both_true (is_lt (spot_cmp s e.0)) (below_all spot_cmp s es) h in
        let rest = belows s es job p.1 in
        elim (nat_eq e.0.job a) as (λ b. nat_eq e.0.job a ≡ b → T (below_all key_cmp (count_key s.unit s.machine) (map (λ e. (count_key e.0.unit e.0.machine, e.1)) (cond b (e ∷ filter (λ e. nat_eq e.0.job a) es) (filter (λ e. nat_eq e.0.job a) es))))) [
          | true ↦ λ t. both (is_lt (ordering_then (nat_cmp s.unit e.0.unit) (nat_cmp s.machine e.0.machine))) (below_all key_cmp (count_key s.unit s.machine) (count_entries a es)) (lesser s e.0 job (number_is e.0.job a t) p.0) rest
          | false ↦ λ _. rest
        ] refl

    sorted : (es : Table) → T (is_sorted spot_cmp es) → T (is_sorted key_cmp (count_entries a es))
    sorted [] h = tt
    sorted (e ∷ es) h =
        let p = both_true (below_all spot_cmp e.0 es) (is_sorted spot_cmp es) h in
        let rest = sorted es p.1 in
        elim (nat_eq e.0.job a) as (λ b. nat_eq e.0.job a ≡ b → T (is_sorted key_cmp (map (λ e. (count_key e.0.unit e.0.machine, e.1)) (cond b (e ∷ filter (λ e. nat_eq e.0.job a) es) (filter (λ e. nat_eq e.0.job a) es))))) [
          | true ↦ λ t. both (below_all key_cmp (count_key e.0.unit e.0.machine) (count_entries a es)) (is_sorted key_cmp (count_entries a es)) (belows e.0 es (number_is e.0.job a t) p.0) rest
          | false ↦ λ _. rest
        ] refl

    within : (es : Table) → AllByRecursion IsSmall es → AllByRecursion (λ n. n.1 ≤ greatest_grant n.0) (count_entries a es)
    within es h = all_mapped (λ n. n.1 ≤ greatest_grant n.0) (λ e. (count_key e.0.unit e.0.machine, e.1)) (filter (λ e. nat_eq e.0.job a) es) (each (filter (λ e. nat_eq e.0.job a) es) (all_filter IsSmall (λ e. nat_eq e.0.job a) es h))
      where
        each : (es : Table) → AllByRecursion IsSmall es → AllByRecursion (λ e. e.1 ≤ greatest_grant (count_key e.0.unit e.0.machine)) es
        each [] h = tt
        each (e ∷ es) h = (count_within e.0.unit e.0.machine e.1 h.0.unit h.0.machine h.0.number, each es h.1)

    kinds : (es : Table) → AreOf 2 (count_entries a es)
    kinds es = all_mapped (λ e. nat_eq e.0.what 2 ≡ true) (λ e. (count_key e.0.unit e.0.machine, e.1)) (filter (λ e. nat_eq e.0.job a) es) (each (filter (λ e. nat_eq e.0.job a) es))
      where
        each : (es : Table) → AllByRecursion (λ e. nat_eq (count_key e.0.unit e.0.machine).what 2 ≡ true) es
        each [] = tt
        each (e ∷ es) = (refl, each es)

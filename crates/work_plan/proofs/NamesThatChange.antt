-- The names that change where units are settled make the ledger that names those that run.
use Rattle.std.proofs.Common.{◌≡◌, ℕ, zero, suc, ◌+◌, ◌<◌, ◌≤◌, Bool, true, false, cond, nat_eq, nat_lt, List, [], ◌∷◌, ◌++◌, map, Option, get_or, refl, sym, ◌∙◌, ap, subst, arith, append-nil, append_assoc, add-one}
use Rattle.std.specs.Prelude.{◌&&◌, ◌||◌, T}
use Rattle.std.specs.Cmp.{nat_cmp_total, tied_itself}
use Rattle.std.specs.List.{AllByRecursion, flat_map, list_any}
use Rattle.std.specs.Ordering.{nat_cmp, ordering_then, eq_by_cmp, is_eq, is_lt}
use Rattle.std.specs.declared.cmp.Ordering.{Ordering}
use Rattle.std.specs.declared.cmp.Ordering.TheVariants.{Less, Equal, Greater}
use Rattle.std.specs.FinMap.Entries.{below_all, is_sorted}
use Rattle.std.proofs.lemmas.Bool.Decides.{nat_tests}
use Rattle.std.proofs.lemmas.Cmp.{ranked}
use Rattle.std.specs.Ordering.{MatchOrdering}
use Rattle.std.proofs.lemmas.List.Concat.{flat_map-append}
use Rattle.std.proofs.lemmas.List.Folds.{list_any-append}
use Rattle.std.proofs.lemmas.Map.Lookups.{exact_unsigned}
use Rattle.fuxi_terms.specs.declared.Key.{Key}
use Rattle.fuxi_terms.specs.Counts.{AreCounts, count, set_count}
use Rattle.fuxi_terms.specs.Keys.{key_cmp}
use Rattle.fuxi_terms.specs.Limits.{most_units}
use Rattle.fuxi_terms.specs.Lists.{below}
use Rattle.fuxi_terms.specs.Numbers.{has_number}
use Rattle.fuxi_terms.proofs.Alls.{all_append, all_more}
use Rattle.fuxi_terms.proofs.Booleans.{number_is, nat_itself, both_true, same_tests, or_false}
use Rattle.fuxi_terms.proofs.CountsLemmas.{tied, count-set_count, counts-set_count, count_le, same_counts}
use Rattle.fuxi_terms.proofs.KeyOrders.{key_total, same_key}
use Rattle.work_plan.specs.Crews.{Marks}
use Rattle.work_plan.specs.PlanKeys.{greatest_named, most_workers, worker_key}
use Rattle.fuxi_terms.specs.NumbersSet.{AreNumbers, numbers_set}
use Rattle.work_plan.specs.WorkSettling.{keys_of, running_of, with_names}
use Rattle.work_plan.specs.AgentWithApps.{all_units}
use Rattle.work_plan.specs.NameChanges.{Tells, changed, name_of, turned}

-- Keys
nat_less : (a b : ℕ) → a < b → nat_cmp a b ≡ Less
nat_less a b lt = by (nat_cmp a b) (ranked a b (nat_cmp a b) refl)
  where
    by : (r : Ordering) → MatchOrdering r (a < b) (a ≡ b) (b < a) → r ≡ Less
    by Less m = refl
    by Equal m = absurd (omega (arith, lt, m))
    by Greater m = absurd (omega (arith, lt, m))

tests_eq : (a b : ℕ) → is_eq (nat_cmp a b) ≡ nat_eq a b
tests_eq a b = same_tests (is_eq (nat_cmp a b)) (nat_eq a b)
    (λ t. let same = exact_unsigned a b (tied _ t) in grind (arith, nat_tests, same))
    (λ t. ap (λ k. is_eq (nat_cmp a k)) (sym (number_is a b t)) ∙ ap is_eq (tied_itself nat_cmp_total a))

both_eq : (r s : Ordering) → is_eq (ordering_then r s) ≡ (is_eq r && is_eq s)
both_eq Less s = refl
both_eq Equal s = refl
both_eq Greater s = refl

pub same_worker : (u n v m : ℕ) → eq_by_cmp key_cmp (worker_key u n) (worker_key v m) ≡ (nat_eq u v && nat_eq n m)
same_worker u n v m = both_eq (nat_cmp u v) (nat_cmp n m) ∙ (λ i. tests_eq u v i && tests_eq n m i)

pub next_worker : (u n m : ℕ) → n < m → key_cmp (worker_key u n) (worker_key u m) ≡ Less
next_worker u n m lt = ap (λ r. ordering_then r (nat_cmp n m)) (tied_itself nat_cmp_total u) ∙ nat_less n m lt

pub next_unit : (u v n m : ℕ) → u < v → key_cmp (worker_key u n) (worker_key v m) ≡ Less
next_unit u v n m lt = ap (λ r. ordering_then r (nat_cmp n m)) (nat_less u v lt)

-- The ledger that names those that run
either_counts : (b c : Bool) → ◌≡◌ {A = ℕ} (cond b 1 (cond c 1 0)) (cond (b || c) 1 0)
either_counts true c = refl
either_counts false c = refl

names_count : (ks : List Key) (q : Key) → count key_cmp (with_names ks) q ≡ cond (list_any (eq_by_cmp key_cmp q) ks) 1 0
names_count [] q = refl
names_count (k ∷ ks) q = count-set_count key_total (with_names ks) k 1 q ∙ ap (cond (eq_by_cmp key_cmp q k) 1) (names_count ks q) ∙ either_counts (eq_by_cmp key_cmp q k) (list_any (eq_by_cmp key_cmp q) ks)

names_are : (ks : List Key) → AllByRecursion (λ k. 1 ≤ greatest_named k) ks → AreCounts key_cmp greatest_named (with_names ks)
names_are [] h = record { sorted = tt; positive = tt; within = tt }
names_are (k ∷ ks) h = counts-set_count key_total greatest_named same_key (with_names ks) k 1 h.0 (names_are ks h.1)

named_once : (u v n : ℕ) (xs : List ℕ) → list_any (eq_by_cmp key_cmp (worker_key u n)) (map (worker_key v) xs) ≡ (nat_eq u v && has_number n xs)
named_once u v n [] = never (nat_eq u v)
  where
    never : (b : Bool) → false ≡ (b && false)
    never true = refl
    never false = refl
named_once u v n (x ∷ xs) = (λ i. same_worker u n v x i || named_once u v n xs i) ∙ by (nat_eq u v) (nat_eq n x) (has_number n xs)
  where
    by : (a b c : Bool) → ((a && b) || (a && c)) ≡ (a && (b || c))
    by true b c = refl
    by false b c = refl

named_below : (work : ℕ → List ℕ) (u n m : ℕ) → list_any (eq_by_cmp key_cmp (worker_key u n)) (flat_map (λ v. map (worker_key v) (work v)) (below m)) ≡ (nat_lt u m && has_number n (work u))
named_below work u n zero = ap (λ b. b && has_number n (work u)) nothing
  where
    nothing : false ≡ nat_lt u 0
    nothing = grind (arith, nat_tests)
named_below work u n (suc m) =
    let f : ℕ → List Key = λ v. map (worker_key v) (work v) in
    ap (list_any (eq_by_cmp key_cmp (worker_key u n))) (flat_map-append f (below m) (m ∷ []))
    ∙ list_any-append (eq_by_cmp key_cmp (worker_key u n)) (flat_map f (below m)) (f m ++ [])
    ∙ (λ i. named_below work u n m i || (ap (list_any (eq_by_cmp key_cmp (worker_key u n))) (append-nil (f m)) ∙ named_once u m n (work m)) i)
    ∙ here (nat_eq u m) refl
  where
    here : (b : Bool) → nat_eq u m ≡ b → ((nat_lt u m && has_number n (work u)) || (b && has_number n (work m))) ≡ (nat_lt u (suc m) && has_number n (work u))
    here true t =
        let same = number_is u m t in
        let less : nat_lt u (suc m) ≡ true = grind (arith, nat_tests, same) in
        let not_less : nat_lt u m ≡ false = grind (arith, nat_tests, same) in
        (λ i. (not_less i && has_number n (work u)) || has_number n (work (sym same i))) ∙ ap (λ b. b && has_number n (work u)) (sym less)
    here false t =
        let same : nat_lt u m ≡ nat_lt u (suc m) = same_tests (nat_lt u m) (nat_lt u (suc m)) (λ s. grind (arith, nat_tests, s)) (λ s. grind (arith, nat_tests, s, t)) in
        or_false (nat_lt u m && has_number n (work u)) ∙ ap (λ b. b && has_number n (work u)) same

pub running_count : (work : ℕ → List ℕ) (u n : ℕ) → u < most_units → count key_cmp (running_of work).entries (worker_key u n) ≡ cond (has_number n (work u)) 1 0
unfolding all_units
running_count work u n lt =
    let less : nat_lt u most_units ≡ true = grind (arith, nat_tests, lt) in
    names_count (keys_of work) (worker_key u n) ∙ ap (λ b. cond b 1 0) (named_below work u n most_units ∙ ap (λ b. b && has_number n (work u)) less)

workers_within : (u : ℕ) (ns : List ℕ) → u < most_units → AllByRecursion (λ n. n < most_workers) ns → AllByRecursion (λ k. 1 ≤ greatest_named k) (map (worker_key u) ns)
workers_within u [] lt h = tt
workers_within u (n ∷ ns) lt h = (let small = h.0 in grind (arith, nat_tests, lt, small), workers_within u ns lt h.1)

keys_within : (work : ℕ → List ℕ) (m : ℕ) → m ≤ most_units → ((u : ℕ) → AllByRecursion (λ n. n < most_workers) (work u)) → AllByRecursion (λ k. 1 ≤ greatest_named k) (flat_map (λ v. map (worker_key v) (work v)) (below m))
keys_within work zero le small = tt
keys_within work (suc m) le small =
    subst (AllByRecursion (λ k. 1 ≤ greatest_named k)) (sym (flat_map-append (λ v. map (worker_key v) (work v)) (below m) (m ∷ [])))
    (all_append (λ k. 1 ≤ greatest_named k) (flat_map (λ v. map (worker_key v) (work v)) (below m)) (map (worker_key m) (work m) ++ []) (keys_within work m (omega (arith, le)) small)
    (all_append (λ k. 1 ≤ greatest_named k) (map (worker_key m) (work m)) [] (workers_within m (work m) (omega (arith, le)) (small m)) tt))

pub running_are : (work : ℕ → List ℕ) → ((u : ℕ) → AllByRecursion (λ n. n < most_workers) (work u)) → AreCounts key_cmp greatest_named (running_of work).entries
unfolding all_units
running_are work small = names_are (keys_of work) (keys_within work most_units (omega arith) small)

-- Numbers that are set one after another
set_both : (es ns ms : List (Key × ℕ)) → numbers_set key_cmp es (ns ++ ms) ≡ numbers_set key_cmp (numbers_set key_cmp es ns) ms
set_both es [] ms = refl
set_both es (n ∷ ns) ms = set_both (set_count key_cmp es n.0 n.1) ns ms

-- a name that changes or not: its worker then has the number of the mark behind
turned_to : (es ns : List (Key × ℕ)) (u k : ℕ) (was is : Bool) → count key_cmp (numbers_set key_cmp es ns) (worker_key u k) ≡ cond was 1 0
    → (v n : ℕ) → count key_cmp (numbers_set key_cmp es (ns ++ name_of u k (turned was is))) (worker_key v n) ≡ cond (nat_eq v u && nat_eq n k) (cond is 1 0) (count key_cmp (numbers_set key_cmp es ns) (worker_key v n))
turned_to es ns u k was is here v n = by was is here
  where
    kept : (is : Bool) → count key_cmp (numbers_set key_cmp es ns) (worker_key u k) ≡ cond is 1 0 → count key_cmp (numbers_set key_cmp es (ns ++ [])) (worker_key v n) ≡ cond (nat_eq v u && nat_eq n k) (cond is 1 0) (count key_cmp (numbers_set key_cmp es ns) (worker_key v n))
    kept is same = ap (λ ms. count key_cmp (numbers_set key_cmp es ms) (worker_key v n)) (append-nil ns) ∙ at (nat_eq v u && nat_eq n k) refl
      where
        at : (b : Bool) → (nat_eq v u && nat_eq n k) ≡ b → count key_cmp (numbers_set key_cmp es ns) (worker_key v n) ≡ cond b (cond is 1 0) (count key_cmp (numbers_set key_cmp es ns) (worker_key v n))
        at true t = let parts = both_true (nat_eq v u) (nat_eq n k) t in (λ i. count key_cmp (numbers_set key_cmp es ns) (worker_key (number_is v u parts.0 i) (number_is n k parts.1 i))) ∙ same
        at false t = refl

    set_to : (m : ℕ) → count key_cmp (numbers_set key_cmp es (ns ++ (worker_key u k, m) ∷ [])) (worker_key v n) ≡ cond (nat_eq v u && nat_eq n k) m (count key_cmp (numbers_set key_cmp es ns) (worker_key v n))
    set_to m = ap (λ fs. count key_cmp fs (worker_key v n)) (set_both es ns ((worker_key u k, m) ∷ [])) ∙ count-set_count key_total (numbers_set key_cmp es ns) (worker_key u k) m (worker_key v n)
        ∙ ap (λ b. cond b m (count key_cmp (numbers_set key_cmp es ns) (worker_key v n))) (same_worker v n u k)

    by : (was is : Bool) → count key_cmp (numbers_set key_cmp es ns) (worker_key u k) ≡ cond was 1 0 → count key_cmp (numbers_set key_cmp es (ns ++ name_of u k (turned was is))) (worker_key v n) ≡ cond (nat_eq v u && nat_eq n k) (cond is 1 0) (count key_cmp (numbers_set key_cmp es ns) (worker_key v n))
    by true true here = kept true here
    by true false here = set_to 0
    by false true here = set_to 1
    by false false here = kept false here

changed_counts : (es ns : List (Key × ℕ)) (u : ℕ) (was is : List Bool) (k : ℕ) → ((n : ℕ) → n < k → count key_cmp (numbers_set key_cmp es ns) (worker_key u n) ≡ cond (get_or was n false) 1 0)
    → (v n : ℕ) → count key_cmp (numbers_set key_cmp es (ns ++ changed u was is k)) (worker_key v n) ≡ cond (nat_eq v u && nat_lt n k) (cond (get_or is n false) 1 0) (count key_cmp (numbers_set key_cmp es ns) (worker_key v n))
unfolding changed
changed_counts es ns u was is zero here v n =
    let none : nat_lt n 0 ≡ false = grind (arith, nat_tests) in
    ap (λ ms. count key_cmp (numbers_set key_cmp es ms) (worker_key v n)) (append-nil ns) ∙ sym (ap (λ b. cond b (cond (get_or is n false) 1 0) (count key_cmp (numbers_set key_cmp es ns) (worker_key v n))) (ap (λ b. nat_eq v u && b) none ∙ never (nat_eq v u)))
  where
    never : (b : Bool) → (b && false) ≡ false
    never true = refl
    never false = refl
changed_counts es ns u was is (suc k) here v n =
    let front = changed u was is k in
    let before = changed_counts es ns u was is k (λ m lt. here m (omega (arith, lt))) in
    let not_yet : (nat_eq u u && nat_lt k k) ≡ false = let f : nat_lt k k ≡ false = grind (arith, nat_tests) in (λ i. nat_itself u i && f i) in
    let at_k : count key_cmp (numbers_set key_cmp es (ns ++ front)) (worker_key u k) ≡ cond (get_or was k false) 1 0 =
    before u k ∙ ap (λ b. cond b (cond (get_or is k false) 1 0) (count key_cmp (numbers_set key_cmp es ns) (worker_key u k))) not_yet ∙ here k (omega arith) in
    ap (λ ms. count key_cmp (numbers_set key_cmp es ms) (worker_key v n)) (sym (append_assoc ns front (name_of u k (turned (get_or was k false) (get_or is k false)))))
    ∙ turned_to es (ns ++ front) u k (get_or was k false) (get_or is k false) at_k v n
    ∙ ap (cond (nat_eq v u && nat_eq n k) (cond (get_or is k false) 1 0)) (before v n)
    ∙ by (nat_eq v u) (nat_eq n k) refl
  where
    by : (a b : Bool) → nat_eq n k ≡ b → cond (a && b) (cond (get_or is k false) 1 0) (cond (a && nat_lt n k) (cond (get_or is n false) 1 0) (count key_cmp (numbers_set key_cmp es ns) (worker_key v n))) ≡ cond (a && nat_lt n (suc k)) (cond (get_or is n false) 1 0) (count key_cmp (numbers_set key_cmp es ns) (worker_key v n))
    by false true t = refl
    by false false t = refl
    by true true t =
        let same = number_is n k t in
        let less : nat_lt n (suc k) ≡ true = grind (arith, nat_tests, same) in
        ap (λ m. cond (get_or is m false) 1 0) (sym same) ∙ ap (λ b. cond b (cond (get_or is n false) 1 0) (count key_cmp (numbers_set key_cmp es ns) (worker_key v n))) (sym less)
    by true false t =
        let same : nat_lt n k ≡ nat_lt n (suc k) = same_tests (nat_lt n k) (nat_lt n (suc k)) (λ s. grind (arith, nat_tests, s)) (λ s. grind (arith, nat_tests, s, t)) in
        ap (λ b. cond b (cond (get_or is n false) 1 0) (count key_cmp (numbers_set key_cmp es ns) (worker_key v n))) same

-- one unit more is told as it is
pub unit_told : (es ns : List (Key × ℕ)) (u : ℕ) (was is : List Bool) (old new : ℕ → List ℕ) → u < most_units → Marks was (old u) → Marks is (new u) → ((v : ℕ) → (v ≡ u → ⊥) → new v ≡ old v)
    → Tells es ns old → Tells es (ns ++ changed u was is 256) new
unit_told es ns u was is old new lt before after others tells v n lv ln =
    changed_counts es ns u was is 256 (λ m lm. tells u m lt lm ∙ ap (λ b. cond b 1 0) (sym (before.each m lm))) v n ∙ by (nat_eq v u) refl
  where
    by : (b : Bool) → nat_eq v u ≡ b → cond (b && nat_lt n 256) (cond (get_or is n false) 1 0) (count key_cmp (numbers_set key_cmp es ns) (worker_key v n)) ≡ cond (has_number n (new v)) 1 0
    by true t =
        let less : nat_lt n 256 ≡ true = grind (arith, nat_tests, ln) in
        ap (λ b. cond b (cond (get_or is n false) 1 0) (count key_cmp (numbers_set key_cmp es ns) (worker_key v n))) less ∙ ap (λ b. cond b 1 0) (after.each n ln) ∙ ap (λ k. cond (has_number n (new k)) 1 0) (sym (number_is v u t))
    by false t = tells v n lv ln ∙ ap (λ ms. cond (has_number n ms) 1 0) (sym (others v (λ e. let bad : nat_eq v u ≡ true = grind (arith, nat_tests, e) in let both : true ≡ false = sym bad ∙ t in cc)))

-- Numbers in order
sorted_push : (xs : List (Key × ℕ)) (k : Key) (m : ℕ) → T (is_sorted key_cmp xs) → AllByRecursion (λ e. key_cmp e.0 k ≡ Less) xs → T (is_sorted key_cmp (xs ++ (k, m) ∷ []))
sorted_push [] k m s h = tt
sorted_push (x ∷ xs) k m s h = let parts = halves (below_all key_cmp x.0 xs) (is_sorted key_cmp xs) s in
    joined (below_all key_cmp x.0 (xs ++ (k, m) ∷ [])) (is_sorted key_cmp (xs ++ (k, m) ∷ [])) (under xs parts.0) (sorted_push xs k m parts.1 h.1)
  where
    halves : (a b : Bool) → T (a && b) → T a × T b
    halves true b p = (tt, p)
    halves false b p = absurd p

    joined : (a b : Bool) → T a → T b → T (a && b)
    joined true b p q = q
    joined false b p q = absurd p

    under : (ys : List (Key × ℕ)) → T (below_all key_cmp x.0 ys) → T (below_all key_cmp x.0 (ys ++ (k, m) ∷ []))
    under [] b = joined (is_lt (key_cmp x.0 k)) true (subst (λ r. T (is_lt r)) (sym h.0) tt) tt
    under (y ∷ ys) b = let parts = halves (is_lt (key_cmp x.0 y.0)) (below_all key_cmp x.0 ys) b in joined (is_lt (key_cmp x.0 y.0)) (below_all key_cmp x.0 (ys ++ (k, m) ∷ [])) parts.0 (under ys parts.1)

pub record InOrder (bound : Key) (ns : List (Key × ℕ)) : Type 0 where
  pub are : AreNumbers key_cmp greatest_named ns
  pub below : AllByRecursion (λ e. key_cmp e.0 bound ≡ Less) ns

wider : (a b : Key) → key_cmp a b ≡ Less → (ns : List (Key × ℕ)) → InOrder a ns → InOrder b ns
wider a b lt ns h = record { are = h.are; below = all_more (λ (e : Key × ℕ). key_cmp e.0 a ≡ Less) (λ e. key_cmp e.0 b ≡ Less) (λ e l. key_total.trans e.0 a b l lt) ns h.below }

one_in_order : (u k m : ℕ) (ns : List (Key × ℕ)) → u < most_units → k < most_workers → m ≤ 1 → InOrder (worker_key u k) ns → InOrder (worker_key u (suc k)) (ns ++ (worker_key u k, m) ∷ [])
one_in_order u k m ns lu lk le h = record {
  are = record {
    sorted = sorted_push ns (worker_key u k) m h.are.sorted h.below;
    within = all_append (λ (e : Key × ℕ). e.1 ≤ greatest_named e.0) ns ((worker_key u k, m) ∷ []) h.are.within (grind (arith, nat_tests, lu, lk, le), tt);
  };
  below = all_append (λ (e : Key × ℕ). key_cmp e.0 (worker_key u (suc k)) ≡ Less) ns ((worker_key u k, m) ∷ []) (wider (worker_key u k) (worker_key u (suc k)) (next_worker u k (suc k) (omega arith)) ns h).below (next_worker u k (suc k) (omega arith), tt);
}

name_in_order : (u k : ℕ) (was is : Bool) (ns : List (Key × ℕ)) → u < most_units → k < most_workers → InOrder (worker_key u k) ns → InOrder (worker_key u (suc k)) (ns ++ name_of u k (turned was is))
name_in_order u k true true ns lu lk h = subst (InOrder (worker_key u (suc k))) (sym (append-nil ns)) (wider (worker_key u k) (worker_key u (suc k)) (next_worker u k (suc k) (omega arith)) ns h)
name_in_order u k true false ns lu lk h = one_in_order u k 0 ns lu lk (omega arith) h
name_in_order u k false true ns lu lk h = one_in_order u k 1 ns lu lk (omega arith) h
name_in_order u k false false ns lu lk h = subst (InOrder (worker_key u (suc k))) (sym (append-nil ns)) (wider (worker_key u k) (worker_key u (suc k)) (next_worker u k (suc k) (omega arith)) ns h)

changed_in_order : (u k : ℕ) (was is : List Bool) (ns : List (Key × ℕ)) → u < most_units → k ≤ most_workers → InOrder (worker_key u 0) ns → InOrder (worker_key u k) (ns ++ changed u was is k)
unfolding changed
changed_in_order u zero was is ns lu le h = subst (InOrder (worker_key u 0)) (sym (append-nil ns)) h
changed_in_order u (suc k) was is ns lu le h =
    subst (InOrder (worker_key u (suc k))) (append_assoc ns (changed u was is k) (name_of u k (turned (get_or was k false) (get_or is k false))))
    (name_in_order u k (get_or was k false) (get_or is k false) (ns ++ changed u was is k) lu (omega (arith, le)) (changed_in_order u k was is ns lu (omega (arith, le)) h))

pub unit_in_order : (u : ℕ) (was is : List Bool) (ns : List (Key × ℕ)) → u < most_units → InOrder (worker_key u 0) ns → InOrder (worker_key (u + 1) 0) (ns ++ changed u was is 256)
unit_in_order u was is ns lu h = wider (worker_key u 256) (worker_key (u + 1) 0) (next_unit u (u + 1) 256 0 (omega arith)) (ns ++ changed u was is 256) (changed_in_order u 256 was is ns lu (omega arith) h)

-- The names that were told make the ledger of those that run
pub told_is : (es ns : List (Key × ℕ)) (work : ℕ → List ℕ) → Tells es ns work → AreCounts key_cmp greatest_named (numbers_set key_cmp es ns) → ((u : ℕ) → AllByRecursion (λ n. n < most_workers) (work u)) → numbers_set key_cmp es ns ≡ (running_of work).entries
told_is es ns work tells counts small =
    let are = running_are work small in
    same_counts key_total same_key greatest_named (numbers_set key_cmp es ns) (running_of work).entries counts are (λ q. at q (nat_eq q.what 1 && (nat_lt q.unit most_units && nat_lt q.number most_workers)) refl are)
  where
    at : (q : Key) (b : Bool) → (nat_eq q.what 1 && (nat_lt q.unit most_units && nat_lt q.number most_workers)) ≡ b → AreCounts key_cmp greatest_named (running_of work).entries → count key_cmp (numbers_set key_cmp es ns) q ≡ count key_cmp (running_of work).entries q
    at q true t are =
        let one = both_true (nat_eq q.what 1) _ t in
        let two = both_true (nat_lt q.unit most_units) (nat_lt q.number most_workers) one.1 in
        let unit_is = two.0 in
        let number_small = two.1 in
        let lu : q.unit < most_units = grind (arith, nat_tests, unit_is) in
        let ln : q.number < most_workers = grind (arith, nat_tests, number_small) in
        let key : q ≡ worker_key q.unit q.number = λ i. record { what = number_is q.what 1 one.0 i; unit = q.unit; number = q.number } in
        ap (count key_cmp (numbers_set key_cmp es ns)) key ∙ tells q.unit q.number lu ln ∙ sym (running_count work q.unit q.number lu) ∙ ap (count key_cmp (running_of work).entries) (sym key)
    at q false t are =
        let none : greatest_named q ≡ 0 = ap (λ b. cond b 1 0) t in
        let left = count_le key_total same_key greatest_named (numbers_set key_cmp es ns) q counts.within in
        let right = count_le key_total same_key greatest_named (running_of work).entries q are.within in
        omega (arith, left, right, none)

-- the names that change, one after another
pub none_changed : (u : ℕ) (was is : List Bool) → changed u was is 0 ≡ []
unfolding changed
none_changed u was is = refl

pub changed_more : (u : ℕ) (was is : List Bool) (n : ℕ) (o : Option ℕ) → o ≡ turned (get_or was n false) (get_or is n false) → changed u was is (n + 1) ≡ changed u was is n ++ name_of u n o
unfolding changed
changed_more u was is n o e = ap (changed u was is) (add-one n) ∙ step ∙ ap (λ t. changed u was is n ++ name_of u n t) (sym e)
  where
    step : changed u was is (suc n) ≡ changed u was is n ++ name_of u n (turned (get_or was n false) (get_or is n false))
    step = refl

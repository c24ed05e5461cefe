-- What is credited of the numbers that a demand gives back.
use Rattle.std.proofs.Common.{◌≡◌, ℕ, ◌≤◌, Bool, true, false, cond, not, nat_eq, nat_lt, T, List, [], ◌∷◌, map, filter, refl, sym, ◌∙◌, ap, subst, arith}
use Rattle.std.specs.Prelude.{◌&&◌, ◌||◌}
use Rattle.std.specs.List.{AllByRecursion}
use Rattle.std.specs.Option.{unwrap_or}
use Rattle.std.specs.Ordering.{nat_cmp, ordering_then, eq_by_cmp, is_lt}
use Rattle.std.specs.declared.cmp.Ordering.{Ordering}
use Rattle.std.specs.FinMap.Entries.{put, where_key, find-where_key, is_sorted, below_all}
use Rattle.std.specs.declared.cmp.Ordering.TheVariants.{Less, Equal}
use Rattle.std.specs.Cmp.{tied_itself}
use Rattle.std.proofs.lemmas.Bool.Decides.{nat_tests}
use Rattle.fuxi_terms.specs.declared.Key.{Key}
use Rattle.fuxi_terms.specs.Cluster.{ClusterRecord, has_machine, has_rack}
use Rattle.fuxi_terms.specs.Counts.{count, set_count, AreCounts}
use Rattle.fuxi_terms.specs.Keys.{key_cmp}
use Rattle.fuxi_terms.specs.TallyKeys.{credited_key, credited_what, is_back, greatest_grant, greatest_demand}
use Rattle.fuxi_terms.proofs.Alls.{all_mapped}
use Rattle.fuxi_terms.proofs.Booleans.{both_true, number_is}
use Rattle.fuxi_terms.proofs.CountsLemmas.{both_true as both_hold, count-set_count, tied, lesser}
use Rattle.fuxi_terms.proofs.KeyOrders.{key_total, same_key}
use Rattle.spec_roles.specs.MasterSteps.{is_there, raise_credited}
use Rattle.fuxi_terms.specs.NumbersSet.{numbers_set, AreNumbers}
use Rattle.ledger_updates.specs.AllShown.{credited_in}
use Rattle.allotment.specs.Allotted.{is_new_back, newly_credited}

abbrev pub entry_of : Key × ℕ → Key × ℕ
entry_of e = (credited_key e.0.unit e.0.number, e.1)

-- two keys of numbers given back are credited at two keys
apart : (k q : Key) → key_cmp k q ≡ Less → is_back k ≡ true → is_back q ≡ true → eq_by_cmp key_cmp (credited_key q.unit q.number) (credited_key k.unit k.number) ≡ false
apart k q less bk bq = elim (eq_by_cmp key_cmp (credited_key q.unit q.number) (credited_key k.unit k.number)) as (λ b. eq_by_cmp key_cmp (credited_key q.unit q.number) (credited_key k.unit k.number) ≡ b → b ≡ false) [
  | true ↦ λ e.
      let same = same_key (credited_key q.unit q.number) (credited_key k.unit k.number) (tied _ e) in
      let wk = number_is k.what 5 bk in
      let wq = number_is q.what 5 bq in
      let one : k ≡ q = (λ i. record { what = (wk ∙ sym wq) i; unit = ap (λ (x : Key). x.unit) (sym same) i; number = ap (λ (x : Key). x.number) (sym same) i }) in
      absurd (let equal : Equal ≡ Less = sym (tied_itself key_total k) ∙ ap (key_cmp k) one ∙ less in cc)
  | false ↦ λ _. refl
] refl

-- numbers at the keys that are left are as given
abbrev AreGiven : List (Key × ℕ) → List (Key × ℕ) → List (Key × ℕ) → Type 0
AreGiven cs given es = AllByRecursion (λ (e : Key × ℕ). is_back e.0 ≡ true → count key_cmp cs (credited_key e.0.unit e.0.number) ≡ count key_cmp given (credited_key e.0.unit e.0.number)) es

given_still : (k : Key) (v : ℕ) (cs given es : List (Key × ℕ)) → is_back k ≡ true → T (below_all key_cmp k es) → AreGiven cs given es → AreGiven (set_count key_cmp cs (credited_key k.unit k.number) v) given es
given_still k v cs given [] back b h = tt
given_still k v cs given (e ∷ es) back b h =
    let parts = both_hold (is_lt (key_cmp k e.0)) (below_all key_cmp k es) b in (
      (λ t. count-set_count key_total cs (credited_key k.unit k.number) v (credited_key e.0.unit e.0.number) ∙ ap (λ c. cond c v (count key_cmp cs (credited_key e.0.unit e.0.number))) (apart k e.0 (lesser _ parts.0) back t) ∙ h.0 t),
      given_still k v cs given es back parts.1 h.1,
    )

-- a number given back counts where its unit and machine are there
pub back_there : (c : ClusterRecord) (units : ℕ) (k : Key) → is_back k ≡ true → is_there c units k ≡ (nat_lt k.unit units && has_machine c k.number)
back_there c units k back =
    let w = number_is k.what 5 back in
    ap (λ n. nat_lt k.unit units && (nat_eq n 1 || cond (nat_eq n 3) (has_rack c k.number) (has_machine c k.number))) w

-- what is left to raise, from any numbers that are as given
abbrev Raises : ClusterRecord → ℕ → List (Key × ℕ) → List (Key × ℕ) → Type 0
Raises c units es given = (cs : List (Key × ℕ)) → AreGiven cs given es → raise_credited cs (where_key key_cmp (is_there c units) es) ≡ numbers_set key_cmp cs (newly_credited c units given es)

-- one number: where it is given back, its unit and machine are there, and it is above what is credited
raised_one : (c : ClusterRecord) (units : ℕ) (e : Key × ℕ) (es cs given : List (Key × ℕ)) → T (below_all key_cmp e.0 es) → AreGiven cs given (e ∷ es) → Raises c units es given → is_back e.0 ≡ true
    → (x y l : Bool) → nat_lt (count key_cmp given (entry_of e).0) e.1 ≡ l
    → raise_credited cs (cond (x && y) (e ∷ where_key key_cmp (is_there c units) es) (where_key key_cmp (is_there c units) es)) ≡ numbers_set key_cmp cs (map entry_of (cond (x && (y && l)) (e ∷ filter (is_new_back c units given) es) (filter (is_new_back c units given) es)))
raised_one c units e es cs given below h rest on false y l less = rest cs h.1
raised_one c units e es cs given below h rest on true false l less = rest cs h.1
raised_one c units e es cs given below h rest on true true false less =
    ap (λ b. raise_credited (cond (b && nat_lt (count key_cmp cs (entry_of e).0) e.1) (put key_cmp (entry_of e).0 e.1 cs) cs) (where_key key_cmp (is_there c units) es)) on
    ∙ ap (λ n. raise_credited (cond (nat_lt n e.1) (put key_cmp (entry_of e).0 e.1 cs) cs) (where_key key_cmp (is_there c units) es)) (h.0 on)
    ∙ ap (λ b. raise_credited (cond b (put key_cmp (entry_of e).0 e.1 cs) cs) (where_key key_cmp (is_there c units) es)) less
    ∙ rest cs h.1
raised_one c units e es cs given below h rest on true true true less =
    let some : nat_eq e.1 0 ≡ false = grind (arith, nat_tests, less) in
    let set : set_count key_cmp cs (entry_of e).0 e.1 ≡ put key_cmp (entry_of e).0 e.1 cs = ap (λ b. cond b (where_key key_cmp (λ x. not (eq_by_cmp key_cmp (entry_of e).0 x)) cs) (put key_cmp (entry_of e).0 e.1 cs)) some in
    ap (λ b. raise_credited (cond (b && nat_lt (count key_cmp cs (entry_of e).0) e.1) (put key_cmp (entry_of e).0 e.1 cs) cs) (where_key key_cmp (is_there c units) es)) on
    ∙ ap (λ n. raise_credited (cond (nat_lt n e.1) (put key_cmp (entry_of e).0 e.1 cs) cs) (where_key key_cmp (is_there c units) es)) (h.0 on)
    ∙ ap (λ b. raise_credited (cond b (put key_cmp (entry_of e).0 e.1 cs) cs) (where_key key_cmp (is_there c units) es)) less
    ∙ ap (λ ds. raise_credited ds (where_key key_cmp (is_there c units) es)) (sym set)
    ∙ rest (set_count key_cmp cs (entry_of e).0 e.1) (given_still e.0 e.1 cs given es on below h.1)

raised_either : (c : ClusterRecord) (units : ℕ) (e : Key × ℕ) (es cs given : List (Key × ℕ)) → T (below_all key_cmp e.0 es) → AreGiven cs given (e ∷ es) → Raises c units es given → (b : Bool) → is_back e.0 ≡ b
    → raise_credited cs (where_key key_cmp (is_there c units) (e ∷ es)) ≡ numbers_set key_cmp cs (newly_credited c units given (e ∷ es))
raised_either c units e es cs given below h rest false off =
    let new : is_new_back c units given e ≡ false = ap (λ b. b && (nat_lt e.0.unit units && (has_machine c e.0.number && nat_lt (count key_cmp given (entry_of e).0) e.1))) off in
    elim (is_there c units e.0) as (λ b. raise_credited cs (cond b (e ∷ where_key key_cmp (is_there c units) es) (where_key key_cmp (is_there c units) es)) ≡ numbers_set key_cmp cs (newly_credited c units given es)) [
      | true ↦ ap (λ b. raise_credited (cond (b && nat_lt (count key_cmp cs (entry_of e).0) e.1) (put key_cmp (entry_of e).0 e.1 cs) cs) (where_key key_cmp (is_there c units) es)) off ∙ rest cs h.1
      | false ↦ rest cs h.1
    ] ∙ sym (ap (λ b. numbers_set key_cmp cs (map entry_of (cond b (e ∷ filter (is_new_back c units given) es) (filter (is_new_back c units given) es)))) new)
raised_either c units e es cs given below h rest true on =
    (λ i. raise_credited cs (cond (back_there c units e.0 on i) (e ∷ where_key key_cmp (is_there c units) es) (where_key key_cmp (is_there c units) es)))
    ∙ raised_one c units e es cs given below h rest on (nat_lt e.0.unit units) (has_machine c e.0.number) (nat_lt (count key_cmp given (entry_of e).0) e.1) refl
    ∙ sym (ap (λ b. numbers_set key_cmp cs (map entry_of (cond (b && (nat_lt e.0.unit units && (has_machine c e.0.number && nat_lt (count key_cmp given (entry_of e).0) e.1))) (e ∷ filter (is_new_back c units given) es) (filter (is_new_back c units given) es)))) on)

pub raised_as : (c : ClusterRecord) (units : ℕ) (es cs given : List (Key × ℕ)) → T (is_sorted key_cmp es) → AreGiven cs given es
    → raise_credited cs (where_key key_cmp (is_there c units) es) ≡ numbers_set key_cmp cs (newly_credited c units given es)
raised_as c units [] cs given s h = refl
raised_as c units (e ∷ es) cs given s h =
    let parts = both_hold (below_all key_cmp e.0 es) (is_sorted key_cmp es) s in
    raised_either c units e es cs given parts.0 h (λ ds g. raised_as c units es ds given parts.1 g) (is_back e.0) refl

-- all numbers are as given where the numbers that are credited are
pub all_given : (cs given es : List (Key × ℕ)) → ((u m : ℕ) → count key_cmp cs (credited_key u m) ≡ count key_cmp given (credited_key u m)) → AreGiven cs given es
all_given cs given [] h = tt
all_given cs given (e ∷ es) h = ((λ _. h e.0.unit e.0.number), all_given cs given es h)

-- what grants show as credited
pub credited_shown : (es : List (Key × ℕ)) (u m : ℕ) → count key_cmp (credited_in es) (credited_key u m) ≡ count key_cmp es (credited_key u m)
credited_shown es u m = ap (λ o. unwrap_or o 0) (find-where_key key_cmp (λ k. nat_eq k.what credited_what) (credited_key u m) (λ x e. ap (λ (k : Key). nat_eq k.what credited_what) (sym (same_key (credited_key u m) x e))) es)

-- The numbers that are credited now rise, and are within their greatest
both_given : (x y : Bool) → T x → T y → T (x && y)
both_given true y a b = b
both_given false y a b = absurd a

same_order : (k q : Key) → k.what ≡ 5 → q.what ≡ 5 → key_cmp k q ≡ key_cmp (credited_key k.unit k.number) (credited_key q.unit q.number)
same_order k q wk wq = λ i. ordering_then (nat_cmp (wk i) (wq i)) (ordering_then (nat_cmp k.unit q.unit) (nat_cmp k.number q.number))

below_credited : (c : ClusterRecord) (units : ℕ) (given : List (Key × ℕ)) (k : Key) (es : List (Key × ℕ)) → is_back k ≡ true → T (below_all key_cmp k es) → T (below_all key_cmp (credited_key k.unit k.number) (newly_credited c units given es))
below_credited c units given k [] back b = tt
below_credited c units given k (e ∷ es) back b =
    let parts = both_hold (is_lt (key_cmp k e.0)) (below_all key_cmp k es) b in
    let rest = below_credited c units given k es back parts.1 in
    elim (is_new_back c units given e) as (λ t. is_new_back c units given e ≡ t → T (below_all key_cmp (credited_key k.unit k.number) (map entry_of (cond t (e ∷ filter (is_new_back c units given) es) (filter (is_new_back c units given) es))))) [
      | true ↦ λ new.
          let eb = (both_true (is_back e.0) _ new).0 in
          both_given (is_lt (key_cmp (credited_key k.unit k.number) (credited_key e.0.unit e.0.number))) (below_all key_cmp (credited_key k.unit k.number) (newly_credited c units given es))
          (subst (λ (r : Ordering). T (is_lt r)) (same_order k e.0 (number_is k.what 5 back) (number_is e.0.what 5 eb)) parts.0) rest
      | false ↦ λ off. rest
    ] refl

credited_rise : (c : ClusterRecord) (units : ℕ) (given es : List (Key × ℕ)) → T (is_sorted key_cmp es) → T (is_sorted key_cmp (newly_credited c units given es))
credited_rise c units given [] s = tt
credited_rise c units given (e ∷ es) s =
    let parts = both_hold (below_all key_cmp e.0 es) (is_sorted key_cmp es) s in
    let rest = credited_rise c units given es parts.1 in
    elim (is_new_back c units given e) as (λ t. is_new_back c units given e ≡ t → T (is_sorted key_cmp (map entry_of (cond t (e ∷ filter (is_new_back c units given) es) (filter (is_new_back c units given) es))))) [
      | true ↦ λ new. both_given (below_all key_cmp (credited_key e.0.unit e.0.number) (newly_credited c units given es)) (is_sorted key_cmp (newly_credited c units given es))
          (below_credited c units given e.0 es (both_true (is_back e.0) _ new).0 parts.0) rest
      | false ↦ λ off. rest
    ] refl

within_credited : (c : ClusterRecord) (units : ℕ) (given es : List (Key × ℕ)) → AllByRecursion (λ (e : Key × ℕ). e.1 ≤ greatest_demand e.0) es → AllByRecursion (λ (e : Key × ℕ). e.1 ≤ greatest_grant e.0) (newly_credited c units given es)
within_credited c units given [] h = tt
within_credited c units given (e ∷ es) h =
    let rest = within_credited c units given es h.1 in
    elim (is_new_back c units given e) as (λ t. is_new_back c units given e ≡ t → AllByRecursion (λ (e : Key × ℕ). e.1 ≤ greatest_grant e.0) (map entry_of (cond t (e ∷ filter (is_new_back c units given) es) (filter (is_new_back c units given) es)))) [
      | true ↦ λ new.
          let w = number_is e.0.what 5 (both_true (is_back e.0) _ new).0 in
          (subst (λ n. e.1 ≤ n) (λ i. greatest_demand (record { what = w i; unit = e.0.unit; number = e.0.number })) h.0, rest)
      | false ↦ λ off. rest
    ] refl

pub are_numbers : (c : ClusterRecord) (units : ℕ) (given es : List (Key × ℕ)) → AreCounts key_cmp greatest_demand es → AreNumbers key_cmp greatest_grant (newly_credited c units given es)
are_numbers c units given es h = record { sorted = credited_rise c units given es h.sorted; within = within_credited c units given es h.within }

pub are_credited : (c : ClusterRecord) (units : ℕ) (given es : List (Key × ℕ)) → AllByRecursion (λ (e : Key × ℕ). nat_eq e.0.what credited_what ≡ true) (newly_credited c units given es)
are_credited c units given es = all_mapped (λ (e : Key × ℕ). nat_eq e.0.what credited_what ≡ true) entry_of (filter (is_new_back c units given) es) (each (filter (is_new_back c units given) es))
  where
    each : (xs : List (Key × ℕ)) → AllByRecursion (λ (e : Key × ℕ). nat_eq (entry_of e).0.what credited_what ≡ true) xs
    each [] = tt
    each (x ∷ xs) = (refl, each xs)

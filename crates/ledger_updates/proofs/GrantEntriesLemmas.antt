-- The entries of grants, key by key.
use Rattle.std.proofs.Common.{◌≡◌, ℕ, Bool, true, false, cond, nat_eq, List, [], ◌∷◌, ◌++◌, map, filter, Option, Some, None, refl, sym, ◌∙◌, ap, subst, arith}
use Rattle.std.specs.Prelude.{◌&&◌, ◌||◌}
use Rattle.std.specs.Option.{is_some, unwrap_or}
use Rattle.std.specs.Ordering.{eq_by_cmp, is_eq}
use Rattle.std.specs.Cmp.{tied_itself}
use Rattle.std.specs.List.{AllByRecursion}
use Rattle.std.specs.declared.cmp.Ordering.{Ordering}
use Rattle.std.specs.FinMap.Entries.{find}
use Rattle.std.proofs.lemmas.Bool.Decides.{nat_tests}
use Rattle.fuxi_terms.specs.declared.Key.{Key}
use Rattle.fuxi_terms.specs.Counts.{count, AreCounts}
use Rattle.fuxi_terms.specs.Keys.{Spot, spot_cmp, key_cmp}
use Rattle.fuxi_terms.specs.Numbers.{has_number}
use Rattle.fuxi_terms.specs.Tables.{spot, Table}
use Rattle.fuxi_terms.specs.TallyKeys.{reported_key, count_key, credited_key, greatest_grant}
use Rattle.fuxi_terms.proofs.Booleans.{both_true, same_tests, number_is, nat_itself}
use Rattle.fuxi_terms.proofs.CountsLemmas.{tied, count_le}
use Rattle.fuxi_terms.proofs.KeyOrders.{key_total, same_key, spot_total, same_spot}
use Rattle.spec_roles.specs.MasterSteps.{count_entries}
use Rattle.fuxi_terms.specs.NumbersSet.{numbers_set, AreNumbers}
use Rattle.ledger_updates.specs.Projections.{grant_entries, HasNumbers, after_setting, GrantsFollow}
use Rattle.ledger_updates.proofs.ProjectionsLemmas.{numbers_are}

abbrev or_else : {X : Type 0} → Option X → Option X → Option X
or_else None y = y
or_else (Some x) y = Some x

find_append : {K X : Type 0} (R : K → K → Ordering) (q : K) (xs ys : List (K × X)) → find R q (xs ++ ys) ≡ or_else (find R q xs) (find R q ys)
find_append R q [] ys = refl
find_append R q (e ∷ xs) ys = by (eq_by_cmp R q e.0) (find_append R q xs ys)
  where
    by : (b : Bool) → find R q (xs ++ ys) ≡ or_else (find R q xs) (find R q ys) → cond b (Some e.1) (find R q (xs ++ ys)) ≡ or_else (cond b (Some e.1) (find R q xs)) (find R q ys)
    by true rest = refl
    by false rest = rest

or_none : {X : Type 0} (x : Option X) → or_else x None ≡ x
or_none None = refl
or_none (Some x) = refl

-- keys of another kind are not there
abbrev AreOf : ℕ → List (Key × ℕ) → Type 0
AreOf w es = AllByRecursion (λ e. nat_eq e.0.what w ≡ true) es

other_kind : (w : ℕ) (es : List (Key × ℕ)) (q : Key) → AreOf w es → nat_eq q.what w ≡ false → find key_cmp q es ≡ None
other_kind w [] q h differs = refl
other_kind w (e ∷ es) q h differs = ap (λ b. cond b (Some e.1) (find key_cmp q es)) (by (eq_by_cmp key_cmp q e.0) refl) ∙ other_kind w es q h.1 differs
  where
    by : (b : Bool) → eq_by_cmp key_cmp q e.0 ≡ b → b ≡ false
    by true t = let f : true ≡ false = sym (ap (λ (k : Key). nat_eq k.what w) (same_key q e.0 (tied _ t)) ∙ h.0) ∙ differs in cc
    by false t = refl

abbrev held : Bool → ℕ
held b = cond b 1 0

abbrev machines : List ℕ → List (Key × ℕ)
machines rs = map (λ m. (reported_key m, 1)) rs

reported_of : (rs : List ℕ) → AreOf 1 (machines rs)
reported_of [] = tt
reported_of (r ∷ rs) = (refl, reported_of rs)

counts_of : (a : ℕ) (t : Table) → AreOf 2 (count_entries a t)
counts_of a [] = tt
counts_of a (e ∷ t) = by (nat_eq e.0.job a) (counts_of a t)
  where
    by : (b : Bool) → AreOf 2 (count_entries a t) → AreOf 2 (map (λ e. (count_key e.0.unit e.0.machine, e.1)) (cond b (e ∷ filter (λ e. nat_eq e.0.job a) t) (filter (λ e. nat_eq e.0.job a) t)))
    by true rest = (refl, rest)
    by false rest = rest

reported_found : (rs : List ℕ) (m : ℕ) → find key_cmp (reported_key m) (machines rs) ≡ cond (has_number m rs) (Some 1) None
reported_found [] m = refl
reported_found (r ∷ rs) m = ap (λ b. cond b (Some 1) (find key_cmp (reported_key m) (machines rs))) same ∙ by (nat_eq m r) (reported_found rs m)
  where
    same : eq_by_cmp key_cmp (reported_key m) (reported_key r) ≡ nat_eq m r
    same = same_tests (eq_by_cmp key_cmp (reported_key m) (reported_key r)) (nat_eq m r)
        (λ t. ap (λ n. nat_eq m n) (sym (ap (λ (k : Key). k.number) (same_key (reported_key m) (reported_key r) (tied _ t)))) ∙ nat_itself m)
        (λ t. ap (λ n. eq_by_cmp key_cmp (reported_key m) (reported_key n)) (sym (number_is m r t)) ∙ ap is_eq (tied_itself key_total (reported_key m)))

    by : (b : Bool) → find key_cmp (reported_key m) (machines rs) ≡ cond (has_number m rs) (Some 1) None → cond b (Some 1) (find key_cmp (reported_key m) (machines rs)) ≡ cond (b || has_number m rs) (Some 1) None
    by true rest = refl
    by false rest = rest

module _ (a : ℕ) where
  one_count : (u m : ℕ) (e : Spot) → e.job ≡ a → eq_by_cmp key_cmp (count_key u m) (count_key e.unit e.machine) ≡ eq_by_cmp spot_cmp (spot a u m) e
  one_count u m e job = same_tests (eq_by_cmp key_cmp (count_key u m) (count_key e.unit e.machine)) (eq_by_cmp spot_cmp (spot a u m) e)
      (λ t. let k = same_key (count_key u m) (count_key e.unit e.machine) (tied _ t) in
      let is : spot a u m ≡ e = λ i. record { job = sym job i; unit = ap (λ (x : Key). x.unit) k i; machine = ap (λ (x : Key). x.number) k i } in
      ap (eq_by_cmp spot_cmp (spot a u m)) (sym is) ∙ ap is_eq (tied_itself spot_total (spot a u m)))
      (λ t. let is = same_spot (spot a u m) e (tied _ t) in ap (λ (x : Spot). eq_by_cmp key_cmp (count_key u m) (count_key x.unit x.machine)) (sym is) ∙ ap is_eq (tied_itself key_total (count_key u m)))

  counts_at : (t : Table) (u m : ℕ) → find key_cmp (count_key u m) (count_entries a t) ≡ find spot_cmp (spot a u m) t
  counts_at [] u m = refl
  counts_at (e ∷ t) u m = by (nat_eq e.0.job a) refl (counts_at t u m)
    where
      other : (b : Bool) → nat_eq e.0.job a ≡ false → eq_by_cmp spot_cmp (spot a u m) e.0 ≡ b → b ≡ false
      other true is t = let there : nat_eq e.0.job a ≡ true = ap (λ n. nat_eq n a) (sym (ap (λ (x : Spot). x.job) (same_spot (spot a u m) e.0 (tied _ t)))) ∙ nat_itself a in let f : true ≡ false = sym there ∙ is in cc
      other false is t = refl

      by : (b : Bool) → nat_eq e.0.job a ≡ b → find key_cmp (count_key u m) (count_entries a t) ≡ find spot_cmp (spot a u m) t
          → find key_cmp (count_key u m) (map (λ e. (count_key e.0.unit e.0.machine, e.1)) (cond b (e ∷ filter (λ e. nat_eq e.0.job a) t) (filter (λ e. nat_eq e.0.job a) t))) ≡ cond (eq_by_cmp spot_cmp (spot a u m) e.0) (Some e.1) (find spot_cmp (spot a u m) t)
      by true is rest = λ i. cond (one_count u m e.0 (number_is e.0.job a is) i) (Some e.1) (rest i)
      by false is rest = rest ∙ ap (λ b. cond b (Some e.1) (find spot_cmp (spot a u m) t)) (sym (other (eq_by_cmp spot_cmp (spot a u m) e.0) is refl))

  module _ (rs : List ℕ) (t : Table) (cs : List (Key × ℕ)) (kinds : AreOf 3 cs) where
    found : (q : Key) → find key_cmp q (grant_entries a rs t cs) ≡ or_else (find key_cmp q (machines rs)) (or_else (find key_cmp q (count_entries a t)) (find key_cmp q cs))
    found q = find_append key_cmp q (machines rs) (count_entries a t ++ cs) ∙ ap (or_else (find key_cmp q (machines rs))) (find_append key_cmp q (count_entries a t) cs)

    machine_found : (m : ℕ) → find key_cmp (reported_key m) (grant_entries a rs t cs) ≡ cond (has_number m rs) (Some 1) None
    machine_found m =
        let b = other_kind 2 (count_entries a t) (reported_key m) (counts_of a t) refl in
        let d = other_kind 3 cs (reported_key m) kinds refl in
        found (reported_key m) ∙ (λ i. or_else (find key_cmp (reported_key m) (machines rs)) (or_else (b i) (d i))) ∙ or_none (find key_cmp (reported_key m) (machines rs)) ∙ reported_found rs m

    count_found : (u m : ℕ) → find key_cmp (count_key u m) (grant_entries a rs t cs) ≡ find spot_cmp (spot a u m) t
    count_found u m =
        let b = other_kind 1 (machines rs) (count_key u m) (reported_of rs) refl in
        let d = other_kind 3 cs (count_key u m) kinds refl in
        found (count_key u m) ∙ (λ i. or_else (b i) (or_else (counts_at t u m i) (d i))) ∙ or_none (find spot_cmp (spot a u m) t)

    credited_found : (u m : ℕ) → find key_cmp (credited_key u m) (grant_entries a rs t cs) ≡ find key_cmp (credited_key u m) cs
    credited_found u m =
        let b = other_kind 1 (machines rs) (credited_key u m) (reported_of rs) refl in
        let d = other_kind 2 (count_entries a t) (credited_key u m) (counts_of a t) refl in
        found (credited_key u m) ∙ (λ i. or_else (b i) (or_else (d i) (find key_cmp (credited_key u m) cs)))

    pub have_numbers : HasNumbers a rs t cs
    have_numbers = record { machines = machine_found; counts = count_found; given = credited_found }

    machines_at : (m : ℕ) → count key_cmp (grant_entries a rs t cs) (reported_key m) ≡ held (has_number m rs)
    machines_at m = ap (λ r. unwrap_or r 0) (machine_found m) ∙ elim (has_number m rs) as (λ b. unwrap_or (cond b (Some 1) None) 0 ≡ held b) [ true ↦ refl | false ↦ refl ]

    held_at : (u m : ℕ) → count key_cmp (grant_entries a rs t cs) (count_key u m) ≡ count spot_cmp t (spot a u m)
    held_at u m = ap (λ r. unwrap_or r 0) (count_found u m)

    credited_at : (u m : ℕ) → count key_cmp (grant_entries a rs t cs) (credited_key u m) ≡ count key_cmp cs (credited_key u m)
    credited_at u m = ap (λ r. unwrap_or r 0) (credited_found u m)

-- a key that is none of grants has no number
no_key : (q : Key) → (nat_eq q.what 1 && nat_eq q.unit 0) ≡ false → nat_eq q.what 2 ≡ false → nat_eq q.what 3 ≡ false → greatest_grant q ≡ 0
no_key q one two three = grind (arith, nat_tests, one, two, three)

-- where each kind of number follows, so do the grants
pub grants_follow : (a : ℕ) (es ns : List (Key × ℕ)) (rs : List ℕ) (t : Table) (cs : List (Key × ℕ)) → AreCounts key_cmp greatest_grant es → AreCounts key_cmp greatest_grant (grant_entries a rs t cs) → AreNumbers key_cmp greatest_grant ns
    → GrantsFollow a es ns rs t cs → numbers_set key_cmp es ns ≡ grant_entries a rs t cs
grants_follow a es ns rs t cs h k numbers f = numbers_are key_total same_key greatest_grant es ns (grant_entries a rs t cs) h k numbers (λ q. by q (nat_eq q.what 1 && nat_eq q.unit 0) (nat_eq q.what 2) (nat_eq q.what 3) refl refl refl)
  where
    at_most : (q : Key) → greatest_grant q ≡ 0 → after_setting es ns q ≡ 0
    at_most q none = either (is_some (find key_cmp q ns)) (omega (arith, count_le key_total same_key greatest_grant ns q numbers.within, none)) (omega (arith, count_le key_total same_key greatest_grant es q h.within, none))
      where
        either : (b : Bool) → count key_cmp ns q ≡ 0 → count key_cmp es q ≡ 0 → cond b (count key_cmp ns q) (count key_cmp es q) ≡ 0
        either true x y = x
        either false x y = y

    by : (q : Key) (one two three : Bool) → (nat_eq q.what 1 && nat_eq q.unit 0) ≡ one → nat_eq q.what 2 ≡ two → nat_eq q.what 3 ≡ three → count key_cmp (grant_entries a rs t cs) q ≡ after_setting es ns q
    by q true two three is is2 is3 =
        let parts = both_true (nat_eq q.what 1) (nat_eq q.unit 0) is in
        let key_is : q ≡ reported_key q.number = λ i. record { what = number_is q.what 1 parts.0 i; unit = number_is q.unit 0 parts.1 i; number = q.number } in
        subst (λ k. count key_cmp (grant_entries a rs t cs) k ≡ after_setting es ns k) (sym key_is) (machines_at a rs t cs f.kinds q.number ∙ f.machines q.number)
    by q false true three is is2 is3 =
        let key_is : q ≡ count_key q.unit q.number = λ i. record { what = number_is q.what 2 is2 i; unit = q.unit; number = q.number } in
        subst (λ k. count key_cmp (grant_entries a rs t cs) k ≡ after_setting es ns k) (sym key_is) (held_at a rs t cs f.kinds q.unit q.number ∙ f.counts q.unit q.number)
    by q false false true is is2 is3 =
        let key_is : q ≡ credited_key q.unit q.number = λ i. record { what = number_is q.what 3 is3 i; unit = q.unit; number = q.number } in
        subst (λ k. count key_cmp (grant_entries a rs t cs) k ≡ after_setting es ns k) (sym key_is) (credited_at a rs t cs f.kinds q.unit q.number ∙ f.given q.unit q.number)
    by q false false false is is2 is3 =
        let none = no_key q is is2 is3 in
        let zero_there : count key_cmp (grant_entries a rs t cs) q ≡ 0 = omega (arith, count_le key_total same_key greatest_grant (grant_entries a rs t cs) q k.within, none) in
        zero_there ∙ sym (at_most q none)

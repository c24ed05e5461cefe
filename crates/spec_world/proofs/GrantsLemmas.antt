-- What the grants of a job say is what the table and the credits of the master say.
use Rattle.std.proofs.Common.{◌≡◌, ℕ, ◌<◌, Bool, true, false, cond, nat_eq, nat_lt, List, [], ◌∷◌, ◌++◌, map, filter, Option, Some, None, refl, sym, ◌∙◌, ap, arith}
use Rattle.std.specs.Option.{unwrap_or}
use Rattle.std.specs.Ordering.{eq_by_cmp, is_eq}
use Rattle.std.specs.Cmp.{tied_itself}
use Rattle.std.specs.declared.cmp.Ordering.{Ordering}
use Rattle.fuxi_terms.specs.declared.Key.{Key}
use Rattle.fuxi_terms.specs.Counts.{count}
use Rattle.std.specs.FinMap.Entries.{find}
use Rattle.std.proofs.lemmas.Bool.Decides.{nat_tests}
use Rattle.fuxi_terms.specs.Keys.{key_cmp, Spot, spot_cmp}
use Rattle.fuxi_terms.proofs.CountsLemmas.{tied}
use Rattle.spec_net.specs.Ledgers.{at_key}
use Rattle.fuxi_terms.specs.TallyKeys.{reported_key, count_key, credited_key}
use Rattle.fuxi_terms.specs.Jobs.{is_live}
use Rattle.spec_roles.specs.Masters.{Master, credited_of}
use Rattle.fuxi_terms.specs.Tables.{spot, held_on, Table}
use Rattle.spec_roles.specs.MasterSteps.{count_entries, grants}
use Rattle.fuxi_terms.proofs.KeyOrders.{key_total, spot_total, same_key, same_spot}
use Rattle.fuxi_terms.proofs.Booleans.{number_is, same_tests}
use Rattle.spec_world.proofs.TablesInOrder.{live_found}
use Rattle.spec_world.specs.Good.{IsInOrder, reported_entries}

-- A key is looked up in lists one behind the other
find_behind : {K : Type 0} (R : K → K → Ordering) (k : K) (xs ys : List (K × ℕ)) → find R k xs ≡ None → find R k (xs ++ ys) ≡ find R k ys
find_behind R k [] ys e = refl
find_behind R k (x ∷ xs) ys e = elim (eq_by_cmp R k x.0) as (λ b. cond b (Some x.1) (find R k xs) ≡ None → cond b (Some x.1) (find R k (xs ++ ys)) ≡ find R k ys) [ true ↦ λ e. cc | false ↦ λ e. find_behind R k xs ys e ] e

find_front : {K : Type 0} (R : K → K → Ordering) (k : K) (xs ys : List (K × ℕ)) → find R k ys ≡ None → find R k (xs ++ ys) ≡ find R k xs
find_front R k [] ys e = e
find_front R k (x ∷ xs) ys e = ap (cond (eq_by_cmp R k x.0) (Some x.1)) (find_front R k xs ys e)

not_tied : (q k : Key) → (q ≡ k → ⊥) → eq_by_cmp key_cmp q k ≡ false
not_tied q k differs = by (eq_by_cmp key_cmp q k) refl
  where
    by : (b : Bool) → eq_by_cmp key_cmp q k ≡ b → eq_by_cmp key_cmp q k ≡ false
    by false e = e
    by true e = absurd (differs (same_key q k (tied _ e)))

kind_differs : (q k : Key) → nat_eq q.what k.what ≡ false → q ≡ k → ⊥
kind_differs q k e same = let s : q.what ≡ k.what = ap (λ (x : Key). x.what) same in let t : nat_eq q.what k.what ≡ true = grind (arith, nat_tests, s) in cc

no_reported : (q : Key) → nat_eq q.what 1 ≡ false → (ms : List ℕ) → find key_cmp q (reported_entries ms) ≡ None
no_reported q e [] = refl
no_reported q e (m ∷ ms) = ap (λ b. cond {A = Option ℕ} b (Some 1) (find key_cmp q (reported_entries ms))) (not_tied q (reported_key m) (kind_differs q (reported_key m) e)) ∙ no_reported q e ms

no_counts : (q : Key) → nat_eq q.what 2 ≡ false → (a : ℕ) (es : Table) → find key_cmp q (count_entries a es) ≡ None
no_counts q e a [] = refl
no_counts q e a (x ∷ es) = elim (nat_eq x.0.job a) as (λ b. find key_cmp q (map (λ e. (count_key e.0.unit e.0.machine, e.1)) (cond b (x ∷ filter (λ e. nat_eq e.0.job a) es) (filter (λ e. nat_eq e.0.job a) es))) ≡ None) [
  | true ↦ ap (λ b. cond b (Some x.1) (find key_cmp q (count_entries a es))) (not_tied q (count_key x.0.unit x.0.machine) (kind_differs q (count_key x.0.unit x.0.machine) e)) ∙ no_counts q e a es
  | false ↦ no_counts q e a es
]

-- a count of the grants is the count of the table
one_count : (a u m : ℕ) (e : Spot × ℕ) (es : Table) → find key_cmp (count_key u m) (count_entries a es) ≡ find spot_cmp (spot a u m) es
    → find key_cmp (count_key u m) (count_entries a (e ∷ es)) ≡ cond (eq_by_cmp spot_cmp (spot a u m) e.0) (Some e.1) (find spot_cmp (spot a u m) es)
one_count a u m e es rest = by (nat_eq e.0.job a) refl
  where
    apart : (d : Bool) → eq_by_cmp spot_cmp (spot a u m) e.0 ≡ d → nat_eq e.0.job a ≡ false → eq_by_cmp spot_cmp (spot a u m) e.0 ≡ false
    apart false d t = d
    apart true d t = let same : a ≡ e.0.job = ap (λ (s : Spot). s.job) (same_spot (spot a u m) e.0 (tied _ d)) in let yes : nat_eq e.0.job a ≡ true = grind (arith, nat_tests, same) in cc

    tests : nat_eq e.0.job a ≡ true → eq_by_cmp key_cmp (count_key u m) (count_key e.0.unit e.0.machine) ≡ eq_by_cmp spot_cmp (spot a u m) e.0
    tests t = same_tests _ _
        (λ k.
        let same : count_key u m ≡ count_key e.0.unit e.0.machine = same_key _ _ (tied _ k) in
        let j = number_is e.0.job a t in
        let x : u ≡ e.0.unit = ap (λ (q : Key). q.unit) same in
        let y : m ≡ e.0.machine = ap (λ (q : Key). q.number) same in
        let here : spot a u m ≡ e.0 = (λ i. record { job = sym j i; unit = x i; machine = y i }) in
        ap (λ s. eq_by_cmp spot_cmp (spot a u m) s) (sym here) ∙ ap is_eq (tied_itself spot_total (spot a u m)))
        (λ k.
        let here : spot a u m ≡ e.0 = same_spot (spot a u m) e.0 (tied _ k) in
        ap (λ (s : Spot). eq_by_cmp key_cmp (count_key u m) (count_key s.unit s.machine)) (sym here) ∙ ap is_eq (tied_itself key_total (count_key u m)))

    by : (b : Bool) → nat_eq e.0.job a ≡ b → find key_cmp (count_key u m) (map (λ e. (count_key e.0.unit e.0.machine, e.1)) (cond b (e ∷ filter (λ e. nat_eq e.0.job a) es) (filter (λ e. nat_eq e.0.job a) es))) ≡ cond (eq_by_cmp spot_cmp (spot a u m) e.0) (Some e.1) (find spot_cmp (spot a u m) es)
    by true t = ap (cond (eq_by_cmp key_cmp (count_key u m) (count_key e.0.unit e.0.machine)) (Some e.1)) rest ∙ ap (λ b. cond b (Some e.1) (find spot_cmp (spot a u m) es)) (tests t)
    by false t = rest ∙ sym (ap (λ b. cond b (Some e.1) (find spot_cmp (spot a u m) es)) (apart (eq_by_cmp spot_cmp (spot a u m) e.0) refl t))

counts_found : (a u m : ℕ) (es : Table) → find key_cmp (count_key u m) (count_entries a es) ≡ find spot_cmp (spot a u m) es
counts_found a u m [] = refl
counts_found a u m (e ∷ es) = one_count a u m e es (counts_found a u m es)

-- what is credited in the grants of a job
pub credits_in_grants : (M : Master) (boot a u m : ℕ) → at_key (grants M boot a) (credited_key u m) ≡ count key_cmp (credited_of M a) (credited_key u m)
credits_in_grants M boot a u m = ap (λ o. unwrap_or o 0)
    (find_behind key_cmp (credited_key u m) (reported_entries M.reported) (count_entries a M.table ++ credited_of M a) (no_reported (credited_key u m) refl M.reported)
    ∙ find_behind key_cmp (credited_key u m) (count_entries a M.table) (credited_of M a) (no_counts (credited_key u m) refl a M.table))

-- what the grants of a job say
module _ (M : Master) (boot a : ℕ) (h : IsInOrder M) where
  pub grants_counts : (u m : ℕ) → at_key (grants M boot a) (count_key u m) ≡ held_on M.table a u m
  grants_counts u m = ap (λ o. unwrap_or o 0)
      (find_behind key_cmp (count_key u m) (reported_entries M.reported) (count_entries a M.table ++ credited_of M a) (no_reported (count_key u m) refl M.reported)
      ∙ find_front key_cmp (count_key u m) (count_entries a M.table) (credited_of M a) (h.plain a u m) ∙ counts_found a u m M.table)

  -- the credits of the grants are those of the master
  pub grants_credits : (u m : ℕ) → at_key (grants M boot a) (credited_key u m) ≡ count key_cmp (credited_of M a) (credited_key u m)
  grants_credits u m = credits_in_grants M boot a u m

-- a job that has ended has nothing on any machine
pub nothing_held : (M : Master) (a u m : ℕ) → IsInOrder M → is_live M.jobs a ≡ false → held_on M.table a u m ≡ 0
nothing_held M a u m h dead = by (nat_lt 0 (held_on M.table a u m)) refl
  where
    by : (b : Bool) → nat_lt 0 (held_on M.table a u m) ≡ b → held_on M.table a u m ≡ 0
    by false t = grind (arith, nat_tests, t)
    by true t = let some : 0 < held_on M.table a u m = grind (arith, nat_tests, t) in let yes : is_live M.jobs a ≡ true = live_found M.jobs (spot a u m) M.table some h.alive in absurd (let f : ⊥ = cc in f)

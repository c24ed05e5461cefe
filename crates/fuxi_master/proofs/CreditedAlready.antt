-- What a demand gives back is credited once it was heard, so that nothing is new where no change of it is of that.
use Rattle.std.proofs.Common.{◌≡◌, ℕ, ◌-◌, min, ◌≤◌, Bool, true, false, cond, nat_lt, T, List, [], ◌∷◌, map, filter, Some, refl, sym, ◌∙◌, ap, subst, arith, length}
use Rattle.std.specs.Prelude.{ℤ, ◌&&◌, ◌||◌}
use Rattle.std.specs.List.{AllByRecursion, list_any}
use Rattle.std.specs.Option.{unwrap_or}
use Rattle.std.specs.Ordering.{eq_by_cmp, is_eq, is_lt}
use Rattle.std.specs.Cmp.{tied_itself}
use Rattle.std.specs.declared.cmp.Ordering.TheVariants.{Less, Equal}
use Rattle.std.specs.FinMap.Entries.{below_all, find, find-put, is_sorted, put, where_key}
use Rattle.std.proofs.lemmas.Bool.Decides.{nat_tests}
use Rattle.fuxi_terms.specs.declared.Key.{Key}
use Rattle.fuxi_terms.specs.Cluster.{ClusterRecord, has_machine}
use Rattle.fuxi_terms.specs.Counts.{count, set_count, AreCounts}
use Rattle.fuxi_terms.specs.Jobs.{unit_count}
use Rattle.fuxi_terms.specs.Keys.{key_cmp, spot_cmp}
use Rattle.fuxi_terms.specs.Limits.{greatest_count}
use Rattle.fuxi_terms.specs.TallyKeys.{back_key, credited_key, is_back}
use Rattle.fuxi_terms.specs.Tables.{spot, Table}
use Rattle.fuxi_terms.proofs.Booleans.{both_false, both_true}
use Rattle.fuxi_terms.proofs.CountsLemmas.{both_true as both_hold, lesser, tied}
use Rattle.fuxi_terms.proofs.KeyOrders.{key_total, same_key, spot_total, same_spot}
use Rattle.fuxi_terms.proofs.NumbersSetLemmas.{set_same}
use Rattle.spec_roles.specs.MasterSteps.{is_there, credit, raise_credited}
use Rattle.grant_table.specs.GrantTables.{as_known}
use Rattle.place_pass.specs.Placers.{is_named}
use Rattle.allotment.specs.Allotted.{AllotmentRecord, Allots, AllWait, CreditsBack, is_new_back, newly_credited}
use Rattle.fuxi_master.specs.ToldAsHeard.{ToldButAt}
use Rattle.fuxi_master.proofs.NewlyCredited.{back_there, entry_of}
use Rattle.fuxi_master.proofs.Projected.{units_alike}

-- ---- what is given back is raised: no number that is credited falls, and each is what is given back at least
put_count : (cs : List (Key × ℕ)) (k q : Key) (v : ℕ) → count key_cmp (put key_cmp q v cs) k ≡ cond (eq_by_cmp key_cmp k q) v (count key_cmp cs k)
put_count cs k q v = ap (λ o. unwrap_or o 0) (find-put key_cmp key_total k q v cs) ∙ by (eq_by_cmp key_cmp k q)
  where
    by : (b : Bool) → unwrap_or (cond b (Some v) (find key_cmp k cs)) 0 ≡ cond b v (count key_cmp cs k)
    by true = refl
    by false = refl

abbrev raised_once : List (Key × ℕ) → Key × ℕ → List (Key × ℕ)
raised_once cs e = cond (is_back e.0 && nat_lt (count key_cmp cs (credited_key e.0.unit e.0.number)) e.1) (put key_cmp (credited_key e.0.unit e.0.number) e.1 cs) cs

once_grows : (cs : List (Key × ℕ)) (e : Key × ℕ) (k : Key) → count key_cmp cs k ≤ count key_cmp (raised_once cs e) k
once_grows cs e k = by (is_back e.0) (nat_lt (count key_cmp cs (credited_key e.0.unit e.0.number)) e.1) refl
  where
    put_grows : (b : Bool) → eq_by_cmp key_cmp k (credited_key e.0.unit e.0.number) ≡ b → nat_lt (count key_cmp cs (credited_key e.0.unit e.0.number)) e.1 ≡ true → count key_cmp cs k ≤ cond b e.1 (count key_cmp cs k)
    put_grows true t less =
        let same = ap (count key_cmp cs) (same_key k (credited_key e.0.unit e.0.number) (tied _ t)) in
        grind (arith, nat_tests, same, less)
    put_grows false t less = omega arith

    by : (x y : Bool) → nat_lt (count key_cmp cs (credited_key e.0.unit e.0.number)) e.1 ≡ y → count key_cmp cs k ≤ count key_cmp (cond (x && y) (put key_cmp (credited_key e.0.unit e.0.number) e.1 cs) cs) k
    by true true less = subst (λ n. count key_cmp cs k ≤ n) (sym (put_count cs k (credited_key e.0.unit e.0.number) e.1)) (put_grows (eq_by_cmp key_cmp k (credited_key e.0.unit e.0.number)) refl less)
    by true false less = omega arith
    by false y less = omega arith

raised_grows : (cs es : List (Key × ℕ)) (k : Key) → count key_cmp cs k ≤ count key_cmp (raise_credited cs es) k
raised_grows cs [] k = omega arith
raised_grows cs (e ∷ es) k = let one = once_grows cs e k in let rest = raised_grows (raised_once cs e) es k in omega (arith, one, rest)

once_covers : (cs : List (Key × ℕ)) (u m n : ℕ) → n ≤ count key_cmp (raised_once cs (back_key u m, n)) (credited_key u m)
once_covers cs u m n = by (nat_lt (count key_cmp cs (credited_key u m)) n) refl
  where
    by : (b : Bool) → nat_lt (count key_cmp cs (credited_key u m)) n ≡ b → n ≤ count key_cmp (cond b (put key_cmp (credited_key u m) n cs) cs) (credited_key u m)
    by true t =
        let is = put_count cs (credited_key u m) (credited_key u m) n ∙ ap (λ r. cond (is_eq r) n (count key_cmp cs (credited_key u m))) (tied_itself key_total (credited_key u m)) in
        omega (arith, is)
    by false t = grind (arith, nat_tests, t)

pub raised_covers : (cs es : List (Key × ℕ)) (u m : ℕ) → count key_cmp es (back_key u m) ≤ count key_cmp (raise_credited cs es) (credited_key u m)
raised_covers cs [] u m = omega arith
raised_covers cs (e ∷ es) u m = by (eq_by_cmp key_cmp (back_key u m) e.0) refl (raised_covers (raised_once cs e) es u m)
  where
    by : (b : Bool) → eq_by_cmp key_cmp (back_key u m) e.0 ≡ b → count key_cmp es (back_key u m) ≤ count key_cmp (raise_credited (raised_once cs e) es) (credited_key u m)
        → unwrap_or (cond b (Some e.1) (find key_cmp (back_key u m) es)) 0 ≤ count key_cmp (raise_credited (raised_once cs e) es) (credited_key u m)
    by true t _ =
        let same : back_key u m ≡ e.0 = same_key (back_key u m) e.0 (tied _ t) in
        let here : e.1 ≤ count key_cmp (raised_once cs e) (credited_key u m) = subst (λ (k : Key). e.1 ≤ count key_cmp (raised_once cs (k, e.1)) (credited_key u m)) same (once_covers cs u m e.1) in
        let rest = raised_grows (raised_once cs e) es (credited_key u m) in
        omega (arith, here, rest)
    by false t rest = rest

-- ---- of keys that rise each is found with its number
found_later : (e : Key × ℕ) (es xs : List (Key × ℕ)) → T (below_all key_cmp e.0 xs) → AllByRecursion (λ (q : Key × ℕ). count key_cmp es q.0 ≡ q.1) xs → AllByRecursion (λ (q : Key × ℕ). count key_cmp (e ∷ es) q.0 ≡ q.1) xs
found_later e es [] b h = tt
found_later e es (x ∷ xs) b h =
    let parts = both_hold (is_lt (key_cmp e.0 x.0)) (below_all key_cmp e.0 xs) b in
    (by (eq_by_cmp key_cmp x.0 e.0) refl (lesser _ parts.0) ∙ h.0, found_later e es xs parts.1 h.1)
  where
    by : (t : Bool) → eq_by_cmp key_cmp x.0 e.0 ≡ t → key_cmp e.0 x.0 ≡ Less → count key_cmp (e ∷ es) x.0 ≡ count key_cmp es x.0
    by true t less =
        let same = same_key x.0 e.0 (tied _ t) in
        absurd (let equal : Equal ≡ Less = sym (tied_itself key_total e.0) ∙ ap (key_cmp e.0) (sym same) ∙ less in cc)
    by false t less = ap (λ b. unwrap_or (cond b (Some e.1) (find key_cmp x.0 es)) 0) t

each_found : (es : List (Key × ℕ)) → T (is_sorted key_cmp es) → AllByRecursion (λ (e : Key × ℕ). count key_cmp es e.0 ≡ e.1) es
each_found [] s = tt
each_found (e ∷ es) s =
    let parts = both_hold (below_all key_cmp e.0 es) (is_sorted key_cmp es) s in
    (ap (λ r. unwrap_or (cond (is_eq r) (Some e.1) (find key_cmp e.0 es)) 0) (tied_itself key_total e.0), found_later e es es parts.0 (each_found es parts.1))

-- ---- entries of which all that is given back is credited
abbrev IsPaid : ClusterRecord → ℕ → List (Key × ℕ) → Key × ℕ → Type 0
IsPaid c units given e = is_back e.0 ≡ true → nat_lt e.0.unit units ≡ true → has_machine c e.0.number ≡ true → e.1 ≤ count key_cmp given (credited_key e.0.unit e.0.number)

none_new : (c : ClusterRecord) (units : ℕ) (given es : List (Key × ℕ)) → AllByRecursion (IsPaid c units given) es → newly_credited c units given es ≡ []
none_new c units given [] h = refl
none_new c units given (e ∷ es) h =
    ap (λ b. map entry_of (cond b (e ∷ filter (is_new_back c units given) es) (filter (is_new_back c units given) es))) (by (is_back e.0) (nat_lt e.0.unit units) (has_machine c e.0.number) (nat_lt (count key_cmp given (credited_key e.0.unit e.0.number)) e.1) refl h.0)
    ∙ none_new c units given es h.1
  where
    by : (x y z w : Bool) → nat_lt (count key_cmp given (credited_key e.0.unit e.0.number)) e.1 ≡ w → (x ≡ true → y ≡ true → z ≡ true → e.1 ≤ count key_cmp given (credited_key e.0.unit e.0.number)) → (x && (y && (z && w))) ≡ false
    by true true true true t p = let le = p refl refl refl in let f : nat_lt (count key_cmp given (credited_key e.0.unit e.0.number)) e.1 ≡ false = grind (arith, nat_tests, le) in sym t ∙ f
    by true true true false t p = refl
    by true true false w t p = refl
    by true false z w t p = refl
    by false y z w t p = refl

paid_stays : (a : ℕ) (c : ClusterRecord) (units : ℕ) (cs given es : List (Key × ℕ)) (table : Table) → AreCounts spot_cmp (λ s. greatest_count) table
    → ((u m : ℕ) → count key_cmp cs (credited_key u m) ≡ count key_cmp given (credited_key u m)) → AllByRecursion (IsPaid c units given) es → credit a cs (where_key key_cmp (is_there c units) es) table ≡ table
paid_stays a c units cs given [] table counts agree h = refl
paid_stays a c units cs given (e ∷ es) table counts agree h = elim (is_there c units e.0) as (λ t. is_there c units e.0 ≡ t → credit a cs (cond t (e ∷ where_key key_cmp (is_there c units) es) (where_key key_cmp (is_there c units) es)) table ≡ table) [
  | true ↦ λ there. ap (credit a cs (where_key key_cmp (is_there c units) es)) (by (is_back e.0) refl there) ∙ paid_stays a c units cs given es table counts agree h.1
  | false ↦ λ _. paid_stays a c units cs given es table counts agree h.1
] refl
  where
    by : (b : Bool) → is_back e.0 ≡ b → is_there c units e.0 ≡ true
        → cond b (set_count spot_cmp table (spot a e.0.unit e.0.number) (count spot_cmp table (spot a e.0.unit e.0.number) - min (e.1 - count key_cmp cs (credited_key e.0.unit e.0.number)) (count spot_cmp table (spot a e.0.unit e.0.number)))) table ≡ table
    by false back there = refl
    by true back there =
        let s = spot a e.0.unit e.0.number in
        let parts = both_true (nat_lt e.0.unit units) (has_machine c e.0.number) (sym (back_there c units e.0 back) ∙ there) in
        let paid = h.0 back parts.0 parts.1 in
        let shown = agree e.0.unit e.0.number in
        let level : count spot_cmp table s - min (e.1 - count key_cmp cs (credited_key e.0.unit e.0.number)) (count spot_cmp table s) ≡ count spot_cmp table s = omega (arith, paid, shown) in
        ap (set_count spot_cmp table s) level ∙ set_same spot_total same_spot (λ s. greatest_count) table s counts

-- ---- a demand that was told: what no change names is credited
unnamed : (k : Key) (cs : List (Key × ℤ)) → is_back k ≡ true → list_any (λ (c : Key × ℤ). is_back c.0) cs ≡ false → is_named k cs ≡ false
unnamed k [] back none = refl
unnamed k (c ∷ cs) back none =
    let parts = both_false (is_back c.0) (list_any (λ (c : Key × ℤ). is_back c.0) cs) none in
    ap (λ b. b || is_named k cs) (by (eq_by_cmp key_cmp k c.0) refl parts.0) ∙ unnamed k cs back parts.1
  where
    by : (b : Bool) → eq_by_cmp key_cmp k c.0 ≡ b → is_back c.0 ≡ false → eq_by_cmp key_cmp k c.0 ≡ false
    by true t off = absurd (let f : true ≡ false = sym back ∙ ap is_back (same_key k c.0 (tied _ t)) ∙ off in cc)
    by false t off = t

module _ (cs : List (Key × ℤ)) (a : ℕ) (es given : List (Key × ℕ)) (x : AllotmentRecord) (told : ToldButAt cs a es given x) (sorted : T (is_sorted key_cmp es)) (none : list_any (λ (c : Key × ℤ). is_back c.0) cs ≡ false) where
  all_paid : AllByRecursion (IsPaid x.table.cluster (unit_count (as_known x.table.jobs) a) given) es
  all_paid = each es (each_found es sorted)
    where
      each : (qs : List (Key × ℕ)) → AllByRecursion (λ (e : Key × ℕ). count key_cmp es e.0 ≡ e.1) qs → AllByRecursion (IsPaid x.table.cluster (unit_count (as_known x.table.jobs) a) given) qs
      each [] h = tt
      each (q ∷ qs) h = ((λ back unit machine. subst (λ n. n ≤ count key_cmp given (credited_key q.0.unit q.0.number)) h.0 (told.credits q.0 (unnamed q.0 cs back none) back unit machine)), each qs h.1)

  pub nothing_new : newly_credited x.table.cluster (unit_count (as_known x.table.jobs) a) given es ≡ []
  nothing_new = none_new x.table.cluster (unit_count (as_known x.table.jobs) a) given es all_paid

  pub credited_already : AllWait x → AreCounts spot_cmp (λ s. greatest_count) x.table.entries → CreditsBack a es given x x
  credited_already waits counts = record {
    stands = λ c M credited h agree.
        let units = units_alike (as_known x.table.jobs) M.jobs h.placing.jobs a in
        let paid = subst (λ (k : ClusterRecord). AllByRecursion (IsPaid k (unit_count M.jobs a) given) es) h.placing.cluster (subst (λ n. AllByRecursion (IsPaid x.table.cluster n given) es) (ap length units) all_paid) in
        subst (λ t. Allots x c (record M { table = t })) (sym (paid_stays a c (unit_count M.jobs a) credited given es M.table (subst (AreCounts spot_cmp (λ s. greatest_count)) h.placing.entries counts) agree paid)) h;
    waits = waits;
    touches = record { spots = record { kept = λ s e. e; others = λ s f. refl }; turns = refl };
    table = refl;
  }

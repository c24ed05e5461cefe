-- What is given back is taken, entry by entry.
use Rattle.std.proofs.Common.{◌≡◌, ℕ, ◌+◌, ◌-◌, ◌<◌, ◌≤◌, min, Bool, true, false, cond, nat_eq, nat_lt, List, [], ◌∷◌, ◌++◌, length, filter, take, Some, slice_get, refl, sym, ◌∙◌, ap, subst, arith}
use Rattle.std.specs.Prelude.{◌&&◌, ◌||◌}
use Rattle.std.specs.FinMap.Entries.{where_key}
use Rattle.std.proofs.lemmas.Bool.Decides.{nat_tests}
use Rattle.std.proofs.lemmas.List.Elements.{filter-append}
use Rattle.fuxi_terms.specs.Cluster.{ClusterRecord, has_rack, has_machine}
use Rattle.fuxi_terms.specs.declared.Key.{Key}
use Rattle.fuxi_terms.specs.Counts.{AreCounts, count, set_count}
use Rattle.fuxi_terms.specs.Limits.{greatest_count}
use Rattle.fuxi_terms.specs.Jobs.{unit_count}
use Rattle.fuxi_terms.specs.Keys.{key_cmp, spot_cmp}
use Rattle.fuxi_terms.specs.TallyKeys.{credited_key, is_back}
use Rattle.fuxi_terms.specs.Tables.{spot, held_on, Table}
use Rattle.fuxi_terms.proofs.Booleans.{and_true, both_true, number_is}
use Rattle.fuxi_terms.proofs.Lists.{take_last}
use Rattle.spec_roles.specs.Masters.{Master}
use Rattle.spec_roles.specs.MasterSteps.{credit, is_there}
use Rattle.grant_table.specs.GrantTables.{TableRecord, as_known, without_count}
use Rattle.allotment.specs.Allotted.{AllotmentRecord, Allots, AllWait, Touches, CreditsBack}
use Rattle.allotment.proofs.AskedStands.{same_units}
use Rattle.allotment.proofs.ClearsLemmas.{touched_again, untouched}
use Rattle.allotment.proofs.OnlyTakesLemmas.{none_fewer}

credit_behind : (a : ℕ) (cs es fs : List (Key × ℕ)) (t : Table) → credit a cs (es ++ fs) t ≡ credit a cs fs (credit a cs es t)
credit_behind a cs [] fs t = refl
credit_behind a cs (e ∷ es) fs t = credit_behind a cs es fs _

pub credits_more : (a : ℕ) (es g : List (Key × ℕ)) (i : ℕ) (e : Key × ℕ) (x y z : AllotmentRecord) → slice_get es i ≡ Some e → CreditsBack a (take i es) g x y → CreditsBack a (e ∷ []) g y z → CreditsBack a (take (i + 1) es) g x z
credits_more a es g i e x y z at before last = record {
  stands = λ c M cs h agree.
      let p : Key × ℕ → Bool = λ f. is_there c (unit_count M.jobs a) f.0 in
      let all : filter p (take (i + 1) es) ≡ filter p (take i es) ++ filter p (e ∷ []) = ap (filter p) (take_last es i e at) ∙ filter-append p (take i es) (e ∷ []) in
      subst (λ t. Allots z c (record M { table = t })) (sym (ap (λ fs. credit a cs fs M.table) all ∙ credit_behind a cs (filter p (take i es)) (filter p (e ∷ [])) M.table))
      (last.stands c (record M { table = credit a cs (filter p (take i es)) M.table }) cs (before.stands c M cs h agree) agree);
  waits = last.waits;
  touches = touched_again x y z before.touches last.touches;
  table = last.table ∙ ap (λ (t : TableRecord). record t { entries = z.table.entries }) before.table;
}

-- one entry, of a unit and a machine that are there
module _ (a : ℕ) (g : List (Key × ℕ)) (k : Key) (n taken : ℕ) (x y : AllotmentRecord) (back : k.what ≡ 5) (unit : k.unit < unit_count (as_known x.table.jobs) a) (machine : k.number < length x.table.cluster.machines)
    (fewer : taken ≡ min (n - count key_cmp g (credited_key k.unit k.number)) (held_on x.table.entries a k.unit k.number)) where
  module _ (c : ClusterRecord) (M : Master) (cs : List (Key × ℕ)) (h : Allots x c M) (agree : (u m : ℕ) → count key_cmp cs (credited_key u m) ≡ count key_cmp g (credited_key u m)) where
    there : is_there c (unit_count M.jobs a) k ≡ true
    there =
        let units = same_units (as_known x.table.jobs) M.jobs a (h.placing.jobs a) in
        let u : nat_lt k.unit (unit_count M.jobs a) ≡ true = grind (arith, nat_tests, unit, units) in
        let machines : length x.table.cluster.machines ≡ length c.machines = ap (λ (d : ClusterRecord). length d.machines) h.placing.cluster in
        let m : nat_lt k.number (length c.machines) ≡ true = grind (arith, nat_tests, machine, machines) in
        (λ i. nat_lt k.unit (unit_count M.jobs a) && (nat_eq (back i) 1 || cond (nat_eq (back i) 3) (has_rack c k.number) (has_machine c k.number))) ∙ and_true _ _ u m

    same : min (n - count key_cmp cs (credited_key k.unit k.number)) (count spot_cmp M.table (spot a k.unit k.number)) ≡ taken
    same = (λ i. min (n - agree k.unit k.number i) (count spot_cmp (sym h.placing.entries i) (spot a k.unit k.number))) ∙ sym fewer

    lost : credit a cs (filter (λ f. is_there c (unit_count M.jobs a) f.0) ((k, n) ∷ [])) M.table ≡ without_count M.table (spot a k.unit k.number) taken
    lost =
        let s = spot a k.unit k.number in
        ap (λ b. credit a cs (cond b ((k, n) ∷ []) []) M.table) there
        ∙ (λ i. cond (nat_eq (back i) 5) (set_count spot_cmp M.table s (count spot_cmp M.table s - same i)) M.table)

  pub credits_taken : ((c : ClusterRecord) (M : Master) → Allots x c M → Allots y c (record M { table = without_count M.table (spot a k.unit k.number) taken })) → AllWait y → Touches x y
      → y.table ≡ record x.table { entries = without_count x.table.entries (spot a k.unit k.number) taken } → CreditsBack a ((k, n) ∷ []) g x y
  credits_taken stands waits touches table = record {
    stands = λ c M cs h agree. subst (λ t. Allots y c (record M { table = t })) (sym (lost c M cs h agree)) (stands c M h);
    waits = waits;
    touches = touches;
    table = table ∙ ap (λ es. record x.table { entries = es }) (sym (ap (λ (t : TableRecord). t.entries) table));
  }

-- one entry of which all is credited
pub credits_level : (a : ℕ) (g : List (Key × ℕ)) (k : Key) (n : ℕ) (x : AllotmentRecord) → k.what ≡ 5 → k.unit < unit_count (as_known x.table.jobs) a → k.number < length x.table.cluster.machines → n ≤ count key_cmp g (credited_key k.unit k.number)
    → AllWait x → AreCounts spot_cmp (λ s. greatest_count) x.table.entries → CreditsBack a ((k, n) ∷ []) g x x
credits_level a g k n x back unit machine le w counts =
    let s = spot a k.unit k.number in
    let none = none_fewer x.table.entries s 0 counts refl in
    let level : n - count key_cmp g (credited_key k.unit k.number) ≡ 0 = omega (arith, le) in
    credits_taken a g k n 0 x x back unit machine (zero_least (held_on x.table.entries a k.unit k.number) ∙ sym (ap (λ l. min l (held_on x.table.entries a k.unit k.number)) level))
    (λ c M h. subst (λ t. Allots x c (record M { table = t })) (sym (ap (λ t. without_count t s 0) (sym h.placing.entries) ∙ none ∙ h.placing.entries)) h) w (untouched x) (ap (λ es. record x.table { entries = es }) (sym none))
  where
    zero_least : (m : ℕ) → 0 ≡ min 0 m
    zero_least m = omega arith

-- one entry, of a unit or a machine that is not there
pub credits_passed : (a : ℕ) (g : List (Key × ℕ)) (k : Key) (n : ℕ) (x : AllotmentRecord) → AllWait x → (nat_lt k.unit (unit_count (as_known x.table.jobs) a) && nat_lt k.number (length x.table.cluster.machines)) ≡ false → CreditsBack a ((k, n) ∷ []) g x x
credits_passed a g k n x w out = record {
  stands = λ c M cs h agree. subst (λ t. Allots x c (record M { table = t })) (sym (same c M cs h)) h;
  waits = w;
  touches = untouched x;
  table = refl;
}
  where
    none : (b : Bool) (t u : Table) → b ≡ false → cond b t u ≡ u
    none true t u e = cc
    none false t u e = refl

    same : (c : ClusterRecord) (M : Master) (cs : List (Key × ℕ)) → Allots x c M → credit a cs (filter (λ f. is_there c (unit_count M.jobs a) f.0) ((k, n) ∷ [])) M.table ≡ M.table
    same c M cs h = elim (is_there c (unit_count M.jobs a) k) as (λ b. is_there c (unit_count M.jobs a) k ≡ b → credit a cs (cond b ((k, n) ∷ []) []) M.table ≡ M.table) [
      | true ↦ λ t.
          let s = spot a k.unit k.number in
          none (nat_eq k.what 5) (set_count spot_cmp M.table s (count spot_cmp M.table s - min (n - count key_cmp cs (credited_key k.unit k.number)) (count spot_cmp M.table s))) M.table
          (elim (nat_eq k.what 5) as (λ b. nat_eq k.what 5 ≡ b → b ≡ false) [
            | true ↦ λ e.
                let units = same_units (as_known x.table.jobs) M.jobs a (h.placing.jobs a) in
                let machines : length x.table.cluster.machines ≡ length c.machines = ap (λ (d : ClusterRecord). length d.machines) h.placing.cluster in
                let both = both_true (nat_lt k.unit (unit_count M.jobs a)) _ t in
                let first = both.0 in
                let last : has_machine c k.number ≡ true = subst (λ w. (nat_eq w 1 || cond (nat_eq w 3) (has_rack c k.number) (has_machine c k.number)) ≡ true) (number_is k.what 5 e) both.1 in
                let u : nat_lt k.unit (unit_count (as_known x.table.jobs) a) ≡ true = grind (arith, nat_tests, first, units) in
                let m : nat_lt k.number (length x.table.cluster.machines) ≡ true = grind (arith, nat_tests, last, machines) in
                sym (and_true _ _ u m) ∙ out
            | false ↦ λ _. refl
          ] refl)
      | false ↦ λ _. refl
    ] refl

-- what gives nothing back plays no part, nor do grants that say the same of what is credited
pub credits_alone : (a : ℕ) (es shown given : List (Key × ℕ)) (x y : AllotmentRecord) → ((u m : ℕ) → count key_cmp shown (credited_key u m) ≡ count key_cmp given (credited_key u m)) → CreditsBack a (where_key key_cmp is_back es) shown x y → CreditsBack a es given x y
credits_alone a es shown given x y same h = record {
  stands = λ c M cs stands agree. subst (λ t. Allots y c (record M { table = t })) (alone c (unit_count M.jobs a) cs es M.table) (h.stands c M cs stands (λ u m. agree u m ∙ sym (same u m)));
  waits = h.waits;
  touches = h.touches;
  table = h.table;
}
  where
    alone : (c : ClusterRecord) (units : ℕ) (cs es : List (Key × ℕ)) (t : Table) → credit a cs (filter (λ f. is_there c units f.0) (where_key key_cmp is_back es)) t ≡ credit a cs (filter (λ f. is_there c units f.0) es) t
    alone c units cs [] t = refl
    alone c units cs (e ∷ es) t =
        let s = spot a e.0.unit e.0.number in
        let lost = set_count spot_cmp t s (count spot_cmp t s - min (e.1 - count key_cmp cs (credited_key e.0.unit e.0.number)) (count spot_cmp t s)) in
        let p : Key × ℕ → Bool = λ f. is_there c units f.0 in
        let backs = where_key key_cmp is_back es in
        elim (is_there c units e.0) as (λ q. is_there c units e.0 ≡ q → credit a cs (filter p (cond (is_back e.0) (e ∷ backs) backs)) t ≡ credit a cs (cond q (e ∷ filter p es) (filter p es)) t) [
          | true ↦ λ q. elim (is_back e.0) as (λ b. is_back e.0 ≡ b → credit a cs (filter p (cond b (e ∷ backs) backs)) t ≡ credit a cs (filter p es) (cond b lost t)) [
            | true ↦ λ b. ap (λ r. credit a cs (cond r (e ∷ filter p backs) (filter p backs)) t) q ∙ ap (λ r. credit a cs (filter p backs) (cond r lost t)) b ∙ alone c units cs es lost
            | false ↦ λ b. alone c units cs es t
          ] refl
          | false ↦ λ q. elim (is_back e.0) as (λ b. credit a cs (filter p (cond b (e ∷ backs) backs)) t ≡ credit a cs (filter p es) t) [
            | true ↦ ap (λ r. credit a cs (cond r (e ∷ filter p backs) (filter p backs)) t) q ∙ alone c units cs es t
            | false ↦ alone c units cs es t
          ]
        ] refl

-- Victims are taken one after the other.
use Rattle.std.proofs.Common.{◌≡◌, ℕ, zero, suc, ◌+◌, ◌<◌, ◌≤◌, Bool, true, false, nat_eq, List, [], ◌∷◌, ◌++◌, take, refl, sym, ◌∙◌, ap, subst, arith}
use Rattle.std.specs.Prelude.{Some, slice_get}
use Rattle.std.specs.List.{AllByRecursion, IsDistinct}
use Rattle.std.proofs.lemmas.Bool.Decides.{nat_tests}
use Rattle.fuxi_terms.specs.Cluster.{ClusterRecord}
use Rattle.fuxi_terms.specs.Jobs.{unit_count}
use Rattle.fuxi_terms.specs.Tables.{spot, held_on, Table}
use Rattle.fuxi_terms.proofs.Booleans.{both_true, and_true}
use Rattle.fuxi_terms.proofs.Lists.{all_at, take_last}
use Rattle.spec_roles.specs.Masters.{Master}
use Rattle.grant_table.specs.GrantTables.{TableRecord, as_known, without_count}
use Rattle.preempt.specs.declared.plan.Victim.{Victim}
use Rattle.preempt.specs.Plans.{without_victims, is_unit, same_unit, IsTakable, AreTakable}
use Rattle.allotment.specs.Allotted.{AllotmentRecord, Allots, AllWait, Touches, TakesVictims}
use Rattle.allotment.proofs.ClearsLemmas.{touched_again, untouched}

behind : (vs : List Victim) (es : Table) (m : ℕ) (v : Victim) → without_victims es m (vs ++ v ∷ []) ≡ without_count (without_victims es m vs) (spot v.app.0 v.unit.0 m) v.count
behind [] es m v = refl
behind (w ∷ ws) es m v = behind ws (without_count es (spot w.app.0 w.unit.0 m) w.count) m v

pub one_more : (vs : List Victim) (es : Table) (m i : ℕ) (v : Victim) → slice_get vs i ≡ Some v → without_victims es m (take (i + 1) vs) ≡ without_count (without_victims es m (take i vs)) (spot v.app.0 v.unit.0 m) v.count
one_more vs es m i v e = ap (without_victims es m) (take_last vs i v e) ∙ behind (take i vs) es m v

turned : (v w : Victim) → same_unit w v ≡ false → is_unit v.app.0 v.unit.0 w ≡ false
turned v w f = by (is_unit v.app.0 v.unit.0 w) refl
  where
    by : (b : Bool) → is_unit v.app.0 v.unit.0 w ≡ b → is_unit v.app.0 v.unit.0 w ≡ false
    by false e = e
    by true e =
        let p = both_true (nat_eq w.app.0 v.app.0) (nat_eq w.unit.0 v.unit.0) e in
        let x = p.0 in let y = p.1 in
        let t : same_unit w v ≡ true = and_true (nat_eq v.app.0 w.app.0) (nat_eq v.unit.0 w.unit.0) (grind (arith, nat_tests, x)) (grind (arith, nat_tests, y)) in
        absurd (let z : ⊥ = cc in z)

pub apart_before : (vs : List Victim) (i : ℕ) (v : Victim) → IsDistinct same_unit vs → slice_get vs i ≡ Some v → AllByRecursion (λ w. is_unit v.app.0 v.unit.0 w ≡ false) (take i vs)
unfolding IsDistinct
apart_before [] i v d e = cc
apart_before (w ∷ ws) zero v d e = tt
apart_before (w ∷ ws) (suc i) v d e = (turned v w (all_at (λ y. same_unit w y ≡ false) ws i v d.0 e), apart_before ws i v d.1 e)

-- nothing is taken yet
pub takes_none : (m : ℕ) (x : AllotmentRecord) → AllWait x → TakesVictims m [] x x
takes_none m x w = record { stands = λ c M h. h; waits = w; touches = untouched x; table = refl }

abbrev pub OthersLaw : Type 0
OthersLaw = (es : Table) (m n a u : ℕ) (vs : List Victim) → AllByRecursion (λ v. is_unit a u v ≡ false) vs → held_on (without_victims es m vs) a u n ≡ held_on es a u n

module _ (law : OthersLaw) (m : ℕ) (vs : List Victim) (x y : AllotmentRecord) (i : ℕ) (v : Victim) (takable : AreTakable x.table m vs) (at : slice_get vs i ≡ Some v) (before : TakesVictims m (take i vs) x y) where
  takes_it : IsTakable x.table m v
  takes_it = all_at (IsTakable x.table m) vs i v takable.each at

  pub unit_there : v.unit.0 < unit_count (as_known y.table.jobs) v.app.0
  unit_there = let u = takes_it.unit in let e = ap (λ (t : TableRecord). unit_count (as_known t.jobs) v.app.0) before.table in omega (arith, u, e)

  pub still_held : v.count ≤ held_on y.table.entries v.app.0 v.unit.0 m
  still_held =
      let h = takes_it.held in
      let e = ap (λ (t : TableRecord). held_on t.entries v.app.0 v.unit.0 m) before.table ∙ law x.table.entries m m v.app.0 v.unit.0 (take i vs) (apart_before vs i v takable.once at) in
      omega (arith, h, e)

  pub takes_more : (z : AllotmentRecord)
      → ((c : ClusterRecord) (M : Master) → Allots y c M → Allots z c (record M { table = without_count M.table (spot v.app.0 v.unit.0 m) v.count })) → AllWait z → Touches y z
      → z.table ≡ record y.table { entries = without_count y.table.entries (spot v.app.0 v.unit.0 m) v.count } → TakesVictims m (take (i + 1) vs) x z
  takes_more z stands waits touches table = record {
    stands = λ c M h. subst (λ es. Allots z c (record M { table = es })) (sym (one_more vs M.table m i v at)) (stands c (record M { table = without_victims M.table m (take i vs) }) (before.stands c M h));
    waits = waits;
    touches = touched_again x y z before.touches touches;
    table = table ∙ ap (λ (t : TableRecord). record t { entries = without_count t.entries (spot v.app.0 v.unit.0 m) v.count }) before.table ∙ ap (λ es. record x.table { entries = es }) (sym (one_more vs x.table.entries m i v at));
  }

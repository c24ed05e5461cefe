-- Where units that wait stand, of which a demand's changes are told one by one.
use Rattle.std.proofs.Common.{◌≡◌, ℕ, ◌<◌, ◌≤◌, true, false, nat_lt, List, [], length, get_or, set, refl, sym, ◌∙◌, ap, subst, arith, inl, inr}
use Rattle.std.proofs.lemmas.Bool.{cases_lt}
use Rattle.fuxi_terms.specs.Cluster.{ClusterRecord}
use Rattle.fuxi_terms.specs.declared.Key.{Key}
use Rattle.fuxi_terms.specs.Keys.{Pair}
use Rattle.fuxi_terms.proofs.Lists.{all_at}
use Rattle.spec_roles.specs.Placing.{has_pair}
use Rattle.place_pass.specs.Best.{AreAdmitted}
use Rattle.place_pass.proofs.CandidatesLemmas.{place_of}
use Rattle.fuxi_terms.specs.Tables.{Table, held_on, held_in}
use Rattle.fuxi_terms.specs.TallyKeys.{key, near_key, rack_key}
use Rattle.wait_queue.specs.declared.node.Entry.{Entry}
use Rattle.locality_tree.specs.Trees.{UnitState, TreeRecord, unit_at, unit_number, rack_place, place_count, with_stand}
use Rattle.place_pass.specs.Cells.{Cell, asks_in, taken_all}
use Rattle.place_pass.specs.declared.demand.scope.Scope.{Scope}
use Rattle.place_pass.specs.declared.demand.scope.Scope.TheVariants as scope
use Rattle.place_pass.proofs.AskedTheSame.{cell_alike, stands_alike}
use Rattle.place_pass.specs.PlacerTrees.{StandsAs, WaitsIn, is_unmet_on, is_unmet_in}
use Rattle.place_pass.specs.DemandScopes.{AsksWithin, StandsAt, StoodAt, StandsWithin}
use Rattle.place_pass.proofs.DemandScopesLemmas.{number_apart, taken_asks}
use Rattle.place_pass.proofs.PlacerTreesLemmas.{marked, marked_here, marked_apart, racks_long, restood_self}

-- a unit of the line is admitted
pub admitted_there : (cells : List (List Cell)) (line : List Pair) (a u : ℕ) → AreAdmitted cells line → has_pair (a, u) line ≡ true → u < length (get_or cells a [])
admitted_there cells line a u admitted has = let place = place_of (a, u) line has in all_at (λ (p : Pair). p.1 < length (get_or cells p.0 [])) line place.place (a, u) admitted place.at

-- the places of a unit that stands as it has to, and the other way round
pub stands_at : (c : ClusterRecord) (cells : List (List Cell)) (es : Table) (a u : ℕ) (t : TreeRecord) → StandsAs c cells es a u t → (k : Key) → k.unit ≡ u → StandsAt c cells es a k t
stands_at c cells es a u t h k q = subst (λ v. StandsAt c cells es a (key k.what v k.number) t) (sym q) (record { near = λ _ lt. h.near k.number lt; racks = λ _ lt. h.racks k.number lt })

pub stands_there : (c : ClusterRecord) (cells : List (List Cell)) (es : Table) (a u : ℕ) (t : TreeRecord) → ((k : Key) → k.unit ≡ u → StandsAt c cells es a k t) → StandsAs c cells es a u t
stands_there c cells es a u t h = record { near = λ m lt. (h (near_key u m) refl).near refl lt; racks = λ r lt. (h (rack_key u r) refl).racks refl lt }

-- where the same is asked, and where the unit stands as it did
pub stands_asked_at : (c : ClusterRecord) (cells cells' : List (List Cell)) (es : Table) (a : ℕ) (k : Key) (t : TreeRecord) → asks_in cells' a k ≡ asks_in cells a k → StandsAt c cells es a k t → StandsAt c cells' es a k t
stands_asked_at c cells cells' es a k t e h = record {
  near = λ w lt. h.near w lt ∙ ap (nat_lt (held_on es a k.unit k.number)) (sym (subst (λ w. asks_in cells' a (key w k.unit k.number) ≡ asks_in cells a (key w k.unit k.number)) w e));
  racks = λ w lt. h.racks w lt ∙ ap (nat_lt (held_in c es a k.unit k.number)) (sym (subst (λ w. asks_in cells' a (key w k.unit k.number) ≡ asks_in cells a (key w k.unit k.number)) w e));
}

pub stands_on_at : (c : ClusterRecord) (cells : List (List Cell)) (es : Table) (a : ℕ) (k : Key) (t t' : TreeRecord) → t'.racks ≡ t.racks → unit_at t' a k.unit ≡ unit_at t a k.unit → StandsAt c cells es a k t → StandsAt c cells es a k t'
stands_on_at c cells es a k t t' racks same h = record {
  near = λ w lt. ap (λ (s : UnitState). get_or s.stands k.number false) same ∙ h.near w lt;
  racks = λ w lt. (λ i. get_or (same i).stands (rack_place (racks i) k.number) false) ∙ h.racks w lt;
}

-- a place of no machine and no rack, or of one that is not there
pub stood_same : (c : ClusterRecord) (cells : List (List Cell)) (es : Table) (a : ℕ) (k : Key) (t t' : TreeRecord) → t' ≡ t → (k.what ≡ 2 → length c.machines ≤ k.number) → (k.what ≡ 3 → 64 ≤ k.number) → StoodAt c cells es a k t t'
stood_same c cells es a k t t' is near racks = subst (StoodAt c cells es a k t) (sym is) (record {
  restood = restood_self (unit_number a k.unit) t;
  here = record { near = λ w lt. let ge = near w in absurd (omega (arith, lt, ge)); racks = λ w lt. let ge = racks w in absurd (omega (arith, lt, ge)) };
  others = λ j q f h. h;
})

module _ (c : ClusterRecord) (cells : List (List Cell)) (es : Table) (e : Entry) (n : ℕ) (t t' : TreeRecord) (w : WaitsIn c e t) where
  near_stood : (n < length c.machines → t' ≡ with_stand t e n (is_unmet_on cells es e.app.0 e.unit.0 n)) → (length c.machines ≤ n → t' ≡ t) → StoodAt c cells es e.app.0 (near_key e.unit.0 n) t t'
  near_stood there past = elim (cases_lt n (length c.machines)) [
    | inl lt ↦
        let is = there lt in
        let unmet = is_unmet_on cells es e.app.0 e.unit.0 n in
        let long = racks_long c t w.racks in
        let within : n < place_count t.racks = omega (arith, lt, long) in
        let r = marked c t t' e n unmet w is in
        record {
          restood = r;
          here = record { near = λ _ _. marked_here c t t' e n unmet w is within n refl; racks = λ x. absurd (omega (arith, x)) };
          others = λ j q f h.
              let same : unit_at t' e.app.0 j.unit ≡ unit_at t' e.app.0 e.unit.0 = ap (unit_at t' e.app.0) q in
              let old : unit_at t e.app.0 e.unit.0 ≡ unit_at t e.app.0 j.unit = ap (unit_at t e.app.0) (sym q) in
              record {
                near = λ x l. ap (λ (s : UnitState). get_or s.stands j.number false) same ∙ marked_apart c t t' e n unmet w is within j.number (number_apart j (near_key e.unit.0 n) f x q) ∙ ap (λ (s : UnitState). get_or s.stands j.number false) old ∙ h.near x l;
                racks = λ x l. (λ i. get_or (same i).stands (rack_place (r.racks i) j.number) false) ∙ marked_apart c t t' e n unmet w is within (rack_place t.racks j.number) (omega (arith, lt, long))
                    ∙ ap (λ (s : UnitState). get_or s.stands (rack_place t.racks j.number) false) old ∙ h.racks x l;
              };
        }
    | inr ge ↦ stood_same c cells es e.app.0 (near_key e.unit.0 n) t t' (past ge) (λ _. ge) (λ x. absurd (omega (arith, x)))
  ]

  rack_stood : (n < 64 → t' ≡ with_stand t e (rack_place t.racks n) (is_unmet_in c cells es e.app.0 e.unit.0 n)) → (64 ≤ n → t' ≡ t) → StoodAt c cells es e.app.0 (rack_key e.unit.0 n) t t'
  rack_stood there past = elim (cases_lt n 64) [
    | inl lt ↦
        let is = there lt in
        let unmet = is_unmet_in c cells es e.app.0 e.unit.0 n in
        let long = racks_long c t w.racks in
        let place : ℕ = rack_place t.racks n in
        let within : place < place_count t.racks = omega (arith, lt) in
        let r = marked c t t' e place unmet w is in
        record {
          restood = r;
          here = record { near = λ x. absurd (omega (arith, x)); racks = λ _ _. (λ i. get_or (unit_at t' e.app.0 e.unit.0).stands (rack_place (r.racks i) n) false) ∙ marked_here c t t' e place unmet w is within place refl };
          others = λ j q f h.
              let same : unit_at t' e.app.0 j.unit ≡ unit_at t' e.app.0 e.unit.0 = ap (unit_at t' e.app.0) q in
              let old : unit_at t e.app.0 e.unit.0 ≡ unit_at t e.app.0 j.unit = ap (unit_at t e.app.0) (sym q) in
              record {
                near = λ x l. ap (λ (s : UnitState). get_or s.stands j.number false) same ∙ marked_apart c t t' e place unmet w is within j.number (omega (arith, l, long)) ∙ ap (λ (s : UnitState). get_or s.stands j.number false) old ∙ h.near x l;
                racks = λ x l.
                    let d = number_apart j (rack_key e.unit.0 n) f x q in
                    (λ i. get_or (same i).stands (rack_place (r.racks i) j.number) false) ∙ marked_apart c t t' e place unmet w is within (rack_place t.racks j.number) (omega (arith, d))
                    ∙ ap (λ (s : UnitState). get_or s.stands (rack_place t.racks j.number) false) old ∙ h.racks x l;
              };
        }
    | inr ge ↦ stood_same c cells es e.app.0 (rack_key e.unit.0 n) t t' (past ge) (λ x. absurd (omega (arith, x))) (λ _. ge)
  ]

module _ (c : ClusterRecord) (cells : List (List Cell)) (es : Table) (e : Entry) (k : Key) (t t' : TreeRecord) (w : WaitsIn c e t) (q : k.unit ≡ e.unit.0) where
  pub stood_near : k.what ≡ 2 → (k.number < length c.machines → t' ≡ with_stand t e k.number (is_unmet_on cells es e.app.0 e.unit.0 k.number)) → (length c.machines ≤ k.number → t' ≡ t) → StoodAt c cells es e.app.0 k t t'
  stood_near x there past = let is : near_key e.unit.0 k.number ≡ k = λ i. record { what = sym x i; unit = sym q i; number = k.number } in subst (λ j. StoodAt c cells es e.app.0 j t t') is (near_stood c cells es e k.number t t' w there past)

  pub stood_rack : k.what ≡ 3 → (k.number < 64 → t' ≡ with_stand t e (rack_place t.racks k.number) (is_unmet_in c cells es e.app.0 e.unit.0 k.number)) → (64 ≤ k.number → t' ≡ t) → StoodAt c cells es e.app.0 k t t'
  stood_rack x there past = let is : rack_key e.unit.0 k.number ≡ k = λ i. record { what = sym x i; unit = sym q i; number = k.number } in subst (λ j. StoodAt c cells es e.app.0 j t t') is (rack_stood c cells es e k.number t t' w there past)

-- where a demand asks otherwise only in a scope, a unit stands as it has to outside of it
pub within_stands : (s : Scope) (c : ClusterRecord) (es : List (Key × ℕ)) (cells : List (List Cell)) (line : List Pair) (a u : ℕ) (held : Table) (t : TreeRecord) → a < length cells → AreAdmitted cells line → has_pair (a, u) line ≡ true
    → AsksWithin s c es (get_or cells a []) → StandsAs c cells held a u t → StandsWithin s c (set cells a (taken_all c es 0 (get_or cells a []))) held a u t
within_stands (scope.Units d) c es cells line a u held t lt admitted has within h = λ f. stands_alike c cells (set cells a (taken_all c es 0 (get_or cells a []))) held a u t (cell_alike c es cells line a u lt admitted has (λ l. within u l f)) h
within_stands (scope.Keys cs) c es cells line a u held t lt admitted has within h = λ k q f.
    let l : k.unit < length (get_or cells a []) = subst (λ v. v < length (get_or cells a [])) (sym q) (admitted_there cells line a u admitted has) in
    stands_asked_at c cells (set cells a (taken_all c es 0 (get_or cells a []))) held a k t (taken_asks c es cells a lt k l ∙ sym (within k l f)) (stands_at c cells held a u t h k q)

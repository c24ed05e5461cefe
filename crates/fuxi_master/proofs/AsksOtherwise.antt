-- A placer that was told a demand is told the next one by its changes.
use Rattle.std.proofs.Common.{◌≡◌, ℕ, true, false, cond, nat_eq, nat_lt, List, length, get_or, refl, sym, ◌∙◌, ap, subst}
use Rattle.std.specs.Prelude.{ℤ, ◌&&◌}
use Rattle.fuxi_terms.specs.Cluster.{ClusterRecord, has_rack}
use Rattle.fuxi_terms.specs.declared.Key.{Key}
use Rattle.fuxi_terms.specs.Counts.{count}
use Rattle.fuxi_terms.specs.Jobs.{unit_count}
use Rattle.fuxi_terms.specs.Keys.{key_cmp}
use Rattle.fuxi_terms.specs.TallyKeys.{key, want_key, near_key, rack_key, avoid_key}
use Rattle.fuxi_terms.proofs.Booleans.{and_false, nat_itself, number_is}
use Rattle.fuxi_terms.proofs.CountsLemmas.{count_where}
use Rattle.fuxi_terms.proofs.KeyOrders.{same_key}
use Rattle.spec_net.specs.Ledgers.{tally_ledger}
use Rattle.spec_roles.specs.MasterSteps.{counted, credit, is_there as counts_there}
use Rattle.grant_table.specs.GrantTables.{as_known}
use Rattle.place_pass.specs.Cells.{cell_at}
use Rattle.place_pass.specs.Placers.{SeenRecord, asks_seen, units_seen, is_there, is_named, AsksOtherwiseAt}
use Rattle.allotment.specs.Allotted.{AllotmentRecord, CreditsBack}
use Rattle.fuxi_master.specs.ToldAsHeard.{AsksButAt}
use Rattle.fuxi_master.proofs.Projected.{units_alike}

-- what is credited changes nothing that is asked
still_asks : (cs : List (Key × ℤ)) (a : ℕ) (es given : List (Key × ℕ)) (x y : AllotmentRecord) → CreditsBack a es given x y → AsksButAt cs a es x → AsksButAt cs a es y
still_asks cs a es given x y back w = record {
  cluster = w.cluster;
  master = record w.master { table = credit a given (counted w.cluster w.master.jobs a (tally_ledger 0 es)).entries w.master.table };
  allots = back.stands w.cluster w.master given w.allots (λ u m. refl);
  asks = w.asks;
}

module _ (cs : List (Key × ℤ)) (a : ℕ) (es : List (Key × ℕ)) (x : AllotmentRecord) (w : AsksButAt cs a es x) where
  abbrev s : SeenRecord
  s = x.placer.seen

  abbrev c : ClusterRecord
  c = w.cluster

  abbrev units : ℕ
  units = unit_count w.master.jobs a

  -- at a key that no change names
  record At (k : Key) : Type 0 where
    pub at : is_named k cs ≡ false → asks_seen s a k ≡ cond (is_there c units k) (count key_cmp es k) 0

  -- where the placer was told what the master asks
  told_at : (k : Key) → asks_seen s a k ≡ count key_cmp (counted c w.master.jobs a (tally_ledger 0 es)).entries k → is_there c units k ≡ counts_there c units k → asks_seen s a k ≡ cond (is_there c units k) (count key_cmp es k) 0
  told_at k told same = told ∙ count_where key_cmp same_key (counts_there c units) es k ∙ ap (λ b. cond b (count key_cmp es k) 0) (sym same)

  at_want : (u : ℕ) → At (want_key u)
  at_want u = record { at = λ off. told_at (want_key u) (w.allots.placing.wants a u ∙ w.asks (want_key u) off) refl }

  at_near : (u m : ℕ) → At (near_key u m)
  at_near u m = record { at = λ off. told_at (near_key u m) (w.allots.placing.near a u m ∙ w.asks (near_key u m) off) refl }

  at_rack : (u r : ℕ) → At (rack_key u r)
  at_rack u r = record { at = λ off. told_at (rack_key u r) (w.allots.placing.racks a u r ∙ w.asks (rack_key u r) off) refl }

  at_avoid : (u m : ℕ) → At (avoid_key u m)
  at_avoid u m = record { at = λ off. told_at (avoid_key u m) (w.allots.placing.avoids a u m ∙ w.asks (avoid_key u m) off) refl }

  -- nothing is asked at any other key
  nowhere : (k : Key) → asks_seen s a k ≡ 0 → is_there c units k ≡ false → At k
  nowhere k none off = record { at = λ _. none ∙ ap (λ b. cond b (count key_cmp es k) 0) (sym off) }

  at_first : (u n : ℕ) → At (key 1 u n)
  at_first u n = elim (nat_eq n 0) as (λ b. nat_eq n 0 ≡ b → At (key 1 u n)) [
    | true ↦ λ e. subst (λ (m : ℕ). At (key 1 u m)) (sym (number_is n 0 e)) (at_want u)
    | false ↦ λ e. nowhere (key 1 u n) (ap (λ b. cond b (cell_at s.cells a u).want 0) e) (ap (λ b. nat_lt u units && b) e ∙ and_false (nat_lt u units))
  ] refl

  at_each : (k : Key) → At k
  at_each k = elim (nat_eq k.what 1) as (λ b. nat_eq k.what 1 ≡ b → At k) [
    | true ↦ λ e. subst (λ (n : ℕ). At (key n k.unit k.number)) (sym (number_is k.what 1 e)) (at_first k.unit k.number)
    | false ↦ λ first. elim (nat_eq k.what 2) as (λ b. nat_eq k.what 2 ≡ b → At k) [
      | true ↦ λ e. subst (λ (n : ℕ). At (key n k.unit k.number)) (sym (number_is k.what 2 e)) (at_near k.unit k.number)
      | false ↦ λ second. elim (nat_eq k.what 3) as (λ b. nat_eq k.what 3 ≡ b → At k) [
        | true ↦ λ e. subst (λ (n : ℕ). At (key n k.unit k.number)) (sym (number_is k.what 3 e)) (at_rack k.unit k.number)
        | false ↦ λ third. elim (nat_eq k.what 4) as (λ b. nat_eq k.what 4 ≡ b → At k) [
          | true ↦ λ e. subst (λ (n : ℕ). At (key n k.unit k.number)) (sym (number_is k.what 4 e)) (at_avoid k.unit k.number)
          | false ↦ λ fourth.
              let cell = cell_at s.cells a k.unit in
              nowhere k
              (λ i. cond (first i) (cond (nat_eq k.number 0) cell.want 0) (cond (second i) (get_or cell.near k.number 0) (cond (third i) (get_or cell.racks k.number 0) (cond (fourth i) (get_or cell.avoided k.number 0) 0))))
              ((λ i. nat_lt k.unit units && cond (first i) (nat_eq k.number 0) (cond (second i) (nat_lt k.number (length c.machines)) (cond (third i) (has_rack c k.number) (fourth i && nat_lt k.number (length c.machines))))) ∙ and_false (nat_lt k.unit units))
        ] refl
      ] refl
    ] refl
  ] refl

  otherwise_at : s.cluster ≡ x.table.cluster → units_seen s a ≡ unit_count (as_known x.table.jobs) a → AsksOtherwiseAt cs s a es
  otherwise_at cluster places k off =
      let here = cluster ∙ w.allots.placing.cluster in
      let count_is : units_seen s a ≡ units = places ∙ (λ i. length (units_alike (as_known x.table.jobs) w.master.jobs w.allots.placing.jobs a i)) in
      (at_each k).at off
      ∙ (λ i. cond (is_there (sym here i) (sym count_is i) k) (count key_cmp es k) 0)
      ∙ ap (λ b. cond b (cond (is_there s.cluster (units_seen s a) k) (count key_cmp es k) 0) (asks_seen s a k)) (sym (nat_itself a))

-- so it asks once what it gives back is credited
pub told_credited : (cs : List (Key × ℤ)) (a : ℕ) (es given : List (Key × ℕ)) (x y : AllotmentRecord) → CreditsBack a es given x y → y.placer.seen.cluster ≡ y.table.cluster → units_seen y.placer.seen a ≡ unit_count (as_known y.table.jobs) a
    → AsksButAt cs a es x → AsksOtherwiseAt cs y.placer.seen a es
told_credited cs a es given x y back cluster units w = otherwise_at cs a es y (still_asks cs a es given x y back w) cluster units

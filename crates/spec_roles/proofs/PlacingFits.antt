-- Placing keeps each machine's grants within what it has.
use Rattle.std.proofs.Common.{◌≡◌, ℕ, zero, suc, ◌+◌, ◌*◌, ◌<◌, ◌≤◌, Bool, true, false, cond, not, nat_eq, nat_lt, Some, None, refl, sym, subst, arith}
use Rattle.std.specs.Prelude.{◌&&◌, T}
use Rattle.std.specs.FinMap.Entries.{is_sorted, is_sorted-put, put}
use Rattle.std.proofs.lemmas.Bool.Decides.{nat_tests}
use Rattle.fuxi_terms.specs.Cluster.{ClusterRecord, has_at}
use Rattle.fuxi_terms.specs.Keys.{Spot, spot_cmp}
use Rattle.fuxi_terms.specs.Counts.{count}
use Rattle.fuxi_terms.specs.Jobs.{size_at}
use Rattle.spec_roles.specs.Masters.{Master}
use Rattle.fuxi_terms.specs.Tables.{total_at}
use Rattle.spec_roles.specs.Placing.{first_placeable, granted, settle, settled, placeable, may_grow, accepts, has_room}
use Rattle.spec_roles.specs.Settling.{IsWithin}
use Rattle.fuxi_terms.proofs.Booleans.{both_true}
use Rattle.fuxi_terms.proofs.KeyOrders.{spot_total, same_spot}
use Rattle.fuxi_terms.proofs.Sums.{one_count, sum_put_exact}
use Rattle.spec_roles.proofs.PlacingEnds.{is_placeable}
use Rattle.fuxi_terms.proofs.Members.{in_each_is}

fits_one : (c : ClusterRecord) (M : Master) (s : Spot) → placeable c M s.job s.unit s.machine ≡ true → (i : ℕ) → i < c.resources → total_at M.jobs s.machine i M.table + size_at M.jobs s.job s.unit i ≤ has_at c s.machine i
fits_one c M s p i lt =
    let may : (accepts c M s.job s.unit s.machine && has_room c M s.job s.unit s.machine) ≡ true = (both_true (may_grow c M s.job s.unit) (accepts c M s.job s.unit s.machine && has_room c M s.job s.unit s.machine) p).1 in
    let room : has_room c M s.job s.unit s.machine ≡ true = (both_true (accepts c M s.job s.unit s.machine) (has_room c M s.job s.unit s.machine) may).1 in
    let t : not (nat_lt (has_at c s.machine i) (total_at M.jobs s.machine i M.table + size_at M.jobs s.job s.unit i)) ≡ true = in_each_is c (size_at M.jobs s.job s.unit) (λ i. not (nat_lt (has_at c s.machine i) (total_at M.jobs s.machine i M.table + size_at M.jobs s.job s.unit i))) i room lt in
    grind (arith, nat_tests, t)

granted_fits : (c : ClusterRecord) (M : Master) (s : Spot) → placeable c M s.job s.unit s.machine ≡ true → IsWithin c M → IsWithin c (granted M s)
granted_fits c M s p f =
    let n = count spot_cmp M.table s in
    let table = put spot_cmp s (n + 1) M.table in
    record {
      sorted = subst (λ t. T (is_sorted spot_cmp t)) (sym (one_count M.table s)) (is_sorted-put spot_cmp spot_total s (n + 1) M.table f.sorted);
      fits = λ m i lt.
          let g : Spot → ℕ → ℕ = λ k v. cond (nat_eq k.machine m) (v * size_at M.jobs k.job k.unit i) 0 in
          let e = sum_put_exact spot_total same_spot g (λ k. zero_at (nat_eq k.machine m) (size_at M.jobs k.job k.unit i)) s (n + 1) M.table f.sorted in
          subst (λ t. total_at M.jobs m i t ≤ has_at c m i) (sym (one_count M.table s))
          (elim (nat_eq s.machine m) as (λ b. nat_eq s.machine m ≡ b → total_at M.jobs m i table ≤ has_at c m i) [
            | true ↦ λ t.
                let here : s.machine ≡ m = grind (arith, nat_tests) in
                let room : total_at M.jobs m i M.table + size_at M.jobs s.job s.unit i ≤ has_at c m i = subst (λ k. total_at M.jobs k i M.table + size_at M.jobs s.job s.unit i ≤ has_at c k i) here (fits_one c M s p i lt) in
                one_more (nat_eq s.machine m) (total_at M.jobs m i table) (total_at M.jobs m i M.table) (has_at c m i) (size_at M.jobs s.job s.unit i) n t e room
            | false ↦ λ t. no_more (nat_eq s.machine m) (total_at M.jobs m i table) (total_at M.jobs m i M.table) (has_at c m i) (size_at M.jobs s.job s.unit i) n t e (f.fits m i lt)
          ] refl);
    }
  where
    zero_at : (b : Bool) (z : ℕ) → cond b (0 * z) 0 ≡ 0
    zero_at true z = omega arith
    zero_at false z = refl

    one_more : (b : Bool) (new old has size n : ℕ) → b ≡ true → new + cond b (n * size) 0 ≡ old + cond b ((n + 1) * size) 0 → old + size ≤ has → new ≤ has
    one_more true new old has size n t e h = omega (arith, e, h)
    one_more false new old has size n t e h = cc

    no_more : (b : Bool) (new old has size n : ℕ) → b ≡ false → new + cond b (n * size) 0 ≡ old + cond b ((n + 1) * size) 0 → old ≤ has → new ≤ has
    no_more true new old has size n t e h = cc
    no_more false new old has size n t e h = omega (arith, e, h)

settle_fits : (c : ClusterRecord) (fuel : ℕ) (M : Master) → IsWithin c M → IsWithin c (settle c fuel M)
settle_fits c zero M f = f
settle_fits c (suc fuel) M f = elim (first_placeable c M) as (λ o. first_placeable c M ≡ o → IsWithin c (elim o [ None ↦ M | Some s ↦ settle c fuel (granted M s) ])) [
  | None ↦ λ _. f
  | Some s ↦ λ e. settle_fits c fuel (granted M s) (granted_fits c M s (is_placeable c M s e) f)
] refl

-- placing keeps each machine's grants within what it has
pub settled_fits : (c : ClusterRecord) (M : Master) → IsWithin c M → IsWithin c (settled c M)
settled_fits c M f = settle_fits c _ M f

-- Spots that rise on one machine have keys of its row that rise, and a key of the row tells the spot.
use Rattle.std.proofs.Common.{◌≡◌, ℕ, Bool, true, false, cond, List, [], ◌∷◌, map, filter, refl, sym, ◌∙◌, ap, subst}
use Rattle.std.specs.Prelude.{T, ◌&&◌}
use Rattle.std.specs.Ordering.{nat_cmp, ordering_then, is_lt, is_eq, eq_by_cmp}
use Rattle.std.specs.Cmp.{tied_itself, nat_cmp_total}
use Rattle.std.specs.Cmp.Lexicographic.{slice_cmp}
use Rattle.std.specs.declared.cmp.Ordering.{Ordering}
use Rattle.std.specs.declared.cmp.Ordering.TheVariants.{Less, Equal, Greater}
use Rattle.std.specs.FinMap.Entries.{below_all, is_sorted}
use Rattle.fuxi_terms.specs.Jobs.{KnownJob}
use Rattle.fuxi_terms.specs.Keys.{RowKey, row_cmp, Spot, spot_cmp}
use Rattle.fuxi_terms.proofs.Booleans.{same_tests}
use Rattle.fuxi_terms.proofs.CountsLemmas.{both_true, lesser, tied}
use Rattle.fuxi_terms.proofs.KeyOrders.{row_key_total, same_row_key, spot_total, same_spot}
use Rattle.fuxi_terms.specs.Tables.{Table}
use Rattle.spec_roles.specs.MasterSteps.{spot_row_key}

pub both : (a b : Bool) → T a → T b → T (a && b)
both true b x y = y
both false b x y = x

module _ (jobs : List KnownJob) (m : ℕ) where
  abbrev key : Spot → RowKey
  key s = spot_row_key jobs s

  -- spots of one machine with one key are one
  pub one_spot : (s x : Spot) → s.machine ≡ m → x.machine ≡ m → eq_by_cmp row_cmp (key s) (key x) ≡ eq_by_cmp spot_cmp s x
  one_spot s x sm xm = same_tests (eq_by_cmp row_cmp (key s) (key x)) (eq_by_cmp spot_cmp s x)
      (λ t. let k = same_row_key (key s) (key x) (tied _ t) in
      let is : s ≡ x = λ i. record { job = ap (λ (y : RowKey). y.job) k i; unit = ap (λ (y : RowKey). y.unit) k i; machine = (sm ∙ sym xm) i } in
      ap (eq_by_cmp spot_cmp s) (sym is) ∙ ap is_eq (tied_itself spot_total s))
      (λ t. let is = same_spot s x (tied _ t) in ap (λ y. eq_by_cmp row_cmp (key s) (key y)) (sym is) ∙ ap is_eq (tied_itself row_key_total (key s)))

  -- the lesser spot has the lesser key
  less_key : (s x : Spot) → s.machine ≡ m → x.machine ≡ m → spot_cmp s x ≡ Less → row_cmp (key s) (key x) ≡ Less
  less_key s x sm xm less = by (nat_cmp s.job x.job) less
    where
      machines : nat_cmp s.machine x.machine ≡ Equal
      machines = ap (nat_cmp s.machine) (xm ∙ sym sm) ∙ tied_itself nat_cmp_total s.machine

      units : (r : Ordering) → ordering_then r (nat_cmp s.machine x.machine) ≡ Less → ordering_then r (slice_cmp nat_cmp (key s).size (key x).size) ≡ Less
      units Less l = refl
      units Equal l = let f : Equal ≡ Less = sym machines ∙ l in cc
      units Greater l = cc

      by : (r : Ordering) → ordering_then r (ordering_then (nat_cmp s.unit x.unit) (nat_cmp s.machine x.machine)) ≡ Less → ordering_then r (ordering_then (nat_cmp s.unit x.unit) (slice_cmp nat_cmp (key s).size (key x).size)) ≡ Less
      by Less l = refl
      by Equal l = units (nat_cmp s.unit x.unit) l
      by Greater l = cc

  -- of items that stand at spots: those of them that pass a test, which are all on the machine
  module _ {A : Type 0} (at : A → Spot) (value number : A → ℕ) (p : A → Bool) (on : (y : A) → p y ≡ true → (at y).machine ≡ m) where
    abbrev entries : List A → Table
    entries ys = map (λ y. (at y, value y)) ys

    abbrev keyed : List A → List (RowKey × ℕ)
    keyed ys = map (λ y. (key (at y), number y)) ys

    below_keys : (s : Spot) (ys : List A) → s.machine ≡ m → T (below_all spot_cmp s (entries ys)) → T (below_all row_cmp (key s) (keyed (filter p ys)))
    below_keys s [] sm h = tt
    below_keys s (y ∷ ys) sm h =
        let parts = both_true (is_lt (spot_cmp s (at y))) (below_all spot_cmp s (entries ys)) h in
        let rest = below_keys s ys sm parts.1 in
        elim (p y) as (λ b. p y ≡ b → T (below_all row_cmp (key s) (keyed (cond b (y ∷ filter p ys) (filter p ys))))) [
          | true ↦ λ e. both _ _ (subst (λ r. T (is_lt r)) (sym (less_key s (at y) sm (on y e) (lesser _ parts.0))) tt) rest
          | false ↦ λ _. rest
        ] refl

    pub sorted_keys : (ys : List A) → T (is_sorted spot_cmp (entries ys)) → T (is_sorted row_cmp (keyed (filter p ys)))
    sorted_keys [] h = tt
    sorted_keys (y ∷ ys) h =
        let parts = both_true (below_all spot_cmp (at y) (entries ys)) (is_sorted spot_cmp (entries ys)) h in
        let rest = sorted_keys ys parts.1 in
        elim (p y) as (λ b. p y ≡ b → T (is_sorted row_cmp (keyed (cond b (y ∷ filter p ys) (filter p ys))))) [
          | true ↦ λ e. both _ _ (below_keys (at y) ys (on y e) parts.0) rest
          | false ↦ λ _. rest
        ] refl

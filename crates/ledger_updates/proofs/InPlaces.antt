-- Picks that are sorted by job, unit and machine, each once, are in the order of their spots.
use Rattle.std.proofs.Common.{◌≡◌, ℕ, ◌+◌, Bool, List, [], ◌∷◌, get_or, map, refl, sym, ◌∙◌, ap, subst}
use Rattle.std.specs.Prelude.{T, ◌||◌, ◌&&◌, nat_eq}
use Rattle.std.specs.List.{AllByRecursion, list_any, dedup}
use Rattle.std.specs.List.Sorted.{IsPermutation, IsSorted, IsSortedByKey, IsStrictlySortedBy}
use Rattle.std.specs.Cmp.{unsigned_ties}
use Rattle.std.specs.Ordering.{nat_cmp, ordering_then, eq_by_cmp, is_eq, is_lt}
use Rattle.std.specs.declared.cmp.Ordering.{Ordering}
use Rattle.std.specs.declared.cmp.Ordering.TheVariants.{Less, Equal, Greater}
use Rattle.std.specs.FinMap.Entries.{below_all}
use Rattle.std.proofs.lemmas.List.Sorted.{list_any-IsPermutation}
use Rattle.fuxi_terms.specs.Keys.{Spot, spot_cmp}
use Rattle.fuxi_terms.proofs.CountsLemmas.{tied}
use Rattle.fuxi_terms.proofs.KeyOrders.{same_spot}
use Rattle.schedule_unit.specs.declared.party.AppNo.{AppNo}
use Rattle.schedule_unit.specs.declared.party.MachineNo.{MachineNo}
use Rattle.schedule_unit.specs.declared.party.UnitNo.{UnitNo}
use Rattle.grant_table.specs.declared.asking.Pick.{Pick}
use Rattle.ledger_updates.specs.AllShown.{spot_of, has_spot, AreInOrder}
use Rattle.ledger_updates.proofs.OfNumbersLemmas.{any_once}
use Rattle.ledger_updates.proofs.RisingKeys.{both}

abbrev Place : Type 0
Place = AppNo × UnitNo × MachineNo

abbrev place_cmp : Place → Place → Ordering
place_cmp p q = ordering_then (ordering_then (nat_cmp p.0.0 q.0.0) (nat_cmp p.1.0 q.1.0)) (nat_cmp p.2.0 q.2.0)

abbrev pub place_of : Pick → Place
place_of p = (p.app, p.unit, p.machine)

abbrev pick_cmp : Pick → Pick → Ordering
pick_cmp p q = spot_cmp (spot_of p) (spot_of q)

then_then : (r s t : Ordering) → ordering_then r (ordering_then s t) ≡ ordering_then (ordering_then r s) t
then_then Less s t = refl
then_then Equal s t = refl
then_then Greater s t = refl

pub picks_sorted : (ps : List Pick) → IsSortedByKey place_of place_cmp ps → IsSorted pick_cmp ps
picks_sorted ps h k d le lt =
    let p = get_or ps (k + 1) d in
    let q = get_or ps k d in
    ap is_lt (then_then (nat_cmp p.app.0 q.app.0) (nat_cmp p.unit.0 q.unit.0) (nat_cmp p.machine.0 q.machine.0)) ∙ h k d le lt

below : (p : Pick) (ps : List Pick) → AllByRecursion (λ q. pick_cmp p q ≡ Less) ps → T (below_all {X = ℕ} spot_cmp (spot_of p) (map (λ (s : Spot). (s, 0)) (map spot_of ps)))
below p [] h = tt
below p (q ∷ ps) h = both _ _ (subst (λ r. T (is_lt r)) (sym h.0) tt) (below p ps h.1)

pub in_order : (ps : List Pick) → IsStrictlySortedBy pick_cmp ps → AreInOrder (map spot_of ps)
unfolding IsStrictlySortedBy
in_order [] h = tt
in_order (p ∷ ps) h = both _ _ (below p ps h.0) (in_order ps h.1)

-- the equality of picks
tied_then : (r s : Ordering) → is_eq (ordering_then r s) ≡ (is_eq r && is_eq s)
tied_then Less s = refl
tied_then Equal s = refl
tied_then Greater s = refl

pub picks_tied : (p q : Pick) → (nat_eq p.app.0 q.app.0 && (nat_eq p.unit.0 q.unit.0 && nat_eq p.machine.0 q.machine.0)) ≡ eq_by_cmp pick_cmp p q
picks_tied p q =
    (λ i. unsigned_ties p.app.0 q.app.0 i && (unsigned_ties p.unit.0 q.unit.0 i && unsigned_ties p.machine.0 q.machine.0 i))
    ∙ ap (λ b. is_eq (nat_cmp p.app.0 q.app.0) && b) (sym (tied_then (nat_cmp p.unit.0 q.unit.0) (nat_cmp p.machine.0 q.machine.0)))
    ∙ sym (tied_then (nat_cmp p.app.0 q.app.0) (ordering_then (nat_cmp p.unit.0 q.unit.0) (nat_cmp p.machine.0 q.machine.0)))

-- ---- the same spots
any_spot : (s : Spot) (ps : List Pick) → has_spot s (map spot_of ps) ≡ list_any (λ p. eq_by_cmp spot_cmp s (spot_of p)) ps
any_spot s [] = refl
any_spot s (p ∷ ps) = ap (λ b. eq_by_cmp spot_cmp s (spot_of p) || b) (any_spot s ps)

pub same_spots : (E : Pick → Pick → Bool) → ((p q : Pick) → E p q ≡ eq_by_cmp pick_cmp p q) → (s : Spot) (xs ys : List Pick) → IsPermutation xs ys → has_spot s (map spot_of (dedup E ys)) ≡ has_spot s (map spot_of xs)
same_spots E ties s xs ys moved =
    any_spot s (dedup E ys)
    ∙ any_once E (λ p. eq_by_cmp spot_cmp s (spot_of p)) (λ p q e. ap (eq_by_cmp spot_cmp s) (same_spot (spot_of p) (spot_of q) (tied _ (sym (ties p q) ∙ e)))) ys
    ∙ sym (list_any-IsPermutation (λ p. eq_by_cmp spot_cmp s (spot_of p)) xs ys moved)
    ∙ sym (any_spot s xs)

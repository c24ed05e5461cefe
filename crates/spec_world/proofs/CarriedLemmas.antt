-- What an application carries has an origin, and what it holds is counted at one place.
use Rattle.std.proofs.Common.{◌≡◌, ℕ, ◌⊎◌, inl, inr, zero, suc, ◌*◌, ◌<◌, ◌≤◌, Bool, true, false, cond, nat_eq, List, [], ◌∷◌, ◌++◌, length, map, Option, Some, None, slice_get, refl, sym, ◌∙◌, ap, subst, arith, mul-le-mul_right}
use Rattle.std.specs.Option.{option_map, unwrap_or}
use Rattle.std.specs.Ordering.{nat_cmp}
use Rattle.std.specs.FinMap.Entries.{find, put}
use Rattle.std.proofs.lemmas.List.{map-append}
use Rattle.fuxi_terms.specs.Vectors.{at_place}
use Rattle.spec_net.specs.Net.{Net, Party, Link, at_index}
use Rattle.spec_net.specs.Ledgers.{Ledger, nothing, at_key}
use Rattle.fuxi_terms.specs.TallyKeys.{count_key}
use Rattle.spec_net.specs.Channels.{master_id, app_id, party, view, shape}
use Rattle.fuxi_terms.specs.Lists.{below}
use Rattle.fuxi_terms.specs.Jobs.{size_at}
use Rattle.fuxi_terms.specs.Cluster.{has_at}
use Rattle.spec_world.specs.World.{World, App}
use Rattle.spec_roles.specs.Apps.{Carried, names}
use Rattle.spec_world.specs.Parties.{usable, carry_one, carry, app_held}
use Rattle.spec_net.specs.Sound.{Sound}
use Rattle.spec_world.specs.Good.{HasOrigin, Invariant, Origins}
use Rattle.spec_world.specs.Safe.{place_for, grants_at, units_total_at, HeldOnce, CountsOnce}
use Rattle.fuxi_terms.proofs.Booleans.{either}
use Rattle.spec_world.proofs.GrantsFit.{no_share, sum_le}
use Rattle.spec_world.proofs.Invariant.{put_found}
use Rattle.fuxi_terms.proofs.Lists.{length-below}

-- a ledger that names a machine is not the one at index 0
named_first : (h : List Ledger) (n m : ℕ) → names (at_index nothing h n) m ≡ true → 1 ≤ n
named_first h zero m e = cc
named_first h (suc n) m e = omega arith

usable_within : (net : Net Ledger) (p : Party) (u m : ℕ) → usable net p u m ≤ at_key (view net p master_id) (count_key u m)
usable_within net p u m = omega arith

-- a value for each number below n
got_append : {A : Type 0} (xs : List A) (y : A) (i : ℕ) (x : A) → slice_get (xs ++ y ∷ []) i ≡ Some x → (slice_get xs i ≡ Some x) ⊎ ((i ≡ length xs) × (y ≡ x))
got_append [] y zero x e = inr (refl, cc)
got_append [] y (suc i) x e = cc
got_append (z ∷ xs) y zero x e = inl e
got_append (z ∷ xs) y (suc i) x e = by (got_append xs y i x e)
  where
    by : (slice_get xs i ≡ Some x) ⊎ ((i ≡ length xs) × (y ≡ x)) → (slice_get xs i ≡ Some x) ⊎ ((suc i ≡ suc (length xs)) × (y ≡ x))
    by (inl k) = inl k
    by (inr k) = inr (ap suc k.0, k.1)

got_below : (f : ℕ → ℕ) (n u x : ℕ) → slice_get (map f (below n)) u ≡ Some x → f u ≡ x
got_below f zero u x e = cc
got_below f (suc n) u x e = by (λ k. got_below f n u x k) (got_append (map f (below n)) (f n) u x (subst (λ xs. slice_get xs u ≡ Some x) (map-append f (below n) (n ∷ [])) e))
  where
    long : (xs : List ℕ) → length (map f xs) ≡ length xs
    long [] = refl
    long (y ∷ xs) = ap suc (long xs)

    by : (slice_get (map f (below n)) u ≡ Some x → f u ≡ x) → (slice_get (map f (below n)) u ≡ Some x) ⊎ ((u ≡ length (map f (below n))) × (f n ≡ x)) → f u ≡ x
    by before (inl k) = before k
    by before (inr k) = ap f (k.0 ∙ long (below n) ∙ length-below n) ∙ k.1

-- where its view names a machine, what an application held there is carried with the place of the view
pub carry_origins : (net : Net Ledger) (a b units : ℕ) (ms : List ℕ) (carried : List (ℕ × Carried)) → Sound shape net → Origins net a carried → Origins net a (carry net (party (app_id a) b) units ms carried)
carry_origins net a b units [] carried s h = h
carry_origins net a b units (m ∷ ms) carried s h =
    let p = party (app_id a) b in
    let r = carry_one net p units m in
    carry_origins net a b units ms (cond (names (view net p master_id) m) (put nat_cmp m r carried) carried) s
    (either (Origins net a) (names (view net p master_id) m) (put nat_cmp m r carried) carried (λ e. record { has = λ k x f. by_put e k x (put_found k m r x carried f) }) (λ _. h))
  where
    here : names (view net (party (app_id a) b) master_id) m ≡ true → HasOrigin net a m (carry_one net (party (app_id a) b) units m)
    here e = let l = net.links (party (app_id a) b) master_id in record {
      first = named_first (net.histories (party master_id l.known) (app_id a)) l.seq m e;
      there = (s.links (party (app_id a) b) master_id).place.there;
      counts = λ u held got. let is = got_below (λ u. usable net (party (app_id a) b) u m) units u held got in omega (arith, is, usable_within net (party (app_id a) b) u m);
    }

    by_put : names (view net (party (app_id a) b) master_id) m ≡ true → (k : ℕ) (x : Carried) → ((nat_eq m k ≡ false) × (find nat_cmp k carried ≡ Some x)) ⊎ ((k ≡ m) × (carry_one net (party (app_id a) b) units m ≡ x)) → HasOrigin net a k x
    by_put e k x (inl o) = h.has k x o.1
    by_put e k x (inr n) = subst (λ i. HasOrigin net a i x) (sym n.0) (subst (HasOrigin net a m) n.1 (here e))

-- no grant counts twice
pub held_once : (net : Net Ledger) (a : ℕ) (g : App) (m : ℕ) → Origins net a g.carried → HeldOnce net a g m
held_once net a g m h = by_name (names (view net p master_id) m) refl
  where
    p : Party
    p = party (app_id a) g.boot

    l : Link
    l = net.links p master_id

    origin : Carried → ℕ × ℕ
    origin r = (r.inc, r.seq)

    here : ℕ × ℕ
    here = (l.known, l.seq)

    place_by : Bool → Option Carried → Option (ℕ × ℕ)
    place_by b o = cond b (Some here) (option_map origin o)

    held_by : Bool → Option Carried → ℕ → ℕ
    held_by b o u = cond b (usable net p u m) (elim o as (λ _. ℕ) [ None ↦ 0 | Some r ↦ at_place r.held u ])

    by_carried : (o : Option Carried) → find nat_cmp m g.carried ≡ o → (place : ℕ × ℕ) → option_map origin o ≡ Some place → (u : ℕ) → (elim o as (λ _. ℕ) [ None ↦ 0 | Some r ↦ at_place r.held u ]) ≤ at_key (grants_at net a place) (count_key u m)
    by_carried None f place e u = cc
    by_carried (Some r) f place e u =
        let same : origin r ≡ place = cc in
        subst (λ (q : ℕ × ℕ). at_place r.held u ≤ at_key (grants_at net a q) (count_key u m)) same (at (slice_get r.held u) refl)
      where
        at : (o : Option ℕ) → slice_get r.held u ≡ o → unwrap_or o 0 ≤ at_key (grants_at net a (r.inc, r.seq)) (count_key u m)
        at None t = omega arith
        at (Some held) t = (h.has m r f).counts u held t

    none_carried : (o : Option Carried) → option_map origin o ≡ None → (u : ℕ) → (elim o as (λ _. ℕ) [ None ↦ 0 | Some r ↦ at_place r.held u ]) ≡ 0
    none_carried None e u = refl
    none_carried (Some r) e u = cc

    by_name : (b : Bool) → names (view net p master_id) m ≡ b → HeldOnce net a g m
    by_name true t = record {
      nowhere = λ none u. let f : place_by true (find nat_cmp m g.carried) ≡ None = ap (λ b. place_by b (find nat_cmp m g.carried)) (sym t) ∙ none in cc;
      counts = λ place some u.
          let e : Some here ≡ Some place = ap (λ b. place_by b (find nat_cmp m g.carried)) (sym t) ∙ some in
          let same : here ≡ place = cc in
          let held : app_held net p g u m ≡ usable net p u m = ap (λ b. held_by b (find nat_cmp m g.carried) u) t in
          subst (λ (q : ℕ × ℕ). app_held net p g u m ≤ at_key (grants_at net a q) (count_key u m)) same (omega (arith, held, usable_within net p u m));
    }
    by_name false t = record {
      nowhere = λ none u. ap (λ b. held_by b (find nat_cmp m g.carried) u) t ∙ none_carried (find nat_cmp m g.carried) (ap (λ b. place_by b (find nat_cmp m g.carried)) (sym t) ∙ none) u;
      counts = λ place some u.
          let held : app_held net p g u m ≡ held_by false (find nat_cmp m g.carried) u = ap (λ b. held_by b (find nat_cmp m g.carried) u) t in
          let within = by_carried (find nat_cmp m g.carried) refl place (ap (λ b. place_by b (find nat_cmp m g.carried)) (sym t) ∙ some) u in
          omega (arith, held, within);
    }

-- and together it fits the machine
pub counts_once : (w : World) (a : ℕ) (g : App) (m : ℕ) → Invariant w → find nat_cmp a w.apps ≡ Some g → CountsOnce w a g m
counts_once w a g m h found = record { once = once; fits = λ i lt. by i lt (place_for w.net p g m) refl }
  where
    p : Party
    p = party (app_id a) g.boot

    once : HeldOnce w.net a g m
    once = held_once w.net a g m (h.origins a g found)

    held : ℕ → ℕ
    held u = app_held w.net p g u m

    by : (i : ℕ) → i < w.cluster.resources → (o : Option (ℕ × ℕ)) → place_for w.net p g m ≡ o → units_total_at w.hard.jobs a g.units held i ≤ has_at w.cluster m i
    by i lt None none = let z = no_share w.hard.jobs a g.units i held (once.nowhere none) in omega (arith, z)
    by i lt (Some place) some =
        let number : ℕ → ℕ = λ u. at_key (grants_at w.net a place) (count_key u m) in
        let s = sum_le (λ u. held u * size_at w.hard.jobs a u i) (λ u. number u * size_at w.hard.jobs a u i) g.units (λ u. let e = once.counts place some u in mul-le-mul_right {m = held u} {n = number u} (size_at w.hard.jobs a u i) e) in
        let f = ((h.entries place.0 (app_id a) place.1).grants refl).fits g.units m i lt in
        omega (arith, s, f)

-- Masters of several epochs together credit no more than was given back.
use Rattle.std.proofs.Common.{◌≡◌, ◌⊎◌, inl, inr, ℕ, zero, suc, ◌+◌, ◌<◌, ◌≤◌, Bool, true, false, cond, nat_eq, nat_lt, List, [], ◌∷◌, length, Option, Some, None, slice_get, refl, sym, ◌∙◌, ap, subst, arith}
use Rattle.std.specs.Prelude.{◌&&◌, take}
use Rattle.std.specs.List.{sum_by}
use Rattle.std.specs.Ordering.{nat_cmp}
use Rattle.std.specs.FinMap.Entries.{find}
use Rattle.std.proofs.lemmas.Bool.Decides.{nat_tests}
use Rattle.std.proofs.lemmas.List.Sums.{sum_by-cons}
use Rattle.fuxi_terms.specs.Cluster.{ClusterRecord}
use Rattle.fuxi_terms.specs.Keys.{key_cmp}
use Rattle.fuxi_terms.specs.Counts.{count}
use Rattle.spec_net.specs.Net.{Net, Link, Move, Starts, Posts, Turns, Hears, Resyncs, move, comes, at_index}
use Rattle.spec_net.specs.Ledgers.{Ledger, nothing, at_key}
use Rattle.fuxi_terms.specs.TallyKeys.{credited_key, back_key}
use Rattle.spec_net.specs.Channels.{master_id, app_id, party, shape}
use Rattle.fuxi_terms.specs.Jobs.{is_live}
use Rattle.spec_roles.specs.Masters.{Master, credited_of}
use Rattle.spec_world.specs.World.{World, empty_world}
use Rattle.spec_roles.specs.MasterSteps.{master_party}
use Rattle.spec_roles.specs.Refusals.{with_found}
use Rattle.spec_net.specs.Sound.{Rising}
use Rattle.spec_world.specs.Credits.{AllCreditedOnce, credited_in, given_back_by, rises_from}
use Rattle.spec_world.specs.Events.{Event, world_step}
use Rattle.spec_world.specs.Runs.{run_from, run}
use Rattle.fuxi_terms.proofs.Booleans.{both_true, number_is}
use Rattle.spec_net.proofs.SoundLemmas.{Grows, Longer, posted_longer}
use Rattle.spec_net.proofs.PublishLemmas.{grows_itself, grows_then}
use Rattle.spec_world.proofs.MovesWalk.{run_from_keeps}
use Rattle.spec_world.specs.Good.{Invariant, StartsAnew}

module _ (h : List Ledger) (u m : ℕ) where
  -- what was given back only grows
  given_grows : (i j : ℕ) → i ≤ j → given_back_by h u m i ≤ given_back_by h u m j
  given_grows i zero le = let same : i ≡ 0 = omega (arith, le) in let s = ap (given_back_by h u m) same in omega (arith, s)
  given_grows i (suc j) le = elim (nat_lt j i) as (λ b. nat_lt j i ≡ b → given_back_by h u m i ≤ given_back_by h u m (suc j)) [
    | true ↦ λ t. let above : j < i = grind (arith, nat_tests) in let same : i ≡ suc j = omega (arith, above, le) in let s = ap (given_back_by h u m) same in omega (arith, s)
    | false ↦ λ t. let within : i ≤ j = grind (arith, nat_tests) in let g = given_grows i j within in omega (arith, g)
  ] refl

  -- of a demand for a later epoch all that it gives back was given back since
  raised : (known : ℕ) → Rising shape h known → ((n : ℕ) → n + 1 ≤ length h → StartsAnew (at_index nothing h n) (at_index nothing h (n + 1)))
      → (i j : ℕ) → i ≤ j → j ≤ length h → (at_index nothing h i).head < (at_index nothing h j).head → given_back_by h u m i + at_key (at_index nothing h j) (back_key u m) ≤ given_back_by h u m j
  raised known r anew i zero le top above = let same : i ≡ 0 = omega (arith, le) in let s = ap (λ n. (at_index nothing h n).head) same in absurd (omega (arith, s, above))
  raised known r anew i (suc j) le top above = by (λ lower. raised known r anew i j before (omega (arith, top)) lower) (nat_eq (at_index nothing h j).head (at_index nothing h (suc j)).head) refl
    where
      before : i ≤ j
      before = elim (nat_lt j i) as (λ b. nat_lt j i ≡ b → i ≤ j) [
        | true ↦ λ t. let more : j < i = grind (arith, nat_tests) in let same : i ≡ suc j = omega (arith, more, le) in let s = ap (λ n. (at_index nothing h n).head) same in absurd (omega (arith, s, above))
        | false ↦ λ t. grind (arith, nat_tests)
      ] refl

      next : j + 1 ≡ suc j
      next = omega arith

      none : nat_eq (at_index nothing h j).head (at_index nothing h (suc j)).head ≡ false → at_key (at_index nothing h (suc j)) (back_key u m) ≡ 0
      none t = subst (λ n. at_key (at_index nothing h n) (back_key u m) ≡ 0) next (anew j (omega (arith, top)) (λ same. let s : (at_index nothing h j).head ≡ (at_index nothing h (suc j)).head = same ∙ ap (λ n. (at_index nothing h n).head) next in let yes : nat_eq (at_index nothing h j).head (at_index nothing h (suc j)).head ≡ true = grind (arith, nat_tests, s) in cc) u m)

      by : ((at_index nothing h i).head < (at_index nothing h j).head → given_back_by h u m i + at_key (at_index nothing h j) (back_key u m) ≤ given_back_by h u m j)
          → (b : Bool) → nat_eq (at_index nothing h j).head (at_index nothing h (suc j)).head ≡ b → given_back_by h u m i + at_key (at_index nothing h (suc j)) (back_key u m) ≤ given_back_by h u m (suc j)
      by earlier true t =
          let same : (at_index nothing h j).head ≡ (at_index nothing h (suc j)).head = number_is _ _ t in
          let lower : (at_index nothing h i).head < (at_index nothing h j).head = omega (arith, same, above) in
          let rest = earlier lower in
          omega (arith, rest)
      by earlier false t = let z = none t in let g = given_grows i j before in omega (arith, z, g)

  -- a number is what a demand for an epoch gives back
  record IsBackAt (e v : ℕ) : Type 0 where
    place : ℕ
    there : place ≤ length h
    head : (at_index nothing h place).head ≡ e
    is : v ≡ at_key (at_index nothing h place) (back_key u m)

  rises_below : (e f : ℕ) (fs : List ℕ) → e ≤ f → rises_from f fs ≡ true → rises_from e fs ≡ true
  rises_below e f [] le r = refl
  rises_below e f (g ∷ gs) le r =
      let p = both_true (nat_lt f g) (rises_from g gs) r in
      let first = p.0 in
      let yes : nat_lt e g ≡ true = grind (arith, nat_tests, first, le) in
      ap (λ b. b && rises_from g gs) yes ∙ p.1

  -- epoch by epoch
  all_given : (f : ℕ → ℕ) (known : ℕ) → Rising shape h known → ((n : ℕ) → n + 1 ≤ length h → StartsAnew (at_index nothing h n) (at_index nothing h (n + 1))) → ((e : ℕ) → (f e ≡ 0) ⊎ IsBackAt e (f e))
      → (es : List ℕ) (i : ℕ) → i ≤ length h → rises_from (at_index nothing h i).head es ≡ true → given_back_by h u m i + sum_by f es ≤ given_back_by h u m (length h)
  all_given f known r anew each [] i le rise = let g = given_grows i (length h) le in let z : sum_by f [] ≡ 0 = refl in omega (arith, g, z)
  all_given f known r anew each (e ∷ es) i le rise = by (all_given f known r anew each es) (each e)
    where
      parts : (nat_lt (at_index nothing h i).head e ≡ true) × (rises_from e es ≡ true)
      parts = both_true (nat_lt (at_index nothing h i).head e) (rises_from e es) rise

      first : nat_lt (at_index nothing h i).head e ≡ true
      first = parts.0

      under : (at_index nothing h i).head < e
      under = grind (arith, nat_tests, first)

      by : ((i : ℕ) → i ≤ length h → rises_from (at_index nothing h i).head es ≡ true → given_back_by h u m i + sum_by f es ≤ given_back_by h u m (length h))
          → (f e ≡ 0) ⊎ IsBackAt e (f e) → given_back_by h u m i + sum_by f (e ∷ es) ≤ given_back_by h u m (length h)
      by later (inl zero_here) =
          let rest = later i le (rises_below (at_index nothing h i).head e es (omega (arith, under)) parts.1) in
          let s = sum_by-cons f e es in
          omega (arith, rest, s, zero_here)
      by later (inr k) =
          let head = k.head in
          let behind : i ≤ k.place = elim (nat_lt k.place i) as (λ b. nat_lt k.place i ≡ b → i ≤ k.place) [
            | true ↦ λ t. let low : k.place ≤ i = grind (arith, nat_tests) in let up = r.rises k.place i low le in absurd (omega (arith, up, head, under))
            | false ↦ λ t. grind (arith, nat_tests)
          ] refl in
          let above : (at_index nothing h i).head < (at_index nothing h k.place).head = omega (arith, head, under) in
          let here = raised known r anew i k.place behind k.there above in
          let rest = later k.place k.there (subst (λ n. rises_from n es ≡ true) (sym head) parts.1) in
          let s = sum_by-cons f e es in
          let is = k.is in
          omega (arith, here, rest, s, is)

-- what a running master credited stands in a demand for its epoch
credited_there : (w : World) (a b u m e : ℕ) → Invariant w → (credited_in w a b u m e ≡ 0) ⊎ IsBackAt (w.net.histories (party (app_id a) b) master_id) u m e (credited_in w a b u m e)
credited_there w a b u m e s = by (find nat_cmp e w.masters) refl
  where
    h : List Ledger
    h = w.net.histories (party (app_id a) b) master_id

    credited : Master → ℕ
    credited M = count key_cmp (credited_of M a) (credited_key u m)

    link : Master → Link
    link M = w.net.links (master_party M) (app_id a)

    of_live : (M : Master) → find nat_cmp e w.masters ≡ Some M → is_live M.jobs a ≡ true → (link M).known ≡ b → (credited M ≡ 0) ⊎ IsBackAt h u m e (credited M)
    of_live M found live same = placed (nat_lt 0 (link M).seq) refl
      where
        seen : credited M ≡ at_key (at_index nothing h (link M).seq) (back_key u m)
        seen = (s.masters e M found).credited.credits a live u m ∙ ap (λ n. at_key (at_index nothing (w.net.histories (party (app_id a) n) master_id) (link M).seq) (back_key u m)) same

        placed : (t : Bool) → nat_lt 0 (link M).seq ≡ t → (credited M ≡ 0) ⊎ IsBackAt h u m e (credited M)
        placed false t = let none : (link M).seq ≡ 0 = grind (arith, nat_tests, t) in inl (seen ∙ ap (λ n. at_key (at_index nothing h n) (back_key u m)) none)
        placed true t =
            let place = (s.sound.links (master_party M) (app_id a)).place in
            inr (record {
              place = (link M).seq;
              there = subst (λ n. (link M).seq ≤ length (w.net.histories (party (app_id a) n) master_id)) same place.there;
              head = subst (λ n. (at_index nothing (w.net.histories (party (app_id a) n) master_id) (link M).seq).head ≡ M.epoch) same (place.head refl (grind (arith, nat_tests, t))) ∙ (s.masters e M found).epoch;
              is = seen;
            })

    of_master : (M : Master) → find nat_cmp e w.masters ≡ Some M → (t : Bool) → (is_live M.jobs a && nat_eq (link M).known b) ≡ t → (cond t (credited M) 0 ≡ 0) ⊎ IsBackAt h u m e (cond t (credited M) 0)
    of_master M found false t = inl refl
    of_master M found true t = let p = both_true (is_live M.jobs a) (nat_eq (link M).known b) t in of_live M found p.0 (number_is (link M).known b p.1)

    by : (o : Option Master) → find nat_cmp e w.masters ≡ o
        → (with_found o 0 (λ M. cond (is_live M.jobs a && nat_eq (link M).known b) (credited M) 0) ≡ 0) ⊎ IsBackAt h u m e (with_found o 0 (λ M. cond (is_live M.jobs a && nat_eq (link M).known b) (credited M) 0))
    by None found = inl refl
    by (Some M) found = of_master M found (is_live M.jobs a && nat_eq (link M).known b) refl

-- Histories grow along a run
move_grows : (before net : Net Ledger) (m : Move Ledger) → Grows shape before.histories net.histories → Grows shape before.histories (move net m).histories
move_grows before net (Starts p) g = g
move_grows before net (Posts p q entry) g = grows_then before net (move net (Posts p q entry)) g (posted_longer shape net p q entry)
move_grows before net (Turns p q) g = g
move_grows before net (Hears p talks which) g = elim (slice_get net.packets which) as (λ o. Grows shape before.histories (comes net p talks o).histories) [ None ↦ g | Some x ↦ g ]
move_grows before net (Resyncs p q) g = g

run_grows : (k : ℕ) (es : List Event) (w : World) → Grows shape (run_from (take k es) w).world.net.histories (run_from es w).world.net.histories
run_grows zero es w = run_from_keeps (λ net. Grows shape w.net.histories net.histories) (move_grows w.net) es w (grows_itself w.net)
run_grows (suc k) [] w = grows_itself w.net
run_grows (suc k) (e ∷ es) w = run_grows k es (world_step w e).world

stays_back : (h h' : List Ledger) (u m e v : ℕ) → Longer nothing h h' → IsBackAt h u m e v → IsBackAt h' u m e v
stays_back h h' u m e v l k = record {
  place = k.place;
  there = omega (arith, k.there, l.long);
  head = ap (λ (x : Ledger). x.head) (l.same k.place k.there) ∙ k.head;
  is = k.is ∙ sym (ap (λ (x : Ledger). at_key x (back_key u m)) (l.same k.place k.there));
}

-- over all masters and epochs
pub credited_once : (c : ClusterRecord) (es : List Event) → ((es : List Event) → Invariant (run c es)) → AllCreditedOnce c es
credited_once c es always a b u m moment epochs rise =
    let p = party (app_id a) b in
    let net = (run c es).net in
    let s = always es in
    let all = all_given (net.histories p master_id) u m (λ e. credited_in (run c (take (moment e) es)) a b u m e) (net.links p master_id).known (s.sound.heads p master_id refl) (s.written a b).anew each epochs 0 (omega arith) rise in
    omega (arith, all)
  where
    each : (e : ℕ) → (credited_in (run c (take (moment e) es)) a b u m e ≡ 0) ⊎ IsBackAt ((run c es).net.histories (party (app_id a) b) master_id) u m e (credited_in (run c (take (moment e) es)) a b u m e)
    each e = by (credited_there (run c (take (moment e) es)) a b u m e (always (take (moment e) es)))
      where
        by : (credited_in (run c (take (moment e) es)) a b u m e ≡ 0) ⊎ IsBackAt ((run c (take (moment e) es)).net.histories (party (app_id a) b) master_id) u m e (credited_in (run c (take (moment e) es)) a b u m e)
            → (credited_in (run c (take (moment e) es)) a b u m e ≡ 0) ⊎ IsBackAt ((run c es).net.histories (party (app_id a) b) master_id) u m e (credited_in (run c (take (moment e) es)) a b u m e)
        by (inl zero_here) = inl zero_here
        by (inr k) = inr (stays_back _ _ u m e (credited_in (run c (take (moment e) es)) a b u m e) ((run_grows (moment e) es (empty_world c)).longer (party (app_id a) b) master_id) k)

-- The steps of the search, from machine to machine, unit to unit and priority to priority.
use Rattle.std.proofs.Common.{◌≡◌, ℕ, zero, suc, ◌+◌, ◌-◌, ◌<◌, Bool, true, false, cond, nat_eq, nat_lt, List, [], ◌∷◌, ◌++◌, length, map, filter, take, drop, get_or, Some, None, refl, sym, ◌∙◌, ap, subst, arith}
use Rattle.std.proofs.lemmas.Bool.Decides.{nat_tests}
use Rattle.fuxi_terms.specs.declared.Key.{Key}
use Rattle.std.specs.Prelude.{◌&&◌, Option, slice_get}
use Rattle.std.specs.Borrow.{Bor}
use Rattle.std.specs.List.{AllByRecursion, flat_map}
use Rattle.std.proofs.lemmas.Grind.{flat_map-append}
use Rattle.std.proofs.lemmas.List.{append-nil, map-append}
use Rattle.fuxi_terms.specs.Cluster.{is_narrow}
use Rattle.fuxi_terms.specs.Jobs.{unit_count, priority_of, size_at}
use Rattle.fuxi_terms.specs.Keys.{Spot, Pair}
use Rattle.fuxi_terms.specs.Lists.{below}
use Rattle.fuxi_terms.specs.Tables.{spot, held_on, Table}
use Rattle.fuxi_terms.proofs.Alls.{all_append, all_more, all_filter, all_flat}
use Rattle.fuxi_terms.proofs.Lists.{take_last}
use Rattle.spec_roles.specs.Placing.{Board, accepts_in}
use Rattle.spec_roles.specs.Preemption.{Plan as WrittenPlan}
use Rattle.spec_roles.specs.Preemption.{victims_in, taken_in, needed_in, without_one, walk_in, may_take_in, is_enough_in, is_some_set, first_plan_in, plan_in, tried_in, by_priority_in, falling_priorities}
use Rattle.grant_table.specs.GrantTables.{TableRecord, IsSound, as_known}
use Rattle.preempt.specs.declared.entry.Entry.{Entry}
use Rattle.preempt.specs.declared.plan.Plan.{Plan}
use Rattle.preempt.specs.declared.plan.Victim.{Victim}
use Rattle.preempt.specs.Given.{IsEntry, board_at, board_of, pair_of}
use Rattle.preempt.specs.Plans.{IsBoardOf, IsTakable, AreTakable, losers_of, plan_as}
use Rattle.preempt.specs.Shelves.{HasNoVictims}
use Rattle.preempt.specs.Search.{accepts_at, pairs_to, pairs_on, pairs_at, IsFound}
use Rattle.preempt.proofs.VictimsTaken.{room_after}
use Rattle.preempt.proofs.Promised.{promised, other_units}
use Rattle.preempt.proofs.SearchLemmas.{first_behind, first_before, one_without, one_with, none_from, wide_none, pairs_more, pairs_begin}
use Rattle.preempt.proofs.UnitSteps.{got}
use Rattle.preempt.proofs.CountedAsWritten.{at_index}

-- ---- the victims of a pair read neither what is asked nor where a unit may be granted
module _ (B : Board) (asks : ℕ → Key → ℕ) (may_use : ℕ → ℕ → ℕ → Bool) (serving : Bool) (table : Table) (t : Spot) where
  abbrev other : Board
  other = record { cluster = B.cluster; priorities = B.priorities; sizes = B.sizes; mosts = B.mosts; groups = B.groups; asks = asks; may_use = may_use; serving = serving }

  taken_same : (ss set : List Spot) → taken_in ss B table t set ≡ taken_in ss other table t set
  taken_same [] set = refl
  taken_same (s ∷ ss) set = let r = taken_same ss (cond (may_take_in B table t set s) (set ++ s ∷ []) set) in λ i. elim (is_enough_in B table t set) as (λ _. List Spot) [ true ↦ set | false ↦ r i ]

  needed_same : (ss set : List Spot) → needed_in ss B table t set ≡ needed_in ss other table t set
  needed_same [] set = refl
  needed_same (s ∷ ss) set = needed_same ss (cond (is_enough_in B table t (without_one s set)) (without_one s set) set)

  pub victims_same : victims_in B table t ≡ victims_in other table t
  victims_same =
      let set = taken_in (walk_in B.priorities table t.machine) B table t [] in
      let n = needed_same set set in
      (λ i. elim (is_enough_in B table t set && is_some_set set) as (λ _. Option (List Spot)) [ true ↦ Some (n i) | false ↦ None ])
      ∙ ap (λ x. elim (is_enough_in other table t x && is_some_set x) as (λ _. Option (List Spot)) [ true ↦ Some (needed_in x other table t x) | false ↦ None ]) (taken_same (walk_in B.priorities table t.machine) [])

-- ---- machines
pairs_all : (P : Spot → Type 0) (accepts : ℕ → ℕ → ℕ → Bool) (n : ℕ) (p : Pair) → ((m : ℕ) → m < n → P (spot p.0 p.1 m)) → AllByRecursion P (pairs_to accepts n p)
pairs_all P accepts zero p h = tt
pairs_all P accepts (suc n) p h =
    let e : suc n ≡ n + 1 = omega arith in
    subst (AllByRecursion P) (sym (ap (λ k. pairs_to accepts k p) e ∙ pairs_more accepts n p)) (all_append P (pairs_to accepts n p) (cond (accepts p.0 p.1 n) (spot p.0 p.1 n ∷ []) []) (pairs_all P accepts n p (λ m lt. h m (omega (arith, lt))))
    (elim (accepts p.0 p.1 n) as (λ b. AllByRecursion P (cond b (spot p.0 p.1 n ∷ []) [])) [ true ↦ (h n (omega arith), tt) | false ↦ tt ]))

module _ (t : TableRecord) (usable : ℕ → ℕ → ℕ → Bool) where
  abbrev first : List Spot → Option WrittenPlan
  first ss = first_plan_in ss (board_at t usable) t.entries

  at_usable : (s : Spot) → victims_in (board_of t) t.entries s ≡ victims_in (board_at t usable) t.entries s
  at_usable s = victims_same (board_of t) (λ a k. 0) usable true t.entries s

  unit_without : (p : Pair) → ((m : ℕ) → m < length t.cluster.machines → victims_in (board_of t) t.entries (spot p.0 p.1 m) ≡ None) → AllByRecursion (λ s. victims_in (board_at t usable) t.entries s ≡ None) (pairs_on t usable p)
  unit_without p h = pairs_all (λ s. victims_in (board_at t usable) t.entries s ≡ None) (accepts_at t usable) (length t.cluster.machines) p (λ m lt. sym (at_usable (spot p.0 p.1 m)) ∙ h m lt)

  pub none_found : (p : Pair) → ((m : ℕ) → m < length t.cluster.machines → victims_in (board_of t) t.entries (spot p.0 p.1 m) ≡ None) → IsFound t usable (pairs_on t usable p) None
  none_found p h = record { is = sym (none_from (board_at t usable) t.entries (pairs_on t usable p) (unit_without p h)); made = tt }

  pub wide_found : (p : Pair) → is_narrow t.cluster (size_at (as_known t.jobs) p.0 p.1) ≡ false → IsFound t usable (pairs_on t usable p) None
  wide_found p f = none_found p (λ m _. wide_none (board_of t) t.entries (spot p.0 p.1 m) f)

  pub passed_closed : (p : Pair) (n : ℕ) → accepts_at t usable p.0 p.1 n ≡ false → first (pairs_to (accepts_at t usable) n p) ≡ None → first (pairs_to (accepts_at t usable) (n + 1) p) ≡ None
  passed_closed p n f h = ap first (pairs_more (accepts_at t usable) n p) ∙ first_behind (board_at t usable) t.entries (pairs_to (accepts_at t usable) n p) (cond (accepts_at t usable p.0 p.1 n) (spot p.0 p.1 n ∷ []) []) h ∙ ap (λ b. first (cond b (spot p.0 p.1 n ∷ []) [])) f

  pub passed_without : (p : Pair) (n : ℕ) → accepts_at t usable p.0 p.1 n ≡ true → victims_in (board_of t) t.entries (spot p.0 p.1 n) ≡ None → first (pairs_to (accepts_at t usable) n p) ≡ None → first (pairs_to (accepts_at t usable) (n + 1) p) ≡ None
  passed_without p n u v h = ap first (pairs_more (accepts_at t usable) n p) ∙ first_behind (board_at t usable) t.entries (pairs_to (accepts_at t usable) n p) (cond (accepts_at t usable p.0 p.1 n) (spot p.0 p.1 n ∷ []) []) h ∙ ap (λ b. first (cond b (spot p.0 p.1 n ∷ []) [])) u
      ∙ one_without (board_at t usable) t.entries (spot p.0 p.1 n) (sym (at_usable (spot p.0 p.1 n)) ∙ v)

  pub passed_none : (p : Pair) (n : ℕ) → victims_in (board_of t) t.entries (spot p.0 p.1 n) ≡ None → first (pairs_to (accepts_at t usable) n p) ≡ None → first (pairs_to (accepts_at t usable) (n + 1) p) ≡ None
  passed_none p n v h = by (accepts_at t usable p.0 p.1 n) refl
    where
      by : (b : Bool) → accepts_at t usable p.0 p.1 n ≡ b → first (pairs_to (accepts_at t usable) (n + 1) p) ≡ None
      by true u = passed_without p n u v h
      by false u = passed_closed p n u h

  pub found_here : (plan : Plan) → IsSound t → plan.pick.unit.0 < unit_count (as_known t.jobs) plan.pick.app.0 → plan.pick.machine.0 < length t.cluster.machines
      → accepts_at t usable plan.pick.app.0 plan.pick.unit.0 plan.pick.machine.0 ≡ true
      → victims_in (board_of t) t.entries (spot plan.pick.app.0 plan.pick.unit.0 plan.pick.machine.0) ≡ Some (losers_of plan.pick.machine.0 plan.victims)
      → AreTakable t plan.pick.machine.0 plan.victims
      → first (pairs_to (accepts_at t usable) plan.pick.machine.0 (plan.pick.app.0, plan.pick.unit.0)) ≡ None
      → IsFound t usable (pairs_on t usable (plan.pick.app.0, plan.pick.unit.0)) (Some plan)
  found_here plan sound unit machine u v takable h =
      let a = plan.pick.app.0 in
      let w = plan.pick.unit.0 in
      let n = plan.pick.machine.0 in
      let s = spot a w n in
      let p : Pair = (a, w) in
      let here : first (pairs_to (accepts_at t usable) (n + 1) p) ≡ Some (plan_as plan) = ap first (pairs_more (accepts_at t usable) n p) ∙ first_behind (board_at t usable) t.entries (pairs_to (accepts_at t usable) n p) (cond (accepts_at t usable a w n) (s ∷ []) []) h
      ∙ ap (λ b. first (cond b (s ∷ []) [])) u ∙ one_with (board_at t usable) t.entries s (losers_of n plan.victims) (sym (at_usable s) ∙ v) in
      let begins = pairs_begin (accepts_at t usable) p (n + 1) (length t.cluster.machines - (n + 1)) in
      let whole : n + 1 + (length t.cluster.machines - (n + 1)) ≡ length t.cluster.machines = omega (arith, machine) in
      let is = promised (board_of t) t.entries s (losers_of n plan.victims) v in
      record {
        is = sym (ap (λ k. first (pairs_to (accepts_at t usable) k p)) (sym whole) ∙ ap first begins.is ∙ first_before (board_at t usable) t.entries (pairs_to (accepts_at t usable) (n + 1) p) begins.rest (plan_as plan) here);
        made = record {
          unit = unit;
          machine = machine;
          victims = takable;
          others = other_units (board_of t) t.entries a w n plan.victims is.lower (all_more (IsTakable t n) (λ (v : Victim). 0 < v.count) (λ v k. k.some) plan.victims takable.each);
          room = room_after t s plan.victims sound machine takable is.enough;
        };
      }

  -- ---- units
  abbrev has_priority : ℕ → Pair → Bool
  has_priority n p = nat_eq (priority_of (as_known t.jobs) p.0 p.1) n

  filter_both : (q : Pair → Bool) (xs ys : List Pair) → filter q (xs ++ ys) ≡ filter q xs ++ filter q ys
  filter_both q [] ys = refl
  filter_both q (x ∷ xs) ys = elim (q x) as (λ b. cond b (x ∷ filter q (xs ++ ys)) (filter q (xs ++ ys)) ≡ cond b (x ∷ filter q xs) (filter q xs) ++ filter q ys) [
    | true ↦ ap (λ zs. x ∷ zs) (filter_both q xs ys)
    | false ↦ filter_both q xs ys
  ]

  at_both : (n : ℕ) (xs ys : List Pair) → pairs_at t usable n (xs ++ ys) ≡ pairs_at t usable n xs ++ pairs_at t usable n ys
  at_both n xs ys = ap (flat_map (pairs_on t usable)) (filter_both (has_priority n) xs ys) ∙ flat_map-append (pairs_on t usable) (filter (has_priority n) xs) (filter (has_priority n) ys)

  at_one : (n : ℕ) (p : Pair) → has_priority n p ≡ true → pairs_at t usable n (p ∷ []) ≡ pairs_on t usable p
  at_one n p h = ap (λ b. flat_map (pairs_on t usable) (cond b (p ∷ []) [])) h ∙ append-nil (pairs_on t usable p)

  at_other : (n : ℕ) (p : Pair) → has_priority n p ≡ false → pairs_at t usable n (p ∷ []) ≡ []
  at_other n p h = ap (λ b. flat_map (pairs_on t usable) (cond b (p ∷ []) [])) h

  -- the units before one, and with it
  begun : (es : List Entry) (k : ℕ) (d : Entry) → k < length es → map pair_of (take (k + 1) es) ≡ map pair_of (take k es) ++ pair_of (get_or es k d) ∷ []
  begun es k d lt = ap (map pair_of) (take_last es k (get_or es k d) (got (λ _. true) es k d lt)) ∙ map-append pair_of (take k es) (get_or es k d ∷ [])

  pub passed_other : (n : ℕ) (es : List Entry) (k : ℕ) (d : Entry) → k < length es → has_priority n (pair_of (get_or es k d)) ≡ false → first (pairs_at t usable n (map pair_of (take k es))) ≡ None → first (pairs_at t usable n (map pair_of (take (k + 1) es))) ≡ None
  passed_other n es k d lt f h =
      let p = pair_of (get_or es k d) in
      ap (λ ps. first (pairs_at t usable n ps)) (begun es k d lt) ∙ ap first (at_both n (map pair_of (take k es)) (p ∷ []))
      ∙ first_behind (board_at t usable) t.entries (pairs_at t usable n (map pair_of (take k es))) (pairs_at t usable n (p ∷ [])) h ∙ ap first (at_other n p f)

  pub passed_unit : (n : ℕ) (es : List Entry) (k : ℕ) (d : Entry) → k < length es → has_priority n (pair_of (get_or es k d)) ≡ true → IsFound t usable (pairs_on t usable (pair_of (get_or es k d))) None
      → first (pairs_at t usable n (map pair_of (take k es))) ≡ None → first (pairs_at t usable n (map pair_of (take (k + 1) es))) ≡ None
  passed_unit n es k d lt e f h =
      let p = pair_of (get_or es k d) in
      ap (λ ps. first (pairs_at t usable n ps)) (begun es k d lt) ∙ ap first (at_both n (map pair_of (take k es)) (p ∷ []))
      ∙ first_behind (board_at t usable) t.entries (pairs_at t usable n (map pair_of (take k es))) (pairs_at t usable n (p ∷ [])) h ∙ ap first (at_one n p e) ∙ sym f.is

  split_at : (es : List Entry) (k : ℕ) → es ≡ take k es ++ drop k es
  split_at es zero = refl
  split_at [] (suc k) = refl
  split_at (e ∷ es) (suc k) = ap (λ xs. e ∷ xs) (split_at es k)

  pub found_unit : (n : ℕ) (es : List Entry) (k : ℕ) (d : Entry) (plan : Plan) → k < length es → has_priority n (pair_of (get_or es k d)) ≡ true → IsFound t usable (pairs_on t usable (pair_of (get_or es k d))) (Some plan)
      → first (pairs_at t usable n (map pair_of (take k es))) ≡ None → IsFound t usable (pairs_at t usable n (map pair_of es)) (Some plan)
  found_unit n es k d plan lt e f h =
      let p = pair_of (get_or es k d) in
      let here : first (pairs_at t usable n (map pair_of (take (k + 1) es))) ≡ Some (plan_as plan) = ap (λ ps. first (pairs_at t usable n ps)) (begun es k d lt) ∙ ap first (at_both n (map pair_of (take k es)) (p ∷ []))
      ∙ first_behind (board_at t usable) t.entries (pairs_at t usable n (map pair_of (take k es))) (pairs_at t usable n (p ∷ [])) h ∙ ap first (at_one n p e) ∙ sym f.is in
      let whole : map pair_of es ≡ map pair_of (take (k + 1) es) ++ map pair_of (drop (k + 1) es) = ap (map pair_of) (split_at es (k + 1)) ∙ map-append pair_of (take (k + 1) es) (drop (k + 1) es) in
      record {
        is = sym (ap (λ ps. first (pairs_at t usable n ps)) whole ∙ ap first (at_both n (map pair_of (take (k + 1) es)) (map pair_of (drop (k + 1) es)))
            ∙ first_before (board_at t usable) t.entries (pairs_at t usable n (map pair_of (take (k + 1) es))) (pairs_at t usable n (map pair_of (drop (k + 1) es))) (plan_as plan) here);
        made = f.made;
      }

  -- ---- priorities
  abbrev pub down_to : List Pair → List ℕ → List Spot
  down_to line ks = flat_map (λ n. pairs_at t usable n line) ks

  falling_at : (late : ℕ) → late < 10 → slice_get falling_priorities late ≡ Some (9 - late)
  falling_at zero lt = refl
  falling_at (suc zero) lt = refl
  falling_at (suc (suc zero)) lt = refl
  falling_at (suc (suc (suc zero))) lt = refl
  falling_at (suc (suc (suc (suc zero)))) lt = refl
  falling_at (suc (suc (suc (suc (suc zero))))) lt = refl
  falling_at (suc (suc (suc (suc (suc (suc zero)))))) lt = refl
  falling_at (suc (suc (suc (suc (suc (suc (suc zero))))))) lt = refl
  falling_at (suc (suc (suc (suc (suc (suc (suc (suc zero)))))))) lt = refl
  falling_at (suc (suc (suc (suc (suc (suc (suc (suc (suc zero))))))))) lt = refl
  falling_at (suc (suc (suc (suc (suc (suc (suc (suc (suc (suc n)))))))))) lt = absurd (omega (arith, lt))

  one_lower : (line : List Pair) (late : ℕ) → late < 10 → down_to line (take (late + 1) falling_priorities) ≡ down_to line (take late falling_priorities) ++ pairs_at t usable (9 - late) line
  one_lower line late lt = ap (down_to line) (take_last falling_priorities late (9 - late) (falling_at late lt)) ∙ flat_map-append (λ n. pairs_at t usable n line) (take late falling_priorities) ((9 - late) ∷ [])
      ∙ ap (λ xs. down_to line (take late falling_priorities) ++ xs) (append-nil (pairs_at t usable (9 - late) line))

  pub passed_priority : (line : List Pair) (late : ℕ) → late < 10 → IsFound t usable (pairs_at t usable (9 - late) line) None → first (down_to line (take late falling_priorities)) ≡ None → first (down_to line (take (late + 1) falling_priorities)) ≡ None
  passed_priority line late lt f h = ap first (one_lower line late lt) ∙ first_behind (board_at t usable) t.entries (down_to line (take late falling_priorities)) (pairs_at t usable (9 - late) line) h ∙ sym f.is

  -- where no unit of the line has victims
  units_without : (ps : List Pair) → AllByRecursion (HasNoVictims t) ps → AllByRecursion (λ s. victims_in (board_at t usable) t.entries s ≡ None) (flat_map (pairs_on t usable) ps)
  units_without [] h = tt
  units_without (p ∷ ps) h = all_append (λ s. victims_in (board_at t usable) t.entries s ≡ None) (pairs_on t usable p) (flat_map (pairs_on t usable) ps) (unit_without p (λ m _. h.0.none m)) (units_without ps h.1)

  pub line_without : (line : List Pair) → AllByRecursion (HasNoVictims t) line → first (down_to line falling_priorities) ≡ None
  line_without line h = none_from (board_at t usable) t.entries (down_to line falling_priorities)
      (all_flat (λ s. victims_in (board_at t usable) t.entries s ≡ None) (λ n. pairs_at t usable n line) falling_priorities (λ n. units_without (filter (has_priority n) line) (all_filter (HasNoVictims t) (has_priority n) line h)))

  falling_split : (n : ℕ) → falling_priorities ≡ take n falling_priorities ++ drop n falling_priorities
  falling_split n = numbers falling_priorities n
    where
      numbers : (xs : List ℕ) (k : ℕ) → xs ≡ take k xs ++ drop k xs
      numbers xs zero = refl
      numbers [] (suc k) = refl
      numbers (x ∷ xs) (suc k) = ap (λ ys. x ∷ ys) (numbers xs k)

  pub found_priority : (line : List Pair) (late : ℕ) (plan : Plan) → late < 10 → IsFound t usable (pairs_at t usable (9 - late) line) (Some plan) → first (down_to line (take late falling_priorities)) ≡ None → Some (plan_as plan) ≡ first (down_to line falling_priorities)
  found_priority line late plan lt f h =
      let here : first (down_to line (take (late + 1) falling_priorities)) ≡ Some (plan_as plan) = ap first (one_lower line late lt) ∙ first_behind (board_at t usable) t.entries (down_to line (take late falling_priorities)) (pairs_at t usable (9 - late) line) h ∙ sym f.is in
      sym (ap (λ ks. first (down_to line ks)) (falling_split (late + 1)) ∙ ap first (flat_map-append (λ n. pairs_at t usable n line) (take (late + 1) falling_priorities) (drop (late + 1) falling_priorities))
      ∙ first_before (board_at t usable) t.entries (down_to line (take (late + 1) falling_priorities)) (down_to line (drop (late + 1) falling_priorities)) (plan_as plan) here)

-- ---- every board that says the same has the same plan
flat_flat : {A C D : Type 0} (g : C → List D) (f : A → List C) (xs : List A) → flat_map g (flat_map f xs) ≡ flat_map (λ x. flat_map g (f x)) xs
flat_flat g f [] = refl
flat_flat g f (x ∷ xs) = flat_map-append g (f x) (flat_map f xs) ∙ ap (λ ys. flat_map g (f x) ++ ys) (flat_flat g f xs)

flat_same : {A C : Type 0} (P : A → Type 0) (f g : A → List C) → ((x : A) → P x → f x ≡ g x) → (xs : List A) → AllByRecursion P xs → flat_map f xs ≡ flat_map g xs
flat_same P f g h [] a = refl
flat_same P f g h (x ∷ xs) a = let p = h x a.0 in let r = flat_same P f g h xs a.1 in λ i. p i ++ r i

filter_same : (f g : ℕ → Bool) (n : ℕ) → ((m : ℕ) → m < n → f m ≡ g m) → filter f (below n) ≡ filter g (below n)
filter_same f g zero h = refl
filter_same f g (suc n) h =
    let r = filter_same f g n (λ m lt. h m (omega (arith, lt))) in
    let e = h n (omega arith) in
    last f (below n) ∙ (λ i. r i ++ cond (e i) (n ∷ []) []) ∙ sym (last g (below n))
  where
    last : (q : ℕ → Bool) (xs : List ℕ) → filter q (xs ++ n ∷ []) ≡ filter q xs ++ cond (q n) (n ∷ []) []
    last q [] = refl
    last q (x ∷ xs) = elim (q x) as (λ b. cond b (x ∷ filter q (xs ++ n ∷ [])) (filter q (xs ++ n ∷ [])) ≡ cond b (x ∷ filter q xs) (filter q xs) ++ cond (q n) (n ∷ []) []) [ true ↦ ap (λ ys. x ∷ ys) (last q xs) | false ↦ last q xs ]

module _ (B : Board) (t : TableRecord) (usable : ℕ → ℕ → ℕ → Bool) (h : IsBoardOf B t usable) where
  same_victims : (s : Spot) → victims_in B t.entries s ≡ victims_in (board_at t usable) t.entries s
  same_victims s = victims_same B (λ a k. 0) usable true t.entries s ∙ (λ i. victims_in (record { cluster = h.cluster i; priorities = λ a u. h.priorities a u i; sizes = λ a u k. h.sizes a u k i; mosts = λ a u. h.mosts a u i; groups = λ a. h.groups a i; asks = λ a k. 0; may_use = usable; serving = true }) t.entries s)

  same_first : (ss : List Spot) → first_plan_in ss B t.entries ≡ first_plan_in ss (board_at t usable) t.entries
  same_first [] = refl
  same_first (s ∷ ss) = let v = same_victims s in let r = same_first ss in λ i. elim (v i) as (λ _. Option WrittenPlan) [ None ↦ r i | Some vs ↦ Some (record { served = s; losers = vs }) ]

  same_pairs : (p : Pair) → p.1 < unit_count (as_known t.jobs) p.0 → map (spot p.0 p.1) (filter (accepts_in B t.entries p.0 p.1) (below (length B.cluster.machines))) ≡ pairs_on t usable p
  same_pairs p lt = ap (λ n. map (spot p.0 p.1) (filter (accepts_in B t.entries p.0 p.1) (below n))) (λ i. length (h.cluster i).machines) ∙ ap (map (spot p.0 p.1)) (filter_same (accepts_in B t.entries p.0 p.1) (accepts_at t usable p.0 p.1) (length t.cluster.machines) (λ m l. λ i. h.may_use p.0 p.1 m lt l i && nat_lt (held_on t.entries p.0 p.1 m) (h.mosts p.0 p.1 i)))

  pub same_plan : (line : List Pair) → AllByRecursion (λ p. p.1 < unit_count (as_known t.jobs) p.0) line → plan_in B t.entries line ≡ first_plan_in (down_to t usable line falling_priorities) (board_at t usable) t.entries
  same_plan line admitted =
      ap (λ ss. first_plan_in ss B t.entries) tried ∙ same_first (down_to t usable line falling_priorities)
    where
      of : ℕ → List Pair
      of n = filter (λ p. nat_eq (priority_of (as_known t.jobs) p.0 p.1) n) line

      tried : tried_in B t.entries line ≡ down_to t usable line falling_priorities
      tried =
          (λ i. flat_map (λ p. map (spot p.0 p.1) (filter (accepts_in B t.entries p.0 p.1) (below (length B.cluster.machines)))) (by_priority_in (λ a u. h.priorities a u i) line))
          ∙ flat_flat (λ (p : Pair). map (spot p.0 p.1) (filter (accepts_in B t.entries p.0 p.1) (below (length B.cluster.machines)))) of falling_priorities
          ∙ (λ i. flat_map (λ n. each n i) falling_priorities)
        where
          each : (n : ℕ) → flat_map (λ (p : Pair). map (spot p.0 p.1) (filter (accepts_in B t.entries p.0 p.1) (below (length B.cluster.machines)))) (of n) ≡ pairs_at t usable n line
          each n = flat_same (λ (p : Pair). p.1 < unit_count (as_known t.jobs) p.0) (λ (p : Pair). map (spot p.0 p.1) (filter (accepts_in B t.entries p.0 p.1) (below (length B.cluster.machines)))) (pairs_on t usable) same_pairs (of n)
              (all_filter (λ (p : Pair). p.1 < unit_count (as_known t.jobs) p.0) (λ p. nat_eq (priority_of (as_known t.jobs) p.0 p.1) n) line admitted)

-- ---- a unit of the line that has the priority which is searched
abbrev pub no_entry : Entry
no_entry = record { app = record { 0 = 0 }; unit = record { 0 = 0 }; group = 0; priority = 0; count = 0; size = record { ref_ptr = (0, 0); now = record { q = [] } } }

-- and what a unit has by machine
abbrev pub no_row : Bor (List ℕ)
no_row = record { ref_ptr = (0, 0); now = [] }

pub of_priority_at : (t : TableRecord) (n : ℕ) (es : List Entry) (k : ℕ) → k < length es → AllByRecursion (IsEntry t) es → nat_eq (get_or es k no_entry).priority n ≡ true
    → nat_eq (priority_of (as_known t.jobs) (get_or es k no_entry).app.0 (get_or es k no_entry).unit.0) n ≡ true
of_priority_at t n es k lt all is = let p = (at_index (IsEntry t) es k no_entry lt all).priority in grind (arith, nat_tests, p, is)

-- Entries on a machine put into the order of the walk are those of lower priority first, each from the last to the first.
use Rattle.std.proofs.Common.{◌≡◌, ◌⊎◌, inl, inr, ℕ, zero, suc, ◌<◌, ◌≤◌, Bool, true, false, cond, nat_eq, nat_lt, List, [], ◌∷◌, ◌++◌, refl, sym, ◌∙◌, ap, subst, arith}
use Rattle.std.specs.Prelude.{◌&&◌, ◌||◌}
use Rattle.std.specs.List.{AllByRecursion, flat_map}
use Rattle.std.proofs.lemmas.Bool.{cases_lt}
use Rattle.std.proofs.lemmas.Bool.Decides.{nat_tests}
use Rattle.std.proofs.lemmas.Grind.{flat_map-append}
use Rattle.std.proofs.lemmas.List.{append-nil}
use Rattle.fuxi_terms.specs.Keys.{Spot, Pair}
use Rattle.fuxi_terms.specs.Lists.{below}
use Rattle.fuxi_terms.specs.Tables.{spot, held_on, Table}
use Rattle.fuxi_terms.proofs.Alls.{all_append}
use Rattle.fuxi_terms.proofs.Booleans.{and_false}
use Rattle.spec_roles.specs.Preemption.{goes_before_by, put_grant_by, in_walk_order_by}
use Rattle.preempt.specs.Walks.{backward, pairs_by_priority, entry_on}

-- a unit that stands behind another in the order of job and unit
abbrev pub IsAfter : Pair → Pair → Type 0
IsAfter p q = (p.0 < q.0) ⊎ ((p.0 ≡ q.0) × (p.1 < q.1))

abbrev pub IsRising : List Pair → Type 0
IsRising [] = Unit
IsRising (p ∷ ps) = AllByRecursion (IsAfter p) ps × IsRising ps

-- what goes behind an entry, and what goes before it
module _ (priorities : ℕ → ℕ → ℕ) (e : Spot × ℕ) where
  put_behind : (as_ bs : Table) → AllByRecursion (λ x. goes_before_by priorities e.0 x.0 ≡ false) as_ → put_grant_by priorities e (as_ ++ bs) ≡ as_ ++ put_grant_by priorities e bs
  put_behind [] bs h = refl
  put_behind (a ∷ as_) bs h = ap (λ b. cond b (e ∷ a ∷ (as_ ++ bs)) (a ∷ put_grant_by priorities e (as_ ++ bs))) h.0 ∙ ap (λ xs. a ∷ xs) (put_behind as_ bs h.1)

  put_before : (as_ bs : Table) → AllByRecursion (λ x. goes_before_by priorities e.0 x.0 ≡ true) bs → put_grant_by priorities e (as_ ++ bs) ≡ put_grant_by priorities e as_ ++ bs
  put_before [] [] h = refl
  put_before [] (b ∷ bs) h = ap (λ t. cond t (e ∷ b ∷ bs) (b ∷ put_grant_by priorities e bs)) h.0
  put_before (a ∷ as_) bs h = elim (goes_before_by priorities e.0 a.0) as (λ t. cond t (e ∷ a ∷ (as_ ++ bs)) (a ∷ put_grant_by priorities e (as_ ++ bs)) ≡ cond t (e ∷ a ∷ as_) (a ∷ put_grant_by priorities e as_) ++ bs) [
    | true ↦ refl
    | false ↦ ap (λ xs. a ∷ xs) (put_before as_ bs h)
  ]

module _ (es : Table) (m : ℕ) (priorities : ℕ → ℕ → ℕ) where
  abbrev listed : List Pair → Table
  listed ps = flat_map (entry_on es m) ps

  abbrev at_priority : ℕ → Pair → Bool
  at_priority k p = nat_eq (priorities p.0 p.1) k

  -- the entries of one priority, and of all below one
  abbrev bucket : ℕ → List Pair → Table
  bucket k ps = listed (backward (at_priority k) ps)

  abbrev filled : ℕ → List Pair → Table
  filled n ps = listed (pairs_by_priority priorities ps n)

  filled_more : (k : ℕ) (ps : List Pair) → filled (suc k) ps ≡ filled k ps ++ bucket k ps
  filled_more k ps =
      ap listed (flat_map-append (λ k. backward (at_priority k) ps) (below k) (k ∷ []) ∙ ap (λ xs. pairs_by_priority priorities ps k ++ xs) (append-nil (backward (at_priority k) ps)))
      ∙ flat_map-append (entry_on es m) (pairs_by_priority priorities ps k) (backward (at_priority k) ps)

  bucket_cons : (k : ℕ) (p : Pair) (ps : List Pair) → bucket k (p ∷ ps) ≡ bucket k ps ++ listed (cond (at_priority k p) (p ∷ []) [])
  bucket_cons k p ps = flat_map-append (entry_on es m) (backward (at_priority k) ps) (cond (at_priority k p) (p ∷ []) [])

  bucket_other : (k : ℕ) (p : Pair) (ps : List Pair) → at_priority k p ≡ false → bucket k (p ∷ ps) ≡ bucket k ps
  bucket_other k p ps f = bucket_cons k p ps ∙ ap (λ b. bucket k ps ++ listed (cond b (p ∷ []) [])) f ∙ append-nil (bucket k ps)

  filled_other : (n : ℕ) (p : Pair) (ps : List Pair) → n ≤ priorities p.0 p.1 → filled n (p ∷ ps) ≡ filled n ps
  filled_other zero p ps h = refl
  filled_other (suc k) p ps h =
      let f : at_priority k p ≡ false = grind (arith, nat_tests, h) in
      let r = filled_other k p ps (omega (arith, h)) in
      let b = bucket_other k p ps f in
      filled_more k (p ∷ ps) ∙ (λ i. r i ++ b i) ∙ sym (filled_more k ps)

  -- a unit without grants fills nothing
  bucket_empty : (k : ℕ) (p : Pair) (ps : List Pair) → entry_on es m p ≡ [] → bucket k (p ∷ ps) ≡ bucket k ps
  bucket_empty k p ps z = bucket_cons k p ps ∙ elim (at_priority k p) as (λ b. bucket k ps ++ listed (cond b (p ∷ []) []) ≡ bucket k ps) [
    | true ↦ ap (λ xs. bucket k ps ++ (xs ++ [])) z ∙ append-nil (bucket k ps)
    | false ↦ append-nil (bucket k ps)
  ]

  filled_empty : (n : ℕ) (p : Pair) (ps : List Pair) → entry_on es m p ≡ [] → filled n (p ∷ ps) ≡ filled n ps
  filled_empty zero p ps z = refl
  filled_empty (suc k) p ps z =
      let r = filled_empty k p ps z in
      let b = bucket_empty k p ps z in
      filled_more k (p ∷ ps) ∙ (λ i. r i ++ b i) ∙ sym (filled_more k ps)

  -- each entry of a bucket has its priority, and stands behind the unit
  record IsIn (p : Pair) (k : ℕ) (x : Spot × ℕ) : Type 0 where
    priority : priorities x.0.job x.0.unit ≡ k
    after : IsAfter p (x.0.job, x.0.unit)

  one_in : (p q : Pair) (k : ℕ) → at_priority k q ≡ true → IsAfter p q → AllByRecursion (IsIn p k) (listed (q ∷ []))
  one_in p q k t h = elim (nat_lt 0 (held_on es q.0 q.1 m)) as (λ b. AllByRecursion (IsIn p k) (cond b ((spot q.0 q.1 m, held_on es q.0 q.1 m) ∷ []) [] ++ [])) [
    | true ↦ (record { priority = grind (arith, nat_tests, t); after = h }, tt)
    | false ↦ tt
  ]

  bucket_in : (p : Pair) (k : ℕ) (ps : List Pair) → AllByRecursion (IsAfter p) ps → AllByRecursion (IsIn p k) (bucket k ps)
  bucket_in p k [] h = tt
  bucket_in p k (q ∷ qs) h = subst (AllByRecursion (IsIn p k)) (sym (bucket_cons k q qs)) (all_append (IsIn p k) (bucket k qs) (listed (cond (at_priority k q) (q ∷ []) [])) (bucket_in p k qs h.1)
      (elim (at_priority k q) as (λ b. at_priority k q ≡ b → AllByRecursion (IsIn p k) (listed (cond b (q ∷ []) []))) [ true ↦ λ t. one_in p q k t h.0 | false ↦ λ _. tt ] refl))

  -- a unit goes before another of greater priority, and behind those of lesser priority and those that stand behind it with the same
  before : (p : Pair) (k : ℕ) (x : Spot × ℕ) → priorities p.0 p.1 < k → IsIn p k x → goes_before_by priorities (spot p.0 p.1 m) x.0 ≡ true
  before p k x lt h = let e = h.priority in let t : nat_lt (priorities p.0 p.1) (priorities x.0.job x.0.unit) ≡ true = grind (arith, nat_tests, lt, e) in ap (λ b. b || (nat_eq (priorities p.0 p.1) (priorities x.0.job x.0.unit) && (nat_lt x.0.job p.0 || (nat_eq x.0.job p.0 && nat_lt x.0.unit p.1)))) t

  behind : (p : Pair) (k : ℕ) (x : Spot × ℕ) → k ≤ priorities p.0 p.1 → IsIn p k x → goes_before_by priorities (spot p.0 p.1 m) x.0 ≡ false
  behind p k x le h =
      let e = h.priority in
      let f : nat_lt (priorities p.0 p.1) (priorities x.0.job x.0.unit) ≡ false = grind (arith, nat_tests, le, e) in
      let g : (nat_lt x.0.job p.0 || (nat_eq x.0.job p.0 && nat_lt x.0.unit p.1)) ≡ false = elim h.after [
        | inl lt ↦ let a : nat_lt x.0.job p.0 ≡ false = grind (arith, nat_tests, lt) in let b : nat_eq x.0.job p.0 ≡ false = grind (arith, nat_tests, lt) in λ i. a i || (b i && nat_lt x.0.unit p.1)
        | inr s ↦ let j = s.0 in let u = s.1 in let a : nat_lt x.0.job p.0 ≡ false = grind (arith, nat_tests, j) in let b : nat_lt x.0.unit p.1 ≡ false = grind (arith, nat_tests, u) in (λ i. a i || (nat_eq x.0.job p.0 && b i)) ∙ and_false (nat_eq x.0.job p.0)
      ] in
      (λ i. f i || (nat_eq (priorities p.0 p.1) (priorities x.0.job x.0.unit) && g i)) ∙ and_false (nat_eq (priorities p.0 p.1) (priorities x.0.job x.0.unit))

  all_before : (p : Pair) (k : ℕ) (xs : Table) → priorities p.0 p.1 < k → AllByRecursion (IsIn p k) xs → AllByRecursion (λ x. goes_before_by priorities (spot p.0 p.1 m) x.0 ≡ true) xs
  all_before p k [] lt h = tt
  all_before p k (x ∷ xs) lt h = (before p k x lt h.0, all_before p k xs lt h.1)

  all_behind : (p : Pair) (k : ℕ) (xs : Table) → k ≤ priorities p.0 p.1 → AllByRecursion (IsIn p k) xs → AllByRecursion (λ x. goes_before_by priorities (spot p.0 p.1 m) x.0 ≡ false) xs
  all_behind p k [] le h = tt
  all_behind p k (x ∷ xs) le h = (behind p k x le h.0, all_behind p k xs le h.1)

  filled_behind : (p : Pair) (n : ℕ) (ps : List Pair) → n ≤ priorities p.0 p.1 → AllByRecursion (IsAfter p) ps → AllByRecursion (λ x. goes_before_by priorities (spot p.0 p.1 m) x.0 ≡ false) (filled n ps)
  filled_behind p zero ps le h = tt
  filled_behind p (suc k) ps le h = subst (AllByRecursion _) (sym (filled_more k ps)) (all_append _ (filled k ps) (bucket k ps) (filled_behind p k ps (omega (arith, le)) h) (all_behind p k (bucket k ps) (omega (arith, le)) (bucket_in p k ps h)))

  -- so an entry is put behind those of its priority
  put_in : (p : Pair) (x : Spot × ℕ) (ps : List Pair) → entry_on es m p ≡ x ∷ [] → x.0 ≡ spot p.0 p.1 m → AllByRecursion (IsAfter p) ps → (n : ℕ) → priorities p.0 p.1 < n → put_grant_by priorities x (filled n ps) ≡ filled n (p ∷ ps)
  put_in p x ps is at h zero lt = absurd (omega (arith, lt))
  put_in p x ps is at h (suc k) lt = elim (cases_lt (priorities p.0 p.1) k) [
    | inl less ↦
        let f : at_priority k p ≡ false = grind (arith, nat_tests, less) in
        let b = bucket_other k p ps f in
        let r = put_in p x ps is at h k less in
        ap (put_grant_by priorities x) (filled_more k ps)
        ∙ put_before priorities x (filled k ps) (bucket k ps) (subst (λ s. AllByRecursion (λ y. goes_before_by priorities s y.0 ≡ true) (bucket k ps)) (sym at) (all_before p k (bucket k ps) less (bucket_in p k ps h)))
        ∙ (λ i. r i ++ sym b i) ∙ sym (filled_more k (p ∷ ps))
    | inr ge ↦
        let same : at_priority k p ≡ true = grind (arith, nat_tests, ge, lt) in
        let le : k ≤ priorities p.0 p.1 = ge in
        let b : bucket k (p ∷ ps) ≡ bucket k ps ++ x ∷ [] = bucket_cons k p ps ∙ ap (λ t. bucket k ps ++ listed (cond t (p ∷ []) [])) same ∙ ap (λ xs. bucket k ps ++ (xs ++ [])) is in
        let o = filled_other k p ps le in
        ap (put_grant_by priorities x) (filled_more k ps)
        ∙ put_behind priorities x (filled k ps) (bucket k ps) (subst (λ s. AllByRecursion (λ y. goes_before_by priorities s y.0 ≡ false) (filled k ps)) (sym at) (filled_behind p k ps le h))
        ∙ ap (λ xs. filled k ps ++ put_grant_by priorities x xs) (sym (append-nil (bucket k ps)))
        ∙ ap (λ xs. filled k ps ++ xs) (put_behind priorities x (bucket k ps) [] (subst (λ s. AllByRecursion (λ y. goes_before_by priorities s y.0 ≡ false) (bucket k ps)) (sym at) (all_behind p k (bucket k ps) le (bucket_in p k ps h))))
        ∙ (λ i. sym o i ++ sym b i) ∙ sym (filled_more k (p ∷ ps))
  ]

  pub walked : (n : ℕ) → ((a u : ℕ) → priorities a u < n) → (ps : List Pair) → IsRising ps → in_walk_order_by priorities (flat_map (entry_on es m) ps) ≡ flat_map (entry_on es m) (pairs_by_priority priorities ps n)
  walked n small [] h = sym (nothing n)
    where
      nothing : (n : ℕ) → filled n [] ≡ []
      nothing zero = refl
      nothing (suc k) = filled_more k [] ∙ append-nil (filled k []) ∙ nothing k
  walked n small (p ∷ ps) h = by (nat_lt 0 (held_on es p.0 p.1 m)) refl (walked n small ps h.1)
    where
      x : Spot × ℕ
      x = (spot p.0 p.1 m, held_on es p.0 p.1 m)

      by : (b : Bool) → nat_lt 0 (held_on es p.0 p.1 m) ≡ b → in_walk_order_by priorities (listed ps) ≡ filled n ps → in_walk_order_by priorities (listed (p ∷ ps)) ≡ filled n (p ∷ ps)
      by true t rest =
          let is : entry_on es m p ≡ x ∷ [] = ap (λ b. cond b (x ∷ []) []) t in
          ap (λ xs. in_walk_order_by priorities (xs ++ listed ps)) is ∙ ap (put_grant_by priorities x) rest ∙ put_in p x ps is refl h.0 n (small p.0 p.1)
      by false t rest =
          let is : entry_on es m p ≡ [] = ap (λ b. cond b (x ∷ []) []) t in
          ap (λ xs. in_walk_order_by priorities (xs ++ listed ps)) is ∙ rest ∙ sym (filled_empty n p ps is)

-- A sort by the votes and then by the number leaves the machines in that order.
use Rattle.std.proofs.Common.{◌≡◌, ◌⊎◌, inl, inr, ℕ, suc, ◌<◌, ◌≤◌, Bool, true, false, nat_eq, nat_lt, List, [], ◌∷◌, map, arith, IsSortedBy, nat_cmp, is_lt, true≢false}
use Rattle.std.specs.List.{AllByRecursion}
use Rattle.std.specs.Ordering.{ordering_then}
use Rattle.std.proofs.lemmas.Bool.{cases_lt}
use Rattle.std.proofs.lemmas.Bool.Decides.{nat_tests}
use Rattle.fuxi_terms.proofs.Alls.{all_more}
use Rattle.schedule_unit.specs.declared.party.MachineNo.{MachineNo}
use Rattle.spec_roles.specs.ServedInOrder.{AreOrdered}
use Rattle.spec_roles.specs.Votes.{VotesRecord, IsNotBehind, votes_of}
use Rattle.bad_nodes.specs.Ranks.{number_of}

-- what a test that finds nothing to exchange says
ranked : (a b m n : ℕ) → is_lt (ordering_then (nat_cmp a b) (nat_cmp n m)) ≡ false → (b < a) ⊎ ((a ≡ b) × (m ≤ n))
ranked a b m n h = elim (cases_lt b a) [
  | inl more ↦ inl more
  | inr le ↦
      elim (cases_lt a b) [
        | inl less ↦ let t : nat_lt a b ≡ true = grind (arith, nat_tests, less) in absurd (true≢false (rw t at h))
        | inr ge ↦
            let tie : a ≡ b = omega (arith, le, ge) in
            let f : nat_lt a b ≡ false = grind (arith, nat_tests, ge) in
            let e : nat_eq a b ≡ true = grind (arith, nat_tests, tie) in
            elim (cases_lt n m) [
              | inl low ↦ let t : nat_lt n m ≡ true = grind (arith, nat_tests, low) in absurd (true≢false (rw (f, e, t) at h))
              | inr up ↦ inr (tie, up)
            ]
      ]
]

module _ (v : VotesRecord) where
  pub not_behind : (m n : ℕ) → is_lt (ordering_then (nat_cmp (votes_of v m) (votes_of v n)) (nat_cmp n m)) ≡ false → IsNotBehind v m n
  not_behind m n h = ranked (votes_of v m) (votes_of v n) m n h

  after : (x y z : ℕ) → IsNotBehind v x y → IsNotBehind v y z → IsNotBehind v x z
  after x y z (inl h) (inl k) = inl (omega (arith, h, k))
  after x y z (inl h) (inr k) = inl (omega (arith, h, k.0))
  after x y z (inr h) (inl k) = inl (omega (arith, h.0, k))
  after x y z (inr h) (inr k) = inr (omega (arith, h.0, k.0), omega (arith, h.1, k.1))

  module _ (lt : MachineNo → MachineNo → Bool) (says : (m n : MachineNo) → lt n m ≡ false → IsNotBehind v m.0 n.0) where
    behind_first : (m : MachineNo) (ms : List MachineNo) → IsSortedBy lt (m ∷ ms) → AreOrdered (IsNotBehind v) (map number_of ms) → AllByRecursion (IsNotBehind v m.0) (map number_of ms)
    behind_first m [] sorted up = tt
    behind_first m (n ∷ ns) sorted up =
        let first : IsNotBehind v m.0 n.0 = says m n (sorted 0 m (omega arith) (omega arith)) in
        (first, all_more (IsNotBehind v n.0) (IsNotBehind v m.0) (λ z. after m.0 n.0 z first) (map number_of ns) up.0)

    -- what a sort leaves
    pub sorted_order : (ms : List MachineNo) → IsSortedBy lt ms → AreOrdered (IsNotBehind v) (map number_of ms)
    sorted_order [] sorted = tt
    sorted_order (m ∷ ms) sorted =
        let rest : IsSortedBy lt ms = λ k d p q. rw Rattle.std.proofs.Common.add-one (rw Rattle.std.proofs.Common.add-one at (sorted (suc k) d (omega arith) (omega arith))) in
        let up = sorted_order ms rest in
        (behind_first m ms sorted up, up)

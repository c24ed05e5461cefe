-- The numbers of ranks order as the ranks do, and what is known of a machine by a number.
use Rattle.std.proofs.Common.{◌≡◌, ℕ, ◌^◌, ◌<◌, ◌≤◌, Bool, true, false, cond, nat_eq, nat_lt, List, [], ◌∷◌, ◌++◌, Option, None, Some, refl, sym, ◌∙◌, ap, subst, arith, inl, inr, ◌⊎◌}
use Rattle.std.specs.Prelude.{◌&&◌, ◌||◌, is_some}
use Rattle.std.proofs.lemmas.Bool.Decides.{nat_tests}
use Rattle.place_pass.specs.declared.marks.mark.Rank.{Rank}
use Rattle.place_pass.specs.Bounds.{MarkRecord, rank_of, key_of, zero_rank, comes_before}
use Rattle.place_pass.specs.PackedRanks.{packed, no_rank, IsSmall, IsAbove}
use Rattle.fuxi_terms.proofs.Lookups.{none_is}
use Rattle.place_pass.specs.declared.search.BestFound.{BestFound}
use Rattle.place_pass.specs.declared.search.Least.{Least}
use Rattle.place_pass.specs.Candidates.{IsBehind, limit_in, number_in, is_first}
use Rattle.place_pass.proofs.CandidatesLemmas.{first_decides}

abbrev pub first_key : Rank
first_key = record { late = 0; level = 0; turn = 0 }

-- a bound of pairs that were not looked at is the least
late : (k : MarkRecord) (turns m : ℕ) → nat_lt k.until turns ≡ true → IsAbove k turns m 0
late k turns m t = record { key = first_key; is = ap (λ b. cond b (Some zero_rank) k.bound) t; small = record { late = omega arith; level = omega arith; turn = omega arith }; above = omega arith }

pub looked : (k : MarkRecord) (r : Rank) (turns m number : ℕ) → nat_lt k.until turns ≡ false → k.bound ≡ Some (rank_of r) → IsSmall r → number ≤ packed r m → IsAbove k turns m number
looked k r turns m number t is small le = record { key = r; is = ap (λ b. cond b (Some zero_rank) k.bound) t ∙ is; small = small; above = le }

none_looked : (k : MarkRecord) → key_of k 0 ≡ k.bound
none_looked k = let t : nat_lt k.until 0 ≡ false = grind (arith, nat_tests) in ap (λ b. cond b (Some zero_rank) k.bound) t

-- no number is below the least one, whatever was looked at
pub least_above : (k : MarkRecord) (turns m number : ℕ) → (is_some (key_of k 0) ≡ true → IsAbove k 0 m number) → is_some (key_of k turns) ≡ true → IsAbove k turns m 0
least_above k turns m number h some = elim (nat_lt k.until turns) as (λ t. nat_lt k.until turns ≡ t → IsAbove k turns m 0) [
  | true ↦ λ t. late k turns m t
  | false ↦ λ t.
      let bound : key_of k turns ≡ k.bound = ap (λ b. cond b (Some zero_rank) k.bound) t in
      let x = h (ap is_some (none_looked k) ∙ sym (ap is_some bound) ∙ some) in
      looked k x.key turns m 0 t (sym (none_looked k) ∙ x.is) x.small (omega arith)
] refl

-- where it has no bound, and where its bound is small
pub least_none : (k : MarkRecord) (turns m : ℕ) → k.bound ≡ None → is_some (key_of k turns) ≡ true → IsAbove k turns m 0
least_none k turns m none some = least_above k turns m 0 (λ e. let f : true ≡ false = sym e ∙ ap is_some (none_looked k ∙ none) in cc) some

pub least_some : (k : MarkRecord) (r : Rank) (turns m : ℕ) → k.bound ≡ Some (rank_of r) → IsSmall r → is_some (key_of k turns) ≡ true → IsAbove k turns m 0
least_some k r turns m is small some = least_above k turns m 0 (λ e. let t : nat_lt k.until 0 ≡ false = grind (arith, nat_tests) in looked k r 0 m 0 t is small (omega arith)) some

-- a lesser number
pub above_less : (k : MarkRecord) (turns m a b : ℕ) → b ≤ a → IsAbove k turns m a → IsAbove k turns m b
above_less k turns m a b le h = record { key = h.key; is = h.is; small = h.small; above = let x = h.above in omega (arith, le, x) }

-- none is above all
pub never_above : (k : MarkRecord) (turns m : ℕ) → m ≤ 256 → IsAbove k turns m no_rank → ⊥
never_above k turns m few h =
    let a = h.above in
    let x = h.small.late in
    let y = h.small.level in
    let z = h.small.turn in
    omega (arith, few, a, x, y, z)

-- a bound of all pairs that none is above
pub none_above : (k : MarkRecord) (turns m number : ℕ) → number ≡ no_rank → m ≤ 256 → (is_some (key_of k turns) ≡ true → IsAbove k turns m number) → key_of k turns ≡ None
none_above k turns m number all few h = none_is (key_of k turns) (elim (is_some (key_of k turns)) as (λ b. is_some (key_of k turns) ≡ b → b ≡ false) [
  | true ↦ λ e. absurd (never_above k turns m few (subst (IsAbove k turns m) all (h e)))
  | false ↦ λ _. refl
] refl)

-- ---- the order of ranks
either : (lt eq rest : Bool) → (lt || (eq && rest)) ≡ true → (lt ≡ true) ⊎ ((eq ≡ true) × (rest ≡ true))
either true eq rest e = inl refl
either false true true e = inr (refl, refl)
either false true false e = cc
either false false rest e = cc

first_of : (x y : ℕ) (r s : List ℕ) → comes_before (x ∷ r) (y ∷ s) ≡ true → (x < y) ⊎ ((x ≡ y) × (comes_before r s ≡ true))
first_of x y r s e = elim (either (nat_lt x y) (nat_eq x y) (comes_before r s) (first_decides x y (comes_before r s) r s refl ∙ e)) [
  | inl t ↦ inl (grind (arith, nat_tests, t))
  | inr t ↦ let same = t.0 in inr (grind (arith, nat_tests, same), t.1)
]

packed_less : (r s : Rank) (m n : ℕ) → IsSmall r → m < 2 ^ 32 → comes_before (rank_of r ++ m ∷ []) (rank_of s ++ n ∷ []) ≡ true → packed r m < packed s n
packed_less r s m n small few e =
    let b = small.level in
    let c = small.turn in
    elim (first_of r.late s.late (r.level ∷ r.turn ∷ m ∷ []) (s.level ∷ s.turn ∷ n ∷ []) e) [
      | inl lt ↦ omega (arith, lt, b, c, few)
      | inr x ↦ let one = x.0 in elim (first_of r.level s.level (r.turn ∷ m ∷ []) (s.turn ∷ n ∷ []) x.1) [
        | inl lt ↦ omega (arith, one, lt, c, few)
        | inr y ↦ let two = y.0 in elim (first_of r.turn s.turn (m ∷ []) (n ∷ []) y.1) [
          | inl lt ↦ omega (arith, one, two, lt, few)
          | inr z ↦ let three = z.0 in elim (first_of m n [] [] z.1) [
            | inl lt ↦ omega (arith, one, two, three, lt)
            | inr w ↦ let f = w.1 in cc
          ]
        ]
      ]
    ]

-- a rank whose number is no less does not come before
pub not_before : (r s : Rank) (m n : ℕ) → IsSmall r → m ≤ 256 → packed s n ≤ packed r m → comes_before (rank_of r ++ m ∷ []) (rank_of s ++ n ∷ []) ≡ false
not_before r s m n small few le = elim (comes_before (rank_of r ++ m ∷ []) (rank_of s ++ n ∷ [])) as (λ b. comes_before (rank_of r ++ m ∷ []) (rank_of s ++ n ∷ []) ≡ b → b ≡ false) [
  | true ↦ λ e. let lt = packed_less r s m n small (omega (arith, few)) e in absurd (omega (arith, le, lt))
  | false ↦ λ _. refl
] refl

-- ---- the best, and the least bound
pub not_first : (best : Option BestFound) (k : MarkRecord) (turns m : ℕ) → m ≤ 256 → (h : IsAbove k turns m (limit_in best)) → is_first best (rank_of h.key) m ≡ false
not_first None k turns m few h = absurd (never_above k turns m few h)
not_first (Some x) k turns m few h = not_before h.key x.rank m x.pick.machine.0 h.small few h.above

pub behind_above : (least : Option Least) (k : MarkRecord) (turns m : ℕ) → m ≤ 256 → IsAbove k turns m (number_in least) → IsBehind k turns m least
behind_above None k turns m few h = absurd (never_above k turns m few h)
behind_above (Some one) k turns m few h = record { one = one; some = refl; above = h }

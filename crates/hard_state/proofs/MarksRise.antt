-- The numbers that are marked rise.
use Rattle.std.proofs.Common.{◌≡◌, ℕ, ◌+◌, ◌<◌, ◌≤◌, Bool, true, false, T, List, [], ◌∷◌, map, length, subst, arith}
use Rattle.std.specs.Prelude.{◌&&◌}
use Rattle.std.specs.List.{AllByRecursion}
use Rattle.std.specs.Ordering.{nat_cmp, is_lt}
use Rattle.std.specs.Cmp.{nat_cmp_is}
use Rattle.std.specs.declared.cmp.Ordering.TheVariants.{Less}
use Rattle.std.specs.FinMap.Entries.{is_sorted, below_all}
use Rattle.hard_state.specs.Bans.{marked_from}

abbrev entries : List ℕ → List (ℕ × ℕ)
entries ns = map (λ (n : ℕ). (n, 0)) ns

-- all are behind the first
behind : (k n : ℕ) (marks : List Bool) → k < n → T (below_all nat_cmp k (entries (marked_from n marks)))
behind k n [] lt = tt
behind k n (true ∷ marks) lt = let less : Less ≡ nat_cmp k n = nat_cmp_is k n Less lt in subst (λ r. T (is_lt r && below_all nat_cmp k (entries (marked_from (n + 1) marks)))) less (behind k (n + 1) marks (omega (arith, lt)))
behind k n (false ∷ marks) lt = behind k (n + 1) marks (omega (arith, lt))

pub rises_from : (n : ℕ) (marks : List Bool) → T (is_sorted {X = ℕ} nat_cmp (entries (marked_from n marks)))
rises_from n [] = tt
rises_from n (true ∷ marks) = both (below_all nat_cmp n (entries (marked_from (n + 1) marks))) _ (behind n (n + 1) marks (omega arith)) (rises_from (n + 1) marks)
  where
    both : (a b : Bool) → T a → T b → T (a && b)
    both true true x y = tt
    both true false x y = y
    both false b x y = x
rises_from n (false ∷ marks) = rises_from (n + 1) marks

pub low_from : (n most : ℕ) (marks : List Bool) → n + length marks ≤ most → AllByRecursion (λ k. k < most) (marked_from n marks)
low_from n most [] le = tt
low_from n most (true ∷ marks) le = (omega (arith, le), low_from (n + 1) most marks (omega (arith, le)))
low_from n most (false ∷ marks) le = low_from (n + 1) most marks (omega (arith, le))

use Rattle.std.proofs.Common.{◌≡◌, ℕ, ◌<◌, true, nat_eq, List, [], ◌∷◌, ap}
use Rattle.std.specs.Prelude.{◌&&◌, ◌||◌}
use Rattle.std.specs.List.{AllByRecursion}
use Rattle.fuxi_terms.proofs.Booleans.{and_true, nat_itself, or_right}
use Rattle.fuxi_terms.specs.Keys.{Pair}
use Rattle.spec_roles.specs.Placing.{has_pair}
use Rattle.preempt.proofs.law.lines.Goals as goal

each : (units : ℕ → ℕ) (line : List Pair) → ((a u : ℕ) → has_pair (a, u) line ≡ true → u < units a) → AllByRecursion (λ p. p.1 < units p.0) line
each units [] h = tt
each units (p ∷ ps) h = (
  h p.0 p.1 (ap (λ b. b || has_pair p ps) (and_true (nat_eq p.0 p.0) (nat_eq p.1 p.1) (nat_itself p.0) (nat_itself p.1))),
  each units ps (λ a u e. h a u (or_right (nat_eq a p.0 && nat_eq u p.1) (has_pair (a, u) ps) e)),
)

pub returns : goal.returns
returns c = λ line units h. each units line h

use Rattle.std.proofs.Common.{arith, inl, inr}
use Rattle.std.proofs.lemmas.Bool.{cases_lt}
use Rattle.std.proofs.Common.{◌≡◌, get_or}
use Rattle.place_pass.proofs.demand.sparse.is_clear_to.Goals as goal

pub returns : goal.returns
returns c e k lt = elim (cases_lt k c.behind_clear-at.result) as (λ _. get_or c.args.numbers.now k 0 ≡ 0) [
  | inl less ↦ c.behind_clear-at.ensures.passed k (omega arith) less
  | inr ge ↦ c.is_clear.ensures e k ge lt
]

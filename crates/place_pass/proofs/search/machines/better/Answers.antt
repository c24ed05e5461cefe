use Rattle.std.proofs.Common.{◌≡◌, ℕ, true, false, not, List, Option, None, Some, sym, ◌∙◌}
use Rattle.place_pass.specs.Bounds.{rank_of, is_bound, comes_before}
use Rattle.place_pass.specs.Candidates.{rank_with, found_rank, is_first}
use Rattle.place_pass.specs.declared.search.BestFound.{BestFound}
use Rattle.place_pass.proofs.CandidatesLemmas.{kept_better, kept_worse}
use Rattle.place_pass.proofs.search.machines.better.Goals as goal

bounded : (best : Option BestFound) (x : BestFound) (r : List ℕ) → is_first best (rank_of x.rank) x.pick.machine.0 ≡ true → is_bound (found_rank best) r ≡ true → not (comes_before r (rank_with x)) ≡ true
bounded None x r first h = cc
bounded (Some b) x r first h = kept_better (rank_with x) (rank_with b) r first h

still : (best : Option BestFound) (x : BestFound) (r : List ℕ) → is_first best (rank_of x.rank) x.pick.machine.0 ≡ false → not (comes_before r (rank_with x)) ≡ true → is_bound (found_rank best) r ≡ true
still None x r late h = cc
still (Some b) x r late h = kept_worse (rank_with x) (rank_with b) r late h

pub returns-then-may_be_first-clause-kept : goal.returns-then-may_be_first-clause-kept
returns-then-may_be_first-clause-kept c r h = bounded c.args.best.now c.args.found r (sym c.may_be_first.ensures ∙ c.if-may_be_first.true) h

pub returns-else-may_be_first-clause-itself : goal.returns-else-may_be_first-clause-itself
returns-else-may_be_first-clause-itself c r h = still c.args.best.now c.args.found r (sym c.may_be_first.ensures ∙ c.if-may_be_first.false) h

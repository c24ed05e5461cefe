use Rattle.std.proofs.Common.{◌≡◌, true, sym, ◌∙◌, subst}
use Rattle.place_pass.specs.Bounds.{rank_of, is_bound}
use Rattle.place_pass.specs.Candidates.{sight_rank}
use Rattle.place_pass.proofs.CandidatesLemmas.{kept_better}
use Rattle.place_pass.proofs.search.order.may_be_nearer.Goals as goal

pub returns-in-Some-clause-sooner : goal.returns-in-Some-clause-sooner
returns-in-Some-clause-sooner c e r h = kept_better (rank_of c.args.rank.now) (rank_of c.in-Some.sight.rank) r (sym c.is_earlier_here.ensures ∙ e) (subst (λ b. is_bound (sight_rank b) r ≡ true) c.in-Some.is h)

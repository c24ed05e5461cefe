use Rattle.std.proofs.Common.{sym, ◌∙◌}
use Rattle.place_pass.specs.Bounds.{rank_of}
use Rattle.place_pass.proofs.CandidatesLemmas.{kept_better, kept_worse}
use Rattle.place_pass.proofs.search.earliest.earlier_of.Goals as goal

pub returns-then-is_earlier_here-clause-first : goal.returns-then-is_earlier_here-clause-first
returns-then-is_earlier_here-clause-first c r = kept_better (rank_of c.args.other) (rank_of c.args.rank) r (sym c.is_earlier_here.ensures ∙ c.if-is_earlier_here.true)

pub returns-else-is_earlier_here-clause-second : goal.returns-else-is_earlier_here-clause-second
returns-else-is_earlier_here-clause-second c r = kept_worse (rank_of c.args.other) (rank_of c.args.rank) r (sym c.is_earlier_here.ensures ∙ c.if-is_earlier_here.false)

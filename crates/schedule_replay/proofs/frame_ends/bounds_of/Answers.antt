use Rattle.std.proofs.Common.{◌≤◌, get_or, sym, subst}
use Rattle.schedule_replay.proofs.FrameEndsLemmas.{end_at}
use Rattle.schedule_replay.proofs.frame_ends.bounds_of.Goals as goal

pub returns-clause-rising : goal.returns-clause-rising
returns-clause-rising c = subst (λ n. n ≤ get_or c.args.ends.now c.args.at 0) (sym c.start_of.ensures) (end_at 0 c.args.ends.now c.args.bytes c.args.at c.requires.ends c.requires.there).0

pub returns-clause-inside : goal.returns-clause-inside
returns-clause-inside c = (end_at 0 c.args.ends.now c.args.bytes c.args.at c.requires.ends c.requires.there).1

use Rattle.std.proofs.Common.{◌<◌, length, rules}
use Rattle.hard_state.proofs.BansLemmas.{marked_fewer}
use Rattle.hard_state.proofs.bans.unmark.Goals as goal

pub returns : goal.returns
returns c = let within : c.args.number < length c.args.marks.now = search rules in marked_fewer c.args.marks.now c.args.number within

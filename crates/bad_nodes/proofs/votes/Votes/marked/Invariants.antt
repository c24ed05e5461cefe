use Rattle.std.proofs.Common.{◌≡◌, map, filter}
use Rattle.fuxi_terms.specs.Lists.{below}
use Rattle.spec_roles.specs.Votes.{is_marked}
use Rattle.bad_nodes.specs.Ranks.{number_of}
use Rattle.bad_nodes.proofs.votes.Votes.marked.Given as goal

abbrev pub invariant-loop-number : goal.invariant-loop-number
invariant-loop-number l = map number_of l.machines.items ≡ filter (is_marked l.self l.least) (below l.number)

use Rattle.std.proofs.Common.{refl, ap, ◌∙◌, arith}
use Rattle.fuxi_master.specs.Seen.{core_of}
use Rattle.fuxi_master.proofs.VoteCountsLemmas.{all_counted, none_counted}
use Rattle.fuxi_master.proofs.state.Core.votes.Goals as goal

pub loop-index-init : goal.loop-index-init
loop-index-init c = none_counted (core_of c.args.self.now) c.cluster.result.now c.args.self.now.known.bans c.in_ok-votes.votes (c.cluster.ensures.cluster ∙ ap (λ t. t.cluster) c.table.ensures) refl c.in_ok-votes.ensures

pub returns : goal.returns
returns c = all_counted (core_of c.args.self.now) c.loop-index.index c.loop-index.votes (let past = c.loop-index-test.false in let end = c.jobs-index-end.ensures.number in omega (arith, past, end)) c.loop-index.invariant

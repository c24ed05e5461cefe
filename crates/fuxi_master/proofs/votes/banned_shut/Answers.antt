use Rattle.std.proofs.Common.{length, sym, ◌∙◌, arith}
use Rattle.fuxi_master.proofs.BannedShut.{all_shut, none_shut, one_shut, one_usable}
use Rattle.fuxi_master.proofs.votes.banned_shut.Goals as goal

pub loop-number-init : goal.loop-number-init
loop-number-init c = none_shut c.args.known.now.bans (length c.args.cluster.now.machines) c.in_ok-votes.votes c.in_ok-votes.ensures

pub loop-number-preserved-then-not-banned : goal.loop-number-preserved-then-not-banned
loop-number-preserved-then-not-banned c =
    one_usable c.args.known.now.bans (length c.args.cluster.now.machines) c.loop-number.number c.loop-number.votes c.loop-number.invariant (sym c.banned.ensures.banned ∙ c.if-not-banned.true)

pub loop-number-preserved : goal.loop-number-preserved
loop-number-preserved c =
    let lt = c.loop-number-test.true in
    let wide = c.machines-number-end.ensures.number in
    one_shut c.args.known.now.bans (length c.args.cluster.now.machines) c.loop-number.number c.loop-number.votes c.loop-number.invariant c.shut.new.self (omega (arith, lt, wide)) (sym c.banned.ensures.banned ∙ c.if-not-banned.false) c.shut.ensures

pub returns : goal.returns
returns c =
    let past = c.loop-number-test.false in
    let wide = c.machines-number-end.ensures.number in
    all_shut c.args.known.now.bans (length c.args.cluster.now.machines) c.loop-number.number c.loop-number.votes (omega (arith, past, wide)) c.loop-number.invariant

use Rattle.std.proofs.Common.{◌<◌, ◌^◌, length, sym, ◌∙◌, arith}
use Rattle.fuxi_terms.proofs.Lists.{all_at}
use Rattle.ledger_updates.specs.AllShown.{Down}
use Rattle.ledger_updates.specs.OfNumbers.{turns}
use Rattle.ledger_updates.specs.TouchedNumbers.{IsRowShown}
use Rattle.ledger_updates.proofs.OfNumbersLemmas.{turns_length, reached_again, at_turn, no_turn, next_turn}
use Rattle.ledger_updates.proofs.rows.show_machines.Goals as goal

pub loop-index-preserved-in_default : goal.loop-index-preserved-in_default
loop-index-preserved-in_default c =
    let ts = turns c.args.numbers.now c.args.others.now in
    let next : c.loop-index.index < length ts = omega (arith, c.loop-index-test.true, turns_length c.args.numbers.now c.args.others.now) in
    reached_again (IsRowShown c.args.even_if_equal c.args.numbers.now) ts c.loop-index.index next c.args.sides.now.items c.loop-index.sides.items c.loop-index.invariant (sym c.turn.ensures ∙ c.in_default.is)

pub loop-index-preserved-then-at-len : goal.loop-index-preserved-then-at-len
loop-index-preserved-then-at-len c =
    let ts = turns c.args.numbers.now c.args.others.now in
    let next : c.loop-index.index < length ts = omega (arith, c.loop-index-test.true, turns_length c.args.numbers.now c.args.others.now) in
    no_turn (IsRowShown c.args.even_if_equal c.args.numbers.now) ts c.loop-index.index next c.args.sides.now.items c.loop-index.sides.items c.loop-index.invariant c.in-Some.at (sym c.turn.ensures ∙ c.in-Some.is)
    (omega (arith, c.if-at-len.true, c.len.ensures, c.loop-index.invariant.wide))

pub show_one-requires-clause-last : goal.show_one-requires-clause-last
show_one-requires-clause-last c =
    let ts = turns c.args.numbers.now c.args.others.now in
    let next : c.loop-index.index < length ts = omega (arith, c.loop-index-test.true, turns_length c.args.numbers.now c.args.others.now) in
    let d = c.index_mut.result.now in
    let was = at_turn (IsRowShown c.args.even_if_equal c.args.numbers.now) ts c.loop-index.index next c.args.sides.now.items c.loop-index.sides.items c.loop-index.invariant c.in-Some.at (sym c.turn.ensures ∙ c.in-Some.is) d (omega (arith, c.if-at-len.false, c.len.ensures)) c.index_mut.ensures.value in
    all_at (λ (d : Down). d.outgoing.last < 2 ^ 62) c.args.sides.now.items c.in-Some.at d c.requires.last was

pub show_one-requires-clause-set : goal.show_one-requires-clause-set
show_one-requires-clause-set c =
    let ts = turns c.args.numbers.now c.args.others.now in
    let next : c.loop-index.index < length ts = omega (arith, c.loop-index-test.true, turns_length c.args.numbers.now c.args.others.now) in
    let d = c.index_mut.result.now in
    let was = at_turn (IsRowShown c.args.even_if_equal c.args.numbers.now) ts c.loop-index.index next c.args.sides.now.items c.loop-index.sides.items c.loop-index.invariant c.in-Some.at (sym c.turn.ensures ∙ c.in-Some.is) d (omega (arith, c.if-at-len.false, c.len.ensures)) c.index_mut.ensures.value in
    c.requires.set c.in-Some.at d was

pub loop-index-preserved : goal.loop-index-preserved
loop-index-preserved c =
    let ts = turns c.args.numbers.now c.args.others.now in
    let next : c.loop-index.index < length ts = omega (arith, c.loop-index-test.true, turns_length c.args.numbers.now c.args.others.now) in
    next_turn (IsRowShown c.args.even_if_equal c.args.numbers.now) ts c.loop-index.index next c.args.sides.now.items c.loop-index.sides.items c.loop-index.invariant c.in-Some.at (sym c.turn.ensures ∙ c.in-Some.is)
    c.index_mut.result.now c.show_one.new.side (omega (arith, c.if-at-len.false, c.len.ensures)) c.index_mut.ensures.value c.in_ok-show_one.ensures

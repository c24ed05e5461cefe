use Rattle.std.proofs.Common.{◌-◌, true, false, length, get_or, take, refl, sym, ◌∙◌}
use Rattle.ledger_updates.proofs.OfNumbersLemmas.{any_turned, other_turn}
use Rattle.ledger_updates.proofs.numbered.turn.Goals as goal

pub returns-then-has_number : goal.returns-then-has_number
returns-then-has_number g c = sym (other_turn c.args.entries.now c.args.others.now c.args.index c.if-index-len.false true _ (sym c.has_number.ensures ∙ c.if-has_number.true) refl)

pub returns-then-contains : goal.returns-then-contains
returns-then-contains g c =
    let j = c.args.index - length c.args.entries.now in
    let turned = any_turned (get_or c.args.others.now j 0) (take j c.args.others.now) in
    sym (other_turn c.args.entries.now c.args.others.now c.args.index c.if-index-len.false false true (sym c.has_number.ensures ∙ c.if-has_number.false) (sym turned ∙ sym c.contains.ensures.value ∙ c.if-contains.true))

pub returns : goal.returns
returns g c =
    let j = c.args.index - length c.args.entries.now in
    let turned = any_turned (get_or c.args.others.now j 0) (take j c.args.others.now) in
    sym (other_turn c.args.entries.now c.args.others.now c.args.index c.if-index-len.false false false (sym c.has_number.ensures ∙ c.if-has_number.false) (sym turned ∙ sym c.contains.ensures.value ∙ c.if-contains.false))

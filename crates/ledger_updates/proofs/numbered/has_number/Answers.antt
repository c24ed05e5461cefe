use Rattle.std.proofs.Common.{◌≡◌, Bool, true, false, not, nat_eq, length, refl, ◌∙◌, ap}
use Rattle.ledger_updates.proofs.OfNumbersLemmas.{run_has}
use Rattle.ledger_updates.proofs.numbered.has_number.Goals as goal

twice : (b : Bool) → not (not b) ≡ b
twice true = refl
twice false = refl

pub returns : goal.returns
returns g c = ap not (c.is_empty.ensures ∙ ap (λ xs. nat_eq (length xs) 0) c.run_of.ensures ∙ run_has c.args.number c.args.entries.now) ∙ twice _

use Rattle.std.proofs.Common.{sym, subst}
use Rattle.std.proofs.lemmas.List.Elements.{All-from_recursion}
use Rattle.std.proofs.lemmas.Result.{err_from_is_err_and}
use Rattle.ledger_law.specs.Forms.{change_form}
use Rattle.ledger_law.specs.Shapes.{IsChange, AreChangesWithin}
use Rattle.ledger_law.specs.OneForm.{few_changes, change_entries}
use Rattle.ledger_law.specs.ReadForms.{refused}
use Rattle.ledger_law.proofs.NoForm.{not_changes}
use Rattle.ledger_law.proofs.tally.TallyLedger.read_delta.Goals as goal

pub returns-in_err-head : goal.returns-in_err-head
returns-in_err-head g c =
    let p = err_from_is_err_and c.from_residual.result c.from_residual.ensures.1 in
    rw (p.1, p.2) (refused (IsChange g.S.Shape.greatest_of) change_form c.args.body.now _ (λ is d h e. c.in_err-head.ensures.none is d.head d.entries (All-from_recursion _ d.entries (change_entries g.S.Shape.greatest_of g.met.S.Shape.bounded g.met.S.Shape.writable d.entries h.entries.changes.real h.entries.within)) (few_changes g.S.Shape.greatest_of g.met.S.Shape.bounded g.met.S.Shape.writable d.entries h.entries) e))

pub returns-then-not-are_changes : goal.returns-then-not-are_changes
returns-then-not-are_changes g c d h e =
    not_changes g.S.Shape.greatest_of g.met.S.Shape.bounded g.met.S.Shape.writable c.args.body.now c.in_ok-head.head c.in_ok-head.entries.items c.in_ok-head.ensures.entries.0 c.in_ok-head.ensures.entries.1 c.in_ok-head.ensures.found
    (λ changes. c.are_changes.ensures.no c.if-not-are_changes.true (subst (λ cs. AreChangesWithin g.S.Shape.greatest_of cs) (sym c.deref.ensures.value) changes)) d h e

use Rattle.std.proofs.Common.{sym, subst}
use Rattle.fuxi_terms.specs.Keys.{key_cmp}
use Rattle.fuxi_terms.specs.Counts.{AreCounts}
use Rattle.std.proofs.lemmas.List.Elements.{All-from_recursion}
use Rattle.std.proofs.lemmas.Result.{err_from_is_err_and}
use Rattle.ledger_law.specs.Forms.{tally_form}
use Rattle.ledger_law.specs.Shapes.{IsTally}
use Rattle.ledger_law.specs.OneForm.{few_counts, number_entries}
use Rattle.ledger_law.specs.ReadForms.{refused}
use Rattle.ledger_law.proofs.NoForm.{not_counts}
use Rattle.ledger_law.proofs.tally.TallyLedger.read_full.Goals as goal

pub returns-in_err-head : goal.returns-in_err-head
returns-in_err-head g c =
    let p = err_from_is_err_and c.from_residual.result c.from_residual.ensures.1 in
    rw (p.1, p.2) (refused (IsTally g.S.Shape.greatest_of) tally_form c.args.body.now _ (λ is t h e. c.in_err-head.ensures.none is t.head t.entries (All-from_recursion _ t.entries (number_entries g.S.Shape.greatest_of g.met.S.Shape.bounded g.met.S.Shape.writable t.entries h.counts.positive h.counts.within)) (few_counts g.S.Shape.greatest_of g.met.S.Shape.bounded g.met.S.Shape.writable t.entries h.counts) e))

pub returns-then-not-are_counts : goal.returns-then-not-are_counts
returns-then-not-are_counts g c t h e =
    not_counts g.S.Shape.greatest_of g.met.S.Shape.bounded g.met.S.Shape.writable c.args.body.now c.in_ok-head.head c.in_ok-head.entries.items c.in_ok-head.ensures.entries.0 c.in_ok-head.ensures.entries.1 c.in_ok-head.ensures.found
    (λ counts. c.are_counts.ensures.no c.if-not-are_counts.true (subst (λ es. AreCounts key_cmp g.S.Shape.greatest_of es) (sym c.deref.ensures.value) counts)) t h e

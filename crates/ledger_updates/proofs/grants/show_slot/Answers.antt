use Rattle.std.proofs.Common.{◌≡◌, ℕ, List, Some, refl, sym, ◌∙◌, subst}
use Rattle.std.proofs.lemmas.Result.{on_ok_weaker}
use Rattle.grant_table.specs.GrantTables.{TableRecord}
use Rattle.ledger_updates.specs.AllShown.{App, ShowsGrants}
use Rattle.ledger_updates.specs.OfNumbers.{of_number}
use Rattle.ledger_updates.specs.OneJob.{JobIsBefore}
use Rattle.ledger_updates.proofs.grants.show_slot.Goals as goal

pub returns-in-Some-clause-some : goal.returns-in-Some-clause-some
returns-in-Some-clause-some c = on_ok_weaker c.show_one.result (λ shows d e.
    let both : Some c.in-Some.side ≡ Some d = sym c.in-Some.is ∙ e in
    let same : c.in-Some.side ≡ d = cc in
    record {
      new = c.show_one.new.side;
      there = refl;
      shows = subst (λ (x : App). (t : TableRecord) (now : List ℕ) → JobIsBefore t c.args.news.now now c.args.app (of_number c.args.app c.args.counts.now) x → ShowsGrants t c.args.news.now now c.args.app x c.show_one.new.side) same shows;
    })
    c.show_one.ensures

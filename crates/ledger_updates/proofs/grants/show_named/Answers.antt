use Rattle.std.proofs.Common.{[], Option, sym, subst}
use Rattle.std.proofs.lemmas.Result.{on_ok_weaker}
use Rattle.schedule_unit.specs.declared.party.AppNo.{AppNo}
use Rattle.ledger_updates.specs.OfNumbers.{AreReached}
use Rattle.ledger_updates.specs.OneJob.{IsSlotShown, named_job}
use Rattle.ledger_updates.proofs.OfNumbersLemmas.{none_reached}
use Rattle.ledger_updates.proofs.grants.show_named.Goals as goal

pub returns-in-Some : goal.returns-in-Some
returns-in-Some c =
    let old = c.args.apps.now.items in
    on_ok_weaker c.show_alone.result (λ h. subst (λ (o : Option AppNo). AreReached (IsSlotShown [] c.args.news.now) (named_job o) old c.show_alone.new.apps.items) (sym c.in-Some.is) h) c.show_alone.ensures

pub returns-in-None : goal.returns-in-None
returns-in-None c =
    let old = c.args.apps.now.items in
    subst (λ (o : Option AppNo). AreReached (IsSlotShown [] c.args.news.now) (named_job o) old old) (sym c.in-None.is) (none_reached (IsSlotShown [] c.args.news.now) old)

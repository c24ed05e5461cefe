use Rattle.std.proofs.Common.{◌≡◌, sym, ◌∙◌, subst}
use Rattle.std.proofs.lemmas.Result.{on_ok_weaker}
use Rattle.fuxi_terms.specs.Counts.{AreCounts}
use Rattle.fuxi_terms.specs.Keys.{key_cmp}
use Rattle.fuxi_terms.specs.Tallies.{TallyRecord}
use Rattle.fuxi_terms.specs.TallyKeys.{greatest_grant}
use Rattle.fuxi_terms.specs.NumbersSet.{AreNumbers}
use Rattle.ledger_updates.specs.Shown.{grants_set}
use Rattle.ledger_updates.specs.AllShown.{is_job}
use Rattle.ledger_updates.specs.OfNumbers.{of_number}
use Rattle.ledger_updates.specs.OneJob.{numbers_of}
use Rattle.ledger_updates.proofs.InOrder.{numbers_in_order}
use Rattle.ledger_updates.proofs.OneJobLemmas.{Laws, ShowsNumbers, grants_are_shown}
use Rattle.ledger_updates.proofs.grants.show_one.Goals as goal

pub show_grants-requires-clause-numbers : goal.show_grants-requires-clause-numbers
show_grants-requires-clause-numbers c = subst (AreNumbers key_cmp greatest_grant) (sym (c.deref.ensures.value ∙ c.in_ok-set_numbers.ensures)) (numbers_in_order c.args.news.now c.args.app (of_number c.args.app c.args.counts.now) c.requires.news c.requires.counts)

pub returns : goal.returns
returns c = on_ok_weaker c.show_grants.result (λ s t now h.
    let old = c.args.side.now in
    let new = c.show_grants.new.side in
    let laws : Laws = record { found = c.grants_have_numbers.ensures; set = c.numbers_are_set.ensures.numbers; counts = c.numbers_are_set.ensures.counts; follow = c.grants_follow_tables.ensures } in
    let entries : AreCounts key_cmp greatest_grant old.outgoing.present.entries = subst (λ (g : TallyRecord). AreCounts key_cmp greatest_grant g.entries) c.sent.ensures c.entries-entries.ensures.counts in
    let numbers = c.deref.ensures.value ∙ c.in_ok-set_numbers.ensures in
    let ledger : grants_set old.outgoing.present c.peer-boot.result c.deref.result.now ≡ grants_set old.outgoing.present old.incoming.place.inc (numbers_of c.args.news.now c.args.app (of_number c.args.app c.args.counts.now)) = λ i. grants_set old.outgoing.present (c.peer-boot.ensures i) (numbers i) in
    grants_are_shown laws t c.args.news.now now c.args.app (of_number c.args.app c.args.counts.now) old h c.requires.news c.requires.counts entries new
    (subst (λ g. ShowsNumbers (is_job c.args.news.now.admitted c.args.app) g old new) ledger (subst (λ b. ShowsNumbers b (grants_set old.outgoing.present c.peer-boot.result c.deref.result.now) old new) c.is_job.ensures s)))
    c.show_grants.ensures.shows

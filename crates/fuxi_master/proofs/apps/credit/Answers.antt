use Rattle.std.proofs.Common.{◌≡◌, false, Option, sym, ◌∙◌, ap, subst}
use Rattle.std.specs.Prelude.{IfSome}
use Rattle.std.specs.List.{list_any}
use Rattle.fuxi_terms.specs.Tallies.{ChangeRecord}
use Rattle.fuxi_terms.specs.TallyKeys.{is_back}
use Rattle.grant_table.specs.GrantTables.{IsSound}
use Rattle.fuxi_master.specs.ToldAsHeard.{ToldButAt}
use Rattle.fuxi_master.proofs.CreditedAlready.{credited_already, nothing_new}
use Rattle.fuxi_master.proofs.apps.credit.Goals as goal

told : (c : goal.After-new) → ToldButAt c.in-Some.change.entries c.args.app.0 c.args.demand.now.entries c.args.given.now.entries c.args.allotment.now
told c = subst (λ (o : Option ChangeRecord). IfSome o (λ change. ToldButAt change.entries c.args.app.0 c.args.demand.now.entries c.args.given.now.entries c.args.allotment.now)) c.in-Some.is c.requires.told

none : (c : goal.After-new) → list_any (λ e. is_back e.0) c.in-Some.change.entries ≡ false
none c = ap (list_any (λ e. is_back e.0)) (sym c.entries.ensures.entries) ∙ sym c.gives_back.ensures ∙ c.if-not-gives_back.true

pub returns-then-not-gives_back-clause-credits : goal.returns-then-not-gives_back-clause-credits
returns-then-not-gives_back-clause-credits c =
    let sound = subst IsSound c.table.ensures c.is_sound.ensures in
    credited_already c.in-Some.change.entries c.args.app.0 c.args.demand.now.entries c.args.given.now.entries c.args.allotment.now (told c) c.entries-entries.ensures.counts.sorted (none c) c.requires.waits sound.counts

pub returns-then-not-gives_back-clause-numbers : goal.returns-then-not-gives_back-clause-numbers
returns-then-not-gives_back-clause-numbers c =
    c.new.ensures.items ∙ sym (nothing_new c.in-Some.change.entries c.args.app.0 c.args.demand.now.entries c.args.given.now.entries c.args.allotment.now (told c) c.entries-entries.ensures.counts.sorted (none c))

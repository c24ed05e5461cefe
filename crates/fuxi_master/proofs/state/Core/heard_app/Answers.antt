use Rattle.std.proofs.Common.{rules, ◌≡◌, true, false, sym, ◌∙◌, ap, subst}
use Rattle.std.specs.Prelude.{◌||◌, ◌&&◌, nat_eq, IfSome}
use Rattle.fuxi_master.specs.Cores.{HasBoots}
use Rattle.fuxi_terms.specs.Tallies.{ChangeRecord}
use Rattle.peer_channel.specs.Parcels.{id_of}
use Rattle.fuxi_master.specs.Heard.{Changes, ChangesAsked, demanding}
use Rattle.fuxi_master.specs.Seen.{core_of}
use Rattle.fuxi_master.specs.ToldAsHeard.{IsHeardOnly}
use Rattle.fuxi_master.proofs.StepsLemmas.{wider, has_role, app_quiet, app_quiet_core, app_changed, app_talks}
use Rattle.fuxi_master.proofs.ToldAsHeardLemmas.{told_demanding}
use Rattle.fuxi_master.proofs.state.Core.heard_app.Goals as goal

pub returns-then-not-taken : goal.returns-then-not-taken
returns-then-not-taken c =
    let x = core_of c.args.self.now in
    let y = core_of c.hear_app.new.self in
    let e = c.in_ok-heard.ensures in
    let a = c.args.packet.from.number in
    let old : c.in_ok-heard.heard.fresh ≡ false = search rules in
    let kept : c.is_taken-taken.result ≡ false = search rules in
    record {
      core = app_quiet_core c.step_ends.ensures y e.near c.in_ok-heard.heard.fresh c.is_taken-taken.result a e.boots (subst (λ t. IsHeardOnly a c.in_ok-heard.heard.fresh t e.near.role) (sym c.is_taken-taken.ensures) e.only) old kept;
      within = wider c.args.steps y (e.within c.args.steps c.requires.within);
      hears = λ r h. app_quiet c.step_ends.ensures y e.near a c.args.packet c.in_ok-heard.heard r (e.hears r h) e.boots e.only old (sym c.is_taken-taken.ensures ∙ kept) (ap (λ q. id_of q a) c.requires.from) (app_talks x r h a c.requires.known);
    }

pub take_demand-requires-clause-asks : goal.take_demand-requires-clause-asks
take_demand-requires-clause-asks c =
    let asks = subst (λ t. IfSome c.in_ok-heard.change (λ (change : ChangeRecord). ChangesAsked c.args.packet.from.number c.in_ok-heard.heard.fresh t change (core_of c.hear_app.new.self))) (sym c.is_taken-taken.ensures) c.in_ok-heard.ensures.asks in
    subst (λ f. IfSome c.in_ok-heard.change (λ (change : ChangeRecord). ChangesAsked c.args.packet.from.number f c.is_taken-taken.result change (core_of c.hear_app.new.self))) (sym c.fresh-fresh.ensures) asks

pub take_demand-requires-clause-boots : goal.take_demand-requires-clause-boots
take_demand-requires-clause-boots c = subst (λ f. HasBoots (λ a. f && nat_eq a c.args.packet.from.number) (core_of c.hear_app.new.self)) (sym c.fresh-fresh.ensures) c.in_ok-heard.ensures.boots

pub end_step-requires-clause-role : goal.end_step-requires-clause-role
end_step-requires-clause-role c =
    let e = c.in_ok-heard.ensures in
    let a = c.args.packet.from.number in
    let only = subst (λ t. IsHeardOnly a c.in_ok-heard.heard.fresh t e.near.role) (sym c.is_taken-taken.ensures) e.only in
    let told : (c.fresh-fresh.result || c.is_taken-taken.result) ≡ true = search rules in
    has_role c.in_ok-news.news _ (core_of c.hear_app.new.self) (core_of c.take_demand.new.self) e.near c.in_ok-news.ensures.changes
    (told_demanding a c.fresh-fresh.result c.is_taken-taken.result e.near.role (subst (λ f. IsHeardOnly a f c.is_taken-taken.result e.near.role) (sym c.fresh-fresh.ensures) only) told)

pub end_step-requires-clause-within : goal.end_step-requires-clause-within
end_step-requires-clause-within c = c.in_ok-news.ensures.changes.within c.args.steps (c.in_ok-heard.ensures.within c.args.steps c.requires.within)

pub returns : goal.returns
returns c =
    let x = core_of c.args.self.now in
    let y = core_of c.hear_app.new.self in
    let e = c.in_ok-heard.ensures in
    let a = c.args.packet.from.number in
    let d = c.in_ok-news.ensures in
    record {
      core = c.in_ok-end_step.ensures.core;
      within = c.in_ok-end_step.ensures.within;
      hears = λ r h. app_changed c.step_ends.ensures y (core_of c.take_demand.new.self) (core_of c.end_step.new.self) a c.args.packet c.in_ok-heard.heard c.is_taken-taken.result c.in_ok-news.news r (e.hears r h) c.is_taken-taken.ensures
          (ap (λ q. id_of q a) c.requires.from) (app_talks x r h a c.requires.known) d.none (subst (λ f. Changes c.in_ok-news.news (λ r. demanding f c.is_taken-taken.result r a) y (core_of c.take_demand.new.self)) c.fresh-fresh.ensures d.changes) c.in_ok-end_step.ensures.ends;
    }

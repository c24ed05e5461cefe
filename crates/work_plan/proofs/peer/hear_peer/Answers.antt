use Rattle.std.proofs.Common.{◌≡◌, nat_eq, refl, sym, ◌∙◌, ap, arith}
use Rattle.std.proofs.lemmas.Bool.Decides.{nat_tests}
use Rattle.fuxi_terms.proofs.Booleans.{both_true, number_is}
use Rattle.delta_channel.specs.declared.receiver.Place.{Place}
use Rattle.work_plan.proofs.AgentHearsApps.{heard_none, heard_same, heard_settled}
use Rattle.work_plan.proofs.peer.hear_peer.Goals as goal

pub returns-then-after-eq0 : goal.returns-then-after-eq0
returns-then-after-eq0 c =
    let none : c.hear.new.ends.incoming.place.seq ≡ 0 = ap (λ (y : Place). y.seq) (sym c.place-after.ensures) ∙ c.if-after-eq0.true in
    heard_none c.args.app.0 c.args.parcel.now c.in_ok-heard.heard c.args.peer.now c.keep_plan.new.peer _ c.in_ok-keep_plan.ensures c.in_ok-heard.ensures.hears c.in_ok-heard.ensures.outgoing refl refl c.args.workers.now (grind (arith, nat_tests, none))

pub returns-then-same_place : goal.returns-then-same_place
returns-then-same_place c =
    let parts = both_true (nat_eq c.place-after.result.inc c.place-before.result.inc) (nat_eq c.place-after.result.seq c.place-before.result.seq) (sym c.same_place.ensures ∙ c.if-same_place.true) in
    heard_same c.args.app.0 c.args.parcel.now c.in_ok-heard.heard c.args.peer.now c.keep_plan.new.peer _ c.in_ok-keep_plan.ensures c.in_ok-heard.ensures.hears c.in_ok-heard.ensures.outgoing refl refl c.args.workers.now
    (ap (λ (y : Place). y.inc) (sym c.place-after.ensures) ∙ number_is c.place-after.result.inc c.place-before.result.inc parts.0 ∙ ap (λ (y : Place). y.inc) c.place-before.ensures)
    (ap (λ (y : Place). y.seq) (sym c.place-after.ensures) ∙ number_is c.place-after.result.seq c.place-before.result.seq parts.1 ∙ ap (λ (y : Place). y.seq) c.place-before.ensures)

pub returns : goal.returns
returns c = heard_settled c.args.app.0 c.args.parcel.now c.in_ok-heard.heard c.args.peer.now c.keep_plan.new.peer _ c.in_ok-keep_plan.ensures c.in_ok-heard.ensures.hears c.in_ok-heard.ensures.outgoing refl refl c.args.workers.now c.settle_peer.new.workers c.settle_peer.new.peer c.in_ok-settle_peer.ensures

use Rattle.std.proofs.Common.{List, Option, sym, ◌∙◌, ap, subst}
use Rattle.std.specs.Prelude.{ℤ, IfSome}
use Rattle.fuxi_terms.specs.declared.Key.{Key}
use Rattle.fuxi_terms.specs.Tallies.{ChangeRecord}
use Rattle.place_pass.specs.Placers.{SeenRecord, AsksOtherwiseAt, units_seen}
use Rattle.fuxi_master.specs.ToldAsHeard.{ToldButAt}
use Rattle.fuxi_master.proofs.AsksOtherwise.{told_credited}
use Rattle.fuxi_master.proofs.Demanded.{credited_done}
use Rattle.fuxi_master.proofs.apps.credited.Goals as goal

pub asked-requires-clause-told : goal.asked-requires-clause-told
asked-requires-clause-told c =
    let x = c.args.allotment.now in
    let y = c.credit.new.allotment in
    let a = c.args.app.0 in
    let es = c.args.demand.now.entries in
    let change = c.in-Some.change in
    let p = c.placer-placer.ensures in
    let told : ToldButAt change.entries a es c.args.given.now.entries x = subst (λ (o : Option ChangeRecord). IfSome o (λ change. ToldButAt change.entries a es c.args.given.now.entries x)) c.in-Some.is c.requires.told in
    subst (λ (cs : List (Key × ℤ)). AsksOtherwiseAt cs y.placer.seen a es) (sym c.entries.ensures.entries)
    (told_credited change.entries a es c.args.given.now.entries x y c.in_ok-numbers.ensures.credits (ap (λ (s : SeenRecord). s.cluster) (sym p.seen) ∙ p.cluster) (ap (λ (s : SeenRecord). units_seen s a) (sym p.seen) ∙ p.units a) told.asks)

pub returns-in-Some-clause-credits : goal.returns-in-Some-clause-credits
returns-in-Some-clause-credits c =
    let a = c.asked.ensures in
    credited_done c.args.app.0 c.args.demand.now.entries c.args.given.now.entries c.args.allotment.now c.credit.new.allotment c.asked.new.self c.in_ok-numbers.ensures.credits a.stands a.table a.touched a.turns

pub returns-clause-credits : goal.returns-clause-credits
returns-clause-credits c =
    let a = c.asked-2.ensures in
    credited_done c.args.app.0 c.args.demand.now.entries c.args.given.now.entries c.args.allotment.now c.credit.new.allotment c.asked-2.new.self c.in_ok-numbers.ensures.credits a.stands a.table a.touched a.turns

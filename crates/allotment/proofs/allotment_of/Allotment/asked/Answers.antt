use Rattle.std.proofs.Common.{sym, subst, ap}
use Rattle.place_pass.specs.Placers.{SeenRecord}
use Rattle.allotment.specs.PlacingReads.{IsPlacing}
use Rattle.allotment.specs.Allotted.{AllotmentRecord}
use Rattle.allotment.proofs.AskedStands.{asked_placing}
use Rattle.allotment.proofs.allotment_of.Allotment.asked.Goals as goal

pub returns-in-Some-clause-stands : goal.returns-in-Some-clause-stands
returns-in-Some-clause-stands c = λ k M head h.
    let t = c.self.inside.table in
    let p = c.self.inside.placer in
    let level = c.self.invariant.level in
    let old = subst (λ (x : AllotmentRecord). IsPlacing x.table x.placer.seen k M) (sym c.self.view_is) h.placing in
    record {
      placing = asked_placing t p.seen c.asked_changes.new.self.seen k M c.args.app.0 head c.args.demand.now.entries old (c.levels.ensures.cluster p t level) (c.levels.ensures.units p t c.args.app.0 level)
          c.asked_changes.ensures.asks (ap (λ (s : SeenRecord). s.opened) c.asked_changes.ensures.rest) (ap (λ (s : SeenRecord). s.line) c.asked_changes.ensures.rest);
    }

pub returns-in-None-clause-stands : goal.returns-in-None-clause-stands
returns-in-None-clause-stands c = λ k M head h.
    let t = c.self.inside.table in
    let p = c.self.inside.placer in
    let level = c.self.invariant.level in
    let old = subst (λ (x : AllotmentRecord). IsPlacing x.table x.placer.seen k M) (sym c.self.view_is) h.placing in
    record {
      placing = asked_placing t p.seen c.asked.new.self.seen k M c.args.app.0 head c.args.demand.now.entries old (c.levels.ensures.cluster p t level) (c.levels.ensures.units p t c.args.app.0 level)
          c.asked.ensures.asks (ap (λ (s : SeenRecord). s.opened) c.asked.ensures.rest) (ap (λ (s : SeenRecord). s.line) c.asked.ensures.rest);
    }

use Rattle.allotment.proofs.Victims.{unit_there, still_held, takes_more}
use Rattle.allotment.proofs.allotment_of.Allotment.take_victims.Goals as goal

pub take-requires-clause-unit : goal.take-requires-clause-unit
take-requires-clause-unit c = unit_there c.taking.ensures.others c.args.machine.0 c.args.victims.now c.args.self.now c.loop-index.self c.loop-index.index c.at-victim.result c.requires.takable c.at-victim.ensures c.loop-index.invariant

pub take-requires-clause-held : goal.take-requires-clause-held
take-requires-clause-held c = still_held c.taking.ensures.others c.args.machine.0 c.args.victims.now c.args.self.now c.loop-index.self c.loop-index.index c.at-victim.result c.requires.takable c.at-victim.ensures c.loop-index.invariant

pub loop-index-preserved : goal.loop-index-preserved
loop-index-preserved c = takes_more c.taking.ensures.others c.args.machine.0 c.args.victims.now c.args.self.now c.loop-index.self c.loop-index.index c.at-victim.result c.requires.takable c.at-victim.ensures c.loop-index.invariant
    c.take.new.self c.in_ok-take.ensures.stands c.in_ok-take.ensures.waits c.in_ok-take.ensures.touches c.in_ok-take.ensures.table

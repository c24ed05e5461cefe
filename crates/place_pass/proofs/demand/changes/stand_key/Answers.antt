use Rattle.std.proofs.Common.{refl}
use Rattle.place_pass.proofs.StandsAtChanges.{stood_near, stood_rack, stood_same}
use Rattle.place_pass.proofs.demand.changes.stand_key.Goals as goal

pub returns-then-key-eq-NEAR : goal.returns-then-key-eq-NEAR
returns-then-key-eq-NEAR c = stood_near c.args.wishes.now.cluster c.args.wishes.now.cells c.args.table.now.entries c.args.entry.now c.args.key.now c.args.tree.now c.stand_on.new.tree c.requires.waits c.requires.unit c.if-key-eq-NEAR.true c.stand_on.ensures.stood c.stand_on.ensures.none

pub returns-then-key-eq-RACK : goal.returns-then-key-eq-RACK
returns-then-key-eq-RACK c = stood_rack c.args.wishes.now.cluster c.args.wishes.now.cells c.args.table.now.entries c.args.entry.now c.args.key.now c.args.tree.now c.stand_within.new.tree c.requires.waits c.requires.unit c.if-key-eq-RACK.true c.stand_within.ensures.stood c.stand_within.ensures.none

pub returns-else-key-eq-RACK : goal.returns-else-key-eq-RACK
returns-else-key-eq-RACK c = let n = c.if-key-eq-NEAR.false in let r = c.if-key-eq-RACK.false in
    stood_same c.args.wishes.now.cluster c.args.wishes.now.cells c.args.table.now.entries c.args.entry.now.app.0 c.args.key.now c.args.tree.now c.args.tree.now refl (λ x. absurd (n x)) (λ x. absurd (r x))

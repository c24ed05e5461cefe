use Rattle.std.proofs.Common.{ap, ◌∙◌, arith}
use Rattle.place_pass.specs.Cells.{Cell}
use Rattle.place_pass.proofs.CellsMatchTable.{group_is, group_small}
use Rattle.place_pass.proofs.demand.wishes.Wishes.group.Goals as goal

pub returns-clause-group : goal.returns-clause-group
returns-clause-group c = ap (λ (x : Cell). x.group) c.wish.ensures.cell ∙ group_is c.args.self.now.cluster c.args.self.now.cells c.args.table.now c.requires.level c.args.self.now.opened c.wish.ensures.sound c.args.app.0 c.args.unit.0 c.requires.unit

pub returns-clause-small : goal.returns-clause-small
returns-clause-small c =
    let g = returns-clause-group c in
    let s = group_small c.args.table.now.jobs c.is_sound.ensures.in_order c.args.app.0 in
    omega (arith, g, s)

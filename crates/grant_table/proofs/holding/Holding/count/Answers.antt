use Rattle.std.proofs.Common.{arith}
use Rattle.grant_table.proofs.Cells.{place_there, count_read}
use Rattle.grant_table.proofs.holding.Holding.count.Goals as goal

pub overflow_add-machine : goal.overflow_add-machine
overflow_add-machine c = let w = place_there c.args.self.now.numbers.items c.args.machine c.requires in let v = c.args.self.now.numbers in omega (arith, w)

pub index-requires : goal.index-requires
index-requires c = let w = place_there c.args.self.now.numbers.items c.args.machine c.requires in let v = c.args.self.now.numbers in omega (arith, w)

pub returns : goal.returns
returns c = count_read c.args.self.now.numbers.items c.args.machine c.index.result.now c.requires c.index.ensures

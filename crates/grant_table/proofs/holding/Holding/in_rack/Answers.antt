use Rattle.std.proofs.Common.{arith}
use Rattle.grant_table.proofs.Cells.{rack_within, rack_read}
use Rattle.grant_table.proofs.holding.Holding.in_rack.Goals as goal

pub index-requires : goal.index-requires
index-requires c = let w = rack_within c.args.self.now.numbers.items c.args.rack c.requires in let v = c.args.self.now.numbers in omega (arith, w.1)

pub returns : goal.returns
returns c = rack_read c.args.self.now.numbers.items c.args.rack c.index.result.now c.requires c.index.ensures

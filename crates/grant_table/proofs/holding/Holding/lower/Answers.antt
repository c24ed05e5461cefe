use Rattle.std.proofs.Common.{◌-◌, take, drop, set, ◌∙◌, ap, arith}
use Rattle.grant_table.proofs.Cells.{place_there, rack_within, count_read, rack_after, counts_written, racks_written}
use Rattle.grant_table.proofs.holding.Holding.lower.Goals as goal

pub overflow_add-machine : goal.overflow_add-machine
overflow_add-machine c = let w = place_there c.args.self.now.numbers.items c.args.machine c.requires.machine in let v = c.args.self.now.numbers in omega (arith, w)

pub index_mut-requires : goal.index_mut-requires
index_mut-requires c = let w = place_there c.args.self.now.numbers.items c.args.machine c.requires.machine in let v = c.args.self.now.numbers in omega (arith, w)

pub overflow_sub-index_mut : goal.overflow_sub-index_mut
overflow_sub-index_mut c = let r = count_read c.args.self.now.numbers.items c.args.machine c.index_mut.result.now c.requires.machine c.index_mut.ensures.value in let n = c.requires.count in omega (arith, r, n)

pub index_mut-requires-2 : goal.index_mut-requires-2
index_mut-requires-2 c = let w = rack_within c.args.self.now.numbers.items c.args.rack c.requires.rack in let v = c.args.self.now.numbers in omega (arith, w.1)

pub overflow_sub-index_mut-2 : goal.overflow_sub-index_mut-2
overflow_sub-index_mut-2 c = let r = rack_after c.args.self.now.numbers.items c.args.machine c.args.rack _ c.index_mut-2.result.now c.requires.rack c.index_mut-2.ensures.value in let n = c.requires.in_rack in omega (arith, r, n)

pub returns : goal.returns
returns c =
    let ns = c.args.self.now.numbers.items in
    let n = count_read ns c.args.machine c.index_mut.result.now c.requires.machine c.index_mut.ensures.value in
    let r = rack_after ns c.args.machine c.args.rack _ c.index_mut-2.result.now c.requires.rack c.index_mut-2.ensures.value in
    let counts = counts_written ns c.args.machine c.args.rack (c.index_mut.result.now - c.args.count) (c.index_mut-2.result.now - c.args.count) c.requires.rack ∙ ap (λ x. set (drop 64 ns) c.args.machine (x - c.args.count)) n in
    let racks = racks_written ns c.args.machine c.args.rack (c.index_mut.result.now - c.args.count) (c.index_mut-2.result.now - c.args.count) c.requires.rack ∙ ap (λ x. set (take 64 ns) c.args.rack (x - c.args.count)) r in
    λ i. record { size = c.args.self.now.size.q; group = c.args.self.now.group.0; most = c.args.self.now.most; held = c.args.self.now.held - c.args.count; counts = counts i; racks = racks i }

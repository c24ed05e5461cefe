use Rattle.std.proofs.Common.{length, drop, ap, subst, arith}
use Rattle.preempt.specs.Shelves.{IsListed}
use Rattle.preempt.proofs.ListedLemmas.{walked_is}
use Rattle.preempt.proofs.Served.{no_entry}
use Rattle.preempt.proofs.snapshot.entries_on.Goals as goal

pub list_machine-requires-clause-long : goal.list_machine-requires-clause-long
list_machine-requires-clause-long c = c.requires.stock.read.long

pub list_machine-requires-clause-wide : goal.list_machine-requires-clause-wide
list_machine-requires-clause-wide c = λ k d lt.
    let read = c.requires.stock.read in
    let long = read.long in
    let wide = (read.each k no_entry d (omega (arith, lt, long))).wide in
    let there = c.requires.machine in
    omega (arith, wide, there)

pub returns : goal.returns
returns c =
    let t = c.args.table.now in
    let stock = c.args.stock.now in
    let m = c.args.machine.0 in
    let new = c.list_machine.new.entries.items in
    walked_is t stock.holders.now m new c.requires.stock.holders
    (subst (λ n. IsListed t stock.holders.now m (drop n new)) (ap length c.in_ok-entries.ensures.items) (c.in_ok-list_machine.ensures.listed t c.requires.stock.holders.each c.requires.stock.read))

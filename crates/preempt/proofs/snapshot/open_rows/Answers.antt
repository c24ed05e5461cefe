use Rattle.std.proofs.Common.{◌+◌, ◌≤◌, length, get_or, take, sym, ◌∙◌, subst, arith}
use Rattle.std.proofs.lemmas.List.{take_all}
use Rattle.preempt.specs.Given.{IsEntry}
use Rattle.preempt.specs.Shelves.{AreOpen, HoldsSome}
use Rattle.preempt.proofs.CountedAsWritten.{at_index}
use Rattle.preempt.proofs.Served.{no_entry, no_row}
use Rattle.preempt.proofs.StockLemmas.{shut_more, open_more}
use Rattle.preempt.proofs.UsedByHolders.{used_by_holder}
use Rattle.preempt.proofs.snapshot.open_rows.Goals as goal

pub may_take-requires-clause-small : goal.may_take-requires-clause-small
may_take-requires-clause-small c = (at_index (IsEntry c.args.table.now) c.args.stock.now.holders.now c.loop-at.at no_entry c.loop-at-test.true c.requires.stock.holders.each).small

pub may_take-requires-clause-long : goal.may_take-requires-clause-long
may_take-requires-clause-long c = c.requires.stock.groups.long

pub may_take-requires-clause-used : goal.may_take-requires-clause-used
may_take-requires-clause-used c =
    let t = c.args.table.now in
    let stock = c.requires.stock in
    let units = c.args.stock.now.holders.now in
    let k = c.loop-at.at in
    used_by_holder t c.args.stock.now.groups.now stock.groups (get_or units k no_entry) (at_index (IsEntry t) units k no_entry c.loop-at-test.true stock.holders.each) (at_index (HoldsSome t) units k no_entry c.loop-at-test.true stock.holders.some)

pub loop-at-preserved-then-not-may_take : goal.loop-at-preserved-then-not-may_take
loop-at-preserved-then-not-may_take c =
    let t = c.args.table.now in
    let units = c.args.stock.now.holders.now in
    let k = c.loop-at.at in
    let lt = c.loop-at-test.true in
    shut_more t c.args.need.now units k no_entry lt c.args.stock.now.groups.now c.requires.stock.groups
    (at_index (IsEntry t) units k no_entry lt c.requires.stock.holders.each) (at_index (HoldsSome t) units k no_entry lt c.requires.stock.holders.some) (sym c.may_take.ensures ∙ c.if-not-may_take.true) c.loop-at.rows.items c.loop-at.invariant

pub loop-at-preserved : goal.loop-at-preserved
loop-at-preserved c =
    let t = c.args.table.now in
    let stock = c.args.stock.now in
    let units = stock.holders.now in
    let k = c.loop-at.at in
    let lt = c.loop-at-test.true in
    let row = get_or stock.counts.now k no_row in
    subst (AreOpen t c.args.need.now (take (k + 1) units)) (sym c.in_ok-push.ensures.items)
    (open_more t c.args.need.now units k no_entry lt row (c.requires.stock.read.each k no_entry no_row lt) c.loop-at.rows.items c.loop-at.invariant)

pub returns : goal.returns
returns c =
    let units = c.args.stock.now.holders.now in
    let past : length units ≤ c.loop-at.at = let a = c.loop-at-test.false in omega (arith, a) in
    subst (λ us. AreOpen c.args.table.now c.args.need.now us c.loop-at.rows.items) (take_all c.loop-at.at units past) c.loop-at.invariant

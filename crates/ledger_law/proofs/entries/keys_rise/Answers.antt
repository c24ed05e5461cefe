use Rattle.std.proofs.Common.{◌≡◌, ◌-◌, sym, ◌∙◌, ap, subst, arith, drop, is_lt}
use Rattle.std.specs.FinMap.Entries.{is_sorted}
use Rattle.ledger_law.proofs.KeysRise.{rise_more, rise_all, rise_stops, is_less}
use Rattle.ledger_law.proofs.entries.keys_rise.Goals as goal

pub returns-then-not-is_lt : goal.returns-then-not-is_lt
returns-then-not-is_lt g c =
    let stop = sym (ap is_lt c.order.ensures) ∙ sym c.is_lt.ensures ∙ c.if-not-is_lt.true in
    rise_stops g.met.K.Ord.total c.args.entries.now (c.loop-i.i - 1) c.loop-i.i c.index-entries-i.result c.index-entries-i-in-loop-i.result (omega arith) c.loop-i-test.true stop ∙ c.loop-i.invariant

pub loop-i-preserved : goal.loop-i-preserved
loop-i-preserved g c =
    let less = is_less _ (sym (ap is_lt c.order.ensures) ∙ sym c.is_lt.ensures ∙ c.if-not-is_lt.false) in
    let more = rise_more g.met.K.Ord.total c.args.entries.now (c.loop-i.i - 1) c.loop-i.i c.index-entries-i.result c.index-entries-i-in-loop-i.result (omega arith) c.loop-i-test.true less in
    subst (λ n. is_sorted g.K.Ord.cmp (drop n c.args.entries.now) ≡ is_sorted g.K.Ord.cmp c.args.entries.now) {x = c.loop-i.i} (omega arith) (more ∙ c.loop-i.invariant)

pub returns : goal.returns
returns g c = rise_all g.met.K.Ord.total c.args.entries.now c.loop-i.i c.loop-i-test.false c.loop-i.invariant

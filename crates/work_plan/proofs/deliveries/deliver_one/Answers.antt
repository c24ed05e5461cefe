use Rattle.std.proofs.Common.{◌≡◌, ◌-◌, Some, slice_get, refl, sym, ◌∙◌, ap}
use Rattle.std.proofs.lemmas.Result.{on_ok_weaker}
use Rattle.work_plan.proofs.HistoriesGrow.{got_at}
use Rattle.work_plan.proofs.RangesDelivered.{one_delivered}
use Rattle.work_plan.proofs.deliveries.deliver_one.Goals as goal

pub returns-clause-acts : goal.returns-clause-acts
returns-clause-acts c =
    let there : slice_get c.args.working.now.packets.items (c.args.number - 1) ≡ Some c.in-Some.parcel.now = let got = c.in-Some.ensures.lookup in
    ap (λ xs. slice_get xs (c.args.number - 1)) (sym c.deref.ensures.value) ∙ got_at c.deref.result.now (c.args.number - 1) c.in-Some.parcel.now got.3.0 (got.3.1 c.in-Some.parcel.now) in
    on_ok_weaker c.write_heard.result (λ text w s. one_delivered c.args.working.now _ w c.args.number c.in-Some.parcel.now c.in_ok-heard.heard c.args.out.now.items c.write_heard.new.out.items s there
    (λ agent apps brought. c.in_ok-heard.ensures c.args.number w agent apps brought) refl refl text) c.write_heard.ensures

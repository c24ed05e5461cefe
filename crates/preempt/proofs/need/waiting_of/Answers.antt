use Rattle.std.proofs.Common.{◌++◌, ◌∷◌, [], map, subst, sym, ◌∙◌, ap}
use Rattle.std.specs.List.{AllByRecursion}
use Rattle.std.proofs.lemmas.List.{map-append}
use Rattle.fuxi_terms.proofs.Lists.{all_push, take_last}
use Rattle.preempt.specs.Given.{IsEntry, pair_of}
use Rattle.preempt.proofs.need.waiting_of.Goals as goal

pub loop-place-preserved : goal.loop-place-preserved
loop-place-preserved g c =
    let e = c.unit_of.result in
    let pairs = c.loop-place.invariant.pairs in
    let pair = c.unit_of.ensures.pair in
    record {
      pairs = ap (map pair_of) c.in_ok-push.ensures.items ∙ map-append pair_of c.loop-place.waiting.items (e ∷ []) ∙ (λ i. pairs i ++ pair i ∷ [])
          ∙ sym (take_last (g.P.Asking.line c.args.placer.now) c.loop-place.place (c.waiting_at.result.0.0, c.waiting_at.result.1.0) c.waiting_at.ensures);
      entries = subst (AllByRecursion (IsEntry c.args.table.now)) (sym c.in_ok-push.ensures.items) (all_push (IsEntry c.args.table.now) c.loop-place.waiting.items e c.loop-place.invariant.entries c.unit_of.ensures.entry);
    }

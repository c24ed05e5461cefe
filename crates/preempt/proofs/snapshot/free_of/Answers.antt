use Rattle.std.proofs.Common.{◌≡◌, [], ◌∷◌, ◌++◌, length, sym, ◌∙◌, ap, subst, arith, length-append}
use Rattle.std.specs.Prelude.{slice_get}
use Rattle.fuxi_terms.proofs.ByPlace.{at_place-get_or}
use Rattle.preempt.specs.Shelves.{IsFree}
use Rattle.preempt.proofs.MachineRoomsLemmas.{each_more}
use Rattle.preempt.proofs.snapshot.free_of.Goals as goal

pub loop-number-preserved : goal.loop-number-preserved
loop-number-preserved g c =
    let t = c.args.table.now in
    let before = c.loop-number.free.items in
    let q = c.free.result.q in
    let pushed : c.push.new.self.items ≡ before ++ q ∷ [] = c.in_ok-push.ensures.items in
    let long = c.loop-number.invariant.long in
    let here : IsFree t c.loop-number.number q = record { is = λ i lt. let f = sym (at_place-get_or q i) ∙ c.free.ensures.free i in let w = c.free.ensures.fits i in omega (arith, f, w) } in
    record {
      long = let a = ap length pushed ∙ length-append before (q ∷ []) in omega (arith, a, long);
      each = λ m x e. each_more (IsFree t) before q c.loop-number.invariant.each (subst (λ k. IsFree t k q) (sym long) here) m x (ap (λ xs. slice_get xs m) (sym pushed) ∙ e);
      steps = let a = c.free.ensures.step in let b = c.loop-number.invariant.steps in omega (arith, a, b);
    }

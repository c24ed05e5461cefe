use Rattle.std.proofs.Common.{◌≡◌, ℕ, ◌+◌, ◌*◌, ◌<◌, [], ◌∷◌, ◌++◌, get_or, drop, arith, ap, sym, ◌∙◌, subst}
use Rattle.preempt.specs.declared.entry.Entry.{Entry}
use Rattle.preempt.specs.GrantNumbers.{total_in, part_in}
use Rattle.preempt.specs.Given.{recounted}
use Rattle.preempt.proofs.CountedAsWritten.{AtKeeping, keeping_starts, keeping_goes_on, total_push, part_push, total_first, part_first}
use Rattle.preempt.proofs.victims.keep_needed.Goals as goal

pub loop-e-init : goal.loop-e-init
loop-e-init c =
    let sums = c.requires.sums in
    let few = c.requires.few in
    record {
      all = λ i h. let a = sums.all i h in let z = ap (total_in i) c.in_ok-kept.ensures.items in omega (arith, a, z);
      own = λ i h. let a = sums.own i h in let z = ap (part_in c.args.need.now.group i) c.in_ok-kept.ensures.items in omega (arith, a, z);
      all_small = λ i h. let a = sums.all_small i h in omega (arith, a, few);
      own_small = λ i h. let a = sums.own_small i h in omega (arith, a, few);
      at = λ t s need each. subst (AtKeeping t s c.args.set.now 0) (sym c.in_ok-kept.ensures.items) (keeping_starts t s c.args.set.now);
    }

pub loop-e-preserved : goal.loop-e-preserved
loop-e-preserved c =
    let set = c.args.set.now in
    let k = c.loop-e.e-index in
    let g = c.args.need.now.group in
    let no_entry : Entry = record { app = record { 0 = 0 }; unit = record { 0 = 0 }; group = 0; priority = 0; count = 0; size = record { ref_ptr = (0, 0); now = record { q = [] } } } in
    let e = get_or set k no_entry in
    let r = c.needed_number-count.result in
    let lt = c.loop-e-test.true in
    let pushed : c.push.new.self.items ≡ c.loop-e.kept.items ++ recounted e r ∷ [] = c.in_ok-push.ensures.items ∙ ap (λ x. c.loop-e.kept.items ++ x ∷ []) c.recounted.ensures in
    let alls : (i : ℕ) → i < 8 → get_or c.lowered-rest.result i 0 ≡ total_in i c.loop-e.kept.items + total_in i (drop (k + 1) set) =
    λ i h. let a = c.lowered-rest.ensures i h in let o = c.loop-e.invariant.all i h in let f = total_first i k no_entry set lt in omega (arith, a, o, f) in
    let owns : (i : ℕ) → i < 8 → get_or c.lowered-own_rest.result i 0 ≡ part_in g i c.loop-e.kept.items + part_in g i (drop (k + 1) set) =
    λ i h. let a = c.lowered-own_rest.ensures i h in let o = c.loop-e.invariant.own i h in let f = part_first g i k no_entry set lt in let q = ap (λ n. n * get_or e.size.now.q i 0) c.count_if.ensures in omega (arith, a, o, f, q) in
    record {
      all = λ i h. let a = c.raised-all.ensures.is i h in let o = alls i h in let p = ap (λ x. total_in i x) pushed ∙ total_push i c.loop-e.kept.items (recounted e r) in omega (arith, a, o, p);
      own = λ i h. let a = c.raised-own.ensures.is i h in let o = owns i h in let p = ap (λ x. part_in g i x) pushed ∙ part_push g i c.loop-e.kept.items (recounted e r) in let q = ap (λ n. n * get_or e.size.now.q i 0) c.count_if-in-loop-e.ensures in omega (arith, a, o, p, q);
      all_small = λ i h. let a = c.raised-all.ensures.small i h in let b = c.lowered-rest.ensures i h in let o = c.loop-e.invariant.all_small i h in omega (arith, a, b, o);
      own_small = λ i h. let a = c.raised-own.ensures.small i h in let b = c.lowered-own_rest.ensures i h in let o = c.loop-e.invariant.own_small i h in omega (arith, a, b, o);
      at = λ t s need each. subst (AtKeeping t s set (k + 1)) (sym pushed)
          (keeping_goes_on t s set k c.loop-e.kept.items c.args.need.now no_entry c.lowered-rest.result c.lowered-own_rest.result r
          need each (c.loop-e.invariant.at t s need each) lt c.requires.resources alls owns c.needed_number-count.ensures);
    }

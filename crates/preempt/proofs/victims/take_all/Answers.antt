use Rattle.std.proofs.Common.{◌*◌, ◌^◌, ◌≤◌, ◌≡◌, ◌+◌, ◌<◌, [], ◌∷◌, ◌++◌, length, get_or, arith, ap, sym, ◌∙◌, subst, length-append}
use Rattle.preempt.specs.declared.entry.Entry.{Entry}
use Rattle.preempt.specs.Given.{recounted}
use Rattle.preempt.specs.GrantNumbers.{total_in}
use Rattle.preempt.specs.GroupSums.{ArePartsOf}
use Rattle.preempt.proofs.CountedAsWritten.{AtTaking, taking_starts, taking_goes_on, total_push, parts_more, parts_same, zeros_at}
use Rattle.preempt.proofs.victims.take_all.Goals as goal

pub loop-e-init : goal.loop-e-init
loop-e-init c = record {
  long = ap length c.clear.ensures.items;
  all = λ i lt. zeros_at i lt ∙ ap (total_in i) (sym c.clear.ensures.items);
  parts = subst (ArePartsOf c.restart.new.self) (sym c.clear.ensures.items) c.restart.ensures;
  all_small = λ i lt. let z = zeros_at i lt in omega (arith, z);
  at = λ t s given. subst (AtTaking t s c.args.entries.now 0) (sym c.clear.ensures.items) (taking_starts t s c.args.entries.now);
}

pub loop-e-preserved-then-count-eq0 : goal.loop-e-preserved-then-count-eq0
loop-e-preserved-then-count-eq0 c =
    let entries = c.args.entries.now in
    let k = c.loop-e.e-index in
    let no_entry : Entry = record { app = record { 0 = 0 }; unit = record { 0 = 0 }; group = 0; priority = 0; count = 0; size = record { ref_ptr = (0, 0); now = record { q = [] } } } in
    let e = get_or entries k no_entry in
    let r = c.needed_number-count.result in
    let part = c.of-part.result in
    let own = c.of-own.result in
    let none : r ≡ 0 = c.if-count-eq0.true in
    let pushed : c.push.new.self.items ≡ c.loop-e.set.items ++ recounted e r ∷ [] = c.in_ok-push.ensures.items ∙ ap (λ x. c.loop-e.set.items ++ x ∷ []) c.recounted.ensures in
    let inside : e.group < 32 = c.requires.groups k no_entry c.loop-e-test.true in
    record {
      long = let l = c.loop-e.invariant.long in let a = ap length pushed ∙ length-append c.loop-e.set.items (recounted e r ∷ []) in omega (arith, l, a);
      all = λ i lt. let o = c.loop-e.invariant.all i lt in let p = ap (λ x. total_in i x) pushed ∙ total_push i c.loop-e.set.items (recounted e r) in let z : r * get_or e.size.now.q i 0 ≡ 0 = ap (λ n. n * get_or e.size.now.q i 0) none ∙ omega arith in omega (arith, o, p, z);
      parts = subst (ArePartsOf c.loop-e.parts) (sym pushed) (parts_same c.loop-e.parts c.loop-e.set.items (recounted e r) none c.loop-e.invariant.parts);
      all_small = λ i lt. let o = c.loop-e.invariant.all_small i lt in omega (arith, o);
      at = λ t s given. subst (AtTaking t s entries (k + 1)) (sym pushed)
          (taking_goes_on t s entries k c.loop-e.set.items c.args.need.now c.args.groups.now no_entry c.loop-e.all own part c.may_number-may.result r
          given (c.loop-e.invariant.at t s given) c.loop-e-test.true c.requires.resources inside c.loop-e.invariant.all (λ i lt. c.of-own.ensures i lt ∙ c.loop-e.invariant.parts.is c.args.need.now.group i c.requires.own lt)
          (λ i lt. c.of-part.ensures i lt ∙ c.loop-e.invariant.parts.is e.group i inside lt) c.may_number-may.ensures c.needed_number-count.ensures);
    }

pub loop-e-preserved : goal.loop-e-preserved
loop-e-preserved c =
    let entries = c.args.entries.now in
    let k = c.loop-e.e-index in
    let no_entry : Entry = record { app = record { 0 = 0 }; unit = record { 0 = 0 }; group = 0; priority = 0; count = 0; size = record { ref_ptr = (0, 0); now = record { q = [] } } } in
    let e = get_or entries k no_entry in
    let r = c.needed_number-count.result in
    let part = c.of-part.result in
    let own = c.of-own.result in
    let pushed : c.push.new.self.items ≡ c.loop-e.set.items ++ recounted e r ∷ [] = c.in_ok-push.ensures.items ∙ ap (λ x. c.loop-e.set.items ++ x ∷ []) c.recounted.ensures in
    let inside : e.group < 32 = c.requires.groups k no_entry c.loop-e-test.true in
    record {
      long = let l = c.loop-e.invariant.long in let a = ap length pushed ∙ length-append c.loop-e.set.items (recounted e r ∷ []) in omega (arith, l, a);
      all = λ i lt. let a = c.raised-all.ensures.is i lt in let o = c.loop-e.invariant.all i lt in let p = ap (λ x. total_in i x) pushed ∙ total_push i c.loop-e.set.items (recounted e r) in omega (arith, a, o, p);
      parts = subst (ArePartsOf c.put.new.self) (sym pushed)
          (parts_more c.loop-e.parts c.put.new.self c.loop-e.set.items (recounted e r) part c.raised.result c.loop-e.invariant.parts inside c.of-part.ensures c.raised.ensures.is c.raised.ensures.small c.in_ok-put.ensures);
      all_small = λ i lt. let a = c.raised-all.ensures.small i lt in let o = c.loop-e.invariant.all_small i lt in omega (arith, a, o);
      at = λ t s given. subst (AtTaking t s entries (k + 1)) (sym pushed)
          (taking_goes_on t s entries k c.loop-e.set.items c.args.need.now c.args.groups.now no_entry c.loop-e.all own part c.may_number-may.result r
          given (c.loop-e.invariant.at t s given) c.loop-e-test.true c.requires.resources inside c.loop-e.invariant.all (λ i lt. c.of-own.ensures i lt ∙ c.loop-e.invariant.parts.is c.args.need.now.group i c.requires.own lt)
          (λ i lt. c.of-part.ensures i lt ∙ c.loop-e.invariant.parts.is e.group i inside lt) c.may_number-may.ensures c.needed_number-count.ensures);
    }

pub returns-clause-sums : goal.returns-clause-sums
returns-clause-sums c =
    let g = c.args.need.now.group in
    let end : c.loop-e.e-index ≡ length c.loop-e.set.items = sym c.loop-e.invariant.long in
    record {
      all = c.loop-e.invariant.all;
      own = λ i lt. c.of.ensures i lt ∙ c.loop-e.invariant.parts.is g i c.requires.own lt;
      all_small = λ i lt. let a = c.loop-e.invariant.all_small i lt in subst (λ n. get_or c.loop-e.all i 0 ≤ n * 2 ^ 96) end a;
      own_small = λ i lt. let a = c.loop-e.invariant.parts.small g i c.requires.own lt in let b = c.of.ensures i lt in omega (arith, a, b);
    }

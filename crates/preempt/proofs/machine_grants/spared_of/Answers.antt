use Rattle.std.proofs.Common.{refl, ◌≡◌, ◌+◌, ◌<◌, ◌≤◌, [], ◌∷◌, ◌++◌, filter, length, map, get_or, arith, ap, sym, ◌∙◌, subst, length-append}
use Rattle.std.proofs.lemmas.Bool.Decides.{nat_tests}
use Rattle.std.proofs.lemmas.List.{append-nil, at_drop_all}
use Rattle.preempt.specs.Counted.{all_spared, counts_some}
use Rattle.std.specs.List.{AllByRecursion}
use Rattle.preempt.specs.Shelves.{IsLoose}
use Rattle.preempt.specs.Given.{IsEntry, board_of, recounted, written}
use Rattle.preempt.specs.GroupSums.{ArePartsOf}
use Rattle.preempt.proofs.CountedAsWritten.{parts_more}
use Rattle.preempt.proofs.Served.{no_entry}
use Rattle.preempt.proofs.SparedAsWritten.{AtSpared, none_spared, spared_starts, spared_goes_on, spared_passes}
use Rattle.preempt.proofs.machine_grants.spared_of.Goals as goal

pub loop-e-init : goal.loop-e-init
loop-e-init c = record {
  few = let z = ap length c.new-spared.ensures.items in omega (arith, z);
  parts = subst (ArePartsOf c.restart.new.self) (sym c.new-spared.ensures.items) c.restart.ensures;
  at = λ t m all are resources. subst (AtSpared t m c.args.entries.now 0) (sym c.new-spared.ensures.items) (spared_starts t m c.args.entries.now);
}

pub loop-e-preserved-then-count-eq0 : goal.loop-e-preserved-then-count-eq0
loop-e-preserved-then-count-eq0 c =
    let entries = c.args.entries.now in
    let k = c.loop-e.e-index in
    let e = get_or entries k no_entry in
    let n = c.spared_number-count.result in
    let inside : e.group < 32 = c.requires.small k no_entry c.loop-e-test.true in
    let t0 = c.if-count-eq0.true in
    let none : n ≡ 0 = grind (arith, nat_tests, t0) in
    record {
      few = let l = c.loop-e.invariant.few in omega (arith, l);
      parts = c.loop-e.invariant.parts;
      at = λ t m all are resources. spared_passes t m entries k c.loop-e.spared.items c.args.resources c.args.groups.now no_entry c.of-part.result n all are resources (c.loop-e.invariant.at t m all are resources) c.loop-e-test.true c.requires.resources
          (λ i lt. c.of-part.ensures i lt ∙ c.loop-e.invariant.parts.is e.group i inside lt) c.spared_number-count.ensures none;
    }

pub loop-e-preserved : goal.loop-e-preserved
loop-e-preserved c =
    let entries = c.args.entries.now in
    let k = c.loop-e.e-index in
    let before = c.loop-e.spared.items in
    let e = get_or entries k no_entry in
    let n = c.spared_number-count.result in
    let part = c.of-part.result in
    let pushed : c.push.new.self.items ≡ before ++ recounted e n ∷ [] = c.in_ok-push.ensures.items ∙ ap (λ x. before ++ x ∷ []) c.recounted.ensures in
    let inside : e.group < 32 = c.requires.small k no_entry c.loop-e-test.true in
    let t0 = c.if-count-eq0.false in
    let some : 0 < n = grind (arith, nat_tests, t0) in
    record {
      few = let l = c.loop-e.invariant.few in let a = ap length pushed ∙ length-append before (recounted e n ∷ []) in omega (arith, l, a);
      parts = subst (ArePartsOf c.put.new.self) (sym pushed)
          (parts_more c.loop-e.parts c.put.new.self before (recounted e n) part c.raised.result c.loop-e.invariant.parts inside c.of-part.ensures c.raised.ensures.is c.raised.ensures.small c.in_ok-put.ensures);
      at = λ t m all are resources. subst (AtSpared t m entries (k + 1)) (sym pushed)
          (spared_goes_on t m entries k before c.args.resources c.args.groups.now no_entry part n all are resources (c.loop-e.invariant.at t m all are resources) c.loop-e-test.true c.requires.resources
          (λ i lt. c.of-part.ensures i lt ∙ c.loop-e.invariant.parts.is e.group i inside lt) c.spared_number-count.ensures some);
    }

pub returns-clause-spared : goal.returns-clause-spared
returns-clause-spared c = λ t m all are resources.
    let entries = c.args.entries.now in
    let k = c.loop-e.e-index in
    let set = map (written m) c.loop-e.spared.items in
    let at = c.loop-e.invariant.at t m all are resources in
    let past : length entries ≤ k = let b = c.loop-e-test.false in omega (arith, b) in
    let end = at_drop_all (λ es. filter counts_some (all_spared (map (written m) es) (board_of t) t.entries set)) entries k past in
    record { each = at.each; counted = sym (append-nil set) ∙ ap (λ xs. set ++ xs) (sym end) ∙ at.counted }

pub returns-in-Nobody-clause-spared : goal.returns-in-Nobody-clause-spared
returns-in-Nobody-clause-spared c = λ t m all are resources.
    let entries = c.args.entries.now in
    let empty = c.new.ensures.items in
    let loose = subst (λ l. AllByRecursion (IsLoose c.args.groups.now l) entries) c.in-Nobody.is c.requires.loose in
    record {
      each = subst (AllByRecursion (IsEntry t)) (sym empty) tt;
      counted = ap (map (written m)) empty ∙ sym (none_spared t m c.args.groups.now are entries all c.requires.used loose [] refl);
    }

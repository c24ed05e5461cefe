use Rattle.std.proofs.Common.{◌≡◌, ◌<◌, ◌≤◌, [], ◌∷◌, ◌++◌, length, get_or, take, drop, sym, ◌∙◌, ap, subst, arith, append_assoc, length-append}
use Rattle.std.proofs.lemmas.Bool.Decides.{nat_tests}
use Rattle.std.proofs.lemmas.List.{drop-append-le, take_all}
use Rattle.std.proofs.lemmas.Option.{slice_get-get_or}
use Rattle.fuxi_terms.proofs.Lists.{take_last}
use Rattle.preempt.specs.Given.{IsEntry, recounted}
use Rattle.preempt.specs.Shelves.{IsListed}
use Rattle.preempt.proofs.CountedAsWritten.{at_index}
use Rattle.preempt.proofs.ListedLemmas.{none_listed, some_listed}
use Rattle.preempt.proofs.Served.{no_entry, no_row}
use Rattle.preempt.proofs.walk.list_machine.Goals as goal

pub loop-at-preserved-then-count-eq0 : goal.loop-at-preserved-then-count-eq0
loop-at-preserved-then-count-eq0 c =
    let units = c.args.units.now in
    let k = c.loop-at.at in
    let m = c.args.machine in
    let lt = c.loop-at-test.true in
    let e = get_or units k no_entry in
    let n = length c.args.entries.now.items in
    let listed = drop n c.loop-at.entries.items in
    record {
      kept = c.loop-at.invariant.kept;
      listed = λ t are read. subst (λ us. IsListed t us m listed) (sym (take_last units k e (slice_get-get_or units k no_entry lt)))
          (none_listed t (take k units) e m listed (sym ((read.each k no_entry no_row lt).is m) ∙ c.if-count-eq0.true) (c.loop-at.invariant.listed t are read));
    }

pub loop-at-preserved : goal.loop-at-preserved
loop-at-preserved c =
    let units = c.args.units.now in
    let k = c.loop-at.at in
    let m = c.args.machine in
    let lt = c.loop-at-test.true in
    let e = get_or units k no_entry in
    let old = c.args.entries.now.items in
    let n = length old in
    let before = c.loop-at.entries.items in
    let after = c.push.new.self.items in
    let count = get_or (get_or c.args.counts.now k no_row).now m 0 in
    let x = recounted e count in
    let kept = c.loop-at.invariant.kept in
    let pushed : after ≡ before ++ x ∷ [] = c.in_ok-push.ensures.items ∙ ap (λ y. before ++ y ∷ []) c.recounted.ensures in
    let le : n ≤ length before = let a = ap length kept ∙ length-append old (drop n before) in omega (arith, a) in
    let behind : drop n after ≡ drop n before ++ x ∷ [] = ap (drop n) pushed ∙ drop-append-le n before (x ∷ []) le in
    let f = c.if-count-eq0.false in
    let some : 0 < count = grind (arith, nat_tests, f) in
    record {
      kept = pushed ∙ ap (λ es. es ++ x ∷ []) kept ∙ append_assoc old (drop n before) (x ∷ []) ∙ ap (λ es. old ++ es) (sym behind);
      listed = λ t are read. subst (λ us. IsListed t us m (drop n after)) (sym (take_last units k e (slice_get-get_or units k no_entry lt)))
          (subst (IsListed t (take k units ++ e ∷ []) m) (sym behind)
          (some_listed t (take k units) e (at_index (IsEntry t) units k no_entry lt are) m count (drop n before) ((read.each k no_entry no_row lt).is m) some (c.loop-at.invariant.listed t are read)));
    }

pub returns-clause-listed : goal.returns-clause-listed
returns-clause-listed c = λ t are read.
    let units = c.args.units.now in
    let past : length units ≤ c.loop-at.at = let a = c.loop-at-test.false in omega (arith, a) in
    subst (λ us. IsListed t us c.args.machine (drop (length c.args.entries.now.items) c.loop-at.entries.items)) (take_all c.loop-at.at units past) (c.loop-at.invariant.listed t are read)

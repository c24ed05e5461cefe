use Rattle.std.proofs.Common.{◌≡◌, sym, ◌∙◌, ap, subst, arith}
use Rattle.std.specs.Int.{w64}
use Rattle.std.proofs.lemmas.Int.{to_z-of_z}
use Rattle.std.proofs.lemmas.Result.{err_from_is_err_and}
use Rattle.fuxi_terms.specs.Keys.{key_cmp}
use Rattle.fuxi_terms.specs.Counts.{AreCounts, count, moved_within, set_count}
use Rattle.fuxi_terms.specs.declared.answers.LedgerFault.TheVariants.{Below, TooGreat}
use Rattle.fuxi_terms.proofs.KeyOrders.{key_total, same_key}
use Rattle.fuxi_terms.proofs.CountsLemmas.{count_le}
use Rattle.ledger_law.proofs.OneChange.{one_refused, one_counts}
use Rattle.ledger_law.proofs.tally.change_single.Goals as goal

pub moved_within-requires : goal.moved_within-requires
moved_within-requires g c =
    let le = count_le key_total same_key g.S.Shape.greatest_of c.args.entries.now.items c.args.key c.requires.within in
    let kept : c.count_at-kept.result ≡ count key_cmp c.args.entries.now.items c.args.key = subst (λ es. c.count_at-kept.result ≡ count key_cmp es c.args.key) c.deref-2.ensures.value c.count_at-kept.ensures in
    omega (arith, le, g.met.S.Shape.bounded c.args.key, kept)

pub returns-in_err-n-clause-fault : goal.returns-in_err-n-clause-fault
returns-in_err-n-clause-fault g c =
    let es = c.args.entries.now.items in
    let kept : c.count_at-kept.result ≡ count key_cmp es c.args.key = subst (λ es. c.count_at-kept.result ≡ count key_cmp es c.args.key) c.deref-2.ensures.value c.count_at-kept.ensures in
    let p = err_from_is_err_and c.from_residual.result c.from_residual.ensures.1 in
    let refusal = rw (to_z-of_z w64 c.args.change c.ranges.change) at c.in_err-n.ensures in
    rw (p.1, p.2) (one_refused g.S.Shape.greatest_of es c.args.key c.args.change _ (ap (λ n. moved_within Below TooGreat g.S.Shape.greatest_of c.args.key n c.args.change) (sym kept) ∙ sym refusal))

pub returns-clause-counts : goal.returns-clause-counts
returns-clause-counts g c =
    let es = c.args.entries.now.items in
    let kept : c.count_at-kept.result ≡ count key_cmp es c.args.key = subst (λ es. c.count_at-kept.result ≡ count key_cmp es c.args.key) c.deref-2.ensures.value c.count_at-kept.ensures in
    let made = rw (to_z-of_z w64 c.args.change c.ranges.change) at c.in_ok-n.ensures in
    let is : c.reserve.new.self.items ≡ es = c.in-Ok.ensures.items in
    subst (λ fs. AreCounts key_cmp g.S.Shape.greatest_of fs) (sym (c.set_entry.ensures.items ∙ ap (λ fs. set_count key_cmp fs c.args.key c.in_ok-n.n) is))
    (one_counts g.S.Shape.greatest_of es c.args.key c.args.change c.in_ok-n.n (ap (λ n. moved_within Below TooGreat g.S.Shape.greatest_of c.args.key n c.args.change) (sym kept) ∙ sym made) c.requires)

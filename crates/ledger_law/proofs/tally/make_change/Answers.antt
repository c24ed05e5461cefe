use Rattle.std.proofs.Common.{◌≡◌, sym, ◌∙◌, ap, subst, arith, Some}
use Rattle.std.specs.Int.{w64}
use Rattle.std.proofs.lemmas.Int.{to_z-of_z}
use Rattle.fuxi_terms.specs.Keys.{key_cmp}
use Rattle.fuxi_terms.specs.Counts.{AreCounts, count, moved}
use Rattle.fuxi_terms.specs.declared.answers.LedgerFault.TheVariants.{Below, TooGreat}
use Rattle.fuxi_terms.proofs.KeyOrders.{key_total, same_key}
use Rattle.fuxi_terms.proofs.CountsLemmas.{count_le, counts-set_count}
use Rattle.fuxi_terms.proofs.ChangesInTurn.{made_one}
use Rattle.ledger_law.proofs.tally.make_change.Goals as goal

pub moved-requires : goal.moved-requires
moved-requires g c =
    let le = count_le key_total same_key g.S.Shape.greatest_of c.args.entries.now.items c.args.key c.requires.counts.within in
    let kept : c.count_at-kept.result ≡ count key_cmp c.args.entries.now.items c.args.key = subst (λ es. c.count_at-kept.result ≡ count key_cmp es c.args.key) c.deref-2.ensures.value c.count_at-kept.ensures in
    omega (arith, le, g.met.S.Shape.bounded c.args.key, kept)

pub returns-clause-counts : goal.returns-clause-counts
returns-clause-counts g c =
    let kept : c.count_at-kept.result ≡ count key_cmp c.args.entries.now.items c.args.key = subst (λ es. c.count_at-kept.result ≡ count key_cmp es c.args.key) c.deref-2.ensures.value c.count_at-kept.ensures in
    let n_is : moved (count key_cmp c.args.entries.now.items c.args.key) c.args.change ≡ Some c.in-Some.n = ap (λ n. moved n c.args.change) (sym kept) ∙ sym (rw (to_z-of_z w64 c.args.change c.ranges.change) at c.in-Some.ensures) in
    let made = made_one key_cmp Below TooGreat g.S.Shape.greatest_of c.args.entries.now.items c.args.key c.args.change c.in-Some.n c.requires.can n_is in
    subst (λ es. AreCounts key_cmp g.S.Shape.greatest_of es) (sym c.set_entry.ensures.items) (counts-set_count key_total g.S.Shape.greatest_of same_key c.args.entries.now.items c.args.key c.in-Some.n made.1 c.requires.counts)

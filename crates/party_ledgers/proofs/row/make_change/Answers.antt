use Rattle.std.proofs.Common.{◌≡◌, sym, ◌∙◌, ap, subst, arith, Some}
use Rattle.std.specs.Int.{w64}
use Rattle.std.proofs.lemmas.Int.{to_z-of_z}
use Rattle.fuxi_terms.specs.Keys.{row_cmp}
use Rattle.fuxi_terms.specs.Counts.{count, moved}
use Rattle.fuxi_terms.specs.Rows.{IsRow}
use Rattle.party_ledgers.proofs.PatchedRow.{count_small, row_made_once}
use Rattle.party_ledgers.proofs.row.make_change.Goals as goal

pub moved-requires : goal.moved-requires
moved-requires c =
    let kept : c.count_at-kept.result ≡ count row_cmp c.args.entries.now.items c.args.key = subst (λ es. c.count_at-kept.result ≡ count row_cmp es c.args.key) c.deref-2.ensures.value c.count_at-kept.ensures in
    omega (arith, kept, count_small c.args.entries.now.items c.args.key c.requires.row.counts)

pub returns-clause-made : goal.returns-clause-made
returns-clause-made c =
    let kept : c.count_at-kept.result ≡ count row_cmp c.args.entries.now.items c.args.key = subst (λ es. c.count_at-kept.result ≡ count row_cmp es c.args.key) c.deref-2.ensures.value c.count_at-kept.ensures in
    let n_is : moved (count row_cmp c.args.entries.now.items c.args.key) c.args.change ≡ Some c.in-Some.n = ap (λ n. moved n c.args.change) (sym kept) ∙ sym (rw (to_z-of_z w64 c.args.change c.ranges.change) at c.in-Some.ensures) in
    let made = row_made_once c.args.entries.now.items c.args.key c.args.change c.in-Some.n c.requires.row.counts c.requires.can n_is in
    rw c.set_entry.ensures.items made.0

pub returns-clause-row : goal.returns-clause-row
returns-clause-row c =
    let kept : c.count_at-kept.result ≡ count row_cmp c.args.entries.now.items c.args.key = subst (λ es. c.count_at-kept.result ≡ count row_cmp es c.args.key) c.deref-2.ensures.value c.count_at-kept.ensures in
    let n_is : moved (count row_cmp c.args.entries.now.items c.args.key) c.args.change ≡ Some c.in-Some.n = ap (λ n. moved n c.args.change) (sym kept) ∙ sym (rw (to_z-of_z w64 c.args.change c.ranges.change) at c.in-Some.ensures) in
    let made = row_made_once c.args.entries.now.items c.args.key c.args.change c.in-Some.n c.requires.row.counts c.requires.can n_is in
    subst (λ es. IsRow es) (sym c.set_entry.ensures.items) made.1

use Rattle.std.proofs.Common.{◌<◌, ℕ, sym, ◌∙◌, subst}
use Rattle.std.specs.Prelude.{T}
use Rattle.std.specs.FinMap.Entries.{is_sorted}
use Rattle.fuxi_terms.specs.declared.Key.{Key}
use Rattle.fuxi_terms.specs.Counts.{AreCounts, count}
use Rattle.fuxi_terms.specs.Keys.{key_cmp}
use Rattle.fuxi_terms.specs.TallyKeys.{count_key, greatest_grant}
use Rattle.fuxi_terms.proofs.MovesLemmas.{every}
use Rattle.app_master.specs.Usable.{IsNext}
use Rattle.app_master.proofs.NextCounted.{none_left, other_next, counts_next}
use Rattle.app_master.proofs.EntriesWalked.{no_entry}
use Rattle.app_master.proofs.tallies.next_counted.Goals as goal

pub place_of-place-requires : goal.place_of-place-requires
place_of-place-requires c = subst (λ es. T (is_sorted key_cmp es)) (sym c.entries-entries.ensures.entries) c.entries-entries.ensures.counts.sorted

pub returns-then-place-entries : goal.returns-then-place-entries
returns-then-place-entries c =
    let es = c.entries-entries.result.now in
    let u = c.args.unit.0 in
    subst (λ es. IsNext (λ m. count key_cmp es (count_key u m)) c.args.from c.args.end c.args.end) c.entries-entries.ensures.entries
    (none_left es u c.args.from c.place_of-place.result c.args.end c.requires c.place_of-place.ensures c.if-place-entries.true)

pub returns-then-not-is_count : goal.returns-then-not-is_count
returns-then-not-is_count c =
    let es = c.entries-entries.result.now in
    let u = c.args.unit.0 in
    let sorted = subst (λ es. T (is_sorted key_cmp es)) (sym c.entries-entries.ensures.entries) c.entries-entries.ensures.counts.sorted in
    subst (λ es. IsNext (λ m. count key_cmp es (count_key u m)) c.args.from c.args.end c.args.end) c.entries-entries.ensures.entries
    (other_next es u c.args.from c.place_of-place.result c.args.end c.requires c.place_of-place.ensures no_entry sorted c.if-place-entries.false (sym c.is_count.ensures ∙ c.if-not-is_count.true))

pub returns : goal.returns
returns c =
    let es = c.entries-entries.result.now in
    let u = c.args.unit.0 in
    let lt = c.if-place-entries.false in
    let counts = subst (λ es. AreCounts key_cmp greatest_grant es) (sym c.entries-entries.ensures.entries) c.entries-entries.ensures.counts in
    let positive = every (λ (e : Key × ℕ). 0 < e.1) es c.place_of-place.result no_entry lt counts.positive in
    subst (λ es. IsNext (λ m. count key_cmp es (count_key u m)) c.args.from c.args.end c.min.result) c.entries-entries.ensures.entries
    (counts_next es u c.args.from c.place_of-place.result c.args.end c.requires c.place_of-place.ensures no_entry counts.sorted lt (sym c.is_count.ensures ∙ c.if-not-is_count.false) positive c.min.result c.min.ensures)

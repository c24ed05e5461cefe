use Rattle.std.proofs.Common.{◌≡◌, ◌<◌, ◌^◌, ◌++◌, ◌∷◌, [], true, false, take, refl, sym, ◌∙◌, ap, subst, rules}
use Rattle.std.specs.List.{All}
use Rattle.fuxi_terms.specs.declared.vectors.Sum.{Sum}
use Rattle.fuxi_terms.specs.Vectors.{plus}
use Rattle.fuxi_terms.specs.Rows.{IsRow, row_total}
use Rattle.spec_roles.specs.MasterSteps.{is_kept}
use Rattle.party_ledgers.specs.Entries.{entry_of}
use Rattle.failover.specs.KeptReports.{kept_entries}
use Rattle.failover.proofs.OneEntryMore.{row_with, more_kept, no_more_kept}
use Rattle.failover.proofs.Totals.{row_push, room_for}
use Rattle.failover.proofs.adopting.kept_total.Goals as goal
use Rattle.failover.proofs.adopting.kept_total.Goals.{then-is_kept, else-is_kept}

pub add-total-requires : goal.add-total-requires
add-total-requires c =
    let jobs = c.args.known.now.jobs in
    let report = c.args.report.now in
    let e = entry_of c.at-entry.result in
    let kept = kept_entries jobs (take c.loop-index.index report) in
    let test : is_kept jobs e.0 ≡ true = search rules in
    let row : IsRow (kept ++ e ∷ []) = row_with (is_kept jobs) report kept c.loop-index.index e c.at-entry.ensures.row c.at-entry.ensures.entry test refl in
    subst (λ q. All (λ n. n < 2 ^ 128) (plus q c.times.result.q)) (sym c.loop-index.invariant)
    (subst (λ q. All (λ n. n < 2 ^ 128) (plus (row_total kept) q)) (sym c.times.ensures) (room_for kept e row))

pub loop-index-preserved : goal.loop-index-preserved
loop-index-preserved c =
    let jobs = c.args.known.now.jobs in
    let report = c.args.report.now in
    let e = entry_of c.at-entry.result in
    let kept = kept_entries jobs (take c.loop-index.index report) in
    elim c.if-is_kept.branch [
      | then-is_kept w ↦
          let test : is_kept jobs e.0 ≡ true = search rules in
          let row : IsRow (kept ++ e ∷ []) = row_with (is_kept jobs) report kept c.loop-index.index e c.at-entry.ensures.row c.at-entry.ensures.entry test refl in
          let grown = more_kept (is_kept jobs) report kept (kept ++ e ∷ []) c.loop-index.index e c.at-entry.ensures.entry test refl refl in
          ap (λ (s : Sum). s.q) w.total-is ∙ w.add-total.ensures ∙ ap (λ q. plus q w.times.result.q) c.loop-index.invariant ∙ ap (plus (row_total kept)) w.times.ensures ∙ sym (row_push kept e row) ∙ ap row_total grown
      | else-is_kept w ↦
          let test : is_kept jobs e.0 ≡ false = search rules in
          ap (λ (s : Sum). s.q) w.total-is ∙ c.loop-index.invariant ∙ ap row_total (no_more_kept (is_kept jobs) report kept c.loop-index.index e c.at-entry.ensures.entry test refl)
    ]

use Rattle.std.proofs.Common.{◌≡◌, true, false, ◌∙◌, rules}
use Rattle.spec_roles.specs.MasterSteps.{is_kept}
use Rattle.party_ledgers.specs.Entries.{entry_of}
use Rattle.failover.proofs.OneEntryMore.{row_with, more_kept, no_more_kept}
use Rattle.failover.proofs.adopting.kept_entries.Goals as goal
use Rattle.failover.proofs.adopting.kept_entries.Goals.{then-is_kept+in_ok-push, else-is_kept}

pub push-requires : goal.push-requires
push-requires c =
    let jobs = c.args.known.now.jobs in
    let e = entry_of c.at-entry.result in
    let test : is_kept jobs e.0 ≡ true = search rules in
    record { row = row_with (is_kept jobs) c.args.report.now c.loop-index.kept c.loop-index.index e c.at-entry.ensures.row c.at-entry.ensures.entry test c.loop-index.invariant }

pub loop-index-preserved : goal.loop-index-preserved
loop-index-preserved c =
    let jobs = c.args.known.now.jobs in
    let e = entry_of c.at-entry.result in
    elim c.if-is_kept.branch [
      | then-is_kept+in_ok-push w ↦
          let test : is_kept jobs e.0 ≡ true = search rules in
          w.kept-is ∙ more_kept (is_kept jobs) c.args.report.now c.loop-index.kept w.push.new.kept c.loop-index.index e c.at-entry.ensures.entry test c.loop-index.invariant w.in_ok-push.ensures
      | else-is_kept w ↦
          let test : is_kept jobs e.0 ≡ false = search rules in
          w.kept-is ∙ no_more_kept (is_kept jobs) c.args.report.now c.loop-index.kept c.loop-index.index e c.at-entry.ensures.entry test c.loop-index.invariant
    ]

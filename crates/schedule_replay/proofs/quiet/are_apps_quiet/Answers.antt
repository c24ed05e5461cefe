use Rattle.std.proofs.Common.{sym, ◌∙◌, arith}
use Rattle.spec_world.specs.Quiet.{is_app_quiet}
use Rattle.schedule_replay.proofs.Lists.{all_entries, one_entry}
use Rattle.schedule_replay.proofs.Peers.{all_jobs}
use Rattle.schedule_replay.proofs.quiet.are_apps_quiet.Goals as goal

pub returns-then-not-is_app_quiet : goal.returns-then-not-is_app_quiet
returns-then-not-is_app_quiet c w m good stands apps sorted =
    sym (one_entry (is_app_quiet w m) w.apps c.loop-number.number (sym (c.is_app_quiet.ensures w m stands apps) ∙ c.if-not-is_app_quiet.true))

pub returns : goal.returns
returns c w m good stands apps sorted =
    let end = c.loop-number-test.false in
    sym (all_entries (is_app_quiet w m) w.apps sorted (all_jobs w m c.loop-number.number good (omega (arith, end)) (c.loop-number.invariant w m stands apps)))

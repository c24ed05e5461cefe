use Rattle.input_lines.proofs.OpenedRunsLemmas.{behind_line, no_line}
use Rattle.schedule_replay.specs.ScheduleRuns.{world_ends, world_opener}
use Rattle.schedule_replay.proofs.ScheduleRunsLemmas.{may_be_unread}
use Rattle.schedule_replay.proofs.run.run_schedule.Goals as goal

pub returns-in-Ok-clause-ended : goal.returns-in-Ok-clause-ended
returns-in-Ok-clause-ended g c none =
    behind_line world_opener world_ends c.args.lines.now.number _ c.in-Ok.cluster c.read_cluster_line.new.lines.number c.read_cluster_line.new.lines.ended _ (g.S.Source.left c.run_lines.new.source) (g.O.Sink.took c.args.out.now) (g.O.Sink.took c.run_lines.new.out) c.run_lines.result
    (c.in-Ok.ensures.opened none) c.run_lines.ensures.unread (λ last. c.run_lines.ensures.ended (record { running = c.in-Ok.ensures.running; last = last }))

pub returns-in-Err-clause-ended : goal.returns-in-Err-clause-ended
returns-in-Err-clause-ended g c none =
    no_line world_opener world_ends c.args.lines.now.number may_be_unread _ c.read_cluster_line.new.lines (g.S.Source.left c.read_cluster_line.new.source) (g.O.Sink.took c.args.out.now) c.in-Err.status (c.in-Err.ensures.opened none)

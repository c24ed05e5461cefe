use Rattle.std.proofs.Common.{inr, IfSome, refl, subst}
use Rattle.fuxi_io.specs.declared.status.Status.TheVariants.{ReadFault, WriteFault}
use Rattle.work_plan.specs.AgentWithApps.{empty_world}
use Rattle.input_lines.proofs.LineProgressLemmas.{ends_done, nothing_read}
use Rattle.input_lines.proofs.RunEndsLemmas.{ends_so}
use Rattle.work_plan.specs.WorkLineRuns.{Ended, run_from, work_causes, work_plan}
use Rattle.work_plan.proofs.run.run_work.Goals as goal

pub returns-in-Err-clause-ended : goal.returns-in-Err-clause-ended
returns-in-Err-clause-ended g c = nothing_read work_plan (run_from 0 empty_world) (g.S.Source.left c.args.source.now) (g.O.Sink.took c.args.out.now) refl

pub returns-in-Err-clause-complete : goal.returns-in-Err-clause-complete
returns-in-Err-clause-complete g c bytes known good unread unwritten = inr refl

pub returns-clause-complete : goal.returns-clause-complete
returns-clause-complete g c bytes known good unread unwritten =
    ends_done work_plan (run_from 0 empty_world) bytes (g.S.Source.left c.run_lines.new.source) (g.O.Sink.took c.args.out.now) (g.O.Sink.took c.run_lines.new.out) good c.run_lines.result
    (subst (λ o. IfSome o (λ b. Ended (run_from 0 empty_world) b c.run_lines.result (g.S.Source.left c.run_lines.new.source) (g.O.Sink.took c.args.out.now) (g.O.Sink.took c.run_lines.new.out))) known c.run_lines.ensures.ended)
    (λ e. unread (ends_so work_causes _ c.run_lines.result ReadFault e c.run_lines.ensures.status).0) (λ e. unwritten (ends_so work_causes _ c.run_lines.result WriteFault e c.run_lines.ensures.status).1)

-- The lines of the code as those that are written down.
use Rattle.schedule_text.specs.Printing.{as_party, as_kind}
use Rattle.work_plan.specs.WorkLines.{Line, Sent, Came, Lost, Refused, State, AgentIs, PlanAt, Works, AppIs, Seen, Packets, Why as WrittenWhy, NotRunning, NotRising, NoPacket}
use Rattle.work_plan.specs.declared.output.Why.{Why}
use Rattle.work_plan.specs.declared.output.Why.TheVariants as why
use Rattle.work_plan.specs.declared.output.Output.{Output}
use Rattle.work_plan.specs.declared.output.Output.TheVariants as out

abbrev pub as_why : Why → WrittenWhy
as_why why.NotRunning = NotRunning
as_why (why.NotRising known) = NotRising known
as_why (why.NoPacket sent) = NoPacket sent

abbrev pub as_line : Output → Line
as_line (out.Sent number from to kind inc seq) = Sent number (record { from = as_party from; to = as_party to; kind = as_kind kind; inc = inc; seq = seq })
as_line (out.Heard number fresh what) = Came number fresh what
as_line (out.Lost number) = Lost number
as_line (out.Refused why) = Refused (as_why why)
as_line (out.State events) = State events
as_line (out.Agent boot) = AgentIs boot
as_line (out.Plan app inc seq) = PlanAt app.0 inc seq
as_line (out.Work app unit worker) = Works app.0 unit.0 worker
as_line (out.App app boot inc seq) = AppIs app.0 boot inc seq
as_line (out.Seen app unit worker) = Seen app.0 unit.0 worker
as_line (out.Packets number) = Packets number

use Rattle.std.proofs.Common.{subst}
use Rattle.fuxi_io.specs.declared.status.Status.TheVariants.{Done, BadInput, ReadFault, WriteFault, Limit, OutOfMemory}
use Rattle.fuxi_node.specs.NodeInputs.{TellsDisk}
use Rattle.fuxi_node.specs.declared.kind.NodeKind.TheVariants.{Master}
use Rattle.storm_run.specs.StormRuns.{StormEnded}
use Rattle.storm_run.specs.Summaries.{storm_of}
use Rattle.fuxi_command.proofs.LeaseWritesItsText.{lease_done}
use Rattle.fuxi_command.proofs.ReplaysLemmas.{ended_as, ends_whole, text_before, text_done, text_limited}
use Rattle.fuxi_command.proofs.RunStatesLemmas.{each_calms, each_judges}
use Rattle.fuxi_command.proofs.StormTextsLemmas.{ends_well, quiet_storm}
use Rattle.fuxi_command.proofs.WorkWritesItsText.{work_done}
use Rattle.fuxi_command.proofs.top.fuxi.Goals as goal

pub returns-clause-outcome : goal.returns-clause-outcome
returns-clause-outcome g c = c.run_command-status.ensures

pub returns-clause-usage : goal.returns-clause-usage
returns-clause-usage g c = c.run_command-status.ensures.usage

pub returns-clause-unused : goal.returns-clause-unused
returns-clause-unused g c = c.run_command-status.ensures.unused

pub returns-clause-text : goal.returns-clause-text
returns-clause-text g c is done = text_done (g.S.Source.left c.args.input.now) (g.S.Source.left c.run_command-status.new.input) (g.O.Sink.took c.args.out.now) (g.O.Sink.took c.run_command-status.new.out) (ended_as (g.S.Source.left c.args.input.now) (g.S.Source.left c.run_command-status.new.input) (g.O.Sink.took c.args.out.now) (g.O.Sink.took c.run_command-status.new.out) c.run_command-status.result Done done (c.run_command-status.ensures.replay is)) c.runs_are_told.ensures.whole

pub returns-clause-done : goal.returns-clause-done
returns-clause-done g c is done = ended_as (g.S.Source.left c.args.input.now) (g.S.Source.left c.run_command-status.new.input) (g.O.Sink.took c.args.out.now) (g.O.Sink.took c.run_command-status.new.out) c.run_command-status.result Done done (c.run_command-status.ensures.replay is)

pub returns-clause-bad : goal.returns-clause-bad
returns-clause-bad g c is line fault bad = ended_as (g.S.Source.left c.args.input.now) (g.S.Source.left c.run_command-status.new.input) (g.O.Sink.took c.args.out.now) (g.O.Sink.took c.run_command-status.new.out) c.run_command-status.result (BadInput line fault) bad (c.run_command-status.ensures.replay is)

pub returns-clause-bad_text : goal.returns-clause-bad_text
returns-clause-bad_text g c is line fault bad = text_before (g.S.Source.left c.args.input.now) (g.S.Source.left c.run_command-status.new.input) (g.O.Sink.took c.args.out.now) (g.O.Sink.took c.run_command-status.new.out) line fault (ended_as (g.S.Source.left c.args.input.now) (g.S.Source.left c.run_command-status.new.input) (g.O.Sink.took c.args.out.now) (g.O.Sink.took c.run_command-status.new.out) c.run_command-status.result (BadInput line fault) bad (c.run_command-status.ensures.replay is)) c.runs_are_told.ensures.bad

pub returns-clause-limit : goal.returns-clause-limit
returns-clause-limit g c = c.run_command-status.ensures.limit

pub returns-clause-limited : goal.returns-clause-limited
returns-clause-limited g c is what kept limited = ended_as (g.S.Source.left c.args.input.now) (g.S.Source.left c.run_command-status.new.input) (g.O.Sink.took c.args.out.now) (g.O.Sink.took c.run_command-status.new.out) c.run_command-status.result (Limit what kept) limited (c.run_command-status.ensures.replay is)

pub returns-clause-limited_text : goal.returns-clause-limited_text
returns-clause-limited_text g c is what kept limited = text_limited (g.S.Source.left c.args.input.now) (g.S.Source.left c.run_command-status.new.input) (g.O.Sink.took c.args.out.now) (g.O.Sink.took c.run_command-status.new.out) what kept (ended_as (g.S.Source.left c.args.input.now) (g.S.Source.left c.run_command-status.new.input) (g.O.Sink.took c.args.out.now) (g.O.Sink.took c.run_command-status.new.out) c.run_command-status.result (Limit what kept) limited (c.run_command-status.ensures.replay is)) c.runs_are_told.ensures.front

pub returns-clause-read : goal.returns-clause-read
returns-clause-read g c = c.run_command-status.ensures.read

pub returns-clause-read_so_far : goal.returns-clause-read_so_far
returns-clause-read_so_far g c is failed = ended_as (g.S.Source.left c.args.input.now) (g.S.Source.left c.run_command-status.new.input) (g.O.Sink.took c.args.out.now) (g.O.Sink.took c.run_command-status.new.out) c.run_command-status.result ReadFault failed (c.run_command-status.ensures.replay is)

pub returns-clause-write : goal.returns-clause-write
returns-clause-write g c = c.run_command-status.ensures.write

pub returns-clause-written_so_far : goal.returns-clause-written_so_far
returns-clause-written_so_far g c is failed = ended_as (g.S.Source.left c.args.input.now) (g.S.Source.left c.run_command-status.new.input) (g.O.Sink.took c.args.out.now) (g.O.Sink.took c.run_command-status.new.out) c.run_command-status.result WriteFault failed (c.run_command-status.ensures.replay is)

pub returns-clause-memory : goal.returns-clause-memory
returns-clause-memory g c is refused = ended_as (g.S.Source.left c.args.input.now) (g.S.Source.left c.run_command-status.new.input) (g.O.Sink.took c.args.out.now) (g.O.Sink.took c.run_command-status.new.out) c.run_command-status.result OutOfMemory refused (c.run_command-status.ensures.replay is)

pub returns-clause-ended : goal.returns-clause-ended
returns-clause-ended g c = c.run_command-status.ensures.replay

pub returns-clause-complete : goal.returns-clause-complete
returns-clause-complete g c is bytes known end reads writes = ends_whole (g.S.Source.left c.args.input.now) bytes c.run_command-status.result (g.S.Source.left c.run_command-status.new.input) (g.O.Sink.took c.args.out.now) (g.O.Sink.took c.run_command-status.new.out) known end (λ failed. reads (c.run_command-status.ensures.read failed)) (λ failed. writes (c.run_command-status.ensures.write failed)) (c.run_command-status.ensures.replay is)

pub returns-clause-storm_unused : goal.returns-clause-storm_unused
returns-clause-storm_unused g c seed steps is = (c.run_command-status.ensures.storm seed steps is).0

pub returns-clause-storm_text : goal.returns-clause-storm_text
returns-clause-storm_text g c seed steps is done = subst (λ s. StormEnded (storm_of seed steps) s (g.O.Sink.took c.args.out.now) (g.O.Sink.took c.run_command-status.new.out)) done (c.run_command-status.ensures.storm seed steps is).1

pub returns-clause-storm_quiet : goal.returns-clause-storm_quiet
returns-clause-storm_quiet g c seed steps is done = quiet_storm seed steps (g.O.Sink.took c.args.out.now) (g.O.Sink.took c.run_command-status.new.out) c.storms_end_quiet.ensures (subst (λ s. StormEnded (storm_of seed steps) s (g.O.Sink.took c.args.out.now) (g.O.Sink.took c.run_command-status.new.out)) done (c.run_command-status.ensures.storm seed steps is).1)

pub returns-clause-storm_so_far : goal.returns-clause-storm_so_far
returns-clause-storm_so_far g c seed steps is failed = subst (λ s. StormEnded (storm_of seed steps) s (g.O.Sink.took c.args.out.now) (g.O.Sink.took c.run_command-status.new.out)) failed (c.run_command-status.ensures.storm seed steps is).1

pub returns-clause-storm_memory : goal.returns-clause-storm_memory
returns-clause-storm_memory g c seed steps is refused = subst (λ s. StormEnded (storm_of seed steps) s (g.O.Sink.took c.args.out.now) (g.O.Sink.took c.run_command-status.new.out)) refused (c.run_command-status.ensures.storm seed steps is).1

pub returns-clause-storm_limited : goal.returns-clause-storm_limited
returns-clause-storm_limited g c seed steps is what kept limited = subst (λ s. StormEnded (storm_of seed steps) s (g.O.Sink.took c.args.out.now) (g.O.Sink.took c.run_command-status.new.out)) limited (c.run_command-status.ensures.storm seed steps is).1

pub returns-clause-storm_complete : goal.returns-clause-storm_complete
returns-clause-storm_complete g c seed steps is text told sound = ends_well seed steps text c.run_command-status.result (g.O.Sink.took c.args.out.now) (g.O.Sink.took c.run_command-status.new.out) told (λ failed. sound (c.run_command-status.ensures.write failed)) (c.run_command-status.ensures.storm seed steps is).1

pub returns-clause-node : goal.returns-clause-node
returns-clause-node g c = c.run_command-status.ensures.node

pub returns-clause-no_door : goal.returns-clause-no_door
returns-clause-no_door g c = c.run_command-status.ensures.no_door

pub returns-clause-no_file : goal.returns-clause-no_file
returns-clause-no_file g c = c.run_command-status.ensures.no_file

pub returns-clause-diskless : goal.returns-clause-diskless
returns-clause-diskless g c = c.run_command-status.ensures.diskless

pub returns-clause-faults : goal.returns-clause-faults
returns-clause-faults g c = c.run_command-status.ensures.faults

pub returns-clause-damaged_stays : goal.returns-clause-damaged_stays
returns-clause-damaged_stays g c = c.run_command-status.ensures.keeps

pub returns-clause-disk : goal.returns-clause-disk
returns-clause-disk g c = c.run_command-status.ensures.disk

pub returns-clause-node_stays : goal.returns-clause-node_stays
returns-clause-node_stays g c = c.run_command-status.ensures.stays

pub returns-clause-node_unopened : goal.returns-clause-node_unopened
returns-clause-node_unopened g c = c.run_command-status.ensures.unopened

pub returns-clause-node_places : goal.returns-clause-node_places
returns-clause-node_places g c = c.run_command-status.ensures.places

pub returns-clause-node_complete : goal.returns-clause-node_complete
returns-clause-node_complete g c = c.run_command-status.ensures.complete

pub returns-clause-lease : goal.returns-clause-lease
returns-clause-lease g c = c.run_command-status.ensures.lease

pub returns-clause-lease_told : goal.returns-clause-lease_told
returns-clause-lease_told g c = c.run_command-status.ensures.lease_told

pub returns-clause-lease_complete : goal.returns-clause-lease_complete
returns-clause-lease_complete g c = c.run_command-status.ensures.lease_complete

pub returns-clause-work : goal.returns-clause-work
returns-clause-work g c = c.run_command-status.ensures.work

pub returns-clause-work_complete : goal.returns-clause-work_complete
returns-clause-work_complete g c = c.run_command-status.ensures.work_complete

pub returns-clause-stale : goal.returns-clause-stale
returns-clause-stale g c epoch addr is fence stale = subst (λ s. TellsDisk (Master epoch) s (g.D.Disk.told c.args.disk.now)) stale (c.run_command-status.ensures.told (Master epoch) addr is)

pub returns-clause-damaged : goal.returns-clause-damaged
returns-clause-damaged g c epoch addr is offset damaged = subst (λ s. TellsDisk (Master epoch) s (g.D.Disk.told c.args.disk.now)) damaged (c.run_command-status.ensures.told (Master epoch) addr is)

pub returns-clause-full : goal.returns-clause-full
returns-clause-full g c epoch addr is kept full = subst (λ s. TellsDisk (Master epoch) s (g.D.Disk.told c.args.disk.now)) full (c.run_command-status.ensures.told (Master epoch) addr is)

pub returns-clause-lease_text : goal.returns-clause-lease_text
returns-clause-lease_text g c is done bytes t value known told reads = lease_done value bytes t (g.S.Source.left c.args.input.now) (g.S.Source.left c.run_command-status.new.input) (g.O.Sink.took c.args.out.now) (g.O.Sink.took c.run_command-status.new.out) (g.D.Disk.told c.args.disk.now) (g.D.Disk.told c.run_command-status.new.disk) c.run_command-status.result done known told reads (c.run_command-status.ensures.lease is)

pub returns-clause-work_plan : goal.returns-clause-work_plan
returns-clause-work_plan g c is done = work_done (g.S.Source.left c.args.input.now) (g.S.Source.left c.run_command-status.new.input) (g.O.Sink.took c.args.out.now) (g.O.Sink.took c.run_command-status.new.out) c.run_command-status.result done (c.run_command-status.ensures.work is)

pub returns-clause-judges : goal.returns-clause-judges
returns-clause-judges g c = each_judges (g.S.Source.left c.args.input.now) c.every_judgement_bans_what_is_judged.ensures c.inputs_are_given.ensures

pub returns-clause-calms : goal.returns-clause-calms
returns-clause-calms g c = each_calms (g.S.Source.left c.args.input.now) c.calm_rounds_bring_quiet.ensures.quiet c.inputs_are_given.ensures

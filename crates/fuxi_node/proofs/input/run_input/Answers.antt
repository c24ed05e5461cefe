use Rattle.std.proofs.Common.{inr, Err, refl, ap, arith}
use Rattle.hard_state.proofs.HardFilesLemmas.{idle_keeps}
use Rattle.fuxi_node.proofs.CompleteInputs.{completes_before, completes_behind}
use Rattle.fuxi_node.proofs.NodeInputsLemmas.{no_memory, no_cluster, behind_cluster}
use Rattle.fuxi_node.proofs.InputEnds.{before_placed, behind_placed, has_some, input_stays, memory_placed}
use Rattle.fuxi_node.proofs.input.run_input.Goals as goal

pub returns-in-Err-clause-ended : goal.returns-in-Err-clause-ended
returns-in-Err-clause-ended g c = no_memory c.args.kind c.args.addr.now (g.D.Disk.told c.args.disk.now) (g.O.Sink.took c.args.out.now) (g.N.Door.faults c.args.door.now) (g.N.Door.told c.args.door.now) (g.S.Source.left c.args.source.now)

pub returns-in-Err-read_cluster_line-clause-ended : goal.returns-in-Err-read_cluster_line-clause-ended
returns-in-Err-read_cluster_line-clause-ended g c =
    no_cluster c.args.kind c.args.addr.now (g.D.Disk.told c.args.disk.now) (g.O.Sink.took c.args.out.now) (g.N.Door.faults c.args.door.now) (g.N.Door.told c.args.door.now) (g.S.Source.left c.args.source.now) c.in-Err-read_cluster_line.status (g.S.Source.left c.read_cluster_line.new.source)
    ((rw c.in-Ok.ensures at c.in-Err-read_cluster_line.ensures.opened) refl)

pub returns-clause-ended : goal.returns-clause-ended
returns-clause-ended g c =
    behind_cluster c.args.kind c.args.addr.now (g.D.Disk.told c.args.disk.now) (g.D.Disk.told c.run_kind.new.disk) c.in-Ok-read_cluster_line.cluster c.read_cluster_line.new.lines.number c.read_cluster_line.new.lines.ended c.run_kind.result (g.S.Source.left c.run_kind.new.source) (g.O.Sink.took c.args.out.now) (g.O.Sink.took c.run_kind.new.out)
    (g.N.Door.faults c.args.door.now) (g.N.Door.faults c.run_kind.new.door) (g.S.Source.left c.args.source.now) _ (g.N.Door.told c.args.door.now) (g.N.Door.told c.run_kind.new.door)
    ((rw c.in-Ok.ensures at c.in-Ok-read_cluster_line.ensures.opened) refl) (λ last. c.run_kind.ensures.ended (record { running = c.in-Ok-read_cluster_line.ensures.running; last = last }))

pub returns-in-Err-clause-places : goal.returns-in-Err-clause-places
returns-in-Err-clause-places g c = memory_placed c.args.kind (g.S.Source.left c.args.source.now) (g.S.Source.left c.args.source.now)

pub returns-in-Err-read_cluster_line-clause-places : goal.returns-in-Err-read_cluster_line-clause-places
returns-in-Err-read_cluster_line-clause-places g c =
    before_placed c.args.kind (g.S.Source.left c.args.source.now) c.in-Err-read_cluster_line.status (g.S.Source.left c.read_cluster_line.new.source) ((rw c.in-Ok.ensures at c.in-Err-read_cluster_line.ensures.opened) refl)

pub returns-clause-places : goal.returns-clause-places
returns-clause-places g c =
    behind_placed c.args.kind c.in-Ok-read_cluster_line.cluster c.read_cluster_line.new.lines.number c.read_cluster_line.new.lines.ended (g.S.Source.left c.args.source.now) _ c.run_kind.result (g.S.Source.left c.run_kind.new.source)
    ((rw c.in-Ok.ensures at c.in-Ok-read_cluster_line.ensures.opened) refl) (λ last. c.run_kind.ensures.places (record { running = c.in-Ok-read_cluster_line.ensures.running; last = last }))

pub returns-in-Err-read_cluster_line-clause-stays : goal.returns-in-Err-read_cluster_line-clause-stays
returns-in-Err-read_cluster_line-clause-stays g c =
    input_stays c.args.kind c.in-Err-read_cluster_line.status (g.D.Disk.told c.args.disk.now) (g.D.Disk.told c.args.disk.now) (λ offset is. c.in-Err-read_cluster_line.ensures.damaged offset (ap (λ s. Err s) is))
    (λ fence is. c.in-Err-read_cluster_line.ensures.stale fence (ap (λ s. Err s) is)) (λ what kept is. ((rw c.in-Ok.ensures at c.in-Err-read_cluster_line.ensures.limit) refl what kept (ap (λ s. Err s) is)).0)

pub returns-clause-unopened : goal.returns-clause-unopened
returns-clause-unopened g c bytes is none =
    absurd (has_some c.args.kind c.in-Ok-read_cluster_line.cluster c.read_cluster_line.new.lines.number c.read_cluster_line.new.lines.ended bytes (g.S.Source.left c.args.source.now) _ is ((rw c.in-Ok.ensures at c.in-Ok-read_cluster_line.ensures.opened) refl) none)

pub returns-in-Err-clause-complete : goal.returns-in-Err-clause-complete
returns-in-Err-clause-complete g c bytes is may read write failed = inr refl

pub returns-in-Err-read_cluster_line-clause-complete : goal.returns-in-Err-read_cluster_line-clause-complete
returns-in-Err-read_cluster_line-clause-complete g c bytes is may read write failed =
    completes_before c.args.kind bytes c.in-Err-read_cluster_line.status (g.S.Source.left c.args.source.now) (g.S.Source.left c.read_cluster_line.new.source) is
    (λ same. c.in-Err-read_cluster_line.ensures.usage (ap (λ s. Err s) same)) (λ same. read (c.in-Err-read_cluster_line.ensures.read (ap (λ s. Err s) same))) (λ same. c.in-Err-read_cluster_line.ensures.write (ap (λ s. Err s) same)) (λ same. c.in-Err-read_cluster_line.ensures.disk (ap (λ s. Err s) same))
    (before_placed c.args.kind (g.S.Source.left c.args.source.now) c.in-Err-read_cluster_line.status (g.S.Source.left c.read_cluster_line.new.source) ((rw c.in-Ok.ensures at c.in-Err-read_cluster_line.ensures.opened) refl))
    (λ fence same. c.in-Err-read_cluster_line.ensures.stale fence (ap (λ s. Err s) same)) (λ offset same. c.in-Err-read_cluster_line.ensures.damaged offset (ap (λ s. Err s) same)) (λ what kept same. ((rw c.in-Ok.ensures at c.in-Err-read_cluster_line.ensures.limit) refl what kept (ap (λ s. Err s) same)).0)

pub returns-clause-complete : goal.returns-clause-complete
returns-clause-complete g c bytes is may read write failed =
    completes_behind c.args.kind bytes c.run_kind.result (g.S.Source.left c.args.source.now) (g.S.Source.left c.run_kind.new.source) is
    c.run_kind.ensures.usage (λ same. let rose = c.run_kind.ensures.read same in let later = c.in-Ok-read_cluster_line.ensures.later in read (omega (arith, rose, later))) (λ same. write (c.run_kind.ensures.write same)) (λ same. failed (c.run_kind.ensures.disk same))
    (behind_placed c.args.kind c.in-Ok-read_cluster_line.cluster c.read_cluster_line.new.lines.number c.read_cluster_line.new.lines.ended (g.S.Source.left c.args.source.now) _ c.run_kind.result (g.S.Source.left c.run_kind.new.source)
    ((rw c.in-Ok.ensures at c.in-Ok-read_cluster_line.ensures.opened) refl) (λ last. c.run_kind.ensures.places (record { running = c.in-Ok-read_cluster_line.ensures.running; last = last })))
    (g.D.Disk.told c.args.disk.now) may c.run_kind.ensures.told

pub returns-in-Err-clause-keeps : goal.returns-in-Err-clause-keeps
returns-in-Err-clause-keeps g c = idle_keeps (g.D.Disk.told c.args.disk.now)

pub returns-in-Err-read_cluster_line-clause-keeps : goal.returns-in-Err-read_cluster_line-clause-keeps
returns-in-Err-read_cluster_line-clause-keeps g c = idle_keeps (g.D.Disk.told c.args.disk.now)

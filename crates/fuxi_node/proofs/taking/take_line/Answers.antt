use Rattle.std.proofs.Common.{◌≡◌, [], ◌∙◌, Ok, sym, ap, subst, arith}
use Rattle.fuxi_terms.specs.Limits.{most_frames}
use Rattle.fuxi_io.specs.Doors.{WhereTold}
use Rattle.node_core.specs.declared.line.NodeLine.TheVariants.{Round, Serve, Show, Event}
use Rattle.schedule_text.specs.Halting.{anywhere}
use Rattle.node_core.specs.PartyEvents.{Commanded}
use Rattle.node_core.specs.NodeLines.{node_line, line_anywhere, HasLineEvent}
use Rattle.node_core.specs.NodeTexts.{answer_text}
use Rattle.fuxi_node.specs.NodeRuns.{behind, then_is}
use Rattle.fuxi_node.specs.NodeEnds.{FitsNow, FitsOneNow}
use Rattle.fuxi_node.specs.NodeProgress.{TakesLine}
use Rattle.fuxi_io.specs.DoorsLemmas.{same_told}
use Rattle.fuxi_node.specs.NodeProgress.{IsSaid}
use Rattle.fuxi_node.proofs.NodeEndsLemmas.{bad_said, ok_always}
use Rattle.fuxi_node.proofs.NodeProgressLemmas.{quiet_line, quietly_same}
use Rattle.fuxi_node.proofs.taking.take_line.Goals as goal

pub take_event-requires-clause-line : goal.take_event-requires-clause-line
take_event-requires-clause-line g c = subst HasLineEvent c.in-Ok-Event.field-0-is c.in-Ok-Event.ensures.line

pub returns-in-Ok-Round-clause-takes : goal.returns-in-Ok-Round-clause-takes
returns-in-Ok-Round-clause-takes g c n s e =
    let is : node_line c.args.line.now ≡ Ok Round = c.in-Ok-Round.ensures.ok ∙ ap (λ l. Ok (line_anywhere l)) c.in-Ok-Round.field-0-is in
    subst (λ what. WhereTold (TakesLine g.C.Core.stands (FitsNow g.C.Core.rests g.C.Node.fits c.args.core (g.D.Disk.size c.args.disk.now) (g.D.Disk.told c.args.disk.now) (g.D.Disk.told c.args.disk.now)) (FitsOneNow g.C.Core.rests g.C.Node.fits g.C.Node.halts c.args.core (g.D.Disk.size c.args.disk.now) (g.D.Disk.told c.args.disk.now) (g.D.Disk.told c.args.disk.now)) most_frames c.args.addr.now n what c.args.number c.take_meeting.result (g.O.Sink.took c.args.out.now) (g.O.Sink.took c.take_meeting.new.out) (g.N.Door.faults c.args.door.now) (g.N.Door.faults c.take_meeting.new.door)) (g.N.Door.told c.args.door.now) (g.N.Door.told c.take_meeting.new.door)) (sym is)
    (c.take_meeting.ensures.takes n c.args.number (g.D.Disk.size c.args.disk.now) (g.D.Disk.told c.args.disk.now) s)

pub returns-in-Ok-Serve-clause-takes : goal.returns-in-Ok-Serve-clause-takes
returns-in-Ok-Serve-clause-takes g c n s e =
    let is : node_line c.args.line.now ≡ Ok Serve = c.in-Ok-Serve.ensures.ok ∙ ap (λ l. Ok (line_anywhere l)) c.in-Ok-Serve.field-0-is in
    subst (λ what. WhereTold (TakesLine g.C.Core.stands (FitsNow g.C.Core.rests g.C.Node.fits c.args.core (g.D.Disk.size c.args.disk.now) (g.D.Disk.told c.args.disk.now) (g.D.Disk.told c.args.disk.now)) (FitsOneNow g.C.Core.rests g.C.Node.fits g.C.Node.halts c.args.core (g.D.Disk.size c.args.disk.now) (g.D.Disk.told c.args.disk.now) (g.D.Disk.told c.args.disk.now)) most_frames c.args.addr.now n what c.args.number c.take_meeting-in-Ok-Serve.result (g.O.Sink.took c.args.out.now) (g.O.Sink.took c.take_meeting-in-Ok-Serve.new.out) (g.N.Door.faults c.args.door.now) (g.N.Door.faults c.take_meeting-in-Ok-Serve.new.door)) (g.N.Door.told c.args.door.now) (g.N.Door.told c.take_meeting-in-Ok-Serve.new.door)) (sym is)
    (c.take_meeting-in-Ok-Serve.ensures.takes n c.args.number (g.D.Disk.size c.args.disk.now) (g.D.Disk.told c.args.disk.now) s)

pub returns-in-Ok-Show-clause-takes : goal.returns-in-Ok-Show-clause-takes
returns-in-Ok-Show-clause-takes g c n s e =
    let is : node_line c.args.line.now ≡ Ok Show = c.in-Ok-Show.ensures.ok ∙ ap (λ l. Ok (line_anywhere l)) c.in-Ok-Show.field-0-is in
    let f = g.N.Door.faults c.args.door.now in
    same_told _ (g.N.Door.told c.args.door.now) (λ t. subst (λ what. TakesLine g.C.Core.stands (FitsNow g.C.Core.rests g.C.Node.fits c.args.core (g.D.Disk.size c.args.disk.now) (g.D.Disk.told c.args.disk.now) (g.D.Disk.told c.args.disk.now)) (FitsOneNow g.C.Core.rests g.C.Node.fits g.C.Node.halts c.args.core (g.D.Disk.size c.args.disk.now) (g.D.Disk.told c.args.disk.now) (g.D.Disk.told c.args.disk.now)) most_frames c.args.addr.now n what c.args.number c.take_show.result (g.O.Sink.took c.args.out.now) (g.O.Sink.took c.take_show.new.out) f f t t) (sym is)
    (quiet_line g.C.Core.stands (FitsNow g.C.Core.rests g.C.Node.fits c.args.core (g.D.Disk.size c.args.disk.now) (g.D.Disk.told c.args.disk.now) (g.D.Disk.told c.args.disk.now)) (FitsOneNow g.C.Core.rests g.C.Node.fits g.C.Node.halts c.args.core (g.D.Disk.size c.args.disk.now) (g.D.Disk.told c.args.disk.now) (g.D.Disk.told c.args.disk.now)) n (Ok Show) most_frames c.args.addr.now c.args.number c.take_show.result (g.O.Sink.took c.args.out.now) (g.O.Sink.took c.take_show.new.out) f f t (omega arith) (c.take_show.ensures.takes n (g.D.Disk.size c.args.disk.now) (g.D.Disk.told c.args.disk.now) s e)))

pub returns-in-Ok-Event-clause-takes : goal.returns-in-Ok-Event-clause-takes
returns-in-Ok-Event-clause-takes g c n s counts =
    let e = c.in-Ok-Event.event in
    let is : node_line c.args.line.now ≡ Ok (Event (anywhere e)) = c.in-Ok-Event.ensures.ok ∙ ap (λ l. Ok (line_anywhere l)) c.in-Ok-Event.field-0-is in
    let f = g.N.Door.faults c.args.door.now in
    let fits = FitsNow g.C.Core.rests g.C.Node.fits c.args.core (g.D.Disk.size c.args.disk.now) (g.D.Disk.told c.args.disk.now) (g.D.Disk.told c.take_event.new.disk) in
    let one = FitsOneNow g.C.Core.rests g.C.Node.fits g.C.Node.halts c.args.core (g.D.Disk.size c.args.disk.now) (g.D.Disk.told c.args.disk.now) (g.D.Disk.told c.take_event.new.disk) in
    let said = quietly_same g.C.Core.stands fits one n (Ok (Event e)) (Ok (Event (anywhere e)))
    (λ most number rounds run. ap (λ (x : Commanded). behind (answer_text x.answer) [] (run (then_is n x.role) rounds)) (c.events_command_anywhere.ensures n.role e))
    c.take_event.result (g.O.Sink.took c.args.out.now) (g.O.Sink.took c.take_event.new.out) (c.take_event.ensures.takes n s) in
    same_told _ (g.N.Door.told c.args.door.now) (λ t. subst (λ what. TakesLine g.C.Core.stands fits one most_frames c.args.addr.now n what c.args.number c.take_event.result (g.O.Sink.took c.args.out.now) (g.O.Sink.took c.take_event.new.out) f f t t) (sym is)
    (quiet_line g.C.Core.stands fits one n (Ok (Event (anywhere e))) most_frames c.args.addr.now c.args.number c.take_event.result (g.O.Sink.took c.args.out.now) (g.O.Sink.took c.take_event.new.out) f f t (omega arith) said))

pub returns-in-Ok-Round-clause-good : goal.returns-in-Ok-Round-clause-good
returns-in-Ok-Round-clause-good g c =
    let is : node_line c.args.line.now ≡ Ok Round = c.in-Ok-Round.ensures.ok ∙ ap (λ l. Ok (line_anywhere l)) c.in-Ok-Round.field-0-is in
    ok_always (IsSaid (node_line c.args.line.now)) c.take_meeting.result (subst IsSaid (sym is) tt)

pub returns-in-Ok-Serve-clause-good : goal.returns-in-Ok-Serve-clause-good
returns-in-Ok-Serve-clause-good g c =
    let is : node_line c.args.line.now ≡ Ok Serve = c.in-Ok-Serve.ensures.ok ∙ ap (λ l. Ok (line_anywhere l)) c.in-Ok-Serve.field-0-is in
    ok_always (IsSaid (node_line c.args.line.now)) c.take_meeting-in-Ok-Serve.result (subst IsSaid (sym is) tt)

pub returns-in-Ok-Show-clause-good : goal.returns-in-Ok-Show-clause-good
returns-in-Ok-Show-clause-good g c =
    let is : node_line c.args.line.now ≡ Ok Show = c.in-Ok-Show.ensures.ok ∙ ap (λ l. Ok (line_anywhere l)) c.in-Ok-Show.field-0-is in
    ok_always (IsSaid (node_line c.args.line.now)) c.take_show.result (subst IsSaid (sym is) tt)

pub returns-in-Ok-Event-clause-good : goal.returns-in-Ok-Event-clause-good
returns-in-Ok-Event-clause-good g c =
    let is : node_line c.args.line.now ≡ Ok (Event (anywhere c.in-Ok-Event.event)) = c.in-Ok-Event.ensures.ok ∙ ap (λ l. Ok (line_anywhere l)) c.in-Ok-Event.field-0-is in
    ok_always (IsSaid (node_line c.args.line.now)) c.take_event.result (subst IsSaid (sym is) tt)

pub returns-in-Ok-Round-clause-bad : goal.returns-in-Ok-Round-clause-bad
returns-in-Ok-Round-clause-bad g c at fault is = absurd (c.take_meeting.ensures.unsaid at fault is)

pub returns-in-Ok-Serve-clause-bad : goal.returns-in-Ok-Serve-clause-bad
returns-in-Ok-Serve-clause-bad g c at fault is = absurd (c.take_meeting-in-Ok-Serve.ensures.unsaid at fault is)

pub returns-in-Ok-Show-clause-bad : goal.returns-in-Ok-Show-clause-bad
returns-in-Ok-Show-clause-bad g c at fault is = absurd (c.take_show.ensures.unsaid at fault is)

pub returns-in-Ok-Event-clause-bad : goal.returns-in-Ok-Event-clause-bad
returns-in-Ok-Event-clause-bad g c at fault is = absurd (c.take_event.ensures.unsaid at fault is)

pub returns-in-Err-clause-bad : goal.returns-in-Err-clause-bad
returns-in-Err-clause-bad g c at fault is = bad_said (node_line c.args.line.now) c.in-Err.fault c.args.number at fault c.event_status.result c.in-Err.ensures.fault c.event_status.ensures is

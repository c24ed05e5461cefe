use Rattle.std.proofs.Common.{Ok, Err, Some, refl, subst}
use Rattle.node_core.specs.declared.line.NodeLine.TheVariants.{Event}
use Rattle.node_core.specs.PartyEvents.{commanded}
use Rattle.node_core.specs.NodeTexts.{answer_text}
use Rattle.fuxi_node.specs.NodeEnds.{FitsNow, FitsOneNow}
use Rattle.fuxi_node.specs.NodeProgress.{WritesText}
use Rattle.fuxi_node.proofs.DiskKept.{fits_second, known_more}
use Rattle.fuxi_node.proofs.NodeEndsLemmas.{not_bad}
use Rattle.fuxi_node.proofs.NodeProgressLemmas.{said_err}
use Rattle.fuxi_node.proofs.taking.take_event.Goals as goal

pub returns-in-Err-clause-takes : goal.returns-in-Err-clause-takes
returns-in-Err-clause-takes g c n s =
    let x = commanded n.role c.args.event.now in
    let does = c.in-Ok.ensures.does n.role s in
    let size = g.D.Disk.size c.args.disk.now in
    let old = g.D.Disk.told c.args.disk.now in
    let new = g.D.Disk.told c.command.new.disk in
    let last = g.D.Disk.size c.command.new.disk in
    let fits : FitsNow g.C.Core.rests g.C.Node.fits c.args.core size old new x.role = known_more g.C.Core.rests c.args.core size (λ t. g.C.Core.rests c.in-Ok.both.0 last (Some t)) (g.C.Node.fits x.role) old new
    (λ t rests. g.met.C.Node.fitting c.in-Ok.both.0 x.role last t does.stands rests) c.in-Ok.ensures.told in
    said_err g.C.Core.stands (FitsNow g.C.Core.rests g.C.Node.fits c.args.core size old new) (FitsOneNow g.C.Core.rests g.C.Node.fits g.C.Node.halts c.args.core size old new) n (Ok (Event c.args.event.now)) (Unit {0}) (answer_text x.answer) x.role (λ most number rounds run. refl)
    fits (fits_second g.C.Core.rests c.args.core g.C.Node.fits g.C.Node.halts size old new n.role x.role fits) c.in-Err.status _ _
    (subst (λ a. WritesText {A = Unit {0}} (answer_text a) (Err c.in-Err.status) (g.O.Sink.took c.args.out.now) (g.O.Sink.took c.write_answer.new.out)) does.answers c.in-Err.ensures.writes)

pub returns-in-Err-clause-unsaid : goal.returns-in-Err-clause-unsaid
returns-in-Err-clause-unsaid g c at fault = not_bad c.in-Err.status at fault c.in-Err.ensures.ends

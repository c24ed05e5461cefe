use Rattle.std.proofs.Common.{◌+◌, Ok, Err, refl, sym, subst}
use Rattle.node_core.specs.declared.line.NodeLine.TheVariants.{Show}
use Rattle.node_core.specs.NodeTexts.{state_text}
use Rattle.fuxi_node.specs.NodeEnds.{FitsNow, FitsOneNow}
use Rattle.fuxi_node.specs.NodeProgress.{WritesText}
use Rattle.fuxi_node.proofs.DiskKept.{fits_first, known_same}
use Rattle.fuxi_node.proofs.NodeEndsLemmas.{not_bad}
use Rattle.fuxi_node.proofs.NodeProgressLemmas.{said_err}
use Rattle.fuxi_node.proofs.taking.take_show.Goals as goal

pub returns-in-Err-clause-takes : goal.returns-in-Err-clause-takes
returns-in-Err-clause-takes g c n size t s e =
    let fits : FitsNow g.C.Core.rests g.C.Node.fits c.args.core size t t n.role = known_same g.C.Core.rests c.args.core size (g.C.Node.fits n.role) t (λ m rests. g.met.C.Node.fitting c.args.core n.role size m s rests) in
    said_err g.C.Core.stands (FitsNow g.C.Core.rests g.C.Node.fits c.args.core size t t) (FitsOneNow g.C.Core.rests g.C.Node.fits g.C.Node.halts c.args.core size t t) n (Ok Show) (Unit {0}) (state_text (n.events + 1) n.role) n.role (λ most number rounds run. refl)
    fits (fits_first g.C.Core.rests c.args.core g.C.Node.fits g.C.Node.halts size t t n.role n.role fits) c.in-Err.status _ _
    (subst (λ k. WritesText {A = Unit {0}} (state_text (k + 1) n.role) (Err c.in-Err.status) (g.O.Sink.took c.args.out.now) (g.O.Sink.took c.write_state.new.out)) (sym e) (c.in-Err.ensures.writes n.role s))

pub returns-in-Err-clause-unsaid : goal.returns-in-Err-clause-unsaid
returns-in-Err-clause-unsaid g c at fault = not_bad c.in-Err.status at fault c.in-Err.ensures.ends

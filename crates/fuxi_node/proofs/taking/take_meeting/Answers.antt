use Rattle.std.proofs.Common.{◌≡◌, ◌≢◌, Ok, Err, cond, sym, ◌∙◌, subst, arith}
use Rattle.fuxi_terms.specs.Limits.{most_frames}
use Rattle.fuxi_io.specs.Doors.{WhereTold}
use Rattle.node_core.specs.declared.line.NodeLine.TheVariants.{Round, Serve}
use Rattle.node_core.specs.PartyEvents.{NotHere, accepts}
use Rattle.node_core.specs.NodeTexts.{answer_text}
use Rattle.fuxi_node.specs.declared.taking.Stop.TheVariants.{Ends}
use Rattle.fuxi_node.specs.NodeEnds.{FitsNow, FitsOneNow}
use Rattle.fuxi_node.specs.NodeProgress.{TakesLine}
use Rattle.fuxi_io.specs.DoorsLemmas.{same_told}
use Rattle.fuxi_node.proofs.DiskKept.{fits_first, known_same}
use Rattle.fuxi_node.proofs.NodeEndsLemmas.{not_bad}
use Rattle.fuxi_node.proofs.NodeProgressLemmas.{other_bool, quiet_line, said_err, other_round}
use Rattle.fuxi_node.proofs.taking.take_meeting.Goals as goal
use Rattle.fuxi_terms.proofs.Booleans.{same_bool}

pub returns-then-accepts-serves-clause-takes : goal.returns-then-accepts-serves-clause-takes
returns-then-accepts-serves-clause-takes g c n number size t s =
    let same : accepts n.role ≡ c.args.serves = sym (c.accepts.ensures n.role s) ∙ same_bool _ _ c.if-accepts-serves.true in
    subst (λ b. WhereTold (TakesLine g.C.Core.stands (FitsNow g.C.Core.rests g.C.Node.fits c.args.core size t t) (FitsOneNow g.C.Core.rests g.C.Node.fits g.C.Node.halts c.args.core size t t) most_frames c.args.addr.now n (Ok (cond b Serve Round)) number c.take_round.result (g.O.Sink.took c.args.out.now) (g.O.Sink.took c.take_round.new.out) (g.N.Door.faults c.args.door.now) (g.N.Door.faults c.take_round.new.door)) (g.N.Door.told c.args.door.now) (g.N.Door.told c.take_round.new.door)) same (c.take_round.ensures.takes n number size t s)

pub returns-in-Ok-clause-takes : goal.returns-in-Ok-clause-takes
returns-in-Ok-clause-takes g c n number size t s =
    let other : accepts n.role ≢ c.args.serves = λ e. other_bool _ _ c.if-accepts-serves.false (c.accepts.ensures n.role s ∙ e) in
    same_told _ (g.N.Door.told c.args.door.now) (λ u. quiet_line g.C.Core.stands (FitsNow g.C.Core.rests g.C.Node.fits c.args.core size t t) (FitsOneNow g.C.Core.rests g.C.Node.fits g.C.Node.halts c.args.core size t t) n (Ok (cond c.args.serves Serve Round)) most_frames c.args.addr.now number (Ok c.args.core) (g.O.Sink.took c.args.out.now) (g.O.Sink.took c.write_answer.new.out) (g.N.Door.faults c.args.door.now) (g.N.Door.faults c.args.door.now) u (omega arith)
    (record { output = answer_text NotHere; writes = c.in-Ok.ensures.writes; role = n.role; stands = s; through = other_round n c.args.serves other }))

pub returns-in-Err-clause-takes : goal.returns-in-Err-clause-takes
returns-in-Err-clause-takes g c n number size t s =
    let other : accepts n.role ≢ c.args.serves = λ e. other_bool _ _ c.if-accepts-serves.false (c.accepts.ensures n.role s ∙ e) in
    let fits : FitsNow g.C.Core.rests g.C.Node.fits c.args.core size t t n.role = known_same g.C.Core.rests c.args.core size (g.C.Node.fits n.role) t (λ m rests. g.met.C.Node.fitting c.args.core n.role size m s rests) in
    same_told _ (g.N.Door.told c.args.door.now) (λ u. quiet_line g.C.Core.stands (FitsNow g.C.Core.rests g.C.Node.fits c.args.core size t t) (FitsOneNow g.C.Core.rests g.C.Node.fits g.C.Node.halts c.args.core size t t) n (Ok (cond c.args.serves Serve Round)) most_frames c.args.addr.now number (Err (Ends c.in-Err.status)) (g.O.Sink.took c.args.out.now) (g.O.Sink.took c.write_answer.new.out) (g.N.Door.faults c.args.door.now) (g.N.Door.faults c.args.door.now) u (omega arith)
    (said_err g.C.Core.stands (FitsNow g.C.Core.rests g.C.Node.fits c.args.core size t t) (FitsOneNow g.C.Core.rests g.C.Node.fits g.C.Node.halts c.args.core size t t) n (Ok (cond c.args.serves Serve Round)) (Unit {0}) (answer_text NotHere) n.role (other_round n c.args.serves other)
    fits (fits_first g.C.Core.rests c.args.core g.C.Node.fits g.C.Node.halts size t t n.role n.role fits) c.in-Err.status _ _ c.in-Err.ensures.writes))

pub returns-in-Err-clause-unsaid : goal.returns-in-Err-clause-unsaid
returns-in-Err-clause-unsaid g c at fault = not_bad c.in-Err.status at fault c.in-Err.ensures.ends

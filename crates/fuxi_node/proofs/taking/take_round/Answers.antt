use Rattle.std.proofs.Common.{Ok, Err, Some, cond, refl}
use Rattle.std.specs.Io.KnownBytes.{Appends}
use Rattle.fuxi_io.specs.Causes.{TakesPart}
use Rattle.fuxi_io.specs.declared.status.Status.TheVariants.{OutOfMemory, WriteFault}
use Rattle.fuxi_terms.specs.Limits.{most_frames}
use Rattle.node_core.specs.Rounds.{Breaks, Rounds}
use Rattle.node_core.specs.declared.line.NodeLine.TheVariants.{Round, Serve}
use Rattle.node_core.specs.PartyEvents.{accepts}
use Rattle.fuxi_node.specs.declared.taking.Stop.TheVariants.{Ends}
use Rattle.fuxi_node.specs.NodeRuns.{role_after}
use Rattle.fuxi_node.specs.NodeEnds.{FitsNow, FitsOneNow}
use Rattle.fuxi_node.specs.NodeProgress.{TakesLine}
use Rattle.fuxi_io.specs.DoorsLemmas.{map_told}
use Rattle.fuxi_node.proofs.DiskKept.{fits_first, known_same}
use Rattle.fuxi_node.proofs.NodeProgressLemmas.{taken_round}
use Rattle.fuxi_node.proofs.taking.take_round.Goals as goal

pub returns-in-Ok-write_round-clause-takes : goal.returns-in-Ok-write_round-clause-takes
returns-in-Ok-write_round-clause-takes g c n number size t s =
    let now = g.C.Core.stands c.in-Ok.both.0 in
    let before = g.N.Door.faults c.args.door.now in
    let after = g.N.Door.faults c.meet.new.door in
    let w0 = g.O.Sink.took c.args.out.now in
    let w = g.O.Sink.took c.write_round.new.out in
    map_told (Rounds (accepts n.role) most_frames c.args.addr.now now n.role c.in-Ok.both.1) (TakesLine g.C.Core.stands (FitsNow g.C.Core.rests g.C.Node.fits c.args.core size t t) (FitsOneNow g.C.Core.rests g.C.Node.fits g.C.Node.halts c.args.core size t t) most_frames c.args.addr.now n (Ok (cond (accepts n.role) Serve Round)) number (Ok c.in-Ok.both.0) w0 w before after) (g.N.Door.told c.args.door.now) (g.N.Door.told c.meet.new.door)
    (λ old new. taken_round most_frames c.args.addr.now n number now now c.in-Ok.both.1 (Appends w0 w) before after old new c.in-Ok.ensures.later c.in-Ok.ensures.cause (λ r h. h) c.in-Ok-write_round.ensures.ok) (c.in-Ok.ensures.rounds n.role s)

pub returns-in-Err-write_round-clause-takes : goal.returns-in-Err-write_round-clause-takes
returns-in-Err-write_round-clause-takes g c n number size t s =
    let now = g.C.Core.stands c.in-Ok.both.0 in
    let before = g.N.Door.faults c.args.door.now in
    let after = g.N.Door.faults c.meet.new.door in
    let w0 = g.O.Sink.took c.args.out.now in
    let w = g.O.Sink.took c.write_round.new.out in
    map_told (Rounds (accepts n.role) most_frames c.args.addr.now now n.role c.in-Ok.both.1) (TakesLine g.C.Core.stands (FitsNow g.C.Core.rests g.C.Node.fits c.args.core size t t) (FitsOneNow g.C.Core.rests g.C.Node.fits g.C.Node.halts c.args.core size t t) most_frames c.args.addr.now n (Ok (cond (accepts n.role) Serve Round)) number (Err (Ends WriteFault)) w0 w before after) (g.N.Door.told c.args.door.now) (g.N.Door.told c.meet.new.door)
    (λ old new. taken_round most_frames c.args.addr.now n number now (FitsNow g.C.Core.rests g.C.Node.fits c.args.core size t t) c.in-Ok.both.1 (TakesPart w0 w) before after old new c.in-Ok.ensures.later c.in-Ok.ensures.cause (λ r h. known_same g.C.Core.rests c.args.core size (g.C.Node.fits r) t (λ m rests. g.met.C.Node.fitting c.in-Ok.both.0 r size m h (c.in-Ok.ensures.rests size (Some m) rests))) c.in-Err-write_round.ensures.err) (c.in-Ok.ensures.rounds n.role s)

pub returns-in-Err-clause-takes : goal.returns-in-Err-clause-takes
returns-in-Err-clause-takes g c n number size t s =
    let before = g.N.Door.faults c.args.door.now in
    let after = g.N.Door.faults c.meet.new.door in
    let w = g.O.Sink.took c.args.out.now in
    let fits : FitsNow g.C.Core.rests g.C.Node.fits c.args.core size t t n.role = known_same g.C.Core.rests c.args.core size (g.C.Node.fits n.role) t (λ m rests. g.met.C.Node.fitting c.args.core n.role size m s rests) in
    let what = Ok (cond (accepts n.role) Serve Round) in
    map_told (Breaks (accepts n.role) c.args.addr.now n.role) (TakesLine g.C.Core.stands (FitsNow g.C.Core.rests g.C.Node.fits c.args.core size t t) (FitsOneNow g.C.Core.rests g.C.Node.fits g.C.Node.halts c.args.core size t t) most_frames c.args.addr.now n what number (Err (Ends OutOfMemory)) w w before after) (g.N.Door.told c.args.door.now) (g.N.Door.told c.meet.new.door)
    (λ old new b. (refl, c.in-Err.ensures.later, b, fits_first g.C.Core.rests c.args.core g.C.Node.fits g.C.Node.halts size t t n.role (role_after most_frames number n what) fits)) (c.in-Err.ensures.breaks n.role s)

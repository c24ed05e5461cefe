use Rattle.std.proofs.Common.{◌≡◌, ◌<◌, ◌≤◌, Ok, take, length, length-append, length-take, nat_eq, false, ap, subst, ◌∙◌, arith}
use Rattle.std.proofs.lemmas.Bool.Decides.{nat_tests}
use Rattle.fuxi_io.specs.declared.outside.Failed.{Failed}
use Rattle.fuxi_io.specs.Doors.{WhereTold, Reads}
use Rattle.node_core.specs.declared.frame_reader.Step.TheVariants.{Stopped}
use Rattle.node_core.specs.FrameReaders.{FrameReader}
use Rattle.node_core.proofs.Packets.{short_size}
use Rattle.node_core.proofs.Hears.{told_begins, told_goes_on, told_fed, told_halts, told_short, told_fault, told_long, broken_told, broken_read}
use Rattle.node_core.proofs.frame_reader.listen.Goals as goal

pub loop-alloc-init : goal.loop-alloc-init
loop-alloc-init g c =
    let a = g.N.Door.told c.args.door.now in
    record {
      listening = λ r s. told_begins c.args.most r a a a (g.C.Core.stands c.args.core) c.new-reader.result c.new-reader.ensures s;
      broken = broken_told a;
      rests = λ size told h. h;
      runs = ap (λ (e : FrameReader). e.stuck) c.new-reader.ensures;
      few = omega (arith, ap (λ (e : FrameReader). e.count) c.new-reader.ensures);
      steps = omega arith;
      short = omega (arith, ap (λ (e : FrameReader). length e.bytes) c.new-reader.ensures);
      later = omega arith;
    }

pub loop-alloc-preserved-in-Heard : goal.loop-alloc-preserved-in-Heard
loop-alloc-preserved-in-Heard g c =
    let a = g.N.Door.told c.args.door.now in
    let b = g.N.Door.told c.loop-alloc.door in
    let heard = c.in-Ok.ensures.heard c.in-Heard.is in
    let count = c.in-Ok.ensures.count in
    record {
      listening = λ r s. told_goes_on c.args.most r a b b (g.C.Core.stands c.loop-alloc.now) (g.C.Core.stands c.in-Ok.both.0) c.loop-alloc.reader c.hear_one.new.reader (rw c.in-Heard.is at c.in-Ok.ensures.steps) (c.loop-alloc.invariant.listening r s);
      broken = c.loop-alloc.invariant.broken;
      rests = λ size told h. c.in-Ok.ensures.rests size told (c.loop-alloc.invariant.rests size told h);
      runs = heard.1;
      few = count.0;
      steps = omega (arith, count.1, c.loop-alloc.invariant.steps);
      short = omega (arith, heard.2, c.loop-alloc.invariant.short);
      later = c.loop-alloc.invariant.later;
    }

pub returns-in-Stopped-clause-listens : goal.returns-in-Stopped-clause-listens
returns-in-Stopped-clause-listens g c r s =
    let a = g.N.Door.told c.args.door.now in
    let b = g.N.Door.told c.loop-alloc.door in
    told_halts c.args.most r a b b (g.C.Core.stands c.loop-alloc.now) (g.C.Core.stands c.in-Ok.both.0) c.loop-alloc.reader c.hear_one.new.reader c.in-Stopped.stop c.listened.result
    (λ h. c.in-Ok.ensures.short (c.in-Stopped.is ∙ ap (λ s. Stopped s) h)) (λ h. c.in-Ok.ensures.fault (c.in-Stopped.is ∙ ap (λ s. Stopped s) h))
    c.listened.ensures (rw c.in-Stopped.is at c.in-Ok.ensures.steps) (c.loop-alloc.invariant.listening r s)

pub returns-in-Ok-eq0-clause-listens : goal.returns-in-Ok-eq0-clause-listens
returns-in-Ok-eq0-clause-listens g c r s =
    let a = g.N.Door.told c.args.door.now in
    let b = g.N.Door.told c.loop-alloc.door in
    let d = g.N.Door.told c.read.new.self in
    let steps = rw c.in-Nothing.is at c.in-Ok.ensures.steps in
    let nothing = c.in-Ok.ensures.nothing c.in-Nothing.is in
    let few : c.loop-alloc.reader.count < c.args.most = omega (arith, c.count.ensures, c.loop-alloc-test.true) in
    told_short c.args.most r a b d (g.C.Core.stands c.loop-alloc.now) (g.C.Core.stands c.in-Ok.both.0) c.loop-alloc.reader c.hear_one.new.reader c.listened-in-Ok-eq0.result c.read.new.buf
    few nothing.0 (λ q t. (steps q t).0) nothing.1 c.listened-in-Ok-eq0.ensures (c.loop-alloc.invariant.listening r s) (subst (λ n. WhereTold (Reads {E = Failed} c.read.new.buf (Ok n)) b d) c.in-Ok-eq0.field-0-test c.in-Ok-eq0.ensures.told)

pub returns-in-Err-read-clause-listens : goal.returns-in-Err-read-clause-listens
returns-in-Err-read-clause-listens g c r s =
    let a = g.N.Door.told c.args.door.now in
    let b = g.N.Door.told c.loop-alloc.door in
    let d = g.N.Door.told c.read.new.self in
    let steps = rw c.in-Nothing.is at c.in-Ok.ensures.steps in
    let nothing = c.in-Ok.ensures.nothing c.in-Nothing.is in
    let few : c.loop-alloc.reader.count < c.args.most = omega (arith, c.count.ensures, c.loop-alloc-test.true) in
    told_fault c.args.most r a b d (g.C.Core.stands c.loop-alloc.now) (g.C.Core.stands c.in-Ok.both.0) c.loop-alloc.reader c.hear_one.new.reader c.listened-in-Err-read.result c.read.new.buf c.in-Err-read.field-0
    few nothing.0 (λ q t. (steps q t).0) nothing.1 c.listened-in-Err-read.ensures (c.loop-alloc.invariant.listening r s) c.in-Err-read.ensures.told

pub returns-clause-listens : goal.returns-clause-listens
returns-clause-listens g c r s =
    let a = g.N.Door.told c.args.door.now in
    let b = g.N.Door.told c.loop-alloc.door in
    let full : c.args.most ≤ c.loop-alloc.reader.count = omega (arith, c.count.ensures, c.loop-alloc-test.false) in
    told_long c.args.most r a b b (g.C.Core.stands c.loop-alloc.now) c.loop-alloc.reader c.listened-2.result full c.listened-2.ensures (c.loop-alloc.invariant.listening r s)

pub returns-in-Err-feed-clause-broken : goal.returns-in-Err-feed-clause-broken
returns-in-Err-feed-clause-broken g c =
    let some : nat_eq c.in-Ok-read.n 0 ≡ false = grind (arith, nat_tests, c.in-Ok-read.n-test) in
    broken_read (g.N.Door.told c.args.door.now) (g.N.Door.told c.loop-alloc.door) (g.N.Door.told c.read.new.self) c.read.new.buf c.in-Ok-read.n some c.loop-alloc.invariant.broken c.in-Ok-read.ensures.told

pub loop-alloc-preserved : goal.loop-alloc-preserved
loop-alloc-preserved g c =
    let a = g.N.Door.told c.args.door.now in
    let b = g.N.Door.told c.loop-alloc.door in
    let d = g.N.Door.told c.read.new.self in
    let steps = rw c.in-Nothing.is at c.in-Ok.ensures.steps in
    let nothing = c.in-Ok.ensures.nothing c.in-Nothing.is in
    let some : nat_eq c.in-Ok-read.n 0 ≡ false = grind (arith, nat_tests, c.in-Ok-read.n-test) in
    let fed = c.in-Ok-feed.ensures in
    let few = short_size c.loop-alloc.reader.bytes nothing.1 in
    record {
      listening = λ r s. told_fed c.args.most r a b d (g.C.Core.stands c.loop-alloc.now) (g.C.Core.stands c.in-Ok.both.0) c.loop-alloc.reader c.hear_one.new.reader c.feed.new.self c.read.new.buf c.in-Ok-read.n some
          nothing.0 (λ q t. (steps q t).0) fed (c.loop-alloc.invariant.listening r s) c.in-Ok-read.ensures.told;
      broken = broken_read a b d c.read.new.buf c.in-Ok-read.n some c.loop-alloc.invariant.broken c.in-Ok-read.ensures.told;
      rests = λ size told h. c.in-Ok.ensures.rests size told (c.loop-alloc.invariant.rests size told h);
      runs = ap (λ (e : FrameReader). e.stuck) fed ∙ ap (λ (e : FrameReader). e.stuck) nothing.0 ∙ c.loop-alloc.invariant.runs;
      few = omega (arith, ap (λ (e : FrameReader). e.count) fed, ap (λ (e : FrameReader). e.count) nothing.0, c.loop-alloc.invariant.few);
      steps = omega (arith, ap (λ (e : FrameReader). e.count) fed, c.in-Ok.ensures.count.1, c.loop-alloc.invariant.steps);
      short = let l = c.in-Ok-read.ensures.bound in omega (arith, ap (λ (e : FrameReader). length e.bytes) fed, ap (λ (e : FrameReader). length e.bytes) nothing.0, few, length-append c.hear_one.new.reader.bytes (take c.in-Ok-read.n c.read.new.buf), length-take c.in-Ok-read.n c.read.new.buf);
      later = omega (arith, c.in-Ok-read.ensures.cause.later, c.loop-alloc.invariant.later);
    }

use Rattle.std.proofs.Common.{◌≡◌, Err, refl, sym, ap, subst, arith}
use Rattle.fuxi_io.specs.declared.outside.Failed.{Failed}
use Rattle.fuxi_io.specs.Disks.{WhereTold}
use Rattle.hard_state.specs.HardFiles.{SyncsAll}
use Rattle.hard_state.specs.declared.fault.HardFault.{HardFault}
use Rattle.hard_state.specs.declared.fault.HardFault.TheVariants.{NotCheckpoint}
use Rattle.hard_state.proofs.OpensAsTheFile.{opening_rests, opening_begins, opens_begun, opens_read, opens_damaged, settling_fails, settling_keeps, keeping_rests, keeping_begins}
use Rattle.hard_state.proofs.hard.Hard.open.Goals as goal

pub returns-in-Err-clause-told : goal.returns-in-Err-clause-told
returns-in-Err-clause-told g c = settling_fails Failed (record {}) _ _ c.in-Err.ensures.told

pub returns-in-Err-clause-keeps : goal.returns-in-Err-clause-keeps
returns-in-Err-clause-keeps g c = settling_keeps _ _ c.in-Err.ensures.told

pub returns-then-len-le1-clause-opened : goal.returns-then-len-le1-clause-opened
returns-then-len-le1-clause-opened g c =
    opens_begun Failed _ _ (record {}) c.in-Ok.ensures.synced HardFault _ _ (g.D.Disk.size c.settle.new.disk) c.begin.result refl
    (omega (arith, c.in-Ok.ensures.size, c.if-len-le1.true)) (g.met.D.Disk.measured c.settle.new.disk) c.begin.ensures.told c.begin.ensures.empty

pub returns-then-len-le1-clause-told : goal.returns-then-len-le1-clause-told
returns-then-len-le1-clause-told g c =
    opening_begins Failed _ _ (record {}) c.in-Ok.ensures.synced _ _ (g.D.Disk.size c.settle.new.disk) c.begin.result refl
    (omega (arith, c.in-Ok.ensures.size, c.if-len-le1.true)) (g.met.D.Disk.measured c.settle.new.disk) c.begin.ensures.told

pub returns-then-len-le1-clause-keeps : goal.returns-then-len-le1-clause-keeps
returns-then-len-le1-clause-keeps g c =
    keeping_begins Failed _ _ (record {}) c.in-Ok.ensures.synced _ _ (g.D.Disk.size c.settle.new.disk) c.begin.result refl
    (omega (arith, c.in-Ok.ensures.size, c.if-len-le1.true)) (g.met.D.Disk.measured c.settle.new.disk) c.begin.ensures.told

pub returns-in-Ok-read-clause-opened : goal.returns-in-Ok-read-clause-opened
returns-in-Ok-read-clause-opened g c =
    opens_read Failed _ _ (record {}) c.in-Ok.ensures.synced _ _ (g.D.Disk.size c.settle.new.disk) refl c.read.ensures.told (g.met.D.Disk.measured c.settle.new.disk)
    (omega (arith, c.in-Ok.ensures.size, c.if-len-le1.false)) _ (λ t is. c.in-Ok-read.ensures.opened t is)

pub returns-in-Ok-read-clause-told : goal.returns-in-Ok-read-clause-told
returns-in-Ok-read-clause-told g c = opening_rests Failed _ _ (record {}) c.in-Ok.ensures.synced _ c.read.ensures.told

pub returns-in-Ok-read-clause-keeps : goal.returns-in-Ok-read-clause-keeps
returns-in-Ok-read-clause-keeps g c = keeping_rests Failed _ _ (record {}) c.in-Ok.ensures.synced _ c.read.ensures.told

pub returns-in-Err-read-clause-damaged : goal.returns-in-Err-read-clause-damaged
returns-in-Err-read-clause-damaged g c offset at =
    let same : c.in-Err-read.fault ≡ NotCheckpoint offset = cc in
    opens_damaged Failed _ _ (record {}) c.in-Ok.ensures.synced _ _ (g.D.Disk.size c.settle.new.disk) refl c.read.ensures.told (g.met.D.Disk.measured c.settle.new.disk)
    (omega (arith, c.in-Ok.ensures.size, c.if-len-le1.false)) offset (λ t is. c.in-Err-read.ensures.damaged t offset is (ap (λ f. Err f) same))

pub returns-in-Err-read-clause-told : goal.returns-in-Err-read-clause-told
returns-in-Err-read-clause-told g c = opening_rests Failed _ _ (record {}) c.in-Ok.ensures.synced _ c.read.ensures.told

pub returns-in-Err-read-clause-untouched : goal.returns-in-Err-read-clause-untouched
returns-in-Err-read-clause-untouched g c offset at = subst (WhereTold SyncsAll (g.D.Disk.told c.args.disk.now)) (sym c.read.ensures.told) c.in-Ok.ensures.synced

pub returns-in-Err-read-clause-keeps : goal.returns-in-Err-read-clause-keeps
returns-in-Err-read-clause-keeps g c = keeping_rests Failed _ _ (record {}) c.in-Ok.ensures.synced _ c.read.ensures.told

use Rattle.std.proofs.Common.{Ok, Err, ap}
use Rattle.spec_roles.specs.MasterRoles.{master_started}
use Rattle.node_parties.proofs.OpenedMastersLemmas.{no_damage, open_fails, open_starts, opened_keeps, raise_starts, starts_master}
use Rattle.node_parties.proofs.node.MasterNode.open.Goals as goal

pub returns-in-Err-clause-fails : goal.returns-in-Err-clause-fails
returns-in-Err-clause-fails g c =
    open_fails c.args.epoch c.in-Err.fault _ _ c.in-Err.ensures.faults (λ offset same. c.in-Err.ensures.damaged offset (ap (λ f. Err f) same)) c.in-Err.ensures.told

pub returns-in-Err-clause-told : goal.returns-in-Err-clause-told
returns-in-Err-clause-told g c = open_starts c.args.epoch _ _ c.in-Err.ensures.told

pub returns-in-Err-raise-clause-told : goal.returns-in-Err-raise-clause-told
returns-in-Err-raise-clause-told g c =
    raise_starts c.args.epoch c.in-Ok.hard c.raise.new.self (Err c.in-Err-raise.fault) (g.D.Disk.told c.args.disk.now) (g.D.Disk.told c.open.new.disk) (g.D.Disk.told c.raise.new.disk)
    c.in-Ok.ensures.opened c.in-Ok.ensures.told c.in-Err-raise.ensures.told

pub returns-in-Err-raise-clause-untouched : goal.returns-in-Err-raise-clause-untouched
returns-in-Err-raise-clause-untouched g c offset is = absurd (no_damage c.in-Err-raise.fault offset _ c.in-Err-raise.ensures.refused is)

pub returns-in-Err-raise-clause-keeps : goal.returns-in-Err-raise-clause-keeps
returns-in-Err-raise-clause-keeps g c =
    opened_keeps c.in-Ok.hard (g.D.Disk.told c.args.disk.now) (g.D.Disk.told c.open.new.disk) (g.D.Disk.told c.raise.new.disk) c.in-Ok.ensures.opened

pub invariant_of-result : goal.invariant_of-result
invariant_of-result g c =
    let k = c.raise.new.self in
    record {
      hard = k.value;
      role = master_started c.args.cluster.now k.value c.args.epoch;
      stands = starts_master c.args.cluster.now c.in-Ok.hard.value k c.in-Ok-start.master c.args.epoch c.requires c.in-Ok-raise.ensures.ok.0 c.in-Ok-start.ensures.stands;
    }

pub returns-in-Ok-start-clause-stands : goal.returns-in-Ok-start-clause-stands
returns-in-Ok-start-clause-stands g c =
    starts_master c.args.cluster.now c.in-Ok.hard.value c.raise.new.self c.in-Ok-start.master c.args.epoch c.requires c.in-Ok-raise.ensures.ok.0 c.in-Ok-start.ensures.stands

pub returns-in-Ok-start-clause-told : goal.returns-in-Ok-start-clause-told
returns-in-Ok-start-clause-told g c =
    raise_starts c.args.epoch c.in-Ok.hard c.raise.new.self (Ok c.in-Ok-raise.field-0) (g.D.Disk.told c.args.disk.now) (g.D.Disk.told c.open.new.disk) (g.D.Disk.told c.raise.new.disk)
    c.in-Ok.ensures.opened c.in-Ok.ensures.told c.in-Ok-raise.ensures.told

pub returns-in-Err-start-clause-told : goal.returns-in-Err-start-clause-told
returns-in-Err-start-clause-told g c =
    raise_starts c.args.epoch c.in-Ok.hard c.raise.new.self (Ok c.in-Ok-raise.field-0) (g.D.Disk.told c.args.disk.now) (g.D.Disk.told c.open.new.disk) (g.D.Disk.told c.raise.new.disk)
    c.in-Ok.ensures.opened c.in-Ok.ensures.told c.in-Ok-raise.ensures.told

pub returns-in-Ok-start-clause-keeps : goal.returns-in-Ok-start-clause-keeps
returns-in-Ok-start-clause-keeps g c =
    opened_keeps c.in-Ok.hard (g.D.Disk.told c.args.disk.now) (g.D.Disk.told c.open.new.disk) (g.D.Disk.told c.raise.new.disk) c.in-Ok.ensures.opened

pub returns-in-Err-start-clause-keeps : goal.returns-in-Err-start-clause-keeps
returns-in-Err-start-clause-keeps g c =
    opened_keeps c.in-Ok.hard (g.D.Disk.told c.args.disk.now) (g.D.Disk.told c.open.new.disk) (g.D.Disk.told c.raise.new.disk) c.in-Ok.ensures.opened

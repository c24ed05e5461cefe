use Rattle.std.proofs.Common.{Some, refl, ◌∙◌, ap}
use Rattle.fuxi_desk.proofs.PreparingLemmas.{first_stands}
use Rattle.fuxi_desk.proofs.prepare.Prepared.start.Goals as goal

pub returns-in-Ok-open-clause-stands : goal.returns-in-Ok-open-clause-stands
returns-in-Ok-open-clause-stands c = record {
  role = first_stands c.in-Ok-open.node c.args.cluster.now (Some c.room.new.self.told) (Some c.open.new.disk.told) c.room.new.self.told refl (ap (λ d. d.told.now.bytes) c.in-Ok-room.ensures.ok ∙ ap (λ d. d.told.now.bytes) c.of-disk.ensures ∙ c.new.ensures.items) c.in-Ok-open.ensures.opened c.in-Ok-open.ensures.stands;
  sessions = c.in-Ok.ensures.none;
}

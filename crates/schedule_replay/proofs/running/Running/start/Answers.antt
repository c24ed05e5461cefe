use Rattle.std.proofs.Common.{refl}
use Rattle.spec_refinement.specs.SeenParties.{Masters, Agents, Apps}
use Rattle.schedule_replay.proofs.EmptyWorldStands.{is_empty_world, stands_for_empty, starts_reached}
use Rattle.schedule_replay.proofs.running.Running.start.Goals as goal

pub returns-in_err-checkpoint-clause-world : goal.returns-in_err-checkpoint-clause-world
returns-in_err-checkpoint-clause-world c = is_empty_world c.args.cluster c.machines-machines.ensures.valid (c.good_at_start.ensures c.args.cluster) (c.worlds_in_order.ensures.start c.args.cluster)

pub returns-clause-world : goal.returns-clause-world
returns-clause-world c = is_empty_world c.args.cluster c.machines-machines.ensures.valid (c.good_at_start.ensures c.args.cluster) (c.worlds_in_order.ensures.start c.args.cluster)

pub returns-clause-stands : goal.returns-clause-stands
returns-clause-stands c =
    stands_for_empty c.args.cluster _ refl c.in_ok-checkpoint.ensures.value c.in_ok-checkpoint.ensures.open (c.none.ensures.stands c.args.cluster Masters)
    (c.none-2.ensures.stands c.args.cluster Agents) (c.none-3.ensures.stands c.args.cluster Apps) c.new.ensures refl

pub returns-clause-reached : goal.returns-clause-reached
returns-clause-reached c =
    starts_reached c.args.cluster _ (is_empty_world c.args.cluster c.machines-machines.ensures.valid (c.good_at_start.ensures c.args.cluster) (c.worlds_in_order.ensures.start c.args.cluster))
    (stands_for_empty c.args.cluster _ refl c.in_ok-checkpoint.ensures.value c.in_ok-checkpoint.ensures.open (c.none.ensures.stands c.args.cluster Masters)
    (c.none-2.ensures.stands c.args.cluster Agents) (c.none-3.ensures.stands c.args.cluster Apps) c.new.ensures refl)
    c.none.ensures.within c.none-2.ensures.within c.none-3.ensures.within refl

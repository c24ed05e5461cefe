use Rattle.std.proofs.Common.{arith}
use Rattle.preempt.proofs.MachineRoomsLemmas.{beyond_none}
use Rattle.preempt.proofs.room.room_on.Goals as goal

pub returns : goal.returns
returns c = λ t m are shelf spared resources. record {
  beyond = λ a u i group priority guaranteed lt more.
      let n = c.args.need.now in
      let few = c.requires.resources in
      beyond_none t c.args.groups.now m c.args.shelf.now c.args.spared.now n c.left_on.result a u i are shelf spared (record {
        lower = c.lower_of-lower.result;
        all = c.with_spared-all.result;
        used = c.used_of-used.result;
        lower_are = λ k k_lt. c.lower_of-lower.ensures.is k k_lt;
        all_are = λ k k_lt. c.with_spared-all.ensures.is k k_lt;
        used_are = c.used_of-used.ensures;
        room_are = c.left_on.ensures;
      }) c.requires.own group priority guaranteed lt (omega (arith, lt, few, resources)) (omega (arith, lt, resources)) more;
}

use Rattle.std.proofs.Common.{◌^◌, arith}
use Rattle.fuxi_terms.proofs.ByPlace.{plus_below, plus_written}
use Rattle.res_vector.proofs.add.Goals as goal

pub overflow_add-q : goal.overflow_add-q
overflow_add-q c =
    omega (arith, plus_below c.args.a.now.q c.args.b.now.q c.loop-place.place (2 ^ 128) (omega arith) (omega arith) c.requires (omega arith))

pub returns : goal.returns
returns c = plus_written _ _ _ 8 (omega arith) (omega arith) (omega arith) (λ k h. c.loop-place.invariant.done k (omega arith))

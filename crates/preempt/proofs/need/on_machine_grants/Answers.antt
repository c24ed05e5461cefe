use Rattle.std.proofs.Common.{refl}
use Rattle.std.specs.Prelude.{◌+◌, slice_index}
use Rattle.std.proofs.Common.{◌∙◌, ap}
use Rattle.preempt.proofs.NeedsAsWritten.{need_on}
use Rattle.preempt.proofs.need.on_machine_grants.Goals as goal

pub returns-clause-need : goal.returns-clause-need
returns-clause-need c = λ t m entry wanted shelf few.
    need_on t c.args.e.now entry c.args.need.now _ m c.args.shelf.now wanted shelf few refl refl refl refl refl refl refl
    (λ i lt. c.sum_of.ensures i lt ∙ ap (λ k. k + slice_index c.args.e.now.size.now.q i) (c.used_of.ensures i lt))

use Rattle.std.proofs.Common.{ap, map, rules}
use Rattle.hard_state.specs.HardFiles.{known_job}
use Rattle.hard_state.proofs.IndexLemmas.{first_index}
use Rattle.hard_state.proofs.known.Known.nothing.Goals as goal

pub invariant_of-result : goal.invariant_of-result
invariant_of-result c = (first_index c.in_ok-places.places.items _ (c.in_ok-places.ensures.items_if_clones_equal (λ y e. search rules)) (ap (map known_job) c.in_ok-jobs.ensures.items), search rules)

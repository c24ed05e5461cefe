use Rattle.std.proofs.Common.{map, ap, ◌∙◌, rules}
use Rattle.fuxi_terms.specs.Jobs.{is_known}
use Rattle.hard_state.specs.HardFiles.{known_job}
use Rattle.hard_state.specs.Knowledge.{Knowledge}
use Rattle.hard_state.proofs.IndexLemmas.{most_known, known_small}
use Rattle.hard_state.proofs.known.Known.jobs.Goals as goal

pub returns-clause-few : goal.returns-clause-few
returns-clause-few c = let few = most_known known_job c.self.inside.places.items c.self.inside.jobs.items c.self.invariant.0 in search (rules, few)

pub returns-clause-numbers : goal.returns-clause-numbers
returns-clause-numbers c = λ a known.
    known_small c.self.inside.places.items (map known_job c.self.inside.jobs.items) a c.self.invariant.0 (ap (λ (k : Knowledge). is_known k.jobs a) c.self.view_is ∙ known)

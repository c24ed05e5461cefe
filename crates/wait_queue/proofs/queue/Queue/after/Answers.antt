use Rattle.std.proofs.Common.{◌∷◌, is_some, ap, sym, ◌∙◌, None}
use Rattle.std.proofs.lemmas.Option.{same_Some}
use Rattle.wait_queue.specs.Queues.{first_of}
use Rattle.wait_queue.proofs.QueuesLemmas.{middle_node, first_live, linked_parts}
use Rattle.wait_queue.proofs.queue.Queue.after.Goals as goal

pub get-requires : goal.get-requires
get-requires c = ap is_some (middle_node _ _ c.requires.front _ c.requires.entry c.requires.back c.requires.stands)

pub returns : goal.returns
returns c = λ front back entry stands.
    c.slot.ensures (first_of back None) (ap (λ n. n.behind) (same_Some _ _ (sym c.get.ensures ∙ middle_node _ _ front _ entry back stands)))
    (first_live _ _ back None (linked_parts _ None front ((c.args.slot, entry) ∷ back) None stands.linked).1.1)

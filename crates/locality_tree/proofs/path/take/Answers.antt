use Rattle.slot_pool.specs.Pools.{value_at}
use Rattle.locality_tree.proofs.MembersLemmas.{in_here}
use Rattle.locality_tree.proofs.QueueLaws.{member_entry, live}
use Rattle.locality_tree.proofs.path.take.Goals as goal

pub entry_of-entry-requires : goal.entry_of-entry-requires
entry_of-entry-requires c = live (value_at c.args.pool.now) c.args.slot c.requires.entry (member_entry c.standing_lists.ensures.entries _ _ _ c.requires.stands (c.args.slot, c.requires.entry) (in_here c.requires.front _ c.requires.back))

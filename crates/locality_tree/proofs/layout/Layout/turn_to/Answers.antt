use Rattle.std.proofs.Common.{sym, ◌∙◌}
use Rattle.slot_pool.specs.Pools.{value_at}
use Rattle.locality_tree.specs.Layouts.{slots_of, sets_of}
use Rattle.locality_tree.proofs.LayoutsLemmas.{turned_already}
use Rattle.fuxi_terms.proofs.Booleans.{same_bool}
use Rattle.locality_tree.proofs.layout.Layout.turn_to.Goals as goal

pub returns-then-stands_at-stands-clause-turned : goal.returns-then-stands_at-stands-clause-turned
returns-then-stands_at-stands-clause-turned c =
    let l = c.args.self.now in
    turned_already c.standing_lists.ensures.entries (value_at l.pool) l.pool.spare l.queues.items (slots_of l) (sets_of l.slots.items) c.args.entry.now c.args.place c.args.stands c.requires.kept c.requires.fits (sym c.stands_at.ensures ∙ same_bool c.stands_at.result c.args.stands c.if-stands_at-stands.true)

use Rattle.std.proofs.Common.{◌<◌, sym, subst, ap, ◌∙◌}
use Rattle.slot_pool.specs.Pools.{value_at}
use Rattle.wait_queue.specs.Queues.{entry_at}
use Rattle.locality_tree.specs.Layouts.{HasNumber, sets_of}
use Rattle.locality_tree.specs.Paths.{Passed, SkipsTo, is_at_either}
use Rattle.locality_tree.proofs.QueueLaws.{live, same_entry}
use Rattle.locality_tree.proofs.PathsLemmas.{passed_start, head, head_in, passed_on, stops_here, stops_end, way_falls, way_left}
use Rattle.locality_tree.proofs.path.skip.Goals as goal

pub loop-at-init : goal.loop-at-init
loop-at-init c = λ tail is_tail. passed_start (value_at c.args.pool.now) c.args.queue.now (is_at_either (sets_of c.args.units.now) c.args.one c.args.other) tail c.args.from is_tail

pub entry_of-requires : goal.entry_of-requires
entry_of-requires c =
    let p = subst (λ a. Passed (value_at c.args.pool.now) c.args.queue.now (is_at_either (sets_of c.args.units.now) c.args.one c.args.other) c.requires.from.tail a) c.in-Some.is (c.loop-at.invariant c.requires.from.tail c.requires.from.is_tail) in
    let h = head c.standing_lists.ensures.entries _ _ c.in-Some.slot p.left p.is_tail in
    live (value_at c.args.pool.now) c.in-Some.slot h.entry h.here

pub is_at_either-requires-clause-number : goal.is_at_either-requires-clause-number
is_at_either-requires-clause-number c =
    let p = subst (λ a. Passed (value_at c.args.pool.now) c.args.queue.now (is_at_either (sets_of c.args.units.now) c.args.one c.args.other) c.requires.from.tail a) c.in-Some.is (c.loop-at.invariant c.requires.from.tail c.requires.from.is_tail) in
    let h = head c.standing_lists.ensures.entries _ _ c.in-Some.slot p.left p.is_tail in
    subst HasNumber (same_entry (entry_at (value_at c.args.pool.now) c.in-Some.slot) h.entry c.entry_of.result.now h.here c.entry_of.ensures) h.number

pub returns-then-not-is_at_either : goal.returns-then-not-is_at_either
returns-then-not-is_at_either c = λ tail is_tail.
    let p = subst (λ a. Passed (value_at c.args.pool.now) c.args.queue.now (is_at_either (sets_of c.args.units.now) c.args.one c.args.other) tail a) c.in-Some.is (c.loop-at.invariant tail is_tail) in
    let h = head c.standing_lists.ensures.entries _ _ c.in-Some.slot p.left p.is_tail in
    let same = same_entry (entry_at (value_at c.args.pool.now) c.in-Some.slot) h.entry c.entry_of.result.now h.here c.entry_of.ensures in
    stops_here _ _ _ tail c.in-Some.slot p h (ap (is_at_either (sets_of c.args.units.now) c.args.one c.args.other) same ∙ sym c.is_at_either.ensures ∙ c.if-not-is_at_either.true)

pub after-at-requires : goal.after-at-requires
after-at-requires c =
    let p = subst (λ a. Passed (value_at c.args.pool.now) c.args.queue.now (is_at_either (sets_of c.args.units.now) c.args.one c.args.other) c.requires.from.tail a) c.in-Some.is (c.loop-at.invariant c.requires.from.tail c.requires.from.is_tail) in
    head_in _ _ _ _ (head c.standing_lists.ensures.entries _ _ c.in-Some.slot p.left p.is_tail)

pub loop-at-smaller : goal.loop-at-smaller
loop-at-smaller c =
    let p = subst (λ a. Passed (value_at c.args.pool.now) c.args.queue.now (is_at_either (sets_of c.args.units.now) c.args.one c.args.other) c.requires.from.tail a) c.in-Some.is (c.loop-at.invariant c.requires.from.tail c.requires.from.is_tail) in
    let h = head c.standing_lists.ensures.entries _ _ c.in-Some.slot p.left p.is_tail in
    subst (λ a. way_left (value_at c.args.pool.now) c.after-at.result < way_left (value_at c.args.pool.now) a) (sym c.in-Some.is)
    (way_falls c.standing_lists.ensures.entries c.orders.ensures.parts c.orders.ensures.rises _ _ c.in-Some.slot p.left c.after-at.result h (c.after-at.ensures h.done h.back h.entry h.stands))

pub loop-at-preserved : goal.loop-at-preserved
loop-at-preserved c = λ tail is_tail.
    let p = subst (λ a. Passed (value_at c.args.pool.now) c.args.queue.now (is_at_either (sets_of c.args.units.now) c.args.one c.args.other) tail a) c.in-Some.is (c.loop-at.invariant tail is_tail) in
    let h = head c.standing_lists.ensures.entries _ _ c.in-Some.slot p.left p.is_tail in
    let same = same_entry (entry_at (value_at c.args.pool.now) c.in-Some.slot) h.entry c.entry_of.result.now h.here c.entry_of.ensures in
    passed_on _ _ _ tail c.in-Some.slot c.after-at.result p h (ap (is_at_either (sets_of c.args.units.now) c.args.one c.args.other) same ∙ sym c.is_at_either.ensures ∙ c.if-not-is_at_either.false) (c.after-at.ensures h.done h.back h.entry h.stands)

pub returns : goal.returns
returns c = λ tail is_tail.
    subst (λ a. SkipsTo (value_at c.args.pool.now) c.args.queue.now (is_at_either (sets_of c.args.units.now) c.args.one c.args.other) tail a) (sym c.in_default.is)
    (stops_end _ _ _ tail (subst (λ a. Passed (value_at c.args.pool.now) c.args.queue.now (is_at_either (sets_of c.args.units.now) c.args.one c.args.other) tail a) c.in_default.is (c.loop-at.invariant tail is_tail)))

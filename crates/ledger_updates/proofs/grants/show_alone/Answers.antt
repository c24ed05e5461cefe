use Rattle.std.proofs.Common.{Some, [], ◌∷◌, length, refl, ◌∙◌, ap, arith}
use Rattle.std.proofs.lemmas.Option.{slice_get_read}
use Rattle.std.proofs.lemmas.Result.{on_ok_weaker}
use Rattle.ledger_updates.specs.OneJob.{IsSlotShown}
use Rattle.ledger_updates.proofs.OfNumbersLemmas.{none_reached, reached_over, reached_next}
use Rattle.ledger_updates.proofs.grants.show_alone.Goals as goal

pub returns-then-app-len : goal.returns-then-app-len
returns-then-app-len c =
    let old = c.args.apps.now.items in
    let P = IsSlotShown [] c.args.news.now in
    reached_over P (c.args.app ∷ []) 0 (omega arith) old old (none_reached P old) (omega (arith, c.if-app-len.true, c.len.ensures))

pub show_slot-requires-clause-last : goal.show_slot-requires-clause-last
show_slot-requires-clause-last c d is =
    let old = c.args.apps.now.items in
    let was = slice_get_read old (length old) c.args.app c.index_mut.result.now refl (omega (arith, c.if-app-len.false, c.len.ensures)) c.index_mut.ensures.value in
    c.requires.room c.args.app d (was ∙ ap (λ o. Some o) is)

pub show_slot-requires-clause-counts : goal.show_slot-requires-clause-counts
show_slot-requires-clause-counts c = record { numbers = record { sorted = tt; within = tt }; kinds = tt }

pub returns : goal.returns
returns c =
    let old = c.args.apps.now.items in
    let P = IsSlotShown [] c.args.news.now in
    let was = slice_get_read old (length old) c.args.app c.index_mut.result.now refl (omega (arith, c.if-app-len.false, c.len.ensures)) c.index_mut.ensures.value in
    on_ok_weaker c.show_slot.result (λ some. reached_next P (c.args.app ∷ []) 0 (omega arith) old old (none_reached P old) c.index_mut.result.now c.show_slot.new.slot (omega (arith, c.if-app-len.false, c.len.ensures)) was
    (record { none = c.show_slot.ensures.none; some = some }))
    c.show_slot.ensures.some

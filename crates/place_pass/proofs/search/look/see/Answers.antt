use Rattle.std.proofs.Common.{◌≡◌, true, Option, None, Some, not, refl, ◌∙◌, ap, subst}
use Rattle.std.specs.Option.{is_none, option_map}
use Rattle.place_pass.specs.Bounds.{rank_of, IsBounded}
use Rattle.place_pass.specs.Scenes.{board_in}
use Rattle.place_pass.specs.Candidates.{turn_in}
use Rattle.place_pass.proofs.FirstByTurn.{has_at}
use Rattle.place_pass.proofs.search.look.see.Goals as goal

none_is : {A : Type 0} (o : Option A) → is_none o ≡ true → o ≡ None
none_is None e = refl
none_is (Some x) e = cc

pub best_from-requires-clause-before : goal.best_from-requires-clause-before
best_from-requires-clause-before c k p lt e =
    let s = c.args.input.now in
    let f = turn_in s.turn_of.now in
    subst (λ o. IsBounded (board_in s) s.table.now.entries (option_map rank_of o) c.args.mark.now.groups (f p) p c.args.machine.0) (none_is c.args.mark.now.bound (ap not (c.is_none.ensures ∙ ap not c.if-is_none.true)))
    (c.requires.old.bounded p (has_at s.line.now.pairs k p e) (c.place_from-from.ensures k p lt e))

pub returns : goal.returns
returns c = record { bounded = c.best_on.ensures.bounded; sight = c.best_on.ensures.sight }

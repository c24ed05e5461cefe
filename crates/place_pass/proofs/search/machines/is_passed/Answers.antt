use Rattle.std.proofs.Common.{◌≡◌, ℕ, Bool, true, false, not, Option, List, None, Some, refl, sym, ◌∙◌, ap, get_or}
use Rattle.std.specs.Prelude.{◌&&◌, is_some}
use Rattle.std.specs.Option.{option_map}
use Rattle.fuxi_terms.proofs.Booleans.{and_true, and_false, not_true}
use Rattle.place_pass.specs.declared.search.BestFound.{BestFound}
use Rattle.place_pass.proofs.SearchCountsLemmas.{some_some}
use Rattle.place_pass.specs.Bounds.{rank_of, mark_of, key_of}
use Rattle.place_pass.specs.Scenes.{board_in}
use Rattle.place_pass.specs.Candidates.{found_rank, turn_in, is_first}
use Rattle.place_pass.proofs.ScenesLemmas.{key_seen}
use Rattle.place_pass.proofs.CandidatesLemmas.{least_settled, least_passed}
use Rattle.place_pass.proofs.search.machines.is_passed.Goals as goal

pub returns-then-not-is_open-clause-least : goal.returns-then-not-is_open-clause-least
returns-then-not-is_open-clause-least c e =
    let s = c.args.input.now in
    let m = c.args.machine.0 in
    let k = mark_of c.args.mark.now in
    least_settled s.wishes.now.cells s.wishes.now.opened s.table.now (turn_in s.turn_of.now) s.line.now.pairs k m s.turns (found_rank c.args.best.now)
    (ap (λ b. b && is_some (key_of k s.turns)) (sym c.is_open.ensures ∙ c.if-not-is_open.true)) c.requires.ready.below c.requires.old.bounded

pub returns-in_default-clause-least : goal.returns-in_default-clause-least
returns-in_default-clause-least c e =
    let s = c.args.input.now in
    let m = c.args.machine.0 in
    let k = mark_of c.args.mark.now in
    least_settled s.wishes.now.cells s.wishes.now.opened s.table.now (turn_in s.turn_of.now) s.line.now.pairs k m s.turns (found_rank c.args.best.now)
    (let none : key_of k s.turns ≡ None = sym c.key.ensures ∙ ap (option_map rank_of) c.in_default.is in ap (λ o. get_or s.wishes.now.opened m false && is_some o) none ∙ and_false (get_or s.wishes.now.opened m false)) c.requires.ready.below c.requires.old.bounded

pub returns-in_default-clause-settled : goal.returns-in_default-clause-settled
returns-in_default-clause-settled c e n opened = sym c.key.ensures ∙ ap (option_map rank_of) c.in_default.is

pub returns-clause-least : goal.returns-clause-least
returns-clause-least c e =
    let s = c.args.input.now in
    let m = c.args.machine.0 in
    let k = mark_of c.args.mark.now in
    let rank = rank_of c.in-Some.key in
    let bounded = key_seen s c.requires.ready m k c.requires.old (sym c.is_open.ensures ∙ c.if-not-is_open.false) (Some rank) (sym c.key.ensures ∙ ap (option_map rank_of) c.in-Some.is) in
    least_passed (board_in s) s.table.now.entries (turn_in s.turn_of.now) s.line.now.pairs m c.args.best.now rank k.groups refl (sym c.may_be_first.ensures ∙ not_true c.may_be_first.result e) bounded

pub returns-clause-settled : goal.returns-clause-settled
returns-clause-settled c e n opened = absurd (passes c.args.best.now (rank_of c.in-Some.key) c.args.machine.0 (sym c.may_be_first.ensures) e n)
  where
    passes : (before : Option BestFound) (key : List ℕ) (m : ℕ) {b : Bool} → is_first before key m ≡ b → not b ≡ true → before ≡ None → ⊥
    passes None key m e f n = cc
    passes (Some x) key m e f n = cc

pub returns-clause-unsettled : goal.returns-clause-unsettled
returns-clause-unsettled c e =
    let s = c.args.input.now in
    let k = mark_of c.args.mark.now in
    let some : key_of k s.turns ≡ Some (rank_of c.in-Some.key) = sym c.key.ensures ∙ ap (option_map rank_of) c.in-Some.is in
    and_true (get_or s.wishes.now.opened c.args.machine.0 false) _ (sym c.is_open.ensures ∙ c.if-not-is_open.false) (some_some (key_of k s.turns) (rank_of c.in-Some.key) some)

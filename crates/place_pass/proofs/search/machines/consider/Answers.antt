use Rattle.std.proofs.Common.{◌≡◌, false, cond, nat_lt, Some, refl, ◌∙◌, ap, subst, arith}
use Rattle.std.specs.Option.{option_map}
use Rattle.std.proofs.lemmas.Bool.Decides.{nat_tests}
use Rattle.place_pass.proofs.SearchCountsLemmas.{not_none}
use Rattle.place_pass.specs.Bounds.{rank_of, mark_of, zero_rank, IsBounded}
use Rattle.place_pass.specs.Scenes.{board_in}
use Rattle.place_pass.specs.Candidates.{found_rank, sight_rank, turn_in}
use Rattle.place_pass.proofs.ScenesLemmas.{mark_looked}
use Rattle.place_pass.proofs.CandidatesLemmas.{least_none, least_seen}
use Rattle.place_pass.proofs.search.machines.consider.Goals as goal

pub returns-in-Some-clause-mark : goal.returns-in-Some-clause-mark
returns-in-Some-clause-mark g c = mark_looked c.args.input.now c.args.machine.0 (mark_of c.look.new.mark) c.look.result c.look.ensures.best c.look.ensures.bound c.look.ensures.later

pub returns-in-None-clause-mark : goal.returns-in-None-clause-mark
returns-in-None-clause-mark g c = mark_looked c.args.input.now c.args.machine.0 (mark_of c.look.new.mark) c.look.result c.look.ensures.best c.look.ensures.bound c.look.ensures.later

pub returns-in-Some-clause-least : goal.returns-in-Some-clause-least
returns-in-Some-clause-least g c =
    let s = c.args.input.now in
    let m = c.args.machine.0 in
    let groups = c.look.new.mark.groups in
    least_seen (board_in s) s.table.now.entries (turn_in s.turn_of.now) s.line.now.pairs m (found_rank c.better.new.best) (rank_of c.in-Some.sight.rank) groups refl c.better.ensures.itself
    (λ q has. subst (λ o. IsBounded (board_in s) s.table.now.entries o groups (turn_in s.turn_of.now q) q m) (ap sight_rank c.in-Some.is) (c.look.ensures.best.bounded q has))

pub returns-in-None-clause-least : goal.returns-in-None-clause-least
returns-in-None-clause-least g c =
    let s = c.args.input.now in
    let m = c.args.machine.0 in
    let groups = c.look.new.mark.groups in
    least_none (board_in s) s.table.now.entries (turn_in s.turn_of.now) s.line.now.pairs m (found_rank c.args.best.now) groups
    (λ q has. subst (λ o. IsBounded (board_in s) s.table.now.entries o groups (turn_in s.turn_of.now q) q m) (ap sight_rank c.in-None.is) (c.look.ensures.best.bounded q has))

pub returns-in-Some-clause-settled : goal.returns-in-Some-clause-settled
returns-in-Some-clause-settled g c e opened = absurd (not_none c.better.new.best c.better.ensures.some e)

pub returns-in-Some-clause-empty : goal.returns-in-Some-clause-empty
returns-in-Some-clause-empty g c e = absurd (not_none c.better.new.best c.better.ensures.some e)

pub returns-in-None-clause-settled : goal.returns-in-None-clause-settled
returns-in-None-clause-settled g c e opened =
    let until : nat_lt c.look.new.mark.until c.args.input.now.turns ≡ false = let s = c.look.ensures.until in grind (arith, nat_tests, s) in
    ap (λ t. cond t (Some zero_rank) (option_map rank_of c.look.new.mark.bound)) until ∙ c.look.ensures.bound ∙ ap sight_rank c.in-None.is

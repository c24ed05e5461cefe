use Rattle.std.proofs.Common.{◌≡◌, true, nat_lt, Some, sym, ◌∙◌, subst, arith}
use Rattle.std.proofs.lemmas.Bool.Decides.{nat_tests}
use Rattle.fuxi_terms.proofs.Booleans.{and_true}
use Rattle.fuxi_terms.specs.Keys.{Pair}
use Rattle.spec_roles.specs.Masters.{out_of}
use Rattle.place_pass.specs.Cells.{asks_in}
use Rattle.place_pass.specs.Scenes.{board_in}
use Rattle.place_pass.specs.Bounds.{rank_of, rank_at, is_bound}
use Rattle.place_pass.specs.Candidates.{sight_rank, turn_in}
use Rattle.place_pass.proofs.CandidatesLemmas.{bounded_apart_from, bounded_wider, bounded_by, self_bound}
use Rattle.place_pass.proofs.search.look.weigh.Goals as goal

pub returns-then-not-takes-clause-here : goal.returns-then-not-takes-clause-here
returns-then-not-takes-clause-here c =
    bounded_apart_from (board_in c.args.input.now) c.args.input.now.table.now.entries (sight_rank c.args.best.now) c.args.groups.now (turn_in c.args.input.now.turn_of.now (c.args.app.0, c.args.unit.0)) (c.args.app.0, c.args.unit.0) c.args.machine.0 (sym c.takes.ensures ∙ c.if-not-takes.true)

pub returns-then-not-may_be_nearer-clause-here : goal.returns-then-not-may_be_nearer-clause-here
returns-then-not-may_be_nearer-clause-here c =
    let p : Pair = (c.args.app.0, c.args.unit.0) in
    bounded_by (board_in c.args.input.now) c.args.input.now.table.now.entries (sight_rank c.args.best.now) c.args.groups.now (turn_in c.args.input.now.turn_of.now p) p c.args.machine.0
    (subst (λ r. is_bound (sight_rank c.args.best.now) r ≡ true) c.rank_of_unit-rank.ensures (c.may_be_nearer.ensures.later c.if-not-may_be_nearer.true))

pub returns-then-not-allowed_or_noted-clause-here : goal.returns-then-not-allowed_or_noted-clause-here
returns-then-not-allowed_or_noted-clause-here c = c.allowed_or_noted.ensures.bounded c.if-not-allowed_or_noted.true (sight_rank c.args.best.now) (turn_in c.args.input.now.turn_of.now (c.args.app.0, c.args.unit.0)) c.args.machine.0

pub returns-then-not-allowed_or_noted-clause-kept : goal.returns-then-not-allowed_or_noted-clause-kept
returns-then-not-allowed_or_noted-clause-kept c q t h =
    let b = board_in c.args.input.now in
    bounded_wider b c.args.input.now.table.now.entries (sight_rank c.args.best.now) (sight_rank c.args.best.now) c.args.groups.now c.allowed_or_noted.new.groups t q c.args.machine.0 (λ r e. e) (c.allowed_or_noted.ensures.kept (b.groups q.0)) h

pub returns-clause-here : goal.returns-clause-here
returns-clause-here c =
    let b = board_in c.args.input.now in
    let p : Pair = (c.args.app.0, c.args.unit.0) in
    let r = rank_at b c.args.input.now.table.now.entries (turn_in c.args.input.now.turn_of.now p) p c.args.machine.0 in
    bounded_by b c.args.input.now.table.now.entries (Some (rank_of c.rank_of_unit-rank.result)) c.allowed_or_noted.new.groups (turn_in c.args.input.now.turn_of.now p) p c.args.machine.0 (subst (λ x. is_bound (Some x) r ≡ true) (sym c.rank_of_unit-rank.ensures) (self_bound r))

pub returns-clause-kept : goal.returns-clause-kept
returns-clause-kept c q t h =
    let b = board_in c.args.input.now in
    bounded_wider b c.args.input.now.table.now.entries (sight_rank c.args.best.now) (Some (rank_of c.rank_of_unit-rank.result)) c.args.groups.now c.allowed_or_noted.new.groups t q c.args.machine.0 (c.may_be_nearer.ensures.sooner c.if-not-may_be_nearer.false) (c.allowed_or_noted.ensures.kept (b.groups q.0)) h

pub returns-clause-sight : goal.returns-clause-sight
returns-clause-sight c line place at some before =
    let es = c.args.input.now.table.now.entries in
    let out : nat_lt 0 (out_of (asks_in c.args.input.now.wishes.now.cells) es c.args.app.0 c.args.unit.0) ≡ true = grind (arith, nat_tests, some) in
    record {
      place = place;
      at = at;
      placeable = and_true _ _ (and_true (nat_lt 0 (out_of (asks_in c.args.input.now.wishes.now.cells) es c.args.app.0 c.args.unit.0)) _ out (c.allowed_or_noted.ensures.allowed c.if-not-allowed_or_noted.false)) (sym c.takes.ensures ∙ c.if-not-takes.false);
      rank = c.rank_of_unit-rank.ensures;
    }

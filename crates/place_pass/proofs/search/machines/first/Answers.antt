use Rattle.std.proofs.Common.{◌≡◌, ℕ, ◌+◌, ◌<◌, ◌≤◌, Bool, true, false, List, Option, None, Some, get_or, sym, ◌∙◌, ap, subst, length, arith, inl, inr}
use Rattle.std.specs.Prelude.{IfSome}
use Rattle.fuxi_terms.specs.Keys.{Pair}
use Rattle.spec_roles.specs.Placing.{has_pair}
use Rattle.place_pass.specs.Bounds.{MarkRecord, mark_at, key_of, AreBoundedLater}
use Rattle.place_pass.specs.Placers.{board_over}
use Rattle.place_pass.specs.SearchCounts.{is_unsettled_by, count_below}
use Rattle.place_pass.specs.Candidates.{AreBehind, AreBounded, found_rank, turn_in, IsFound, IsLeast}
use Rattle.place_pass.specs.declared.search.BestFound.{BestFound}
use Rattle.place_pass.specs.declared.search.Least.{Least}
use Rattle.place_pass.proofs.FirstByTurn.{none_first, found_first}
use Rattle.place_pass.proofs.PassedMachines.{none_unsettled}
use Rattle.place_pass.proofs.CandidatesLemmas.{least_settled, settled_key, place_of, index_within}
use Rattle.place_pass.proofs.search.machines.first.Goals as goal

-- with no machine of least bound each is settled
settled : (o : List Bool) (marks : List MarkRecord) (turns n : ℕ) (least : Option Least) → length marks ≡ n → least ≡ None → AreBehind o marks turns (length marks) least → (m : ℕ) → m < n → is_unsettled_by o (mark_at marks m) turns m ≡ false
settled o marks turns n least long none behind m lt = none_unsettled o marks turns (length marks) m (subst (AreBehind o marks turns (length marks)) none behind) (subst (λ z. m < z) (sym long) lt)

-- no pair waits in a line without one
no_pair : (q : Pair) (line : List Pair) → length line ≡ 0 → has_pair q line ≡ true → ⊥
no_pair q line none has = let p = place_of q line has in let w = index_within line p.place q p.at in omega (arith, none, w)

pub returns-then-len-eq0-clause-bounded : goal.returns-then-len-eq0-clause-bounded
returns-then-len-eq0-clause-bounded g c m opened = record { bounded = λ q has lt. absurd (no_pair q c.args.line.now.pairs (sym c.len.ensures.number ∙ c.if-len-eq0.true) has) }

pub returns-then-len-eq0-clause-first : goal.returns-then-len-eq0-clause-first
returns-then-len-eq0-clause-first g c =
    let w = c.args.wishes.now in
    let t = c.args.table.now in
    sym (none_first (board_over w.cells w.opened t) t.entries (turn_in c.args.turn_of.now) c.args.line.now.pairs (λ m lt. record { least = λ q has p. absurd (no_pair q c.args.line.now.pairs (sym c.len.ensures.number ∙ c.if-len-eq0.true) has) }))

pub returns-then-len-eq0-clause-later : goal.returns-then-len-eq0-clause-later
returns-then-len-eq0-clause-later g c m opened =
    let w = c.args.wishes.now in
    let t = c.args.table.now in
    elim (c.settle_all.ensures.until m) [
      | inl same ↦ subst (λ (k : MarkRecord). AreBoundedLater (board_over w.cells w.opened t) t.entries w.cells c.args.turns k m) (sym (same ∙ ap (λ (ks : List MarkRecord). mark_at ks m) c.renew.ensures)) (c.requires.later m opened)
      | inr le ↦ λ a u turn here ge lt. absurd (omega (arith, le, ge, lt))
    ]

pub returns-in_default-clause-first : goal.returns-in_default-clause-first
returns-in_default-clause-first g c =
    let w = c.args.wishes.now in
    let t = c.args.table.now in
    let f = turn_in c.args.turn_of.now in
    let line = c.args.line.now.pairs in
    sym (none_first (board_over w.cells w.opened t) t.entries f line (λ m lt. least_settled w.cells w.opened t f line (mark_at c.args.marks.now m) m c.args.turns None (settled c.args.wishes.now.opened c.args.marks.now c.args.turns (length c.args.table.now.cluster.machines) c.least_machine.result c.requires.marked c.in_default.is (subst (λ (ks : List MarkRecord). AreBehind c.args.wishes.now.opened ks c.args.turns (length ks) c.least_machine.result) c.renew.ensures c.least_machine.ensures.behind) m lt) c.requires.below (c.requires.old m)))

pub returns-in_default-clause-settled : goal.returns-in_default-clause-settled
returns-in_default-clause-settled g c e m lt opened = ap (λ (ks : List MarkRecord). key_of (mark_at ks m) c.args.turns) c.renew.ensures ∙ settled_key (get_or c.args.wishes.now.opened m false) (key_of (mark_at c.args.marks.now m) c.args.turns) (settled c.args.wishes.now.opened c.args.marks.now c.args.turns (length c.args.table.now.cluster.machines) c.least_machine.result c.requires.marked c.in_default.is (subst (λ (ks : List MarkRecord). AreBehind c.args.wishes.now.opened ks c.args.turns (length ks) c.least_machine.result) c.renew.ensures c.least_machine.ensures.behind) m lt) opened

pub best_from_least-requires-clause-ready : goal.best_from_least-requires-clause-ready
best_from_least-requires-clause-ready g c = record { level = c.requires.level; admitted = c.requires.admitted; places = c.requires.places; waits = c.requires.waits; rises = c.requires.rises; below = c.requires.below; tree = c.requires.tree }

pub best_from_least-requires-clause-old : goal.best_from_least-requires-clause-old
best_from_least-requires-clause-old g c m =
    let w = c.args.wishes.now in
    let t = c.args.table.now in
    record {
      bounded = λ opened. subst (λ (ks : List MarkRecord). AreBounded (board_over w.cells w.opened t) t.entries (turn_in c.args.turn_of.now) c.args.line.now.pairs (mark_at ks m) m) (sym c.renew.ensures) (c.requires.old m opened);
      later = λ opened. subst (λ (ks : List MarkRecord). AreBoundedLater (board_over w.cells w.opened t) t.entries w.cells c.args.turns (mark_at ks m) m) (sym c.renew.ensures) (c.requires.later m opened);
    }

pub best_from_least-requires-clause-there : goal.best_from_least-requires-clause-there
best_from_least-requires-clause-there g c =
    subst (λ n. c.in-Some.least.machine.0 < n) (ap length c.renew.ensures ∙ c.requires.marked) (subst (λ (o : Option Least). IfSome o (λ x. x.machine.0 < length c.renew.new.self)) c.in-Some.is c.least_machine.ensures.there)

pub best_from_least-requires-clause-behind : goal.best_from_least-requires-clause-behind
best_from_least-requires-clause-behind g c =
    subst (λ n. AreBehind c.args.wishes.now.opened c.renew.new.self c.args.turns n (Some c.in-Some.least)) (ap length c.renew.ensures ∙ c.requires.marked)
    (subst (AreBehind c.args.wishes.now.opened c.renew.new.self c.args.turns (length c.renew.new.self)) c.in-Some.is c.least_machine.ensures.behind)

pub returns-in-Some-best_from_least-clause-first : goal.returns-in-Some-best_from_least-clause-first
returns-in-Some-best_from_least-clause-first g c =
    let b = board_over c.args.wishes.now.cells c.args.wishes.now.opened c.args.table.now in
    let es = c.args.table.now.entries in
    let f = turn_in c.args.turn_of.now in
    let line = c.args.line.now.pairs in
    sym (found_first b es f line c.in-Some-best_from_least.found c.requires.rises (subst (λ (o : Option BestFound). IfSome o (λ x. IsFound b es f line x)) c.in-Some-best_from_least.is c.best_from_least.ensures.found)
    (λ m lt. subst (λ (o : Option BestFound). IsLeast b es f line (found_rank o) m) c.in-Some-best_from_least.is (c.best_from_least.ensures.least m lt)))

pub returns-in-None-clause-first : goal.returns-in-None-clause-first
returns-in-None-clause-first g c =
    let b = board_over c.args.wishes.now.cells c.args.wishes.now.opened c.args.table.now in
    sym (none_first b c.args.table.now.entries (turn_in c.args.turn_of.now) c.args.line.now.pairs (λ m lt. subst (λ (o : Option BestFound). IsLeast b c.args.table.now.entries (turn_in c.args.turn_of.now) c.args.line.now.pairs (found_rank o) m) c.in-None.is (c.best_from_least.ensures.least m lt)))

pub returns-in-Some-best_from_least-clause-bounded : goal.returns-in-Some-best_from_least-clause-bounded
returns-in-Some-best_from_least-clause-bounded g c m opened = (c.best_from_least.ensures.marks m).bounded opened

pub returns-in-Some-best_from_least-clause-later : goal.returns-in-Some-best_from_least-clause-later
returns-in-Some-best_from_least-clause-later g c m opened = (c.best_from_least.ensures.marks m).later opened

pub returns-in-None-clause-bounded : goal.returns-in-None-clause-bounded
returns-in-None-clause-bounded g c m opened = (c.best_from_least.ensures.marks m).bounded opened

pub returns-in-None-clause-later : goal.returns-in-None-clause-later
returns-in-None-clause-later g c m opened = (c.best_from_least.ensures.marks m).later opened

pub returns-in-None-clause-settled : goal.returns-in-None-clause-settled
returns-in-None-clause-settled g c e m lt opened = c.best_from_least.ensures.settled c.in-None.is m lt opened

pub returns-in-Some-best_from_least-clause-count : goal.returns-in-Some-best_from_least-clause-count
returns-in-Some-best_from_least-clause-count g c =
    subst (λ (ks : List MarkRecord). c.best_from_least.new.steps ≤ c.args.steps.now + count_below (λ m. is_unsettled_by c.args.wishes.now.opened (mark_at ks m) c.args.turns m) (length c.args.table.now.cluster.machines)) c.renew.ensures c.best_from_least.ensures.count

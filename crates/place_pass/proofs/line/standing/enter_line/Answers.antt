use Rattle.std.proofs.Common.{◌≡◌, ◌+◌, ◌<◌, ℕ, List, true, false, take, length, get_or, [], refl, sym, ◌∙◌, ap, subst, arith}
use Rattle.fuxi_terms.specs.Jobs.{unit_count}
use Rattle.fuxi_terms.specs.Keys.{Pair}
use Rattle.grant_table.specs.GrantTables.{as_known}
use Rattle.wait_queue.specs.declared.node.Entry.{Entry}
use Rattle.locality_tree.specs.Trees.{TreeRecord, is_admitted, cluster_place, refreshed, unit_at, unit_number, MayWait}
use Rattle.spec_roles.specs.Placing.{has_pair}
use Rattle.place_pass.specs.Bounds.{turn_at}
use Rattle.place_pass.specs.WaitingLines.{same_pair}
use Rattle.place_pass.specs.PlacerTrees.{HoldsLine, AllStand, StandsAs, WaitsIn, Restood}
use Rattle.place_pass.proofs.WaitingLinesLemmas.{pair_is, taken_whole}
use Rattle.place_pass.proofs.CellsMatchTable.{count_is}
use Rattle.place_pass.proofs.LinedLemmas.{admitted_at, here_at, placed_at}
use Rattle.place_pass.proofs.PlacerTreesLemmas.{holds_begun, begun_nowhere, begun_others, holds_on, numbers_apart, stands_on, may_wait, waits_in, turn_before, has_other, has_itself}
use Rattle.place_pass.proofs.line.standing.enter_line.Goals as goal

pub entry_for-entry-requires-clause-unit : goal.entry_for-entry-requires-clause-unit
entry_for-entry-requires-clause-unit c = here_at c.are_sound.ensures c.args.line.now.pairs c.requires.admitted c.loop-place.place c.at.ensures

pub refresh-requires-clause-admitted : goal.refresh-requires-clause-admitted
refresh-requires-clause-admitted c =
    let w = c.args.wishes.now in
    let line = c.args.line.now.pairs in
    let q : Pair = (c.at.result.0.0, c.at.result.1.0) in
    subst (λ (e : Entry). is_admitted c.loop-place.tree e.app.0 e.unit.0 ≡ true) (sym c.entry_for-entry.ensures)
    (admitted_at c.are_sound.ensures c.args.line.now.pairs c.requires.admitted c.loop-place.place c.at.ensures (λ p. has_pair p (take c.loop-place.place line)) c.args.turn_of.now.items c.loop-place.tree c.loop-place.invariant.holds)

pub refresh-requires-clause-entry : goal.refresh-requires-clause-entry
refresh-requires-clause-entry c =
    let w = c.args.wishes.now in
    let line = c.args.line.now.pairs in
    let q : Pair = (c.at.result.0.0, c.at.result.1.0) in
    let f : Pair → ℕ = λ p. turn_at c.args.turn_of.now.items p.0 p.1 in
    subst (MayWait c.loop-place.tree) (sym c.entry_for-entry.ensures)
    (may_wait w.cluster w.cells (λ p. has_pair p (take c.loop-place.place line)) c.args.turn_of.now.items c.loop-place.tree q.0 q.1 c.loop-place.invariant.holds (placed_at c.are_sound.ensures c.args.line.now.pairs c.requires.admitted c.loop-place.place c.at.ensures).0 (placed_at c.are_sound.ensures c.args.line.now.pairs c.requires.admitted c.loop-place.place c.at.ensures).1
    (λ b v x e. let lt = turn_before f line c.loop-place.place q (b, v) c.requires.rises c.at.ensures x in absurd (omega (arith, lt, e))))

pub enter_unit-requires-clause-here : goal.enter_unit-requires-clause-here
enter_unit-requires-clause-here c = subst (λ (e : Entry). e.unit.0 < length (get_or c.args.wishes.now.cells e.app.0 [])) (sym c.entry_for-entry.ensures)
    (here_at c.are_sound.ensures c.args.line.now.pairs c.requires.admitted c.loop-place.place c.at.ensures)

pub enter_unit-requires-clause-there : goal.enter_unit-requires-clause-there
enter_unit-requires-clause-there c =
    let w = c.args.wishes.now in
    let q : Pair = (c.at.result.0.0, c.at.result.1.0) in
    let here = here_at c.are_sound.ensures c.args.line.now.pairs c.requires.admitted c.loop-place.place c.at.ensures in
    let n = count_is w.cluster w.cells c.args.table.now c.requires.level q.0 in
    let there : q.1 < unit_count (as_known c.args.table.now.jobs) q.0 = omega (arith, here, n) in
    subst (λ (e : Entry). e.unit.0 < unit_count (as_known c.args.table.now.jobs) e.app.0) (sym c.entry_for-entry.ensures) there

pub enter_unit-requires-clause-waits : goal.enter_unit-requires-clause-waits
enter_unit-requires-clause-waits c =
    let w = c.args.wishes.now in
    let line = c.args.line.now.pairs in
    let place = c.loop-place.place in
    let q : Pair = (c.at.result.0.0, c.at.result.1.0) in
    let held : HoldsLine w.cluster w.cells (take (place + 1) line) c.args.turn_of.now.items c.refresh.new.self = holds_begun w.cluster w.cells (λ p. has_pair p (take place line)) (λ p. has_pair p (take (place + 1) line)) c.args.turn_of.now.items c.loop-place.tree c.refresh.new.self q.0 q.1 c.loop-place.invariant.holds
    (placed_at c.are_sound.ensures c.args.line.now.pairs c.requires.admitted c.loop-place.place c.at.ensures).1
    (here_at c.are_sound.ensures c.args.line.now.pairs c.requires.admitted c.loop-place.place c.at.ensures)
    (λ b v f. has_other line place q (b, v) c.at.ensures f) (has_itself line place q c.at.ensures) (c.refresh.ensures ∙ ap (λ (e : Entry). refreshed c.loop-place.tree e true) c.entry_for-entry.ensures) in
    subst (λ (e : Entry). WaitsIn w.cluster e c.refresh.new.self) (sym c.entry_for-entry.ensures)
    (waits_in w.cluster w.cells (λ p. has_pair p (take (c.loop-place.place + 1) line)) c.args.turn_of.now.items c.refresh.new.self q.0 q.1 held (has_itself line c.loop-place.place q c.at.ensures)
    (here_at c.are_sound.ensures c.args.line.now.pairs c.requires.admitted c.loop-place.place c.at.ensures))

pub enter_unit-requires-clause-nowhere : goal.enter_unit-requires-clause-nowhere
enter_unit-requires-clause-nowhere c at_place lt =
    let w = c.args.wishes.now in
    let line = c.args.line.now.pairs in
    let place = c.loop-place.place in
    let q : Pair = (c.at.result.0.0, c.at.result.1.0) in
    let f : Pair → ℕ = λ p. turn_at c.args.turn_of.now.items p.0 p.1 in
    let t = c.loop-place.tree in
    let made = c.refresh.ensures ∙ ap (λ (e : Entry). refreshed t e true) c.entry_for-entry.ensures in
    let new : has_pair q (take place line) ≡ false = elim (has_pair q (take place line)) as (λ x. has_pair q (take place line) ≡ x → x ≡ false) [
      | true ↦ λ x. let less = turn_before f line place q q c.requires.rises c.at.ensures x in absurd (omega (arith, less))
      | false ↦ λ _. refl
    ] refl in
    subst (λ (e : Entry). get_or (unit_at c.refresh.new.self e.app.0 e.unit.0).stands at_place false ≡ false) (sym c.entry_for-entry.ensures)
    (begun_nowhere w.cluster w.cells (λ p. has_pair p (take place line)) (λ p. has_pair p (take (place + 1) line)) c.args.turn_of.now.items t c.refresh.new.self q.0 q.1 c.loop-place.invariant.holds
    (placed_at c.are_sound.ensures line c.requires.admitted place c.at.ensures).1 (here_at c.are_sound.ensures line c.requires.admitted place c.at.ensures)
    (λ b v g. has_other line place q (b, v) c.at.ensures g) new made at_place (subst (λ rs. at_place < cluster_place rs) (ap (λ (x : TreeRecord). x.racks) made) lt))

pub loop-place-preserved : goal.loop-place-preserved
loop-place-preserved c =
    let w = c.args.wishes.now in
    let line = c.args.line.now.pairs in
    let es = c.args.table.now.entries in
    let place = c.loop-place.place in
    let q : Pair = (c.at.result.0.0, c.at.result.1.0) in
    let f : Pair → ℕ = λ p. turn_at c.args.turn_of.now.items p.0 p.1 in
    let t = c.loop-place.tree in
    let t1 = c.refresh.new.self in
    let t2 = c.enter_unit.new.tree in
    let i = c.loop-place.invariant in
    let from = i.from in
    let lu = (placed_at c.are_sound.ensures c.args.line.now.pairs c.requires.admitted c.loop-place.place c.at.ensures).1 in
    let here = here_at c.are_sound.ensures c.args.line.now.pairs c.requires.admitted c.loop-place.place c.at.ensures in
    let made = c.refresh.ensures ∙ ap (λ (e : Entry). refreshed t e true) c.entry_for-entry.ensures in
    let others = begun_others w.cluster w.cells (λ p. has_pair p (take place line)) (λ p. has_pair p (take (place + 1) line)) c.args.turn_of.now.items t t1 q.0 q.1 i.holds lu here (λ b v f. has_other line place q (b, v) c.at.ensures f) made in
    let held : HoldsLine w.cluster w.cells (take (place + 1) line) c.args.turn_of.now.items c.refresh.new.self = holds_begun w.cluster w.cells (λ p. has_pair p (take place line)) (λ p. has_pair p (take (place + 1) line)) c.args.turn_of.now.items c.loop-place.tree c.refresh.new.self q.0 q.1 c.loop-place.invariant.holds
    (placed_at c.are_sound.ensures c.args.line.now.pairs c.requires.admitted c.loop-place.place c.at.ensures).1
    (here_at c.are_sound.ensures c.args.line.now.pairs c.requires.admitted c.loop-place.place c.at.ensures)
    (λ b v f. has_other line place q (b, v) c.at.ensures f) (has_itself line place q c.at.ensures) (c.refresh.ensures ∙ ap (λ (e : Entry). refreshed c.loop-place.tree e true) c.entry_for-entry.ensures) in
    let r = subst (λ (e : Entry). Restood (unit_number e.app.0 e.unit.0) t1 t2) c.entry_for-entry.ensures c.enter_unit.ensures.restood in
    let stands = subst (λ (e : Entry). StandsAs w.cluster w.cells es e.app.0 e.unit.0 t2) c.entry_for-entry.ensures c.enter_unit.ensures.stands in
    record {
      from = omega (arith, from);
      holds = holds_on w.cluster w.cells (λ p. has_pair p (take (place + 1) line)) c.args.turn_of.now.items t1 t2 q.0 q.1 held (has_itself line place q c.at.ensures) r;
      stands = λ a u has. elim (same_pair (a, u) q) as (λ x. same_pair (a, u) q ≡ x → StandsAs w.cluster w.cells es a u t2) [
        | true ↦ λ x. subst (λ (p : Pair). StandsAs w.cluster w.cells es p.0 p.1 t2) (sym (pair_is (a, u) q x)) stands
        | false ↦ λ x.
            let la = held.few a u has in
            let before : has_pair (a, u) (take place line) ≡ true = sym (has_other line place q (a, u) c.at.ensures x) ∙ has in
            stands_on w.cluster w.cells es a u t t2 (r.racks ∙ ap (λ (x : TreeRecord). x.racks) made) (r.others (unit_number a u) (numbers_apart q.0 q.1 a u lu la x) ∙ others a u la x) (i.stands a u before)
      ] refl;
    }

pub returns-clause-holds : goal.returns-clause-holds
returns-clause-holds c =
    let line = c.args.line.now.pairs in
    let end = c.loop-place-test.false in
    let n = c.len-place-end.ensures.number in
    subst (λ (l : List Pair). HoldsLine c.args.wishes.now.cluster c.args.wishes.now.cells l c.args.turn_of.now.items c.loop-place.tree) (taken_whole line c.loop-place.place (omega (arith, end, n))) c.loop-place.invariant.holds

pub returns-clause-stands : goal.returns-clause-stands
returns-clause-stands c =
    let line = c.args.line.now.pairs in
    let end = c.loop-place-test.false in
    let n = c.len-place-end.ensures.number in
    subst (λ (l : List Pair). AllStand c.args.wishes.now.cluster c.args.wishes.now.cells c.args.table.now.entries l c.loop-place.tree) (taken_whole line c.loop-place.place (omega (arith, end, n))) c.loop-place.invariant.stands

use Rattle.std.proofs.Common.{ℕ, List, [], ◌∷◌, Some, None, sym, subst}
use Rattle.fuxi_terms.proofs.Booleans.{and_true}
use Rattle.locality_tree.specs.Trees.{RankedEntry}
use Rattle.place_pass.specs.Bounds.{IsBounded}
use Rattle.place_pass.specs.Scenes.{board_in}
use Rattle.place_pass.specs.Candidates.{turn_in}
use Rattle.place_pass.proofs.PathLemmas.{Walk, walk_starts}
use Rattle.place_pass.proofs.ScenesLemmas.{step_of, walk_ends, of_line, step_admitted, step_on, step_out, step_least, step_rank}
use Rattle.place_pass.proofs.CandidatesLemmas.{place_of}
use Rattle.place_pass.proofs.search.look.best_on.Goals as goal

pub loop-left-init : goal.loop-left-init
loop-left-init c =
    let s = c.args.input.now in
    let w = s.wishes.now in
    let n = c.len-left.ensures.number in
    subst (Walk w.cluster w.cells s.line.now.pairs s.turn_of.now s.table.now.entries s.tree.now c.args.machine.0 (board_in s) c.args.groups.now c.path-path.result) (sym n)
    (walk_starts w.cluster w.cells s.line.now.pairs s.turn_of.now s.table.now.entries s.tree.now c.args.machine.0 c.requires.ready.tree (board_in s) c.args.groups.now c.path-path.result c.path-path.ensures)

pub returns-in_default-clause-bounded : goal.returns-in_default-clause-bounded
returns-in_default-clause-bounded c q has = walk_ends c.args.input.now c.args.machine.0 c.loop-left.groups c.loop-left.path c.next.new.self c.loop-left.left c.next.result c.loop-left.invariant c.next.ensures.gives c.in_default.is q has

pub may_place-requires-clause-unit : goal.may_place-requires-clause-unit
may_place-requires-clause-unit c =
    let x : RankedEntry = (c.in-Some.entry, c.in-Some.level) in
    let step = step_of c.args.input.now c.args.machine.0 c.loop-left.groups c.loop-left.path c.next.new.self c.loop-left.left c.next.result x c.loop-left.invariant c.next.ensures.gives c.in-Some.is in
    step_admitted c.args.input.now c.requires.ready c.is_sound.ensures c.args.machine.0 c.requires.machine c.loop-left.groups c.loop-left.path c.next.new.self c.loop-left.left x step

pub turn_of_unit-turn-requires-clause-unit : goal.turn_of_unit-turn-requires-clause-unit
turn_of_unit-turn-requires-clause-unit c =
    let x : RankedEntry = (c.in-Some.entry, c.in-Some.level) in
    let step = step_of c.args.input.now c.args.machine.0 c.loop-left.groups c.loop-left.path c.next.new.self c.loop-left.left c.next.result x c.loop-left.invariant c.next.ensures.gives c.in-Some.is in
    step_admitted c.args.input.now c.requires.ready c.is_sound.ensures c.args.machine.0 c.requires.machine c.loop-left.groups c.loop-left.path c.next.new.self c.loop-left.left x step

pub loop-left-preserved : goal.loop-left-preserved
loop-left-preserved c =
    let x : RankedEntry = (c.in-Some.entry, c.in-Some.level) in
    let step = step_of c.args.input.now c.args.machine.0 c.loop-left.groups c.loop-left.path c.next.new.self c.loop-left.left c.next.result x c.loop-left.invariant c.next.ensures.gives c.in-Some.is in
    let passed = c.may_place.ensures.bounded c.if-not-may_place.true None (turn_in c.args.input.now.turn_of.now (c.in-Some.entry.app.0, c.in-Some.entry.unit.0)) in
    step_on c.args.input.now c.requires.ready c.is_sound.ensures c.args.machine.0 c.requires.machine c.loop-left.groups c.loop-left.path c.next.new.self c.loop-left.left x step c.may_place.new.groups c.loop-left-test.true c.may_place.ensures.kept passed

pub returns-in-loop-left-clause-bounded : goal.returns-in-loop-left-clause-bounded
returns-in-loop-left-clause-bounded c p has =
    let s = c.args.input.now in
    let x : RankedEntry = (c.in-Some.entry, c.in-Some.level) in
    let rank : List ℕ = c.saturating_sub-late.result ∷ c.in-Some.level ∷ c.turn_of_unit-turn.result ∷ [] in
    let step = step_of s c.args.machine.0 c.loop-left.groups c.loop-left.path c.next.new.self c.loop-left.left c.next.result x c.loop-left.invariant c.next.ensures.gives c.in-Some.is in
    let least = step_least s c.requires.ready c.is_sound.ensures c.args.machine.0 c.requires.machine c.loop-left.groups c.loop-left.path c.next.new.self c.loop-left.left x step c.saturating_sub-late.result c.turn_of_unit-turn.result c.saturating_sub-late.ensures c.turn_of_unit-turn.ensures in
    subst (λ gs. IsBounded (board_in s) s.table.now.entries (Some rank) gs (turn_in s.turn_of.now p) p c.args.machine.0) (sym (c.may_place.ensures.same c.if-not-may_place.false)) (least p has)

pub returns-in-loop-left-clause-sight : goal.returns-in-loop-left-clause-sight
returns-in-loop-left-clause-sight c =
    let s = c.args.input.now in
    let x : RankedEntry = (c.in-Some.entry, c.in-Some.level) in
    let step = step_of s c.args.machine.0 c.loop-left.groups c.loop-left.path c.next.new.self c.loop-left.left c.next.result x c.loop-left.invariant c.next.ensures.gives c.in-Some.is in
    let of = of_line s c.requires.ready c.is_sound.ensures c.args.machine.0 c.requires.machine c.loop-left.groups c.loop-left.path c.next.new.self c.loop-left.left x step in
    let place = place_of (c.in-Some.entry.app.0, c.in-Some.entry.unit.0) s.line.now.pairs of.waiting in
    let out = step_out s c.requires.ready c.is_sound.ensures c.args.machine.0 c.requires.machine c.loop-left.groups c.loop-left.path c.next.new.self c.loop-left.left x step in
    record {
      place = place.place;
      at = place.at;
      placeable = and_true _ _ (and_true _ _ out (c.may_place.ensures.allowed c.if-not-may_place.false)) (c.may_place.ensures.fits c.if-not-may_place.false);
      rank = step_rank s c.requires.ready c.is_sound.ensures c.args.machine.0 c.requires.machine c.loop-left.groups c.loop-left.path c.next.new.self c.loop-left.left x step c.saturating_sub-late.result c.turn_of_unit-turn.result c.saturating_sub-late.ensures c.turn_of_unit-turn.ensures;
    }

use Rattle.std.proofs.Common.{◌≡◌, ℕ, true, false, cond, not, nat_eq, nat_lt, List, refl, sym, ◌∙◌, ap, subst, arith}
use Rattle.std.specs.Prelude.{◌&&◌}
use Rattle.std.proofs.Math.Bool.{and-true}
use Rattle.std.proofs.lemmas.Bool.Decides.{nat_tests}
use Rattle.fuxi_terms.proofs.Booleans.{and_false}
use Rattle.fuxi_terms.specs.Keys.{Pair}
use Rattle.wait_queue.specs.declared.node.Entry.{Entry}
use Rattle.locality_tree.specs.Trees.{TreeRecord, is_admitted, refreshed, MayWait}
use Rattle.spec_roles.specs.Masters.{out_of}
use Rattle.spec_roles.specs.Placing.{has_pair}
use Rattle.place_pass.specs.Bounds.{turn_at}
use Rattle.place_pass.specs.Cells.{asks_in}
use Rattle.place_pass.specs.PlacerTrees.{HoldsLine, AllStand}
use Rattle.place_pass.proofs.CellsLemmas.{placed}
use Rattle.place_pass.proofs.FlagsTellWhoWaits.{all_stay, place_inside}
use Rattle.place_pass.proofs.WaitingLinesLemmas.{pair_self}
use Rattle.place_pass.proofs.PlacerTreesLemmas.{holds_left, left_others, admitted_in, may_wait, turn_apart, stands_on}
use Rattle.place_pass.proofs.StandsAfterChange.{others_in, has_others, apart_from}
use Rattle.place_pass.proofs.line.waiting.leave_unit.Goals as goal

pub returns-then-not-has-clause-pairs : goal.returns-then-not-has-clause-pairs
returns-then-not-has-clause-pairs c =
    let line = c.args.line.now.pairs in
    let a = c.args.app.0 in let u = c.args.unit.0 in
    elim (nat_lt 0 (out_of (asks_in c.args.wishes.now.cells) c.args.table.now.entries a u)) as (λ b. line ≡ cond b line (others_in a u line)) [
      | true ↦ refl
      | false ↦ sym (all_stay line (a, u) (sym c.has.ensures ∙ c.if-not-has.true))
    ]

pub returns-then-outstanding-gt0-clause-pairs : goal.returns-then-outstanding-gt0-clause-pairs
returns-then-outstanding-gt0-clause-pairs c =
    let line = c.args.line.now.pairs in
    let test : nat_lt 0 (out_of (asks_in c.args.wishes.now.cells) c.args.table.now.entries c.args.app.0 c.args.unit.0) ≡ true = let e = c.outstanding.ensures in let z = c.if-outstanding-gt0.true in grind (arith, nat_tests, e, z) in
    ap (λ b. cond b line (others_in c.args.app.0 c.args.unit.0 line)) (sym test)

pub refresh-requires-clause-admitted : goal.refresh-requires-clause-admitted
refresh-requires-clause-admitted c =
    let w = c.args.wishes.now in
    let a = c.args.app.0 in let u = c.args.unit.0 in
    let lu = (placed w.cluster w.cells w.opened c.are_sound.ensures a u c.requires.here).1 in
    subst (λ (e : Entry). is_admitted c.args.tree.now e.app.0 e.unit.0 ≡ true) (sym c.entry_for-entry.ensures) (admitted_in w.cluster w.cells (λ p. has_pair p c.args.line.now.pairs) c.args.turn_of.now.items c.args.tree.now a u c.requires.holds lu c.requires.here)

pub refresh-requires-clause-entry : goal.refresh-requires-clause-entry
refresh-requires-clause-entry c =
    let w = c.args.wishes.now in
    let line = c.args.line.now.pairs in
    let a = c.args.app.0 in let u = c.args.unit.0 in
    let small = placed w.cluster w.cells w.opened c.are_sound.ensures a u c.requires.here in
    let there : has_pair (a, u) line ≡ true = sym c.has.ensures ∙ c.if-not-has.false in
    subst (MayWait c.args.tree.now) (sym c.entry_for-entry.ensures) (may_wait w.cluster w.cells (λ p. has_pair p line) c.args.turn_of.now.items c.args.tree.now a u c.requires.holds small.0 small.1
    (λ b v x e. turn_apart (λ (p : Pair). turn_at c.args.turn_of.now.items p.0 p.1) line (a, u) (b, v) c.requires.rises there x e))

pub place_of-place-requires-clause-there : goal.place_of-place-requires-clause-there
place_of-place-requires-clause-there c = sym c.has.ensures ∙ c.if-not-has.false

pub remove-requires : goal.remove-requires
remove-requires c = place_inside c.args.line.now.pairs c.place_of-place.result (c.args.app.0, c.args.unit.0) c.place_of-place.ensures

pub returns-clause-pairs : goal.returns-clause-pairs
returns-clause-pairs c =
    let line = c.args.line.now.pairs in
    let test : nat_lt 0 (out_of (asks_in c.args.wishes.now.cells) c.args.table.now.entries c.args.app.0 c.args.unit.0) ≡ false = let e = c.outstanding.ensures in let z = c.if-outstanding-gt0.false in grind (arith, nat_tests, e, z) in
    c.remove.ensures.pairs (c.args.app.0, c.args.unit.0) c.place_of-place.ensures ∙ ap (λ b. cond b line (others_in c.args.app.0 c.args.unit.0 line)) (sym test)

-- of the others the line keeps each
others_same : (c : goal.After-remove) (b v : ℕ) → (nat_eq b c.args.app.0 && nat_eq v c.args.unit.0) ≡ false → has_pair (b, v) (others_in c.args.app.0 c.args.unit.0 c.args.line.now.pairs) ≡ has_pair (b, v) c.args.line.now.pairs
others_same c b v f =
    let line = c.args.line.now.pairs in
    has_others c.args.app.0 c.args.unit.0 line (b, v) ∙ ap (λ x. has_pair (b, v) line && not x) f ∙ and-true (has_pair (b, v) line)

pub returns-clause-holds : goal.returns-clause-holds
returns-clause-holds c =
    let w = c.args.wishes.now in
    let line = c.args.line.now.pairs in
    let a = c.args.app.0 in let u = c.args.unit.0 in
    let t = c.args.tree.now in
    subst (λ (l : List Pair). HoldsLine w.cluster w.cells l c.args.turn_of.now.items c.refresh.new.self) (sym (c.remove.ensures.pairs (c.args.app.0, c.args.unit.0) c.place_of-place.ensures))
    (holds_left w.cluster w.cells (λ p. has_pair p line) (λ p. has_pair p (others_in a u line)) c.args.turn_of.now.items t c.refresh.new.self a u c.requires.holds (placed w.cluster w.cells w.opened c.are_sound.ensures a u c.requires.here).1 c.requires.here
    (others_same c) (has_others a u line (a, u) ∙ ap (λ x. has_pair (a, u) line && not x) (pair_self (a, u)) ∙ and_false (has_pair (a, u) line))
    (c.refresh.ensures ∙ ap (λ (e : Entry). refreshed t e false) c.entry_for-entry.ensures))

pub returns-clause-stands : goal.returns-clause-stands
returns-clause-stands c es all =
    let w = c.args.wishes.now in
    let line = c.args.line.now.pairs in
    let a = c.args.app.0 in let u = c.args.unit.0 in
    let t = c.args.tree.now in
    let lu = (placed w.cluster w.cells w.opened c.are_sound.ensures a u c.requires.here).1 in
    let made = c.refresh.ensures ∙ ap (λ (e : Entry). refreshed t e false) c.entry_for-entry.ensures in
    subst (λ (l : List Pair). AllStand w.cluster w.cells es l c.refresh.new.self) (sym (c.remove.ensures.pairs (c.args.app.0, c.args.unit.0) c.place_of-place.ensures)) (λ b v has.
    let x = apart_from a u line (b, v) has in
    stands_on w.cluster w.cells es b v t c.refresh.new.self (ap (λ (y : TreeRecord). y.racks) made)
    (left_others w.cluster w.cells (λ p. has_pair p line) (λ p. has_pair p (others_in a u line)) c.args.turn_of.now.items t c.refresh.new.self a u c.requires.holds lu c.requires.here (others_same c) made b v (c.requires.holds.few b v x.0) x.1) (all b v x.0))

use Rattle.std.proofs.Common.{◌≡◌, ℕ, ◌+◌, ◌<◌, ◌++◌, ◌∷◌, [], Bool, List, true, false, nat_eq, nat_lt, length, get_or, take, drop, sym, ◌∙◌, ap, subst, arith}
use Rattle.std.specs.Prelude.{◌&&◌}
use Rattle.std.proofs.lemmas.Bool.Decides.{nat_tests}
use Rattle.std.proofs.lemmas.List.Edits.{length-swap}
use Rattle.fuxi_terms.specs.Keys.{Pair}
use Rattle.fuxi_terms.proofs.Lists.{all_at}
use Rattle.wait_queue.specs.declared.node.Entry.{Entry}
use Rattle.locality_tree.specs.Trees.{TreeRecord, is_admitted, refreshed, MayWait}
use Rattle.spec_roles.specs.Masters.{out_of}
use Rattle.spec_roles.specs.Placing.{has_pair}
use Rattle.place_pass.specs.Bounds.{turn_at}
use Rattle.place_pass.specs.Cells.{asks_in}
use Rattle.place_pass.specs.PlacerTrees.{HoldsLine, AllStand}
use Rattle.place_pass.proofs.CellsLemmas.{placed}
use Rattle.place_pass.proofs.CellsMatchTable.{count_is}
use Rattle.place_pass.proofs.FlagsTellWhoWaits.{has_at}
use Rattle.place_pass.proofs.KeptInOrder.{back_next, back_swapped, front_swapped, leaves_next, same_next, stays_next, walked, walked_apart, walked_left, walked_others, walked_stays, walked_was}
use Rattle.place_pass.proofs.PlacerTreesLemmas.{holds_left, left_others, admitted_in, may_wait, turn_apart, stands_on}
use Rattle.place_pass.proofs.line.waiting.keep_waiting.Goals as goal

pub outstanding-requires-clause-here : goal.outstanding-requires-clause-here
outstanding-requires-clause-here c =
    let init = c.args.line.now.pairs in
    let n = c.loop-place.place in
    let q : Pair = (c.at.result.0.0, c.at.result.1.0) in
    let at = same_next c.loop-place.line.pairs init n q c.loop-place.invariant.back c.at.ensures in
    all_at (λ (p : Pair). p.1 < length (get_or c.args.wishes.now.cells p.0 [])) init n q c.requires.admitted at

pub outstanding-requires-clause-there : goal.outstanding-requires-clause-there
outstanding-requires-clause-there c =
    let init = c.args.line.now.pairs in
    let n = c.loop-place.place in
    let q : Pair = (c.at.result.0.0, c.at.result.1.0) in
    let at = same_next c.loop-place.line.pairs init n q c.loop-place.invariant.back c.at.ensures in
    let here : q.1 < length (get_or c.args.wishes.now.cells q.0 []) = all_at (λ (p : Pair). p.1 < length (get_or c.args.wishes.now.cells p.0 [])) init n q c.requires.admitted at in
    let count = count_is c.args.wishes.now.cluster c.args.wishes.now.cells c.args.table.now c.requires.level q.0 in
    omega (arith, here, count)

pub entry_for-entry-requires-clause-unit : goal.entry_for-entry-requires-clause-unit
entry_for-entry-requires-clause-unit c =
    let init = c.args.line.now.pairs in
    let n = c.loop-place.place in
    let q : Pair = (c.at.result.0.0, c.at.result.1.0) in
    let at = same_next c.loop-place.line.pairs init n q c.loop-place.invariant.back c.at.ensures in
    all_at (λ (p : Pair). p.1 < length (get_or c.args.wishes.now.cells p.0 [])) init n q c.requires.admitted at

pub refresh-requires-clause-admitted : goal.refresh-requires-clause-admitted
refresh-requires-clause-admitted c =
    let init = c.args.line.now.pairs in
    let n = c.loop-place.place in
    let q : Pair = (c.at.result.0.0, c.at.result.1.0) in
    let at = same_next c.loop-place.line.pairs init n q c.loop-place.invariant.back c.at.ensures in
    let here : q.1 < length (get_or c.args.wishes.now.cells q.0 []) = all_at (λ (p : Pair). p.1 < length (get_or c.args.wishes.now.cells p.0 [])) init n q c.requires.admitted at in
    let w : Pair → Bool = λ p. nat_lt 0 (out_of (asks_in c.args.wishes.now.cells) c.args.table.now.entries p.0 p.1) in
    let v = c.args.wishes.now in
    let lu = (placed v.cluster v.cells v.opened c.are_sound.ensures q.0 q.1 here).1 in
    subst (λ (e : Entry). is_admitted c.loop-place.tree e.app.0 e.unit.0 ≡ true) (sym c.entry_for-entry.ensures) (admitted_in v.cluster v.cells (λ p. has_pair p (walked w n init)) c.args.turn_of.now.items c.loop-place.tree q.0 q.1 c.loop-place.invariant.holds lu here)

pub refresh-requires-clause-entry : goal.refresh-requires-clause-entry
refresh-requires-clause-entry c =
    let init = c.args.line.now.pairs in
    let n = c.loop-place.place in
    let q : Pair = (c.at.result.0.0, c.at.result.1.0) in
    let at = same_next c.loop-place.line.pairs init n q c.loop-place.invariant.back c.at.ensures in
    let here : q.1 < length (get_or c.args.wishes.now.cells q.0 []) = all_at (λ (p : Pair). p.1 < length (get_or c.args.wishes.now.cells p.0 [])) init n q c.requires.admitted at in
    let w : Pair → Bool = λ p. nat_lt 0 (out_of (asks_in c.args.wishes.now.cells) c.args.table.now.entries p.0 p.1) in
    let v = c.args.wishes.now in
    let small = placed v.cluster v.cells v.opened c.are_sound.ensures q.0 q.1 here in
    subst (MayWait c.loop-place.tree) (sym c.entry_for-entry.ensures) (may_wait v.cluster v.cells (λ p. has_pair p (walked w n init)) c.args.turn_of.now.items c.loop-place.tree q.0 q.1 c.loop-place.invariant.holds small.0 small.1
    (λ b u x e. turn_apart (λ (p : Pair). turn_at c.args.turn_of.now.items p.0 p.1) init q (b, u) c.requires.rises (has_at init n q at) (walked_was w init n (b, u) x) e))

pub loop-place-preserved-then-outstanding-eq0 : goal.loop-place-preserved-then-outstanding-eq0
loop-place-preserved-then-outstanding-eq0 c =
    let init = c.args.line.now.pairs in
    let n = c.loop-place.place in
    let q : Pair = (c.at.result.0.0, c.at.result.1.0) in
    let at = same_next c.loop-place.line.pairs init n q c.loop-place.invariant.back c.at.ensures in
    let here : q.1 < length (get_or c.args.wishes.now.cells q.0 []) = all_at (λ (p : Pair). p.1 < length (get_or c.args.wishes.now.cells p.0 [])) init n q c.requires.admitted at in
    let w : Pair → Bool = λ p. nat_lt 0 (out_of (asks_in c.args.wishes.now.cells) c.args.table.now.entries p.0 p.1) in
    let v = c.args.wishes.now in
    let lu = (placed v.cluster v.cells v.opened c.are_sound.ensures q.0 q.1 here).1 in
    let rest : w q ≡ false = let e = c.outstanding.ensures in let z = c.if-outstanding-eq0.true in grind (arith, nat_tests, e, z) in
    let i = c.loop-place.invariant in
    let kept = i.kept in
    let made = c.refresh.ensures ∙ ap (λ (e : Entry). refreshed c.loop-place.tree e false) c.entry_for-entry.ensures in
    let others = λ (b u : ℕ) (f : (nat_eq b q.0 && nat_eq u q.1) ≡ false). walked_others w init n q (b, u) at rest f in
    record {
      kept = omega (arith, kept);
      long = i.long;
      front = i.front ∙ sym (leaves_next w init n q at rest);
      back = back_next c.loop-place.line.pairs init n i.back;
      units = i.units;
      holds = holds_left v.cluster v.cells (λ p. has_pair p (walked w n init)) (λ p. has_pair p (walked w (n + 1) init)) c.args.turn_of.now.items c.loop-place.tree c.refresh.new.self q.0 q.1 i.holds lu here others
          (walked_left w init n q at rest c.distinct.ensures) made;
      stands = λ all b u has.
          let x = walked_apart w init n q (b, u) at rest c.distinct.ensures has in
          stands_on v.cluster v.cells c.args.table.now.entries b u c.loop-place.tree c.refresh.new.self (ap (λ (y : TreeRecord). y.racks) made)
          (left_others v.cluster v.cells (λ p. has_pair p (walked w n init)) (λ p. has_pair p (walked w (n + 1) init)) c.args.turn_of.now.items c.loop-place.tree c.refresh.new.self q.0 q.1 i.holds lu here others made b u (i.holds.few b u x.0) x.1) (i.stands all b u x.0);
    }

pub loop-place-preserved : goal.loop-place-preserved
loop-place-preserved c =
    let init = c.args.line.now.pairs in
    let n = c.loop-place.place in
    let q : Pair = (c.at.result.0.0, c.at.result.1.0) in
    let at = same_next c.loop-place.line.pairs init n q c.loop-place.invariant.back c.at.ensures in
    let w : Pair → Bool = λ p. nat_lt 0 (out_of (asks_in c.args.wishes.now.cells) c.args.table.now.entries p.0 p.1) in
    let v = c.args.wishes.now in
    let line = c.loop-place.line.pairs in
    let k = c.loop-place.kept in
    let some : w q ≡ true = let e = c.outstanding.ensures in let z = c.if-outstanding-eq0.false in grind (arith, nat_tests, e, z) in
    let i = c.loop-place.invariant in
    let kept = i.kept in
    let same = sym (walked_stays w init n q at some) in
    record {
      kept = omega (arith, kept);
      long = ap length c.swap.ensures.pairs ∙ length-swap line n k ∙ i.long;
      front = ap (take (k + 1)) c.swap.ensures.pairs ∙ front_swapped line n k q kept c.at.ensures ∙ ap (λ l. l ++ q ∷ []) i.front ∙ sym (stays_next w init n q at some);
      back = ap (drop (n + 1)) c.swap.ensures.pairs ∙ back_swapped line n k q kept c.at.ensures ∙ back_next line init n i.back;
      units = λ p. c.swap.ensures.units p ∙ i.units p;
      holds = subst (λ (l : List Pair). HoldsLine v.cluster v.cells l c.args.turn_of.now.items c.loop-place.tree) same i.holds;
      stands = λ all. subst (λ (l : List Pair). AllStand v.cluster v.cells c.args.table.now.entries l c.loop-place.tree) same (i.stands all);
    }

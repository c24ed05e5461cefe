use Rattle.std.proofs.Common.{◌≡◌, ◌<◌, List, length, swap, take, sym, subst, ap, ◌∙◌, arith, length-take-le}
use Rattle.fuxi_terms.specs.Keys.{Pair}
use Rattle.indexmap.proofs.IndexTableLemmas.Indexes.{swap_self}
use Rattle.spec_roles.specs.Placing.{has_pair}
use Rattle.place_pass.specs.WaitingLines.{AreFlags, LineRecord}
use Rattle.place_pass.proofs.FirstKeysWait.{first_swapped, has_swapped, line_turned}
use Rattle.place_pass.proofs.FlagsTellWhoWaits.{flags_same}
use Rattle.place_pass.proofs.line.Line.swap.Goals as goal
use Rattle.place_pass.proofs.line.Line.swap.Goals.{After-swap_indices}

pub returns-then-place-other-clause-pairs : goal.returns-then-place-other-clause-pairs
returns-then-place-other-clause-pairs c = sym (ap (swap c.args.self.now.pairs c.args.place) (sym c.if-place-other.true) ∙ swap_self c.args.self.now.pairs c.args.place)

-- the line after the two changed places
swapped : (c : After-swap_indices) → (c.args.place < c.self.inside.len) × ((c.args.other < c.self.inside.len) × (take c.self.inside.len c.swap_indices.new.self.keys ≡ swap (take c.self.inside.len c.self.inside.units.keys) c.args.place c.args.other))
swapped c =
    let keys = c.self.inside.units.keys in
    let len = c.self.inside.len in
    let w = c.self.invariant.within in
    let long = length-take-le len keys w in
    let a = subst (λ (l : LineRecord). c.args.place < length l.pairs) (sym c.self.view_is) c.requires.place in
    let b = subst (λ (l : LineRecord). c.args.other < length l.pairs) (sym c.self.view_is) c.requires.other in
    let la : c.args.place < len = omega (arith, a, long) in
    let lb : c.args.other < len = omega (arith, b, long) in
    (la, (lb, ap (take len) c.swap_indices.ensures.keys ∙ first_swapped keys len c.args.place c.args.other (0, 0) la lb w))

pub invariant_of-self : goal.invariant_of-self
invariant_of-self c =
    let keys = c.self.inside.units.keys in
    let len = c.self.inside.len in
    let w = c.self.invariant.within in
    let long = length-take-le len keys w in
    let now = swapped c in
    let la = now.0 in
    let lb = now.1.0 in
    line_turned keys c.swap_indices.new.self.keys len len c.self.inside.waits.items c.self.inside.waits.items c.self.invariant c.swap_indices.ensures.reordered.1 c.swap_indices.ensures.reordered.2 w
    (subst (λ (l : List Pair). AreFlags l c.self.inside.waits.items) (sym now.1.1)
    (flags_same (take len keys) (swap (take len keys) c.args.place c.args.other) c.self.inside.waits.items (λ p. has_swapped (take len keys) c.args.place c.args.other p (omega (arith, la, long)) (omega (arith, lb, long))) c.self.invariant.flags))

pub returns-clause-pairs : goal.returns-clause-pairs
returns-clause-pairs c = (swapped c).1.1 ∙ ap (λ (l : LineRecord). swap l.pairs c.args.place c.args.other) c.self.view_is

pub returns-clause-units : goal.returns-clause-units
returns-clause-units c p = c.swap_indices.ensures.reordered.2 p ∙ ap (λ (l : LineRecord). has_pair p l.units) c.self.view_is

use Rattle.std.proofs.Common.{◌≡◌, ◌-◌, ◌<◌, false, not, length, filter, set, take, Some, slice_get, sym, ◌∙◌, ap, subst, arith, length-take-le}
use Rattle.fuxi_terms.specs.Keys.{Pair}
use Rattle.spec_roles.specs.Placing.{has_pair}
use Rattle.place_pass.specs.WaitingLines.{AreFlags, LineRecord, same_pair}
use Rattle.place_pass.proofs.FirstKeysWait.{left_at, line_turned, may_be}
use Rattle.place_pass.proofs.FlagsTellWhoWaits.{flags_left}
use Rattle.place_pass.proofs.line.Line.remove.Goals as goal

pub slot-requires-clause-app : goal.slot-requires-clause-app
slot-requires-clause-app c =
    let q : Pair = (c.at.result.0.0, c.at.result.1.0) in
    let at = subst (λ (l : LineRecord). slice_get l.pairs c.args.place ≡ Some q) (sym c.self.view_is) c.at.ensures in
    (may_be c.self.inside.units.keys c.self.inside.len c.self.inside.waits.items c.self.invariant c.args.place q at).0

pub slot-requires-clause-unit : goal.slot-requires-clause-unit
slot-requires-clause-unit c =
    let q : Pair = (c.at.result.0.0, c.at.result.1.0) in
    let at = subst (λ (l : LineRecord). slice_get l.pairs c.args.place ≡ Some q) (sym c.self.view_is) c.at.ensures in
    (may_be c.self.inside.units.keys c.self.inside.len c.self.inside.waits.items c.self.invariant c.args.place q at).1

pub index_mut-requires : goal.index_mut-requires
index_mut-requires c =
    let q : Pair = (c.at.result.0.0, c.at.result.1.0) in
    let at = subst (λ (l : LineRecord). slice_get l.pairs c.args.place ≡ Some q) (sym c.self.view_is) c.at.ensures in
    let there = may_be c.self.inside.units.keys c.self.inside.len c.self.inside.waits.items c.self.invariant c.args.place q at in
    let la = there.0 in
    let lu = there.1 in
    let s = c.slot.ensures in
    let places = c.self.invariant.flags.places in
    omega (arith, la, lu, s, places)

-- the line after the pair at the place left
left : (c : goal.After-self-2-1) (p : Pair) → slice_get (take c.self.inside.len c.self.inside.units.keys) c.args.place ≡ Some p → take (c.self.inside.len - 1) c.move_index.new.self.keys ≡ filter (λ q. not (same_pair q p)) (take c.self.inside.len c.self.inside.units.keys)
left c p at =
    let keys = c.self.inside.units.keys in
    let len = c.self.inside.len in
    let w = c.self.invariant.within in
    let there = subst (λ (l : LineRecord). c.args.place < length l.pairs) (sym c.self.view_is) c.requires in
    let lt : c.args.place < len = omega (arith, there, length-take-le len keys w) in
    ap (take (len - 1)) c.move_index.ensures.keys ∙ left_at keys len c.args.place (len - 1) p (omega (arith, lt)) at lt w c.len-units.ensures.unique

pub invariant_of-self : goal.invariant_of-self
invariant_of-self c =
    let keys = c.self.inside.units.keys in
    let len = c.self.inside.len in
    let waits = c.self.inside.waits.items in
    let q : Pair = (c.at.result.0.0, c.at.result.1.0) in
    let at = subst (λ (l : LineRecord). slice_get l.pairs c.args.place ≡ Some q) (sym c.self.view_is) c.at.ensures in
    let w = c.self.invariant.within in
    let there = may_be c.self.inside.units.keys c.self.inside.len c.self.inside.waits.items c.self.invariant c.args.place q at in
    line_turned keys c.move_index.new.self.keys len (len - 1) waits (set waits c.slot.result false) c.self.invariant c.move_index.ensures.reordered.1 c.move_index.ensures.reordered.2 (omega (arith, w))
    (subst (λ i. AreFlags (take (len - 1) c.move_index.new.self.keys) (set waits i false)) (sym c.slot.ensures)
    (flags_left (take len keys) (take (len - 1) c.move_index.new.self.keys) waits q.0 q.1 c.self.invariant.flags there.0 there.1 (left c q at)))

pub returns-clause-pairs : goal.returns-clause-pairs
returns-clause-pairs c p e = left c p (subst (λ (l : LineRecord). slice_get l.pairs c.args.place ≡ Some p) (sym c.self.view_is) e) ∙ ap (λ (l : LineRecord). filter (λ q. not (same_pair q p)) l.pairs) c.self.view_is

pub returns-clause-units : goal.returns-clause-units
returns-clause-units c p = c.move_index.ensures.reordered.2 p ∙ ap (λ (l : LineRecord). has_pair p l.units) c.self.view_is

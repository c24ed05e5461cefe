use Rattle.std.proofs.Common.{◌≡◌, ◌-◌, ◌<◌, false, length, set, take, Some, slice_get, refl, sym, ◌∙◌, ap, subst, arith, length-take-le}
use Rattle.std.proofs.lemmas.List.{take-take}
use Rattle.fuxi_terms.specs.Keys.{Pair}
use Rattle.spec_roles.specs.Placing.{has_pair}
use Rattle.place_pass.specs.WaitingLines.{AreFlags, LineRecord}
use Rattle.place_pass.proofs.FirstKeysWait.{last_left, line_turned, may_be}
use Rattle.place_pass.proofs.FlagsTellWhoWaits.{flags_left}
use Rattle.place_pass.proofs.line.Line.pop.Goals as goal

pub slot-requires-clause-app : goal.slot-requires-clause-app
slot-requires-clause-app c =
    let q : Pair = (c.at.result.0.0, c.at.result.1.0) in
    let at = subst (λ (l : LineRecord). slice_get l.pairs (c.self.inside.len - 1) ≡ Some q) (sym c.self.view_is) c.at.ensures in
    (may_be c.self.inside.units.keys c.self.inside.len c.self.inside.waits.items c.self.invariant (c.self.inside.len - 1) q at).0

pub slot-requires-clause-unit : goal.slot-requires-clause-unit
slot-requires-clause-unit c =
    let q : Pair = (c.at.result.0.0, c.at.result.1.0) in
    let at = subst (λ (l : LineRecord). slice_get l.pairs (c.self.inside.len - 1) ≡ Some q) (sym c.self.view_is) c.at.ensures in
    (may_be c.self.inside.units.keys c.self.inside.len c.self.inside.waits.items c.self.invariant (c.self.inside.len - 1) q at).1

pub index_mut-requires : goal.index_mut-requires
index_mut-requires c =
    let q : Pair = (c.at.result.0.0, c.at.result.1.0) in
    let at = subst (λ (l : LineRecord). slice_get l.pairs (c.self.inside.len - 1) ≡ Some q) (sym c.self.view_is) c.at.ensures in
    let there = may_be c.self.inside.units.keys c.self.inside.len c.self.inside.waits.items c.self.invariant (c.self.inside.len - 1) q at in
    let la = there.0 in
    let lu = there.1 in
    let s = c.slot.ensures in
    let places = c.self.invariant.flags.places in
    omega (arith, la, lu, s, places)

pub invariant_of-self : goal.invariant_of-self
invariant_of-self c =
    let keys = c.self.inside.units.keys in
    let len = c.self.inside.len in
    let waits = c.self.inside.waits.items in
    let q : Pair = (c.at.result.0.0, c.at.result.1.0) in
    let at = subst (λ (l : LineRecord). slice_get l.pairs (len - 1) ≡ Some q) (sym c.self.view_is) c.at.ensures in
    let w = c.self.invariant.within in
    let long = length-take-le len keys w in
    let some = subst (λ (l : LineRecord). 0 < length l.pairs) (sym c.self.view_is) c.requires in
    let there = may_be keys len waits c.self.invariant (len - 1) q at in
    line_turned keys keys len (len - 1) waits (set waits c.slot.result false) c.self.invariant refl (λ p. refl) (omega (arith, w))
    (subst (λ i. AreFlags (take (len - 1) keys) (set waits i false)) (sym c.slot.ensures)
    (flags_left (take len keys) (take (len - 1) keys) waits q.0 q.1 c.self.invariant.flags there.0 there.1 (last_left keys len (len - 1) q (omega (arith, long, some)) at w c.len-units.ensures.unique)))

pub returns-clause-pairs : goal.returns-clause-pairs
returns-clause-pairs c =
    let keys = c.self.inside.units.keys in
    let len = c.self.inside.len in
    let w = c.self.invariant.within in
    let long = length-take-le len keys w in
    sym (take-take (len - 1) len keys (omega arith)) ∙ ap (λ k. take (k - 1) (take len keys)) (sym long) ∙ ap (λ (l : LineRecord). take (length l.pairs - 1) l.pairs) c.self.view_is

pub returns-clause-units : goal.returns-clause-units
returns-clause-units c p = ap (λ (l : LineRecord). has_pair p l.units) c.self.view_is

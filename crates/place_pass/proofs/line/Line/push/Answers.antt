use Rattle.std.proofs.Common.{◌≡◌, ◌+◌, ◌≤◌, ◌++◌, ◌∷◌, [], List, true, false, nat_lt, set, take, sym, subst, ap, ◌∙◌, arith}
use Rattle.std.proofs.lemmas.Bool.Decides.{nat_tests}
use Rattle.fuxi_terms.specs.Keys.{Pair}
use Rattle.spec_roles.specs.Placing.{has_pair}
use Rattle.place_pass.specs.WaitingLines.{AreFlags, LineRecord, same_pair}
use Rattle.place_pass.proofs.FirstKeysWait.{is_first, found_pair, joined, line_turned}
use Rattle.place_pass.proofs.FlagsTellWhoWaits.{flags_joined}
use Rattle.place_pass.proofs.line.Line.push.Goals as goal

-- the unit stands behind the line, and goes last in it
joined_now : (c : goal.After-self-in-Some-1) → (c.self.inside.len ≤ c.in-Some.place) × (take (c.self.inside.len + 1) c.swap_indices.new.self.keys ≡ take c.self.inside.len c.self.inside.units.keys ++ (c.args.app, c.args.unit) ∷ [])
joined_now c =
    let p : Pair = (c.args.app, c.args.unit) in
    let keys = c.self.inside.units.keys in
    let len = c.self.inside.len in
    let found = found_pair p keys c.in-Some.place (sym c.in-Some.ensures.index) in
    let no : nat_lt c.in-Some.place len ≡ false = is_first (same_pair p) keys c.in-Some.place len (sym c.in-Some.ensures.index) ∙ ap (λ (l : LineRecord). has_pair p l.pairs) c.self.view_is ∙ c.requires.new in
    let le : len ≤ c.in-Some.place = grind (arith, nat_tests, no) in
    (le, ap (take (len + 1)) c.swap_indices.ensures.keys ∙ joined keys c.in-Some.place len p le found.0 ∙ ap (λ (q : Pair). take len keys ++ q ∷ []) found.1)

pub invariant_of-self : goal.invariant_of-self
invariant_of-self c =
    let p : Pair = (c.args.app, c.args.unit) in
    let keys = c.self.inside.units.keys in
    let len = c.self.inside.len in
    let waits = c.self.inside.waits.items in
    let now = joined_now c in
    let le = now.0 in
    let lt = (found_pair p keys c.in-Some.place (sym c.in-Some.ensures.index)).0 in
    let admitted = subst (λ (l : LineRecord). has_pair p l.units ≡ true) (sym c.self.view_is) c.requires.admitted in
    let small = c.self.invariant.there p.0 p.1 admitted in
    line_turned keys c.swap_indices.new.self.keys len (len + 1) waits (set waits c.slot.result true) c.self.invariant c.swap_indices.ensures.reordered.1 c.swap_indices.ensures.reordered.2 (omega (arith, le, lt))
    (subst (λ (l : List Pair). AreFlags l (set waits c.slot.result true)) (sym now.1)
    (subst (λ i. AreFlags (take len keys ++ p ∷ []) (set waits i true)) (sym c.slot.ensures) (flags_joined (take len keys) waits p.0 p.1 c.self.invariant.flags small.0 small.1)))

pub returns-clause-pairs : goal.returns-clause-pairs
returns-clause-pairs c = (joined_now c).1 ∙ ap (λ (l : LineRecord). l.pairs ++ (c.args.app, c.args.unit) ∷ []) c.self.view_is

pub returns-clause-units : goal.returns-clause-units
returns-clause-units c p = c.swap_indices.ensures.reordered.2 p ∙ ap (λ (l : LineRecord). has_pair p l.units) c.self.view_is

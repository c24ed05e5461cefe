use Rattle.std.proofs.Common.{◌≡◌, ◌<◌, true, false, nat_lt, [], length, get_or, sym, ◌∙◌, subst, arith, inl, inr}
use Rattle.std.proofs.lemmas.Bool.{cases_lt}
use Rattle.std.proofs.lemmas.Bool.Decides.{nat_tests}
use Rattle.fuxi_terms.specs.Counts.{count}
use Rattle.fuxi_terms.specs.Keys.{key_cmp}
use Rattle.fuxi_terms.specs.TallyKeys.{avoid_key}
use Rattle.place_pass.specs.Cells.{cell_at}
use Rattle.place_pass.proofs.AskedTheSame.{still_same}
use Rattle.place_pass.proofs.demand.wishes.Wishes.lifts.Goals as goal

pub loop-number-preserved-then-not-may_differ : goal.loop-number-preserved-then-not-may_differ
loop-number-preserved-then-not-may_differ c u lt some =
    let there : c.loop-number.number < length (get_or c.args.self.now.cells c.args.app.0 []) = let t = c.loop-number-test.true in let e = c.units-number-end.ensures.number in omega (arith, t, e) in
    elim (cases_lt u c.loop-number.number) [
      | inl l ↦ c.loop-number.invariant u l some
      | inr ge ↦
          let same : c.loop-number.number ≡ u = omega (arith, lt, ge) in
          let cells = c.args.self.now.cells in
          let a = c.args.app.0 in
          let alike = sym c.may_differ.ensures ∙ c.if-not-may_differ.true in
          let was = subst (λ n. 0 < get_or (cell_at cells a n).avoided c.args.machine.0 0) (sym same) some in
          subst (λ n. 0 < count key_cmp c.args.demand.now.entries (avoid_key n c.args.machine.0)) same
          (still_same c.args.self.now.cluster c.args.demand.now.entries c.loop-number.number c.args.machine.0 (cell_at cells a c.loop-number.number) c.requires.machine (c.requires.same c.loop-number.number there alike) was)
    ]

pub loop-number-preserved-then-not-avoids : goal.loop-number-preserved-then-not-avoids
loop-number-preserved-then-not-avoids c u lt some = elim (cases_lt u c.loop-number.number) [
  | inl l ↦ c.loop-number.invariant u l some
  | inr ge ↦
      let same : c.loop-number.number ≡ u = omega (arith, lt, ge) in
      let none : nat_lt 0 (get_or (cell_at c.args.self.now.cells c.args.app.0 c.loop-number.number).avoided c.args.machine.0 0) ≡ false = sym c.avoids.ensures ∙ c.if-not-avoids.true in
      let was = subst (λ n. 0 < get_or (cell_at c.args.self.now.cells c.args.app.0 n).avoided c.args.machine.0 0) (sym same) some in
      absurd (grind (arith, nat_tests, none, was))
]

pub loop-number-preserved : goal.loop-number-preserved
loop-number-preserved c u lt some = elim (cases_lt u c.loop-number.number) [
  | inl l ↦ c.loop-number.invariant u l some
  | inr ge ↦
      let e = c.number_at.ensures in
      let z = c.if-number_at-eq0.false in
      let same : c.loop-number.number ≡ u = omega (arith, lt, ge) in
      let more : 0 < count key_cmp c.args.demand.now.entries (avoid_key c.loop-number.number c.args.machine.0) = omega (arith, e, z) in
      subst (λ n. 0 < count key_cmp c.args.demand.now.entries (avoid_key n c.args.machine.0)) same more
]

pub returns-then-number_at-eq0-clause-some : goal.returns-then-number_at-eq0-clause-some
returns-then-number_at-eq0-clause-some c e =
    let there : c.loop-number.number < length (get_or c.args.self.now.cells c.args.app.0 []) = let t = c.loop-number-test.true in let e = c.units-number-end.ensures.number in omega (arith, t, e) in
    let some : nat_lt 0 (get_or (cell_at c.args.self.now.cells c.args.app.0 c.loop-number.number).avoided c.args.machine.0 0) ≡ true = sym c.avoids.ensures ∙ c.if-not-avoids.false in
    let was : 0 < get_or (cell_at c.args.self.now.cells c.args.app.0 c.loop-number.number).avoided c.args.machine.0 0 = grind (arith, nat_tests, some) in
    record { unit = c.loop-number.number; there = there; was = was; gone = sym c.number_at.ensures ∙ c.if-number_at-eq0.true }

pub returns-clause-none : goal.returns-clause-none
returns-clause-none c e u lt some = let t = c.loop-number-test.false in let units = c.units-number-end.ensures.number in c.loop-number.invariant u (omega (arith, lt, t, units)) some

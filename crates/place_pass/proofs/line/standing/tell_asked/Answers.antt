use Rattle.std.proofs.Common.{◌≡◌, ◌<◌, true, false, nat_eq, length, get_or, [], refl, sym, ◌∙◌, ap, subst, arith, inl, inr, rules}
use Rattle.std.specs.Prelude.{◌&&◌}
use Rattle.std.proofs.lemmas.Bool.{cases_eq}
use Rattle.std.proofs.lemmas.Bool.Decides.{nat_tests}
use Rattle.std.proofs.lemmas.List.{get_or_read}
use Rattle.fuxi_terms.specs.Jobs.{unit_count}
use Rattle.fuxi_terms.proofs.Booleans.{false_right, number_is}
use Rattle.fuxi_terms.proofs.Lists.{all_at}
use Rattle.fuxi_terms.specs.Keys.{Pair}
use Rattle.grant_table.specs.GrantTables.{as_known}
use Rattle.wait_queue.specs.declared.node.Entry.{Entry}
use Rattle.locality_tree.specs.Trees.{unit_number}
use Rattle.spec_roles.specs.Placing.{has_pair}
use Rattle.place_pass.specs.PlacerTrees.{StandsAs, WaitsIn, Restood}
use Rattle.place_pass.proofs.CandidatesLemmas.{place_of}
use Rattle.place_pass.proofs.PlacerTreesLemmas.{holds_on, numbers_apart, stands_on, waits_in}
use Rattle.place_pass.proofs.line.standing.tell_asked.Goals as goal

pub loop-number-init : goal.loop-number-init
loop-number-init c = record { holds = c.requires.holds; others = λ a u lu d. refl; left = λ u lu ge. refl; done = λ u lt has own. absurd (omega (arith, lt)) }

pub entry_for-entry-requires-clause-unit : goal.entry_for-entry-requires-clause-unit
entry_for-entry-requires-clause-unit c = let t = c.loop-number-test.true in let e = c.units-number-end.ensures.number in omega (arith, t, e)

pub loop-number-preserved-then-not-has : goal.loop-number-preserved-then-not-has
loop-number-preserved-then-not-has c =
    let out : has_pair (c.args.app.0, c.loop-number.number) c.args.line.now.pairs ≡ false = sym c.has.ensures ∙ c.if-not-has.true in
    record {
      holds = c.loop-number.invariant.holds;
      others = c.loop-number.invariant.others;
      left = λ u lu ge. c.loop-number.invariant.left u lu (omega (arith, ge));
      done = λ u lt has own. elim (cases_eq u c.loop-number.number) [
        | inl q ↦ let f : true ≡ false = sym has ∙ ap (λ v. has_pair (c.args.app.0, v) c.args.line.now.pairs) q ∙ out in cc
        | inr d ↦ c.loop-number.invariant.done u (omega (arith, lt, d)) has own
      ];
    }

-- the demand asks the same of it, and nothing was changed of it yet
pub loop-number-preserved-then-not-differing-number : goal.loop-number-preserved-then-not-differing-number
loop-number-preserved-then-not-differing-number c =
    let w = c.args.wishes.now in
    let es = c.args.table.now.entries in
    let app = c.args.app.0 in
    let n = c.loop-number.number in
    let i = c.loop-number.invariant in
    let t = c.loop-number-test.true in
    let e = c.units-number-end.ensures.number in
    let few = c.units-number-end.ensures.few in
    let eight : length c.args.differing.now ≡ 8 = search rules in
    let same : get_or c.args.differing.now n true ≡ false = sym (get_or_read c.args.differing.now n false (omega (arith, t, few, eight)) (sym c.if-not-differing-number.true) true) in
    record {
      holds = i.holds;
      others = i.others;
      left = λ u lu ge. i.left u lu (omega (arith, ge));
      done = λ u lt has own. elim (cases_eq u n) as (λ _. StandsAs w.cluster w.cells es app u c.loop-number.tree) [
        | inl q ↦ stands_on w.cluster w.cells es app u c.args.tree.now c.loop-number.tree (i.holds.racks ∙ sym c.requires.holds.racks) (i.left u (i.holds.few app u has) (omega (arith, q))) (own (subst (λ v. get_or c.args.differing.now v true ≡ false) (sym q) same))
        | inr d ↦ i.done u (omega (arith, lt, d)) has own
      ];
    }

pub mark_unit-requires-clause-here : goal.mark_unit-requires-clause-here
mark_unit-requires-clause-here c =
    let t = c.loop-number-test.true in let e = c.units-number-end.ensures.number in
    let here : c.loop-number.number < length (get_or c.args.wishes.now.cells c.args.app.0 []) = omega (arith, t, e) in
    subst (λ (e : Entry). e.unit.0 < length (get_or c.args.wishes.now.cells e.app.0 [])) (sym c.entry_for-entry.ensures) here

pub mark_unit-requires-clause-there : goal.mark_unit-requires-clause-there
mark_unit-requires-clause-there c =
    let e = c.units.ensures.number in let lt = c.if-number-units.false in
    let there : c.loop-number.number < unit_count (as_known c.args.table.now.jobs) c.args.app.0 = omega (arith, e, lt) in
    subst (λ (e : Entry). e.unit.0 < unit_count (as_known c.args.table.now.jobs) e.app.0) (sym c.entry_for-entry.ensures) there

pub mark_unit-requires-clause-waits : goal.mark_unit-requires-clause-waits
mark_unit-requires-clause-waits c =
    let w = c.args.wishes.now in
    let t = c.loop-number-test.true in let e = c.units-number-end.ensures.number in
    let here : c.loop-number.number < length (get_or c.args.wishes.now.cells c.args.app.0 []) = omega (arith, t, e) in
    subst (λ (e : Entry). WaitsIn w.cluster e c.loop-number.tree) (sym c.entry_for-entry.ensures)
    (waits_in w.cluster w.cells (λ p. has_pair p c.args.line.now.pairs) c.args.turn_of.now.items c.loop-number.tree c.args.app.0 c.loop-number.number c.loop-number.invariant.holds (sym c.has.ensures ∙ c.if-not-has.false) here)

pub loop-number-preserved : goal.loop-number-preserved
loop-number-preserved c =
    let w = c.args.wishes.now in
    let line = c.args.line.now.pairs in
    let es = c.args.table.now.entries in
    let app = c.args.app.0 in
    let n = c.loop-number.number in
    let i = c.loop-number.invariant in
    let t = c.loop-number.tree in
    let t' = c.mark_unit.new.tree in
    let there : has_pair (app, n) line ≡ true = sym c.has.ensures ∙ c.if-not-has.false in
    let low = i.holds.few app n there in
    let r = subst (λ (e : Entry). Restood (unit_number e.app.0 e.unit.0) t t') c.entry_for-entry.ensures c.mark_unit.ensures.restood in
    let stands = subst (λ (e : Entry). StandsAs w.cluster w.cells es e.app.0 e.unit.0 t') c.entry_for-entry.ensures c.mark_unit.ensures.stands in
    record {
      holds = holds_on w.cluster w.cells (λ p. has_pair p line) c.args.turn_of.now.items t t' app n i.holds there r;
      others = λ a u lu f. r.others (unit_number a u) (numbers_apart app n a u low lu (ap (λ b. b && nat_eq u n) f)) ∙ i.others a u lu f;
      left = λ u lu ge. r.others (unit_number app u) (numbers_apart app n app u low lu (false_right (nat_eq app app) (nat_eq u n) (grind (arith, nat_tests, ge)))) ∙ i.left u lu (omega (arith, ge));
      done = λ u lt has own. elim (cases_eq u n) as (λ _. StandsAs w.cluster w.cells es app u t') [
        | inl q ↦ subst (λ v. StandsAs w.cluster w.cells es app v t') (sym q) stands
        | inr d ↦
            let apart : nat_eq u n ≡ false = grind (arith, nat_tests, d) in
            stands_on w.cluster w.cells es app u t t' r.racks (r.others (unit_number app u) (numbers_apart app n app u low (i.holds.few app u has) (false_right (nat_eq app app) (nat_eq u n) apart))) (i.done u (omega (arith, lt, d)) has own)
      ];
    }

pub returns-clause-stands : goal.returns-clause-stands
returns-clause-stands c same before own a u has =
    let w = c.args.wishes.now in
    let line = c.args.line.now.pairs in
    let es = c.args.table.now.entries in
    let i = c.loop-number.invariant in
    let t = c.args.tree.now in
    let t' = c.loop-number.tree in
    elim (nat_eq a c.args.app.0) as (λ x. nat_eq a c.args.app.0 ≡ x → StandsAs w.cluster w.cells es a u t') [
      | true ↦ λ x.
          let is = number_is a c.args.app.0 x in
          let place = place_of (a, u) line has in
          let l = all_at (λ (p : Pair). p.1 < length (get_or w.cells p.0 [])) line place.place (a, u) c.requires.admitted place.at in
          let lt = subst (λ b. u < length (get_or w.cells b [])) is l in
          let there = subst (λ b. has_pair (b, u) line ≡ true) is has in
          let end = c.loop-number-test.false in let n = c.units-number-end.ensures.number in
          subst (λ b. StandsAs w.cluster w.cells es b u t') (sym is) (i.done u (omega (arith, lt, end, n)) there (own u there))
      | false ↦ λ x. stands_on w.cluster w.cells es a u t t' (i.holds.racks ∙ sym c.requires.holds.racks) (i.others a u (i.holds.few a u has) x) (before a u has x)
    ] refl

pub returns-then-number-units-clause-stands : goal.returns-then-number-units-clause-stands
returns-then-number-units-clause-stands c same before own a u has =
    let e = c.units.ensures.number in let ge = c.if-number-units.true in
    let t = c.loop-number-test.true in let n = c.units-number-end.ensures.number in
    absurd (omega (arith, same, e, ge, t, n))

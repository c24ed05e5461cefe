use Rattle.std.proofs.Common.{◌≡◌, ◌+◌, ◌*◌, ◌<◌, ◌≤◌, ℕ, List, false, length, get_or, [], sym, subst, ap, ◌∙◌, inl, inr, arith}
use Rattle.std.specs.Prelude.{IsTrue}
use Rattle.fuxi_terms.specs.Cluster.{JobRecord, is_valid_job}
use Rattle.locality_tree.specs.declared.layout.Layout.{Layout}
use Rattle.locality_tree.specs.Trees.{TreeRecord, all_units, is_admitted, with_idle, with_job, place_count}
use Rattle.locality_tree.specs.Layouts.{slots_of, states_in, tree_record, IsTree, Admits}
use Rattle.locality_tree.proofs.ClusterLemmas.{small_job}
use Rattle.locality_tree.proofs.VacantLemmas.{units_are}
use Rattle.locality_tree.proofs.TreesLemmas.{not_admitted, tree_admitted, admitted_view, ok_or_err, on_err, on_ok}
use Rattle.locality_tree.proofs.tree.Tree.admit.Goals as goal

-- there is a number for each unit, and none has places yet
inside : (j : JobRecord) → IsTrue (is_valid_job 8 j) → (a units : ℕ) → a ≡ j.number → units ≡ length j.units → 8 * a + units ≤ all_units
inside j valid a units number count =
    let job = small_job j valid in
    let all = units_are in
    omega (arith, job.0, job.1, number, count, all)

new : (racks : List ℕ) (l : Layout) (j : JobRecord) → IsTrue (is_valid_job 8 j) → (a units : ℕ) → a ≡ j.number → units ≡ length j.units → ((u : ℕ) → u < 8 → is_admitted (tree_record racks l) j.number u ≡ false) → (k : ℕ) → k < units → length (get_or (slots_of l) (8 * a + k) []) ≡ 0
new racks l j valid a units number count none k h =
    let job = small_job j valid in
    let few : k < 8 = omega (arith, job.1, count, h) in
    subst (λ (n : ℕ). length (get_or (slots_of l) (8 * n + k) []) ≡ 0) (sym number) (not_admitted racks l j.number k (none k few))

pub admit-requires-clause-inside : goal.admit-requires-clause-inside
admit-requires-clause-inside c = inside c.args.job.now c.app.ensures.valid c.app.result.0 c.units.result c.app.ensures.number c.units.ensures.number

pub admit-requires-clause-all : goal.admit-requires-clause-all
admit-requires-clause-all c = c.self.invariant.unit_count

pub admit-requires-clause-new : goal.admit-requires-clause-new
admit-requires-clause-new c =
    new c.self.inside.racks.items c.self.inside.layout c.args.job.now c.app.ensures.valid c.app.result.0 c.units.result c.app.ensures.number c.units.ensures.number
    (λ u h. subst (λ (t : TreeRecord). is_admitted t c.args.job.now.number u ≡ false) (sym c.self.view_is) (c.requires u h))

pub invariant_of-self : goal.invariant_of-self
invariant_of-self c =
    let racks = c.self.inside.racks.items in
    let l = c.self.inside.layout in
    let j = c.args.job.now in
    let first = 8 * c.app.result.0 in
    let none : (u : ℕ) → u < 8 → is_admitted (tree_record racks l) j.number u ≡ false = λ u h. subst (λ (t : TreeRecord). is_admitted t j.number u ≡ false) (sym c.self.view_is) (c.requires u h) in
    let all = c.self.invariant.unit_count in
    let fits = inside j c.app.ensures.valid c.app.result.0 c.units.result c.app.ensures.number c.units.ensures.number in
    elim (ok_or_err c.admit.result (Admits l c.admit.new.self first c.units.result) (Admits l c.admit.new.self first 0) c.admit.ensures.ok c.admit.ensures.err) as (λ _. IsTree racks c.admit.new.self) [
      | inl a ↦ tree_admitted racks l c.admit.new.self first c.units.result c.self.invariant a (omega (arith, fits, all)) (new racks l j c.app.ensures.valid c.app.result.0 c.units.result c.app.ensures.number c.units.ensures.number none)
      | inr a ↦ tree_admitted racks l c.admit.new.self first 0 c.self.invariant a (omega (arith, fits, all)) (λ k h. absurd (omega arith))
    ]

pub returns-clause-err : goal.returns-clause-err
returns-clause-err c =
    let racks = c.self.inside.racks.items in
    let l = c.self.inside.layout in
    let first = 8 * c.app.result.0 in
    let all = c.self.invariant.unit_count in
    let fits = inside c.args.job.now c.app.ensures.valid c.app.result.0 c.units.result c.app.ensures.number c.units.ensures.number in
    on_err c.admit.result (Admits l c.admit.new.self first 0) (tree_record racks c.admit.new.self ≡ c.args.self.now)
    (λ a. admitted_view racks l c.admit.new.self first 0 c.self.invariant a (omega (arith, fits, all)) (λ k h. absurd (omega arith)) ∙ c.self.view_is) c.admit.ensures.err

pub returns-clause-ok : goal.returns-clause-ok
returns-clause-ok c =
    let racks = c.self.inside.racks.items in
    let l = c.self.inside.layout in
    let j = c.args.job.now in
    let none : (u : ℕ) → u < 8 → is_admitted (tree_record racks l) j.number u ≡ false = λ u h. subst (λ (t : TreeRecord). is_admitted t j.number u ≡ false) (sym c.self.view_is) (c.requires u h) in
    let all = c.self.invariant.unit_count in
    let fits = inside j c.app.ensures.valid c.app.result.0 c.units.result c.app.ensures.number c.units.ensures.number in
    on_ok c.admit.result (Admits l c.admit.new.self (8 * c.app.result.0) c.units.result) (tree_record racks c.admit.new.self ≡ with_job c.args.self.now j)
    (λ a. admitted_view racks l c.admit.new.self (8 * c.app.result.0) c.units.result c.self.invariant a (omega (arith, fits, all)) (new racks l j c.app.ensures.valid c.app.result.0 c.units.result c.app.ensures.number c.units.ensures.number none)
    ∙ ap (λ (n : ℕ). with_first racks l n c.units.result) c.app.ensures.number ∙ ap (with_first racks l j.number) c.units.ensures.number
    ∙ ap (λ (t : TreeRecord). with_job t j) c.self.view_is) c.admit.ensures.ok
  where
    with_first : (racks : List ℕ) (l : Layout) → ℕ → ℕ → TreeRecord
    with_first racks l a units = record (tree_record racks l) { units = with_idle (states_in racks l) (8 * a) (place_count racks) units }

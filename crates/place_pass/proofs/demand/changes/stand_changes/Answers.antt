use Rattle.std.proofs.Common.{◌≡◌, true, false, nat_eq, get_or, refl, sym, ◌∙◌, ap, subst, arith, inl, inr}
use Rattle.std.specs.Prelude.{◌&&◌, ◌||◌}
use Rattle.std.specs.Ordering.{eq_by_cmp}
use Rattle.std.proofs.lemmas.Bool.{cases_eq}
use Rattle.std.proofs.lemmas.Bool.Decides.{nat_tests}
use Rattle.std.proofs.lemmas.List.{take_all}
use Rattle.std.proofs.lemmas.Option.{slice_get-get_or}
use Rattle.fuxi_terms.specs.declared.Key.{Key}
use Rattle.fuxi_terms.specs.Keys.{key_cmp}
use Rattle.fuxi_terms.proofs.Booleans.{false_right, number_is}
use Rattle.spec_roles.specs.Placing.{has_pair}
use Rattle.place_pass.specs.Placers.{is_named}
use Rattle.place_pass.specs.PlacerTrees.{StandsAs}
use Rattle.place_pass.specs.DemandScopes.{StandsAt}
use Rattle.place_pass.proofs.DemandScopesLemmas.{key_is, named_more, no_change}
use Rattle.place_pass.proofs.PlacerTreesLemmas.{stands_on}
use Rattle.place_pass.proofs.StandsAtChanges.{stands_on_at, stands_there}
use Rattle.place_pass.proofs.demand.changes.stand_changes.Goals as goal

pub loop-place-init : goal.loop-place-init
loop-place-init c = record { holds = c.requires.holds; others = λ a u lu d. refl; done = λ same k has own. own refl }

pub loop-place-preserved : goal.loop-place-preserved
loop-place-preserved c =
    let w = c.args.wishes.now in
    let line = c.args.line.now.pairs in
    let es = c.args.table.now.entries in
    let a = c.args.app.0 in
    let cs = c.args.changes.now in
    let i = c.loop-place.place in
    let d = get_or cs i no_change in
    let is = slice_get-get_or cs i no_change c.loop-place-test.true in
    let first = c.args.tree.now in
    let t = c.loop-place.tree in
    let t' = c.stand_key_in.new.tree in
    let h = c.loop-place.invariant in
    record {
      holds = c.stand_key_in.ensures.holds;
      others = λ b u lu f. c.stand_key_in.ensures.others b u lu (ap (λ x. x && nat_eq u d.0.unit) f) ∙ h.others b u lu f;
      done = λ same k has own. elim (cases_eq k.unit d.0.unit) as (λ _. StandsAt w.cluster w.cells es a k t') [
        | inl q ↦
            let stood = c.stand_key_in.ensures.stood same (subst (λ u. has_pair (a, u) line ≡ true) q has) in
            elim (eq_by_cmp key_cmp k d.0) as (λ x. eq_by_cmp key_cmp k d.0 ≡ x → StandsAt w.cluster w.cells es a k t') [
              | true ↦ λ x. subst (λ j. StandsAt w.cluster w.cells es a j t') (sym (key_is k d.0 x)) stood.here
              | false ↦ λ x. stood.others k q x (h.done same k has (λ named. own (named_more cs i d k is ∙ ap (λ b. b || eq_by_cmp key_cmp k d.0) named ∙ x)))
            ] refl
        | inr f ↦
            let apart : nat_eq k.unit d.0.unit ≡ false = grind (arith, nat_tests, f) in
            let other : eq_by_cmp key_cmp k d.0 ≡ false = elim (eq_by_cmp key_cmp k d.0) as (λ x. eq_by_cmp key_cmp k d.0 ≡ x → eq_by_cmp key_cmp k d.0 ≡ false) [
              | true ↦ λ x. absurd (f (ap (λ (j : Key). j.unit) (key_is k d.0 x)))
              | false ↦ λ x. x
            ] refl in
            stands_on_at w.cluster w.cells es a k t t' (c.stand_key_in.ensures.holds.racks ∙ sym h.holds.racks)
            (c.stand_key_in.ensures.others a k.unit (h.holds.few a k.unit has) (false_right (nat_eq a a) (nat_eq k.unit d.0.unit) apart))
            (h.done same k has (λ named. own (named_more cs i d k is ∙ ap (λ b. b || eq_by_cmp key_cmp k d.0) named ∙ other)))
      ];
    }

pub returns-clause-stands : goal.returns-clause-stands
returns-clause-stands c same before own a u has =
    let w = c.args.wishes.now in
    let line = c.args.line.now.pairs in
    let es = c.args.table.now.entries in
    let h = c.loop-place.invariant in
    let t = c.args.tree.now in
    let t' = c.loop-place.tree in
    let all = take_all c.loop-place.place c.args.changes.now c.loop-place-test.false in
    elim (nat_eq a c.args.app.0) as (λ x. nat_eq a c.args.app.0 ≡ x → StandsAs w.cluster w.cells es a u t') [
      | true ↦ λ x.
          let is = number_is a c.args.app.0 x in
          let there = subst (λ b. has_pair (b, u) line ≡ true) is has in
          subst (λ b. StandsAs w.cluster w.cells es b u t') (sym is)
          (stands_there w.cluster w.cells es c.args.app.0 u t' (λ k q. h.done same k (subst (λ v. has_pair (c.args.app.0, v) line ≡ true) (sym q) there) (λ named. own u there k q (subst (λ cs. is_named k cs ≡ false) all named))))
      | false ↦ λ x. stands_on w.cluster w.cells es a u t t' (h.holds.racks ∙ sym c.requires.holds.racks) (h.others a u (h.holds.few a u has) x) (before a u has x)
    ] refl

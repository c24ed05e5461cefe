use Rattle.std.proofs.Common.{◌≡◌, ◌<◌, ◌≤◌, ℕ, true, false, Option, None, Some, get_or, subst, arith, inl, inr}
use Rattle.std.specs.Prelude.{IfSome, is_some}
use Rattle.std.proofs.lemmas.Bool.{cases_lt}
use Rattle.fuxi_terms.proofs.Booleans.{both_true}
use Rattle.place_pass.specs.Bounds.{mark_at, key_of}
use Rattle.place_pass.specs.PackedRanks.{IsAbove}
use Rattle.place_pass.specs.SearchCounts.{is_unsettled_by}
use Rattle.place_pass.specs.Candidates.{IsBehind}
use Rattle.place_pass.specs.declared.search.Least.{Least}
use Rattle.place_pass.proofs.PackedRanksLemmas.{never_above, behind_above}
use Rattle.place_pass.proofs.search.machines.least_machine.Goals as goal

within : (o : Option Least) (n m : ℕ) → n < m → IfSome o (λ x. x.machine.0 ≤ n) → IfSome o (λ x. x.machine.0 < m)
within None n m lt h = tt
within (Some x) n m lt h = omega (arith, lt, h)

pub loop-at-init : goal.loop-at-init
loop-at-init c =
    let next = c.next-at.ensures in
    let marks = c.args.marks.now in
    let turns = c.args.turns in
    let inside = next.inside in
    let few = next.few in
    record {
      inside = next.inside;
      there = tt;
      behind = λ m lt u.
          let some = (both_true (get_or c.args.wishes.now.opened m false) (is_some (key_of (mark_at marks m) turns)) u).1 in
          absurd (never_above (mark_at marks m) turns m (omega (arith, lt, inside, few)) (subst (IsAbove (mark_at marks m) turns m) c.number_of_none.ensures (next.passed m (omega arith) lt some)));
    }

pub loop-at-preserved : goal.loop-at-preserved
loop-at-preserved c =
    let i = c.loop-at.invariant in
    let at = c.loop-at.at in
    let marks = c.args.marks.now in
    let opened = c.args.wishes.now.opened in
    let turns = c.args.turns in
    let next = c.next-at-in-loop-at.ensures in
    let further = next.least in
    let inside = next.inside in
    let few = next.few in
    let result = c.lesser_at-least.result in
    record {
      inside = next.inside;
      there = within result at c.next-at-in-loop-at.result (omega (arith, further)) c.lesser_at-least.ensures.there;
      behind = λ m lt u. elim (cases_lt m at) as (λ _. IsBehind (mark_at marks m) turns m result) [
        | inl less ↦ c.lesser_at-least.ensures.kept (mark_at marks m) turns m (i.behind m less u)
        | inr above ↦ elim (cases_lt at m) as (λ _. IsBehind (mark_at marks m) turns m result) [
          | inl more ↦
              let some = (both_true (get_or opened m false) (is_some (key_of (mark_at marks m) turns)) u).1 in
              behind_above result (mark_at marks m) turns m (omega (arith, lt, inside, few)) (subst (IsAbove (mark_at marks m) turns m) c.number_of_least.ensures (next.passed m (omega (arith, more)) lt some))
          | inr le ↦
              let same : at ≡ m = omega (arith, above, le) in
              subst (λ z. is_unsettled_by opened (mark_at marks z) turns z ≡ true → IsBehind (mark_at marks z) turns z result) same c.lesser_at-least.ensures.itself u
        ]
      ];
    }

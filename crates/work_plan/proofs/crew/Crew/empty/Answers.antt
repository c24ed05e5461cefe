use Rattle.std.proofs.Common.{◌≡◌, ℕ, ◌+◌, ◌<◌, ◌++◌, ◌∷◌, [], List, refl, sym, ◌∙◌, ap, add-one, take, get_or}
use Rattle.std.proofs.Math.Seq.{take-suc}
use Rattle.work_plan.specs.Crews.{nobody}
use Rattle.work_plan.specs.declared.squad.Member.{Member}
use Rattle.work_plan.proofs.CrewsLemmas.{all_get}
use Rattle.work_plan.proofs.crew.Crew.empty.Goals as goal

nobody_at : (u : ℕ) → u < 8 → get_or nobody u [] ≡ []
nobody_at u lt = all_get (λ (ms : List Member). ms ≡ []) nobody u [] lt (refl, (refl, (refl, (refl, (refl, (refl, (refl, (refl, tt))))))))

pub loop-unit-preserved : goal.loop-unit-preserved
loop-unit-preserved c =
    let u = c.loop-unit.unit in
    let more : take (u + 1) nobody ≡ take u nobody ++ get_or nobody u [] ∷ [] = ap (λ k. take k nobody) (add-one u) ∙ take-suc nobody u [] c.loop-unit-test.true in
    let squad = c.in_ok-squad.ensures ∙ sym (nobody_at u c.loop-unit-test.true) in
    c.in_ok-push.ensures.items ∙ ap (λ (ms : List (List Member)). ms ++ c.in_ok-squad.squad ∷ []) c.loop-unit.invariant ∙ ap (λ (s : List Member). take u nobody ++ s ∷ []) squad ∙ sym more

-- How the marked machines are found.
use Rattle.std.proofs.Common.{◌≡◌, ℕ, ◌+◌, Bool, true, false, cond, List, [], ◌∷◌, ◌++◌, map, filter, sym, ap, ◌∙◌, add-one}
use Rattle.std.proofs.lemmas.List.{append-nil, map_push}
use Rattle.std.proofs.lemmas.List.Elements.{filter-append}
use Rattle.fuxi_terms.specs.Lists.{below}
use Rattle.schedule_unit.specs.declared.party.MachineNo.{MachineNo}
use Rattle.bad_nodes.specs.Ranks.{number_of}

one_more : (p : ℕ → Bool) (n : ℕ) (b : Bool) → p n ≡ b → filter p (below (n + 1)) ≡ filter p (below n) ++ cond b (n ∷ []) []
one_more p n b e = ap (λ k. filter p (below k)) (add-one n) ∙ filter-append p (below n) (n ∷ []) ∙ ap (λ t. filter p (below n) ++ cond t (n ∷ []) []) e

-- one machine more that was looked at: it passes, or it does not
pub one_passes : (p : ℕ → Bool) (n : ℕ) (ms new : List MachineNo) → p n ≡ true → new ≡ ms ++ record { 0 = n } ∷ [] → map number_of ms ≡ filter p (below n) → map number_of new ≡ filter p (below (n + 1))
one_passes p n ms new e grown is = ap (map number_of) grown ∙ map_push number_of ms (record { 0 = n }) ∙ ap (λ ns. ns ++ n ∷ []) is ∙ sym (one_more p n true e)

pub one_fails : (p : ℕ → Bool) (n : ℕ) (ms : List MachineNo) → p n ≡ false → map number_of ms ≡ filter p (below n) → map number_of ms ≡ filter p (below (n + 1))
one_fails p n ms e is = is ∙ sym (append-nil (filter p (below n))) ∙ sym (one_more p n false e)

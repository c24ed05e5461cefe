-- What is carried after an epoch is joined.
use Rattle.std.proofs.Common.{◌≡◌, ℕ, ◌<◌, Bool, true, false, cond, nat_eq, List, [], ◌∷◌, map, None, Some, refl, sym, ◌∙◌, ap, arith}
use Rattle.std.specs.Prelude.{◌&&◌, ◌||◌}
use Rattle.std.specs.Ordering.{nat_cmp, eq_by_cmp}
use Rattle.std.specs.FinMap.Entries.{find, put, find-put}
use Rattle.std.specs.Cmp.{nat_cmp_total}
use Rattle.std.proofs.lemmas.Bool.Decides.{nat_tests}
use Rattle.fuxi_terms.specs.Lists.{below}
use Rattle.fuxi_terms.specs.Numbers.{has_number}
use Rattle.fuxi_terms.specs.Vectors.{at_place}
use Rattle.fuxi_terms.proofs.ByPlace.{at_place-get_or}
use Rattle.spec_net.specs.Net.{Link}
use Rattle.spec_net.specs.Ledgers.{Ledger}
use Rattle.spec_roles.specs.Apps.{Carried, names, usable_of, carried_in, carried_one, carry_of}
use Rattle.app_master.proofs.Counted.{is_below, mapped_below}

-- what is found for a machine
found_carried : (l : Link) (got own : Ledger) (boot units m : ℕ) (ms : List ℕ) (carried : List (ℕ × Carried))
    → find nat_cmp m (carry_of l got own boot units ms carried) ≡ cond (has_number m ms && names got m) (Some (carried_one l got own boot units m)) (find nat_cmp m carried)
found_carried l got own boot units m [] carried = refl
found_carried l got own boot units m (k ∷ ms) carried =
    found_carried l got own boot units m ms (cond (names got k) (put nat_cmp k (carried_one l got own boot units k) carried) carried)
    ∙ by (nat_eq m k) refl (has_number m ms) (names got k) refl
  where
    one : (b : Bool) → nat_eq m k ≡ b → find nat_cmp m (put nat_cmp k (carried_one l got own boot units k) carried) ≡ cond b (Some (carried_one l got own boot units k)) (find nat_cmp m carried)
    one b e = find-put nat_cmp nat_cmp_total m k (carried_one l got own boot units k) carried ∙ ap (λ b. cond b (Some (carried_one l got own boot units k)) (find nat_cmp m carried)) (let t : eq_by_cmp nat_cmp m k ≡ nat_eq m k = grind (arith, nat_tests) in t ∙ e)

    by : (b : Bool) → nat_eq m k ≡ b → (h n : Bool) → names got k ≡ n → cond (h && names got m) (Some (carried_one l got own boot units m)) (find nat_cmp m (cond n (put nat_cmp k (carried_one l got own boot units k) carried) carried))
        ≡ cond ((b || h) && names got m) (Some (carried_one l got own boot units m)) (find nat_cmp m carried)
    by true e h n f = let is : m ≡ k = grind (arith, nat_tests, e) in same h n (ap (names got) is ∙ f)
      where
        same : (h n : Bool) → names got m ≡ n → cond (h && names got m) (Some (carried_one l got own boot units m)) (find nat_cmp m (cond n (put nat_cmp k (carried_one l got own boot units k) carried) carried))
            ≡ cond (names got m) (Some (carried_one l got own boot units m)) (find nat_cmp m carried)
        same true true f = ap (λ b. cond b (Some (carried_one l got own boot units m)) (find nat_cmp m (put nat_cmp k (carried_one l got own boot units k) carried))) f ∙ sym (ap (λ b. cond b (Some (carried_one l got own boot units m)) (find nat_cmp m carried)) f)
        same true false f = refl
        same false true f = one true e ∙ (let is : k ≡ m = grind (arith, nat_tests, e) in ap (λ j. Some (carried_one l got own boot units j)) is) ∙ sym (ap (λ b. cond b (Some (carried_one l got own boot units m)) (find nat_cmp m carried)) f)
        same false false f = sym (ap (λ b. cond b (Some (carried_one l got own boot units m)) (find nat_cmp m carried)) f)
    by false e h true f = ap (λ o. cond (h && names got m) (Some (carried_one l got own boot units m)) o) (one false e)
    by false e h false f = refl

-- of a unit on a machine of the cluster: what was held there, where the grants name it
pub carried_then : (l : Link) (got own : Ledger) (boot units machines u m : ℕ) (carried : List (ℕ × Carried)) → u < units → m < machines
    → carried_in (carry_of l got own boot units (below machines) carried) u m ≡ cond (names got m) (usable_of got own boot u m) (carried_in carried u m)
carried_then l got own boot units machines u m carried lu lm =
    ap (λ o. elim o [ None ↦ 0 | Some r ↦ at_place r.held u ]) (found_carried l got own boot units m (below machines) carried ∙ ap (λ b. cond (b && names got m) (Some (carried_one l got own boot units m)) (find nat_cmp m carried)) (is_below machines m lm))
    ∙ by (names got m)
  where
    by : (b : Bool) → elim (cond b (Some (carried_one l got own boot units m)) (find nat_cmp m carried)) as (λ _. ℕ) [ None ↦ 0 | Some r ↦ at_place r.held u ] ≡ cond b (usable_of got own boot u m) (carried_in carried u m)
    by true = at_place-get_or (map (λ u. usable_of got own boot u m) (below units)) u ∙ mapped_below (λ u. usable_of got own boot u m) units u lu
    by false = refl

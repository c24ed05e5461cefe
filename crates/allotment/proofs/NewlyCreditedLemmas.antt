-- What is newly credited depends on the entries that give back alone, and of what is given on what is credited.
use Rattle.std.proofs.Common.{◌≡◌, ℕ, ◌+◌, Bool, true, false, cond, nat_lt, List, [], ◌∷◌, ◌++◌, map, filter, take, Some, slice_get, refl, sym, ◌∙◌, ap}
use Rattle.std.specs.Prelude.{◌&&◌}
use Rattle.std.specs.FinMap.Entries.{where_key}
use Rattle.std.proofs.lemmas.List.{map-append}
use Rattle.std.proofs.lemmas.List.Elements.{filter-append}
use Rattle.fuxi_terms.specs.Cluster.{ClusterRecord, has_machine}
use Rattle.fuxi_terms.specs.Counts.{count}
use Rattle.fuxi_terms.specs.declared.Key.{Key}
use Rattle.fuxi_terms.specs.Keys.{key_cmp}
use Rattle.fuxi_terms.specs.TallyKeys.{credited_key, is_back}
use Rattle.fuxi_terms.proofs.Lists.{take_last}
use Rattle.allotment.specs.Allotted.{is_new_back, newly_credited}

module _ (c : ClusterRecord) (units : ℕ) (shown given : List (Key × ℕ)) (agree : (u m : ℕ) → count key_cmp shown (credited_key u m) ≡ count key_cmp given (credited_key u m)) where
  backs_alone : (es : List (Key × ℕ)) → filter (is_new_back c units shown) (where_key key_cmp is_back es) ≡ filter (is_new_back c units given) es
  backs_alone [] = refl
  backs_alone (e ∷ es) =
      let backs = where_key key_cmp is_back es in
      let new = filter (is_new_back c units given) es in
      let same = agree e.0.unit e.0.number in
      elim (is_back e.0) as (λ b. is_back e.0 ≡ b → filter (is_new_back c units shown) (cond b (e ∷ backs) backs) ≡ cond (b && (nat_lt e.0.unit units && (has_machine c e.0.number && nat_lt (count key_cmp given (credited_key e.0.unit e.0.number)) e.1))) (e ∷ new) new) [
        | true ↦ λ t i. cond (t i && (nat_lt e.0.unit units && (has_machine c e.0.number && nat_lt (same i) e.1))) (e ∷ backs_alone es i) (backs_alone es i)
        | false ↦ λ t. backs_alone es
      ] refl

  pub credited_alone : (es : List (Key × ℕ)) → newly_credited c units shown (where_key key_cmp is_back es) ≡ newly_credited c units given es
  credited_alone es = ap (map (λ (e : Key × ℕ). (credited_key e.0.unit e.0.number, e.1))) (backs_alone es)

-- one entry more
pub newly_more : (c : ClusterRecord) (units : ℕ) (given es : List (Key × ℕ)) (i : ℕ) (e : Key × ℕ) (new : Bool) → slice_get es i ≡ Some e → new ≡ is_new_back c units given e
    → newly_credited c units given (take i es) ++ cond new ((credited_key e.0.unit e.0.number, e.1) ∷ []) [] ≡ newly_credited c units given (take (i + 1) es)
newly_more c units given es i e new at is =
    let p = is_new_back c units given in
    let f : Key × ℕ → Key × ℕ = λ e. (credited_key e.0.unit e.0.number, e.1) in
    let before = newly_credited c units given (take i es) in
    sym (ap (λ l. map f (filter p l)) (take_last es i e at) ∙ ap (map f) (filter-append p (take i es) (e ∷ [])) ∙ map-append f (filter p (take i es)) (filter p (e ∷ []))
    ∙ ap (λ b. before ++ map f (cond b (e ∷ []) [])) (sym is) ∙ one before e new)
  where
    one : (before : List (Key × ℕ)) (e : Key × ℕ) (b : Bool) → before ++ map (λ (e : Key × ℕ). (credited_key e.0.unit e.0.number, e.1)) (cond b (e ∷ []) []) ≡ before ++ cond b ((credited_key e.0.unit e.0.number, e.1) ∷ []) []
    one before e true = refl
    one before e false = refl

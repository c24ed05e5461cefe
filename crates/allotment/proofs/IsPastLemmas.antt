-- A walk along entries in order finds at each key what stands there.
use Rattle.std.proofs.Common.{◌≡◌, ℕ, suc, zero, ◌+◌, ◌<◌, false, cond, List, [], ◌∷◌, length, drop, get_or, Some, refl, sym, ◌∙◌, ap, subst, arith, add-one, true≢false}
use Rattle.std.specs.Prelude.{T}
use Rattle.std.specs.Cmp.{tied_itself}
use Rattle.std.specs.Option.{unwrap_or}
use Rattle.std.specs.Ordering.{nat_cmp, is_eq, is_lt, ordering_then, ordering_reverse}
use Rattle.std.specs.declared.cmp.Ordering.{Ordering}
use Rattle.std.specs.declared.cmp.Ordering.TheVariants.{Less, Equal, Greater}
use Rattle.std.specs.FinMap.Entries.{below_all, find, is_sorted}
use Rattle.std.proofs.lemmas.List.{drop_more}
use Rattle.fuxi_terms.specs.Counts.{count}
use Rattle.fuxi_terms.specs.declared.Key.{Key}
use Rattle.fuxi_terms.specs.Keys.{key_cmp}
use Rattle.fuxi_terms.specs.TallyKeys.{credited_key}
use Rattle.fuxi_terms.proofs.CountsLemmas.{both_true, find_below_head, lesser}
use Rattle.fuxi_terms.proofs.KeyOrders.{key_total}
use Rattle.place_pass.specs.DemandWalks.{IsPast}

tied : (k : Key) → key_cmp k k ≡ Equal
tied k = tied_itself key_total k

-- a key that is not below another is not tied with one that is
not_tied : (q k e : Key) → key_cmp e k ≡ Less → is_lt (key_cmp q k) ≡ false → is_eq (key_cmp q e) ≡ false
not_tied q k e less h = by (key_cmp q e) refl
  where
    by : (o : Ordering) → key_cmp q e ≡ o → is_eq o ≡ false
    by Less t = refl
    by Equal t = absurd (true≢false (sym (ap is_lt (key_total.congr q e k t ∙ less)) ∙ h))
    by Greater t = refl

-- at a key the number in what is left is that of the entry there, or that of those behind it
at_place : (es : List (Key × ℕ)) (at : ℕ) (q : Key) (d : Key × ℕ) → at < length es → count key_cmp (drop at es) q ≡ unwrap_or (cond (is_eq (key_cmp q (get_or es at d).0)) (Some (get_or es at d).1) (find key_cmp q (drop (at + 1) es))) 0
at_place es at q d lt = ap (λ l. count key_cmp l q) (drop_more es at d lt)

-- an entry below the key is passed
pub passes : (es : List (Key × ℕ)) (at : ℕ) (k : Key) (d : Key × ℕ) → at < length es → key_cmp (get_or es at d).0 k ≡ Less → IsPast es at k → IsPast es (at + 1) k
passes es at k d lt less past = λ q h. past q h ∙ at_place es at q d lt ∙ ap (λ b. unwrap_or (cond b (Some (get_or es at d).1) (find key_cmp q (drop (at + 1) es))) 0) (not_tied q k (get_or es at d).0 less h)

-- what was passed is so for a later key
pub later_past : (es : List (Key × ℕ)) (at : ℕ) (k l : Key) → key_cmp k l ≡ Less → IsPast es at k → IsPast es at l
later_past es at k l less past = λ q h. past q (by q (key_cmp q k) refl h)
  where
    by : (q : Key) (o : Ordering) → key_cmp q k ≡ o → is_lt (key_cmp q l) ≡ false → is_lt o ≡ false
    by q Less t h = absurd (true≢false (sym (ap is_lt (key_total.trans q k l t less)) ∙ h))
    by q Equal t h = refl
    by q Greater t h = refl

sorted_rest : (n : ℕ) (es : List (Key × ℕ)) → T (is_sorted key_cmp es) → T (is_sorted key_cmp (drop n es))
sorted_rest zero es h = h
sorted_rest (suc n) [] h = tt
sorted_rest (suc n) (e ∷ es) h = sorted_rest n es (both_true (below_all key_cmp e.0 es) _ h).1

-- where a later entry stands there is none at the key
pub found_later : (es : List (Key × ℕ)) (at : ℕ) (k : Key) (d : Key × ℕ) → T (is_sorted key_cmp es) → at < length es → key_cmp (get_or es at d).0 k ≡ Greater → IsPast es at k → 0 ≡ count key_cmp es k
found_later es at k d sorted lt above past =
    let e = get_or es at d in
    let rest = drop (at + 1) es in
    let less : key_cmp k e.0 ≡ Less = key_total.antisymm k e.0 ∙ ap ordering_reverse above in
    let order = both_true (below_all key_cmp e.0 rest) _ (subst (λ l. T (is_sorted key_cmp l)) (drop_more es at d lt) (sorted_rest at es sorted)) in
    sym (past k (ap is_lt (tied k)) ∙ at_place es at k d lt ∙ ap (λ o. unwrap_or (cond (is_eq o) (Some e.1) (find key_cmp k rest)) 0) less ∙ ap (λ r. unwrap_or r 0) (find_below_head key_total k e rest less order.0))

-- where keys rise, each comes behind the one before, also of what is credited
next_less : (i : ℕ) (es : List (Key × ℕ)) (d : Key × ℕ) → T (is_sorted key_cmp es) → suc i < length es → key_cmp (get_or es i d).0 (get_or es (suc i) d).0 ≡ Less
next_less i [] d h lt = absurd (omega (arith, lt))
next_less i (e ∷ []) d h lt = absurd (omega (arith, lt))
next_less zero (e ∷ f ∷ es) d h lt = lesser (key_cmp e.0 f.0) (both_true (is_lt (key_cmp e.0 f.0)) _ (both_true (below_all key_cmp e.0 (f ∷ es)) _ h).0).0
next_less (suc i) (e ∷ f ∷ es) d h lt = next_less i (f ∷ es) d (both_true (below_all key_cmp e.0 (f ∷ es)) _ h).1 (omega (arith, lt))

credited_less : (k l : Key) → k.what ≡ 5 → l.what ≡ 5 → key_cmp k l ≡ Less → key_cmp (credited_key k.unit k.number) (credited_key l.unit l.number) ≡ Less
credited_less k l back same less = sym (λ i. ordering_then (nat_cmp (back i) (same i)) (ordering_then (nat_cmp k.unit l.unit) (nat_cmp k.number l.number))) ∙ less

pub next_credited : (i : ℕ) (es : List (Key × ℕ)) (d : Key × ℕ) → T (is_sorted key_cmp es) → i + 1 < length es → (get_or es i d).0.what ≡ 5 → (get_or es (i + 1) d).0.what ≡ 5
    → key_cmp (credited_key (get_or es i d).0.unit (get_or es i d).0.number) (credited_key (get_or es (i + 1) d).0.unit (get_or es (i + 1) d).0.number) ≡ Less
next_credited i es d sorted lt here next =
    credited_less (get_or es i d).0 (get_or es (i + 1) d).0 here next (subst (λ j. key_cmp (get_or es i d).0 (get_or es j d).0 ≡ Less) (sym (add-one i)) (next_less i es d sorted (omega (arith, lt))))

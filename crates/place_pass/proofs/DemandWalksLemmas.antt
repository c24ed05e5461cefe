-- A walk along entries in order finds at each key what stands there.
use Rattle.std.proofs.Common.{◌≡◌, ℕ, zero, suc, ◌+◌, ◌<◌, true, false, cond, List, [], ◌∷◌, length, drop, get_or, Some, refl, sym, ◌∙◌, ap, subst, arith, add-one, true≢false}
use Rattle.std.specs.Prelude.{T}
use Rattle.std.specs.Option.{unwrap_or}
use Rattle.std.specs.Ordering.{nat_cmp, is_eq, is_lt, ordering_then, ordering_reverse}
use Rattle.std.specs.declared.cmp.Ordering.{Ordering}
use Rattle.std.specs.declared.cmp.Ordering.TheVariants.{Less, Equal, Greater}
use Rattle.std.specs.FinMap.Entries.{below_all, find, is_sorted}
use Rattle.std.proofs.lemmas.List.{drop_more}
use Rattle.fuxi_terms.specs.Counts.{count}
use Rattle.fuxi_terms.specs.declared.Key.{Key}
use Rattle.fuxi_terms.specs.Keys.{key_cmp}
use Rattle.fuxi_terms.specs.TallyKeys.{key}
use Rattle.fuxi_terms.proofs.CountsLemmas.{both_true, find_below_head, lesser, tied}
use Rattle.fuxi_terms.proofs.KeyOrders.{key_total, same_key}
use Rattle.place_pass.specs.DemandWalks.{IsPast}
use Rattle.fuxi_terms.proofs.NumberOrders.{compared_less, compared_itself}

key_tied : (k : Key) → key_cmp k k ≡ Equal
key_tied k = ap (λ o. ordering_then o (ordering_then (nat_cmp k.unit k.unit) (nat_cmp k.number k.number))) (compared_itself k.what) ∙ ap (λ o. ordering_then o (nat_cmp k.number k.number)) (compared_itself k.unit) ∙ compared_itself k.number

sorted_rest : (n : ℕ) (es : List (Key × ℕ)) → T (is_sorted key_cmp es) → T (is_sorted key_cmp (drop n es))
sorted_rest zero es h = h
sorted_rest (suc n) [] h = tt
sorted_rest (suc n) (e ∷ es) h = sorted_rest n es (both_true (below_all key_cmp e.0 es) _ h).1

greater : (o : Ordering) → is_eq o ≡ false → is_lt o ≡ false → o ≡ Greater
greater Less e l = cc
greater Equal e l = cc
greater Greater e l = refl

pub starts_past : (es : List (Key × ℕ)) (k : Key) → IsPast es 0 k
starts_past es k = λ q h. refl

-- a key that is not below another is not tied with one that is
not_tied : (q k e : Key) → key_cmp e k ≡ Less → is_lt (key_cmp q k) ≡ false → is_eq (key_cmp q e) ≡ false
not_tied q k e less h = by (key_cmp q e) refl
  where
    by : (o : Ordering) → key_cmp q e ≡ o → is_eq o ≡ false
    by Less t = refl
    by Equal t = absurd (true≢false (sym (ap is_lt (key_total.congr q e k t ∙ less)) ∙ h))
    by Greater t = refl

-- an entry below the key is passed
pub passes : (es : List (Key × ℕ)) (at : ℕ) (k : Key) (e : Key × ℕ) (rest : List (Key × ℕ)) → drop at es ≡ e ∷ rest → drop (at + 1) es ≡ rest → key_cmp e.0 k ≡ Less → IsPast es at k → IsPast es (at + 1) k
passes es at k e rest is next less past = λ q h.
    past q h ∙ ap (λ l. count key_cmp l q) is ∙ ap (λ b. unwrap_or (cond b (Some e.1) (find key_cmp q rest)) 0) (not_tied q k e.0 less h) ∙ sym (ap (λ l. count key_cmp l q) next)

-- a key that is below all entries is below each
below_each : (k : Key) (n : ℕ) (es : List (Key × ℕ)) (d : Key × ℕ) → T (below_all key_cmp k es) → n < length es → key_cmp k (get_or es n d).0 ≡ Less
below_each k n [] d h lt = absurd (omega (arith, lt))
below_each k zero (e ∷ es) d h lt = lesser (key_cmp k e.0) (both_true (is_lt (key_cmp k e.0)) _ h).0
below_each k (suc n) (e ∷ es) d h lt = below_each k n es d (both_true (is_lt (key_cmp k e.0)) _ h).1 (omega (arith, lt))

-- where an entry stands below the key, so do those before it
passes_to : (n : ℕ) (es : List (Key × ℕ)) (k : Key) (d : Key × ℕ) → T (is_sorted key_cmp es) → n < length es → key_cmp (get_or es n d).0 k ≡ Less → IsPast es (suc n) k
passes_to n [] k d sorted lt less = absurd (omega (arith, lt))
passes_to zero (e ∷ es) k d sorted lt less = passes (e ∷ es) 0 k e es refl refl less (starts_past (e ∷ es) k)
passes_to (suc n) (e ∷ es) k d sorted lt less =
    let b = both_true (below_all key_cmp e.0 es) _ sorted in
    let l : n < length es = omega (arith, lt) in
    let first = key_total.trans e.0 (get_or es n d).0 k (below_each e.0 n es d b.0 l) less in
    λ q h. passes (e ∷ es) 0 k e es refl refl first (starts_past (e ∷ es) k) q h ∙ passes_to n es k d b.1 l less q h

pub passes_all : (n : ℕ) (es : List (Key × ℕ)) (k : Key) (d : Key × ℕ) → T (is_sorted key_cmp es) → n < length es → key_cmp (get_or es n d).0 k ≡ Less → IsPast es (n + 1) k
passes_all n es k d sorted lt less = subst (λ at. IsPast es at k) (sym (add-one n)) (passes_to n es k d sorted lt less)

-- a key of a greater number comes later
less_key : (what unit n m : ℕ) → n < m → key_cmp (key what unit n) (key what unit m) ≡ Less
less_key what unit n m lt = ap (λ o. ordering_then o (ordering_then (nat_cmp unit unit) (nat_cmp n m))) (compared_itself what) ∙ ap (λ o. ordering_then o (nat_cmp n m)) (compared_itself unit) ∙ compared_less n m lt

pub later_past : (es : List (Key × ℕ)) (at what unit n m : ℕ) → n < m → IsPast es at (key what unit n) → IsPast es at (key what unit m)
later_past es at what unit n m lt past = λ q h. past q (by q (key_cmp q (key what unit n)) refl h)
  where
    by : (q : Key) (o : Ordering) → key_cmp q (key what unit n) ≡ o → is_lt (key_cmp q (key what unit m)) ≡ false → is_lt o ≡ false
    by q Less t h = absurd (true≢false (sym (ap is_lt (key_total.trans q (key what unit n) (key what unit m) t (less_key what unit n m lt))) ∙ h))
    by q Equal t h = refl
    by q Greater t h = refl

-- what stands at the place where the walk ends: the number of the key, or of a later one
pub stands_here : (es : List (Key × ℕ)) (at : ℕ) (k : Key) (e : Key × ℕ) (rest : List (Key × ℕ)) → drop at es ≡ e ∷ rest → key_cmp k e.0 ≡ Equal → is_lt (key_cmp k k) ≡ false → IsPast es at k → count key_cmp es k ≡ e.1
stands_here es at k e rest is tie itself past = past k itself ∙ ap (λ l. count key_cmp l k) is ∙ ap (λ o. unwrap_or (cond (is_eq o) (Some e.1) (find key_cmp k rest)) 0) tie

pub stands_later : (es : List (Key × ℕ)) (at : ℕ) (k : Key) (e : Key × ℕ) (rest : List (Key × ℕ)) → drop at es ≡ e ∷ rest → T (is_sorted key_cmp (e ∷ rest)) → key_cmp k e.0 ≡ Less → is_lt (key_cmp k k) ≡ false → IsPast es at k → count key_cmp es k ≡ 0
stands_later es at k e rest is sorted less itself past =
    past k itself ∙ ap (λ l. count key_cmp l k) is ∙ ap (λ o. unwrap_or (cond (is_eq o) (Some e.1) (find key_cmp k rest)) 0) less
    ∙ ap (λ r. unwrap_or r 0) (find_below_head key_total k e rest less (both_true (below_all key_cmp e.0 rest) _ sorted).0)

pub stands_nowhere : (es : List (Key × ℕ)) (at : ℕ) (k : Key) → drop at es ≡ [] → is_lt (key_cmp k k) ≡ false → IsPast es at k → count key_cmp es k ≡ 0
stands_nowhere es at k is itself past = past k itself ∙ ap (λ l. count key_cmp l k) is

pub itself : (k : Key) → is_lt (key_cmp k k) ≡ false
itself k = ap is_lt (key_tied k)

pub found_here : (es : List (Key × ℕ)) (at : ℕ) (k : Key) (d : Key × ℕ) → at < length es → is_eq (key_cmp (get_or es at d).0 k) ≡ true → IsPast es at k → count key_cmp es k ≡ (get_or es at d).1
found_here es at k d lt tie past =
    let is : (get_or es at d).0 ≡ k = same_key (get_or es at d).0 k (tied (key_cmp (get_or es at d).0 k) tie) in
    stands_here es at k (get_or es at d) (drop (at + 1) es) (drop_more es at d lt) (ap (λ x. key_cmp k x) is ∙ key_tied k) (itself k) past

pub found_later : (es : List (Key × ℕ)) (at : ℕ) (k : Key) (d : Key × ℕ) → T (is_sorted key_cmp es) → at < length es → is_eq (key_cmp (get_or es at d).0 k) ≡ false → is_lt (key_cmp (get_or es at d).0 k) ≡ false → IsPast es at k → count key_cmp es k ≡ 0
found_later es at k d sorted lt other above past =
    stands_later es at k (get_or es at d) (drop (at + 1) es) (drop_more es at d lt) (subst (λ l. T (is_sorted key_cmp l)) (drop_more es at d lt) (sorted_rest at es sorted))
    (key_total.antisymm k (get_or es at d).0 ∙ ap ordering_reverse (greater (key_cmp (get_or es at d).0 k) other above)) (itself k) past

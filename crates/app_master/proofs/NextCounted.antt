-- Where the entries from a key on begin, and that what stands there is the next count of a unit or there is none.
use Rattle.std.proofs.Common.{◌≡◌, ℕ, zero, suc, ◌≤◌, ◌<◌, true, false, cond, nat_eq, List, [], ◌∷◌, length, get_or, drop, drop-cons, Some, min, refl, sym, ◌∙◌, ap, subst, arith}
use Rattle.std.specs.Prelude.{◌&&◌, T}
use Rattle.std.specs.Option.{unwrap_or}
use Rattle.std.specs.Ordering.{eq_by_cmp, is_eq, is_lt}
use Rattle.std.specs.List.Sorted.{IsPartitionPoint, IsPartitionedBy}
use Rattle.std.specs.declared.cmp.Ordering.TheVariants.{Less}
use Rattle.std.specs.FinMap.Entries.{below_all, find, is_sorted}
use Rattle.std.proofs.lemmas.Bool.Decides.{nat_tests}
use Rattle.std.proofs.lemmas.List.{drop_all}
use Rattle.fuxi_terms.specs.declared.Key.{Key}
use Rattle.fuxi_terms.specs.Counts.{count}
use Rattle.fuxi_terms.specs.Keys.{key_cmp}
use Rattle.fuxi_terms.specs.TallyKeys.{count_key}
use Rattle.fuxi_terms.proofs.CountsLemmas.{both_true, find_below_head, lesser}
use Rattle.fuxi_terms.proofs.KeyOrders.{key_total}
use Rattle.app_master.specs.Usable.{IsNext}
use Rattle.app_master.proofs.KeysByNumbers.{is_below, less_is, tie_is}

below_trans : (a b c : Key) → is_below a b ≡ true → is_below b c ≡ true → is_below a c ≡ true
below_trans a b c f g = grind (arith, nat_tests, f, g)

apart : (q e k : Key) → is_below q k ≡ false → is_below e k ≡ true → (nat_eq q.what e.what && (nat_eq q.unit e.unit && nat_eq q.number e.number)) ≡ false
apart q e k f g = grind (arith, nat_tests, f, g)

from_on : (u from m : ℕ) → from ≤ m → is_below (count_key u m) (count_key u from) ≡ false
from_on u from m le = grind (arith, nat_tests, le)

other_above : (e : Key) (u from m : ℕ) → is_below e (count_key u from) ≡ false → (nat_eq e.what 2 && nat_eq e.unit u) ≡ false → is_below (count_key u m) e ≡ true
other_above e u from m above other = grind (arith, nat_tests, above, other)

same_above : (e : Key) (u m : ℕ) → (nat_eq e.what 2 && nat_eq e.unit u) ≡ true → m < e.number → is_below (count_key u m) e ≡ true
same_above e u m same lt = grind (arith, nat_tests, same, lt)

same_tie : (e : Key) (u : ℕ) → (nat_eq e.what 2 && nat_eq e.unit u) ≡ true → (nat_eq 2 e.what && (nat_eq u e.unit && nat_eq e.number e.number)) ≡ true
same_tie e u same = grind (arith, nat_tests, same)

same_least : (e : Key) (u from : ℕ) → is_below e (count_key u from) ≡ false → (nat_eq e.what 2 && nat_eq e.unit u) ≡ true → from ≤ e.number
same_least e u from above same = grind (arith, nat_tests, above, same)

-- keys that rise are below one up to a place, and from there on no longer
below_at : (k : Key) (es : List (Key × ℕ)) (j : ℕ) (d : Key × ℕ) → T (below_all key_cmp k es) → j < length es → key_cmp k (get_or es j d).0 ≡ Less
below_at k [] j d h lt = absurd (omega (arith, lt))
below_at k (e ∷ es) zero d h lt = lesser (key_cmp k e.0) (both_true (is_lt (key_cmp k e.0)) _ h).0
below_at k (e ∷ es) (suc j) d h lt = below_at k es j d (both_true (is_lt (key_cmp k e.0)) _ h).1 (omega (arith, lt))

pub parted : (k : Key) (es : List (Key × ℕ)) → T (is_sorted key_cmp es) → IsPartitionedBy (λ (e : Key × ℕ). is_lt (key_cmp e.0 k)) es
parted k [] s i j d le lt h = absurd (omega (arith, lt))
parted k (e ∷ es) s zero zero d le lt h = h
parted k (e ∷ es) s zero (suc j) d le lt h =
    let first = sym (less_is e.0 (get_or es j d).0) ∙ ap is_lt (below_at e.0 es j d (both_true (below_all key_cmp e.0 es) _ s).0 (omega (arith, lt))) in
    less_is e.0 k ∙ below_trans e.0 (get_or es j d).0 k first (sym (less_is (get_or es j d).0 k) ∙ h)
parted k (e ∷ es) s (suc i) zero d le lt h = absurd (omega (arith, le))
parted k (e ∷ es) s (suc i) (suc j) d le lt h = parted k es (both_true (below_all key_cmp e.0 es) _ s).1 i j d (omega (arith, le)) (omega (arith, lt)) h

-- a key that is not below it stands from there on
past : (k q : Key) (n : ℕ) (es : List (Key × ℕ)) → ((i : ℕ) (d : Key × ℕ) → 0 ≤ i → i < n → is_lt (key_cmp (get_or es i d).0 k) ≡ true) → is_below q k ≡ false → count key_cmp es q ≡ count key_cmp (drop n es) q
past k q zero es before above = refl
past k q (suc n) [] before above = refl
past k q (suc n) (e ∷ es) before above =
    ap (λ b. unwrap_or (cond b (Some e.1) (find key_cmp q es)) 0) (tie_is q e.0 ∙ apart q e.0 k above (sym (less_is e.0 k) ∙ before 0 e (omega arith) (omega arith)))
    ∙ past k q n es (λ i d _ lt. before (suc i) d (omega arith) (omega (arith, lt))) above

sorted_rest : (n : ℕ) (es : List (Key × ℕ)) → T (is_sorted key_cmp es) → T (is_sorted key_cmp (drop n es))
sorted_rest zero es h = h
sorted_rest (suc n) [] h = tt
sorted_rest (suc n) (e ∷ es) h = sorted_rest n es (both_true (below_all key_cmp e.0 es) _ h).1

-- of entries that stand below the first key of a unit and a number up to a place, and not below it from there on
module _ (es : List (Key × ℕ)) (u from n end : ℕ) (inside : from ≤ end) (point : IsPartitionPoint (λ (e : Key × ℕ). is_lt (key_cmp e.0 (count_key u from)) ≡ true) (λ (e : Key × ℕ). is_lt (key_cmp e.0 (count_key u from)) ≡ false) es n) where
  abbrev counted : ℕ → ℕ
  counted m = count key_cmp es (count_key u m)

  none_next : ((m : ℕ) → from ≤ m → counted m ≡ 0) → IsNext (λ m. count key_cmp es (count_key u m)) from end end
  none_next none = record { least = inside; inside = omega arith; between = λ k ge lt. none k ge; there = λ lt. absurd (omega (arith, lt)) }

  -- no entry is left
  pub none_left : length es ≤ n → IsNext (λ m. count key_cmp es (count_key u m)) from end end
  none_left all = none_next (λ m le. past (count_key u from) (count_key u m) n es point.0 (from_on u from m le) ∙ ap (λ l. count key_cmp l (count_key u m)) (drop_all n es all))

  module _ (d : Key × ℕ) (sorted : T (is_sorted key_cmp es)) (lt : n < length es) where
    left : (m : ℕ) → from ≤ m → counted m ≡ count key_cmp (get_or es n d ∷ drop (suc n) es) (count_key u m)
    left m le = past (count_key u from) (count_key u m) n es point.0 (from_on u from m le) ∙ ap (λ l. count key_cmp l (count_key u m)) (drop-cons es n d lt)

    before_next : (m : ℕ) → from ≤ m → is_below (count_key u m) (get_or es n d).0 ≡ true → counted m ≡ 0
    before_next m le less =
        let q = count_key u m in
        let s = subst (λ l. T (is_sorted key_cmp l)) (drop-cons es n d lt) (sorted_rest n es sorted) in
        let below = lesser (key_cmp q (get_or es n d).0) (subst T (sym (less_is q (get_or es n d).0 ∙ less)) tt) in
        left m le
        ∙ ap (λ r. unwrap_or (cond (is_eq r) (Some (get_or es n d).1) (find key_cmp q (drop (suc n) es))) 0) below
        ∙ ap (λ o. unwrap_or o 0) (find_below_head key_total q (get_or es n d) (drop (suc n) es) below (both_true (below_all key_cmp (get_or es n d).0 (drop (suc n) es)) _ s).0)

    above : is_below (get_or es n d).0 (count_key u from) ≡ false
    above = sym (less_is (get_or es n d).0 (count_key u from)) ∙ point.1 n d (omega arith) lt

    -- what is left is of another kind or unit
    pub other_next : (nat_eq (get_or es n d).0.what 2 && nat_eq (get_or es n d).0.unit u) ≡ false → IsNext (λ m. count key_cmp es (count_key u m)) from end end
    other_next other = none_next (λ m le. before_next m le (other_above (get_or es n d).0 u from m above other))

    -- the next count
    pub counts_next : (nat_eq (get_or es n d).0.what 2 && nat_eq (get_or es n d).0.unit u) ≡ true → 0 < (get_or es n d).1 → (next : ℕ) → next ≡ min (get_or es n d).0.number end → IsNext (λ m. count key_cmp es (count_key u m)) from end next
    counts_next same positive next is =
        let e = get_or es n d in
        let least : from ≤ e.0.number = same_least e.0 u from above same in
        record {
          least = omega (arith, is, least, inside);
          inside = omega (arith, is);
          between = λ k ge l. before_next k ge (same_above e.0 u k same (omega (arith, l, is)));
          there = λ l.
              let here : e.0.number ≡ next = omega (arith, l, is) in
              let tie : eq_by_cmp key_cmp (count_key u e.0.number) e.0 ≡ true = tie_is (count_key u e.0.number) e.0 ∙ same_tie e.0 u same in
              let stands : counted e.0.number ≡ e.1 = left e.0.number least ∙ ap (λ b. unwrap_or (cond b (Some e.1) (find key_cmp (count_key u e.0.number) (drop (suc n) es))) 0) tie in
              subst (λ m. 0 < count key_cmp es (count_key u m)) here (omega (arith, stands, positive));
        }

-- What stands at the place of a number, and what is written there.
use Rattle.std.proofs.Common.{◌≡◌, ℕ, zero, suc, ◌<◌, ◌≤◌, true, false, cond, not, nat_eq, ltb, List, [], ◌∷◌, length, slice_get, get_or, set, Option, Some, None, refl, sym, ◌∙◌, ap, subst, arith}
use Rattle.std.specs.Prelude.{T}
use Rattle.std.specs.BTreeMap.{is_at}
use Rattle.std.specs.Cmp.{nat_cmp_is, unsigned_tied}
use Rattle.std.proofs.lemmas.Cmp.{nat_cmp_total}
use Rattle.std.specs.List.{AllByRecursion, insert, remove}
use Rattle.std.specs.List.Sorted.{IsStrictlySortedBy, IsNonDecreasingBy}
use Rattle.std.specs.Map.{keys_of, lookup}
use Rattle.std.specs.Ordering.{nat_cmp, is_eq, is_lt}
use Rattle.std.specs.declared.cmp.Ordering.TheVariants.{Less, Equal}
use Rattle.std.specs.FinMap.Entries.{by_order, below_all, put, where_key, find, is_sorted, is_sorted-put, find-put, find-where_key, is_sorted-where_key}
use Rattle.std.proofs.lemmas.Bool.Decides.{nat_tests}
use Rattle.std.proofs.lemmas.Option.{get_or_from_slice_get, slice_get-get_or, slice_get_within}
use Rattle.fuxi_terms.proofs.CountsLemmas.{both_true, lesser}
use Rattle.fuxi_terms.proofs.Booleans.{eq_turned, nat_itself}
use Rattle.running_parties.specs.SlotPlaces.{IsHere, IsGap}
use Rattle.running_parties.specs.Slots.{SlotsRecord, entry_at, IsNow, IsGone}
use Rattle.fuxi_terms.proofs.NumberOrders.{number_below, same_numbers, compared_less, compared_greater}

module _ {X : Type 0} where
  -- an entry of a list, below whose numbers x is
  below_at : (x : ℕ) (es : List (ℕ × X)) (i : ℕ) (e : ℕ × X) → T (below_all nat_cmp x es) → slice_get es i ≡ Some e → x < e.0
  below_at x [] i e h at = absurd (omega (arith, slice_get_within [] i e at))
  below_at x (f ∷ es) zero e h at = number_below x e.0 (subst (λ (g : ℕ × X). nat_cmp x g.0 ≡ Less) (get_or_from_slice_get (f ∷ es) 0 e f at) (lesser _ (both_true (is_lt (nat_cmp x f.0)) _ h).0))
  below_at x (f ∷ es) (suc i) e h at = below_at x es i e (both_true (is_lt (nat_cmp x f.0)) _ h).1 at

  rises : (es : List (ℕ × X)) → T (is_sorted nat_cmp es) → (i j : ℕ) (d : ℕ × X) → i ≤ j → j < length es → (get_or es i d).0 ≤ (get_or es j d).0
  rises [] s i j d le lt = absurd (omega (arith, lt))
  rises (e ∷ es) s zero zero d le lt = omega arith
  rises (e ∷ es) s zero (suc j) d le lt =
      let within : j < length es = omega (arith, lt) in
      let less = below_at e.0 es j (get_or es j d) (both_true (below_all nat_cmp e.0 es) _ s).0 (slice_get-get_or es j d within) in
      omega (arith, less)
  rises (e ∷ es) s (suc i) zero d le lt = absurd (omega (arith, le))
  rises (e ∷ es) s (suc i) (suc j) d le lt = rises es (both_true (below_all nat_cmp e.0 es) _ s).1 i j d (omega (arith, le)) (omega (arith, lt))

  pub never_falls : (es : List (ℕ × X)) → T (is_sorted nat_cmp es) → IsNonDecreasingBy (λ e. e.0) es
  never_falls es s = rises es s

  pub keys_rise : (es : List (ℕ × X)) → T (is_sorted nat_cmp es) → IsStrictlySortedBy nat_cmp (keys_of es)
  unfolding IsStrictlySortedBy
  keys_rise [] s = tt
  keys_rise (e ∷ es) s = let b = both_true (below_all nat_cmp e.0 es) _ s in (above es b.0, keys_rise es b.1)
    where
      above : (fs : List (ℕ × X)) → T (below_all nat_cmp e.0 fs) → AllByRecursion (λ n. nat_cmp e.0 n ≡ Less) (keys_of fs)
      above [] h = tt
      above (f ∷ fs) h = let b = both_true (is_lt (nat_cmp e.0 f.0)) _ h in (lesser _ b.0, above fs b.1)

  -- a look-up in a map is one in its entries
  looked_up : (n : ℕ) (es : List (ℕ × X)) → lookup (is_at (nat_cmp n)) es ≡ find nat_cmp n es
  looked_up n [] = refl
  looked_up n (e ∷ es) = ap (cond (is_eq (nat_cmp n e.0)) (Some e.1)) (looked_up n es)

  -- what is written over the value of a number is put into the list
  set_put : (es : List (ℕ × X)) (i n : ℕ) (e : ℕ × X) (w : X) → T (is_sorted nat_cmp es) → slice_get es i ≡ Some e → e.0 ≡ n → set es i (n, w) ≡ put nat_cmp n w es
  set_put [] i n e w s at is = absurd (omega (arith, slice_get_within [] i e at))
  set_put (f ∷ es) zero n e w s at is =
      let first : f.0 ≡ n = ap (λ (g : ℕ × X). g.0) (get_or_from_slice_get (f ∷ es) 0 e f at) ∙ is in
      ap (λ k. (k, w) ∷ es) (sym first) ∙ ap (λ r. by_order r ((n, w) ∷ f ∷ es) ((f.0, w) ∷ es) (f ∷ put nat_cmp n w es)) (nat_cmp_is n f.0 Equal (sym first))
  set_put (f ∷ es) (suc i) n e w s at is =
      let b = both_true (below_all nat_cmp f.0 es) _ s in
      let less = below_at f.0 es i e b.0 at in
      ap (λ l. f ∷ l) (set_put es i n e w b.1 at is) ∙ sym (ap (λ r. by_order r ((n, w) ∷ f ∷ es) ((f.0, w) ∷ es) (f ∷ put nat_cmp n w es)) (compared_greater n f.0 (omega (arith, less, is))))

  insert_put : (es : List (ℕ × X)) (i n : ℕ) (w : X) → IsGap es n i → insert es i (n, w) ≡ put nat_cmp n w es
  insert_put [] zero n w g = refl
  insert_put [] (suc i) n w g = absurd (omega (arith, g.within))
  insert_put (f ∷ es) zero n w g = sym (ap (λ r. by_order r ((n, w) ∷ f ∷ es) ((f.0, w) ∷ es) (f ∷ put nat_cmp n w es)) (compared_less n f.0 (g.behind f refl)))
  insert_put (f ∷ es) (suc i) n w g =
      ap (λ l. f ∷ l) (insert_put es i n w (record { within = omega (arith, g.within); before = λ k e lt at. g.before (suc k) e (omega (arith, lt)) at; behind = g.behind }))
      ∙ sym (ap (λ r. by_order r ((n, w) ∷ f ∷ es) ((f.0, w) ∷ es) (f ∷ put nat_cmp n w es)) (compared_greater n f.0 (g.before 0 f (omega arith) refl)))

  remove_where : (es : List (ℕ × X)) (i n : ℕ) (e : ℕ × X) → T (is_sorted nat_cmp es) → slice_get es i ≡ Some e → e.0 ≡ n → remove es i ≡ where_key nat_cmp (λ k. not (nat_eq k n)) es
  remove_where [] i n e s at is = absurd (omega (arith, slice_get_within [] i e at))
  remove_where (f ∷ es) zero n e s at is =
      let first : f.0 ≡ n = ap (λ (g : ℕ × X). g.0) (get_or_from_slice_get (f ∷ es) 0 e f at) ∙ is in
      let tied : nat_eq f.0 n ≡ true = grind (arith, nat_tests, first) in
      sym (ap (λ b. cond (not b) (f ∷ where_key nat_cmp (λ k. not (nat_eq k n)) es) (where_key nat_cmp (λ k. not (nat_eq k n)) es)) tied ∙ all_stay es (both_true (below_all nat_cmp f.0 es) _ s).0)
    where
      all_stay : (gs : List (ℕ × X)) → T (below_all nat_cmp f.0 gs) → where_key nat_cmp (λ k. not (nat_eq k n)) gs ≡ gs
      all_stay [] h = refl
      all_stay (g ∷ gs) h =
          let b = both_true (is_lt (nat_cmp f.0 g.0)) _ h in
          let less = number_below f.0 g.0 (lesser _ b.0) in
          let first : f.0 ≡ n = ap (λ (x : ℕ × X). x.0) (get_or_from_slice_get (f ∷ es) 0 e f at) ∙ is in
          let apart : nat_eq g.0 n ≡ false = grind (arith, nat_tests, less, first) in
          ap (λ b. cond (not b) (g ∷ where_key nat_cmp (λ k. not (nat_eq k n)) gs) (where_key nat_cmp (λ k. not (nat_eq k n)) gs)) apart ∙ ap (λ l. g ∷ l) (all_stay gs b.1)
  remove_where (f ∷ es) (suc i) n e s at is =
      let b = both_true (below_all nat_cmp f.0 es) _ s in
      let less = below_at f.0 es i e b.0 at in
      let apart : nat_eq f.0 n ≡ false = grind (arith, nat_tests, less, is) in
      ap (λ l. f ∷ l) (remove_where es i n e b.1 at is) ∙ sym (ap (λ b. cond (not b) (f ∷ where_key nat_cmp (λ k. not (nat_eq k n)) es) (where_key nat_cmp (λ k. not (nat_eq k n)) es)) apart)

  -- what is found at a place, and that nothing is in a gap
  find_at : (es : List (ℕ × X)) (i n : ℕ) (e : ℕ × X) → T (is_sorted nat_cmp es) → slice_get es i ≡ Some e → e.0 ≡ n → find nat_cmp n es ≡ Some e.1
  find_at [] i n e s at is = absurd (omega (arith, slice_get_within [] i e at))
  find_at (f ∷ es) zero n e s at is =
      let same : f ≡ e = get_or_from_slice_get (f ∷ es) 0 e f at in
      ap (λ b. cond b (Some f.1) (find nat_cmp n es)) (ap is_eq (sym (nat_cmp_is n f.0 Equal (sym (ap (λ (g : ℕ × X). g.0) same ∙ is))))) ∙ ap (λ (g : ℕ × X). Some g.1) same
  find_at (f ∷ es) (suc i) n e s at is =
      let b = both_true (below_all nat_cmp f.0 es) _ s in
      let less = below_at f.0 es i e b.0 at in
      ap (λ r. cond (is_eq r) (Some f.1) (find nat_cmp n es)) (compared_greater n f.0 (omega (arith, less, is))) ∙ find_at es i n e b.1 at is

  find_gap : (es : List (ℕ × X)) (i n : ℕ) → T (is_sorted nat_cmp es) → IsGap es n i → find nat_cmp n es ≡ None
  find_gap [] i n s g = refl
  find_gap (f ∷ es) zero n s g =
      let less = g.behind f refl in
      ap (λ r. cond (is_eq r) (Some f.1) (find nat_cmp n es)) (compared_less n f.0 less) ∙ all_above es (both_true (below_all nat_cmp f.0 es) _ s).0
    where
      all_above : (gs : List (ℕ × X)) → T (below_all nat_cmp f.0 gs) → find nat_cmp n gs ≡ None
      all_above [] h = refl
      all_above (h ∷ gs) b =
          let p = both_true (is_lt (nat_cmp f.0 h.0)) _ b in
          let next = number_below f.0 h.0 (lesser _ p.0) in
          let first = g.behind f refl in
          ap (λ r. cond (is_eq r) (Some h.1) (find nat_cmp n gs)) (compared_less n h.0 (omega (arith, next, first))) ∙ all_above gs p.1
  find_gap (f ∷ es) (suc i) n s g =
      ap (λ r. cond (is_eq r) (Some f.1) (find nat_cmp n es)) (compared_greater n f.0 (g.before 0 f (omega arith) refl))
      ∙ find_gap es i n (both_true (below_all nat_cmp f.0 es) _ s).1 (record { within = omega (arith, g.within); before = λ k e lt at. g.before (suc k) e (omega (arith, lt)) at; behind = g.behind })

  -- Where a number would be: the numbers in front are below it, and the one behind is not
  abbrev pub AreBelow : List (ℕ × X) → ℕ → ℕ → Type 0
  AreBelow es n i = (k : ℕ) (d : ℕ × X) → 0 ≤ k → k < i → ltb (get_or es k d).0 n ≡ true

  before_gap : (es : List (ℕ × X)) (n i : ℕ) → AreBelow es n i → (k : ℕ) (e : ℕ × X) → k < i → slice_get es k ≡ Some e → e.0 < n
  before_gap es n i low k e lt at = let t = subst (λ (x : ℕ × X). ltb x.0 n ≡ true) (get_or_from_slice_get es k e e at) (low k e (omega arith) lt) in grind (arith, nat_tests, t)

  pub gap_at_end : (es : List (ℕ × X)) (n i : ℕ) → i ≤ length es → length es ≤ i → AreBelow es n i → IsGap es n i
  gap_at_end es n i within end low = record { within = within; before = before_gap es n i low; behind = λ e at. absurd (omega (arith, slice_get_within es i e at, end)) }

  pub gap_before : (es : List (ℕ × X)) (n i : ℕ) (d : ℕ × X) → i < length es → AreBelow es n i → ltb (get_or es i d).0 n ≡ false → ((get_or es i d).0 ≡ n → ⊥) → IsGap es n i
  gap_before es n i d within low high other = record {
    within = omega (arith, within);
    before = before_gap es n i low;
    behind = λ e at.
        let same = get_or_from_slice_get es i e d at in
        let not_below : n ≤ e.0 = (let t = subst (λ (x : ℕ × X). ltb x.0 n ≡ false) same high in grind (arith, nat_tests, t)) in
        let apart : e.0 ≡ n → ⊥ = subst (λ (x : ℕ × X). x.0 ≡ n → ⊥) same other in
        omega (arith, not_below, apart);
  }

  pub here_at : (es : List (ℕ × X)) (n i : ℕ) (d : ℕ × X) → i < length es → (get_or es i d).0 ≡ n → IsHere es n i
  here_at es n i d within is = record { within = within; here = λ e at. sym (ap (λ (x : ℕ × X). x.0) (get_or_from_slice_get es i e d at)) ∙ is }

-- The same of the slots of parties
module _ {P : Type 0} where
  abbrev slots_in : List (ℕ × (Option P × ℕ)) → SlotsRecord P
  slots_in es = record { slots = es }

  there : (es : List (ℕ × (Option P × ℕ))) (n i : ℕ) (e : ℕ × (Option P × ℕ)) → IsHere es n i → e ≡ get_or es i e → (slice_get es i ≡ Some e) × (e.0 ≡ n)
  there es n i e h is = let at = slice_get-get_or es i e h.within ∙ ap (λ x. Some x) (sym is) in (at, h.here e at)

  pub entry_here : (es : List (ℕ × (Option P × ℕ))) (n i : ℕ) (e : ℕ × (Option P × ℕ)) → T (is_sorted nat_cmp es) → IsHere es n i → e ≡ get_or es i e → Some e.1 ≡ entry_at (slots_in es) n
  entry_here es n i e s h is = let t = there es n i e h is in sym (looked_up n es ∙ find_at es i n e s t.0 t.1)

  pub entry_none : (es : List (ℕ × (Option P × ℕ))) (n i : ℕ) → T (is_sorted nat_cmp es) → IsGap es n i → entry_at (slots_in es) n ≡ None
  entry_none es n i s g = looked_up n es ∙ find_gap es i n s g

  put_found : (es : List (ℕ × (Option P × ℕ))) (n m : ℕ) (w : Option P × ℕ) → lookup (is_at (nat_cmp m)) (put nat_cmp n w es) ≡ cond (is_at (nat_cmp n) m) (Some w) (lookup (is_at (nat_cmp m)) es)
  put_found es n m w =
      looked_up m (put nat_cmp n w es) ∙ find-put nat_cmp nat_cmp_total m n w es
      ∙ (λ i. cond ((unsigned_tied m n ∙ eq_turned m n ∙ sym (unsigned_tied n m)) i) (Some w) (sym (looked_up m es) i))

  pub slot_written : (es : List (ℕ × (Option P × ℕ))) (n i : ℕ) (e : ℕ × (Option P × ℕ)) (w : Option P × ℕ) → T (is_sorted nat_cmp es) → IsHere es n i → e ≡ get_or es i e
      → (m : ℕ) → entry_at (slots_in (set es i (e.0, w))) m ≡ cond (is_at (nat_cmp n) m) (Some w) (entry_at (slots_in es) m)
  slot_written es n i e w s h is m =
      let t = there es n i e h is in
      ap (λ k. lookup (is_at (nat_cmp m)) (set es i (k, w))) t.1 ∙ ap (lookup (is_at (nat_cmp m))) (set_put es i n e w s t.0 t.1) ∙ put_found es n m w

  pub order_written : (es : List (ℕ × (Option P × ℕ))) (n i : ℕ) (e : ℕ × (Option P × ℕ)) (w : Option P × ℕ) → T (is_sorted nat_cmp es) → IsHere es n i → e ≡ get_or es i e → T (is_sorted nat_cmp (set es i (e.0, w)))
  order_written es n i e w s h is =
      let t = there es n i e h is in
      subst (λ l. T (is_sorted nat_cmp l)) (sym (ap (λ k. set es i (k, w)) t.1 ∙ set_put es i n e w s t.0 t.1)) (is_sorted-put nat_cmp nat_cmp_total n w es s)

  pub slot_put_in : (es : List (ℕ × (Option P × ℕ))) (n i : ℕ) (w : Option P × ℕ) → IsGap es n i → (m : ℕ) → entry_at (slots_in (insert es i (n, w))) m ≡ cond (is_at (nat_cmp n) m) (Some w) (entry_at (slots_in es) m)
  slot_put_in es n i w g m = ap (lookup (is_at (nat_cmp m))) (insert_put es i n w g) ∙ put_found es n m w

  pub order_put_in : (es : List (ℕ × (Option P × ℕ))) (n i : ℕ) (w : Option P × ℕ) → T (is_sorted nat_cmp es) → IsGap es n i → T (is_sorted nat_cmp (insert es i (n, w)))
  order_put_in es n i w s g = subst (λ l. T (is_sorted nat_cmp l)) (sym (insert_put es i n w g)) (is_sorted-put nat_cmp nat_cmp_total n w es s)

  -- one slot alone is this one then
  pub is_set : (n : ℕ) (w : Option P × ℕ) (old new : SlotsRecord P) → ((m : ℕ) → entry_at new m ≡ cond (is_at (nat_cmp n) m) (Some w) (entry_at old m)) → IsNow n (Some w) old new
  is_set n w old new written = record {
    here = written n ∙ ap (λ t. cond t (Some w) (entry_at old n)) (unsigned_tied n n ∙ nat_itself n);
    others = λ m apart. written m ∙ ap (λ t. cond t (Some w) (entry_at old m)) (unsigned_tied n m ∙ apart);
  }

  pub slot_gone : (es : List (ℕ × (Option P × ℕ))) (n i : ℕ) (e : ℕ × (Option P × ℕ)) → T (is_sorted nat_cmp es) → IsHere es n i → e ≡ get_or es i e → IsGone n (slots_in es) (slots_in (remove es i))
  slot_gone es n i e s h is = record { here = left n ∙ ap (λ b. cond (not b) (find nat_cmp n es) None) (nat_itself n); others = λ m apart. left m ∙ ap (λ b. cond (not b) (find nat_cmp m es) None) (eq_turned m n ∙ apart) ∙ sym (looked_up m es) }
    where
      left : (m : ℕ) → entry_at (slots_in (remove es i)) m ≡ cond (not (nat_eq m n)) (find nat_cmp m es) None
      left m =
          let t = there es n i e h is in
          ap (lookup (is_at (nat_cmp m))) (remove_where es i n e s t.0 t.1) ∙ looked_up m (where_key nat_cmp (λ k. not (nat_eq k n)) es)
          ∙ find-where_key nat_cmp (λ k. not (nat_eq k n)) m (λ x tied. ap (λ k. not (nat_eq k n)) (sym (same_numbers m x tied))) es

  pub order_left : (es : List (ℕ × (Option P × ℕ))) (n i : ℕ) (e : ℕ × (Option P × ℕ)) → T (is_sorted nat_cmp es) → IsHere es n i → e ≡ get_or es i e → T (is_sorted nat_cmp (remove es i))
  order_left es n i e s h is =
      let t = there es n i e h is in
      subst (λ l. T (is_sorted nat_cmp l)) (sym (remove_where es i n e s t.0 t.1)) (is_sorted-where_key nat_cmp (λ k. not (nat_eq k n)) es s)

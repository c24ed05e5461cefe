-- A change that is posted: what the sender stands for, and what it keeps, where it keeps the latest changes alone.
use Rattle.std.proofs.Common.{◌≡◌, ℕ, zero, suc, ◌+◌, ◌-◌, ◌<◌, List, [], ◌∷◌, ◌++◌, length, length-append, length-drop, drop, Some, Result, Ok, slice_get, refl, sym, ◌∙◌, ap, subst, arith, inl, inr}
use Rattle.std.proofs.lemmas.Bool.{cases_lt}
use Rattle.std.proofs.lemmas.List.{drop-append-le, drop-drop}
use Rattle.std.proofs.lemmas.Option.{slice_get_within}
use Rattle.fuxi_terms.specs.Limits.{kept_changes}
use Rattle.fuxi_terms.proofs.Lists.{got_grown}
use Rattle.fuxi_terms.specs.declared.answers.LedgerFault.{LedgerFault}
use Rattle.delta_channel.specs.Standing.{Sending, StandsFor, latest}
use Rattle.delta_channel.specs.Calls.{IsPosted}

module _ {X : Type 0} where
  got_dropped : (k : ℕ) (xs : List X) (i j : ℕ) → j ≡ k + i → slice_get (drop k xs) i ≡ slice_get xs j
  got_dropped zero xs i j e = let same : i ≡ j = omega arith in ap (slice_get xs) same
  got_dropped (suc k) [] i zero e = absurd (omega arith)
  got_dropped (suc k) [] i (suc j) e = refl
  got_dropped (suc k) (x ∷ xs) i zero e = absurd (omega arith)
  got_dropped (suc k) (x ∷ xs) i (suc j) e = got_dropped k xs i j (omega arith)

  got_last : (xs : List X) (x : X) (i : ℕ) → i ≡ length xs → slice_get (xs ++ x ∷ []) i ≡ Some x
  got_last [] x zero e = refl
  got_last [] x (suc i) e = absurd (omega arith)
  got_last (y ∷ xs) x zero e = absurd (omega arith)
  got_last (y ∷ xs) x (suc i) e = got_last xs x i (omega arith)

  -- the latest of the latest and one more are the latest of all and one more
  latest_more : (n : ℕ) (xs : List X) (x : X) → latest n (latest n xs ++ x ∷ []) ≡ latest n (xs ++ x ∷ [])
  latest_more n xs x =
      let k : ℕ = length xs - n in
      let joined : drop k xs ++ x ∷ [] ≡ drop k (xs ++ x ∷ []) = sym (drop-append-le k xs (x ∷ []) (omega arith)) in
      let long : k + (length (drop k xs ++ x ∷ []) - n) ≡ length (xs ++ x ∷ []) - n = simp (length-append, length-drop) (omega arith) in
      ap (drop (length (drop k xs ++ x ∷ []) - n)) joined ∙ drop-drop (length (drop k xs ++ x ∷ []) - n) k (xs ++ x ∷ []) ∙ ap (λ m. drop m (xs ++ x ∷ [])) long

module _ {V D : Type 0} (nothing : V) (patched : V → D → Result V LedgerFault) where
  -- fewer kept changes stand for the same history
  fewer : (s : Sending V D) (k : ℕ) (h : List V) → StandsFor nothing patched s h → StandsFor nothing patched (record { own = s.own; last = s.last; present = s.present; kept = drop k s.kept }) h
  fewer s k h st = record {
    first = st.first;
    long = st.long;
    at_last = st.at_last;
    few = simp length-drop (omega (arith, st.few));
    leads = λ i d is_d old new is_old is_new.
        let lt : i < length s.kept - k = subst (λ n. i < n) (length-drop k s.kept) (slice_get_within (drop k s.kept) i d is_d) in
        let base : s.last - length (drop k s.kept) + i ≡ s.last - length s.kept + (k + i) = simp length-drop (omega (arith, st.few, lt)) in
        st.leads (k + i) d (sym (got_dropped k s.kept i (k + i) refl) ∙ is_d) old new (subst (λ n. slice_get h n ≡ Some old) base is_old) (subst (λ n. slice_get h (n + 1) ≡ Some new) base is_new);
  }

  -- a change more, with all that were kept
  further : (s : Sending V D) (d : D) (v : V) (h : List V) → patched s.present d ≡ Ok v → StandsFor nothing patched s h
      → StandsFor nothing patched (record { own = s.own; last = s.last + 1; present = v; kept = s.kept ++ d ∷ [] }) (h ++ v ∷ [])
  further s d v h made st = record {
    first = got_grown h (v ∷ []) 0 (omega (arith, st.long)) ∙ st.first;
    long = simp length-append (omega (arith, st.long));
    at_last = got_last h v (s.last + 1) (omega (arith, st.long));
    few = simp length-append (omega (arith, st.few));
    leads = λ i e is_e old new is_old is_new.
        let within : i < length s.kept + 1 = subst (λ n. i < n) (length-append s.kept (d ∷ [])) (slice_get_within (s.kept ++ d ∷ []) i e is_e) in
        let base : s.last + 1 - length (s.kept ++ d ∷ []) + i ≡ s.last - length s.kept + i = simp length-append (omega (arith, st.few)) in
        let old_is : slice_get (h ++ v ∷ []) (s.last - length s.kept + i) ≡ Some old = subst (λ n. slice_get (h ++ v ∷ []) n ≡ Some old) base is_old in
        let new_is : slice_get (h ++ v ∷ []) (s.last - length s.kept + i + 1) ≡ Some new = subst (λ n. slice_get (h ++ v ∷ []) (n + 1) ≡ Some new) base is_new in
        elim (cases_lt i (length s.kept)) [
          | inl lt ↦ st.leads i e (sym (got_grown s.kept (d ∷ []) i lt) ∙ is_e) old new
              (sym (got_grown h (v ∷ []) _ (omega (arith, st.long, st.few))) ∙ old_is)
              (sym (got_grown h (v ∷ []) _ (omega (arith, st.long, st.few))) ∙ new_is)
          | inr le ↦
              let at : i ≡ length s.kept = omega arith in
              let same_d : Some d ≡ Some e = sym (got_last s.kept d i at) ∙ is_e in
              let here : s.last - length s.kept + i ≡ s.last = omega (arith, st.few) in
              let same_old : Some s.present ≡ Some old = sym (got_grown h (v ∷ []) s.last (omega (arith, st.long)) ∙ st.at_last) ∙ subst (λ n. slice_get (h ++ v ∷ []) n ≡ Some old) here old_is in
              let same_new : Some v ≡ Some new = sym (got_last h v (s.last + 1) (omega (arith, st.long))) ∙ subst (λ n. slice_get (h ++ v ∷ []) (n + 1) ≡ Some new) here new_is in
              cc
        ];
  }

  -- the change is kept, and the oldest goes where there is no room
  pub posted : (s : Sending V D) (change : D) (v : V) (kept : List D) (capacity : ℕ) → patched s.present change ≡ Ok v → capacity ≡ kept_changes → kept ≡ latest capacity (s.kept ++ change ∷ [])
      → IsPosted nothing patched change s (record { own = s.own; last = s.last + 1; present = v; kept = kept })
  posted s change v kept capacity made room is = record {
    made = made;
    next = refl;
    own = refl;
    keeps = λ changes keeps. is ∙ ap (λ n. latest n (s.kept ++ change ∷ [])) room ∙ ap (λ ds. latest kept_changes (ds ++ change ∷ [])) keeps ∙ latest_more kept_changes changes change;
    stands = λ h stands.
        let all : Sending V D = record { own = s.own; last = s.last + 1; present = v; kept = s.kept ++ change ∷ [] } in
        subst (λ ds. StandsFor nothing patched (record { own = s.own; last = s.last + 1; present = v; kept = ds }) (h ++ v ∷ [])) (sym is) (fewer all (length (s.kept ++ change ∷ []) - capacity) (h ++ v ∷ []) (further s change v h made stands));
  }

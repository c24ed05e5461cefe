-- Of the orders of a list one is that by the votes and then by the number: the marked machines in it are those of which the judged are the first.
use Rattle.std.proofs.Common.{◌≡◌, inl, inr, ℕ, ◌+◌, ◌-◌, ◌<◌, ◌≤◌, suc, Bool, true, false, cond, nat_eq, List, [], ◌∷◌, length, filter, All, refl, sym, ap, ap₂, ◌∙◌, subst, arith, IsPermutation}
use Rattle.std.specs.List.{AllByRecursion}
use Rattle.std.proofs.lemmas.Bool.{cases_Bool}
use Rattle.fuxi_terms.specs.Lists.{below}
use Rattle.fuxi_terms.proofs.Booleans.{number_is, nat_itself}
use Rattle.spec_roles.specs.ServedInOrder.{AreOrdered}
use Rattle.spec_roles.specs.Votes.{VotesRecord, GoesBefore, IsNotBehind, is_marked, most_votes, open_from}
use Rattle.spec_roles.proofs.ServedInOrderLemmas.{ordered_more}
use Rattle.spec_roles.proofs.VotesLemmas.{from_order, times, times-filter, times_marked, times_moved, votes_within}

-- what stands in a list is as all in it are
there : (P : ℕ → Type 0) (z : ℕ) (xs : List ℕ) → 0 < times z xs → AllByRecursion P xs → P z
there P z [] h all = absurd (omega (arith, h))
there P z (x ∷ xs) h all = elim (cases_Bool (nat_eq z x)) [
  | inl same ↦ subst P (sym (number_is z x same)) all.0
  | inr other ↦ there P z xs (subst (λ b. 0 < cond b (1 + times z xs) (times z xs)) other h) all.1
]

times_head : (x : ℕ) (xs : List ℕ) → times x (x ∷ xs) ≡ 1 + times x xs
times_head x xs = ap (λ b. cond b (1 + times x xs) (times x xs)) (nat_itself x)

same_rest : (b : Bool) (m n : ℕ) → cond b (1 + m) m ≡ cond b (1 + n) n → m ≡ n
same_rest true m n h = omega (arith, h)
same_rest false m n h = h

module _ (v : VotesRecord) where
  itself : (x : ℕ) → IsNotBehind v x x
  itself x = inr (refl, omega arith)

  alike : (x y : ℕ) → IsNotBehind v x y → IsNotBehind v y x → x ≡ y
  alike x y (inl h) (inl k) = absurd (omega (arith, h, k))
  alike x y (inl h) (inr k) = absurd (omega (arith, h, k.0))
  alike x y (inr h) (inl k) = absurd (omega (arith, h.0, k))
  alike x y (inr h) (inr k) = omega (arith, h.1, k.1)

  one_order : (xs ys : List ℕ) → AreOrdered (IsNotBehind v) xs → AreOrdered (IsNotBehind v) ys → ((z : ℕ) → times z xs ≡ times z ys) → xs ≡ ys
  one_order [] [] h k same = refl
  one_order [] (y ∷ ys) h k same = absurd (omega (arith, same y, times_head y ys))
  one_order (x ∷ xs) [] h k same = absurd (omega (arith, same x, times_head x xs))
  one_order (x ∷ xs) (y ∷ ys) h k same =
      let up : IsNotBehind v y x = there (IsNotBehind v y) x (y ∷ ys) (omega (arith, same x, times_head x xs)) (itself y, k.0) in
      let down : IsNotBehind v x y = there (IsNotBehind v x) y (x ∷ xs) (omega (arith, same y, times_head y ys)) (itself x, h.0) in
      let head : x ≡ y = alike x y down up in
      let rest : (z : ℕ) → times z xs ≡ times z ys = λ z. same_rest (nat_eq z x) (times z xs) (times z ys) (same z ∙ ap (λ w. cond (nat_eq z w) (1 + times z ys) (times z ys)) (sym head)) in
      ap₂ (λ z zs. z ∷ zs) head (one_order xs ys h.1 k.1 rest)

  -- the marked machines in that order
  pub marked_sorted : (least : ℕ) (ms : List ℕ) → All (λ n. n ≤ most_votes) v.votes → IsPermutation (filter (is_marked v least) (below (length v.votes))) ms → AreOrdered (IsNotBehind v) ms → ms ≡ open_from v least (suc most_votes - least)
  marked_sorted least ms within moved order =
      one_order ms (open_from v least (suc most_votes - least)) order
      (ordered_more (GoesBefore v) (IsNotBehind v) (λ x y h. elim h [ inl more ↦ inl more | inr tie ↦ inr (tie.0, omega (arith, tie.1)) ]) (open_from v least (suc most_votes - least)) (from_order v least (suc most_votes - least)))
      (λ z. times_moved z (filter (is_marked v least) (below (length v.votes))) ms moved ∙ times-filter z (is_marked v least) (below (length v.votes)) ∙ sym (times_marked v z least (votes_within v within z)))

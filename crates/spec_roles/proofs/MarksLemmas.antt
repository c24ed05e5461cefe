-- A job marks a machine exactly where it wants something and all that it wants avoids the machine.
use Rattle.std.proofs.Common.{◌≡◌, ℕ, zero, suc, ◌<◌, inl, inr, Bool, true, false, not, nat_lt, [], ◌∷◌, length, refl, sym, ap, ◌∙◌, subst, arith}
use Rattle.std.specs.Prelude.{◌&&◌, ◌||◌}
use Rattle.std.specs.List.{list_any, list_all}
use Rattle.std.proofs.lemmas.Bool.{cases_lt}
use Rattle.std.proofs.lemmas.Bool.Decides.{nat_tests}
use Rattle.std.proofs.lemmas.List.Folds.{list_all-append, list_any-append}
use Rattle.fuxi_terms.specs.Jobs.{KnownJob}
use Rattle.fuxi_terms.specs.Lists.{below}
use Rattle.fuxi_terms.specs.TallyKeys.{want_key, avoid_key}
use Rattle.fuxi_terms.proofs.Booleans.{and_true, both_true, or_false, or_left, or_right, not_true}
use Rattle.spec_roles.specs.Masters.{Master, asked, avoids}
use Rattle.spec_roles.specs.Votes.{IsMark, is_wanted, marks}

-- Tests of the numbers below n: a number that passes
record Passes (p : ℕ → Bool) (n : ℕ) : Type 0 where
  place : ℕ
  low : place < n
  is : p place ≡ true

passes_more : (p : ℕ → Bool) (n : ℕ) (b : Bool) → (b ≡ true → Passes p n) → (b || (p n || false)) ≡ true → Passes p (suc n)
passes_more p n true k e = let s = k refl in record { place = s.place; low = (let low = s.low in omega (arith, low)); is = s.is }
passes_more p n false k e = record { place = n; low = omega arith; is = sym (or_false (p n)) ∙ e }

some_below : (p : ℕ → Bool) (n : ℕ) → list_any p (below n) ≡ true → Passes p n
some_below p zero e = cc
some_below p (suc n) e = passes_more p n (list_any p (below n)) (some_below p n) (sym (list_any-append p (below n) (n ∷ [])) ∙ e)

any_below : (p : ℕ → Bool) (n i : ℕ) → i < n → p i ≡ true → list_any p (below n) ≡ true
any_below p zero i low t = absurd (omega (arith, low))
any_below p (suc n) i low t = list_any-append p (below n) (n ∷ []) ∙ elim (cases_lt i n) [
  | inl less ↦ or_left (list_any p (below n)) (p n || false) (any_below p n i less t)
  | inr same ↦ let is : n ≡ i = omega (arith, low, same) in or_right (list_any p (below n)) (p n || false) (or_left (p n) false (ap p is ∙ t))
]

all_below : (p : ℕ → Bool) (n : ℕ) → list_all p (below n) ≡ true → (i : ℕ) → i < n → p i ≡ true
all_below p zero e i low = absurd (omega (arith, low))
all_below p (suc n) e i low =
    let parts = both_true (list_all p (below n)) (p n && true) (sym (list_all-append p (below n) (n ∷ [])) ∙ e) in
    elim (cases_lt i n) [
      | inl less ↦ all_below p n parts.0 i less
      | inr same ↦ let is : n ≡ i = omega (arith, low, same) in subst (λ k. p k ≡ true) is (both_true (p n) true parts.1).0
    ]

each_below : (p : ℕ → Bool) (n : ℕ) → ((i : ℕ) → i < n → p i ≡ true) → list_all p (below n) ≡ true
each_below p zero h = refl
each_below p (suc n) h =
    list_all-append p (below n) (n ∷ []) ∙ and_true (list_all p (below n)) (p n && true) (each_below p n (λ i low. h i (omega (arith, low)))) (and_true (p n) true (h n (omega arith)) refl)

-- what is wanted avoids the machine
wanted_avoids : (want avoid : ℕ) → (not (nat_lt 0 want) || nat_lt 0 avoid) ≡ true → 0 < want → 0 < avoid
wanted_avoids want avoid t some =
    let wanted : nat_lt 0 want ≡ true = grind (arith, nat_tests, some) in
    let left : nat_lt 0 avoid ≡ true = sym (ap (λ b. not b || nat_lt 0 avoid) wanted) ∙ t in
    grind (arith, nat_tests, left)

if_wanted : (want avoid : ℕ) → (0 < want → 0 < avoid) → (not (nat_lt 0 want) || nat_lt 0 avoid) ≡ true
if_wanted want avoid h = by (nat_lt 0 want) refl
  where
    by : (b : Bool) → nat_lt 0 want ≡ b → (not b || nat_lt 0 avoid) ≡ true
    by true t = let some : 0 < want = grind (arith, nat_tests, t) in let more : 0 < avoid = h some in grind (arith, nat_tests, more)
    by false t = refl

module _ (M : Master) (j : KnownJob) (m : ℕ) where
  abbrev all_avoid : ℕ → Bool
  all_avoid u = not (is_wanted M j.job.number u) || avoids M j.job.number u m

  pub is_mark : marks M j m ≡ true → IsMark M j m
  is_mark e =
      let a : ℕ = j.job.number in
      let n : ℕ = length j.job.units in
      let parts = both_true (not j.ended) (list_any (is_wanted M a) (below n) && list_all all_avoid (below n)) e in
      let both = both_true (list_any (is_wanted M a) (below n)) (list_all all_avoid (below n)) parts.1 in
      let one = some_below (is_wanted M a) n both.0 in
      record {
        live = not_true j.ended parts.0;
        unit = one.place;
        there = one.low;
        wanted = (let t = one.is in grind (arith, nat_tests, t));
        avoided = λ u low want. wanted_avoids (asked M a (want_key u)) (asked M a (avoid_key u m)) (all_below all_avoid n both.1 u low) want;
      }

  pub marks_so : IsMark M j m → marks M j m ≡ true
  marks_so k =
      let a : ℕ = j.job.number in
      let n : ℕ = length j.job.units in
      let some = k.wanted in
      and_true (not j.ended) (list_any (is_wanted M a) (below n) && list_all all_avoid (below n)) (ap not k.live)
      (and_true (list_any (is_wanted M a) (below n)) (list_all all_avoid (below n)) (any_below (is_wanted M a) n k.unit k.there (grind (arith, nat_tests, some)))
      (each_below all_avoid n (λ u low. if_wanted (asked M a (want_key u)) (asked M a (avoid_key u m)) (k.avoided u low))))

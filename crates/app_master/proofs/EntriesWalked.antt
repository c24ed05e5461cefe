-- What a walk along the entries of grants writes at an entry, and what is left for those behind it.
use Rattle.std.proofs.Common.{◌≡◌, ℕ, ◌≤◌, ◌<◌, Bool, true, false, cond, nat_eq, nat_lt, List, ◌∷◌, Option, Some, refl, sym, ◌∙◌, ap, arith}
use Rattle.std.specs.Prelude.{◌&&◌}
use Rattle.std.specs.Option.{unwrap_or}
use Rattle.std.specs.Ordering.{eq_by_cmp}
use Rattle.std.specs.FinMap.Entries.{find}
use Rattle.std.proofs.lemmas.Bool.Decides.{nat_tests}
use Rattle.fuxi_terms.specs.declared.Key.{Key}
use Rattle.fuxi_terms.specs.Counts.{count}
use Rattle.fuxi_terms.specs.Keys.{key_cmp}
use Rattle.fuxi_terms.specs.TallyKeys.{key, reported_key, count_key, greatest_grant}
use Rattle.fuxi_terms.proofs.Booleans.{both_true, eq_turned, number_is}
use Rattle.app_master.proofs.KeysByNumbers.{tie_is}

-- what stands at a place of which nothing is known
abbrev pub no_entry : Key × ℕ
no_entry = (key 0 0 0, 0)

unwrapped : (b : Bool) (n : ℕ) (o : Option ℕ) → unwrap_or (cond b (Some n) o) 0 ≡ cond b n (unwrap_or o 0)
unwrapped true n o = refl
unwrapped false n o = refl

either_same : (b : Bool) (n : ℕ) → cond b n n ≡ n
either_same true n = refl
either_same false n = refl

-- an entry of the kind that reports is of unit 0, with the number 1
reports : (e : Key × ℕ) → 0 < e.1 → e.1 ≤ greatest_grant e.0 → e.0.what ≡ 1 → (e.0.unit ≡ 0) × (e.1 ≡ 1)
reports e p h is = (grind (arith, nat_tests, p, h, is), grind (arith, nat_tests, p, h, is))

module _ (e : Key × ℕ) (rest : List (Key × ℕ)) where
  -- what is counted from an entry on is its number at its key, and at any other what is counted behind it
  counted : (k : Key) (b : Bool) → (nat_eq k.what e.0.what && (nat_eq k.unit e.0.unit && nat_eq k.number e.0.number)) ≡ b → count key_cmp (e ∷ rest) k ≡ cond b e.1 (count key_cmp rest k)
  counted k b is = unwrapped (eq_by_cmp key_cmp k e.0) e.1 (find key_cmp k rest) ∙ ap (λ b. cond b e.1 (count key_cmp rest k)) (tie_is k e.0 ∙ is)

  -- an entry that reports no machine
  pub reports_none : (m x : ℕ) → nat_eq e.0.what 1 ≡ false → cond (nat_eq (count key_cmp rest (reported_key m)) 1) 0 x ≡ cond (nat_eq (count key_cmp (e ∷ rest) (reported_key m)) 1) 0 x
  reports_none m x other = ap (λ n. cond (nat_eq n 1) 0 x) (sym (counted (reported_key m) false (ap (λ b. b && (nat_eq 0 e.0.unit && nat_eq m e.0.number)) (eq_turned 1 e.0.what ∙ other))))

  -- an entry that reports one
  pub reports_one : (m x : ℕ) → 0 < e.1 → e.1 ≤ greatest_grant e.0 → e.0.what ≡ 1
      → cond (nat_eq (count key_cmp rest (reported_key m)) 1) 0 (cond (nat_eq m e.0.number) 0 x) ≡ cond (nat_eq (count key_cmp (e ∷ rest) (reported_key m)) 1) 0 x
  reports_one m x positive within is =
      let so = reports e positive within is in
      by (nat_eq m e.0.number) (count key_cmp rest (reported_key m))
      ∙ sym (ap (λ n. cond (nat_eq n 1) 0 x) (counted (reported_key m) (nat_eq m e.0.number) (λ i. nat_eq 1 (is i) && (nat_eq 0 (so.0 i) && nat_eq m e.0.number)) ∙ ap (λ n. cond (nat_eq m e.0.number) n (count key_cmp rest (reported_key m))) so.1))
    where
      by : (b : Bool) (n : ℕ) → cond (nat_eq n 1) 0 (cond b 0 x) ≡ cond (nat_eq (cond b 1 n) 1) 0 x
      by true n = either_same (nat_eq n 1) 0
      by false n = refl

  -- ---- of any test of machines, and any number of a unit on a machine
  module _ (named : ℕ → Bool) (f : ℕ → ℕ → ℕ) (units u m x : ℕ) where
    -- what is to be written of the machine where these entries count the unit on it, and else what there is
    abbrev pub written : List (Key × ℕ) → ℕ → ℕ
    written es y = cond (named m && nat_lt 0 (count key_cmp es (count_key u m))) (f u m) y

    -- an entry that is no count of one of the first units on a machine that passes
    pub counts_none : u < units → (nat_eq e.0.what 2 && (nat_lt e.0.unit units && named e.0.number)) ≡ false → written rest x ≡ written (e ∷ rest) x
    counts_none few other = by (nat_eq 2 e.0.what && (nat_eq u e.0.unit && nat_eq m e.0.number)) refl
      where
        by : (b : Bool) → (nat_eq 2 e.0.what && (nat_eq u e.0.unit && nat_eq m e.0.number)) ≡ b → written rest x ≡ written (e ∷ rest) x
        by true t =
            let same = both_true (nat_eq 2 e.0.what) _ t in
            let place = both_true (nat_eq u e.0.unit) _ same.1 in
            let what : nat_eq e.0.what 2 ≡ true = eq_turned e.0.what 2 ∙ same.0 in
            let unit : u ≡ e.0.unit = number_is u e.0.unit place.0 in
            let inside : nat_lt e.0.unit units ≡ true = grind (arith, nat_tests, few, unit) in
            let unnamed : named m ≡ false = ap named (number_is m e.0.number place.1) ∙ sym (λ i. what i && (inside i && named e.0.number)) ∙ other in
            ap (λ b. cond (b && nat_lt 0 (count key_cmp rest (count_key u m))) (f u m) x) unnamed ∙ sym (ap (λ b. cond (b && nat_lt 0 (count key_cmp (e ∷ rest) (count_key u m))) (f u m) x) unnamed)
        by false t = ap (λ n. cond (named m && nat_lt 0 n) (f u m) x) (sym (counted (count_key u m) false t))

    -- an entry that is one
    pub counts_one : 0 < e.1 → (nat_eq e.0.what 2 && (nat_lt e.0.unit units && named e.0.number)) ≡ true → written rest (cond (nat_eq u e.0.unit && nat_eq m e.0.number) (f e.0.unit e.0.number) x) ≡ written (e ∷ rest) x
    counts_one positive is = by (nat_eq u e.0.unit && nat_eq m e.0.number) refl
      where
        parts : (nat_eq e.0.what 2 ≡ true) × ((nat_lt e.0.unit units && named e.0.number) ≡ true)
        parts = both_true (nat_eq e.0.what 2) _ is

        here : (b : Bool) → (nat_eq u e.0.unit && nat_eq m e.0.number) ≡ b → count key_cmp (e ∷ rest) (count_key u m) ≡ cond b e.1 (count key_cmp rest (count_key u m))
        here b t = counted (count_key u m) b (ap (λ w. w && (nat_eq u e.0.unit && nat_eq m e.0.number)) (eq_turned 2 e.0.what ∙ parts.0) ∙ t)

        by : (b : Bool) → (nat_eq u e.0.unit && nat_eq m e.0.number) ≡ b → written rest (cond (nat_eq u e.0.unit && nat_eq m e.0.number) (f e.0.unit e.0.number) x) ≡ written (e ∷ rest) x
        by true t =
            let place = both_true (nat_eq u e.0.unit) _ t in
            let unit = number_is u e.0.unit place.0 in
            let machine = number_is m e.0.number place.1 in
            let passes : named m ≡ true = ap named machine ∙ (both_true (nat_lt e.0.unit units) _ parts.1).1 in
            let some : nat_lt 0 e.1 ≡ true = grind (arith, nat_tests, positive) in
            ap (written rest) (ap (λ b. cond b (f e.0.unit e.0.number) x) t ∙ sym (λ i. f (unit i) (machine i)))
            ∙ either_same (named m && nat_lt 0 (count key_cmp rest (count_key u m))) (f u m)
            ∙ sym (ap (λ n. cond (named m && nat_lt 0 n) (f u m) x) (here true t) ∙ (λ i. cond (passes i && some i) (f u m) x))
        by false t = ap (written rest) (ap (λ b. cond b (f e.0.unit e.0.number) x) t) ∙ ap (λ n. cond (named m && nat_lt 0 n) (f u m) x) (sym (here false t))

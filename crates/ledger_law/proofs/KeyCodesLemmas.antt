-- The numbers of keys stand in the order of the keys.
use Rattle.std.proofs.Common.{◌≡◌, ◌<◌, Bool, true, false, nat_lt, sym, refl, ◌∙◌, ap, arith}
use Rattle.std.specs.Cmp.{nat_cmp_is}
use Rattle.std.specs.Ordering.{nat_cmp, ordering_then}
use Rattle.std.specs.declared.cmp.Ordering.{Ordering}
use Rattle.std.specs.declared.cmp.Ordering.TheVariants.{Less, Equal, Greater}
use Rattle.std.proofs.lemmas.Bool.Decides.{nat_tests}
use Rattle.fuxi_terms.specs.declared.Key.{Key}
use Rattle.fuxi_terms.specs.Keys.{key_cmp}
use Rattle.ledger_law.specs.KeyCodes.{key_code}

module _ (a b : Key) (a_unit : a.unit < 256) (b_unit : b.unit < 256) (a_number : a.number < 4294967296) (b_number : b.number < 4294967296) where
  abbrev coded : Ordering
  coded = nat_cmp (key_code a) (key_code b)

  by_number : a.what ≡ b.what → a.unit ≡ b.unit → (x : Bool) → nat_lt a.number b.number ≡ x → (y : Bool) → nat_lt b.number a.number ≡ y → nat_cmp a.number b.number ≡ coded
  by_number w u true h y k = sym (nat_cmp_is a.number b.number Less (grind (arith, nat_tests, h))) ∙ nat_cmp_is (key_code a) (key_code b) Less (grind (arith, nat_tests, h, w, u))
  by_number w u false h true k = sym (nat_cmp_is a.number b.number Greater (grind (arith, nat_tests, k))) ∙ nat_cmp_is (key_code a) (key_code b) Greater (grind (arith, nat_tests, k, w, u))
  by_number w u false h false k = sym (nat_cmp_is a.number b.number Equal (grind (arith, nat_tests, h, k))) ∙ nat_cmp_is (key_code a) (key_code b) Equal (grind (arith, nat_tests, h, k, w, u))

  by_unit : a.what ≡ b.what → (x : Bool) → nat_lt a.unit b.unit ≡ x → (y : Bool) → nat_lt b.unit a.unit ≡ y → ordering_then (nat_cmp a.unit b.unit) (nat_cmp a.number b.number) ≡ coded
  by_unit w true h y k = ap (λ r. ordering_then r (nat_cmp a.number b.number)) (sym (nat_cmp_is a.unit b.unit Less (grind (arith, nat_tests, h)))) ∙ nat_cmp_is (key_code a) (key_code b) Less (grind (arith, nat_tests, h, w, a_number))
  by_unit w false h true k = ap (λ r. ordering_then r (nat_cmp a.number b.number)) (sym (nat_cmp_is a.unit b.unit Greater (grind (arith, nat_tests, k)))) ∙ nat_cmp_is (key_code a) (key_code b) Greater (grind (arith, nat_tests, k, w, b_number))
  by_unit w false h false k =
      let u : a.unit ≡ b.unit = grind (arith, nat_tests, h, k) in
      ap (λ r. ordering_then r (nat_cmp a.number b.number)) (sym (nat_cmp_is a.unit b.unit Equal u)) ∙ by_number w u (nat_lt a.number b.number) refl (nat_lt b.number a.number) refl

  by_what : (x : Bool) → nat_lt a.what b.what ≡ x → (y : Bool) → nat_lt b.what a.what ≡ y → key_cmp a b ≡ coded
  by_what true h y k = ap (λ r. ordering_then r (ordering_then (nat_cmp a.unit b.unit) (nat_cmp a.number b.number))) (sym (nat_cmp_is a.what b.what Less (grind (arith, nat_tests, h)))) ∙ nat_cmp_is (key_code a) (key_code b) Less (grind (arith, nat_tests, h, a_unit, a_number))
  by_what false h true k = ap (λ r. ordering_then r (ordering_then (nat_cmp a.unit b.unit) (nat_cmp a.number b.number))) (sym (nat_cmp_is a.what b.what Greater (grind (arith, nat_tests, k)))) ∙ nat_cmp_is (key_code a) (key_code b) Greater (grind (arith, nat_tests, k, b_unit, b_number))
  by_what false h false k =
      let w : a.what ≡ b.what = grind (arith, nat_tests, h, k) in
      ap (λ r. ordering_then r (ordering_then (nat_cmp a.unit b.unit) (nat_cmp a.number b.number))) (sym (nat_cmp_is a.what b.what Equal w)) ∙ by_unit w (nat_lt a.unit b.unit) refl (nat_lt b.unit a.unit) refl

  pub coded_order : key_cmp a b ≡ nat_cmp (key_code a) (key_code b)
  coded_order = by_what (nat_lt a.what b.what) refl (nat_lt b.what a.what) refl

-- The order of keys by tests of their three numbers.
use Rattle.std.proofs.Common.{◌≡◌, ℕ, Bool, nat_eq, nat_lt, refl, ◌∙◌, arith}
use Rattle.std.specs.Prelude.{◌&&◌, ◌||◌}
use Rattle.std.specs.Ordering.{nat_cmp, eq_by_cmp, is_eq, is_lt, ordering_then}
use Rattle.std.specs.declared.cmp.Ordering.{Ordering}
use Rattle.std.specs.declared.cmp.Ordering.TheVariants.{Less, Equal, Greater}
use Rattle.std.proofs.lemmas.Bool.Decides.{nat_tests}
use Rattle.fuxi_terms.specs.declared.Key.{Key}
use Rattle.fuxi_terms.specs.Keys.{key_cmp}

then_eq : (r s : Ordering) → is_eq (ordering_then r s) ≡ (is_eq r && is_eq s)
then_eq Less s = refl
then_eq Equal s = refl
then_eq Greater s = refl

then_lt : (r s : Ordering) → is_lt (ordering_then r s) ≡ (is_lt r || (is_eq r && is_lt s))
then_lt Less s = refl
then_lt Equal s = refl
then_lt Greater s = refl

number_eq : (a b : ℕ) → is_eq (nat_cmp a b) ≡ nat_eq a b
number_eq a b = grind (arith, nat_tests)

number_lt : (a b : ℕ) → is_lt (nat_cmp a b) ≡ nat_lt a b
number_lt a b = grind (arith, nat_tests)

-- two keys tie where their numbers are the same
pub tie_is : (a b : Key) → eq_by_cmp key_cmp a b ≡ (nat_eq a.what b.what && (nat_eq a.unit b.unit && nat_eq a.number b.number))
tie_is a b =
    step (nat_cmp a.what b.what) (ordering_then (nat_cmp a.unit b.unit) (nat_cmp a.number b.number)) _ _ (number_eq a.what b.what)
    (step (nat_cmp a.unit b.unit) (nat_cmp a.number b.number) _ _ (number_eq a.unit b.unit) (number_eq a.number b.number))
  where
    step : (r s : Ordering) (e m : Bool) → is_eq r ≡ e → is_eq s ≡ m → is_eq (ordering_then r s) ≡ (e && m)
    step r s e m g h = then_eq r s ∙ (λ i. g i && h i)

-- a key is below another by its first number that differs
abbrev pub is_below : Key → Key → Bool
is_below a b = nat_lt a.what b.what || (nat_eq a.what b.what && (nat_lt a.unit b.unit || (nat_eq a.unit b.unit && nat_lt a.number b.number)))

pub less_is : (a b : Key) → is_lt (key_cmp a b) ≡ is_below a b
less_is a b =
    step (nat_cmp a.what b.what) (ordering_then (nat_cmp a.unit b.unit) (nat_cmp a.number b.number)) _ _ _ (number_lt a.what b.what) (number_eq a.what b.what)
    (step (nat_cmp a.unit b.unit) (nat_cmp a.number b.number) _ _ _ (number_lt a.unit b.unit) (number_eq a.unit b.unit) (number_lt a.number b.number))
  where
    step : (r s : Ordering) (l e m : Bool) → is_lt r ≡ l → is_eq r ≡ e → is_lt s ≡ m → is_lt (ordering_then r s) ≡ (l || (e && m))
    step r s l e m f g h = then_lt r s ∙ (λ i. f i || (g i && h i))

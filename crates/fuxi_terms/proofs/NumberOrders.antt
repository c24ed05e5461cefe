-- What the order of numbers says of two of them.
use Rattle.std.proofs.Common.{◌≡◌, ℕ, ◌<◌, true, nat_eq, refl, sym, ◌∙◌, ap, subst, arith}
use Rattle.std.specs.Prelude.{◌&&◌}
use Rattle.std.specs.Ordering.{MatchOrdering, nat_cmp, ordering_then, is_eq, is_lt}
use Rattle.std.specs.Cmp.{ranks, nat_cmp_is, tied_itself}
use Rattle.std.specs.declared.cmp.Ordering.{Ordering}
use Rattle.std.specs.declared.cmp.Ordering.TheVariants.{Less, Equal, Greater}
use Rattle.std.proofs.lemmas.Cmp.{nat_cmp_total}
use Rattle.std.proofs.lemmas.Map.Lookups.{exact_unsigned}
use Rattle.std.proofs.lemmas.Bool.Decides.{nat_tests}
use Rattle.fuxi_terms.proofs.Booleans.{number_is, same_tests}
use Rattle.fuxi_terms.proofs.CountsLemmas.{tied}

pub is_less : (r : Ordering) → is_lt r ≡ true → r ≡ Less
is_less Less e = refl
is_less Equal e = cc
is_less Greater e = cc

pub number_below : (a b : ℕ) → nat_cmp a b ≡ Less → a < b
number_below a b is = subst (λ r. MatchOrdering r (a < b) (a ≡ b) (b < a)) is (ranks a b)

pub same_numbers : (a b : ℕ) → nat_cmp a b ≡ Equal → a ≡ b
same_numbers a b is = subst (λ r. MatchOrdering r (a < b) (a ≡ b) (b < a)) is (ranks a b)

pub compared_less : (a b : ℕ) → a < b → nat_cmp a b ≡ Less
compared_less a b lt = sym (nat_cmp_is a b Less lt)

pub compared_greater : (a b : ℕ) → b < a → nat_cmp a b ≡ Greater
compared_greater a b lt = sym (nat_cmp_is a b Greater lt)

pub compared_itself : (n : ℕ) → nat_cmp n n ≡ Equal
compared_itself n = tied_itself nat_cmp_total n

-- two numbers tie where they are the same
pub ties : (a b : ℕ) → is_eq (nat_cmp a b) ≡ nat_eq a b
ties a b = same_tests (is_eq (nat_cmp a b)) (nat_eq a b)
    (λ t. let same = exact_unsigned a b (tied _ t) in grind (arith, nat_tests, same))
    (λ t. ap (λ k. is_eq (nat_cmp a k)) (sym (number_is a b t)) ∙ ap is_eq (compared_itself a))

-- two pairs tie where both of their parts do
pub then_ties : (r s : Ordering) → is_eq (ordering_then r s) ≡ (is_eq r && is_eq s)
then_ties Less s = refl
then_ties Equal s = refl
then_ties Greater s = refl

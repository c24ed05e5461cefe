-- Tests, and choices by a test.
use Rattle.std.proofs.Common.{◌≡◌, ◌≢◌, ℕ, ◌*◌, ◌≤◌, Bool, true, false, cond, not, nat_eq, refl, sym, arith}
use Rattle.std.specs.Prelude.{◌&&◌, ◌||◌}
use Rattle.std.specs.Bool.{beq}
use Rattle.std.proofs.lemmas.Bool.Decides.{nat_tests}

pub both_true : (a b : Bool) → (a && b) ≡ true → (a ≡ true) × (b ≡ true)
both_true true b e = (refl, e)
both_true false b e = cc

pub and_true : (a b : Bool) → a ≡ true → b ≡ true → (a && b) ≡ true
and_true true b e f = f
and_true false b e f = cc

pub false_and : (a b : Bool) → a ≡ false → (a && b) ≡ false
false_and true b e = cc
false_and false b e = refl

pub both_false : (a b : Bool) → (a || b) ≡ false → (a ≡ false) × (b ≡ false)
both_false true b e = cc
both_false false b e = (refl, e)

pub not_false : (b : Bool) → not b ≡ false → b ≡ true
not_false true e = refl
not_false false e = cc

pub not_true : (b : Bool) → not b ≡ true → b ≡ false
not_true true e = cc
not_true false e = refl

pub not_both : (b : Bool) → b ≡ true → b ≡ false → ⊥
not_both b t f = cc

pub same_bool : (a b : Bool) → beq a b ≡ true → a ≡ b
same_bool true true e = refl
same_bool true false e = cc
same_bool false true e = cc
same_bool false false e = refl

pub or_true : (a b : Bool) → (a || b) ≡ true → a ≡ false → b ≡ true
or_true true b h f = cc
or_true false b h f = h

pub or_left : (a b : Bool) → a ≡ true → (a || b) ≡ true
or_left true b e = refl
or_left false b e = cc

pub or_right : (a b : Bool) → b ≡ true → (a || b) ≡ true
or_right true b e = refl
or_right false b e = e

pub or_false : (b : Bool) → (b || false) ≡ b
or_false true = refl
or_false false = refl

pub or_none : (a b : Bool) → a ≡ false → b ≡ false → (a || b) ≡ false
or_none true b e f = cc
or_none false b e f = f

pub and_with_true : (b : Bool) → (b && true) ≡ b
and_with_true true = refl
and_with_true false = refl

pub and_false : (b : Bool) → (b && false) ≡ false
and_false true = refl
and_false false = refl

pub false_right : (a b : Bool) → b ≡ false → (a && b) ≡ false
false_right true b e = e
false_right false b e = refl

-- two tests that imply one another are one
pub same_tests : (p q : Bool) → (p ≡ true → q ≡ true) → (q ≡ true → p ≡ true) → p ≡ q
same_tests true q f g = sym (f refl)
same_tests false true f g = g refl
same_tests false false f g = refl

-- numbers that a test finds the same are the same
pub number_is : (a b : ℕ) → nat_eq a b ≡ true → a ≡ b
number_is a b e = grind (arith, nat_tests)

pub numbers_differ : (a b : ℕ) → nat_eq a b ≡ false → a ≢ b
numbers_differ a b e same = grind (arith, nat_tests, e, same)

pub nat_itself : (n : ℕ) → nat_eq n n ≡ true
nat_itself n = grind (arith, nat_tests)

pub eq_turned : (a b : ℕ) → nat_eq a b ≡ nat_eq b a
eq_turned a b = same_tests (nat_eq a b) (nat_eq b a) (λ t. grind (arith, nat_tests, t)) (λ t. grind (arith, nat_tests, t))

-- a choice has what both of its values have
pub either : {A : Type 0} (P : A → Type 0) (b : Bool) (x y : A) → (b ≡ true → P x) → (b ≡ false → P y) → P (cond b x y)
either P true x y f g = f refl
either P false x y f g = g refl

-- the same of a choice whose values wait
pub either_case : {A : Type 0} (P : A → Type 0) (b : Bool) (x y : A) → (b ≡ true → P x) → (b ≡ false → P y) → P (elim b as (λ _. A) [ true ↦ x | false ↦ y ])
either_case P true x y f g = f refl
either_case P false x y f g = g refl

-- a number where a test holds, else 0
pub where_le : (b : Bool) (n : ℕ) → cond b n 0 ≤ n
where_le true n = omega arith
where_le false n = omega arith

pub zero_either : (b : Bool) → ◌≡◌ {A = ℕ} (cond b 0 0) 0
zero_either true = refl
zero_either false = refl

pub no_times_either : (b : Bool) (n : ℕ) → cond b (0 * n) 0 ≡ 0
no_times_either true n = omega arith
no_times_either false n = refl

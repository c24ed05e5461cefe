-- Numbers that are all 0: nothing is asked there, and nothing stands for it.
use Rattle.std.proofs.Common.{◌≡◌, ℕ, zero, suc, Bool, false, nat_lt, List, [], ◌∷◌, get_or, refl, sym, ◌∙◌, arith}
use Rattle.std.specs.Prelude.{◌||◌}
use Rattle.std.specs.List.{list_any}
use Rattle.std.proofs.lemmas.Bool.Decides.{nat_tests}
use Rattle.fuxi_terms.proofs.Booleans.{both_false}

pub none_asked : (n : ℕ) → nat_lt 0 n ≡ false → n ≡ 0
none_asked n e = grind (arith, nat_tests, e)

pub all_zero : (xs : List ℕ) (n : ℕ) → list_any (λ x. nat_lt 0 x) xs ≡ false → get_or xs n 0 ≡ 0
all_zero [] n e = refl
all_zero (x ∷ xs) zero e = none_asked x (both_false (nat_lt 0 x) (list_any (λ x. nat_lt 0 x) xs) e).0
all_zero (x ∷ xs) (suc n) e = all_zero xs n (both_false (nat_lt 0 x) (list_any (λ x. nat_lt 0 x) xs) e).1

-- where nothing is asked, and where it does not stand, a unit stands as it has to
pub stands_unasked : (asked held : ℕ) (stands : Bool) → (nat_lt 0 asked || stands) ≡ false → stands ≡ nat_lt held asked
stands_unasked asked held stands e =
    let neither = both_false (nat_lt 0 asked) stands e in
    let none = none_asked asked neither.0 in
    let unmet : nat_lt held asked ≡ false = grind (arith, nat_tests, none) in
    neither.1 ∙ sym unmet

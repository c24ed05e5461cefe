-- A carriage return at the end of a line goes.
use Rattle.std.proofs.Common.{◌≡◌, ◌≢◌, ℕ, zero, suc, ◌+◌, true, false, cond, nat_eq, List, [], ◌∷◌, length, get_or, take, refl, ap, arith}
use Rattle.std.proofs.lemmas.Bool.Decides.{nat_tests}
use Rattle.input_lines.specs.Contents.{without_return}

pub return_dropped : (bytes : List ℕ) (last : ℕ) → length bytes ≡ last + 1 → get_or bytes last 0 ≡ 13 → without_return bytes ≡ take last bytes
return_dropped [] last long is = absurd (omega (arith, long))
return_dropped (b ∷ []) zero long is = let t : nat_eq b 13 ≡ true = grind (arith, nat_tests, is) in ap (λ t. cond t [] (b ∷ [])) t
return_dropped (b ∷ []) (suc last) long is = absurd (omega (arith, long))
return_dropped (b ∷ c ∷ bs) zero long is = absurd (omega (arith, long))
return_dropped (b ∷ c ∷ bs) (suc last) long is = ap (λ l. b ∷ l) (return_dropped (c ∷ bs) last (omega (arith, long)) is)

pub return_absent : (bytes : List ℕ) → ((last : ℕ) → length bytes ≡ last + 1 → get_or bytes last 0 ≢ 13) → without_return bytes ≡ bytes
return_absent [] other = refl
return_absent (b ∷ []) other = let t : nat_eq b 13 ≡ false = grind (arith, nat_tests, other 0 (omega arith)) in ap (λ t. cond t [] (b ∷ [])) t
return_absent (b ∷ c ∷ bs) other = ap (λ l. b ∷ l) (return_absent (c ∷ bs) (λ last long. other (suc last) (omega (arith, long))))

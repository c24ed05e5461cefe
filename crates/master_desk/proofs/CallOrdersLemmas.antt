-- How often sessions stand in an order, and how many calls there are.
use Rattle.std.proofs.Common.{◌≡◌, ◌<◌, ◌≤◌, ℕ, zero, suc, ◌+◌, Bool, true, false, cond, nat_eq, nat_lt, List, [], ◌∷◌, length, map, get_or, refl, sym, ◌∙◌, ap, subst, arith}
use Rattle.std.specs.Prelude.{◌++◌, set, replicate}
use Rattle.std.specs.List.{sum}
use Rattle.std.proofs.lemmas.Bool.Decides.{nat_tests}
use Rattle.std.proofs.lemmas.List.{append-nil, append_assoc, get_or_past, length_push}
use Rattle.std.proofs.lemmas.List.Sums.{sum_by-cons, sum_by-set}
use Rattle.fuxi_terms.proofs.Booleans.{nat_itself, number_is}
use Rattle.master_desk.specs.declared.call.Decoded.{Decoded}
use Rattle.master_desk.specs.CallOrders.{AreCallsOf, Fits, IsCallOf, calls_of, times, total}

pub times_more : (c d : ℕ) (order : List ℕ) → times c (order ++ d ∷ []) ≡ times c order + cond (nat_eq d c) 1 0
times_more c d [] = omega arith
times_more c d (x ∷ xs) = let more = times_more c d xs in omega (arith, more)

pub once_more : (c : ℕ) (order : List ℕ) → times c (order ++ c ∷ []) ≡ times c order + 1
once_more c order = times_more c c order ∙ ap (λ b. times c order + cond b 1 0) (nat_itself c)

pub never_less : (c d : ℕ) (order : List ℕ) → times c order ≤ times c (order ++ d ∷ [])
never_less c d order = let more = times_more c d order in omega (arith, more)

fits_at : (sessions : List (List (List ℕ))) (order : List ℕ) (c d : ℕ) → Fits sessions order → times c order < length (calls_of sessions c) → (b : Bool) → nat_eq c d ≡ b
    → times d order + cond b 1 0 ≤ length (calls_of sessions d)
fits_at sessions order c d fits left true e = subst (λ n. times n order + 1 ≤ length (calls_of sessions n)) (number_is c d e) (omega arith)
fits_at sessions order c d fits left false e = let f = fits d in omega (arith, f)

-- a call more of a session that has one left
pub fits_more : (sessions : List (List (List ℕ))) (order : List ℕ) (c : ℕ) → Fits sessions order → times c order < length (calls_of sessions c) → Fits sessions (order ++ c ∷ [])
fits_more sessions order c fits left d = subst (λ n. n ≤ length (calls_of sessions d)) (sym (times_more d c order)) (fits_at sessions order c d fits left (nat_eq c d) refl)

pub calls_more : (sessions : List (List (List ℕ))) (before : List ℕ) (xs : List (ℕ × Decoded)) (x : ℕ × Decoded) → AreCallsOf sessions before xs
    → IsCallOf sessions x.0 (times x.0 (before ++ map (λ (y : ℕ × Decoded). y.0) xs)) x.1 → AreCallsOf sessions before (xs ++ x ∷ [])
calls_more s before [] x are is = (subst (λ o. IsCallOf s x.0 (times x.0 o) x.1) (append-nil before) is, tt)
calls_more s before (y ∷ ys) x are is = (
  are.0,
  calls_more s (before ++ y.0 ∷ []) ys x are.1 (subst (λ o. IsCallOf s x.0 (times x.0 o) x.1) (sym (append_assoc before (y.0 ∷ []) (map (λ (z : ℕ × Decoded). z.0) ys))) is),
)

session_at : (sessions : List (List (List ℕ))) (c n : ℕ) → n < length (calls_of sessions c) → (b : Bool) → nat_lt c (length sessions) ≡ b → c < length sessions
session_at s c n left true e = grind (arith, nat_tests, e)
session_at s c n left false e =
    let past : length s ≤ c = grind (arith, nat_tests, e) in
    let none : length (calls_of s c) ≡ 0 = ap (λ (xs : List (List ℕ)). length xs) (get_or_past s c [] past) in
    absurd (omega (arith, none))

-- a session that has a call is one of them
pub session_there : (sessions : List (List (List ℕ))) (c n : ℕ) → n < length (calls_of sessions c) → c < length sessions
session_there s c n left = session_at s c n left (nat_lt c (length s)) refl

pub total_more : (sessions : List (List (List ℕ))) (c : ℕ) (call : List ℕ) → c < length sessions → total (set sessions c (calls_of sessions c ++ call ∷ [])) ≡ total sessions + 1
total_more s c call there =
    let all = sum_by-set (λ (calls : List (List ℕ)). length calls) s c (calls_of s c ++ call ∷ []) [] there in
    let one = length_push (calls_of s c) call in
    omega (arith, all, one)

-- calls that were taken are no more than there are
pub taken_few : (taken : List ℕ) (sessions : List (List (List ℕ))) → length taken ≡ length sessions → ((c : ℕ) → get_or taken c 0 ≤ length (calls_of sessions c)) → sum taken ≤ total sessions
taken_few [] s e each = omega arith
taken_few (x ∷ xs) [] e each = absurd (omega arith)
taken_few (x ∷ xs) (y ∷ ys) e each =
    let rest : sum xs ≤ total ys = taken_few xs ys (omega arith) (λ c. each (suc c)) in
    let first : x ≤ length y = each 0 in
    let left : sum (x ∷ xs) ≡ x + sum xs = sum_by-cons (λ n. n) x xs in
    let right : total (y ∷ ys) ≡ length y + total ys = sum_by-cons (λ (calls : List (List ℕ)). length calls) y ys in
    omega (arith, rest, first, left, right)

pub calls_few : (sessions : List (List (List ℕ))) (c : ℕ) → length (calls_of sessions c) ≤ total sessions
calls_few [] c = omega arith
calls_few (x ∷ xs) zero = let all : total (x ∷ xs) ≡ length x + total xs = sum_by-cons (λ (calls : List (List ℕ)). length calls) x xs in omega (arith, all)
calls_few (x ∷ xs) (suc c) =
    let all : total (x ∷ xs) ≡ length x + total xs = sum_by-cons (λ (calls : List (List ℕ)). length calls) x xs in
    let rest = calls_few xs c in
    omega (arith, all, rest)

-- without calls
pub no_total : (n : ℕ) → total (replicate n []) ≡ 0
no_total zero = refl
no_total (suc n) =
    let all : total ([] ∷ replicate n []) ≡ 0 + total (replicate n []) = sum_by-cons (λ (calls : List (List ℕ)). length calls) [] (replicate n []) in
    let rest = no_total n in
    omega (arith, all, rest)

pub zero_at : (n c : ℕ) → ◌≡◌ {A = ℕ} (get_or (replicate n 0) c 0) 0
zero_at zero c = refl {A = ℕ}
zero_at (suc n) zero = refl {A = ℕ}
zero_at (suc n) (suc c) = zero_at n c

pub zero_sum : (n : ℕ) → sum (replicate n 0) ≡ 0
zero_sum zero = refl {A = ℕ}
zero_sum (suc n) =
    let all : sum (0 ∷ replicate n 0) ≡ 0 + sum (replicate n 0) = sum_by-cons (λ (n : ℕ). n) 0 (replicate n 0) in
    let rest = zero_sum n in
    omega (arith, all, rest)

-- How great the numbers of the two tallies are.
use Rattle.std.proofs.Common.{◌≡◌, ℕ, ◌≤◌, ◌<◌, Bool, true, nat_lt, arith, List, sym, subst}
use Rattle.std.proofs.lemmas.Bool.Decides.{nat_tests}
use Rattle.fuxi_terms.specs.declared.Key.{Key}
use Rattle.fuxi_terms.specs.Keys.{key_cmp}
use Rattle.fuxi_terms.specs.Counts.{count, AreCounts}
use Rattle.fuxi_terms.specs.Limits.{greatest_count, greatest_back}
use Rattle.fuxi_terms.specs.TallyKeys.{count_key, want_key, near_key, rack_key, avoid_key, back_key, is_place, where_holds, greatest_grant, greatest_demand}
use Rattle.fuxi_terms.proofs.Booleans.{where_le}
use Rattle.fuxi_terms.proofs.CountsLemmas.{count_le}
use Rattle.fuxi_terms.proofs.KeyOrders.{key_total, same_key}

pub count_small : (es : List (Key × ℕ)) (u m : ℕ) → AreCounts key_cmp greatest_grant es → count key_cmp es (count_key u m) ≤ greatest_count
count_small es u m h =
    let le = count_le key_total same_key greatest_grant es (count_key u m) h.within in
    let most : greatest_grant (count_key u m) ≤ greatest_count = where_le (is_place (count_key u m)) greatest_count in
    omega (arith, le, most)

pub back_small : (es : List (Key × ℕ)) (u m : ℕ) → AreCounts key_cmp greatest_demand es → count key_cmp es (back_key u m) ≤ greatest_back
back_small es u m h =
    let le = count_le key_total same_key greatest_demand es (back_key u m) h.within in
    let most : greatest_demand (back_key u m) ≤ greatest_back = where_le (is_place (back_key u m)) greatest_back in
    omega (arith, le, most)

-- what may be wanted of a unit, on a machine and in a rack, and whether a machine is avoided
within_place : (b : Bool) (n most : ℕ) → b ≡ true → n ≤ most → n ≤ where_holds b most
within_place b n most e le = subst (λ t. n ≤ where_holds t most) (sym e) le

pub wants_within : (u n : ℕ) → u < 8 → n ≤ greatest_count → n ≤ greatest_demand (want_key u)
wants_within u n lu le = within_place (is_place (want_key u)) n greatest_count (grind (arith, nat_tests, lu)) le

pub near_within : (u m n : ℕ) → u < 8 → m < 256 → n ≤ greatest_count → n ≤ greatest_demand (near_key u m)
near_within u m n lu lm le = within_place (is_place (near_key u m)) n greatest_count (grind (arith, nat_tests, lu, lm)) le

pub rack_within : (u r n : ℕ) → u < 8 → r < 64 → n ≤ greatest_count → n ≤ greatest_demand (rack_key u r)
rack_within u r n lu lr le = within_place (is_place (rack_key u r)) n (where_holds (nat_lt r 64) greatest_count) (grind (arith, nat_tests, lu, lr)) (within_place (nat_lt r 64) n greatest_count (grind (arith, nat_tests, lr)) le)

pub avoid_within : (u m n : ℕ) → u < 8 → m < 256 → n ≤ 1 → n ≤ greatest_demand (avoid_key u m)
avoid_within u m n lu lm le = within_place (is_place (avoid_key u m)) n 1 (grind (arith, nat_tests, lu, lm)) le

-- The numbers of the jobs of a table: they rise, and each known job is among them.
use Rattle.std.proofs.Common.{◌≡◌, ℕ, ◌<◌, Bool, true, false, cond, nat_eq, List, [], ◌∷◌, length, get_or, slice_get, Option, Some, None, refl, sym, ◌∙◌, ap, arith}
use Rattle.std.specs.Prelude.{◌||◌, is_some}
use Rattle.std.specs.List.{AllByRecursion}
use Rattle.std.specs.List.Sorted.{IsStrictlySortedBy}
use Rattle.std.specs.Ordering.{nat_cmp}
use Rattle.std.specs.Cmp.{nat_cmp_is}
use Rattle.std.specs.declared.cmp.Ordering.TheVariants.{Less}
use Rattle.fuxi_terms.specs.Cluster.{JobRecord}
use Rattle.fuxi_terms.specs.Jobs.{KnownJob, job_of, is_known}
use Rattle.fuxi_terms.specs.Numbers.{has_number}
use Rattle.fuxi_terms.proofs.Booleans.{eq_turned, or_left, or_right}
use Rattle.grant_table.specs.GrantTables.{as_known, AreJobs}
use Rattle.ledger_updates.specs.OfNumbers.{turn}
use Rattle.ledger_updates.specs.OneJob.{numbers_in}
use Rattle.ledger_updates.proofs.OfNumbersLemmas.{not_before}
use Rattle.std.specs.Option.{unwrap_or}
use Rattle.std.proofs.lemmas.List.{get_or-map, length-map}
use Rattle.std.proofs.lemmas.Option.{slice_get-get_or, slice_get_within}

pub numbers_rise : (js : List JobRecord) → AreJobs js → IsStrictlySortedBy nat_cmp (numbers_in js)
unfolding IsStrictlySortedBy
numbers_rise [] h = tt
numbers_rise (j ∷ js) h = (above js h.1.0, numbers_rise js h.1.1)
  where
    above : (ks : List JobRecord) → AllByRecursion (λ (k : JobRecord). j.number < k.number) ks → AllByRecursion (λ n. nat_cmp j.number n ≡ Less) (numbers_in ks)
    above [] h = tt
    above (k ∷ ks) h = (sym (nat_cmp_is j.number k.number Less h.0), above ks h.1)

pub known_among : (js : List JobRecord) (a : ℕ) → is_known (as_known js) a ≡ true → has_number a (numbers_in js) ≡ true
known_among [] a is = is
known_among (j ∷ js) a is = by (nat_eq j.number a) refl (known_among js a) is
  where
    by : (b : Bool) → nat_eq j.number a ≡ b → (is_known (as_known js) a ≡ true → has_number a (numbers_in js) ≡ true)
        → is_some {T = KnownJob} (cond b (Some (record { job = j; ended = false })) (job_of (as_known js) a)) ≡ true → (nat_eq a j.number || has_number a (numbers_in js)) ≡ true
    by true t rest is = or_left (nat_eq a j.number) (has_number a (numbers_in js)) (eq_turned a j.number ∙ t)
    by false f rest is = or_right (nat_eq a j.number) (has_number a (numbers_in js)) (rest is)

-- each has its turn
pub job_turn : (js : List JobRecord) (k : ℕ) (j : JobRecord) (n : ℕ) → AreJobs js → slice_get js k ≡ Some j → n ≡ j.number → (k < length (numbers_in js)) × (turn k (numbers_in js) ≡ Some n)
job_turn js k j n sound is number =
    let within = slice_get_within js k j is in
    let next : k < length (numbers_in js) = omega (arith, within, length-map js (λ (j : JobRecord). j.number)) in
    let read : Some (get_or js k j) ≡ Some j = sym (slice_get-get_or js k j within) ∙ is in
    let at : get_or (numbers_in js) k 0 ≡ n = get_or-map (λ (j : JobRecord). j.number) js k j 0 within ∙ ap (λ (o : Option JobRecord). (unwrap_or o j).number) read ∙ sym number in
    (next, ap (λ b. cond b None (Some (get_or (numbers_in js) k 0))) (not_before (numbers_in js) k 0 (numbers_rise js sound) next) ∙ ap (λ n. Some n) at)

-- A record is read back by its kind, and a body has at most 563 bytes.
use Rattle.std.proofs.Common.{◌≡◌, ℕ, ◌+◌, ◌*◌, ◌<◌, ◌≤◌, Bool, true, false, cond, nat_eq, nat_lt, zero, suc, List, length, drop, slice_index, Option, None, Some, refl, ◌∙◌, ap, arith, length-drop}
use Rattle.std.proofs.lemmas.Bool.Decides.{nat_tests}
use Rattle.std.proofs.lemmas.Nat.{from_be_bytes-to_be_bytes_4, from_be_bytes-to_be_bytes_8, mul-le}
use Rattle.std.specs.Prelude.{◌&&◌}
use Rattle.std.specs.Int.{to_be_bytes, from_be_bytes, w32, w64}
use Rattle.std.specs.Option.{option_map}
use Rattle.fuxi_terms.specs.Cluster.{JobRecord, is_valid_job}
use Rattle.fuxi_terms.proofs.Booleans.{both_true}
use Rattle.hard_state.specs.declared.records.Record.{Record}
use Rattle.hard_state.specs.declared.records.Record.TheVariants.{Fence, Submission, Finish, Ban, Unban}
use Rattle.hard_state.specs.RecordBodies.{body_of, job_bytes, unit_size, units_in, job_in, is_job, job_found, epoch_found, number_found, finish, ban, unban, is_version, record_of_kind, record_in, IsWithinLimits}
use Rattle.hard_state.proofs.Back.{sound_of, job_back, job_is, job_long}

number_back : (most n : ℕ) → n < most → most ≤ 256 → number_found most (to_be_bytes w32 n) ≡ Some n
number_back most n below few =
    let back : from_be_bytes w32 (to_be_bytes w32 n) ≡ n = from_be_bytes-to_be_bytes_4 n (omega (arith, below, few)) in
    let test : nat_lt n most ≡ true = grind (arith, nat_tests) in
    ap (λ m. cond (nat_lt m most) (Some m) None) back ∙ ap (λ b. cond b (Some n) None) test

pub read_back : (r : Record) → IsWithinLimits r → record_in (body_of r) ≡ Some r
unfolding record_in
read_back (Fence epoch) within = ap (λ n. Some (Fence n)) (from_be_bytes-to_be_bytes_8 epoch within)
read_back (Submission job) within =
    ap (λ b. option_map Submission (cond b (Some (job_in 2 (job_bytes job))) None)) (job_is job within) ∙ ap (λ j. Some (Submission j)) (job_back job within)
read_back (Finish app) within = ap (option_map finish) (number_back 256 app.0 within (omega arith))
read_back (Ban machine) within = ap (option_map ban) (number_back 256 machine.0 within (omega arith))
read_back (Unban machine) within = ap (option_map unban) (number_back 256 machine.0 within (omega arith))

pub body_short : (r : Record) → IsWithinLimits r → length (body_of r) ≤ 563
body_short (Fence epoch) within = omega arith
body_short (Submission job) within = omega (arith, job_long job within, (sound_of job within).few)
body_short (Finish app) within = omega arith
body_short (Ban machine) within = omega arith
body_short (Unban machine) within = omega arith

pub job_body_long : (job : JobRecord) → is_valid_job 8 job ≡ true → length (body_of (Submission job)) ≡ 11 + 69 * length job.units
job_body_long job valid = omega (arith, job_long job valid)

units_count : (v n : ℕ) (l : List ℕ) → length (units_in v n l) ≡ n
units_count v zero l = refl
units_count v (suc n) l = omega (arith, units_count v n (drop (unit_size v) l))

unit_short : (b : Bool) → cond b 65 69 ≤ 69
unit_short true = omega arith
unit_short false = omega arith

-- what stands behind a kind has at most 561 bytes
epoch_short : (l : List ℕ) (n : ℕ) → epoch_found l ≡ Some n → length l ≤ 561
epoch_short l n is = go (nat_eq (length l) 8) refl is
  where
    go : (b : Bool) → nat_eq (length l) 8 ≡ b → cond b (Some (from_be_bytes w64 l)) None ≡ Some n → length l ≤ 561
    go true test is = grind (arith, nat_tests)
    go false test is = absurd (cc)

number_short : (most : ℕ) (l : List ℕ) (n : ℕ) → number_found most l ≡ Some n → length l ≤ 561
number_short most l n is = go (nat_eq (length l) 4) refl is
  where
    go : (b : Bool) → nat_eq (length l) 4 ≡ b → cond (b && nat_lt (from_be_bytes w32 l) most) (Some (from_be_bytes w32 l)) None ≡ Some n → length l ≤ 561
    go true test is = grind (arith, nat_tests)
    go false test is = absurd (cc)

job_short : (v : ℕ) (l : List ℕ) (j : JobRecord) → job_found v l ≡ Some j → length l ≤ 561
job_short v l j is = go (is_job v l) refl is
  where
    go : (b : Bool) → is_job v l ≡ b → cond b (Some (job_in v l)) None ≡ Some j → length l ≤ 561
    go true test is =
        let n = slice_index l 8 in
        let both = both_true (nat_eq (length l) (9 + unit_size v * n)) (is_valid_job 8 (job_in v l)) test in
        let long = both.0 in
        let few : n ≤ 8 = omega (arith, (sound_of (job_in v l) both.1).few, units_count v n (drop 9 l)) in
        let is_long : length l ≡ 9 + unit_size v * n = grind (arith, nat_tests) in
        omega (arith, is_long, mul-le (unit_size v) n 69 8 (unit_short (nat_eq v 1)) few)
    go false test is = absurd (cc)

mapped : {A : Type 0} (f : A → Record) (o : Option A) (r : Record) (P : Type 0) → option_map f o ≡ Some r → ((x : A) → o ≡ Some x → P) → P
mapped f None r P is from = absurd (cc)
mapped f (Some x) r P is from = from x refl

kind_short : (v kind : ℕ) (l : List ℕ) (r : Record) → record_of_kind v kind l ≡ Some r → length l ≤ 561
kind_short v kind l r is = go (nat_eq kind 1) (nat_eq kind 2) (nat_eq kind 3) (nat_eq kind 4) (nat_eq kind 5) is
  where
    go : (a b c d e : Bool) → cond a (option_map Fence (epoch_found l)) (cond b (option_map Submission (job_found v l)) (cond c (option_map finish (number_found 256 l)) (cond d (option_map ban (number_found 256 l)) (cond e (option_map unban (number_found 256 l)) None)))) ≡ Some r
        → length l ≤ 561
    go true b c d e is = mapped Fence (epoch_found l) r (length l ≤ 561) is (λ n. epoch_short l n)
    go false true c d e is = mapped Submission (job_found v l) r (length l ≤ 561) is (λ j. job_short v l j)
    go false false true d e is = mapped finish (number_found 256 l) r (length l ≤ 561) is (λ n. number_short 256 l n)
    go false false false true e is = mapped ban (number_found 256 l) r (length l ≤ 561) is (λ n. number_short 256 l n)
    go false false false false true is = mapped unban (number_found 256 l) r (length l ≤ 561) is (λ n. number_short 256 l n)
    go false false false false false is = absurd (cc)

pub read_short : (body : List ℕ) (r : Record) → record_in body ≡ Some r → length body ≤ 563
unfolding record_in
read_short body r is = go (is_version (slice_index body 0) (slice_index body 1)) is
  where
    go : (b : Bool) → cond b (record_of_kind (slice_index body 0) (slice_index body 1) (drop 2 body)) None ≡ Some r → length body ≤ 563
    go true is = omega (arith, kind_short (slice_index body 0) (slice_index body 1) (drop 2 body) r is, length-drop 2 body)
    go false is = absurd (cc)

use Rattle.std.proofs.Common.{◌≡◌, ◌++◌, ◌∷◌, [], ◌/◌, ◌%◌, ◌+◌, ◌<◌, ◌≤◌, ◌^◌, ℕ, length, length-append, decimal, sym, ◌∙◌, ap, refl, subst, arith}
use Rattle.std.proofs.lemmas.List.{append_assoc}
use Rattle.std.proofs.lemmas.Fmt.{decimal_digit, decimal_nonempty, decimal_step, length-decimal-le}
use Rattle.schedule_text.proofs.tail.Tail.put_number.Invariants.{IsPut}
use Rattle.schedule_text.proofs.tail.Tail.put_number.Goals as goal

-- the last two digits of a number that has more
last_two : (n : ℕ) → 100 ≤ n → n < 2 ^ 64 → decimal n ≡ decimal (n / 100) ++ (48 + n % 100 / 10) ∷ (48 + n % 100 % 10) ∷ []
last_two n le small =
    let first : n / 10 / 10 ≡ n / 100 = omega arith in
    let second : n / 10 % 10 ≡ n % 100 / 10 = omega arith in
    let third : n % 10 ≡ n % 100 % 10 = omega arith in
    decimal_step n (omega (arith, le)) small
    ∙ ap (λ ds. ds ++ (48 + n % 10) ∷ []) (decimal_step (n / 10) (omega (arith, le)) (omega (arith, small)))
    ∙ append_assoc (decimal (n / 10 / 10)) ((48 + n / 10 % 10) ∷ []) ((48 + n % 10) ∷ [])
    ∙ ap (λ m. decimal m ++ (48 + n / 10 % 10) ∷ (48 + n % 10) ∷ []) first
    ∙ ap (λ d. decimal (n / 100) ++ (48 + d) ∷ (48 + n % 10) ∷ []) second
    ∙ ap (λ d. decimal (n / 100) ++ (48 + n % 100 / 10) ∷ (48 + d) ∷ []) third

pub loop-left-init : goal.loop-left-init
loop-left-init c =
    let few = length-decimal-le 20 c.args.number (omega arith) (omega arith) c.ranges.number.fits in
    record { text = refl; small = c.ranges.number.fits; room = omega (arith, few) }

-- and all of one that has two
both_digits : (n : ℕ) → 10 ≤ n → n < 100 → decimal n ≡ (48 + n / 10) ∷ (48 + n % 10) ∷ []
both_digits n low high = decimal_step n low (omega (arith, high)) ∙ ap (λ ds. ds ++ (48 + n % 10) ∷ []) (decimal_digit (n / 10) (omega (arith, high)))

two_longer : (n : ℕ) → 100 ≤ n → n < 2 ^ 64 → length (decimal n) ≡ length (decimal (n / 100)) + 2
two_longer n le small = ap length (last_two n le small) ∙ length-append (decimal (n / 100)) ((48 + n % 100 / 10) ∷ (48 + n % 100 % 10) ∷ [])

pub put_pair-requires : goal.put_pair-requires
put_pair-requires c = record {
  room = omega (arith, c.requires.room, c.loop-left.invariant.room, two_longer c.loop-left.left (omega (arith, c.loop-left-test.true)) c.loop-left.invariant.small);
  small = omega arith;
}

pub loop-left-preserved : goal.loop-left-preserved
loop-left-preserved c =
    let was = c.loop-left.invariant in
    let left = c.loop-left.left in
    let many : 100 ≤ left = omega (arith, c.loop-left-test.true) in
    let longer = two_longer left many was.small in
    let text = append_assoc (decimal (left / 100)) ((48 + left % 100 / 10) ∷ (48 + left % 100 % 10) ∷ []) c.loop-left.self in
    subst (IsPut c.args.number c.args.self.now (left / 100)) (sym c.put_pair.ensures.is) (record {
      text = sym text ∙ ap (λ ds. ds ++ c.loop-left.self) (sym (last_two left many was.small)) ∙ was.text;
      small = omega (arith, was.small);
      room = omega (arith, was.room, longer);
    })

pub put_pair-requires-then-left-ge10-clause-room : goal.put_pair-requires-then-left-ge10-clause-room
put_pair-requires-then-left-ge10-clause-room c = omega (arith, c.requires.room, c.loop-left.invariant.room, ap length (both_digits c.loop-left.left (omega (arith, c.if-left-ge10.true)) (omega (arith, c.loop-left-test.false))))

pub returns-then-left-ge10-clause-is : goal.returns-then-left-ge10-clause-is
returns-then-left-ge10-clause-is c =
    let was = c.loop-left.invariant in
    let digits = both_digits c.loop-left.left (omega (arith, c.if-left-ge10.true)) (omega (arith, c.loop-left-test.false)) in
    c.put_pair-then-left-ge10.ensures.is ∙ ap (λ ds. ds ++ c.loop-left.self) (sym digits) ∙ was.text

pub returns-then-left-ge10-clause-short : goal.returns-then-left-ge10-clause-short
returns-then-left-ge10-clause-short c = omega (arith, c.put_pair-then-left-ge10.ensures.long, c.loop-left.invariant.room, ap length (both_digits c.loop-left.left (omega (arith, c.if-left-ge10.true)) (omega (arith, c.loop-left-test.false))))

pub put-requires : goal.put-requires
put-requires c = record { room = omega (arith, c.requires.room, c.loop-left.invariant.room, decimal_nonempty c.loop-left.left c.loop-left.invariant.small) }

pub returns-clause-is : goal.returns-clause-is
returns-clause-is c =
    let was = c.loop-left.invariant in
    let digit = decimal_digit c.loop-left.left (omega (arith, c.if-left-ge10.false)) in
    c.put.ensures.is ∙ ap (λ ds. ds ++ c.loop-left.self) (sym digit) ∙ was.text

pub returns-clause-short : goal.returns-clause-short
returns-clause-short c = omega (arith, c.put.ensures.long, c.loop-left.invariant.room, decimal_nonempty c.loop-left.left c.loop-left.invariant.small)

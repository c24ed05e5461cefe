use Rattle.std.proofs.Common.{ap, sym, ◌∙◌, arith}
use Rattle.std.specs.Str.{all_ascii_digits}
use Rattle.std.specs.Str.Parse.{digits_value}
use Rattle.std.proofs.lemmas.List.{take_all}
use Rattle.schedule_unit.proofs.Decimals.{more_digits, more_value, other_byte, too_great, all_valued}
use Rattle.schedule_unit.proofs.number.value_of.Goals as goal

pub returns-then-not-is_ascii_digit : goal.returns-then-not-is_ascii_digit
returns-then-not-is_ascii_digit c = other_byte c.args.word.now c.loop-byte.byte-index c.loop-byte-test.true (sym c.is_ascii_digit.ensures.value ∙ c.if-not-is_ascii_digit.true)

pub returns-in-None : goal.returns-in-None
returns-in-None c = too_great c.args.word.now c.loop-byte.byte-index c.loop-byte-test.true (sym c.is_ascii_digit.ensures.value ∙ c.if-not-is_ascii_digit.false) (omega (arith, c.in-None.ensures, c.loop-byte.invariant.value))

pub loop-byte-preserved : goal.loop-byte-preserved
loop-byte-preserved c =
    let digit = sym c.is_ascii_digit.ensures.value ∙ c.if-not-is_ascii_digit.false in
    record {
      digits = more_digits c.args.word.now c.loop-byte.byte-index c.loop-byte-test.true c.loop-byte.invariant.digits digit;
      value = omega (arith, c.in-Some.ensures, c.loop-byte.invariant.value, more_value c.args.word.now c.loop-byte.byte-index c.loop-byte-test.true digit);
      fits = omega (arith, c.in-Some.ensures);
    }

pub returns : goal.returns
returns c =
    let all = take_all c.loop-byte.byte-index c.args.word.now (omega (arith, c.loop-byte-test.false)) in
    all_valued c.args.word.now c.loop-byte.value (sym (ap all_ascii_digits all) ∙ c.loop-byte.invariant.digits) (c.loop-byte.invariant.value ∙ ap (digits_value 10) all) c.loop-byte.invariant.fits

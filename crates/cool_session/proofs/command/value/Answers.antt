use Rattle.std.proofs.Common.{◌≡◌, ◌-◌, ◌<◌, get_or, refl, arith}
use Rattle.cool_session.proofs.WordsOfCommands.{ten_zero, ten_more, number_small, digit_of_length, digit_more}
use Rattle.cool_session.proofs.command.value.Goals as goal

pub loop-digit-init : goal.loop-digit-init
loop-digit-init c = record { small = omega (arith, ten_zero); rest = refl }

pub overflow_mul-number : goal.overflow_mul-number
overflow_mul-number c =
    let small : c.loop-digit.number < 10000000 =
    number_small c.args.digits.now c.loop-digit.digit-index c.loop-digit.number c.requires c.loop-digit-test.true c.loop-digit.invariant.small in
    omega arith

pub overflow_add-number : goal.overflow_add-number
overflow_add-number c =
    let small : c.loop-digit.number < 10000000 =
    number_small c.args.digits.now c.loop-digit.digit-index c.loop-digit.number c.requires c.loop-digit-test.true c.loop-digit.invariant.small in
    let digit : c.from.result ≡ get_or c.args.digits.now c.loop-digit.digit-index 0 - 48 = omega (arith, c.from.ensures, c.saturating_sub.ensures)
    in
    omega (arith, digit, digit_of_length c.args.digits.now c.loop-digit.digit-index c.requires c.loop-digit-test.true)

pub loop-digit-preserved : goal.loop-digit-preserved
loop-digit-preserved c =
    let i = c.loop-digit.digit-index in
    let digit : c.from.result ≡ get_or c.args.digits.now i 0 - 48 = omega (arith, c.from.ensures, c.saturating_sub.ensures) in
    record {
      small = omega (arith, ten_more i, digit, digit_of_length c.args.digits.now i c.requires c.loop-digit-test.true, c.loop-digit.invariant.small);
      rest = rw digit (digit_more c.args.digits.now i c.loop-digit.number _ c.loop-digit-test.true c.loop-digit.invariant.rest);
    }

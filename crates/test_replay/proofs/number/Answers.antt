-- Behind the space there is room for the digits.
use native.Mathlib.Omega.{arith}
use Rattle.script_digits.proofs.Decimals.{digits_most}
use Rattle.script_digits.proofs.Laying.{laid_size}
use Rattle.test_replay.proofs.number.Goals as goal

pub number-requires : goal.number-requires
number-requires c = omega (arith, digits_most c.args.n, c.put.ensures.laid.next, laid_size c.put.ensures.laid)

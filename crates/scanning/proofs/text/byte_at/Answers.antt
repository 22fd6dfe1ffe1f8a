-- `scanning::text::byte_at` gives the byte of two digits; each value is at most the base, so nothing wraps.
use Rattle.std.proofs.Common.{◌+◌, get_or, arith}
use Rattle.scanning.proofs.Digits.{number_most}
use Rattle.scanning.proofs.text.byte_at.Goals as goal

pub overflow_mul-result : goal.overflow_mul-result
overflow_mul-result c = omega (arith, number_most (get_or c.args.s.now c.args.at 0))

pub overflow_add-result : goal.overflow_add-result
overflow_add-result c =
    omega (arith, number_most (get_or c.args.s.now c.args.at 0), number_most (get_or c.args.s.now (c.args.at + 1) 0))

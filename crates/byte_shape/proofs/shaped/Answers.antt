-- `byte_shape::shaped` meets its contract: the byte of an invalid character is one of a line of the size. Assumes nothing.
use Rattle.std.proofs.Common.{arith, rules}
use Rattle.byte_shape.proofs.Laws.{byte_within}
use Rattle.byte_shape.proofs.shaped.Goals as goal

pub overflow_add-result : goal.overflow_add-result
overflow_add-result c = omega (arith, byte_within _ _ _ _ _ _ _ c.first_invalid.ensures c.in-Some.is c.is_sized.ensures (search rules))

pub overflow_cast-result : goal.overflow_cast-result
overflow_cast-result c =
    let m = c.ranges.most in
    omega (arith, byte_within _ _ _ _ _ _ _ c.first_invalid.ensures c.in-Some.is c.is_sized.ensures (search rules))

-- `track_step::swift::longitude` meets its contract: its digits are known to stand there. Assumes nothing.
use native.Mathlib.Omega.{arith}
use Rattle.track_step.proofs.Digits.{digits_there, known, known_inside, at_most, small, position_is}
use Rattle.track_step.proofs.swift.longitude.Goals as goal

pub returns : goal.returns
returns c =
    let d = digits_there _ c.requires in
    let degrees = at_most _ _ 179 d.lon c.three.ensures in
    let minutes = at_most _ _ 59999 d.lon_minutes c.five.ensures in
    (position_is _ 15 3 10800000 69 87 _ _ 179 c.three.ensures c.five.ensures degrees minutes (omega arith) d.east, omega (arith, degrees, minutes))

pub three-requires : goal.three-requires
three-requires c = known _ _ _ _ (digits_there _ c.requires).lon

pub overflow_mul-count : goal.overflow_mul-count
overflow_mul-count c = omega (arith, small _ _ 3 _ (omega arith) c.three.ensures)

pub five-requires : goal.five-requires
five-requires c = known _ _ _ _ (digits_there _ c.requires).lon_minutes

pub overflow_add-count : goal.overflow_add-count
overflow_add-count c = omega (arith, small _ _ 3 _ (omega arith) c.three.ensures, small _ _ 5 _ (omega arith) c.five.ensures)

pub bounds-line-23 : goal.bounds-line-23
bounds-line-23 c = omega (arith, known_inside _ 25 5 (omega arith) (known _ _ _ _ (digits_there _ c.requires).pressure))

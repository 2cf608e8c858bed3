-- `track_step::swift::latitude` meets its contract: its digits are known to stand there. Assumes nothing.
use native.Mathlib.Omega.{arith}
use Rattle.track_step.proofs.Digits.{digits_there, known, known_inside, at_most, small, position_is}
use Rattle.track_step.proofs.swift.latitude.Goals as goal

pub returns : goal.returns
returns c =
    let d = digits_there _ c.requires in
    let degrees = at_most _ _ 89 d.lat c.two.ensures in
    let minutes = at_most _ _ 59999 d.lat_minutes c.five.ensures in
    (position_is _ 7 2 5400000 78 83 _ _ 89 c.two.ensures c.five.ensures degrees minutes (omega arith) d.north, omega (arith, degrees, minutes))

pub two-requires : goal.two-requires
two-requires c = known _ _ _ _ (digits_there _ c.requires).lat

pub overflow_mul-count : goal.overflow_mul-count
overflow_mul-count c = omega (arith, small _ _ 2 _ (omega arith) c.two.ensures)

pub five-requires : goal.five-requires
five-requires c = known _ _ _ _ (digits_there _ c.requires).lat_minutes

pub overflow_add-count : goal.overflow_add-count
overflow_add-count c = omega (arith, small _ _ 2 _ (omega arith) c.two.ensures, small _ _ 5 _ (omega arith) c.five.ensures)

pub bounds-line-14 : goal.bounds-line-14
bounds-line-14 c = omega (arith, known_inside _ 15 3 (omega arith) (known _ _ _ _ (digits_there _ c.requires).lon))

-- `track_step::swift::fields_of` meets its contract: each field is read, and its time was. Assumes nothing.
use native.Mathlib.Omega.{arith}
use mathlib.Core.Path.{refl}
use Rattle.rules.specs.Choice.{on}
use Rattle.rules.specs.Lines.{fix_fields}
use Rattle.track_step.proofs.Digits.{digits_there, known, known_inside, time_most}
use Rattle.track_step.proofs.swift.fields_of.Goals as goal

pub returns : goal.returns
unfolding fix_fields on
returns c =
    let d = digits_there _ c.requires.0 in
    let lat = c.latitude-lat.ensures in
    let lon = c.longitude-lon.ensures in
    (rw (c.requires.1, lat.0, lon.0, d.valid, c.height-pressure.ensures, c.height-gnss.ensures) refl, time_most _ 1 _ c.requires.1, lat.1, lon.1)

pub height-pressure-requires : goal.height-pressure-requires
height-pressure-requires c = known _ _ _ _ (digits_there _ c.requires.0).pressure

pub height-gnss-requires : goal.height-gnss-requires
height-gnss-requires c = known _ _ _ _ (digits_there _ c.requires.0).gnss

pub bounds-line-24 : goal.bounds-line-24
bounds-line-24 c = omega (arith, known_inside _ 30 5 (omega arith) (known _ _ _ _ (digits_there _ c.requires.0).gnss))

-- One answer at most meets each promise of this crate. Assumes nothing.
use Rattle.std.specs.Prelude.{Option}
use Prim.Native.Nat.{ℕ}
use mathlib.Core.List.{List}
use Rattle.rules.specs.declared.Date.{Date}
use Rattle.rules.specs.declared.Point.{Point}
use Rattle.rules.specs.declared.Position.{Position}
use Rattle.rules.specs.declared.Height.{Height}
use Rattle.rules_only.proofs.Only.{Only, same}
use Rattle.write_values.specs.Tests.{CleanTest, DateTest, PlannedTest, LatitudeTest, LongitudeTest, AltitudeTest, PointTest}

pub only_clean_test : (text : List ℕ) → Only (CleanTest text)
only_clean_test text = same

pub only_date_test : (d : Date) → Only (DateTest d)
only_date_test d = same

pub only_planned_test : (f : Option Date) → Only (PlannedTest f)
only_planned_test f = same

pub only_latitude_test : (p : Position) → Only (LatitudeTest p)
only_latitude_test p = same

pub only_longitude_test : (p : Position) → Only (LongitudeTest p)
only_longitude_test p = same

pub only_altitude_test : (h : Height) → Only (AltitudeTest h)
only_altitude_test h = same

pub only_point_test : (p : Point) (rest : List ℕ) → Only (PointTest p rest)
only_point_test p rest = same

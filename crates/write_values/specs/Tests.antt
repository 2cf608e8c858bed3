-- The promises of the tests of one value: whether a field or a text of some line reads as it; and of a point with its text: whether some C point line does.
use Rattle.std.specs.Prelude.{ℕ, Bool, List, ◌≡◌, Option}
use Rattle.rules.specs.Degrees.{is_latitude, is_longitude}
use Rattle.rules.specs.declared.Date.{Date}
use Rattle.rules.specs.declared.Point.{Point}
use Rattle.rules.specs.declared.Position.{Position}
use Rattle.rules.specs.declared.Height.{Height}
use Rattle.rules.specs.Limits.{is_clean, is_date, is_planned, is_altitude, good_point}

abbrev pub CleanTest : List ℕ → Bool → Type 0
CleanTest text r = r ≡ is_clean text

abbrev pub DateTest : Date → Bool → Type 0
DateTest d r = r ≡ is_date d

abbrev pub PlannedTest : Option Date → Bool → Type 0
PlannedTest f r = r ≡ is_planned f

abbrev pub LatitudeTest : Position → Bool → Type 0
LatitudeTest p r = r ≡ is_latitude p

abbrev pub LongitudeTest : Position → Bool → Type 0
LongitudeTest p r = r ≡ is_longitude p

abbrev pub AltitudeTest : Height → Bool → Type 0
AltitudeTest h r = r ≡ is_altitude h

-- of a C point, with the text behind it
abbrev pub PointTest : Point → List ℕ → Bool → Type 0
PointTest p rest r = r ≡ good_point p rest

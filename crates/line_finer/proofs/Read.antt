-- A line that is read by an allowed layout has its counts within their limits and few digits in its columns: the fix that is made is the rules' fix. Assumes nothing.
use Prim.Native.Nat.{ℕ}
use mathlib.Core.List.{List}
use mathlib.Core.Path.{◌≡◌, sym, ◌∙◌}
use borrow.Author.Tests.{leb-true}
use Rattle.rules.specs.Fields.{most_latitude, most_longitude}
use Rattle.rules.specs.Fixes.{finer_of, decimals_of, fine_position, fix_of, fields_of}
use Rattle.rules.specs.Reads.{fields_said, fix_said}
use Rattle.rules.specs.Refusals.{says}
use Rattle.rules.specs.declared.Family.TheVariants as family
use Rattle.rules.specs.declared.Fix.{Fix}
use Rattle.rules.specs.declared.FixFields.{FixFields}
use Rattle.rules.specs.declared.Layout.{Layout}
use Rattle.rules_trips.proofs.Columned.{by_said}
use Rattle.rules_trips.proofs.Fixes.{fix_front}
use Rattle.rules_trips.proofs.LineTrip.{said_from}
use Rattle.rules_trips.proofs.Positions.{position_there}
use Rattle.rules_trips.proofs.Refined.{fields_of_fix, fine_most}
use Rattle.rules_trips.proofs.Times.{time_trip}
use Rattle.line_finer.specs.Within.{time_within, position_within, fix_within}
use Rattle.line_finer.proofs.Laws.{is_within}

pub read_within : (l : List ℕ) (layout : Layout) (f : FixFields) → fields_said family.B l layout ≡ says f → fix_within l (finer_of layout) f ≡ fix_of l (finer_of layout) f
unfolding fix_within time_within position_within fix_of fine_position
read_within l layout f e =
    let w = by_said family.B l layout f e in
    let c = ((fix_front.passes layout l f).0 w.2).fields in
    let few = fine_most layout w.1 in
    let t = is_within l (finer_of layout).time 86400 3 f.time (leb-true _ _ (time_trip.limits l 1 _ c.at_time)) few.0 in
    let a = is_within l (finer_of layout).lat most_latitude 4 f.lat.count (position_there l 7 2 _ _ _ _ c.at_lat).within few.1 in
    let o = is_within l (finer_of layout).lon most_longitude 4 f.lon.count (position_there l 15 3 _ _ _ _ c.at_lon).within few.2 in
    λ i. record {
      time = record { count = sym t i; decimals = decimals_of (finer_of layout).time };
      lat = record { count = sym a i; letter = f.lat.letter; decimals = decimals_of (finer_of layout).lat };
      lon = record { count = sym o i; letter = f.lon.letter; decimals = decimals_of (finer_of layout).lon };
      validity = f.validity;
      pressure = f.pressure;
      gnss = f.gnss;
    }

-- and so it is the fix that the line's reading gives
pub fix_made : (l : List ℕ) (layout : Layout) (f : Fix) → fix_said l layout ≡ says f → fix_within l (finer_of layout) (fields_of f) ≡ f
unfolding fix_said
fix_made l layout f e =
    let s = said_from (λ (l : List ℕ). fix_of l (finer_of layout)) fields_of (λ (l : List ℕ). fields_of_fix l (finer_of layout)) l (fields_said family.B l layout) f e in
    read_within l layout (fields_of f) s.0 ∙ s.1

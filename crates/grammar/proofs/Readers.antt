-- Line 2, E and F lines: the reader says a value exactly when the line is, by the grammar, a line of that value; two positions come as the degrees that they have, within their
-- limits; and a layout is allowed exactly when there is an I, a J or an M line of it. Assumes nothing.
use Prim.Native.Nat.{ℕ}
use Prim.Native.Char.{code}
use mathlib.Core.Bool.{true}
use mathlib.Core.List.{List}
use mathlib.Core.Logic.{◌↔◌}
use mathlib.Core.Path.{◌≡◌, refl, ap, ap₂}
use borrow.Author.Tests.{eqb-true, eq-eqb}
use lib.Dec.{eqb}
use lib.ListN.{get_or}
use Rattle.rules.specs.Families.{first_start}
use Rattle.rules.specs.Refusals.{Said, says}
use Rattle.rules.specs.Degrees.{is_fine_latitude, is_fine_longitude, angle, degrees_of}
use Rattle.rules.specs.Layouts.{allowed}
use Rattle.rules.specs.Lines.{date_line, e_line, f_line}
use Rattle.rules.specs.Reads.{of_kind, date_said, event_said, satellites_said}
use Rattle.rules.specs.Writes.{layout_text}
use Rattle.rules.specs.declared.Date.{Date}
use Rattle.rules.specs.declared.Family.{Family}
use Rattle.rules.specs.declared.FinePosition.{FinePosition}
use Rattle.rules.specs.declared.Degrees.{Degrees}
use Rattle.rules.proofs.Inverse.{refuses_says, need_inv}
use Rattle.grammar_words.specs.Finer.{IsFineLatitude, IsFineLongitude}
use Rattle.grammar_words.proofs.Finer.{fine_latitude_exactly, fine_longitude_exactly, angle_exactly}
use Rattle.grammar.specs.Grammar.{IsDateLine, IsELine, IsFLine, IsLayoutLine}
use Rattle.grammar.specs.BothWays.{Slotted}
use Rattle.grammar.specs.Readings.{OnMap, ReadsMap}
use Rattle.grammar.proofs.EachLine.{date_there, date_said_lem, e_there, e_said, f_there, f_said}
use Rattle.grammar.proofs.LayoutLines.{own_line, layout_told}

-- "A line of another kind than the reader's is 17.": a line of the reader's kind that passes its checks with the value
of_kind_lem : {A : Type 0} (letter : ℕ) (line : List ℕ → Said A) (Is : A → List ℕ → Type 0) (v : A) (l : List ℕ)
    → (get_or l 0 0 ≡ letter → line l ≡ says v → Is v l) → (Is v l → (get_or l 0 0 ≡ letter) × (line l ≡ says v)) → (of_kind letter l (λ _. line l) ≡ says v) ↔ Is v l
of_kind_lem letter line Is v l there said = (
  λ e. let k = need_inv (eqb (get_or l 0 0) letter) _ (says v) _ refuses_says e in there (eqb-true _ _ k.0) k.1,
  λ w. let s = said w in rw (eq-eqb _ _ s.0) s.1,
)

pub date_exactly : (d : Date) (l : List ℕ) → (date_said l ≡ says d) ↔ IsDateLine d l
unfolding date_said
date_exactly d l = of_kind_lem (code "H") date_line IsDateLine d l (date_there l d) (λ w. (ap (λ x. get_or x 0 0) w.text, date_said_lem l d w))

pub event_exactly : (t : ℕ) (l : List ℕ) → (event_said l ≡ says t) ↔ IsELine t l
unfolding event_said
event_exactly t l = of_kind_lem (code "E") e_line IsELine t l (e_there l t) (e_said l t)

pub satellite_exactly : (t : ℕ) (l : List ℕ) → (satellites_said l ≡ says t) ↔ IsFLine t l
unfolding satellites_said
satellite_exactly t l = of_kind_lem (code "F") f_line IsFLine t l (f_there l t) (f_said l t)

pub map_exactly : (lat lon : FinePosition) (d : Degrees) → (degrees_of lat lon ≡ says d) ↔ OnMap lat lon d
unfolding degrees_of
map_exactly lat lon d = (
  λ e.
      let a = need_inv (is_fine_latitude lat) _ (says d) _ refuses_says e in
      let b = need_inv (is_fine_longitude lon) _ (says d) _ refuses_says a.1 in
      let h = b.1 in
      let k : ◌≡◌ {A = Degrees} (record { lat = angle lat; lon = angle lon }) d = cc in
      record {
        latitude = (fine_latitude_exactly lat).0 a.0;
        longitude = (fine_longitude_exactly lon).0 b.0;
        lat_angle = (angle_exactly lat d.lat).0 (ap (λ x. x.lat) k);
        lon_angle = (angle_exactly lon d.lon).0 (ap (λ x. x.lon) k);
      },
  λ w.
      rw ((fine_latitude_exactly lat).1 w.latitude, (fine_longitude_exactly lon).1 w.longitude)
      (ap₂ (λ x y. says (record { lat = x; lon = y })) ((angle_exactly lat d.lat).1 w.lat_angle) ((angle_exactly lon d.lon).1 w.lon_angle)),
)

-- positions within their limits
pub on_map : (lat lon : FinePosition) → IsFineLatitude lat → IsFineLongitude lon → ReadsMap lat lon
on_map lat lon p q =
    let d : Degrees = record { lat = angle lat; lon = angle lon } in
    let w : OnMap lat lon d = record { latitude = p; longitude = q; lat_angle = (angle_exactly lat (angle lat)).0 refl; lon_angle = (angle_exactly lon (angle lon)).0 refl } in
    record { degrees = d; is = w; reads = (map_exactly lat lon d).1 w }

pub some_line : (f : Family) (i : Slotted) → (allowed (first_start f) i.layout ≡ true) ↔ ((l : List ℕ) × IsLayoutLine f i.layout l)
some_line f i = (
  λ e. (layout_text f i.layout, own_line f i.layout (record { right = e; full = i.slots })),
  λ w. (layout_told f i.layout w.0 w.1).right,
)

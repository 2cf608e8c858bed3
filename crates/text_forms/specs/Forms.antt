-- The forms that a track is written in: what stands before the first fix, a fix, and what stands behind the last.
use Rattle.std.specs.Prelude.{ℕ, List, []}
use Rattle.track_rules.specs.declared.Record.{Record}
use Rattle.text_track.specs.Trail.{record_shown}
use Rattle.text_csv.specs.Rows.{names_shown, row_shown}
use Rattle.text_gpx.specs.Points.{open_shown, shut_shown, point_shown}
use Rattle.text_forms.specs.declared.Form.{Form}
use Rattle.text_forms.specs.declared.Form.TheVariants as form

-- before the first fix
unfoldable pub front_of : Form → List ℕ
front_of form.Track = []
front_of (form.Csv d) = names_shown
front_of (form.Gpx d) = open_shown

-- a fix
unfoldable pub line_as : Form → Record → List ℕ
line_as form.Track r = record_shown r.line r.day r.fix
line_as (form.Csv d) r = row_shown d r.day r.fix
line_as (form.Gpx d) r = point_shown d r.day r.fix

-- behind the last
unfoldable pub back_of : Form → List ℕ
back_of form.Track = []
back_of (form.Csv d) = []
back_of (form.Gpx d) = shut_shown

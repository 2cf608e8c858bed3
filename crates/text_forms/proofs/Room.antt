-- A fix has at most 180 bytes in any form. Assumes nothing.
use Prim.Native.Nat.{◌≤◌}
use native.Mathlib.Omega.{arith}
use lib.ListN.{length}
use Rattle.track_rules.specs.declared.Record.{Record}
use Rattle.text_track.proofs.Room.{record_room}
use Rattle.text_csv.proofs.Room.{row_room}
use Rattle.text_gpx.proofs.Room.{point_room}
use Rattle.text_forms.specs.Forms.{line_as}
use Rattle.text_forms.specs.declared.Form.{Form}
use Rattle.text_forms.specs.declared.Form.TheVariants as form

pub line_room : (f : Form) (r : Record) → length (line_as f r) ≤ 180
unfolding line_as
line_room form.Track r = omega (arith, record_room r.line r.day r.fix)
line_room (form.Csv d) r = omega (arith, row_room d r.day r.fix)
line_room (form.Gpx d) r = point_room d r.day r.fix

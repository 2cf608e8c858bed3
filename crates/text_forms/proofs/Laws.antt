-- What each form puts. Assumes nothing.
use Prim.Native.Nat.{ℕ}
use mathlib.Core.List.{List, []}
use mathlib.Core.Path.{◌≡◌, sym}
use Rattle.rules.specs.declared.Date.{Date}
use Rattle.track_rules.specs.declared.Record.{Record}
use Rattle.text_track.specs.Trail.{record_shown}
use Rattle.text_csv.specs.Rows.{names_shown, row_shown}
use Rattle.text_gpx.specs.Points.{open_shown, shut_shown, point_shown}
use Rattle.text_pieces.specs.Buffer.{PiecePut}
use Rattle.text_pieces.proofs.Laws.{nothing}
use Rattle.text_forms.specs.Forms.{front_of, line_as, back_of}
use Rattle.text_forms.specs.declared.Form.{Form}
use Rattle.text_forms.specs.declared.Form.TheVariants as form

module _ (out : List ℕ) (at : ℕ) (f : Form) where
  pub track_front : f ≡ form.Track → PiecePut out at (front_of f) at out
  unfolding front_of
  track_front e = rw e (nothing out at)

  pub track_back : f ≡ form.Track → PiecePut out at (back_of f) at out
  unfolding back_of
  track_back e = rw e (nothing out at)

  pub csv_back : (d : Date) → f ≡ form.Csv d → PiecePut out at (back_of f) at out
  unfolding back_of
  csv_back d e = rw e (nothing out at)

module _ (out after : List ℕ) (at n : ℕ) (f : Form) (d : Date) where
  pub csv_front : f ≡ form.Csv d → PiecePut out at names_shown n after → PiecePut out at (front_of f) n after
  unfolding front_of
  csv_front e p = rw e p

  pub gpx_front : f ≡ form.Gpx d → PiecePut out at open_shown n after → PiecePut out at (front_of f) n after
  unfolding front_of
  gpx_front e p = rw e p

  pub gpx_back : f ≡ form.Gpx d → PiecePut out at shut_shown n after → PiecePut out at (back_of f) n after
  unfolding back_of
  gpx_back e p = rw e p

module _ (out after : List ℕ) (at n : ℕ) (f : Form) (r : Record) where
  pub track_line : f ≡ form.Track → PiecePut out at (record_shown r.line r.day r.fix) n after → PiecePut out at (line_as f r) n after
  unfolding line_as
  track_line e p = rw e p

  pub csv_line : (d : Date) → f ≡ form.Csv d → PiecePut out at (row_shown d r.day r.fix) n after → PiecePut out at (line_as f r) n after
  unfolding line_as
  csv_line d e p = rw e p

  pub gpx_line : (d : Date) → f ≡ form.Gpx d → PiecePut out at (point_shown d r.day r.fix) n after → PiecePut out at (line_as f r) n after
  unfolding line_as
  gpx_line d e p = rw e p

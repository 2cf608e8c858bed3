-- Each way out of `begin` is the first line of the listing. Assumes nothing.
use Rattle.std.specs.Prelude.{Err, Ok, Some}
use Prim.Native.Nat.{ℕ, ◌≤◌, ◌<◌}
use mathlib.Core.List.{List}
use mathlib.Core.Path.{◌≡◌, refl, sym, ap, ◌∙◌}
use borrow.Author.Tests.{le-leb, lt-leb}
use lib.ListN.{length}
use Rattle.rules.specs.Refusals.{number, Said, says, refuses, refusal, outcome, value_or, result_told}
use Rattle.rules.specs.Layouts.{empty_layout}
use Rattle.rules.specs.Order.{no_flight}
use Rattle.rules.specs.Files.{verdict}
use Rattle.rules.specs.Listing.{refused_text, ok_text}
use Rattle.rules.specs.Promises.{FileChecked}
use Rattle.rules.specs.declared.Reason.TheVariants.{InputOver}
use Rattle.rules.specs.declared.Refusal.{Refusal}
use Rattle.rules.specs.declared.Layout.{Layout}
use Rattle.rules.specs.declared.Flight.{Flight}
use Rattle.rules.specs.declared.Checked.{Checked}
use Rattle.rules.specs.declared.Seal.{Seal}
use Rattle.text_pieces.specs.Buffer.{Shown}
use Rattle.igc_list.specs.First.{opened, first_line, Begins}

ok_first : (s : Said Flight) → outcome s ≡ says tt → first_line s ≡ ok_text (value_or no_flight s)
unfolding first_line
ok_first (says f) e = refl
ok_first (refuses n l b) e = cc

refused_first : (s : Said Flight) (w : Refusal) → outcome s ≡ refusal w → first_line s ≡ refused_text (number w.reason) w.line w.byte
unfolding first_line
refused_first (says f) w e = cc
refused_first (refuses n l b) w e = cc

module _ (seal : Seal) (most : ℕ) (file table out after : List ℕ) (n : ℕ) where
  pub over_most : (layout : Layout) → most < length file → Shown (refused_text (number InputOver) 0 0) out n after → layout ≡ empty_layout
      → Begins seal most file table out (record { count = n; lines = 0; layout = layout }) table after
  unfolding opened first_line
  over_most layout h s e = record {
    shown = rw (lt-leb (length file) most h) s;
    lines = rw (lt-leb (length file) most h);
    layout = rw (lt-leb (length file) most h) e;
    entered = rw (lt-leb (length file) most h);
  }

  module _ (entries : List ℕ) (r : Checked) (h : length file ≤ most) (c : FileChecked seal file table r entries) where
    began : (text : List ℕ) → first_line (verdict seal file (Some (length table))) ≡ text → Shown text out n after
        → Begins seal most file table out (record { count = n; lines = r.flight.lines; layout = r.flight.layouts.b }) entries after
    unfolding opened
    began text e s = record {
      shown = rw (le-leb (length file) most h, e) s;
      lines = rw (le-leb (length file) most h) (ap (λ (f : Flight). f.lines) c.told.flight);
      layout = rw (le-leb (length file) most h) (ap (λ (f : Flight). f.layouts.b) c.told.flight);
      entered = rw (le-leb (length file) most h) c.entries;
    }

    pub began_ok : r.outcome ≡ (Ok tt) → Shown (ok_text r.flight) out n after
        → Begins seal most file table out (record { count = n; lines = r.flight.lines; layout = r.flight.layouts.b }) entries after
    unfolding result_told
    began_ok is s = began _ (ok_first _ (sym c.told.answer ∙ ap result_told is)) (rw (sym c.told.flight) s)

    pub began_refused : (w : Refusal) → r.outcome ≡ Err w → Shown (refused_text (number w.reason) w.line w.byte) out n after
        → Begins seal most file table out (record { count = n; lines = r.flight.lines; layout = r.flight.layouts.b }) entries after
    unfolding result_told
    began_refused w is s = began _ (refused_first _ w (sym c.told.answer ∙ ap result_told is)) s

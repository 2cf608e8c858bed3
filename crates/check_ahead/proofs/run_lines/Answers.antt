-- `check_ahead::run_lines` meets its contract: the places are laid by the patterns, and each length is where the last column ends. Assumes nothing.
use mathlib.Core.Path.{◌≡◌}
use lib.ListN.{length}
use Rattle.check_ahead.proofs.Strides.{reaches, fixes_laid, extras_laid}
use Rattle.check_ahead.proofs.run_lines.Goals as goal

pub run_strides-requires : goal.run_strides-requires
run_strides-requires c =
    let pre = c.requires in
    -- what the state tells by its type, field by field: each layout has 13 entries
    let state = c.well_formed.1.1.1.1.1.1.1.0.1.1 in
    let flight = state.1.1.1.1.0.1.1 in
    let layouts = flight.1.0.1.1 in
    let fixes : length c.args.st.flight.layouts.b.entries ≡ 13 = layouts.0.1.1.1.0.1.0.1 in
    let extras : length c.args.st.flight.layouts.k.entries ≡ 13 = layouts.1.0.1.1.1.0.1.0.1 in (
      pre.0,
      pre.1,
      pre.2,
      pre.3,
      pre.4,
      pre.5,
      pre.6,
      pre.7,
      pre.8,
      fixes_laid _ _ c.fix_places-fix_places.ensures,
      extras_laid _ _ c.extra_places-extra_places.ensures,
      reaches pre.6 fixes,
      reaches pre.7 extras,
    )

-- `write_legend::fill_layout` meets its contract. Assumes nothing.
use mathlib.Core.Path.{◌≡◌}
use native.Mathlib.Omega.{arith}
use lib.ListN.{length}
use Rattle.layout_coded.proofs.Turns.{unmapped}
use Rattle.write_legend.proofs.Entries.{layout_filled}
use Rattle.write_legend.proofs.fill_layout.Goals as goal

pub returns : goal.returns
returns c =
    layout_filled _ _ _ _ _ _ c.args.l _ (omega (arith, (let long : length c.args.l.entries ≡ 13 = search unmapped in long), c.requires.few)) c.layout_letter.ensures c.byte.ensures c.digits.ensures c.fill_entries.ensures c.text.ensures

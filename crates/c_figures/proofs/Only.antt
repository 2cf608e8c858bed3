-- No second answer meets the promise of `numbers`. Assumes nothing.
use mathlib.Core.Path.{◌≡◌, sym, ◌∙◌}
use Rattle.rules.specs.declared.Checked.{Checked}
use Rattle.c_answers.specs.declared.Numbers.{Numbers}
use Rattle.c_figures.specs.Figures.{FileNumbered}

pub only_file_numbered : (c : Checked) (r r' : Numbers) → FileNumbered c r → FileNumbered c r' → r ≡ r'
only_file_numbered c r r' e e' = e ∙ sym e'

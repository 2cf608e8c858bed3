-- `shelf::plan_add` meets its contract: each way out is a way through `add_said`. Assumes nothing.
use Rattle.rules.specs.Refusals.{result_told}
use mathlib.Core.Path.{refl}
use Rattle.rules.proofs.Handed.{handed_on}
use Rattle.file_lines.proofs.Places.{refuses_unplaced}
use Rattle.shelf_rules.specs.Shelf.{add_said}
use Rattle.shelf_place.proofs.Links.{links}
use Rattle.shelf.proofs.Ends.{check_passed, check_refused}
use borrow.Author.Rules.{rules}
use Rattle.shelf.proofs.plan_add.Goals as goal

pub returns-then-not-is_sound : goal.returns-then-not-is_sound
unfolding add_said result_told
returns-then-not-is_sound c = search (links, refuses_unplaced, rules) depth 16

pub returns-in_err-checked : goal.returns-in_err-checked
returns-in_err-checked c =
    handed_on _ _ _ c.from_residual.ensures.1
    (check_refused _ _ _ _ c.is_sound.ensures c.if-not-is_sound.false-raw _ c.check_untabled-checked.ensures _ _ c.in_err-checked.was refl)

pub returns : goal.returns
returns c = check_passed _ _ _ _ c.is_sound.ensures c.if-not-is_sound.false-raw _ c.check_untabled-checked.ensures _ c.in_ok-checked.was c.spot_for.ensures

-- `shelf::held_at` meets its contract: each way out is a way through `held_at`. Assumes nothing.
use Rattle.rules.specs.Refusals.{result_told}
use Rattle.rules.proofs.Links.{fields}
use Rattle.file_lines.proofs.Places.{refuses_unplaced}
use Rattle.shelf_rules.specs.Shelf.{held_at}
use Rattle.shelf_place.proofs.Links.{links}
use Rattle.shelf.proofs.Ends.{found_told}
use borrow.Author.Rules.{rules}
use Rattle.shelf.proofs.held_at.Goals as goal

pub returns-then-not-is_sound : goal.returns-then-not-is_sound
unfolding held_at result_told
returns-then-not-is_sound c = search (links, fields, refuses_unplaced, rules) depth 16

pub returns-then-number-eq0 : goal.returns-then-number-eq0
unfolding held_at result_told
returns-then-number-eq0 c = search (links, fields, refuses_unplaced, rules) depth 16

pub returns : goal.returns
unfolding held_at
returns c = search (found_told, links, refuses_unplaced, rules) depth 16

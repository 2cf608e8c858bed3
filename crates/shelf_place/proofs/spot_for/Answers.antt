-- `shelf_place::spot_for` meets its contract: each way out is a way through `spot_for`. Assumes nothing.
use Rattle.rules.specs.Refusals.{result_told}
use Rattle.rules.proofs.Handed.{handed_on, found}
use Rattle.rules.proofs.Links.{fields}
use Rattle.file_lines.proofs.Places.{refuses_unplaced}
use Rattle.shelf_rules.specs.Shelf.{spot_for}
use Rattle.shelf_place.proofs.Links.{links}
use borrow.Author.Rules.{rules}
use Rattle.shelf_place.proofs.spot_for.Goals as goal

pub returns-then-not-is_usable : goal.returns-then-not-is_usable
unfolding spot_for result_told
returns-then-not-is_usable c = search (links, fields, refuses_unplaced, rules) depth 16

pub returns-in_err-entry : goal.returns-in_err-entry
unfolding spot_for
returns-in_err-entry c = handed_on _ _ _ c.from_residual.ensures.1 (search (found, links, refuses_unplaced, c.in_err-entry.was, rules) depth 16)

pub returns-in_err-start : goal.returns-in_err-start
unfolding spot_for
returns-in_err-start c = handed_on _ _ _ c.from_residual-in_err-start.ensures.1 (search (found, links, refuses_unplaced, c.in_ok-entry.was, c.in_err-start.was, rules) depth 16)

pub returns : goal.returns
unfolding spot_for result_told
returns c = search (found, links, c.in_ok-entry.was, c.in_ok-start.was, rules) depth 16

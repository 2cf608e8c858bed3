-- `igc_notice::put_recorder` meets its contract: a file that has bytes 2 to 7, and one that has not. Assumes nothing.
use borrow.Author.Rules.{rules}
use Rattle.rules.specs.Choice.{bytes}
use Rattle.text_pieces.proofs.Laws.{then}
use Rattle.igc_notice.proofs.Laws.{no_recorder, some_recorder}
use Rattle.igc_notice.proofs.put_recorder.Goals as goal

pub returns-then-file-lt7 : goal.returns-then-file-lt7
unfolding bytes
returns-then-file-lt7 c = search (no_recorder, rules)

pub returns : goal.returns
unfolding bytes
returns c = search (some_recorder, then, rules) depth 16

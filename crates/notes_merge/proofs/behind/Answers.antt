-- `notes_merge::behind` meets its contract: no bytes, or those from n on. Assumes nothing.
use borrow.Author.Rules.{rules}
use Rattle.notes_merge.proofs.Merging.{part_none, part_all}
use Rattle.notes_merge.proofs.behind.Goals as goal

pub returns-then-file-n : goal.returns-then-file-n
returns-then-file-n c = search (part_none, rules)

pub returns : goal.returns
returns c = search (part_all, rules)

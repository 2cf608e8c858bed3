-- `notes_fit::has_room` meets its contract. Assumes nothing.
use borrow.Author.Rules.{rules}
use borrow.Author.Tests.{le-leb, lt-leb}
use Rattle.notes_fit.proofs.has_room.Goals as goal

pub returns-then-most-le16777216 : goal.returns-then-most-le16777216
returns-then-most-le16777216 c = rw (le-leb c.args.most 16777216 (search rules))

pub returns-else-most-le16777216 : goal.returns-else-most-le16777216
returns-else-most-le16777216 c = rw (lt-leb c.args.most 16777216 (search rules))

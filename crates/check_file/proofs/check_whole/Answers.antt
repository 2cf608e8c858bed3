-- `check_file::check_whole` meets its contract. Assumes nothing.
use borrow.Author.Rules.{rules}
use borrow.Author.Tests.{le-leb, lt-leb}
use Rattle.rules.specs.Files.{verdict}
use Rattle.check_file.proofs.Checks.{unread}
use Rattle.check_file.proofs.check_whole.Goals as goal

pub returns-then-file-lt1 : goal.returns-then-file-lt1
unfolding verdict
returns-then-file-lt1 c = unread _ _ _ _ _ _ _ (λ room. rw (lt-leb _ _ c.if-file-lt1.true)) c.unplaced.ensures c.refused.ensures

pub returns-then-file-gt16777216 : goal.returns-then-file-gt16777216
unfolding verdict
returns-then-file-gt16777216 c = unread _ _ _ _ _ _ _ (λ room. rw (le-leb _ _ c.if-file-lt1.false, lt-leb _ _ c.if-file-gt16777216.true)) c.unplaced-then-file-gt16777216.ensures c.refused-then-file-gt16777216.ensures

pub returns : goal.returns
unfolding verdict
returns c = search rules

-- `text_decimals::put_seconds_behind` meets its contract. Assumes nothing.
use mathlib.Core.Path.{refl}
use borrow.Author.Rules.{rules}
use Rattle.text_decimals.proofs.Laws.{seconds_fill}
use Rattle.text_decimals.proofs.put_seconds_behind.Goals as goal

pub returns : goal.returns
returns c = seconds_fill _ _ _ _ _ _ _ _ refl c.time.ensures c.put_text.ensures

-- `text_decimals::put_behind_dot` meets its contract. Assumes nothing.
use mathlib.Core.Path.{sym}
use borrow.Author.Rules.{rules}
use lib.Seq.{length-take-le}
use Rattle.text_decimals.proofs.Laws.{dot_fills}
use Rattle.text_decimals.proofs.put_behind_dot.Goals as goal

pub returns : goal.returns
returns c =
    dot_fills _ _ _ _ _ _ _ _ _ _ (search rules) c.digits.ensures c.put_byte-a.ensures c.put_text.ensures

pub slice_bounds-put_text-end : goal.slice_bounds-put_text-end
slice_bounds-put_text-end c = sym (length-take-le _ _ (search rules))

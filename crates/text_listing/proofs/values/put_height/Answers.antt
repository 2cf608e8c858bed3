-- `text_listing::values::put_height` meets its contract: the sign stands before the size where the height is below 0. Assumes nothing.
use Rattle.text_pieces.proofs.Laws.{then}
use Rattle.text_listing.proofs.Laws.{plain_fills, minus_fills}
use Rattle.text_listing.proofs.values.put_height.Goals as goal
use Rattle.text_listing.proofs.values.put_height.Goals.{then-has_no_minus, else-has_no_minus}

pub returns : goal.returns
returns c =
    elim c.if-has_no_minus.branch [
      | then-has_no_minus w ↦
          plain_fills _ _ _ _ _ _ _ _ c.has_no_minus.ensures c.magnitude.ensures w.if-has_no_minus.true
          (then c.put_byte-a.ensures (rw (w.out-is, w.b-is) at c.put_decimal.ensures))
      | else-has_no_minus w ↦
          minus_fills _ _ _ _ _ _ _ _ c.has_no_minus.ensures c.magnitude.ensures w.if-has_no_minus.false
          (then c.put_byte-a.ensures (then w.put_byte-b.ensures (rw (w.out-is, w.b-is) at c.put_decimal.ensures)))
    ]

-- `of_kind` meets its contract. Assumes nothing.
use mathlib.Core.Path.{refl}
use Rattle.rules.specs.Refusals.{result_told}
use Rattle.line_known.proofs.Laws.{kind_is, kind_is_not}
use Rattle.line_known.proofs.of_kind.Goals as goal

pub returns-then-byte-letter : goal.returns-then-byte-letter
unfolding result_told
returns-then-byte-letter c = kind_is_not _ _ _ _ _ _ c.byte.ensures c.if-byte-letter.true refl

pub returns : goal.returns
unfolding result_told
returns c = kind_is _ _ _ _ _ _ c.byte.ensures c.if-byte-letter.false refl

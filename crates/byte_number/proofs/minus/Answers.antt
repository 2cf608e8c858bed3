-- `byte_number::minus` meets its contract. Assumes nothing.
use mir.Syntax.{w64}
use Rattle.byte_number.proofs.Signs.{neg_stays, neg_back}
use Rattle.byte_number.proofs.minus.Goals as goal

pub overflow_sub-result : goal.overflow_sub-result
overflow_sub-result c = neg_stays w64 _ c.requires

pub returns : goal.returns
returns c = rw (neg_back w64 _ c.requires)

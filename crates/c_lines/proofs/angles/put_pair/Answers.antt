-- `angles::put_pair` meets its contract. Assumes nothing.
use mathlib.Core.Path.{refl}
use borrow.Author.Rules.{rules}
use Rattle.c_answers.proofs.Laws.{two_set}
use Rattle.c_lines.proofs.angles.put_pair.Goals as goal

pub returns : goal.returns
returns c = two_set c.args.out.now _ _ _ _ c.requires refl refl

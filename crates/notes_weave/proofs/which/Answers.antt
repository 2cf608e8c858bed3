-- `notes_weave::which` meets its contract: by the two texts that come next. Assumes nothing.
use native.Mathlib.Omega.{arith}
use Rattle.notes_weave.proofs.Reading.{chosen_second, chosen_first, chosen_by}
use borrow.Author.Rules.{rules}
use Rattle.notes_weave.proofs.which.Goals as goal

pub returns-then-x-i : goal.returns-then-x-i
returns-then-x-i c = chosen_second _ _ _ _ _ _ c.requires.0 c.requires.1 c.if-x-i.true (c.requires.2 c.if-x-i.true)

pub returns-then-y-j : goal.returns-then-y-j
returns-then-y-j c = chosen_first _ _ _ _ _ _ c.requires.0 c.requires.1 (omega arith) c.if-y-j.true

pub returns : goal.returns
returns c =
    let p = c.requires in
    chosen_by _ _ _ _ _ _ p.0 p.1 (search rules) (search rules) _ c.whose.ensures

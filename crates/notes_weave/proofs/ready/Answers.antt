-- `notes_weave::ready` meets its contract: the run goes on, or a new one is made. Assumes nothing.
use mathlib.Core.Path.{refl}
use Rattle.notes_weave.proofs.Reading.{fresh_same, fresh_filled}
use Rattle.notes_weave.proofs.ready.Goals as goal

pub returns-then-p : goal.returns-then-p
returns-then-p c = fresh_same _ _ _ c.requires.0 c.if-p.true

pub returns : goal.returns
returns c = fresh_filled _ _ _ _ _ c.refill-n.ensures c.requires.1 _ refl refl refl

-- `notes_runs::keep_one` meets its contract: the note comes not after `last`, or is put in at its place. Assumes nothing.
use native.Mathlib.Omega.{arith}
use Rattle.notes_runs.proofs.Runs.{kept_none, kept_room, kept_full}
use Rattle.notes_runs.proofs.keep_one.Goals as goal

pub returns-then-is_earlier : goal.returns-then-is_earlier
returns-then-is_earlier c = kept_none _ _ _ _ _ c.requires.0 _ c.is_earlier.ensures c.if-is_earlier.true

pub returns-then-n-heads : goal.returns-then-n-heads
returns-then-n-heads c = kept_room _ _ _ _ _ c.before.before.before.before.before.before.before.before.before.before.before.requires.0 _ c.is_earlier.ensures c.if-is_earlier.false _ c.place_of-p.ensures _ c.if-n-heads.true c.push.ensures

pub returns : goal.returns
returns c = kept_full _ _ _ _ _ c.before.before.before.before.before.before.before.before.before.before.before.requires.0 _ c.is_earlier.ensures c.if-is_earlier.false _ c.place_of-p.ensures _ (omega arith) c.push-2.ensures

-- Demand 1, what is claimed: every input has one answer, and what was lent is left as the rules say, also where the answer is a refusal. Each claim is a line from the room that
-- proves it; its words stand in specs/Left. Assumes nothing.
--
-- That a function of the library comes back with an answer at all, for every input, is proved with its contract: none has a `requires`. The claims below are about every answer
-- that the contracts allow: of `check_file::check` (promise FileChecked), of each writer in `write_line` (FixWritten .., which are `Written` of the line's text), and of what hands out
-- a part or puts a value beside its answer. What a reader refuses first stands with demand 2 (`readers_refuse_first` of Demands).
use Rattle.rules.specs.declared.Refusal.{Refusal}
use Rattle.std.specs.Prelude.{Option, Result}
use Prim.Native.Nat.{ℕ}
use mathlib.Core.Bool.{Bool}
use mathlib.Core.List.{List}
use Rattle.rules.specs.Promises.{FileChecked, Written}
use Rattle.rules.specs.declared.Seal.{Seal}
use Rattle.rules.specs.declared.Checked.{Checked}
use Rattle.grammar.specs.Left.{OneAnswer, FileLeaves, WriteLeaves, NoValue}
use Rattle.grammar.proofs.Left as left

-- a file meets the grammar, or has one refusal, with a table of `room` entries or without one; what a file that meets it says is one thing (`said_once` of Demands)
pub one_answer : (seal : Seal) (file : List ℕ) (room : Option ℕ) → OneAnswer seal file room
one_answer = left.one_answer

-- the lent table has entries for all lines of an accepted file, and for the lines before the faulty one of a refused file; the rest is as it was
pub file_leaves : (seal : Seal) (file table : List ℕ) (r : Checked) (after : List ℕ) → FileChecked seal file table r after → FileLeaves seal file table r after
file_leaves = left.file_leaves

-- a refused write, 17 or 18, leaves the output as it was lent
pub write_leaves : (good : Bool) (text : List ℕ) (place : ℕ) (out : List ℕ) (r : Result ℕ Refusal) (after : List ℕ) → Written good text place out r after → WriteLeaves r out after
write_leaves = left.write_leaves

-- a refused reading gives no value
pub no_value : NoValue
no_value = left.no_value

-- The lines of a file checked, with a table or without one.
use Rattle.std.specs.Prelude.{ℕ, Bool, cond, List, ◌≡◌}
use Rattle.rules.specs.Files.{verdict, table_after, CheckedTold}
use Rattle.rules.specs.declared.Checked.{Checked}
use Rattle.rules.specs.declared.Seal.{Seal}
use Rattle.check_table.specs.Turns.{room_of}

-- the answer on the file, and the table afterwards, which stays where it is not lent
pub record LinesChecked (seal : Seal) (lent : Bool) (file table : List ℕ) (r : Checked) (after : List ℕ) : Type 0 where
  pub told : CheckedTold (verdict seal file (room_of lent table)) r
  pub entries : after ≡ cond lent (table_after seal file table) table

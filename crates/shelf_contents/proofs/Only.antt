-- One answer at most meets each promise of this crate. Assumes nothing.
use Prim.Native.Nat.{ℕ}
use mathlib.Core.List.{List}
use Rattle.rules_only.proofs.Only.{Only, same}
use Rattle.shelf_contents.specs.Questions.{SoundTest, EntryFound}

pub only_sound_test : (b : List ℕ) → Only (SoundTest b)
only_sound_test b = same

pub only_entry_found : (b : List ℕ) (number : ℕ) → Only (EntryFound b number)
only_entry_found b number = same

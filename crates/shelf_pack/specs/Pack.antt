-- A shelf packed: what is promised of the answer, and of the buffer afterwards.
use Rattle.rules.specs.declared.Refusal.{Refusal}
use Rattle.std.specs.Prelude.{List, ◌≡◌, ℕ, Result, ⊤}
use Rattle.rules.specs.Refusals.{result_told}
use Rattle.shelf_rules.specs.Packing.{pack_said, PackedOrSame}

pub record ShelfPacked (b : List ℕ) (r : Result ⊤ Refusal) (after : List ℕ) : Type 0 where
  pub told : result_told r ≡ pack_said b
  pub bytes : PackedOrSame b after

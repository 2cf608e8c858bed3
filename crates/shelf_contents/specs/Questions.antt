-- The promises of what is asked of a table of contents.
use Rattle.std.specs.Prelude.{ℕ, Bool, List, ◌≡◌, Option}
use Rattle.shelf_rules.specs.Contents.{sound}
use Rattle.shelf_rules.specs.Shelf.{entry_of}

abbrev pub SoundTest : List ℕ → Bool → Type 0
SoundTest b r = r ≡ sound b

abbrev pub EntryFound : List ℕ → ℕ → Option ℕ → Type 0
EntryFound b number r = r ≡ entry_of b number

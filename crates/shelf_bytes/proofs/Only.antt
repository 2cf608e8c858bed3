-- One buffer at most meets each promise of this crate. Assumes nothing.
use Prim.Native.Nat.{ℕ}
use mathlib.Core.List.{List}
use Rattle.rules_only.proofs.Only.{Only, same}
use Rattle.shelf_bytes.specs.Stow.{WordPut, BytesMoved}

pub only_word_put : (v at : ℕ) (b : List ℕ) → Only (WordPut v at b)
only_word_put v at b = same

pub only_bytes_moved : (to from n : ℕ) (b : List ℕ) → Only (BytesMoved to from n b)
only_bytes_moved to from n b = same

-- One output at most meets each promise of this crate. Assumes nothing.
use Prim.Native.Nat.{ℕ}
use mathlib.Core.List.{List}
use Rattle.rules_only.proofs.Only.{Only, same}
use Rattle.byte_put.specs.Puts.{BytePut, TextPut}

pub only_byte_put : (b at : ℕ) (out : List ℕ) → Only (BytePut b at out)
only_byte_put b at out = same

pub only_text_put : (text : List ℕ) (at : ℕ) (out : List ℕ) → Only (TextPut text at out)
only_text_put text at out = same

-- A number by its four bytes, and bytes moved down. Assumes nothing.
use Prim.Native.Nat.{ℕ, ◌+◌, ◌≤◌, ◌<◌}
use mathlib.Core.List.{List}
use mathlib.Core.Path.{◌≡◌, refl, sym, ◌∙◌}
use native.Mathlib.Omega.{arith}
use borrow.Author.Tests.{le-leb, lt-leb}
use lib.ListN.{length, take, drop}
use lib.Seq.{paste}
use Rattle.std.proofs.Math.Nat.{div-div-eq-div-mul}
use Rattle.std.proofs.lemmas.List.{length-take-le, length-drop}
use Rattle.std.proofs.lemmas.List.Edits.{sets-eq}
use Rattle.std.specs.Int.{to_le_bytes, w32}
use Rattle.shelf_rules.specs.Contents.{word_bytes}
use Rattle.shelf_rules.proofs.Tests.{by_le}
use Rattle.shelf_bytes.specs.Stow.{moved_down}

-- ---- putting

-- a number's four bytes are those that the library makes of it
pub word_is : (v : ℕ) → to_le_bytes w32 v ≡ word_bytes v
unfolding word_bytes
word_is v = rw (div-div-eq-div-mul, div-div-eq-div-mul) refl

pub word_length : (v : ℕ) → length (word_bytes v) ≡ 4
unfolding word_bytes
word_length v = refl

-- ---- moving down

module _ (x b : List ℕ) (to from n : ℕ) where
  pub moved_behind : from < to → x ≡ b → x ≡ moved_down b to from n
  unfolding moved_down
  moved_behind h e = rw (lt-leb to from h) e

  pub moved_over : length b < from + n → x ≡ b → x ≡ moved_down b to from n
  unfolding moved_down
  moved_over h e = by_le to from (λ g. rw (le-leb to from g, lt-leb (from + n) (length b) h) e) (λ g. rw (lt-leb to from g) e)

  -- as many bytes as are moved stand in their place
  pub moved_there : to ≤ from → from + n ≤ length b → x ≡ paste b to (drop from b) n → x ≡ moved_down b to from n
  unfolding moved_down
  moved_there h g e = rw (le-leb to from h, le-leb (from + n) (length b) g)
      (let k : length (take n (drop from b)) ≡ n = length-take-le n (drop from b) (omega (arith, length-drop from b)) in
      e ∙ sym (rw k at (sets-eq (take n (drop from b)) b to (omega arith))))

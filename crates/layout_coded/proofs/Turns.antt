-- One turn of a loop over the entries of a layout: the entry at the place i decides, or those behind it do. Assumes nothing.
use Rattle.std.specs.Prelude.{None, Some}
use Prim.Native.Nat.{ℕ, ◌+◌, ◌≤◌, ◌<◌}
use mathlib.Core.Bool.{Bool, true, false}
use mathlib.Core.Path.{◌≡◌, ◌∙◌, ap}
use native.Mathlib.Omega.{arith}
use lib.ListN.{length, get_or, drop, length-take}
use lib.Seq.{get_or-take}
use Rattle.rules.specs.Choice.{first_of}
use Rattle.rules.specs.Layouts.{unused, entries_of}
use Rattle.rules.specs.declared.Entry.{Entry}
use Rattle.rules.specs.declared.Layout.{Layout}
pub use Rattle.rules_values.proofs.Laws.{unmapped}
use Rattle.byte_chars.proofs.Laws.{hit, miss, past}

-- an entry that counts stands among those of the layout
module _ (l : Layout) (i : ℕ) where
  pub there : length l.entries ≡ 13 → i < 13 → i < l.count → i < length (entries_of l)
  there e h k = simp length-take (omega arith)

  pub same : i < l.count → get_or (entries_of l) i unused ≡ get_or l.entries i unused
  same k = get_or-take l.count l.entries i unused k

-- the first entry that passes a test
module _ {B : Type 0} (test : Entry → Bool) (found : ℕ → Entry → B) (l : Layout) (i : ℕ) where
  pub entry_hit : length l.entries ≡ 13 → i < 13 → i < l.count → test (get_or l.entries i unused) ≡ true
      → first_of test found (drop i (entries_of l)) i ≡ Some (found i (get_or l.entries i unused))
  entry_hit e h k t =
      hit test found (entries_of l) unused i i (there l i e h k) (ap test (same l i k) ∙ t) ∙ ap (λ x. Some (found i x)) (same l i k)

  pub entry_miss : length l.entries ≡ 13 → i < 13 → i < l.count → test (get_or l.entries i unused) ≡ false
      → first_of test found (drop i (entries_of l)) i ≡ first_of test found (drop (i + 1) (entries_of l)) (i + 1)
  entry_miss e h k t = miss test found (entries_of l) unused i i (there l i e h k) (ap test (same l i k) ∙ t)

  pub entry_past : l.count ≤ i → first_of test found (drop i (entries_of l)) i ≡ None
  entry_past k = past test found (entries_of l) unused i i (simp length-take (omega arith))

  pub entry_end : length l.entries ≡ 13 → 13 ≤ i → first_of test found (drop i (entries_of l)) i ≡ None
  entry_end e h = past test found (entries_of l) unused i i (simp length-take (omega arith))

-- One turn of a loop over the entries of a layout or of a line: the entry at the place i decides, or those behind it do. Assumes nothing.
use Rattle.rules.specs.declared.Refusal.{Refusal}
use Rattle.std.specs.Prelude.{Ok, Result}
use Prim.Native.Nat.{ℕ, suc, ◌+◌, ◌-◌, ◌≤◌, ◌<◌}
use mathlib.Core.Bool.{true, false, ◌&&◌}
use mathlib.Core.List.{List}
use mathlib.Core.Path.{◌≡◌, refl, sym}
use native.Mathlib.Numerals.{add-one}
use native.Mathlib.Omega.{arith}
use lib.ListN.{length, get_or, drop, drop_of_length-le, length-take}
use lib.Seq.{drop-cons}
use Rattle.rules.specs.Refusals.{Said, says, refuses, result_told}
use Rattle.rules.specs.Layouts.{unused, entries_of, with_entry, placed, entry_at, entries_from, is_spelt, is_said, all_placed, LayoutTold}
use Rattle.rules.specs.declared.Entry.{Entry}
use Rattle.rules.specs.declared.Layout.{Layout}
use Rattle.layout_coded.proofs.Turns.{there, same}

-- ---- each entry placed behind those before it

module _ (l : Layout) (i start : ℕ) (before : Layout) (e : length l.entries ≡ 13) (h : i < 13) (k : i < l.count) where
  pub place_more : (is_spelt (get_or l.entries i unused) && is_said (placed start before (get_or l.entries i unused) 0)) ≡ true
      → all_placed (drop i (entries_of l)) start before
      ≡ all_placed (drop (i + 1) (entries_of l)) ((get_or l.entries i unused).last + 1) (with_entry before (get_or l.entries i unused))
  unfolding all_placed
  place_more t = rw (add-one i, drop-cons (entries_of l) i unused (there l i e h k), same l i k, t)

  pub place_stop : (is_spelt (get_or l.entries i unused) && is_said (placed start before (get_or l.entries i unused) 0)) ≡ false → all_placed (drop i (entries_of l)) start before ≡ false
  unfolding all_placed
  place_stop t = rw (drop-cons (entries_of l) i unused (there l i e h k), same l i k, t)

pub place_end : (l : Layout) (i start : ℕ) (before : Layout) → l.count ≤ i → all_placed (drop i (entries_of l)) start before ≡ true
unfolding all_placed
place_end l i start before k = rw (drop_of_length-le (entries_of l) {i = i} (simp length-take (omega arith)))

-- ---- the entries of a line, i of count being read

module _ (count i : ℕ) (l : List ℕ) (at start : ℕ) (before : Layout) where
  one_left : i < count → count - i ≡ suc (count - (i + 1))
  one_left h = omega arith

  none_left : count ≤ i → count - i ≡ 0
  none_left h = omega arith

  pub taken : i < count → (e : Entry) → entry_at l at start before ≡ says e
      → entries_from (count - i) l at start before ≡ entries_from (count - (i + 1)) l (at + 7) (e.last + 1) (with_entry before e)
  unfolding entries_from
  taken h e p = rw (one_left h, p)

  pub ends : i < count → (n k b : ℕ) → entry_at l at start before ≡ refuses n k b → entries_from (count - i) l at start before ≡ refuses n k b
  unfolding entries_from
  ends h n k b p = rw (one_left h, p)

  pub done : count ≤ i → entries_from (count - i) l at start before ≡ says before
  unfolding entries_from
  done h = rw (none_left h)

pub told_same : (s t : Said Layout) (r : Result Layout Refusal) → s ≡ t → LayoutTold s r → LayoutTold t r
told_same s t r e h = rw (← e) h

pub told_read : (s : Said Layout) (l : Layout) → s ≡ says l → LayoutTold s (Ok l)
unfolding result_told
told_read s l e = sym e

-- The columns of a B, a K or an N line, over the first start: the line's checks of length, characters and columns are checks of its tail. Assumes nothing.
use Prim.Native.Nat.{ℕ, suc, ◌+◌, ◌-◌, ◌≤◌}
use mathlib.Core.Bool.{true, false}
use mathlib.Core.List.{List, ◌++◌}
use mathlib.Core.Path.{◌≡◌}
use native.Mathlib.Omega.{arith}
use borrow.Author.Tests.{eqb-true, eq-eqb}
use lib.Dec.{eqb}
use lib.ListN.{length}
use lib.Seq.{drop-append-add}
use Rattle.rules.specs.Choice.{part, byte}
use Rattle.rules.specs.Refusals.{says}
use Rattle.rules.specs.Layouts.{entries_of, allowed, line_length, bad_column, columns}
use Rattle.rules.specs.Lines.{shaped_by}
use Rattle.rules.specs.declared.AtLimit.{AtLimit}
use Rattle.rules.specs.declared.Entry.{Entry}
use Rattle.rules.specs.declared.Layout.{Layout}
use Rattle.rules.specs.Limits.{is_clean, bad_tail, good_tail}
use Rattle.rules.proofs.Inverse.{false_true, need_inv}
use Rattle.rules_trips.proofs.Each.{first_same, each_map}
use Rattle.rules_trips.proofs.Texts.{are_valid, nothing_there, nothing_here, front_there, front_here}
use Rattle.rules_trips.proofs.Placing.{all_stand}

-- ---- the line, of a front that ends before the first start, and its tail

module _ (start : ℕ) (a tail : List ℕ) (long : suc (length a) ≡ start) where
  -- what stands from one place to another, not before the first start, stands in the tail
  pub part_tail : (first last : ℕ) → start ≤ first → first ≤ last → part (byte first) last (a ++ tail) ≡ part (first - start) (last + 1 - start) tail
  part_tail first last h g =
      let p : first - 1 ≡ length a + (first - start) = omega arith in
      let q : last - (length a + (first - start)) ≡ last + 1 - start - (first - start) = omega arith in
      rw (p, drop-append-add a tail (first - start), q)

  module _ (at : AtLimit) (layout : Layout) where
    pub columns_tail : allowed start layout ≡ true → bad_column at (a ++ tail) layout ≡ bad_tail at start tail layout
    unfolding bad_column bad_tail
    columns_tail g =
        first_same _ _ (λ (k : ℕ) (e : Entry). e.first) (entries_of layout) 0 (each_map (entries_of layout) (λ e w. rw (part_tail e.first e.last w.starts w.ends)) (all_stand start layout g))

    -- what the line's checks say of the tail
    pub tail_there : (u v : Unit {0}) → allowed start layout ≡ true → shaped_by start layout (a ++ tail) ≡ says u → columns at (a ++ tail) layout ≡ says v
        → good_tail at start tail layout ≡ true
    unfolding shaped_by columns good_tail
    tail_there u v g e k =
        let s = front_there _ _ (start - 1) a tail (omega arith) u e in
        let n : start - 1 + length tail ≡ line_length start layout = omega arith in
        let c = nothing_there (bad_column at (a ++ tail) layout) _ (λ i. i) v k in
        simp (g, eq-eqb _ _ n, s.2) (rw (columns_tail g) at c)

    -- and the other way round
    pub tail_here : are_valid a ≡ true → good_tail at start tail layout ≡ true
        → (allowed start layout ≡ true) × (shaped_by start layout (a ++ tail) ≡ says tt) × (columns at (a ++ tail) layout ≡ says tt)
    unfolding shaped_by columns good_tail
    tail_here v e =
        let g = need_inv (allowed start layout) false true _ false_true e in
        let n = need_inv (eqb (start - 1 + length tail) (line_length start layout)) false true _ false_true g.1 in
        let c = need_inv (is_clean tail) false true _ false_true n.1 in
        let s : start - 1 + length tail ≡ line_length start layout = eqb-true _ _ n.0 in (
          g.0,
          front_here _ _ (start - 1) a tail (omega arith) v (omega arith) (omega arith) c.0,
          nothing_here (bad_column at (a ++ tail) layout) _ (λ i. i) (rw (columns_tail g.0) c.1),
        )

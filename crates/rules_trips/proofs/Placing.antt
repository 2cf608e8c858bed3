-- An entry of a layout that keeps to the rules behind those before it, and so where the entries of an allowed layout stand. Assumes nothing.
use Prim.Native.Nat.{ℕ, ◌+◌, ◌-◌, ◌≤◌}
use mathlib.Core.Bool.{true, false, not, ◌&&◌}
use mathlib.Core.List.{List, [], ◌∷◌}
use mathlib.Core.Path.{◌≡◌, refl}
use native.Mathlib.Omega.{arith}
use borrow.Author.Tests.{le-leb, leb-true, eqb-true, eq-eqb, not-true}
use lib.Dec.{eqb, leb}
use Rattle.rules.specs.Choice.{Each}
use Rattle.rules.specs.Refusals.{Said, says, refuses}
use Rattle.rules.specs.Listed.{width_fits}
use Rattle.rules.specs.Layouts.{is_said, empty_layout, with_entry, entries_of, carries, placed, is_spelt, all_placed, allowed}
use Rattle.rules.specs.declared.Entry.{Entry}
use Rattle.rules.specs.declared.Layout.{Layout}
use Rattle.rules.proofs.Inverse.{refuses_says, false_true, need_inv, and_inv}

-- ---- one entry

-- an entry that keeps to the rules behind those before it
pub record Fits (start : ℕ) (before : Layout) (e : Entry) : Type 0 where
  pub starts : e.first ≡ start
  pub ends : e.first ≤ e.last
  pub once : carries before e.code ≡ false
  pub wide : width_fits e.code (e.last - e.first + 1) ≡ true

pub placed_there : (start : ℕ) (before : Layout) (e x : Entry) (n : ℕ) → placed start before e n ≡ says x → Fits start before e × (e ≡ x)
unfolding placed
placed_there start before e x n h =
    let a = need_inv (eqb e.first start) _ (says x) _ refuses_says h in
    let b = need_inv (leb e.first e.last) _ (says x) _ refuses_says a.1 in
    let c = need_inv (not (carries before e.code)) _ (says x) _ refuses_says b.1 in
    let d = need_inv (width_fits e.code (e.last - e.first + 1)) _ (says x) _ refuses_says c.1 in
    (record { starts = eqb-true _ _ a.0; ends = leb-true _ _ b.0; once = not-true _ c.0; wide = d.0 }, cc)

pub placed_said_lem : (start : ℕ) (before : Layout) (e : Entry) (n : ℕ) → Fits start before e → placed start before e n ≡ says e
unfolding placed
placed_said_lem start before e n w = simp (eq-eqb _ _ w.starts, le-leb _ _ w.ends, w.once, w.wide)

-- an answer that is a value
pub said_some : {A : Type 0} (s : Said A) → is_said s ≡ true → (v : A) × (s ≡ says v)
said_some (says v) e = (v, refl)
said_some (refuses n l b) e = absurd (false_true e)

pub fits_there : (start : ℕ) (before : Layout) (e : Entry) → is_said (placed start before e 0) ≡ true → Fits start before e
fits_there start before e h = let s = said_some (placed start before e 0) h in (placed_there start before e s.0 0 s.1).0

-- ---- the entries of an allowed layout

-- an entry for lines whose columns start at `start`
pub record Stands (start : ℕ) (e : Entry) : Type 0 where
  pub starts : start ≤ e.first
  pub ends : e.first ≤ e.last
  pub wide : width_fits e.code (e.last - e.first + 1) ≡ true

-- none starts before the first start
each_stands : (start : ℕ) (es : List Entry) (from : ℕ) (before : Layout) → start ≤ from → all_placed es from before ≡ true → Each (Stands start) es
unfolding all_placed
each_stands start [] from before h p = tt
each_stands start (e ∷ es) from before h p =
    let s = and_inv (is_spelt e && is_said (placed from before e 0)) _ p in
    let f = fits_there from before e (and_inv (is_spelt e) _ s.0).1 in (
      record { starts = omega (arith, f.starts); ends = f.ends; wide = f.wide },
      each_stands start es (e.last + 1) (with_entry before e) (omega (arith, f.starts, f.ends)) s.1,
    )

pub all_stand : (start : ℕ) (layout : Layout) → allowed start layout ≡ true → Each (Stands start) (entries_of layout)
unfolding allowed
all_stand start layout g =
    let p = and_inv (leb layout.count 13 && all_placed (entries_of layout) start empty_layout) _ g in
    each_stands start (entries_of layout) start empty_layout (omega arith) (and_inv (leb layout.count 13) _ p.0).1

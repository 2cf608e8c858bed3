-- Each way out of `weave` is a way through `woven_said`: too long, no room, or all notes put. Assumes nothing.
use Prim.Native.Nat.{ℕ, ◌+◌, ◌≤◌, ◌<◌}
use mathlib.Core.Bool.{Bool, true, ◌&&◌}
use mathlib.Core.List.{List}
use mathlib.Core.Path.{◌≡◌, sym, ◌∙◌}
use native.Mathlib.Omega.{arith}
use borrow.Author.Tests.{leb-true, le-leb, lt-leb}
use lib.Dec.{leb}
use lib.ListN.{length}
use Rattle.rules.proofs.Inverse.{and_inv}
use Rattle.notes_weave.specs.Loom.{all, Walked}
use Rattle.notes_fit.specs.Weave.{woven_said, NotesWoven}
use Rattle.notes_fit.specs.declared.Woven.TheVariants as woven
use Rattle.notes_fit.proofs.Sizes.{all_size}

module _ (front : ℕ) (a b out : List ℕ) where
  pub long_first : 16777216 < length a → NotesWoven front a b out woven.TooLong out
  unfolding woven_said
  long_first h = record { told = rw (lt-leb (length a) 16777216 h); bytes = rw (lt-leb (length a) 16777216 h) }

  module _ (sa : length a ≤ 16777216) where
    pub long_second : 16777216 < length b → NotesWoven front a b out woven.TooLong out
    unfolding woven_said
    long_second h = record { told = rw (le-leb (length a) 16777216 sa, lt-leb (length b) 16777216 h); bytes = rw (le-leb (length a) 16777216 sa, lt-leb (length b) 16777216 h) }

    module _ (sb : length b ≤ 16777216) where
      pub long_both : 16777216 < front + length (all a b) → NotesWoven front a b out woven.TooLong out
      unfolding woven_said
      long_both h =
          let l = lt-leb (front + length (all a b)) 16777216 h in
          record { told = rw (le-leb (length a) 16777216 sa, le-leb (length b) 16777216 sb, l); bytes = rw (le-leb (length a) 16777216 sa, le-leb (length b) 16777216 sb, l) }

      module _ (n : ℕ) (e : n ≡ front + length (all a b)) (s : n ≤ 16777216) where
        pub no_room : length out < n → NotesWoven front a b out woven.NoRoom out
        unfolding woven_said
        no_room h =
            let w = le-leb (front + length (all a b)) 16777216 (omega arith) in
            let l = lt-leb (front + length (all a b)) (length out) (omega arith) in
            record { told = rw (le-leb (length a) 16777216 sa, le-leb (length b) 16777216 sb, w, l); bytes = rw (le-leb (length a) 16777216 sa, le-leb (length b) 16777216 sb, w, l) }

        pub all_put : n ≤ length out → (m : ℕ) (out₁ : List ℕ) → Walked a b front out out₁ m → NotesWoven front a b out (woven.Put n) out₁
        unfolding woven_said
        all_put h m out₁ v =
            let w = le-leb (front + length (all a b)) 16777216 (omega arith) in
            let l = le-leb (front + length (all a b)) (length out) (omega arith) in
            let p = v.fills.is in
            record {
              told = rw (le-leb (length a) 16777216 sa, le-leb (length b) 16777216 sb, w, l, e);
              bytes = rw (le-leb (length a) 16777216 sa, le-leb (length b) 16777216 sb, w, l) p;
            }

      -- the output has room for all notes of both, whatever they are
      pub all_fit : (most : ℕ) → most ≡ front + length a + length b + 4 → (r : Bool) → r ≡ (leb most 16777216 && leb most (length out)) → r ≡ true → (n : ℕ) (out₁ : List ℕ) → Walked a b front out out₁ n
          → NotesWoven front a b out (woven.Put n) out₁
      all_fit most m r e t n out₁ v =
          let w = and_inv (leb most 16777216) (leb most (length out)) (sym e ∙ t) in
          let l = leb-true most 16777216 w.0 in
          let o = leb-true most (length out) w.1 in
          let s = all_size a b in
          all_put n v.is (omega (arith, v.is)) (omega (arith, v.is)) n out₁ v

-- The bytes held by the bodies that start before a place: they only grow from place to place, and each of them is one of some body. Assumes nothing.
use Rattle.std.specs.Prelude.{None, Option, Some}
use Prim.Native.Nat.{ℕ, zero, suc, ◌+◌, ◌-◌, ◌≤◌, ◌<◌}
use mathlib.Core.Bool.{cond}
use mathlib.Core.List.{List}
use mathlib.Core.Logic.{⊎_elim}
use mathlib.Core.Path.{◌≡◌, refl, sym, ◌∙◌}
use native.Mathlib.Omega.{arith}
use borrow.Author.Tests.{lt-ltb, le-ltb, eqb-true, eqb-false}
use lib.Dec.{eqb, ltb}
use lib.ListN.{length}
use Rattle.shelf_rules.specs.Ranges.{least}
use Rattle.shelf_rules.specs.Contents.{number_of, start_of, size_of, end_of, held, Sound}
use Rattle.shelf_rules.specs.Packing.{before}
use Rattle.shelf_rules.proofs.Tests.{by_eq, by_le}
use Rattle.shelf_rules.proofs.Ranges.{total_le, least_some, least_none}
use Rattle.shelf_rules.proofs.Sounds.{apart_any}
use Rattle.shelf_rules.proofs.Packing.{before_none, before_same, before_next, before_all}

abbrev share : List ℕ → ℕ → ℕ → ℕ
share b at m = cond (ltb (start_of b m) at) (size_of b m) 0

share_le : (b : List ℕ) (a e m : ℕ) → a ≤ e → share b a m ≤ share b e m
share_le b a e m h = by_le a (start_of b m)
    (λ g. rw (le-ltb (start_of b m) a g) (omega arith))
    (λ g. rw (lt-ltb (start_of b m) a g, lt-ltb (start_of b m) e (omega arith)) (omega arith))

share_most : (b : List ℕ) (a m : ℕ) → share b a m ≤ size_of b m
share_most b a m = by_le a (start_of b m)
    (λ g. rw (le-ltb (start_of b m) a g) (omega arith))
    (λ g. rw (lt-ltb (start_of b m) a g) (omega arith))

pub before_mono : (b : List ℕ) (a e : ℕ) → a ≤ e → before b a ≤ before b e
unfolding before
before_mono b a e h = total_le (share b a) (share b e) 64 λ m p. share_le b a e m h

pub before_held : (b : List ℕ) (a : ℕ) → before b a ≤ held b
unfolding before held
before_held b a = total_le (share b a) (size_of b) 64 λ m p. share_most b a m

-- of the bytes held, counted in the order of the bodies, byte j is one of body n
pub record Covers (b : List ℕ) (j n : ℕ) : Type 0 where
  pub entry : n < 64
  pub used : number_of b n ≡ 0 → ⊥
  pub from : before b (start_of b n) ≤ j
  pub upto : j < before b (start_of b n) + size_of b n

module _ (b : List ℕ) (s : Sound b) where
  used_start : (n : ℕ) → n < 64 → 0 < start_of b n → number_of b n ≡ 0 → ⊥
  used_start n p h z = let f = s.kept.free n p z in omega (arith, f.0)

  -- one place further: no body starts there, or one does
  before_there : (a : ℕ) → 0 < a → ((m : ℕ) → m < 64 → start_of b m ≡ a → ⊥) → before b (a + 1) ≡ before b a
  before_there a z f = before_same b s a (a + 1) z (omega arith) (λ m p h. by_eq (start_of b m) a (λ e. absurd (f m p e)) (λ d. omega arith))

  before_here : (n : ℕ) → n < 64 → 0 < start_of b n → before b (start_of b n + 1) ≡ before b (start_of b n) + size_of b n
  before_here n p z =
      let g = s.kept.some_byte n p (used_start n p z) in
      sym (before_same b s (start_of b n + 1) (end_of b n) (omega arith) (omega arith) (λ m q h. by_eq n m
      (λ e. let f : start_of b n + 1 ≤ start_of b n = rw (← e) at h in absurd (omega arith))
      (λ d. ⊎_elim (λ w. w) (λ w. absurd (omega arith)) (apart_any s.kept n m p q d))))
      ∙ before_next b s n p g

  -- byte j is one of the body that starts at a place, or was one before
  covered_next : (d j : ℕ) → j < before b (768 + d + 1) → (j < before b (768 + d) → (n : ℕ) × Covers b j n) → (n : ℕ) × Covers b j n
  covered_next d j h again = by (least (λ m. eqb (start_of b m) (768 + d)) 0 64) refl
    where
      by : (o : Option ℕ) → least (λ m. eqb (start_of b m) (768 + d)) 0 64 ≡ o → (n : ℕ) × Covers b j n
      by None e =
          let f = before_there (768 + d) (omega arith) (λ m p. eqb-false (start_of b m) (768 + d) (least_none (λ m. eqb (start_of b m) (768 + d)) 0 64 e m (omega arith) p)) in
          again (omega arith)
      by (Some n) e =
          let l = least_some (λ m. eqb (start_of b m) (768 + d)) 0 64 n e in
          let q = eqb-true (start_of b n) (768 + d) l.passes in
          let f : before b (768 + d + 1) ≡ before b (768 + d) + size_of b n = rw q at (before_here n l.high (omega arith)) in
          by_le (before b (768 + d)) j
          (λ k. (n, record { entry = l.high; used = used_start n l.high (omega arith); from = rw q k; upto = rw q (omega arith) }))
          again

  covered : (d j : ℕ) → j < before b (768 + d) → (n : ℕ) × Covers b j n
  covered zero j h = let z = before_none b s in let e : 768 + 0 ≡ 768 = omega arith in let g : j < before b 768 = rw e at h in absurd (omega arith)
  covered (suc d) j h = let e : 768 + suc d ≡ 768 + d + 1 = omega arith in covered_next d j (rw e at h) (λ g. covered d j g)

  all_before : before b (length b) ≡ held b
  all_before = before_all b s (length b) (λ m p. by_eq (number_of b m) 0
      (λ z. let f = s.kept.free m p z in let r = s.least_room in omega (arith, f.0))
      (λ u. let g = s.kept.some_byte m p u in let h = s.kept.inside m p u in omega arith))

  pub covers : (j : ℕ) → j < held b → (n : ℕ) × Covers b j n
  covers j h =
      let r = s.least_room in
      let e : 768 + (length b - 768) ≡ length b = omega arith in
      covered (length b - 768) j (rw e (let f = all_before in omega arith))

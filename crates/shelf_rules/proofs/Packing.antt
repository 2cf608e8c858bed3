-- Packing: the bytes held by the bodies that start before a place, and what one move leaves. Assumes nothing.
use Prim.Native.Nat.{ℕ, zero, suc, ◌+◌, ◌*◌, ◌≤◌, ◌<◌}
use mathlib.Core.Bool.{cond}
use mathlib.Core.List.{List}
use mathlib.Core.Logic.{inl, inr, ⊎_elim}
use mathlib.Core.Path.{◌≡◌, refl, sym, ◌∙◌}
use native.Mathlib.Omega.{arith}
use borrow.Author.Tests.{lt-ltb, le-ltb}
use lib.Dec.{ltb}
use lib.ListN.{length, get_or}
use lib.Seq.{sets, length-sets}
use Rattle.shelf_rules.specs.Ranges.{total}
use Rattle.shelf_rules.specs.Contents.{word_bytes, number_of, start_of, size_of, end_of, body_of, held, Sound}
use Rattle.shelf_rules.specs.Packing.{before, Outside}
use Rattle.shelf_rules.specs.Moves.{moved_to}
use Rattle.shelf_rules.proofs.Tests.{by_eq, by_le}
use Rattle.shelf_rules.proofs.Ranges.{total_same, total_change}
use Rattle.shelf_rules.proofs.Bytes.{run, run_kept, run_stored, get_d_sets_out}
use Rattle.shelf_rules.proofs.Sounds.{apart_any}

-- ---- a place, and a run of bytes

module _ {A : Type 0} where
  -- outside, or inside
  pub by_outside : (at size i : ℕ) → (Outside at size i → A) → (at ≤ i → i < at + size → A) → A
  by_outside at size i f g = by_le at i (λ h. by_le (at + size) i (λ e. f (inr e)) (λ e. g h e)) (λ h. f (inl h))

-- ---- what starts before a place

-- an entry's share
abbrev pub share : List ℕ → ℕ → ℕ → ℕ
share b at m = cond (ltb (start_of b m) at) (size_of b m) 0

pub share_in : (b : List ℕ) (at m : ℕ) → start_of b m < at → share b at m ≡ size_of b m
share_in b at m h = rw (lt-ltb (start_of b m) at h)

pub share_out : (b : List ℕ) (at m : ℕ) → at ≤ start_of b m → share b at m ≡ 0
share_out b at m h = rw (le-ltb (start_of b m) at h)

-- an empty entry has none
share_none : (b : List ℕ) (at m : ℕ) → size_of b m ≡ 0 → share b at m ≡ 0
share_none b at m h = by_le at (start_of b m) (λ g. share_out b at m g) (λ g. share_in b at m g ∙ h)

pub total_zero : (f : ℕ → ℕ) (k : ℕ) → ((n : ℕ) → n < k → f n ≡ 0) → total f k ≡ 0
unfolding total
total_zero f zero h = refl
total_zero f (suc k) h = let s = total_zero f k (λ n p. h n (omega arith)) in let t = h k (omega arith) in omega arith

module _ (b : List ℕ) (s : Sound b) where
  pub before_none : before b 768 ≡ 0
  unfolding before
  before_none = total_zero (share b 768) 64 λ n p. by_eq (number_of b n) 0
      (λ z. share_none b 768 n (s.kept.free n p z).1)
      (λ z. share_out b 768 n (s.kept.from_768 n p z))

  -- no body starts between two places
  pub before_same : (a e : ℕ) → 0 < a → a ≤ e → ((m : ℕ) → m < 64 → a ≤ start_of b m → e ≤ start_of b m) → before b e ≡ before b a
  unfolding before
  before_same a e z h f = total_same (share b e) (share b a) 64 λ m p. by_le a (start_of b m)
      (λ g. share_out b e m (f m p g) ∙ sym (share_out b a m g))
      (λ g. share_in b e m (omega arith) ∙ sym (share_in b a m g))

  -- one body starts between its start and its end
  pub before_next : (n : ℕ) → n < 64 → 0 < size_of b n → before b (end_of b n) ≡ before b (start_of b n) + size_of b n
  unfolding before
  before_next n p h =
      let t = total_change (share b (start_of b n)) (share b (end_of b n)) 64 n p (λ m q d. by_le (start_of b n) (start_of b m)
      (λ g. ⊎_elim
      (λ w. share_out b (end_of b n) m w ∙ sym (share_out b (start_of b n) m g))
      (λ w. let z : size_of b m ≡ 0 = omega arith in share_none b (end_of b n) m z ∙ sym (share_none b (start_of b n) m z))
      (apart_any s.kept n m p q (λ e. d (sym e))))
      (λ g. share_in b (end_of b n) m (omega arith) ∙ sym (share_in b (start_of b n) m g))) in
      let u = share_out b (start_of b n) n (omega arith) in
      let v = share_in b (end_of b n) n (omega arith) in
      omega arith

  pub before_all : (a : ℕ) → ((m : ℕ) → m < 64 → start_of b m < a) → before b a ≡ held b
  unfolding before held
  before_all a f = total_same (share b a) (size_of b) 64 λ m p. share_in b a m (f m p)

-- ---- one move

module _ (b : List ℕ) (n at : ℕ) where
  pub moved_length : length (moved_to b n at) ≡ length b
  moved_length = length-sets (sets b at (body_of b n)) (12 * n + 4) (word_bytes at) ∙ length-sets b at (body_of b n)

  -- each byte but those of the start and of the body stays
  pub moved_only : (i : ℕ) → Outside (12 * n + 4) 4 i → Outside at (length (body_of b n)) i → get_or (moved_to b n at) i 0 ≡ get_or b i 0
  unfolding word_bytes
  moved_only i g h = get_d_sets_out (sets b at (body_of b n)) (12 * n + 4) (word_bytes at) i g ∙ get_d_sets_out b at (body_of b n) i h

  pub moved_start : n < 64 → 768 ≤ length b → run (12 * n + 4) 4 (moved_to b n at) ≡ word_bytes at
  unfolding word_bytes
  moved_start p h = run_stored (sets b at (body_of b n)) (12 * n + 4) (word_bytes at) (omega (arith, length-sets b at (body_of b n)))

  pub moved_body : n < 64 → 768 ≤ at → (size : ℕ) → at + size ≤ length b → length (body_of b n) ≡ size → run at size (moved_to b n at) ≡ body_of b n
  unfolding word_bytes
  moved_body p g size h e =
      run_kept (sets b at (body_of b n)) (12 * n + 4) (word_bytes at) at size (rw length-sets h) (inr (omega arith))
      ∙ rw e at (run_stored b at (body_of b n) (rw e h))

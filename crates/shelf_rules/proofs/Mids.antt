-- Packing, one body at a time: what holds between two moves, from the first to the last. Assumes nothing.
use Rattle.std.specs.Prelude.{None, Some}
use Prim.Native.Nat.{ℕ, ◌+◌, ◌*◌, ◌≤◌, ◌<◌}
use mathlib.Core.List.{List}
use mathlib.Core.Logic.{◌⊎◌, inl, inr, ⊎_elim}
use mathlib.Core.Path.{◌≡◌, refl, sym, ◌∙◌}
use native.Mathlib.Omega.{arith}
use lib.ListN.{length, get_or}
use Rattle.shelf_rules.specs.Contents.{word_bytes, number_of, start_of, size_of, body_of, Sound}
use Rattle.shelf_rules.specs.Packing.{before, packed_start, Untouched, Packed}
use Rattle.shelf_rules.specs.Moves.{moved_to, NextOf}
use Rattle.shelf_rules.proofs.Tests.{by_eq, by_le}
use Rattle.shelf_rules.proofs.Bytes.{run, length_run, run_same, word_same, word_run}
use Rattle.shelf_rules.proofs.Sounds.{apart_any}
use Rattle.shelf_rules.proofs.Packing.{before_none, before_same, before_next, moved_length, moved_only, moved_start, moved_body}

-- b is o with the bodies that started before `from` packed below `at`, and all else as it was
pub record Mid (o : List ℕ) (at from : ℕ) (b : List ℕ) : Type 0 where
  pub same_length : length b ≡ length o
  pub low : 768 ≤ at
  pub order : at ≤ from
  pub inside : from ≤ length o
  pub sum : at ≡ 768 + before o from
  pub start : (n : ℕ) → n < 64 → (number_of o n ≡ 0 → ⊥) → start_of o n < from → run (12 * n + 4) 4 b ≡ word_bytes (packed_start o n)
  pub bytes : (n : ℕ) → n < 64 → (number_of o n ≡ 0 → ⊥) → start_of o n < from → run (packed_start o n) (size_of o n) b ≡ body_of o n
  pub below : (n : ℕ) → n < 64 → (number_of o n ≡ 0 → ⊥) → start_of o n < from → packed_start o n + size_of o n ≤ at
  pub only : (i : ℕ) → ((n : ℕ) → n < 64 → (number_of o n ≡ 0 → ⊥) → start_of o n < from → Untouched o n i) → get_or b i 0 ≡ get_or o i 0

-- ---- before the first move

pub mid_first : (o : List ℕ) → Sound o → Mid o 768 768 o
mid_first o s =
    let late : (n : ℕ) → n < 64 → (number_of o n ≡ 0 → ⊥) → start_of o n < 768 → ⊥ = λ n p u h. let g = s.kept.from_768 n p u in omega arith in
    record {
      same_length = refl;
      low = omega arith;
      order = omega arith;
      inside = s.least_room;
      sum = let z = before_none o s in omega arith;
      start = λ n p u h. absurd (late n p u h);
      bytes = λ n p u h. absurd (late n p u h);
      below = λ n p u h. absurd (late n p u h);
      only = λ i h. refl;
    }

-- ---- an entry's three words, between two moves

module _ (o : List ℕ) (at from : ℕ) (b : List ℕ) (s : Sound o) (k : Mid o at from b) (n : ℕ) (p : n < 64) where
  -- the length
  pub size_kept : size_of b n ≡ size_of o n
  size_kept = word_same b o (12 * n + 8) (12 * n + 8) λ i h. k.only (12 * n + 8 + i) λ m q u g. (
    by_le m n (λ w. inr (omega arith)) (λ w. inl (omega arith)),
    inl (omega arith),
  )

  -- the start, where the body was not moved
  start_kept : ((m : ℕ) → m < 64 → (number_of o m ≡ 0 → ⊥) → start_of o m < from → m ≡ n → ⊥) → start_of b n ≡ start_of o n
  start_kept d = word_same b o (12 * n + 4) (12 * n + 4) λ i h. k.only (12 * n + 4 + i) λ m q u g. (
    by_le m n (λ w. let z = d m q u g in inr (by_eq m n (λ e. absurd (z e)) (λ e. omega arith))) (λ w. inl (omega arith)),
    inl (omega arith),
  )

  pub start_free : number_of o n ≡ 0 → start_of b n ≡ 0
  start_free z = start_kept (λ m q u g e. u (rw e z)) ∙ (s.kept.free n p z).0

  pub start_todo : from ≤ start_of o n → start_of b n ≡ start_of o n
  start_todo h = start_kept (λ m q u g e. let w : start_of o n < from = rw e at g in omega arith)

  -- and where it was
  pub start_done : (number_of o n ≡ 0 → ⊥) → start_of o n < from → start_of b n ≡ packed_start o n
  start_done u h =
      let e = k.below n p u h in
      let f = k.order in
      let g = k.inside in
      let m = s.most_room in
      word_run b (12 * n + 4) (packed_start o n) (omega arith) (k.start n p u h)

  -- the bytes that were not passed yet
  pub run_todo : at ≤ start_of o n → start_of o n + size_of o n ≤ length o → run (start_of o n) (size_of o n) b ≡ body_of o n
  run_todo g h =
      run_same (start_of o n) (start_of o n) (size_of o n) b o (rw k.same_length h) h λ i q.
      k.only (start_of o n + i) λ m r u w. (
        (let l = k.low in inr (omega arith)),
        (let l = k.below m r u w in inr (omega arith)),
      )

-- ---- a move

module _ (o : List ℕ) (at from : ℕ) (b : List ℕ) (n : ℕ) (s : Sound o) (k : Mid o at from b) (x : NextOf b from 64 (Some n)) where
  -- the entry is used, and its body was not moved yet
  next_used : number_of o n ≡ 0 → ⊥
  next_used z = let f = start_free o at from b s k n x.0 z in let g = k.low in let h = k.order in let y = x.1 in omega arith

  pub next_bytes : 1 ≤ size_of o n
  next_bytes = s.kept.some_byte n x.0 next_used

  next_todo : from ≤ start_of o n
  next_todo = by_le from (start_of o n) (λ g. g) (λ g.
      let e = start_done o at from b s k n x.0 next_used g in
      let f = k.below n x.0 next_used g in
      let h = k.order in
      let y = x.1 in
      let z = next_bytes in
      absurd (omega arith))

  pub next_start : start_of b n ≡ start_of o n
  next_start = start_todo o at from b s k n x.0 next_todo

  pub next_size : size_of b n ≡ size_of o n
  next_size = size_kept o at from b s k n x.0

  next_inside : start_of o n + size_of o n ≤ length o
  next_inside = s.kept.inside n x.0 next_used

  -- what the move asks
  pub move_order : at ≤ start_of b n
  move_order = let h = k.order in let y = x.1 in omega arith

  pub move_inside : start_of b n + size_of b n ≤ length b
  move_inside = rw (next_start, next_size, k.same_length) next_inside

  -- none of the others that were not moved starts before it
  first : (m : ℕ) → m < 64 → from ≤ start_of o m → start_of o n ≤ start_of o m
  first m p g =
      let f = start_todo o at from b s k m p g in
      let y = x.2 m p (rw f g) in
      let h = next_start in
      omega arith

  -- any other body was moved, or lies past this one
  other : (m : ℕ) → m < 64 → (m ≡ n → ⊥) → (number_of o m ≡ 0 → ⊥) → (start_of o m < from) ⊎ (start_of o n + size_of o n ≤ start_of o m)
  other m p d u = by_le from (start_of o m)
      (λ g. ⊎_elim inr
      (λ w. let y = first m p g in let z = s.kept.some_byte m p u in absurd (omega arith))
      (apart_any s.kept n m x.0 p (λ e. d (sym e))))
      inl

  moved_before : (m : ℕ) → m < 64 → (m ≡ n → ⊥) → (number_of o m ≡ 0 → ⊥) → start_of o m < start_of o n + size_of o n → start_of o m < from
  moved_before m p d u h = ⊎_elim (λ g. g) (λ g. absurd (omega arith)) (other m p d u)

  -- its packed start is the place in hand
  here : packed_start o n ≡ at
  here =
      let g = k.low in
      let h = k.order in
      let e = before_same o s from (start_of o n) (omega arith) next_todo first in
      let f = k.sum in
      omega arith

  long : length (body_of b n) ≡ size_of o n
  long = rw (next_start, next_size) (length_run (start_of o n) (size_of o n) b (rw k.same_length next_inside))

  body_same : body_of b n ≡ body_of o n
  body_same =
      let f = k.order in
      let g = next_todo in
      rw (next_start, next_size) (run_todo o at from b s k n x.0 (omega arith) next_inside)

  start_here : run (12 * n + 4) 4 (moved_to b n at) ≡ word_bytes (packed_start o n)
  start_here = rw here (moved_start b n at x.0 (rw k.same_length s.least_room))

  start_other : (m : ℕ) → m < 64 → (m ≡ n → ⊥) → run (12 * m + 4) 4 (moved_to b n at) ≡ run (12 * m + 4) 4 b
  start_other m p d =
      let l = k.low in
      let e = moved_length b n at in
      let f = k.same_length in
      let g = s.least_room in
      run_same (12 * m + 4) (12 * m + 4) 4 (moved_to b n at) b (omega arith) (omega arith) λ i q.
      moved_only b n at (12 * m + 4 + i)
      (by_le n m (λ w. inr (by_eq m n (λ z. absurd (d z)) (λ z. omega arith))) (λ w. inl (omega arith)))
      (inl (omega arith))

  body_here : run (packed_start o n) (size_of o n) (moved_to b n at) ≡ body_of o n
  body_here =
      let g = move_order in
      let h = move_inside in
      let z = next_size in
      rw here (moved_body b n at x.0 k.low (size_of o n) (omega arith) long ∙ body_same)

  body_other : (m : ℕ) → m < 64 → (number_of o m ≡ 0 → ⊥) → start_of o m < from → run (packed_start o m) (size_of o m) (moved_to b n at) ≡ run (packed_start o m) (size_of o m) b
  body_other m p u h =
      let l = k.below m p u h in
      let r = k.order in
      let v = k.inside in
      let e = moved_length b n at in
      let f = k.same_length in
      let q = x.0 in
      run_same (packed_start o m) (packed_start o m) (size_of o m) (moved_to b n at) b (omega arith) (omega arith) λ i w.
      moved_only b n at (packed_start o m + i) (inr (omega arith)) (inl (omega arith))

  moved : Mid o (at + size_of o n) (start_of o n + size_of o n) (moved_to b n at)
  moved = record {
    same_length = moved_length b n at ∙ k.same_length;
    low = let g = k.low in omega arith;
    order = let g = k.order in let h = next_todo in omega arith;
    inside = next_inside;
    sum = let e = before_next o s n x.0 next_bytes in let f = here in omega arith;
    start = λ m p u h. by_eq m n (λ e. rw e start_here) (λ d. start_other m p d ∙ k.start m p u (moved_before m p d u h));
    bytes = λ m p u h. by_eq m n (λ e. rw e body_here) (λ d. let g = moved_before m p d u h in body_other m p u g ∙ k.bytes m p u g);
    below = λ m p u h. by_eq m n
        (λ e. let f = here in rw e (omega arith))
        (λ d. let f = k.below m p u (moved_before m p d u h) in omega arith);
    only = λ i h.
        let y = next_todo in
        let z = next_bytes in
        let g = h n x.0 next_used (omega arith) in
        moved_only b n at i g.0 (rw (here, ← long) at g.1) ∙ k.only i (λ m p u w. h m p u (omega arith));
  }

  pub mid_move : (a e : ℕ) → a ≡ at + size_of b n → e ≡ start_of b n + size_of b n → Mid o a e (moved_to b n at)
  mid_move a e f g =
      let h : a ≡ at + size_of o n = let z = next_size in omega arith in
      let i : e ≡ start_of o n + size_of o n = let z = next_size in let y = next_start in omega arith in
      rw (h, i) moved

-- ---- after the last move

pub mid_last : (o : List ℕ) (at from : ℕ) (b : List ℕ) → Sound o → Mid o at from b → NextOf b from 64 None → Packed o b
mid_last o at from b s k x =
    let all : (m : ℕ) → m < 64 → start_of o m < from = λ m p. by_le from (start_of o m)
    (λ g. let e = start_todo o at from b s k m p g in let y = x m p in absurd (omega arith)) (λ g. g) in
    record {
      same_length = k.same_length;
      start = λ n p u. k.start n p u (all n p);
      bytes = λ n p u. k.bytes n p u (all n p);
      only = λ i h. k.only i (λ n p u g. h n p u);
    }

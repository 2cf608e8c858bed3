-- Marks put one after the other, and a text held against its places a byte at a time. Assumes nothing.
use Rattle.std.proofs.Common.{◌≡◌, ℕ, zero, suc, ◌+◌, ◌-◌, ◌*◌, ◌/◌, ◌%◌, ◌<◌, ◌≤◌, Bool, true, false, cond, ◌&&◌, leb, List, [], ◌∷◌, length, get_or, drop, set, replicate, sym, refl, ap, ◌∙◌, arith, length-drop, length-set, drop_of_length-le, drop-cons, le-leb, leb-false, leb-true}
use mathlib.Core.Bool.{and-true, and_assoc}
use lib.ListN.{length-replicate}
use lib.Seq.{sets, length-sets}
use borrow.Author.Tests.{lt-leb}
use Rattle.check_places.specs.Places.{is_near, may_stand, kept, next_mark, column_marks, end_marks, columns_marks, worth, seconds_of}
use Rattle.rules.proofs.Texts.{sets_append}
use Rattle.check_sure.proofs.Laws.{triple}
use Rattle.check_places.specs.declared.Marks.{Marks}

-- ---- marks put

pub set_past : (l : List ℕ) (at v : ℕ) → length l ≤ at → l ≡ set l at v
set_past [] at v h = refl
set_past (x ∷ l) zero v h = let z : ⊥ = omega arith in search
set_past (x ∷ l) (suc at) v h = ap (λ (r : List ℕ). x ∷ r) (set_past l at v (omega arith))

pub long_set : (list after : List ℕ) (at v n : ℕ) → after ≡ set list at v → length list ≡ n → length after ≡ n
long_set list after at v n q e = rw q (length-set list at v ∙ e)

pub long_sets : (list after vs : List ℕ) (at n : ℕ) → after ≡ sets list at vs → length list ≡ n → length after ≡ n
long_sets list after vs at n q e = rw q (length-sets list at vs ∙ e)

-- what is left to put, from a place of the front on
module _ (front list whole : List ℕ) (i : ℕ) (e : sets list i (drop i front) ≡ whole) where
  pub front_step : i < length front → (after : List ℕ) → after ≡ set list i (get_or front i 0) → sets after (i + 1) (drop (i + 1) front) ≡ whole
  front_step h after q =
      let one : i + 1 ≡ suc i = omega arith in
      rw (q, one) (rw (drop-cons front i 0 h) at e)

  pub front_end : length front ≤ i → list ≡ whole
  front_end h = rw (drop_of_length-le front {i = i} h) at e

-- the same of a mark that is put many times
module _ (list whole : List ℕ) (at n v i : ℕ) (e : sets list (at + i) (replicate (n - i) v) ≡ whole) where
  pub run_step : i < n → (after : List ℕ) → after ≡ set list (at + i) v → sets after (at + (i + 1)) (replicate (n - (i + 1)) v) ≡ whole
  run_step h after q =
      let one : at + (i + 1) ≡ suc (at + i) = omega arith in
      let left : n - i ≡ suc (n - (i + 1)) = omega arith in
      rw (q, one) (rw left at e)

  pub run_end : n ≤ i → list ≡ whole
  run_end h = let none : n - i ≡ 0 = omega arith in rw none at e

pub run_first : (list : List ℕ) (at n v : ℕ) → sets list (at + 0) (replicate (n - 0) v) ≡ sets list at (replicate n v)
run_first list at n v = let a : at + 0 ≡ at = omega arith in let b : n - 0 ≡ n = omega arith in rw (a, b)

-- ---- the marks of columns

few : (m : Marks) (p : List ℕ) → length p < 3 → columns_marks m p ≡ end_marks m
unfolding columns_marks
few m [] h = refl
few m (a ∷ []) h = refl
few m (a ∷ e ∷ []) h = refl
few m (a ∷ e ∷ rule ∷ p) h = let z : ⊥ = omega arith in search

module _ (m : Marks) (pattern list whole : List ℕ) (at k : ℕ) (e : sets list at (columns_marks m (drop (3 * k) pattern)) ≡ whole) where
  pub columns_step : k < length pattern / 3 → (more : ℕ) → more ≡ get_or pattern (3 * k + 1) 0 - get_or pattern (3 * k) 0 → (after : List ℕ)
      → after ≡ sets list at (column_marks m more (get_or pattern (3 * k + 2) 0)) → sets after (at + (more + 1)) (columns_marks m (drop (3 * (k + 1)) pattern)) ≡ whole
  unfolding columns_marks
  columns_step h more f after q =
      let n : 3 * (k + 1) ≡ 3 * k + 3 = omega arith in
      let marks = column_marks m more (get_or pattern (3 * k + 2) 0) in
      let long : length marks ≡ more + 1 = rw (length-replicate more (next_mark m (get_or pattern (3 * k + 2) 0))) (omega arith) in
      let apart = sets_append list at marks (columns_marks m (drop (3 * k + 3) pattern)) in
      rw (q, n, ← long, ← apart) (rw (triple pattern (3 * k) (omega arith), ← f) at e)

  pub columns_end : length pattern / 3 ≤ k → sets list at (end_marks m) ≡ whole
  columns_end h = rw (few m (drop (3 * k) pattern) (simp length-drop (omega arith))) at e

-- ---- a byte near its low one

pub near_is : (r low span b : ℕ) → r < 256 → low < 256 → b < 256 → (r + low) % 256 ≡ b → leb r span ≡ is_near low span b
unfolding is_near
near_is r low span b f g h e = by (leb low b) refl
  where
    by : (t : Bool) → leb low b ≡ t → leb r span ≡ leb (cond t (b - low) (b + 256 - low)) span
    by true q = let k : low ≤ b = leb-true low b q in let n : r ≡ b - low = omega arith in rw n
    by false q = let k : b < low = leb-false low b q in let n : r ≡ b + 256 - low = omega arith in rw n

-- ---- a text held against its places: what was found so far and what is left decide as the whole does

never : (t : Bool) {u : Bool} → false ≡ u → false ≡ (t && u)
never true e = e
never false e = refl

pub kept_short : (low span other l : List ℕ) → length span < length low → false ≡ kept low span other l
unfolding kept
kept_short [] span other l h = let z : ⊥ = omega arith in search
kept_short (a ∷ low) [] other l h = refl
kept_short (a ∷ low) (s ∷ span) [] l h = refl
kept_short (a ∷ low) (s ∷ span) (o ∷ other) [] h = refl
kept_short (a ∷ low) (s ∷ span) (o ∷ other) (b ∷ l) h = never (may_stand a s o b) (kept_short low span other l (omega arith))

pub kept_few : (low span other l : List ℕ) → length other < length low → false ≡ kept low span other l
unfolding kept
kept_few [] span other l h = let z : ⊥ = omega arith in search
kept_few (a ∷ low) [] other l h = refl
kept_few (a ∷ low) (s ∷ span) [] l h = refl
kept_few (a ∷ low) (s ∷ span) (o ∷ other) [] h = refl
kept_few (a ∷ low) (s ∷ span) (o ∷ other) (b ∷ l) h = never (may_stand a s o b) (kept_few low span other l (omega arith))

pub kept_ended : (low span other l : List ℕ) → length l < length low → false ≡ kept low span other l
unfolding kept
kept_ended [] span other l h = let z : ⊥ = omega arith in search
kept_ended (a ∷ low) [] other l h = refl
kept_ended (a ∷ low) (s ∷ span) [] l h = refl
kept_ended (a ∷ low) (s ∷ span) (o ∷ other) [] h = refl
kept_ended (a ∷ low) (s ∷ span) (o ∷ other) (b ∷ l) h = never (may_stand a s o b) (kept_ended low span other l (omega arith))

module _ (low span other l : List ℕ) (i : ℕ) (ok whole : Bool) (e : (ok && kept (drop i low) (drop i span) (drop i other) (drop i l)) ≡ whole) where
  step : i < length low → i < length span → i < length other → i < length l
      → kept (drop i low) (drop i span) (drop i other) (drop i l)
      ≡ (may_stand (get_or low i 0) (get_or span i 0) (get_or other i 0) (get_or l i 0) && kept (drop (i + 1) low) (drop (i + 1) span) (drop (i + 1) other) (drop (i + 1) l))
  unfolding kept
  step g h j k =
      let one : i + 1 ≡ suc i = omega arith in
      rw (one, drop-cons low i 0 g, drop-cons span i 0 h, drop-cons other i 0 j, drop-cons l i 0 k)

  pub kept_step : (r : Bool) → i < length low → i < length span → i < length other → i < length l → r ≡ (ok && may_stand (get_or low i 0) (get_or span i 0) (get_or other i 0) (get_or l i 0))
      → (r && kept (drop (i + 1) low) (drop (i + 1) span) (drop (i + 1) other) (drop (i + 1) l)) ≡ whole
  kept_step r g h j k q = rw q (and_assoc ok _ _ ∙ ap (λ (x : Bool). ok && x) (sym (step g h j k)) ∙ e)

  pub kept_end : length low ≤ i → ok ≡ whole
  unfolding kept
  kept_end h = sym (and-true ok) ∙ rw (drop_of_length-le low {i = i} h) at e

-- ---- the seconds of the day

module _ (l : List ℕ) (long : 7 ≤ length l) (a b c : ℕ) (hours : a ≡ get_or l 1 0 * 10 + get_or l 2 0) (minutes : b ≡ get_or l 3 0 * 10 + get_or l 4 0) (rest : c ≡ get_or l 5 0 * 10 + get_or l 6 0) where
  pub seconds_less : a * 3600 + b * 60 + c < 1933008 → 86400 ≡ seconds_of l
  unfolding seconds_of worth
  seconds_less h = rw (le-leb 7 (length l) long, ← hours, ← minutes, ← rest, lt-leb 1933008 (a * 3600 + b * 60 + c) h)

  pub seconds_enough : 1933008 ≤ a * 3600 + b * 60 + c → a * 3600 + b * 60 + c - 1933008 ≡ seconds_of l
  unfolding seconds_of worth
  seconds_enough h = rw (le-leb 7 (length l) long, ← hours, ← minutes, ← rest, le-leb 1933008 (a * 3600 + b * 60 + c) h)

-- Digits put into a buffer, and taken from its front; whole degrees taken off first leave the other digits as they are; and the nearest unit. Assumes nothing.
use Prim.Native.Nat.{ℕ, zero, suc, ◌+◌, ◌*◌, ◌/◌, ◌%◌, ◌^◌, ◌≤◌, ◌<◌}
use mathlib.Core.Bool.{Bool, true, false}
use mathlib.Core.List.{List, [], ◌∷◌, ◌++◌, append-nil}
use mathlib.Core.Path.{◌≡◌, refl, sym, ap, ◌∙◌}
use native.Mathlib.Nat.{zero-add, pow-suc, mod-lt}
use native.Mathlib.Omega.{arith}
use borrow.Author.Tests.{le-leb, eq-eqb, ne_eqb}
use lib.ListN.{length, get_or, take, drop, drop_of_length-le}
use lib.Seq.{sets-eq, take_at}
use Rattle.rules.specs.Numbers.{digits_of}
use Rattle.rules.specs.Fields.{time_text}
use Rattle.rules.specs.Fixes.{plain}
use Rattle.rules.specs.Writes.{put_at}
use Rattle.rules.proofs.Times.{by_pairs}
use Rattle.rules.specs.Degrees.{is_negated}
use Rattle.rules.specs.Listing.{decimal}
use Rattle.rules.specs.declared.FineTime.{FineTime}
use Rattle.rules.specs.declared.FinePosition.{FinePosition}
use Rattle.rules.proofs.Texts.{digits_length}
use Rattle.text_pieces.specs.Buffer.{PiecePut}
use Rattle.text_pieces.proofs.Laws.{then, nothing}
use Rattle.write_fields.proofs.Laws.{time_length}
use Rattle.byte_tens.specs.Tens.{few_of, power_of}
use Rattle.byte_tens.proofs.Laws.{by_few, power_all, told_least, told_most}
use Rattle.text_decimals.specs.Decimals.{colons, behind_dot, extra_shown, seconds_behind, clock_behind, units_of, with_decimals, degrees_behind}

-- ---- digits in a buffer of their own

-- a text that has room stands at the buffer's front
fronted : (l t : List ℕ) → length t ≤ length l → put_at l 0 t ≡ t ++ drop (length t) l
unfolding put_at
fronted l t h =
    let room : 0 + length t ≤ length l = omega arith in
    rw (le-leb (0 + length t) (length l) room) (rw zero-add at (sets-eq t l 0 room))

-- a dot and n digits, which stand at the front of a buffer
pub dot_fills : (out mid after ten zeros : List ℕ) (at m r n v : ℕ) → n ≤ length zeros → ten ≡ put_at zeros 0 (digits_of n v) → PiecePut out at (46 ∷ []) m mid → PiecePut mid m (take n ten) r after
    → PiecePut out at (behind_dot n v) r after
unfolding behind_dot
dot_fills out mid after ten zeros at m r n v h e p q =
    let long = digits_length n v in
    let f : ten ≡ digits_of n v ++ drop (length (digits_of n v)) zeros = e ∙ fronted zeros (digits_of n v) (omega arith) in
    let d : take n ten ≡ digits_of n v = ap (take n) f ∙ take_at (digits_of n v) (drop (length (digits_of n v)) zeros) n long in
    then p (rw d at q)

pub extra_none : (out : List ℕ) (at n v : ℕ) → n ≡ 0 → PiecePut out at (extra_shown n v) at out
unfolding extra_shown
extra_none out at n v e = rw (eq-eqb n 0 e) (nothing out at)

pub extra_some : (out after : List ℕ) (at n v r : ℕ) → (n ≡ 0 → ⊥) → PiecePut out at (behind_dot n v) r after → PiecePut out at (extra_shown n v) r after
unfolding extra_shown
extra_some out after at n v r e p = rw (ne_eqb n 0 e) p

-- the six digits of a time, one by one, with the colons between
abbrev pub apart : List ℕ → List ℕ
apart l = get_or l 0 0 ∷ get_or l 1 0 ∷ 58 ∷ get_or l 2 0 ∷ get_or l 3 0 ∷ 58 ∷ get_or l 4 0 ∷ get_or l 5 0 ∷ []

clock_apart : (t : ℕ) → colons (time_text t) ≡ apart (time_text t)
unfolding colons digits_of
clock_apart = by_pairs (λ l. colons l ≡ apart l) (λ a b c. refl)

-- a time whose six digits stand in a buffer of their own
pub seconds_fill : (out after six zeros : List ℕ) (at r mark t : ℕ) → length zeros ≡ 6 → six ≡ put_at zeros 0 (time_text t) → PiecePut out at (mark ∷ apart six) r after → PiecePut out at (seconds_behind mark t) r after
unfolding seconds_behind
seconds_fill out after six zeros at r mark t h e p =
    let long = time_length t in
    let short : length zeros ≤ length (time_text t) = omega arith in
    let none : drop (length (time_text t)) zeros ≡ [] = drop_of_length-le zeros short in
    let d : six ≡ time_text t = e ∙ fronted zeros (time_text t) (omega arith) ∙ rw none (append-nil (time_text t)) in
    rw (clock_apart t, ← d) p

-- its seconds and its decimals: p is the power of ten that was told of them, n how many are taken
pub clock_fills : (out mid after : List ℕ) (at m r mark p n : ℕ) (t : FineTime) → p ≡ power_of t.decimals → n ≡ few_of t.decimals → PiecePut out at (seconds_behind mark (t.count / p)) m mid
    → PiecePut mid m (extra_shown n t.count) r after → PiecePut out at (clock_behind mark t) r after
unfolding clock_behind plain power_of
clock_fills out mid after at m r mark p n t e g f h = rw (← g) (then (rw (e, ← g) at f) h)

-- ---- degrees

-- the last n digits are those of what is left when a number of 10^n is taken off
digits_past : (n q v : ℕ) → digits_of n (q * 10 ^ n + v) ≡ digits_of n v
unfolding digits_of
digits_past zero q v = refl
digits_past (suc n) q v =
    let p : q * 10 ^ suc n ≡ q * 10 ^ n * 10 = rw (pow-suc 10 n) (omega arith) in
    let a : (q * 10 ^ suc n + v) / 10 ≡ q * 10 ^ n + v / 10 = omega (arith, p) in
    let b : (q * 10 ^ suc n + v) % 10 ≡ v % 10 = omega (arith, p) in
    rw (a, b, digits_past n q (v / 10))

-- units with n more decimals, n being 4 at most, as whole degrees and the rest
abbrev Parted : ℕ → ℕ → Type 0
Parted count n =
    (units_of count / 10 ^ (6 + n) ≡ count / (60000 * 10 ^ n))
    × (units_of count ≡ count / (60000 * 10 ^ n) * 10 ^ (6 + n) + (count % (60000 * 10 ^ n) * 50 + 1) / 3)

parted : (count n : ℕ) → n ≤ 4 → Parted count n
unfolding units_of
parted count = by_few (Parted count) (omega arith, omega arith) (omega arith, omega arith) (omega arith, omega arith) (omega arith, omega arith) (omega arith, omega arith)

-- what is divided by is no 0, and what is left of the count is small: p is the power of ten that was told
module _ (n count p : ℕ) (e : p ≡ power_of n) where
  pub whole_least : 0 < 60000 * p
  whole_least = omega (arith, told_least n p e)

  pub rest_below : count % (60000 * p) < 600000000
  rest_below = omega (arith, mod-lt count whole_least, told_most n p e)

-- so many degrees, a dot, and the digits of the rest: p is the power of ten that was told
pub degrees_fill : (out mid after : List ℕ) (at m r n count p : ℕ) → n ≤ 4 → p ≡ power_of n → PiecePut out at (decimal (count / (60000 * p))) m mid
    → PiecePut mid m (behind_dot (6 + n) ((count % (60000 * p) * 50 + 1) / 3)) r after → PiecePut out at (with_decimals (6 + n) (units_of count)) r after
unfolding with_decimals behind_dot
degrees_fill out mid after at m r n count p h e f g =
    let k : p ≡ 10 ^ n = e ∙ power_all n h in
    let q = parted count n h in
    let v = (count % (60000 * 10 ^ n) * 50 + 1) / 3 in
    let d : digits_of (6 + n) (units_of count) ≡ digits_of (6 + n) v = ap (digits_of (6 + n)) q.1 ∙ digits_past (6 + n) (count / (60000 * 10 ^ n)) v in
    rw (q.0, d) (then (rw k at f) (rw k at g))

-- the units lie at most a third of one from the exact value, which is count × 50 / 3
pub nearest : (count : ℕ) → (3 * units_of count ≤ 50 * count + 1) × (50 * count ≤ 3 * units_of count + 1)
unfolding units_of
nearest count = (omega arith, omega arith)

-- and no other number does
pub only_nearest : (count n : ℕ) → 3 * n ≤ 50 * count + 1 → 50 * count ≤ 3 * n + 1 → n ≡ units_of count
unfolding units_of
only_nearest count n g h = omega arith

-- ---- a position by its sign: t is what the test of the sign said, n how many decimals are taken
module _ (out after : List ℕ) (at r mark n : ℕ) (p : FinePosition) (t : Bool) (e : t ≡ is_negated p) (k : n ≡ few_of p.decimals) where
  pub minus_fills : t ≡ true → PiecePut out at (mark ∷ 45 ∷ with_decimals (6 + n) (units_of p.count)) r after → PiecePut out at (degrees_behind mark p) r after
  unfolding degrees_behind
  minus_fills g h = rw (sym e ∙ g, ← k) h

  pub plain_fills : t ≡ false → PiecePut out at (mark ∷ with_decimals (6 + n) (units_of p.count)) r after → PiecePut out at (degrees_behind mark p) r after
  unfolding degrees_behind
  plain_fills g h = rw (sym e ∙ g, ← k) h

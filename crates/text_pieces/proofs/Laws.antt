-- What pieces put into a buffer, one after the other; the digits of a number from the last to the first; and when they are the whole text. Assumes nothing.
use Prim.Native.Nat.{ℕ, zero, suc, ◌+◌, ◌-◌, ◌/◌, ◌%◌, ◌^◌, ◌≤◌, ◌<◌}
use mathlib.Core.Bool.{Bool, true, false, cond}
use mathlib.Core.List.{List, [], ◌∷◌, ◌++◌}
use mathlib.Core.Path.{◌≡◌, ◌∙◌, ap, ap₂}
use native.Mathlib.Nat.{zero-add, div-lt_iff_lt-mul, pow-suc}
use native.Mathlib.Omega.{arith}
use borrow.Author.Tests.{lt-ltb, le-ltb}
use lib.Dec.{ltb, lit<}
use lib.ListN.{length, take, drop, set, length-append, length-take}
use lib.Seq.{sets, length-sets, sets-eq, set_split, drop_at, length-take-le, take_all, take-nil, append_snoc}
use Rattle.rules.specs.Listing.{decimal_in, decimal, shown, shown_letter}
use Rattle.rules.proofs.Texts.{sets_append}
use Rattle.text_pieces.specs.Buffer.{Shown, PiecePut}

-- ---- pieces

take_both : (n : ℕ) (s t : List ℕ) → take n (s ++ t) ≡ take n s ++ take (n - length s) t
take_both n [] t =
    let z : n - 0 ≡ n = omega arith in
    rw (take-nil {A = ℕ} n, z)
take_both zero (x ∷ s) t =
    let z : 0 - suc (length s) ≡ 0 = omega arith in
    rw z
take_both (suc n) (x ∷ s) t =
    let z : suc n - suc (length s) ≡ n - length s = omega arith in
    rw z (ap (λ (l : List ℕ). x ∷ l) (take_both n s t))

-- one piece after the other
pub then : {out mid after s t : List ℕ} {at m r : ℕ} → PiecePut out at s m mid → PiecePut mid m t r after → PiecePut out at (s ++ t) r after
then {out} {mid} {after} {s} {t} {at} {m} {r} a b =
    let n = length out - at in
    let long : length mid ≡ length out = ap length a.bytes ∙ length-sets out at (take n s) in
    let left : length mid - m ≡ n - length s = omega (arith, long, a.next, length-take n s) in
    let cut : take n (s ++ t) ≡ take n s ++ take (length mid - m) t = rw left (take_both n s t) in record {
      bytes = b.bytes ∙ ap₂ (λ (l : List ℕ) (k : ℕ). sets l k (take (length mid - m) t)) a.bytes a.next ∙ rw (cut, sets_append out at (take n s) (take (length mid - m) t));
      next = rw cut (omega (arith, b.next, a.next, length-append (take n s) (take (length mid - m) t)));
    }

-- the same where the first piece is a byte, a number or a letter behind a space, in the form that `search` finds
pub byte_then : {out mid after t : List ℕ} {at b m r : ℕ} → PiecePut out at (b ∷ []) m mid → PiecePut mid m t r after → PiecePut out at (b ∷ t) r after
byte_then a b = then a b

pub shown_then : {out mid after t : List ℕ} {at m r : ℕ} (n : ℕ) → PiecePut out at (shown n) m mid → PiecePut mid m t r after → PiecePut out at (shown n ++ t) r after
shown_then n a b = then a b

pub letter_then : {out mid after t : List ℕ} {at b m r : ℕ} → PiecePut out at (shown_letter b) m mid → PiecePut mid m t r after → PiecePut out at (shown_letter b ++ t) r after
letter_then a b = then a b

pub ruleset pieces = (then, byte_then, shown_then, letter_then)

pub nothing : (out : List ℕ) (at : ℕ) → PiecePut out at [] at out
nothing out at = record { bytes = rw (take-nil {A = ℕ} (length out - at)); next = rw (take-nil {A = ℕ} (length out - at)) (omega arith) }

pub one_byte : (out : List ℕ) (at b : ℕ) → at < length out → PiecePut out at (b ∷ []) (at + 1) (set out at b)
one_byte out at b h =
    let all = take_all (length out - at) (b ∷ []) (omega arith) in
    record { bytes = rw all; next = rw all }

pub no_byte : (out : List ℕ) (at b : ℕ) → length out ≤ at → PiecePut out at (b ∷ []) at out
no_byte out at b h =
    let z : length out - at ≡ 0 = omega arith in
    record { bytes = rw z; next = rw z (omega arith) }

-- the pieces are a whole line
pub whole : {out after text : List ℕ} {n r : ℕ} → length out ≡ n → length text ≤ n → PiecePut out 0 text r after → Shown text out r after
whole {out} {after} {text} {n} {r} e h f =
    let room : 0 + length text ≤ length out = omega arith in
    let all = take_all (length out - 0) text (omega arith) in
    record { bytes = rw all at f.bytes ∙ rw zero-add at (sets-eq text out 0 room); count = rw (all, zero-add) at f.next }

-- ---- digits

pub tenth : (k n : ℕ) → n < 10 ^ suc k → n / 10 < 10 ^ k
tenth k n h = (div-lt_iff_lt-mul (lit< tt)).1 (rw (pow-suc 10 k) at h)

drop_set : (l : List ℕ) (i b : ℕ) → i < length l → drop i (set l i b) ≡ b ∷ drop (suc i) l
drop_set l i b h = rw (set_split l i b h) (drop_at (take i l) (b ∷ drop (suc i) l) i (length-take-le i l (omega arith)))

-- one digit more stands before those that do
more_behind : (l : List ℕ) (i x : ℕ) → 10 ≤ x → i < length l → decimal_in (suc i) x ++ drop (suc i) l ≡ decimal_in i (x / 10) ++ drop i (set l i (48 + x % 10))
unfolding decimal_in
more_behind l i x g h = rw (drop_set l i (48 + x % 10) h, le-ltb x 10 g) (append_snoc (decimal_in i (x / 10)) (48 + x % 10) (drop (suc i) l))

-- the first digit, with all that stand behind it
first_behind : (l : List ℕ) (i x : ℕ) → x < 10 → i < length l → decimal_in (suc i) x ++ drop (suc i) l ≡ drop i (set l i (48 + x))
unfolding decimal_in
first_behind l i x g h = rw (drop_set l i (48 + x) h, lt-ltb x 10 g)

module _ (l : List ℕ) (i x : ℕ) (p : 0 < i) (h : i ≤ length l) where
  before : suc (i - 1) ≡ i
  before = omega arith

  pub digit_more : 10 ≤ x → decimal_in i x ++ drop i l ≡ decimal_in (i - 1) (x / 10) ++ drop (i - 1) (set l (i - 1) (48 + x % 10))
  digit_more g = let more = more_behind l (i - 1) x g (omega arith) in rw before at more

  pub digit_first : x < 10 → decimal_in i x ++ drop i l ≡ drop (i - 1) (set l (i - 1) (48 + x))
  digit_first g = let first = first_behind l (i - 1) x g (omega arith) in rw before at first

  pub tenth_before : x < 10 ^ i → x / 10 < 10 ^ (i - 1)
  tenth_before g = tenth (i - 1) x (rw before g)

-- ---- room

decimal_room : (k n : ℕ) → length (decimal_in k n) ≤ k
unfolding decimal_in
decimal_room zero n = omega arith
decimal_room (suc k) n = by (ltb n 10) (decimal_room k (n / 10))
  where
    by : (t : Bool) → length (decimal_in k (n / 10)) ≤ k → length (cond t ((48 + n) ∷ []) (decimal_in k (n / 10) ++ ((48 + n % 10) ∷ []))) ≤ suc k
    by true h = omega arith
    by false h = simp length-append (omega arith)

pub number_room : (n : ℕ) → length (decimal n) ≤ 20
unfolding decimal
number_room n = decimal_room 20 n

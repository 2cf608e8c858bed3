-- What is put into an output: bytes one after the other, where they have room; and digits, the last of them first. Assumes nothing.
use Prim.Native.Nat.{ℕ, suc, ◌+◌, ◌-◌, ◌/◌, ◌%◌, ◌≤◌, ◌<◌}
use mathlib.Core.List.{List, [], ◌∷◌, ◌++◌}
use mathlib.Core.Path.{◌≡◌, refl, sym, ◌∙◌, ap}
use native.Mathlib.Numerals.{add-one, sub-one}
use native.Mathlib.Omega.{arith}
use borrow.Author.Tests.{le-leb, lt-leb}
use lib.ListN.{length, get_or, drop, set, length-append, drop_of_length-le}
use lib.Seq.{sets, length-sets, set_comm, drop-cons}
use Rattle.rules.specs.Numbers.{digits_of}
use Rattle.rules.specs.Writes.{put_at}
use Rattle.rules.proofs.Texts.{digits_length, sets_append}
use Rattle.byte_put.specs.Puts.{Fills}

-- ---- bytes put one after the other

-- a store past what is put may go first
pub sets_set : (l : List ℕ) (at : ℕ) (a : List ℕ) (i x : ℕ) → at + length a ≤ i → sets (set l i x) at a ≡ set (sets l at a) i x
sets_set l at [] i x h = refl
sets_set l at (b ∷ a) i x h =
    let ne : i ≡ at → ⊥ = λ e. omega arith in
    ap (λ (m : List ℕ). sets m (suc at) a) (set_comm l i at x b ne) ∙ sets_set (set l at b) (suc at) a i x (omega arith)

-- one digit less to put, with the last of them stored
pub sets_step : (l : List ℕ) (at n v : ℕ) → 0 < n → sets l at (digits_of n v) ≡ sets (set l (at + (n - 1)) (48 + v % 10)) at (digits_of (n - 1) (v / 10))
unfolding digits_of
sets_step l at Prim.Native.Nat.zero v p = elim p [ ]
sets_step l at (suc k) v p =
    rw (sub-one, sets_append l at (digits_of k (v / 10)) ((48 + v % 10) ∷ []), digits_length k (v / 10))
    (sym (sets_set l at (digits_of k (v / 10)) (at + k) (48 + v % 10) (omega (arith, digits_length k (v / 10)))))

pub sets_none : (l : List ℕ) (at v : ℕ) → sets l at (digits_of 0 v) ≡ l
unfolding digits_of
sets_none l at v = refl

-- one byte less of a text to put, with the first of them stored
pub sets_more : (l : List ℕ) (at : ℕ) (t : List ℕ) (i : ℕ) → i < length t → sets l (at + i) (drop i t) ≡ sets (set l (at + i) (get_or t i 0)) (at + (i + 1)) (drop (i + 1) t)
sets_more l at t i h =
    let e : at + (i + 1) ≡ suc (at + i) = omega arith in
    rw (e, add-one, drop-cons t i 0 h)

pub sets_over : (l : List ℕ) (at : ℕ) (t : List ℕ) (i : ℕ) → length t ≤ i → sets l at (drop i t) ≡ l
sets_over l at t i h = rw drop_of_length-le

-- ---- what a function that tests for room leaves: n bytes have none, or they stand there

module _ (x l : List ℕ) (at : ℕ) (t : List ℕ) (n : ℕ) (h : length t ≡ n) where
  pub put_past : length l < at + n → x ≡ l → x ≡ put_at l at t
  unfolding put_at
  put_past g e = rw (h, lt-leb (at + n) (length l) g) e

  pub put_there : at + n ≤ length l → Fills l at t x → x ≡ put_at l at t
  unfolding put_at
  put_there g f = rw (h, le-leb (at + n) (length l) g) (f.is (omega arith))

-- ---- several calls one after the other, in the form that `search` finds: l₁ is what the first leaves

pub put_last : (x l : List ℕ) (at : ℕ) (t : List ℕ) → x ≡ put_at l at t → Fills l at t x
unfolding put_at
put_last x l at t e = record { is = λ g. rw (le-leb (at + length t) (length l) g) at e }

pub fills_then : (x l l₁ : List ℕ) (at : ℕ) (t b : List ℕ) → Fills l at t l₁ → Fills l₁ (at + length t) b x → Fills l at (t ++ b) x
fills_then x l l₁ at t b f g = record {
  is = λ h.
      let r : at + length t + length b ≤ length l = omega (arith, length-append t b) in
      let e : l₁ ≡ sets l at t = f.is (omega arith) in
      cc (sets_append l at t b, g.is (rw (e, length-sets l at t) r), e);
}

pub put_then : (x l l₁ : List ℕ) (at : ℕ) (t b : List ℕ) (n : ℕ) → length t ≡ n → l₁ ≡ put_at l at t → Fills l₁ (at + n) b x → Fills l at (t ++ b) x
put_then x l l₁ at t b n h e f = fills_then x l l₁ at t b (put_last l₁ l at t e) (rw h f)

pub byte_then : (x l l₁ : List ℕ) (at v : ℕ) (b : List ℕ) → l₁ ≡ put_at l at (v ∷ []) → Fills l₁ (at + 1) b x → Fills l at (v ∷ b) x
byte_then x l l₁ at v b = put_then x l l₁ at (v ∷ []) b 1 refl

pub digits_then : (x l l₁ : List ℕ) (at n v : ℕ) (b : List ℕ) → l₁ ≡ put_at l at (digits_of n v) → Fills l₁ (at + n) b x → Fills l at (digits_of n v ++ b) x
digits_then x l l₁ at n v b = put_then x l l₁ at (digits_of n v) b n (digits_length n v)

pub text_then : (x l l₁ : List ℕ) (at : ℕ) (t b : List ℕ) → l₁ ≡ put_at l at t → Fills l₁ (at + length t) b x → Fills l at (t ++ b) x
text_then x l l₁ at t b = put_then x l l₁ at t b (length t) refl

-- a field of its digits
pub ruleset puts = (put_last, byte_then, digits_then)

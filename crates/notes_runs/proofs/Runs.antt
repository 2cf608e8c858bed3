-- A run of notes: how one more note is put into it, and that by one look at each note it becomes the first of all notes that come after one. Assumes nothing.
use Prim.Native.Nat.{ℕ, zero, suc, ◌+◌, ◌-◌, ◌≤◌, ◌<◌}
use mathlib.Core.Bool.{Bool, true, false, not}
use mathlib.Core.List.{List, [], ◌∷◌, ◌++◌, append_assoc}
use mathlib.Core.Path.{◌≡◌, refl, sym, ◌∙◌, ap}
use native.Mathlib.Numerals.{add-one}
use native.Mathlib.Omega.{arith}
use borrow.Author.Tests.{ltb-false, not-true, not-false}
use lib.Dec.{ltb, eqb}
use lib.ListN.{length, take, drop, get_or, set, drop_of_length-le, length-append, length-take, length-drop}
use lib.Seq.{drop-cons, drop-drop, sets, sets-eq, length-sets, length-take-le, get_or-take, take-take, take-suc, set_at, take_at, take-append-add, take_all, take-nil, drop-append_seam}
use Rattle.std.specs.List.{position, position_or_len, copy_within}
use Rattle.std.specs.List.Sorted.{IsPartitionedBy, IsPartitionPoint}
use Rattle.std.specs.Option.{unwrap_or}
use Rattle.rules.proofs.Inverse.{by_bool}
use Rattle.notes_sorted.specs.Sorted.{Sorted}
use Rattle.notes_sorted.specs.Ways.{keep, insert, gather}
use Rattle.notes_sorted.proofs.Sorting.{by, clash, insert_sorted}
use Rattle.notes_sorted.proofs.Streams.{insert_at, sorted_at, take_sorted, gather_is}
use Rattle.notes_rules.specs.Places.{earlier, starts, inside, skip}
use Rattle.notes_rules.proofs.Places.{places}
use Rattle.notes_runs.specs.Runs.{LineAfter, PastLast, Found, pushed, Kept, Refilled}

-- ---- from a line to the next

skip_drop : (i : ℕ) (l : List ℕ) → skip i l ≡ starts (suc i) (drop 1 l)
skip_drop i [] = refl
skip_drop i (b ∷ l) = refl

-- two bytes behind the first CR, or behind all bytes where there is none
inside_to : (l : List ℕ) (i : ℕ) → inside i l ≡ starts (i + position_or_len (λ b. eqb b 13) l + 2) (drop (position_or_len (λ b. eqb b 13) l + 2) l)
inside_to [] i = refl
inside_to (b ∷ l) i =
    let z : i + 0 + 2 ≡ suc (suc i) = omega arith in
    by_bool (eqb b 13)
    (λ e. rw (e, z) (skip_drop (suc i) l))
    (λ e.
    let n = position_or_len (λ b. eqb b 13) l in
    let f : i + (1 + n) + 2 ≡ suc i + n + 2 = omega arith in
    let g : 1 + n + 2 ≡ suc (n + 2) = omega arith in
    rw (e, f, g) (inside_to l (suc i)))

long_first : (p : ℕ → Bool) (l : List ℕ) → position_or_len p l ≤ length l
long_first p [] = omega arith
long_first p (b ∷ l) = by_bool (p b) (λ e. rw e (omega arith)) (λ e. rw e (omega (arith, long_first p l)))

-- what `position` finds, or the length, where it finds none
first_or : (p : ℕ → Bool) (l : List ℕ) → unwrap_or (position p l) (length l) ≡ position_or_len p l
first_or p l =
    by_bool (ltb (position_or_len p l) (length l)) (λ e. rw e) (λ e. let h = long_first p l in let g = ltb-false _ _ e in rw e (omega arith))

pub line_after_is : (s : List ℕ) (i n : ℕ) → n ≡ unwrap_or (position (λ b. eqb b 13) (drop i s)) (length (drop i s)) → LineAfter s i (i + n + 2)
line_after_is s i n e =
    let k : n ≡ position_or_len (λ b. eqb b 13) (drop i s) = e ∙ first_or (λ b. eqb b 13) (drop i s) in
    let d : n + 2 + i ≡ i + n + 2 = omega arith in
    let q : drop (n + 2) (drop i s) ≡ drop (i + n + 2) s = drop-drop (n + 2) i s ∙ ap (λ (m : ℕ). drop m s) (let d : i + (n + 2) ≡ i + n + 2 = omega arith in d) in
    record { is = rw (← q, k) (inside_to (drop i s) i); later = omega arith }

-- ---- a place pushed in

pub pushed_none : (l : List ℕ) (p m x : ℕ) → m ≤ p → l ≡ pushed l p m x
unfolding pushed
pushed_none l p m x h = let e : m - p ≡ 0 = omega arith in rw e

pub pushed_some : (l : List ℕ) (p m x : ℕ) → p < m → m ≤ length l → set (copy_within l p (m - 1) (p + 1)) p x ≡ pushed l p m x
unfolding pushed
pushed_some l p m x h g =
    let k = m - 1 - p in
    let v = take k (drop p l) in
    let d = drop (p + 1 + k) l in
    let a : m - p ≡ suc k = omega arith in
    let n : length v ≡ k = length-take-le k (drop p l) (omega (arith, length-drop p l)) in
    let b : p + length (x ∷ v) ≡ p + 1 + k = omega (arith, n) in
    let t : take (p + 1) l ≡ take p l ++ (get_or l p 0 ∷ []) = rw add-one (take-suc l p 0 (omega arith)) in
    let u : (take (p + 1) l ++ v) ++ d ≡ take p l ++ get_or l p 0 ∷ (v ++ d) = rw t (simp append_assoc) in
    let w : set (take p l ++ get_or l p 0 ∷ (v ++ d)) p x ≡ take p l ++ x ∷ (v ++ d) = set_at (take p l) (get_or l p 0) (v ++ d) x p (length-take-le p l (omega arith)) in
    let y : sets l p (x ∷ v) ≡ (take p l ++ x ∷ v) ++ d = rw b at (sets-eq (x ∷ v) l p (omega (arith, n))) in
    let z : (take p l ++ x ∷ v) ++ d ≡ take p l ++ x ∷ (v ++ d) = simp append_assoc in
    ap (λ (r : List ℕ). set r p x) u ∙ w ∙ rw a (sym z ∙ sym y)

pub pushed_length : (l : List ℕ) (p m x : ℕ) → length (pushed l p m x) ≡ length l
unfolding pushed
pushed_length l p m x = length-sets l p (take (m - p) (x ∷ drop p l))

pub pushed_left : (l : List ℕ) (p m x : ℕ) → p ≤ m → m ≤ length l → drop m (pushed l p m x) ≡ drop m l
unfolding pushed
pushed_left l p m x h g =
    let v : List ℕ = take (m - p) (x ∷ drop p l) in
    let e : length v ≡ m - p = length-take-le (m - p) (x ∷ drop p l) (omega (arith, length-drop p l)) in
    let a : length (take p l) ≡ p = length-take-le p l (omega arith) in
    let k : length (take p l ++ v) ≡ m = omega (arith, length-append (take p l) v) in
    let q : p + length v ≡ m = omega arith in
    let d : sets l p v ≡ (take p l ++ v) ++ drop m l = rw q at (sets-eq v l p (omega arith)) in
    rw d (ap (λ (n : ℕ). drop n ((take p l ++ v) ++ drop m l)) (sym k) ∙ drop-append_seam (take p l ++ v) (drop m l))

-- ---- a run in order, and one more place put in

module _ (s heads : List ℕ) (n x : ℕ) (fit : n ≤ length heads) (so : Sorted (earlier s) (take n heads)) where
  -- x comes behind the place at mid: then behind those before it
  pub below_mid : (mid : ℕ) → mid < n → earlier s x (get_or heads mid 0) ≡ false → (k : ℕ) → k < mid + 1 → earlier s x (get_or heads k 0) ≡ false
  below_mid mid h e k g =
      by_bool (earlier s x (get_or heads k 0))
      (λ f.
      let w : earlier s (get_or (take n heads) k 0) (get_or (take n heads) mid 0) ≡ true = sorted_at (places s) 0 (take n heads) k mid so (omega arith) (omega (arith, length-take-le n heads fit)) in
      let v : earlier s (get_or heads k 0) (get_or heads mid 0) ≡ true = rw (get_or-take n heads k 0 (omega arith), get_or-take n heads mid 0 h) at w in
      clash ((places s).trans x (get_or heads k 0) (get_or heads mid 0) f v) e)
      (λ f. f)

  pub found_all : PastLast s heads n x → Found s heads n x n
  found_all q = record {
    few = omega arith;
    before = λ k h. below_mid (n - 1) (omega (arith, q.some)) q.before k (omega arith);
    behind = λ h. absurd (omega arith);
  }

-- no place that comes before x stands behind one that does not
pub in_two : (s heads : List ℕ) (x : ℕ) → Sorted (earlier s) heads → IsPartitionedBy (λ y. not (earlier s x y)) heads
in_two s heads x so i j d h k e =
    by_bool (earlier s x (get_or heads i d))
    (λ f. clash ((places s).trans x (get_or heads i d) (get_or heads j d) f (sorted_at (places s) d heads i j so h k)) (not-true (earlier s x (get_or heads j d)) e))
    (λ f. rw f)

pub found_by : (s heads : List ℕ) (n x p : ℕ) → n ≤ length heads → p ≤ length (take n heads)
    → IsPartitionPoint (λ y. not (earlier s x y) ≡ true) (λ y. not (earlier s x y) ≡ false) (take n heads) p → Found s heads n x p
found_by s heads n x p fit h q =
    let e : length (take n heads) ≡ n = length-take-le n heads fit in
    record {
      few = omega arith;
      before = λ k g. rw (get_or-take n heads k 0 (omega arith)) at (not-true (earlier s x (get_or (take n heads) k 0)) (q.0 k 0 (omega arith) g));
      behind = λ g. rw (get_or-take n heads p 0 g) at (not-false (earlier s x (get_or (take n heads) p 0)) (q.1 p 0 (omega arith) (omega arith)));
    }

drop_take : (p n : ℕ) (l : List ℕ) → drop p (take n l) ≡ take (n - p) (drop p l)
drop_take zero n l = let e : n - 0 ≡ n = omega arith in rw e
drop_take (suc p) zero l = let e : 0 - suc p ≡ 0 = omega arith in rw e
drop_take (suc p) (suc n) [] = sym (take-nil {A = ℕ} (suc n - suc p))
drop_take (suc p) (suc n) (x ∷ l) = let e : suc n - suc p ≡ n - p = omega arith in rw e (drop_take p n l)

module _ (s heads : List ℕ) (n x p : ℕ) (fit : n ≤ length heads) (q : Found s heads n x p) where
  insert_here : insert (earlier s) x (take n heads) ≡ take p heads ++ x ∷ drop p (take n heads)
  insert_here =
      let e : length (take n heads) ≡ n = length-take-le n heads fit in
      let f : take p (take n heads) ≡ take p heads = take-take p n heads q.few in
      insert_at (places s) 0 x p (take n heads) (omega (arith, q.few))
      (λ i h. rw (get_or-take n heads i 0 (omega (arith, q.few))) (q.before i h))
      (λ h. rw (get_or-take n heads p 0 (omega arith)) (q.behind (omega arith)))
      ∙ ap (λ (l : List ℕ). l ++ x ∷ drop p (take n heads)) f

  -- what is pushed in, up to m
  pushed_front : (m : ℕ) → p ≤ m → m ≤ length heads → take m (pushed heads p m x) ≡ take p heads ++ take (m - p) (x ∷ drop p heads)
  unfolding pushed
  pushed_front m h g =
      let v : List ℕ = take (m - p) (x ∷ drop p heads) in
      let e : length v ≡ m - p = length-take-le (m - p) (x ∷ drop p heads) (omega (arith, length-drop p heads)) in
      let a : length (take p heads) ≡ p = length-take-le p heads (omega arith) in
      let k : length (take p heads ++ v) ≡ m = omega (arith, length-append (take p heads) v) in
      let d : sets heads p v ≡ (take p heads ++ v) ++ drop (p + length v) heads = sets-eq v heads p (omega arith) in
      rw d (take_at (take p heads ++ v) (drop (p + length v) heads) m k)

  -- the list with x in it, up to the room
  insert_front : take (length heads) (insert (earlier s) x (take n heads)) ≡ take p heads ++ take (length heads - p) (x ∷ drop p (take n heads))
  insert_front =
      let a : length (take p heads) ≡ p = length-take-le p heads (omega (arith, q.few)) in
      let k : length (take p heads) + (length heads - p) ≡ length heads = omega (arith, q.few) in
      let w : take (length (take p heads) + (length heads - p)) (take p heads ++ x ∷ drop p (take n heads)) ≡ take p heads ++ take (length heads - p) (x ∷ drop p (take n heads)) =
      take-append-add (take p heads) (x ∷ drop p (take n heads)) (length heads - p) in
      rw (insert_here) (rw k at w)

  pub push_room : n < length heads → take (n + 1) (pushed heads p (n + 1) x) ≡ take (length heads) (insert (earlier s) x (take n heads))
  push_room h =
      let a : (n + 1) - p ≡ suc (n - p) = omega (arith, q.few) in
      let b : length heads - p ≡ suc (length heads - p - 1) = omega (arith, q.few) in
      let t : take (length heads - p - 1) (take (n - p) (drop p heads)) ≡ take (n - p) (drop p heads) =
      take_all (length heads - p - 1) (take (n - p) (drop p heads)) (omega (arith, length-take (n - p) (drop p heads), q.few)) in
      rw (pushed_front (n + 1) (omega (arith, q.few)) (omega arith), insert_front, a, b, drop_take p n heads, t)

  pub push_full : length heads ≤ n → take n (pushed heads p n x) ≡ take (length heads) (insert (earlier s) x (take n heads))
  push_full h =
      let d : length heads ≡ n = omega arith in
      rw (pushed_front n q.few fit, insert_front, take_all n heads h, d)

module _ (s : List ℕ) (last : ℕ) (heads : List ℕ) (n x : ℕ) (fit : n ≤ length heads) where
  pub kept_none : (r : Bool) → r ≡ earlier s x last → r ≡ true → Kept s last heads n x heads n
  unfolding keep
  kept_none r e f = record { size = refl; fits = fit; is = rw (sym e ∙ f); more = omega arith; left = refl }

  module _ (r : Bool) (e : r ≡ earlier s x last) (f : r ≡ false) (p : ℕ) (q : Found s heads n x p) (l : List ℕ) where
    pub kept_room : n < length heads → l ≡ pushed heads p (n + 1) x → Kept s last heads n x l (n + 1)
    unfolding keep
    kept_room h g = record {
      size = rw g (pushed_length heads p (n + 1) x);
      fits = rw (g, pushed_length heads p (n + 1) x) (omega arith);
      is = rw (sym e ∙ f, g) (push_room s heads n x p fit q h);
      more = omega arith;
      left = rw g (pushed_left heads p (n + 1) x (omega (arith, q.few)) (omega arith));
    }

    pub kept_full : length heads ≤ n → l ≡ pushed heads p n x → Kept s last heads n x l n
    unfolding keep
    kept_full h g = record {
      size = rw g (pushed_length heads p n x);
      fits = rw (g, pushed_length heads p n x) (omega arith);
      is = rw (sym e ∙ f, g) (push_full s heads n x p fit q h);
      more = omega arith;
      left = rw g (pushed_left heads p n x q.few fit);
    }

-- ---- a run filled: what is left to look at makes the whole answer

pub record Filling (s : List ℕ) (last : ℕ) (heads₀ heads : List ℕ) (n i : ℕ) : Type 0 where
  pub size : length heads ≡ length heads₀
  pub fits : n ≤ length heads
  pub sorted : Sorted (earlier s) (take n heads)
  pub is : gather (earlier s) (length heads₀) last (take n heads) (starts i (drop i s)) ≡ gather (earlier s) (length heads₀) last [] (starts 0 s)
  pub left : drop n heads ≡ drop n heads₀

keep_sorted : (s : List ℕ) (k last : ℕ) (acc : List ℕ) (x : ℕ) → Sorted (earlier s) acc → Sorted (earlier s) (keep (earlier s) k last acc x)
unfolding keep
keep_sorted s k last acc x so = by (Sorted (earlier s)) (earlier s x last) acc (take k (insert (earlier s) x acc)) (λ _. so) (λ _. take_sorted (places s) k (insert (earlier s) x acc) (insert_sorted (places s) x acc so))

starts_inside : (s : List ℕ) (i : ℕ) → i < length s → starts i (drop i s) ≡ i ∷ inside i (drop i s)
starts_inside s i h = rw (drop-cons s i 0 h)

module _ (s : List ℕ) (last : ℕ) (heads₀ : List ℕ) where
  pub filling_first : Filling s last heads₀ heads₀ 0 0
  filling_first = record { size = refl; fits = omega arith; sorted = tt; is = refl; left = refl }

  further : (n m : ℕ) (l k : List ℕ) → n ≤ m → drop n l ≡ drop n k → drop m l ≡ drop m k
  further n m l k h e =
      let d : n + (m - n) ≡ m = omega arith in
      rw (← d, ← drop-drop (m - n) n l, ← drop-drop (m - n) n k, e)

  pub filling_next : (heads : List ℕ) (n i : ℕ) → Filling s last heads₀ heads n i → i < length s → (l : List ℕ) (m : ℕ) → Kept s last heads n i l m → (j : ℕ) → LineAfter s i j → Filling s last heads₀ l m j
  filling_next heads n i f h l m k j a = record {
    size = k.size ∙ f.size;
    fits = k.fits;
    sorted = rw k.is (keep_sorted s (length heads) last (take n heads) i f.sorted);
    is = rw (k.is, ← a.is, f.size) (rw (starts_inside s i h) at f.is);
    left = k.left ∙ further n m heads heads₀ k.more f.left;
  }

  pub filling_end : (heads : List ℕ) (n i : ℕ) → Filling s last heads₀ heads n i → length s ≤ i → Refilled s last heads₀ heads n
  filling_end heads n i f h = record {
    size = f.size;
    fits = f.fits;
    is = (rw (drop_of_length-le s h) at f.is) ∙ gather_is (places s) (length heads₀) last (starts 0 s);
    left = f.left;
  }

-- A B or K line whose bytes may stand at the places of its layout is surely good, and its seconds are its time. Assumes nothing.
use Rattle.std.specs.Prelude.{None, Some}
use Rattle.std.proofs.Common.{◌≡◌, ℕ, zero, suc, ◌+◌, ◌-◌, ◌*◌, ◌<◌, ◌≤◌, Bool, true, false, cond, ◌&&◌, eqb, leb, List, [], ◌∷◌, ◌++◌, length, get_or, take, drop, replicate, sym, refl, ap, ◌∙◌, arith, length-append, length-take-le, drop-cons, get_or-take, take_at, eq-eqb, ne_eqb, le-leb, leb-true}
use mathlib.Core.Bool.{or-true}
use borrow.Author.Tests.{eqb-false}
use lib.ListN.{length-replicate}
use lib.Seq.{sets, sets-eq, length-sets, take-append-add}
use Rattle.rules.specs.Families.{first_start, line_letter}
use Rattle.rules.specs.Choice.{leads, need, byte, bytes}
use Rattle.rules.specs.Listed.{is_digits}
use Rattle.rules.specs.Chars.{is_digit}
use Rattle.rules.specs.Fields.{is_either, is_second, time_at}
use Rattle.rules.specs.Layouts.{all_placed, with_entry, entries_of, line_length, unused}
use Rattle.rules.specs.Numbers.{spell, number_at}
use Rattle.rules.specs.declared.Entry.{Entry}
use Rattle.rules.specs.declared.Extra.TheVariants as extra
use Rattle.rules.specs.declared.Family.{Family}
use Rattle.rules.specs.declared.Family.TheVariants as family
use Rattle.rules.specs.declared.Layout.{Layout}
use Rattle.rules.proofs.Inverse.{and_inv}
use Rattle.byte_sweep.specs.Plain.{is_plain, is_mild}
use Rattle.check_front.specs.Front.{is_within, between, lows, wides, is_below, is_front}
use Rattle.check_front.proofs.Below.{front_below}
use Rattle.check_sure.specs.Sure.{pattern_of, fields_time}
use Rattle.check_sure.proofs.Easy.{joined}
use Rattle.check_sure.proofs.Laws.{front_time}
use Rattle.check_sure.proofs.Said.{SureParts}
use Rattle.check_places.specs.Places.{may_stand, kept, next_mark, column_marks, columns_marks, low_marks, span_marks, other_marks, laid, end_of, fix_lows, fix_spans, fix_others, extra_lows, extra_spans, worth, seconds_of}
use Rattle.check_places.specs.declared.Marks.{Marks}
use Rattle.check_places.proofs.Held.{stands, mild_place, mild_stands, leads_take, kept_append, tiled, Held, held}

-- ---- the marks at the front of the lists that were laid

-- how many marks a pattern has, with those of CR and LF
wide : List ℕ → ℕ
wide [] = 2
wide (a ∷ []) = 2
wide (a ∷ e ∷ []) = 2
wide (a ∷ e ∷ rule ∷ p) = suc (e - a) + wide p

marks_long : (m : Marks) (p : List ℕ) → length (columns_marks m p) ≡ wide p
unfolding columns_marks wide
marks_long m [] = refl
marks_long m (a ∷ []) = refl
marks_long m (a ∷ e ∷ []) = refl
marks_long m (a ∷ e ∷ rule ∷ p) =
    length-append (column_marks m (e - a) rule) (columns_marks m p) ∙ ap (λ (k : ℕ). suc k + length (columns_marks m p)) (length-replicate (e - a) (next_mark m rule)) ∙ ap (λ (k : ℕ). suc (e - a) + k) (marks_long m p)

wide_end : (es : List Entry) (from : ℕ) (before : Layout) → all_placed es (from + 1) before ≡ true → from + wide (pattern_of es) ≡ end_of es from + 2
unfolding wide pattern_of end_of
wide_end [] from before a = refl
wide_end (e ∷ es) from before a =
    let t = tiled e es from before a in
    let first : e.first ≡ from + 1 = t.0 in
    let last : e.first ≤ e.last = t.1 in
    let r = wide_end es e.last (with_entry before e) t.2 in
    omega (arith, r)

pub laid_long : (front : List ℕ) (m : Marks) (p : List ℕ) → length (laid front m p) ≡ 112
unfolding laid
laid_long front m p = by (leb (length p) 39)
  where
    by : (t : Bool) → length (cond t (sets (sets (replicate 112 m.any) 0 front) (length front) (columns_marks m p)) (replicate 112 m.any)) ≡ 112
    by true = length-sets (sets (replicate 112 m.any) 0 front) (length front) (columns_marks m p) ∙ length-sets (replicate 112 m.any) 0 front ∙ length-replicate 112 m.any
    by false = length-replicate 112 m.any

record Split (front : List ℕ) (m : Marks) (p : List ℕ) (n : ℕ) : Type 0 where
  rest : List ℕ
  is : take n (laid front m p) ≡ (front ++ columns_marks m p) ++ rest

split : (front : List ℕ) (m : Marks) (p : List ℕ) (n : ℕ) → length p ≤ 39 → length front + wide p ≤ n → n ≤ 112 → Split front m p n
unfolding laid
split front m p n few h k =
    let blank = replicate 112 m.any in
    let inner = sets blank 0 front in
    let cols = columns_marks m p in
    let long : length inner ≡ 112 = length-sets blank 0 front ∙ length-replicate 112 m.any in
    let c : length cols ≡ wide p = marks_long m p in
    let one : inner ≡ front ++ drop (0 + length front) blank = sets-eq front blank 0 (rw (length-replicate 112 m.any) (omega arith)) in
    let here : take (length front) inner ≡ front = ap (take (length front)) one ∙ take_at front (drop (0 + length front) blank) (length front) refl in
    let past = drop (length front + length cols) inner in
    let two : sets inner (length front) cols ≡ take (length front) inner ++ cols ++ past = sets-eq cols inner (length front) (omega (arith, long, c)) in
    let all : sets inner (length front) cols ≡ (front ++ cols) ++ past = two ∙ ap (λ (x : List ℕ). x ++ cols ++ past) here in
    let size : length (front ++ cols) ≡ length front + wide p = length-append front cols ∙ ap (λ (x : ℕ). length front + x) c in
    let left : n ≡ length (front ++ cols) + (n - length (front ++ cols)) = omega (arith, size) in
    record {
      rest = take (n - length (front ++ cols)) past;
      is = rw (le-leb (length p) 39 few) (ap (take n) all ∙ ap (λ (x : ℕ). take x ((front ++ cols) ++ past)) left ∙ take-append-add (front ++ cols) past (n - length (front ++ cols)));
    }

-- a line whose bytes may stand at the first n places of a layout
record Placed (low span other l : List ℕ) (es : List Entry) : Type 0 where
  front : kept low span other l ≡ true
  columns : Held l (length low) es

placed_by : (low span other l : List ℕ) (es : List Entry) (before : Layout) (n : ℕ) → length low ≡ length span → length low ≡ length other → length (pattern_of es) ≤ 39
    → all_placed es (length low + 1) before ≡ true → end_of es (length low) + 2 ≤ n → n ≤ 112
    → kept (take n (laid low low_marks (pattern_of es))) (take n (laid span span_marks (pattern_of es))) (take n (laid other other_marks (pattern_of es))) l ≡ true → Placed low span other l es
placed_by low span other l es before n e f few a h k q =
    let p = pattern_of es in
    let w : length low + wide p ≡ end_of es (length low) + 2 = wide_end es (length low) before a in
    let x = split low low_marks p n few (omega arith) k in
    let y = split span span_marks p n few (omega arith) k in
    let z = split other other_marks p n few (omega arith) k in
    let cx = length-append low (columns_marks low_marks p) ∙ ap (λ (k : ℕ). length low + k) (marks_long low_marks p) in
    let cy = length-append span (columns_marks span_marks p) ∙ ap (λ (k : ℕ). length span + k) (marks_long span_marks p) in
    let cz = length-append other (columns_marks other_marks p) ∙ ap (λ (k : ℕ). length other + k) (marks_long other_marks p) in
    let all = kept_append (low ++ columns_marks low_marks p) (span ++ columns_marks span_marks p) (other ++ columns_marks other_marks p) x.rest y.rest z.rest l (omega (arith, cx, cy)) (omega (arith, cx, cz)) (rw (x.is, y.is, z.is) at q) in
    let apart = kept_append low span other (columns_marks low_marks p) (columns_marks span_marks p) (columns_marks other_marks p) l e f all.0 in
    record { front = apart.0; columns = held l es (length low) before a apart.1 }

-- ---- the bytes before the columns

kept_at : (low span other l : List ℕ) (i : ℕ) → kept low span other l ≡ true → i < length low → may_stand (get_or low i 0) (get_or span i 0) (get_or other i 0) (get_or l i 0) ≡ true
unfolding kept
kept_at [] span other l i e h = absurd (omega arith)
kept_at (a ∷ low) [] other l i e h = let z : ◌≡◌ {A = ℕ} 0 1 = cc in absurd (omega arith)
kept_at (a ∷ low) (s ∷ span) [] l i e h = let z : ◌≡◌ {A = ℕ} 0 1 = cc in absurd (omega arith)
kept_at (a ∷ low) (s ∷ span) (o ∷ other) [] i e h = let z : ◌≡◌ {A = ℕ} 0 1 = cc in absurd (omega arith)
kept_at (a ∷ low) (s ∷ span) (o ∷ other) (b ∷ l) zero e h = (and_inv (may_stand a s o b) _ e).0
kept_at (a ∷ low) (s ∷ span) (o ∷ other) (b ∷ l) (suc i) e h = kept_at low span other l i (and_inv (may_stand a s o b) _ e).1 (omega arith)

kept_take : (low span other l : List ℕ) (n : ℕ) → length low ≤ n → kept low span other l ≡ true → kept low span other (take n l) ≡ true
unfolding kept
kept_take [] span other l n h e = refl
kept_take (a ∷ low) span other l zero h e = absurd (omega arith)
kept_take (a ∷ low) [] other l (suc n) h e = e
kept_take (a ∷ low) (s ∷ span) [] l (suc n) h e = e
kept_take (a ∷ low) (s ∷ span) (o ∷ other) [] (suc n) h e = e
kept_take (a ∷ low) (s ∷ span) (o ∷ other) (b ∷ l) (suc n) h e = let t = and_inv (may_stand a s o b) _ e in rw t.0 (kept_take low span other l n (omega arith) t.1)

-- places of mild bytes alone
mild_places : List ℕ → List ℕ → List ℕ → Bool
mild_places [] span other = true
mild_places (a ∷ low) [] other = false
mild_places (a ∷ low) (s ∷ span) [] = false
mild_places (a ∷ low) (s ∷ span) (o ∷ other) = mild_place a s o && mild_places low span other

kept_mild : (low span other l : List ℕ) → mild_places low span other ≡ true → kept low span other l ≡ true → leads is_mild (length low) l ≡ true
unfolding kept leads mild_places
kept_mild [] span other l m e = refl
kept_mild (a ∷ low) [] other l m e = let z : ◌≡◌ {A = ℕ} 0 1 = cc in absurd (omega arith)
kept_mild (a ∷ low) (s ∷ span) [] l m e = let z : ◌≡◌ {A = ℕ} 0 1 = cc in absurd (omega arith)
kept_mild (a ∷ low) (s ∷ span) (o ∷ other) [] m e = e
kept_mild (a ∷ low) (s ∷ span) (o ∷ other) (b ∷ l) m e =
    let t = and_inv (may_stand a s o b) _ e in
    let u = and_inv (mild_place a s o) (mild_places low span other) m in
    rw (mild_stands a s o b u.0 t.0) (kept_mild low span other l u.1 t.1)

-- places within bounds
abbrev inside_place : ℕ → ℕ → ℕ → ℕ → ℕ → Bool
inside_place x z a s o = leb x a && leb (a + s) z && leb (a + s) 255 && leb x o && leb o z

inside : List ℕ → List ℕ → List ℕ → List ℕ → List ℕ → Bool
inside [] hi low span other = true
inside (x ∷ lo) [] low span other = false
inside (x ∷ lo) (z ∷ hi) [] span other = false
inside (x ∷ lo) (z ∷ hi) (a ∷ low) [] other = false
inside (x ∷ lo) (z ∷ hi) (a ∷ low) (s ∷ span) [] = false
inside (x ∷ lo) (z ∷ hi) (a ∷ low) (s ∷ span) (o ∷ other) = inside_place x z a s o && inside lo hi low span other

inside_stands : (x z a s o b : ℕ) → inside_place x z a s o ≡ true → may_stand a s o b ≡ true → is_within x z b ≡ true
unfolding is_within
inside_stands x z a s o b m e =
    let p = and_inv _ (leb o z) m in
    let q = and_inv _ (leb x o) p.0 in
    let r = and_inv _ (leb (a + s) 255) q.0 in
    let t = and_inv (leb x a) (leb (a + s) z) r.0 in
    let lo : x ≤ a = leb-true x a t.0 in
    let hi : a + s ≤ z = leb-true (a + s) z t.1 in
    stands a s o b (leb-true (a + s) 255 r.1) e (λ f g. rw (le-leb x b (omega arith), le-leb b z (omega arith))) (λ f. rw (f, q.1, p.1))

bounded : (lo hi low span other l : List ℕ) → inside lo hi low span other ≡ true → kept low span other l ≡ true → between lo hi l ≡ true
unfolding kept between inside
bounded [] hi low span other l m e = refl
bounded (x ∷ lo) [] low span other l m e = m
bounded (x ∷ lo) (z ∷ hi) [] span other l m e = let y : ◌≡◌ {A = ℕ} 0 1 = cc in absurd (omega arith)
bounded (x ∷ lo) (z ∷ hi) (a ∷ low) [] other l m e = let y : ◌≡◌ {A = ℕ} 0 1 = cc in absurd (omega arith)
bounded (x ∷ lo) (z ∷ hi) (a ∷ low) (s ∷ span) [] l m e = let y : ◌≡◌ {A = ℕ} 0 1 = cc in absurd (omega arith)
bounded (x ∷ lo) (z ∷ hi) (a ∷ low) (s ∷ span) (o ∷ other) [] m e = let y : ◌≡◌ {A = ℕ} 0 1 = cc in absurd (omega arith)
bounded (x ∷ lo) (z ∷ hi) (a ∷ low) (s ∷ span) (o ∷ other) (b ∷ l) m e =
    let t = and_inv (may_stand a s o b) _ e in
    let u = and_inv (inside_place x z a s o) (inside lo hi low span other) m in
    rw (inside_stands x z a s o b u.0 t.0) (bounded lo hi low span other l u.1 t.1)

either : (a o b : ℕ) → a ≤ 255 → may_stand a 0 o b ≡ true → is_either b a o ≡ true
unfolding is_either
either a o b h e = stands a 0 o b (omega arith) e (λ f g. let q : b ≡ a = omega arith in rw (eq-eqb b a q)) (λ q. rw (eq-eqb b o q) (or-true (eqb b a)))

-- ---- the time

abbrev Digit : ℕ → ℕ → Type 0
Digit s b = (48 ≤ b) × (b ≤ 48 + s)

digit : (s b : ℕ) → s ≤ 9 → may_stand 48 s 48 b ≡ true → Digit s b
digit s b h e = stands 48 s 48 b (omega arith) e (λ f g. (f, g)) (λ q. (omega arith, omega arith))

two_at : (l : List ℕ) (at : ℕ) → at + 2 ≤ length l → (a b : ℕ) → get_or l at 0 ≡ a → get_or l (suc at) 0 ≡ b → 48 ≤ a → a ≤ 57 → 48 ≤ b → b ≤ 57 → number_at l at 2 ≡ Some ((0 * 10 + (a - 48)) * 10 + (b - 48))
unfolding number_at spell is_digit
two_at l at h a b e f g i j k = rw (drop-cons l at 0 (omega arith), drop-cons l (suc at) 0 (omega arith), e, f, le-leb 48 a g, le-leb a 57 i, le-leb 48 b j, le-leb b 57 k)

clock : (h m x v : ℕ) → m ≤ 59 → x ≤ 59 → h * 3600 + m * 60 + x ≡ v → v ≤ 86399 → (need (leb h 23) None λ _. need (leb m 59) None λ _. need (is_second h m x) None λ _. Some (h * 3600 + m * 60 + x)) ≡ Some v
unfolding is_second
clock h m x v a b e f = rw (le-leb h 23 (omega arith), le-leb m 59 a, le-leb x 59 b, e)

-- six digits behind the first byte
record Digits (l : List ℕ) : Type 0 where
  long : 7 ≤ length l
  hours : Digit 2 (get_or l 1 0) × Digit 9 (get_or l 2 0)
  minutes : Digit 5 (get_or l 3 0) × Digit 9 (get_or l 4 0)
  rest : Digit 5 (get_or l 5 0) × Digit 9 (get_or l 6 0)

time_by : (l : List ℕ) (v : ℕ) → Digits l → v + 1933008 ≡ worth l → v ≤ 86399 → time_at l 1 ≡ Some v
unfolding time_at worth
time_by l v d e h =
    let long = d.long in
    let a = d.hours.0 in
    let b = d.hours.1 in
    let c = d.minutes.0 in
    let f = d.minutes.1 in
    let g = d.rest.0 in
    let i = d.rest.1 in
    rw (two_at l 1 (omega arith) (get_or l 1 0) (get_or l 2 0) refl refl a.0 (omega (arith, a.1)) b.0 b.1, two_at l 3 (omega arith) (get_or l 3 0) (get_or l 4 0) refl refl c.0 (omega (arith, c.1)) f.0 f.1, two_at l 5 (omega arith) (get_or l 5 0) (get_or l 6 0) refl refl g.0 (omega (arith, g.1)) i.0 i.1)
    (clock _ _ _ v (omega (arith, c.1, f.1)) (omega (arith, g.1, i.1)) (sum (get_or l 1 0) (get_or l 2 0) (get_or l 3 0) (get_or l 4 0) (get_or l 5 0) (get_or l 6 0) v a.0 b.0 c.0 f.0 g.0 i.0 e) h)
  where
    sum : (a b c d e f v : ℕ) → 48 ≤ a → 48 ≤ b → 48 ≤ c → 48 ≤ d → 48 ≤ e → 48 ≤ f → v + 1933008 ≡ (a * 10 + b) * 3600 + (c * 10 + d) * 60 + (e * 10 + f)
        → ((0 * 10 + (a - 48)) * 10 + (b - 48)) * 3600 + ((0 * 10 + (c - 48)) * 10 + (d - 48)) * 60 + ((0 * 10 + (e - 48)) * 10 + (f - 48)) ≡ v
    sum a b c d e f v p q r s t u h = omega arith

worth_take : (n : ℕ) (l : List ℕ) → 7 ≤ n → worth (take n l) ≡ worth l
unfolding worth
worth_take n l h = rw (get_or-take n l 1 0 (omega arith), get_or-take n l 2 0 (omega arith), get_or-take n l 3 0 (omega arith), get_or-take n l 4 0 (omega arith), get_or-take n l 5 0 (omega arith), get_or-take n l 6 0 (omega arith))

seconds_inv : (l : List ℕ) (v : ℕ) → v ≡ seconds_of l → v ≤ 86399 → v + 1933008 ≡ worth l
unfolding seconds_of
seconds_inv l v e h = by (leb 7 (length l)) (leb 1933008 (worth l)) refl e
  where
    by : (t u : Bool) → leb 1933008 (worth l) ≡ u → v ≡ cond t (cond u (worth l - 1933008) 86400) 86400 → v + 1933008 ≡ worth l
    by false u q e = absurd (omega arith)
    by true false q e = absurd (omega arith)
    by true true q e = let k : 1933008 ≤ worth l = leb-true 1933008 (worth l) q in omega arith

-- ---- the line

pub record Good (f : Family) (l : List ℕ) (size : ℕ) (pattern : List ℕ) (t : ℕ) : Type 0 where
  pub parts : SureParts f (take size l) size pattern t
  pub some : 1 ≤ size
  pub letter : get_or l 0 0 ≡ line_letter f
  pub within : size + 2 ≤ length l
  pub cr : get_or l size 0 ≡ 13
  pub lf : get_or l (size + 1) 0 ≡ 10

front_good : (l : List ℕ) → kept fix_lows fix_spans fix_others l ≡ true → is_below (get_or l 15 0) (get_or l 16 0) ≡ true → is_front l ≡ true
unfolding bytes inside
front_good l e b =
    let behind = kept_append (66 ∷ 48 ∷ 48 ∷ []) (0 ∷ 2 ∷ 9 ∷ []) (66 ∷ 48 ∷ 48 ∷ []) (drop 3 fix_lows) (drop 3 fix_spans) (drop 3 fix_others) l refl refl e in
    front_below l (bounded lows wides (drop 3 fix_lows) (drop 3 fix_spans) (drop 3 fix_others) (drop 3 l) refl behind.1) b
    (either 78 83 (get_or l 14 0) (omega arith) (kept_at fix_lows fix_spans fix_others l 14 e (omega arith)))
    (either 69 87 (get_or l 23 0) (omega arith) (kept_at fix_lows fix_spans fix_others l 23 e (omega arith)))
    (either 65 86 (get_or l 24 0) (omega arith) (kept_at fix_lows fix_spans fix_others l 24 e (omega arith)))

first_is : (a b : ℕ) → a ≤ 255 → may_stand a 0 a b ≡ true → b ≡ a
first_is a b h e = stands a 0 a b (omega arith) e (λ f g. omega arith) (λ q. q)

fix_digits : (l : List ℕ) → 7 ≤ length l → kept fix_lows fix_spans fix_others l ≡ true → Digits l
unfolding bytes
fix_digits l n e =
    let at = kept_at fix_lows fix_spans fix_others l in
    record {
      long = n;
      hours = (digit 2 (get_or l 1 0) (omega arith) (at 1 e (omega arith)), digit 9 (get_or l 2 0) (omega arith) (at 2 e (omega arith)));
      minutes = (digit 5 (get_or l 3 0) (omega arith) (at 3 e (omega arith)), digit 9 (get_or l 4 0) (omega arith) (at 4 e (omega arith)));
      rest = (digit 5 (get_or l 5 0) (omega arith) (at 5 e (omega arith)), digit 9 (get_or l 6 0) (omega arith) (at 6 e (omega arith)));
    }

extra_digits_lem : (l : List ℕ) → 7 ≤ length l → kept extra_lows extra_spans extra_lows l ≡ true → Digits l
unfolding bytes
extra_digits_lem l n e =
    let at = kept_at extra_lows extra_spans extra_lows l in
    record {
      long = n;
      hours = (digit 2 (get_or l 1 0) (omega arith) (at 1 e (omega arith)), digit 9 (get_or l 2 0) (omega arith) (at 2 e (omega arith)));
      minutes = (digit 5 (get_or l 3 0) (omega arith) (at 3 e (omega arith)), digit 9 (get_or l 4 0) (omega arith) (at 4 e (omega arith)));
      rest = (digit 5 (get_or l 5 0) (omega arith) (at 5 e (omega arith)), digit 9 (get_or l 6 0) (omega arith) (at 6 e (omega arith)));
    }

-- what a line that is held from its columns on needs yet
good_by : (f : Family) (l : List ℕ) (from t : ℕ) (es : List Entry) → 1 ≤ from → Held l from es → leads is_mild from l ≡ true → fields_time f (take (end_of es from) l) ≡ Some t → get_or l 0 0 ≡ line_letter f
    → Good f l (end_of es from) (pattern_of es) t
good_by f l from t es one h m e k =
    let size = end_of es from in
    let whole : from + (size - from) ≡ size = omega (arith, h.reach) in
    let mild : leads is_mild size l ≡ true = rw whole at (joined from (size - from) l m h.mild) in
    let ends = h.within in
    record {
      parts = record {
        long = length-take-le size l (omega (arith, ends));
        mild = leads_take is_mild size l mild;
        fields = e;
        columns = rw (h.keeps size (omega arith)) (or-true (is_digits (drop (byte (first_start f)) (take size l))));
      };
      some = omega (arith, h.reach);
      letter = k;
      within = ends;
      cr = h.cr;
      lf = h.lf;
    }

module _ (l : List ℕ) (es : List Entry) (before : Layout) (n t : ℕ) (few : length (pattern_of es) ≤ 39) (most : n ≤ 112) (is : t ≡ seconds_of l) (day : t ≤ 86399) where
  pub good_fix_lem : all_placed es 36 before ≡ true → end_of es 35 + 2 ≤ n
      → kept (take n (laid fix_lows low_marks (pattern_of es))) (take n (laid fix_spans span_marks (pattern_of es))) (take n (laid fix_others other_marks (pattern_of es))) l ≡ true
      → is_below (get_or l 15 0) (get_or l 16 0) ≡ true → Good family.B l (end_of es 35) (pattern_of es) t
  unfolding bytes fields_time mild_places is_mild is_plain
  good_fix_lem a h k b =
      let p = placed_by fix_lows fix_spans fix_others l es before n refl refl few a h most k in
      let size = end_of es 35 in
      let reach : 35 ≤ size = p.columns.reach in
      let ends = p.columns.within in
      let front = kept_take fix_lows fix_spans fix_others l size reach p.front in
      let below : is_below (get_or (take size l) 15 0) (get_or (take size l) 16 0) ≡ true = rw (get_or-take size l 15 0 (omega arith), get_or-take size l 16 0 (omega arith)) b in
      let digits = fix_digits (take size l) (rw (length-take-le size l (omega (arith, ends))) (omega arith)) front in
      let time = time_by (take size l) t digits (seconds_inv l t is day ∙ sym (worth_take size l (omega arith))) day in
      good_by family.B l 35 t es (omega arith) p.columns (kept_mild fix_lows fix_spans fix_others l refl p.front) (front_time (take size l) (front_good (take size l) front below) ∙ time) (first_is 66 (get_or l 0 0) (omega arith) (kept_at fix_lows fix_spans fix_others l 0 p.front (omega arith)))

  pub good_extra_lem : all_placed es 8 before ≡ true → end_of es 7 + 2 ≤ n
      → kept (take n (laid extra_lows low_marks (pattern_of es))) (take n (laid extra_spans span_marks (pattern_of es))) (take n (laid extra_lows other_marks (pattern_of es))) l ≡ true
      → Good (family.Extra extra.K) l (end_of es 7) (pattern_of es) t
  unfolding bytes fields_time mild_places is_mild is_plain
  good_extra_lem a h k =
      let p = placed_by extra_lows extra_spans extra_lows l es before n refl refl few a h most k in
      let size = end_of es 7 in
      let reach : 7 ≤ size = p.columns.reach in
      let ends = p.columns.within in
      let front = kept_take extra_lows extra_spans extra_lows l size reach p.front in
      let digits = extra_digits_lem (take size l) (rw (length-take-le size l (omega (arith, ends))) (omega arith)) front in
      let time = time_by (take size l) t digits (seconds_inv l t is day ∙ sym (worth_take size l (omega arith))) day in
      good_by (family.Extra extra.K) l 7 t es (omega arith) p.columns (kept_mild extra_lows extra_spans extra_lows l refl p.front) time (first_is 75 (get_or l 0 0) (omega arith) (kept_at extra_lows extra_spans extra_lows l 0 p.front (omega arith)))

-- ---- where a line ends, by its layout

last_of : (es : List Entry) (from : ℕ) → end_of es from ≡ cond (eqb (length es) 0) from (get_or es (length es - 1) unused).last
unfolding end_of
last_of [] from = refl
last_of (e ∷ []) from = refl
last_of (e ∷ x ∷ es) from =
    let n : suc (suc (length es)) - 1 ≡ suc (length es) = omega arith in
    let m : suc (length es) - 1 ≡ length es = omega arith in
    rw (n, ne_eqb (suc (suc (length es))) 0 (λ z. omega arith)) (rw (m, ne_eqb (suc (length es)) 0 (λ z. omega arith)) at (last_of (x ∷ es) e.last))

pub line_ends : (start : ℕ) (l : Layout) → length l.entries ≡ 13 → l.count ≤ 13 → line_length start l ≡ end_of (entries_of l) (start - 1)
unfolding line_length
line_ends start l n h =
    let c : length (entries_of l) ≡ l.count = length-take-le l.count l.entries (omega arith) in
    by (eqb l.count 0) refl (last_of (entries_of l) (start - 1)) c
  where
    by : (t : Bool) → eqb l.count 0 ≡ t → end_of (entries_of l) (start - 1) ≡ cond (eqb (length (entries_of l)) 0) (start - 1) (get_or (entries_of l) (length (entries_of l) - 1) unused).last → length (entries_of l) ≡ l.count
        → cond t (start - 1) (get_or l.entries (l.count - 1) unused).last ≡ end_of (entries_of l) (start - 1)
    by true q e c = sym (rw (c, q) at e)
    by false q e c =
        let some : l.count - 1 < l.count = omega (arith, eqb-false l.count 0 q) in
        let same = get_or-take l.count l.entries (l.count - 1) unused some in
        ap (λ (x : Entry). x.last) (sym same) ∙ sym (rw (c, q) at e)

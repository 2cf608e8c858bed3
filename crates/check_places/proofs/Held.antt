-- A line whose bytes may stand at their places keeps the rules of its columns, is mild, and ends there. Assumes nothing.
use Rattle.std.proofs.Common.{◌≡◌, ℕ, zero, suc, ◌+◌, ◌-◌, ◌<◌, ◌≤◌, Bool, true, false, cond, not, ◌&&◌, ◌||◌, eqb, leb, List, [], ◌∷◌, ◌++◌, length, get_or, take, drop, replicate, sym, refl, ap, ◌∙◌, arith, length-drop, get_or-drop, drop-drop, eqb-true, le-leb, leb-false, leb-true}
use mathlib.Core.Bool.{or-true}
use borrow.Author.Tests.{eqb-false, not-true}
use lib.ListN.{length-replicate}
use Rattle.rules.specs.Choice.{leads, part, byte}
use Rattle.rules.specs.Chars.{is_digit}
use Rattle.rules.specs.Layouts.{placed, all_placed, is_spelt, is_said, with_entry}
use Rattle.rules.specs.Listed.{is_digits, keeps_sign}
use Rattle.rules.specs.declared.Entry.{Entry}
use Rattle.rules.specs.declared.Layout.{Layout}
use Rattle.rules.proofs.Inverse.{and_inv, or_inv}
use Rattle.rules.proofs.Texts.{part_front}
use Rattle.byte_sweep.specs.Plain.{is_plain, is_mild, every}
use Rattle.byte_sweep.proofs.Laws.{plain_mild}
use Rattle.check_sure.specs.Sure.{rule_of, keeps_as, pattern_of, keeps_pattern}
use Rattle.check_sure.proofs.Easy.{joined}
use Rattle.check_sure.proofs.Said.{need_said}
use Rattle.check_places.specs.Places.{is_near, may_stand, kept, first_mark, next_mark, column_marks, columns_marks, low_marks, span_marks, other_marks, end_of}
use Rattle.check_places.specs.declared.Marks.{Marks}

-- ---- a byte that may stand at a place

module _ {P : Type 0} where
  pub stands : (a s o b : ℕ) → a + s ≤ 255 → may_stand a s o b ≡ true → (a ≤ b → b ≤ a + s → P) → (b ≡ o → P) → P
  unfolding may_stand is_near
  stands a s o b h e f g =
      let first = and_inv _ _ (and_inv _ _ e).0 in
      or_inv _ (eqb b o) first.0 (near (leb a b) refl) (λ q. g (eqb-true b o q))
    where
      near : (t : Bool) → leb a b ≡ t → leb (cond t (b - a) (b + 256 - a)) s ≡ true → P
      near true q n = let k : a ≤ b = leb-true a b q in let m : b - a ≤ s = leb-true (b - a) s n in f k (omega arith)
      near false q n = let k : b < a = leb-false a b q in let m : b + 256 - a ≤ s = leb-true (b + 256 - a) s n in absurd (omega arith)

-- all bytes of a place are mild, but for the two that may stand nowhere
abbrev pub mild_place : ℕ → ℕ → ℕ → Bool
mild_place a s o = leb 45 a && leb (a + s) 125 && is_mild o

above : (b : ℕ) → 91 < b → (b ≡ 92 → ⊥) → (b ≡ 93 → ⊥) → (b ≡ 94 → ⊥) → 95 ≤ b
above b h x y z = omega arith

mild_from : (b : ℕ) → 45 ≤ b → b ≤ 125 → (b ≡ 92 → ⊥) → (b ≡ 94 → ⊥) → is_mild b ≡ true
unfolding is_mild is_plain
mild_from b lo hi f g = by (leb b 91) refl (eqb b 93) refl
  where
    by : (t : Bool) → leb b 91 ≡ t → (u : Bool) → eqb b 93 ≡ u → is_mild b ≡ true
    by true q u v = plain_mild b (rw (le-leb 45 b lo, q))
    by false q true v = rw (eqb-true b 93 v)
    by false q false v = rw (le-leb 95 b (above b (leb-false b 91 q) f (eqb-false b 93 v) g), le-leb b 125 hi) (or-true (eqb b 32 || eqb b 93 || is_plain b))

pub mild_stands : (a s o b : ℕ) → mild_place a s o ≡ true → may_stand a s o b ≡ true → is_mild b ≡ true
unfolding may_stand
mild_stands a s o b m e =
    let bounds = and_inv _ _ m in
    let both = and_inv _ _ bounds.0 in
    let lo : 45 ≤ a = leb-true 45 a both.0 in
    let hi : a + s ≤ 125 = leb-true (a + s) 125 both.1 in
    let last = and_inv ((is_near a s b || eqb b o) && not (eqb b 92)) (not (eqb b 94)) e in
    let first = and_inv (is_near a s b || eqb b o) (not (eqb b 92)) last.0 in
    stands a s o b (omega arith) e (λ x y. mild_from b (omega arith) (omega arith) (eqb-false b 92 (not-true (eqb b 92) first.1)) (eqb-false b 94 (not-true (eqb b 94) last.1))) (λ q. rw q bounds.1)

digit_stands : (b : ℕ) → may_stand 48 9 48 b ≡ true → is_digit b ≡ true
unfolding is_digit
digit_stands b e = stands 48 9 48 b (omega arith) e (λ x y. rw (le-leb 48 b x, le-leb b 57 y)) (λ q. rw q)

-- ---- texts

pub kept_append : (p q r p' q' r' l : List ℕ) → length p ≡ length q → length p ≡ length r → kept (p ++ p') (q ++ q') (r ++ r') l ≡ true
    → (kept p q r l ≡ true) × (kept p' q' r' (drop (length p) l) ≡ true)
unfolding kept
kept_append [] [] [] p' q' r' l e f h = (refl, h)
kept_append [] [] (z ∷ r) p' q' r' l e f h = absurd (omega arith)
kept_append [] (y ∷ q) r p' q' r' l e f h = absurd (omega arith)
kept_append (x ∷ p) [] r p' q' r' l e f h = absurd (omega arith)
kept_append (x ∷ p) (y ∷ q) [] p' q' r' l e f h = absurd (omega arith)
kept_append (x ∷ p) (y ∷ q) (z ∷ r) p' q' r' [] e f h = let n : ◌≡◌ {A = ℕ} 0 1 = cc in absurd (omega arith)
kept_append (x ∷ p) (y ∷ q) (z ∷ r) p' q' r' (b ∷ l) e f h =
    let s = and_inv (may_stand x y z b) _ h in
    let t = kept_append p q r p' q' r' l (omega arith) (omega arith) s.1 in
    (rw s.0 t.0, t.1)

pub leads_take : (test : ℕ → Bool) (n : ℕ) (x : List ℕ) → leads test n x ≡ true → every test (take n x) ≡ true
unfolding leads
leads_take test zero x e = refl
leads_take test (suc n) [] e = refl
leads_take test (suc n) (b ∷ x) e = let s = and_inv (test b) _ e in rw s.0 (leads_take test n x s.1)

run_digits : (n : ℕ) (x : List ℕ) → kept (replicate n 48) (replicate n 9) (replicate n 48) x ≡ true → leads is_digit n x ≡ true
unfolding kept leads
run_digits zero x e = refl
run_digits (suc n) [] e = e
run_digits (suc n) (b ∷ x) e = let s = and_inv (may_stand 48 9 48 b) _ e in rw (digit_stands b s.0) (run_digits n x s.1)

run_mild : (n a s o : ℕ) (x : List ℕ) → mild_place a s o ≡ true → kept (replicate n a) (replicate n s) (replicate n o) x ≡ true → leads is_mild n x ≡ true
unfolding kept leads
run_mild zero a s o x m e = refl
run_mild (suc n) a s o [] m e = e
run_mild (suc n) a s o (b ∷ x) m e = let t = and_inv (may_stand a s o b) _ e in rw (mild_stands a s o b m t.0) (run_mild n a s o x m t.1)

-- ---- a column

digits : (sign : Bool) (t : List ℕ) → is_digits t ≡ true → keeps_sign sign t ≡ true
unfolding keeps_sign
digits sign t e = rw e

minus : (b c : ℕ) (t : List ℕ) → b ≡ 45 → is_digits (c ∷ t) ≡ true → keeps_sign true (b ∷ c ∷ t) ≡ true
unfolding keeps_sign
minus b c t e d = by (is_digits (b ∷ c ∷ t))
  where
    by : (u : Bool) → (u || (true && eqb b 45 && leb 2 (length (b ∷ c ∷ t)) && is_digits (c ∷ t))) ≡ true
    by true = refl
    by false = rw (e, le-leb 2 (suc (suc (length t))) (omega arith), d)

signed : (more : ℕ) (x : List ℕ) → 1 ≤ more → kept (48 ∷ replicate more 48) (9 ∷ replicate more 9) (45 ∷ replicate more 48) x ≡ true → keeps_sign true (take (suc more) x) ≡ true
unfolding kept is_digits leads is_digit
signed more [] h e = let z : ◌≡◌ {A = ℕ} 0 1 = cc in absurd (omega arith)
signed zero (b ∷ x) h e = absurd (omega arith)
signed (suc more) (b ∷ []) h e = let s = and_inv (may_stand 48 9 45 b) _ e in let z : ◌≡◌ {A = ℕ} 0 1 = cc s.1 in absurd (omega arith)
signed (suc more) (b ∷ c ∷ x) h e =
    let s = and_inv (may_stand 48 9 45 b) _ e in
    let rest : is_digits (c ∷ take more x) ≡ true = leads_take is_digit (suc more) (c ∷ x) (run_digits (suc more) (c ∷ x) s.1) in
    stands 48 9 45 b (omega arith) s.0 (λ lo hi. digits true (b ∷ c ∷ take more x) (rw (le-leb 48 b lo, le-leb b 57 hi) rest)) (λ m. minus b c (take more x) m rest)

-- the marks of a column, whichever list they are in
abbrev ColumnKept : ℕ → ℕ → List ℕ → Type 0
ColumnKept more rule x = kept (column_marks low_marks more rule) (column_marks span_marks more rule) (column_marks other_marks more rule) x ≡ true

column_keeps : (more rule : ℕ) (x : List ℕ) → ColumnKept more rule x → keeps_as rule (take (suc more) x) ≡ true
unfolding first_mark next_mark keeps_as is_digits
column_keeps more rule x e = by (eqb rule 0) (eqb rule 2) (leb 1 more) refl e
  where
    by : (t u v : Bool) → leb 1 more ≡ v
        → kept (cond t 45 (cond u (cond v 48 48) 48) ∷ replicate more (cond t 45 48)) (cond t 80 (cond u (cond v 9 9) 9) ∷ replicate more (cond t 80 9)) (cond t 32 (cond u (cond v 45 48) 48) ∷ replicate more (cond t 32 48)) x ≡ true
        → cond t true (keeps_sign u (take (suc more) x)) ≡ true
    by true u v q k = refl
    by false false v q k = digits false (take (suc more) x) (leads_take is_digit (suc more) x (run_digits (suc more) x k))
    by false true false q k = digits true (take (suc more) x) (leads_take is_digit (suc more) x (run_digits (suc more) x k))
    by false true true q k = signed more x (leb-true 1 more q) k

column_mild : (more rule : ℕ) (x : List ℕ) → ColumnKept more rule x → leads is_mild (suc more) x ≡ true
unfolding first_mark next_mark kept leads is_mild is_plain
column_mild more rule [] e = e
column_mild more rule (b ∷ x) e = by (eqb rule 0) (eqb rule 2) (leb 1 more) e
  where
    by : (t u v : Bool)
        → (may_stand (cond t 45 (cond u (cond v 48 48) 48)) (cond t 80 (cond u (cond v 9 9) 9)) (cond t 32 (cond u (cond v 45 48) 48)) b && kept (replicate more (cond t 45 48)) (replicate more (cond t 80 9)) (replicate more (cond t 32 48)) x) ≡ true
        → (is_mild b && leads is_mild more x) ≡ true
    by true u v k = let s = and_inv _ _ k in rw (mild_stands 45 80 32 b refl s.0) (run_mild more 45 80 32 x refl s.1)
    by false false v k = let s = and_inv _ _ k in rw (mild_stands 48 9 48 b refl s.0) (run_mild more 48 9 48 x refl s.1)
    by false true false k = let s = and_inv _ _ k in rw (mild_stands 48 9 48 b refl s.0) (run_mild more 48 9 48 x refl s.1)
    by false true true k = let s = and_inv _ _ k in rw (mild_stands 48 9 45 b refl s.0) (run_mild more 48 9 48 x refl s.1)

-- ---- the columns, and what stands behind them

record Ended (x : List ℕ) : Type 0 where
  long : 2 ≤ length x
  cr : get_or x 0 0 ≡ 13
  lf : get_or x 1 0 ≡ 10

ended : (x : List ℕ) → kept (13 ∷ 10 ∷ []) (0 ∷ 0 ∷ []) (13 ∷ 10 ∷ []) x ≡ true → Ended x
unfolding kept
ended [] e = let z : ◌≡◌ {A = ℕ} 0 1 = cc in absurd (omega arith)
ended (b ∷ []) e = let s = and_inv (may_stand 13 0 13 b) _ e in let z : ◌≡◌ {A = ℕ} 0 1 = cc s.1 in absurd (omega arith)
ended (b ∷ c ∷ x) e =
    let s = and_inv (may_stand 13 0 13 b) _ e in
    let t = and_inv (may_stand 10 0 10 c) _ s.1 in
    record { long = omega arith; cr = stands 13 0 13 b (omega arith) s.0 (λ lo hi. omega arith) (λ q. q); lf = stands 10 0 10 c (omega arith) t.0 (λ lo hi. omega arith) (λ q. q) }

pub record Held (l : List ℕ) (from : ℕ) (es : List Entry) : Type 0 where
  pub reach : from ≤ end_of es from
  pub within : end_of es from + 2 ≤ length l
  pub keeps : (n : ℕ) → end_of es from ≤ n → keeps_pattern (take n l) (pattern_of es) ≡ true
  pub mild : leads is_mild (end_of es from - from) (drop from l) ≡ true
  pub cr : get_or l (end_of es from) 0 ≡ 13
  pub lf : get_or l (end_of es from + 1) 0 ≡ 10

abbrev pub ColumnsKept : List ℕ → List ℕ → Type 0
ColumnsKept p x = kept (columns_marks low_marks p) (columns_marks span_marks p) (columns_marks other_marks p) x ≡ true

-- the first of some entries starts where it must, and ends no earlier
pub tiled : (e : Entry) (es : List Entry) (from : ℕ) (before : Layout) → all_placed (e ∷ es) (from + 1) before ≡ true
    → (e.first ≡ from + 1) × (e.first ≤ e.last) × (all_placed es (e.last + 1) (with_entry before e) ≡ true)
unfolding all_placed placed
tiled e es from before a =
    let s = and_inv (is_spelt e && is_said (placed (from + 1) before e 0)) (all_placed es (e.last + 1) (with_entry before e)) a in
    let p = need_said (eqb e.first (from + 1)) _ _ refl (and_inv (is_spelt e) (is_said (placed (from + 1) before e 0)) s.0).1 in
    let q = need_said (leb e.first e.last) _ _ refl p.1 in
    (eqb-true e.first (from + 1) p.0, leb-true e.first e.last q.0, s.1)

none_held : (l : List ℕ) (from : ℕ) → Ended (drop from l) → Held l from []
unfolding end_of pattern_of keeps_pattern leads
none_held l from d =
    let n : from - from ≡ 0 = omega arith in
    let m : from + 0 ≡ from = omega arith in
    let room : 2 ≤ length l - from = rw length-drop at d.long in
    record {
      reach = omega arith;
      within = omega arith;
      keeps = λ n h. refl;
      mild = rw n;
      cr = ap (λ (k : ℕ). get_or l k 0) (sym m) ∙ sym (get_or-drop from l 0 0) ∙ d.cr;
      lf = sym (get_or-drop from l 1 0) ∙ d.lf;
    }

-- a column before others that are held
module _ (l : List ℕ) (e : Entry) (es : List Entry) (from : ℕ) (first : e.first ≡ from + 1) (last : e.first ≤ e.last) (r : Held l e.last es) where
  column_text_lem : (n : ℕ) → end_of es e.last ≤ n → part (byte e.first) e.last (take n l) ≡ take (suc (e.last - e.first)) (drop from l)
  column_text_lem n h =
      let before : e.first - 1 ≡ from = omega arith in
      let span : e.last - from ≡ suc (e.last - e.first) = omega arith in
      ap (λ (k : ℕ). take (e.last - k) (drop k (take n l))) before ∙ ap (λ (m : ℕ). take m (drop from (take n l))) span ∙ part_front from (suc (e.last - e.first)) n l (omega (arith, r.reach))

  past : drop (suc (e.last - e.first)) (drop from l) ≡ drop e.last l
  past = let w : from + suc (e.last - e.first) ≡ e.last = omega arith in drop-drop (suc (e.last - e.first)) from l ∙ ap (λ (n : ℕ). drop n l) w

  one_held : keeps_as (rule_of e.code) (take (suc (e.last - e.first)) (drop from l)) ≡ true → leads is_mild (suc (e.last - e.first)) (drop from l) ≡ true → Held l from (e ∷ es)
  unfolding end_of pattern_of keeps_pattern
  one_held k m =
      let whole : suc (e.last - e.first) + (end_of es e.last - e.last) ≡ end_of es e.last - from = omega (arith, r.reach) in
      record {
        reach = omega (arith, r.reach);
        within = r.within;
        keeps = λ n h. rw (column_text_lem n h, k) (r.keeps n h);
        mild = rw (← whole) (joined (suc (e.last - e.first)) (end_of es e.last - e.last) (drop from l) m (rw (← past) at r.mild));
        cr = r.cr;
        lf = r.lf;
      }

-- the marks of a column and those behind it
apart : (l : List ℕ) (e : Entry) (es : List Entry) (from : ℕ) → e.first ≡ from + 1 → e.first ≤ e.last → ColumnsKept (pattern_of (e ∷ es)) (drop from l)
    → ColumnKept (e.last - e.first) (rule_of e.code) (drop from l) × ColumnsKept (pattern_of es) (drop e.last l)
unfolding pattern_of columns_marks
apart l e es from first last k =
    let more = e.last - e.first in
    let rule = rule_of e.code in
    let long : (m : Marks) → length (column_marks m more rule) ≡ suc more = λ m. ap suc (length-replicate more (next_mark m rule)) in
    let s = kept_append (column_marks low_marks more rule) (column_marks span_marks more rule) (column_marks other_marks more rule) (columns_marks low_marks (pattern_of es)) (columns_marks span_marks (pattern_of es)) (columns_marks other_marks (pattern_of es)) (drop from l) (long low_marks ∙ sym (long span_marks)) (long low_marks ∙ sym (long other_marks)) k in
    let w : from + suc more ≡ e.last = omega arith in
    let behind : drop (length (column_marks low_marks more rule)) (drop from l) ≡ drop e.last l = ap (λ (n : ℕ). drop n (drop from l)) (long low_marks) ∙ drop-drop (suc more) from l ∙ ap (λ (n : ℕ). drop n l) w in
    (s.0, rw behind at s.1)

no_columns_lem : (x : List ℕ) → ColumnsKept (pattern_of []) x → Ended x
unfolding pattern_of columns_marks
no_columns_lem x e = ended x e

pub held : (l : List ℕ) (es : List Entry) (from : ℕ) (before : Layout) → all_placed es (from + 1) before ≡ true → ColumnsKept (pattern_of es) (drop from l) → Held l from es
held l [] from before a e = none_held l from (no_columns_lem (drop from l) e)
held l (e ∷ es) from before a k =
    let t = tiled e es from before a in
    let s = apart l e es from t.0 t.1 k in
    one_held l e es from t.0 t.1 (held l es e.last (with_entry before e) t.2 s.1) (column_keeps (e.last - e.first) (rule_of e.code) (drop from l) s.0) (column_mild (e.last - e.first) (rule_of e.code) (drop from l) s.0)

-- The pattern of a layout, an entry at a time; and a pattern that is kept, a column at a time. Assumes nothing.
use Rattle.std.specs.Result.{result_ok}
use Rattle.std.specs.Prelude.{Err, None, Ok, Option, Result, Some}
use Prim.Native.Nat.{ℕ, suc, ◌+◌, ◌*◌, ◌/◌, ◌≤◌, ◌<◌}
use mathlib.Core.Bool.{Bool, true, false}
use mathlib.Core.List.{List, [], ◌∷◌}
use mathlib.Core.Path.{◌≡◌, refl, sym, ◌∙◌}
use native.Mathlib.Omega.{arith}
use borrow.Author.Tests.{ne_eqb}
use lib.ListN.{length, get_or, set, drop, length-take, length-drop, drop_of_length-le}
use lib.Seq.{sets, drop-cons, get_or-take}
use Rattle.rules.specs.Choice.{given, on, part, byte}
use Rattle.rules.specs.Fields.{most_latitude, most_longitude, time_at}
use Rattle.rules.specs.Layouts.{unused, entries_of}
use Rattle.rules.specs.Lines.{fix_fields, at_limit}
use Rattle.rules.specs.Refusals.{Said, breaks, result_told}
use Rattle.rules.specs.declared.FixFields.{FixFields}
use Rattle.rules.specs.declared.Layout.{Layout}
use Rattle.rules.specs.declared.Refusal.{Refusal}
use Rattle.byte_sweep.specs.Plain.{is_plain, is_mild, every}
use Rattle.byte_sweep.proofs.Laws.{plain_is_mild}
use Rattle.check_front.specs.Front.{is_front}
use Rattle.check_front.proofs.There.{front_there}
use Rattle.check_sure.specs.Sure.{rule_of, keeps_as, pattern_of, keeps_pattern, below_time, time_of}
use Rattle.rules.specs.declared.Class.TheVariants as class

-- ---- the pattern of a layout

module _ (l : Layout) (i : ℕ) (p : List ℕ) where
  pub pattern_turn : length l.entries ≡ 13 → i < 13 → i < l.count → (first last rule : ℕ) → first ≡ (get_or l.entries i unused).first → last ≡ (get_or l.entries i unused).last → rule ≡ rule_of (get_or l.entries i unused).code
      → sets (set (set (set p (3 * i) first) (3 * i + 1) last) (3 * i + 2) rule) (3 * (i + 1)) (pattern_of (drop (i + 1) (entries_of l))) ≡ sets p (3 * i) (pattern_of (drop i (entries_of l)))
  unfolding pattern_of
  pattern_turn long h k first last rule f g r =
      let here : i < length (entries_of l) = simp length-take (omega arith) in
      let one : i + 1 ≡ suc i = omega arith in
      let n1 : 3 * i + 1 ≡ suc (3 * i) = omega arith in
      let n2 : 3 * i + 2 ≡ suc (suc (3 * i)) = omega arith in
      let n3 : 3 * suc i ≡ suc (suc (suc (3 * i))) = omega arith in
      rw (drop-cons (entries_of l) i unused here, get_or-take l.count l.entries i unused k, f, g, r, one, n1, n2, n3)

  pub pattern_past : l.count ≤ i → sets p (3 * i) (pattern_of (drop i (entries_of l))) ≡ p
  unfolding pattern_of
  pattern_past k = rw (drop_of_length-le (entries_of l) {i = i} (simp length-take (omega arith)))

  pub pattern_end : length l.entries ≡ 13 → 13 ≤ i → sets p (3 * i) (pattern_of (drop i (entries_of l))) ≡ p
  unfolding pattern_of
  pattern_end long h = rw (drop_of_length-le (entries_of l) {i = i} (simp length-take (omega arith)))

-- ---- a pattern kept

pub triple : (p : List ℕ) (k : ℕ) → k + 3 ≤ length p → drop k p ≡ get_or p k 0 ∷ get_or p (k + 1) 0 ∷ get_or p (k + 2) 0 ∷ drop (k + 3) p
triple p k h =
    let n1 : k + 1 ≡ suc k = omega arith in
    let n2 : k + 2 ≡ suc (suc k) = omega arith in
    let n3 : k + 3 ≡ suc (suc (suc k)) = omega arith in
    rw (n1, n2, n3, drop-cons p k 0 (omega arith), drop-cons p (suc k) 0 (omega arith), drop-cons p (suc (suc k)) 0 (omega arith))

short : (l q : List ℕ) → length q < 3 → keeps_pattern l q ≡ true
unfolding keeps_pattern
short l [] h = refl
short l (a ∷ []) h = refl
short l (a ∷ b ∷ []) h = refl
short l (a ∷ b ∷ c ∷ q) h = let z : ⊥ = omega arith in search

module _ (l p : List ℕ) (i : ℕ) where
  pub keep_turn : i < length p / 3 → (r : Bool) → r ≡ keeps_as (get_or p (3 * i + 2) 0) (part (byte (get_or p (3 * i) 0)) (get_or p (3 * i + 1) 0) l) → r ≡ true
      → keeps_pattern l (drop (3 * (i + 1)) p) ≡ keeps_pattern l (drop (3 * i) p)
  unfolding keeps_pattern
  keep_turn h r e t =
      let n : 3 * (i + 1) ≡ 3 * i + 3 = omega arith in
      rw (n, triple p (3 * i) (omega arith), sym e ∙ t)

  pub keep_stop : i < length p / 3 → (r : Bool) → r ≡ keeps_as (get_or p (3 * i + 2) 0) (part (byte (get_or p (3 * i) 0)) (get_or p (3 * i + 1) 0) l) → r ≡ false
      → keeps_pattern l (drop (3 * i) p) ≡ false
  unfolding keeps_pattern
  keep_stop h r e t = rw (triple p (3 * i) (omega arith), sym e ∙ t)

  pub keep_end : length p / 3 ≤ i → keeps_pattern l (drop (3 * i) p) ≡ true
  keep_end h = short l (drop (3 * i) p) (simp length-drop (omega arith))

-- ---- what the answers tell

pub clean_plain : (l : List ℕ) (r : Bool) → r ≡ every is_plain l → r ≡ true → true ≡ every is_mild l
clean_plain l r e t = sym (plain_is_mild l (sym e ∙ t))

pub time_is : (l : List ℕ) (r : Result FixFields Refusal) (f : FixFields) (t : Option ℕ) → result_told r ≡ fix_fields l → r ≡ Ok f → t ≡ below_time f → t ≡ time_of (fix_fields l)
unfolding result_told
time_is l r f t e g h = rw (← e, g) h

pub time_not : (l : List ℕ) (r : Result FixFields Refusal) → result_told r ≡ fix_fields l → result_ok r ≡ None → None ≡ time_of (fix_fields l)
unfolding result_told
time_not l (Ok f) e g = let z : ◌≡◌ {A = ℕ} 0 1 = cc in absurd (omega arith)
time_not l (Err w) e g = rw (← e)

-- ---- a line with a good front is read where its time is

timed : (o : Option ℕ) (f : ℕ → Said FixFields) → ((t : ℕ) → time_of (f t) ≡ Some t) → time_of (given o (breaks class.Time 2) f) ≡ o
timed None f e = refl
timed (Some t) f e = e t

pub front_time : (l : List ℕ) → is_front l ≡ true → time_of (fix_fields l) ≡ time_at l 1
unfolding fix_fields on below_time at_limit
front_time l e =
    let p = front_there l e in
    let lat = ne_eqb p.lat.value.count most_latitude (λ z. omega (arith, p.lat.below)) in
    let lon = ne_eqb p.lon.value.count most_longitude (λ z. omega (arith, p.lon.below)) in
    timed (time_at l 1) _ (λ t. rw (p.lat.read, p.lon.read, p.valid, p.pressure.read, p.gnss.read, lat, lon))

pub quick_time : (l : List ℕ) (t : Bool) (r : Option ℕ) → t ≡ is_front l → t ≡ true → r ≡ time_at l 1 → r ≡ time_of (fix_fields l)
quick_time l t r e h q = q ∙ sym (front_time l (sym e ∙ h))

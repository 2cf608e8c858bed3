-- The day of a walk is the number of falls over 43,200 along the times of the lines that it has passed. Assumes nothing.
use Rattle.std.specs.Prelude.{Some}
use Prim.Native.Nat.{ℕ, ◌+◌, ◌-◌}
use mathlib.Core.Bool.{Bool, true, false, cond}
use mathlib.Core.List.{List, [], ◌∷◌, ◌++◌}
use mathlib.Core.Path.{◌≡◌, refl, sym, ◌∙◌}
use native.Mathlib.Omega.{arith}
use borrow.Author.Tests.{lt-ltb, le-ltb, leb-true, leb-false, ltb-true, ltb-false}
use lib.Dec.{leb, ltb}
use lib.ListN.{length, length-append}
use Rattle.rules.specs.Choice.{byte}
use Rattle.rules.specs.Fields.{time_at, time_text}
use Rattle.rules.specs.Order.{passing}
use Rattle.rules.specs.Roles.{is_timed}
use Rattle.rules.specs.Walk.{Walk, set_out, day_after, walked}
use Rattle.rules.proofs.Inverse.{false_true}
use Rattle.rules_laws.proofs.Passing.{role_in}
use Rattle.grammar_words.specs.Values.{IsTime}
use Rattle.grammar.specs.Coming.{IsTimed}
use Rattle.grammar.specs.FieldTexts.{Stood}
use Rattle.grammar.proofs.Demands.{fields_told}
use Rattle.grammar.proofs.Leading.{letter_tests}
use Rattle.claims_track.specs.Mapped.{Times, done, timed, untimed, falls_from, falls}

-- ---- falls, one time more

-- the last of these times, or the one before them
abbrev last_from : ℕ → List ℕ → ℕ
last_from t [] = t
last_from t (u ∷ ts) = last_from u ts

-- 0 where there is none
abbrev last_of : List ℕ → ℕ
last_of [] = 0
last_of (t ∷ ts) = last_from t ts

fall_more : (t : ℕ) (ts : List ℕ) (u : ℕ) → falls_from t (ts ++ (u ∷ [])) ≡ falls_from t ts + cond (ltb (u + 43200) (last_from t ts)) 1 0
unfolding falls_from
fall_more t [] u = omega arith
fall_more t (x ∷ ts) u = omega (arith, fall_more x ts u)

by_passing : (a u d : ℕ) → day_after (passing a u) d ≡ d + cond (ltb (u + 43200) a) 1 0
unfolding passing
by_passing a u d = by (leb a u) refl (ltb 43200 (a - u)) refl
  where
    by : (x : Bool) → leb a u ≡ x → (y : Bool) → ltb 43200 (a - u) ≡ y → day_after (passing a u) d ≡ d + cond (ltb (u + 43200) a) 1 0
    by true e y g = rw (e, le-ltb (u + 43200) a (omega (arith, leb-true a u e))) (omega arith)
    by false e true g = rw (e, g, lt-ltb (u + 43200) a (omega (arith, leb-false a u e, ltb-true 43200 (a - u) g)))
    by false e false g = rw (e, g, le-ltb (u + 43200) a (omega (arith, leb-false a u e, ltb-false 43200 (a - u) g))) (omega arith)

falls_more : (ts : List ℕ) (u : ℕ) → falls (ts ++ (u ∷ [])) ≡ day_after (passing (last_of ts) u) (falls ts)
unfolding falls_from
falls_more [] u = rw (by_passing 0 u 0, le-ltb (u + 43200) 0 (omega arith))
falls_more (t ∷ ts) u = fall_more t ts u ∙ sym (by_passing (last_from t ts) u (falls_from t ts))

last_from_lem : (t : ℕ) (ts : List ℕ) (u : ℕ) → last_from t (ts ++ (u ∷ [])) ≡ u
last_from_lem t [] u = refl
last_from_lem t (x ∷ ts) u = last_from_lem x ts u

last_more : (ts : List ℕ) (u : ℕ) → last_of (ts ++ (u ∷ [])) ≡ u
last_more [] u = refl
last_more (t ∷ ts) u = last_from_lem t ts u

-- ---- which lines run in time order, by their letters

timed_so : (l : List ℕ) → is_timed (role_in l) ≡ true → IsTimed l
timed_so l e = (letter_tests l).1.2 ∙ e

untimed_so : (l : List ℕ) → is_timed (role_in l) ≡ false → IsTimed l → ⊥
untimed_so l e t = false_true (sym ((letter_tests l).1.2 ∙ e) ∙ t)

-- ---- times, one line more

times_more : {ls : List (List ℕ)} {ts : List ℕ} (l : List ℕ) (t : ℕ) → Times ls ts → IsTimed l → IsTime t → Stood l (byte 2) (time_text t) → Times (ls ++ (l ∷ [])) (ts ++ (t ∷ []))
times_more l t done a i s = timed a i s done
times_more l t (timed b j u w) a i s = timed b j u (times_more l t w a i s)
times_more l t (untimed b w) a i s = untimed b (times_more l t w a i s)

times_same : {ls : List (List ℕ)} {ts : List ℕ} (l : List ℕ) → Times ls ts → (IsTimed l → ⊥) → Times (ls ++ (l ∷ [])) ts
times_same l done a = untimed a done
times_same l (timed b j u w) a = timed b j u (times_same l w a)
times_same l (untimed b w) a = untimed b (times_same l w a)

-- ---- the walk

-- a line that runs in time order has a time
abbrev pub InTime : List ℕ → Type 0
InTime l = is_timed (role_in l) ≡ true → (t : ℕ) × (time_at l 1 ≡ Some t)

-- a walk that has passed these lines
pub record Walked (before : List (List ℕ)) (w : Walk) : Type 0 where
  pub lines : w.lines ≡ length before
  pub times : List ℕ
  pub timed : Times before times
  pub day : w.day ≡ falls times
  pub clock : w.clock ≡ last_of times

pub walked_first : Walked [] set_out
walked_first = record { lines = refl; times = []; timed = done; day = refl; clock = refl }

pub walked_on : (before : List (List ℕ)) (w : Walk) (l : List ℕ) → Walked before w → InTime l → Walked (before ++ (l ∷ [])) (walked l w)
walked_on before w l h i = by (is_timed (role_in l)) refl
  where
    count : length (before ++ (l ∷ [])) ≡ length before + 1
    count = length-append before (l ∷ [])

    by : (b : Bool) → is_timed (role_in l) ≡ b → Walked (before ++ (l ∷ [])) (walked l w)
    by true e =
        let t = i e in
        let s = (fields_told.time.reads l 1 t.0).0 t.1 in
        let m = h.times ++ (t.0 ∷ []) in
        rw (e, t.1) (record {
          lines = omega (arith, h.lines, count);
          times = m;
          timed = times_more l t.0 h.timed (timed_so l e) s.0 s.1;
          day = rw (h.clock, h.day) (sym (falls_more h.times t.0));
          clock = sym (last_more h.times t.0);
        })
    by false e = rw e (record {
      lines = omega (arith, h.lines, count);
      times = h.times;
      timed = times_same l h.timed (untimed_so l e);
      day = h.day;
      clock = h.clock;
    })

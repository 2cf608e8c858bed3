-- A list filled run by run is the list that the document asks for: what is told of the whole is joined from the runs, and each run from `keep` on stands at its place. Assumes nothing.
use Prim.Native.Nat.{ℕ, zero, suc, ◌+◌, ◌*◌, ◌-◌, ◌/◌, ◌≤◌}
use mathlib.Core.Bool.{Bool, true, false, cond}
use mathlib.Core.List.{List, [], ◌∷◌, ◌++◌, append_assoc}
use mathlib.Core.Path.{◌≡◌, refl, sym, ap, subst, ◌∙◌}
use native.Mathlib.Nat.{add-zero}
use native.Mathlib.Omega.{arith}
use borrow.Author.Tests.{le-leb, lt-ltb, le-ltb, ltb-true, ltb-false}
use lib.Dec.{ltb}
use lib.IntN.{ℤ}
use lib.ListN.{length, set, take, drop, length-append, drop_of_length-le}
use lib.Seq.{sets, sets-eq, length-sets, length-take-le, take_all, take-add, drop-drop, take_at, drop_at}
use Rattle.rules.specs.Choice.{Each}
use Rattle.track_rules.specs.declared.FixStep.{FixStep}
use Rattle.track_rules.specs.declared.Progress.{Progress}
use Rattle.track_rules.specs.declared.Record.{Record}
use Rattle.summary_span.specs.Sums.{no_sum, joined}
use Rattle.summary_span.specs.declared.Sum.{Sum}
use Rattle.summary_span.proofs.Joining.{joined_thrice}
use Rattle.summary_slots.specs.Slots.{numbers_of, put_at}
use Rattle.summary_fix.specs.Spots.{alone_of}
use Rattle.rules_trips.proofs.Each.{each_cut}
use Rattle.track_rules.specs.Stored.{fixes_from}
use Rattle.summary_reckon.specs.Filled.{sum_over, next_run, put_from, stepped, turned_leg, turned_list, whole_from, list_from, filled}
use Rattle.summary_reckon.specs.Summary.{told, runs_of, told_runs, size_of, updated}
use Rattle.summary_reckon.specs.declared.Leg.{Leg}
use Rattle.summary.proofs.Telling.{Fits, told_is}

-- ---- sums of lists

sum_joined : (s t : Sum) (rs : List Record) → joined s (sum_over t rs) ≡ sum_over (joined s t) rs
sum_joined s t [] = refl
sum_joined s t (r ∷ rs) = sum_joined s (joined t (alone_of r)) rs ∙ ap (λ (x : Sum). sum_over x rs) (sym (joined_thrice s t (alone_of r)))

sum_append : (s : Sum) (a b : List Record) → sum_over s (a ++ b) ≡ sum_over (sum_over s a) b
sum_append s [] b = refl
sum_append s (r ∷ a) b = sum_append (joined s (alone_of r)) a b

nothing_more : (s : Sum) → joined s no_sum ≡ s
unfolding joined
nothing_more s = refl

two_sums : (a b : List Record) → joined (sum_over no_sum a) (sum_over no_sum b) ≡ sum_over no_sum (a ++ b)
two_sums a b = sum_joined (sum_over no_sum a) no_sum b ∙ ap (λ (x : Sum). sum_over x b) (nothing_more (sum_over no_sum a)) ∙ sym (sum_append no_sum a b)

-- ---- the fixes of a run

run_is : (left : ℕ) → (next_run left ≤ 256) × (left ≡ next_run left + (left - 256)) × ((left - 256 ≡ 0 → ⊥) → next_run left ≡ 256)
unfolding next_run
run_is left = by (ltb 256 left) refl
  where
    by : (b : Bool) → ltb 256 left ≡ b → (cond b 256 left ≤ 256) × (left ≡ cond b 256 left + (left - 256)) × ((left - 256 ≡ 0 → ⊥) → cond b 256 left ≡ 256)
    by true e = (omega arith, omega (arith, ltb-true 256 left e), λ h. refl)
    by false e = (ltb-false 256 left e, omega (arith, ltb-false 256 left e), λ h. absurd (h (omega (arith, ltb-false 256 left e))))

module _ (step : Progress → FixStep) where
  fixes_more : (a b : ℕ) (from : Progress) → fixes_from step from (a + b) ≡ fixes_from step from a ++ fixes_from step (stepped step from a) b
  unfolding fixes_from stepped
  fixes_more zero b from = let z : 0 + b ≡ b = omega arith in rw z refl
  fixes_more (suc a) b from = let z : suc a + b ≡ suc (a + b) = omega arith in rw z (ap (λ (x : List Record). (step from).found ∷ x) (fixes_more a b (step from).next))

  length_fixes : (n : ℕ) (from : Progress) → length (fixes_from step from n) ≡ n
  unfolding fixes_from
  length_fixes zero from = refl
  length_fixes (suc n) from = ap suc (length_fixes n (step from).next)

  -- the run that comes next, and those behind it
  run_first : (left : ℕ) (from : Progress) → fixes_from step from left ≡ fixes_from step from (next_run left) ++ fixes_from step (stepped step from (next_run left)) (left - 256)
  run_first left from = ap (fixes_from step from) (run_is left).1 ∙ fixes_more (next_run left) (left - 256) from

  abbrev Taken : ℕ → Progress → Type 0
  Taken left from = (take 256 (fixes_from step from left) ≡ fixes_from step from (next_run left)) × (drop 256 (fixes_from step from left) ≡ fixes_from step (stepped step from (next_run left)) (left - 256))

  run_taken : (left : ℕ) (from : Progress) → Taken left from
  unfolding fixes_from
  run_taken left from = by (left - 256) refl
    where
      by : (m : ℕ) → left - 256 ≡ m → Taken left from
      by zero e =
          let q : left ≡ next_run left = (run_is left).1 ∙ omega (arith, e) in
          let n : length (fixes_from step from left) ≤ 256 = omega (arith, length_fixes left from, e) in
          (take_all 256 (fixes_from step from left) n ∙ ap (fixes_from step from) q, drop_of_length-le (fixes_from step from left) {i = 256} n ∙ sym (ap (fixes_from step (stepped step from (next_run left))) e))
      by (suc m) e =
          let n : length (fixes_from step from (next_run left)) ≡ 256 = length_fixes (next_run left) from ∙ (run_is left).2 (λ z. omega (arith, z, e)) in (
            ap (take 256) (run_first left from) ∙ take_at (fixes_from step from (next_run left)) (fixes_from step (stepped step from (next_run left)) (left - 256)) 256 n,
            ap (drop 256) (run_first left from) ∙ drop_at (fixes_from step from (next_run left)) (fixes_from step (stepped step from (next_run left)) (left - 256)) 256 n,
          )

  -- ---- the whole

  whole_is : (m left : ℕ) (leg : Leg) → left ≤ 256 * m → whole_from step m left leg ≡ joined leg.sum (sum_over no_sum (fixes_from step leg.next left))
  unfolding whole_from turned_leg fixes_from
  whole_is zero left leg h = let z : left ≡ 0 = omega arith in rw z (sym (nothing_more leg.sum))
  whole_is (suc m) left leg h =
      let run = fixes_from step leg.next (next_run left) in
      let rest = fixes_from step (stepped step leg.next (next_run left)) (left - 256) in
      whole_is m (left - 256) (turned_leg step left leg) (omega arith)
      ∙ joined_thrice leg.sum (sum_over no_sum run) (sum_over no_sum rest)
      ∙ ap (joined leg.sum) (two_sums run rest ∙ ap (sum_over no_sum) (sym (run_first left leg.next)))

-- ---- the runs of a list of records, put into a list of numbers

abbrev run_put : ℕ → ℕ → List Record → List ℤ → List ℤ
run_put keep k rs list = cond (ltb k keep) list (put_at (12 + 12 * k) (told rs) list)

abbrev runs_put : ℕ → ℕ → ℕ → List Record → List ℤ → List ℤ
runs_put keep zero k rs list = list
runs_put keep (suc m) k rs list = runs_put keep m (k + 1) (drop 256 rs) (run_put keep k (take 256 rs) list)

list_is : (step : Progress → FixStep) (keep m k left : ℕ) (leg : Leg) (list : List ℤ) → Each Fits (fixes_from step leg.next left)
    → list_from step keep m k left leg list ≡ runs_put keep m k (fixes_from step leg.next left) list
unfolding list_from turned_leg turned_list put_from
list_is step keep zero k left leg list h = refl
list_is step keep (suc m) k left leg list h =
    let from = leg.next in
    let run = fixes_from step from (next_run left) in
    let rest = fixes_from step (stepped step from (next_run left)) (left - 256) in
    let t = run_taken step left from in
    let fits = each_cut Fits run rest (subst (Each Fits) (run_first step left from) h) in
    let n : length run ≡ next_run left = length_fixes step (next_run left) from in
    let tells : numbers_of (next_run left) (sum_over no_sum run) ≡ told (take 256 (fixes_from step from left)) =
    ap (λ (j : ℕ). numbers_of j (sum_over no_sum run)) (sym n) ∙ told_is run fits.0 (omega (arith, n, (run_is left).0)) ∙ ap told (sym t.0) in
    list_is step keep m (k + 1) (left - 256) (turned_leg step left leg) (turned_list step keep k left leg list) fits.1
    ∙ ap (λ (rs : List Record). runs_put keep m (k + 1) rs (turned_list step keep k left leg list)) (sym t.1)
    ∙ ap (λ (zs : List ℤ). runs_put keep m (k + 1) (drop 256 (fixes_from step from left)) (cond (ltb k keep) list (put_at (12 + 12 * k) zs list))) tells

-- runs before `keep` change nothing
skipped : (keep j m k : ℕ) (rs : List Record) (list : List ℤ) → k + j ≤ keep → runs_put keep (j + m) k rs list ≡ runs_put keep m (k + j) (drop (256 * j) rs) list
skipped keep zero m k rs list h = let z : k + 0 ≡ k = omega arith in let y : 0 + m ≡ m = omega arith in rw (z, y) refl
skipped keep (suc j) m k rs list h =
    let z : k + suc j ≡ k + 1 + j = omega arith in
    let y : suc j + m ≡ suc (j + m) = omega arith in
    let x : 256 * suc j ≡ 256 + 256 * j = omega arith in
    ap (λ (n : ℕ). runs_put keep n k rs list) y
    ∙ ap (λ (b : Bool). runs_put keep (j + m) (k + 1) (drop 256 rs) (cond b list (put_at (12 + 12 * k) (told (take 256 rs)) list))) (lt-ltb k keep (omega arith))
    ∙ skipped keep j m (k + 1) (drop 256 rs) list (omega arith)
    ∙ ap (λ (l : List Record). runs_put keep m (k + 1 + j) l list) (drop-drop (256 * j) 256 rs)
    ∙ ap (λ (n : ℕ). runs_put keep m n (drop (256 + 256 * j) rs) list) (sym z)
    ∙ ap (λ (n : ℕ). runs_put keep m (k + suc j) (drop n rs) list) (sym x)

module _ {A : Type 0} where
  sets_append : (l : List A) (at : ℕ) (a b : List A) → sets l at (a ++ b) ≡ sets (sets l at a) (at + length a) b
  sets_append l at [] b = rw add-zero refl
  sets_append l at (x ∷ a) b =
      let e : at + suc (length a) ≡ suc at + length a = omega arith in
      sets_append (set l at x) (suc at) a b ∙ ap (λ (k : ℕ). sets (sets (set l at x) (suc at) a) k b) (sym e)

pub length_told_lem : (rs : List Record) → length (told rs) ≡ 12
unfolding told
length_told_lem rs = refl

pub length_runs : (n : ℕ) (rs : List Record) → length (told_runs n rs) ≡ 12 * n
unfolding told_runs
length_runs zero rs = refl
length_runs (suc n) rs = length-append (told (take 256 rs)) (told_runs n (drop 256 rs)) ∙ omega (arith, length_told_lem (take 256 rs), length_runs n (drop 256 rs))

room : (at : ℕ) (rs : List Record) (list : List ℤ) → at + 12 ≤ length list → put_at at (told rs) list ≡ sets list at (told rs)
unfolding put_at
room at rs list h = rw (le-leb (at + length (told rs)) (length list) (omega (arith, length_told_lem rs)))

-- those from `keep` on stand one behind the other
put_runs : (keep m k : ℕ) (rs : List Record) (list : List ℤ) → keep ≤ k → 12 + 12 * k + 12 * m ≤ length list → runs_put keep m k rs list ≡ sets list (12 + 12 * k) (told_runs m rs)
unfolding told_runs
put_runs keep zero k rs list h g = refl
put_runs keep (suc m) k rs list h g =
    let run = told (take 256 rs) in
    let p = 12 + 12 * k in
    let n : 12 + 12 * (k + 1) ≡ p + length run = omega (arith, length_told_lem (take 256 rs)) in
    let f : run_put keep k (take 256 rs) list ≡ sets list p run = ap (λ (b : Bool). cond b list (put_at p run list)) (le-ltb k keep h) ∙ room p (take 256 rs) list (omega arith) in
    ap (runs_put keep m (k + 1) (drop 256 rs)) f
    ∙ put_runs keep m (k + 1) (drop 256 rs) (sets list p run) (omega arith) (omega (arith, length-sets list p run))
    ∙ ap (λ (j : ℕ). sets (sets list p run) j (told_runs m (drop 256 rs))) n
    ∙ sym (sets_append list p run (told_runs m (drop 256 rs)))

-- ---- all of it

-- the whole put over a list with its runs is the list in its parts
laid_out_lem : (old : ℕ) (rs : List Record) (list : List ℤ) → old ≤ length rs → size_of (runs_of (length rs)) ≤ length list
    → sets (sets list (12 + 12 * (old / 256)) (told_runs (runs_of (length rs) - old / 256) (drop (256 * (old / 256)) rs))) 0 (told rs) ≡ updated old rs list
unfolding updated
laid_out_lem old rs list h g =
    let keep = old / 256 in
    let runs = told_runs (runs_of (length rs) - keep) (drop (256 * keep) rs) in
    let p = 12 + 12 * keep in
    let n : length runs ≡ 12 * (runs_of (length rs) - keep) = length_runs (runs_of (length rs) - keep) (drop (256 * keep) rs) in
    let e : p + length runs ≡ size_of (runs_of (length rs)) = omega (arith, n) in
    let front = take 12 list in
    let kept = take (12 * keep) (drop 12 list) in
    let rest = drop (size_of (runs_of (length rs))) list in
    let m : size_of keep - 12 ≡ 12 * keep = omega arith in
    let z : 0 + length (told rs) ≡ 12 = omega (arith, length_told_lem rs) in
    let whole : sets list p runs ≡ front ++ (kept ++ (runs ++ rest)) =
    sets-eq runs list p (omega (arith, e))
    ∙ ap (λ (j : ℕ). take p list ++ runs ++ drop j list) e
    ∙ ap (λ (x : List ℤ). x ++ runs ++ rest) (take-add 12 (12 * keep) list)
    ∙ append_assoc (front ++ kept) runs rest
    ∙ append_assoc front kept (runs ++ rest) in
    sets-eq (told rs) (sets list p runs) 0 (omega (arith, length_told_lem rs, length-sets list p runs))
    ∙ ap (λ (j : ℕ). told rs ++ drop j (sets list p runs)) z
    ∙ ap (λ (x : List ℤ). told rs ++ drop 12 x) whole
    ∙ ap (λ (x : List ℤ). told rs ++ x) (drop_at front (kept ++ (runs ++ rest)) 12 (length-take-le 12 list (omega arith)))
    ∙ ap (λ (j : ℕ). told rs ++ (take j (drop 12 list) ++ (runs ++ rest))) (sym m)

pub filled_is : (step : Progress → FixStep) (start : Progress) (count old : ℕ) (list : List ℤ) → Each Fits (fixes_from step start count) → count ≤ 16777216 → old ≤ count
    → size_of (runs_of count) ≤ length list → filled step start count (old / 256) list ≡ updated old (fixes_from step start count) list
unfolding filled
filled_is step start count old list fits small h g =
    let rs = fixes_from step start count in
    let leg : Leg = record { sum = no_sum; next = start } in
    let n : length rs ≡ count = length_fixes step count start in
    let keep = old / 256 in
    let runs = told_runs (runs_of count - keep) (drop (256 * keep) rs) in
    let w : whole_from step (runs_of count) count leg ≡ sum_over no_sum rs = whole_is step (runs_of count) count leg (omega arith) ∙ sum_joined no_sum no_sum rs ∙ ap (λ (s : Sum). sum_over s rs) (nothing_more no_sum) in
    let t : numbers_of count (whole_from step (runs_of count) count leg) ≡ told rs = ap (numbers_of count) w ∙ ap (λ (j : ℕ). numbers_of j (sum_over no_sum rs)) (sym n) ∙ told_is rs fits (omega (arith, n)) in
    let y : runs_of count ≡ keep + (runs_of count - keep) = omega arith in
    let x : 0 + keep ≡ keep = omega arith in
    let l : list_from step keep (runs_of count) 0 count leg list ≡ sets list (12 + 12 * keep) runs =
    list_is step keep (runs_of count) 0 count leg list fits
    ∙ ap (λ (j : ℕ). runs_put keep j 0 rs list) y
    ∙ skipped keep keep (runs_of count - keep) 0 rs list (omega arith)
    ∙ ap (λ (j : ℕ). runs_put keep (runs_of count - keep) j (drop (256 * keep) rs) list) x
    ∙ put_runs keep (runs_of count - keep) keep (drop (256 * keep) rs) list (omega arith) (omega arith) in
    ap (λ (zs : List ℤ). put_at 0 zs (list_from step keep (runs_of count) 0 count leg list)) t
    ∙ ap (put_at 0 (told rs)) l
    ∙ room 0 rs (sets list (12 + 12 * keep) runs) (omega (arith, length-sets list (12 + 12 * keep) runs))
    ∙ ap (λ (j : ℕ). sets (sets list (12 + 12 * keep) (told_runs (runs_of j - keep) (drop (256 * keep) rs))) 0 (told rs)) (sym n)
    ∙ laid_out_lem old rs list (omega (arith, n)) (omega (arith, n))

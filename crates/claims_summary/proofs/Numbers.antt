-- The twelve numbers of some fixes by their meaning, and where each run's stand in the list. Assumes nothing.
use Prim.Native.Nat.{ℕ, zero, suc, ◌+◌, ◌*◌, ◌-◌, ◌/◌, ◌≤◌, ◌<◌}
use mathlib.Core.List.{List, [], ◌∷◌, ◌++◌, map, append_assoc}
use mathlib.Core.Path.{◌≡◌, refl, sym, ap, ◌∙◌}
use native.Mathlib.Omega.{arith}
use lib.IntN.{ℤ, pos}
use lib.ListN.{length, take, drop, replicate, length-append, length-drop}
use lib.Seq.{take_at, drop_at, drop-drop, length-take-le, get_or-drop, ext_get_or}
use Rattle.rules.specs.Choice.{part}
use Rattle.rules.specs.Fixes.{plain, plain_lat, plain_lon}
use Rattle.track_rules.specs.declared.Record.{Record}
use Rattle.summary_span.specs.Extremes.{above, below, greatest, least}
use Rattle.summary_span.proofs.Outmost.{upwards, downwards, outmost_is, outmost_only}
use Rattle.summary_fix.specs.Spots.{signed_count}
use Rattle.summary_reckon.specs.Summary.{heights, marked, latitudes, longitudes, one_if_any, told, runs_of, run_at, told_runs, size_of, updated}
use Rattle.summary.proofs.Filling.{length_told_lem, length_runs}
use Rattle.claims_summary.specs.Overview.{nth, AreEnds, Tells}

-- ---- the numbers

ends : (z : ℤ) (zs : List ℤ) → AreEnds (least (z ∷ zs)) (greatest (z ∷ zs)) (z ∷ zs)
ends z zs = (outmost_is below downwards z zs, outmost_is above upwards z zs)

altitudes_of : (rs : List Record) → 0 < length rs → AreEnds (least (heights rs)) (greatest (heights rs)) (heights rs)
altitudes_of [] h = absurd (omega arith)
altitudes_of (r ∷ rs) h = ends r.fix.pressure.metres (heights rs)

-- of the fixes that are marked
abbrev lat : Record → ℤ
lat r = signed_count (plain_lat r.fix)

abbrev lon : Record → ℤ
lon r = signed_count (plain_lon r.fix)

positions_of : (ms : List Record) → 0 < length ms → (one_if_any ms ≡ pos 1) × AreEnds (least (map lat ms)) (greatest (map lat ms)) (map lat ms) × AreEnds (least (map lon ms)) (greatest (map lon ms)) (map lon ms)
positions_of [] h = absurd (omega arith)
positions_of (r ∷ ms) h = (refl, ends (lat r) (map lat ms), ends (lon r) (map lon ms))

no_positions : (ms : List Record) → ms ≡ [] → one_if_any ms ∷ least (map lat ms) ∷ greatest (map lat ms) ∷ least (map lon ms) ∷ greatest (map lon ms) ∷ [] ≡ replicate 5 (pos 0)
no_positions [] e = refl
no_positions (r ∷ ms) e = let n = ap length e in absurd (omega (arith, n))

nothing_told : (rs : List Record) → rs ≡ [] → told rs ≡ replicate 12 (pos 0)
unfolding told plain
nothing_told [] e = refl
nothing_told (r ∷ rs) e = let n = ap length e in absurd (omega (arith, n))

pub tells_told : (rs : List Record) → Tells rs (told rs)
unfolding told
tells_told rs = record {
  twelve = refl;
  count = refl;
  first = λ h. (refl, refl);
  last = λ h. (refl, refl);
  altitudes = altitudes_of rs;
  position = positions_of (marked rs);
  no_position = no_positions (marked rs);
  no_fix = nothing_told rs;
}

-- ---- no other twelve numbers

by_list : {A B : Type 0} (l : List A) → (0 < length l → B) → (l ≡ [] → B) → B
by_list [] f g = g refl
by_list (x ∷ l) f g = f (omega arith)

only_ends : (l g l' g' : ℤ) (zs : List ℤ) → AreEnds l g zs → AreEnds l' g' zs → (l ≡ l') × (g ≡ g')
only_ends l g l' g' zs x y = (outmost_only below downwards l l' zs x.0 y.0, outmost_only above upwards g g' zs x.1 y.1)

module _ (rs : List Record) (ns ns' : List ℤ) (w : Tells rs ns) (w' : Tells rs ns') where
  -- the last five
  five : drop 7 ns ≡ drop 7 ns'
  five = by_list (marked rs) some (λ e. w.no_position e ∙ sym (w'.no_position e))
    where
      some : 0 < length (marked rs) → drop 7 ns ≡ drop 7 ns'
      some h =
          let p = w.position h in
          let q = w'.position h in
          let y = only_ends (nth 8 ns) (nth 9 ns) (nth 8 ns') (nth 9 ns') (latitudes rs) p.1 q.1 in
          let x = only_ends (nth 10 ns) (nth 11 ns) (nth 10 ns') (nth 11 ns') (longitudes rs) p.2 q.2 in
          ext_get_or (pos 0) (drop 7 ns) (drop 7 ns') (omega (arith, length-drop 7 ns, length-drop 7 ns', w.twelve, w'.twelve)) λ i less.
          get_or-drop 7 ns i (pos 0) ∙ five_at (p.0 ∙ sym q.0) y.0 y.1 x.0 x.1 i (omega (arith, less, length-drop 7 ns, w.twelve)) ∙ sym (get_or-drop 7 ns' i (pos 0))
        where
          five_at : nth 7 ns ≡ nth 7 ns' → nth 8 ns ≡ nth 8 ns' → nth 9 ns ≡ nth 9 ns' → nth 10 ns ≡ nth 10 ns' → nth 11 ns ≡ nth 11 ns' → (i : ℕ) → i < 5 → nth (7 + i) ns ≡ nth (7 + i) ns'
          five_at a b c d e zero h = a
          five_at a b c d e (suc zero) h = b
          five_at a b c d e (suc (suc zero)) h = c
          five_at a b c d e (suc (suc (suc zero))) h = d
          five_at a b c d e (suc (suc (suc (suc zero)))) h = e
          five_at a b c d e (suc (suc (suc (suc (suc i))))) h = absurd (omega arith)

  pub only_told : ns ≡ ns'
  only_told = by_list rs some (λ e. w.no_fix e ∙ sym (w'.no_fix e))
    where
      some : 0 < length rs → ns ≡ ns'
      some h =
          let f = w.first h in
          let f' = w'.first h in
          let l = w.last h in
          let l' = w'.last h in
          let a = only_ends (nth 6 ns) (nth 5 ns) (nth 6 ns') (nth 5 ns') (heights rs) (w.altitudes h) (w'.altitudes h) in
          ext_get_or (pos 0) ns ns' (w.twelve ∙ sym w'.twelve) λ i less.
          all_at (w.count ∙ sym w'.count) (f.0 ∙ sym f'.0) (f.1 ∙ sym f'.1) (l.0 ∙ sym l'.0) (l.1 ∙ sym l'.1) a.1 a.0 i
        where
          all_at : nth 0 ns ≡ nth 0 ns' → nth 1 ns ≡ nth 1 ns' → nth 2 ns ≡ nth 2 ns' → nth 3 ns ≡ nth 3 ns' → nth 4 ns ≡ nth 4 ns' → nth 5 ns ≡ nth 5 ns' → nth 6 ns ≡ nth 6 ns' → (i : ℕ) → nth i ns ≡ nth i ns'
          all_at a b c d e f g zero = a
          all_at a b c d e f g (suc zero) = b
          all_at a b c d e f g (suc (suc zero)) = c
          all_at a b c d e f g (suc (suc (suc zero))) = d
          all_at a b c d e f g (suc (suc (suc (suc zero)))) = e
          all_at a b c d e f g (suc (suc (suc (suc (suc zero))))) = f
          all_at a b c d e f g (suc (suc (suc (suc (suc (suc zero)))))) = g
          all_at a b c d e f g (suc (suc (suc (suc (suc (suc (suc i))))))) =
              let z : suc (suc (suc (suc (suc (suc (suc i)))))) ≡ 7 + i = omega arith in
              ap (λ (j : ℕ). nth j ns) z ∙ sym (get_or-drop 7 ns i (pos 0)) ∙ ap (nth i) five ∙ get_or-drop 7 ns' i (pos 0) ∙ sym (ap (λ (j : ℕ). nth j ns') z)

-- ---- runs one behind the other

pub runs_split : (a b : ℕ) (rs : List Record) → told_runs (a + b) rs ≡ told_runs a rs ++ told_runs b (drop (256 * a) rs)
unfolding told_runs
runs_split zero b rs = let y : 0 + b ≡ b = omega arith in rw y refl
runs_split (suc a) b rs =
    let y : suc a + b ≡ suc (a + b) = omega arith in
    let x : 256 + 256 * a ≡ 256 * suc a = omega arith in
    rw y (ap (λ (l : List ℤ). told (take 256 rs) ++ l) (runs_split a b (drop 256 rs) ∙ ap (λ (l : List Record). told_runs a (drop 256 rs) ++ told_runs b l) (drop-drop (256 * a) 256 rs ∙ ap (λ (j : ℕ). drop j rs) x))
    ∙ sym (append_assoc (told (take 256 rs)) (told_runs a (drop 256 rs)) (told_runs b (drop (256 * suc a) rs))))

-- run j of m runs
run_there : (m j : ℕ) (rs : List Record) (rest : List ℤ) → j < m → take 12 (drop (12 * j) (told_runs m rs ++ rest)) ≡ told (run_at j rs)
unfolding told_runs
run_there m j rs rest h =
    let q = m - (j + 1) in
    let y : m ≡ j + suc q = omega arith in
    let here = told (take 256 (drop (256 * j) rs)) in
    let later = told_runs q (drop 256 (drop (256 * j) rs)) in
    let e : told_runs m rs ++ rest ≡ told_runs j rs ++ (here ++ (later ++ rest)) =
    ap (λ (n : ℕ). told_runs n rs ++ rest) y ∙ ap (λ (l : List ℤ). l ++ rest) (runs_split j (suc q) rs)
    ∙ append_assoc (told_runs j rs) (here ++ later) rest ∙ ap (λ (l : List ℤ). told_runs j rs ++ l) (append_assoc here later rest) in
    ap (λ (l : List ℤ). take 12 (drop (12 * j) l)) e
    ∙ ap (take 12) (drop_at (told_runs j rs) (here ++ (later ++ rest)) (12 * j) (length_runs j rs))
    ∙ take_at here (later ++ rest) 12 (length_told_lem (take 256 (drop (256 * j) rs)))

-- ---- the list in its parts

module _ (old : ℕ) (rs : List Record) (list : List ℤ) (h : old ≤ length rs) (g : size_of (runs_of (length rs)) ≤ length list) where
  abbrev keep : ℕ
  keep = old / 256

  abbrev n : ℕ
  n = runs_of (length rs)

  abbrev kept : List ℤ
  kept = part 12 (size_of keep) list

  abbrev runs : List ℤ
  runs = told_runs (n - keep) (drop (256 * keep) rs)

  abbrev rest : List ℤ
  rest = drop (size_of n) list

  length_kept : length kept ≡ size_of keep - 12
  length_kept = length-take-le (size_of keep - 12) (drop 12 list) (omega (arith, length-drop 12 list))

  length_there : length runs ≡ 12 * (n - keep)
  length_there = length_runs (n - keep) (drop (256 * keep) rs)

  pub front : take 12 (updated old rs list) ≡ told rs
  unfolding updated
  front = take_at (told rs) (kept ++ (runs ++ rest)) 12 (length_told_lem rs)

  pub stays : part 12 (size_of keep) (updated old rs list) ≡ kept
  unfolding updated
  stays = ap (take (size_of keep - 12)) (drop_at (told rs) (kept ++ (runs ++ rest)) 12 (length_told_lem rs)) ∙ take_at kept (runs ++ rest) (size_of keep - 12) length_kept

  from_keep : drop (size_of keep) (updated old rs list) ≡ runs ++ rest
  unfolding updated
  from_keep =
      ap (drop (size_of keep)) (sym (append_assoc (told rs) kept (runs ++ rest)))
      ∙ drop_at (told rs ++ kept) (runs ++ rest) (size_of keep) (length-append (told rs) kept ∙ omega (arith, length_told_lem rs, length_kept))

  pub run_is : (k : ℕ) → keep ≤ k → k < n → part (size_of k) (size_of (k + 1)) (updated old rs list) ≡ told (run_at k rs)
  run_is k low high =
      let j = k - keep in
      let x : size_of k ≡ size_of keep + 12 * j = omega arith in
      let y : size_of (k + 1) - size_of k ≡ 12 = omega arith in
      let z : 256 * keep + 256 * j ≡ 256 * k = omega arith in
      ap (λ (i : ℕ). take i (drop (size_of k) (updated old rs list))) y
      ∙ ap (λ (i : ℕ). take 12 (drop i (updated old rs list))) x
      ∙ ap (take 12) (sym (drop-drop (12 * j) (size_of keep) (updated old rs list)))
      ∙ ap (λ (l : List ℤ). take 12 (drop (12 * j) l)) from_keep
      ∙ run_there (n - keep) j (drop (256 * keep) rs) rest (omega arith)
      ∙ ap (λ (l : List Record). told (take 256 l)) (drop-drop (256 * j) (256 * keep) rs ∙ ap (λ (i : ℕ). drop i rs) z)

  pub beyond : drop (size_of n) (updated old rs list) ≡ rest
  beyond =
      let x : size_of n ≡ size_of keep + 12 * (n - keep) = omega arith in
      ap (λ (i : ℕ). drop i (updated old rs list)) x
      ∙ sym (drop-drop (12 * (n - keep)) (size_of keep) (updated old rs list))
      ∙ ap (drop (12 * (n - keep))) from_keep
      ∙ drop_at runs rest (12 * (n - keep)) length_there

  pub long : length (updated old rs list) ≡ length list
  unfolding updated
  long =
      length-append (told rs) (kept ++ (runs ++ rest))
      ∙ omega (arith, length_told_lem rs, length-append kept (runs ++ rest), length-append runs rest, length_kept, length_there, length-drop (size_of n) list)

-- The points of a declaration put one after the other: what is left to be put from each line on gives the whole list. Assumes nothing.
use Rattle.std.specs.Prelude.{Err, Ok, Result}
use Prim.Native.Nat.{ℕ, zero, suc, ◌+◌, ◌-◌, ◌*◌, ◌≤◌, ◌<◌}
use mathlib.Core.List.{List, [], ◌∷◌, ◌++◌, append_assoc}
use mathlib.Core.Path.{◌≡◌, refl, sym, ap, ◌∙◌}
use native.Mathlib.Omega.{arith}
use native.Mathlib.Numerals.{add-one}
use borrow.Rule.Slice.PartMut.{put_mid}
use lib.ListN.{length, take, drop, length-append}
use lib.Seq.{sets, length-sets, sets-eq, drop-drop}
use Rattle.rules.specs.Choice.{part}
use Rattle.rules.specs.Reads.{head_said, point_said}
use Rattle.std.specs.Result.{result_unwrap_or}
use Rattle.rules.specs.Refusals.{Said, value_or, result_told}
use Rattle.rules.specs.Split.{Lines, end, broken, line, lines_of}
use Rattle.rules.specs.declared.Head.{Head}
use Rattle.rules.specs.declared.Point.{Point}
use Rattle.rules.specs.declared.Refusal.{Refusal}
use Rattle.rules.proofs.Texts.{sets_append}
use Rattle.file_lines.specs.Ends.{ended_at}
use Rattle.file_lines.specs.declared.scan.Ended.{Ended}
use Rattle.file_lines.specs.declared.scan.Ended.TheVariants as ended
use Rattle.file_lines.proofs.Cuts as cuts
use Rattle.declaration.specs.Declaration.{no_head, no_point, six_of, points_from}
use Rattle.declaration.proofs.Starting.{part_long}

-- ---- a head and a point that were read, or were not

pub or_said : {A : Type 0} (d : A) (r : Result A Refusal) (s : Said A) → result_told r ≡ s → result_unwrap_or r d ≡ value_or d s
unfolding result_told
or_said d (Ok v) s e = rw (← e) refl
or_said d (Err w) s e = rw (← e) refl

-- the six numbers of a point that was read
pub six_put : (list : List ℕ) (at from : ℕ) (t : List ℕ) (p : Point) → p ≡ value_or no_point (point_said t) → (n : ℕ) → n ≡ length t - 18 → (after : List ℕ)
    → after ≡ sets list at (p.lat.count ∷ p.lat.letter ∷ p.lon.count ∷ p.lon.letter ∷ (from + 18) ∷ n ∷ []) → after ≡ sets list at (six_of from t)
six_put list at from t p e n g after k = rw (← e, ← g) k

-- ---- six numbers

pub six_there : (list six after : List ℕ) (at n : ℕ) → length six ≡ 6 → n ≡ 6 → at + 6 ≤ length list → after ≡ six → put_mid at n list after ≡ sets list at six
six_there list six after at n long k h e =
    let z : sets list at six ≡ take at list ++ six ++ drop (at + 6) list = rw long at (sets-eq six list at (omega (arith, long))) in
    rw (e, k, drop-drop 6 at list) (sym (z ∙ append_assoc (take at list) six (drop (at + 6) list)))

-- ---- the points

pub points_few : (n at : ℕ) (k : Lines) → length (points_from n at k) ≤ n * 6
unfolding points_from
points_few zero at k = omega arith
points_few (suc n) at end = omega arith
points_few (suc n) at (broken j) = omega arith
points_few (suc n) at (line t ls) = omega (arith, length-append (six_of at t) (points_from n (at + length t + 2) ls), points_few n (at + length t + 2) ls)

-- none are left where no line is ended
broken_none : (n at : ℕ) (k : Lines) (e : ℕ) → ended.Broken e ≡ ended_at at k → points_from n at k ≡ []
unfolding ended_at points_from
broken_none zero at k e q = refl
broken_none (suc n) at end e q = refl
broken_none (suc n) at (broken j) e q = refl
broken_none (suc n) at (line t ls) e q = let z : ◌≡◌ {A = ℕ} 0 1 = cc in absurd (omega arith)

-- what is left to be put from the line here on gives the whole list
pub record Filling (f : List ℕ) (from n : ℕ) (list₀ list : List ℕ) (at i : ℕ) : Type 0 where
  pub long : length list ≡ length list₀
  pub few : i ≤ n
  pub is : sets list (i * 6) (points_from (n - i) at (lines_of (drop at f))) ≡ sets list₀ 0 (points_from n from (lines_of (drop from f)))

pub filling_first : (f : List ℕ) (from n : ℕ) (list : List ℕ) → Filling f from n list list from 0
filling_first f from n list = let m : n - 0 ≡ n = omega arith in record { long = refl; few = omega arith; is = rw m }

module _ (f : List ℕ) (from n : ℕ) (list₀ list : List ℕ) (at i : ℕ) (w : Filling f from n list₀ list at i) where
  pub filling_last : (i < n → ⊥) → list ≡ sets list₀ 0 (points_from n from (lines_of (drop from f)))
  unfolding points_from
  filling_last h = let m : n - i ≡ 0 = omega (arith, w.few) in rw m at w.is

  module _ (r : Ended) (q : r ≡ ended_at at (lines_of (drop at f))) where
    pub filling_broken : (e : ℕ) → r ≡ ended.Broken e → list ≡ sets list₀ 0 (points_from n from (lines_of (drop from f)))
    filling_broken e d = rw (broken_none (n - i) at (lines_of (drop at f)) e (sym d ∙ q)) at w.is

    module _ (e : ℕ) (d : r ≡ ended.At e) where
      pub filling_cut : cuts.Cut f at e
      filling_cut = cuts.cut f at e (sym d ∙ q)

      abbrev text : List ℕ
      text = part at e f

      pub filling_next : i < n → (after : List ℕ) → after ≡ sets list (i * 6) (six_of at text) → Filling f from n list₀ after (e + 2) (i + 1)
      unfolding points_from
      filling_next h after a =
          let m : n - i ≡ suc (n - (i + 1)) = omega arith in
          let k : at + length text ≡ e = part_long f at e filling_cut.start (omega (arith, filling_cut.fits)) in
          let p : points_from (n - i) at (lines_of (drop at f)) ≡ six_of at text ++ points_from (n - (i + 1)) (e + 2) (lines_of (drop (e + 2) f)) = rw (m, filling_cut.lines, k) in
          let s : i * 6 + 6 ≡ (i + 1) * 6 = omega arith in
          let both : sets list (i * 6) (points_from (n - i) at (lines_of (drop at f))) ≡ sets after ((i + 1) * 6) (points_from (n - (i + 1)) (e + 2) (lines_of (drop (e + 2) f)))
          = rw p (sets_append list (i * 6) (six_of at text) (points_from (n - (i + 1)) (e + 2) (lines_of (drop (e + 2) f))) ∙ rw (← a, s)) in
          record { long = ap length a ∙ length-sets list (i * 6) (six_of at text) ∙ w.long; few = omega arith; is = sym both ∙ w.is }

-- Where the head and the points of a declaration are found, of lines that the grammar has read. Assumes nothing.
use Rattle.std.specs.Prelude.{None, Some}
use Prim.Native.Nat.{ℕ, zero, suc, ◌+◌, ◌-◌, ◌*◌, ◌≤◌, ◌<◌}
use Prim.Native.Char.{code}
use mathlib.Core.Bool.{cond}
use mathlib.Core.List.{List, [], ◌∷◌, ◌++◌}
use mathlib.Core.Path.{◌≡◌, refl, sym, ap, ap₂, ◌∙◌}
use native.Mathlib.Omega.{arith}
use borrow.Author.Tests.{eq-eqb, ne_eqb, eqb-true}
use lib.Dec.{eqb}
use lib.ListN.{length, get_or, take, drop, length-append}
use lib.Seq.{drop-drop, take-append_seam, get_or-append-add}
use Rattle.rules.specs.Choice.{part, Each}
use Rattle.rules.specs.Reads.{head_said, point_said}
use Rattle.rules.specs.Refusals.{says}
use Rattle.rules.specs.Split.{Lines, end, broken, line, lines_of}
use Rattle.rules.specs.declared.Head.{Head}
use Rattle.rules.specs.declared.Point.{Point}
use Rattle.rules.proofs.Inverse.{refuses_says, need_inv}
use Rattle.rules_laws.proofs.Splitting.{texts_of, cut, line_at}
use Rattle.grammar.specs.Grammar.{beginning}
use Rattle.grammar.specs.Readings.{ReadsPoint, NoC, total}
use Rattle.declaration.specs.Declaration.{Placed, first_c, point_in, six_of, points_from}
use Rattle.claims_declaration.specs.Demanded.{TellsPoint, TellsPointAt}

-- ---- lines that begin with C

pub head_letter : (l : List ℕ) (h : Head) → head_said l ≡ says h → get_or l 0 0 ≡ code "C"
unfolding head_said
head_letter l h e = eqb-true _ _ (need_inv (eqb (get_or l 0 0) (code "C")) _ (says h) _ refuses_says e).0

pub point_letter : (l : List ℕ) (p : Point) → point_said l ≡ says p → get_or l 0 0 ≡ code "C"
unfolding point_said
point_letter l p e = eqb-true _ _ (need_inv (eqb (get_or l 0 0) (code "C")) _ (says p) _ refuses_says e).0

pub points_begin : (ls : List (List ℕ)) → Each ReadsPoint ls → Each (λ l. get_or l 0 0 ≡ code "C") ls
points_begin [] h = tt
points_begin (l ∷ ls) h = (point_letter l _ h.0.reads, points_begin ls h.1)

pub beginning_none : (ls : List (List ℕ)) → Each NoC ls → beginning (code "C") ls ≡ 0
unfolding beginning
beginning_none [] h = refl
beginning_none (l ∷ ls) h = rw (ne_eqb (get_or l 0 0) (code "C") h.0) (omega (arith, beginning_none ls h.1))

pub beginning_points : (ls : List (List ℕ)) → Each ReadsPoint ls → beginning (code "C") ls ≡ length ls
unfolding beginning
beginning_points [] h = refl
beginning_points (l ∷ ls) h = rw (eq-eqb (get_or l 0 0) (code "C") (point_letter l _ h.0.reads)) (omega (arith, beginning_points ls h.1))

pub beginning_join : (x : ℕ) (ls ks : List (List ℕ)) → beginning x (ls ++ ks) ≡ beginning x ls + beginning x ks
unfolding beginning
beginning_join x [] ks = omega arith
beginning_join x (l ∷ ls) ks = omega (arith, beginning_join x ls ks)

pub none_found : (k : Lines) (n at : ℕ) → Each NoC (texts_of k) → first_c n at k ≡ None
unfolding first_c
none_found end n at h = refl
none_found (broken j) n at h = refl
none_found (line t ls) n at h = rw (ne_eqb (get_or t 0 0) (code "C") h.0) (none_found ls (n + 1) (at + length t + 2) h.1)

-- ---- the text behind the fields of a line

seam : (n : ℕ) (t r : List ℕ) → n ≤ length t → take (length t - n) (drop n (t ++ r)) ≡ drop n t
seam zero t r h = let m : length t - 0 ≡ length t = omega arith in rw m (take-append_seam t r)
seam (suc n) [] r h = absurd (omega arith)
seam (suc n) (x ∷ t) r h = let m : length (x ∷ t) - suc n ≡ length t - n = omega arith in rw m (seam n t r (omega arith))

pub text_behind_lem : (file : List ℕ) (at n : ℕ) (t : List ℕ) (ls : Lines) → lines_of (drop at file) ≡ line t ls → n ≤ length t → part (at + n) (at + n + (length t - n)) file ≡ drop n t
text_behind_lem file at n t ls q h =
    let c = cut (drop at file) t ls q in
    let m : at + n + (length t - n) - (at + n) ≡ length t - n = omega arith in
    rw (m, ← drop-drop n at file, c.bytes) (seam n t (13 ∷ 10 ∷ c.rest) h)

-- ---- the head

-- the first C line, behind these lines, and the lines behind it
pub record Headed (file : List ℕ) (k : Lines) (n at : ℕ) (before : List (List ℕ)) (head : List ℕ) (rest : List (List ℕ)) : Type 0 where
  pub later : Lines
  pub found : first_c n at k ≡ Some (record { lines = n + length before; at = at + total before; text = head; later = later })
  pub rests : texts_of later ≡ rest
  pub here : lines_of (drop (at + total before) file) ≡ line head later

pub head_found : (file : List ℕ) (k : Lines) (n at : ℕ) → lines_of (drop at file) ≡ k → (before : List (List ℕ)) (head : List ℕ) (rest : List (List ℕ)) → texts_of k ≡ before ++ (head ∷ rest)
    → Each NoC before → get_or head 0 0 ≡ code "C" → Headed file k n at before head rest
unfolding first_c total
head_found file end n at q before head rest e c h = absurd (omega (arith, ap length e, length-append before (head ∷ rest)))
head_found file (broken j) n at q before head rest e c h = absurd (omega (arith, ap length e, length-append before (head ∷ rest)))
head_found file (line t ls) n at q [] head rest e c h =
    let x : t ≡ head = cc in
    let y : texts_of ls ≡ rest = cc in
    let m : n + 0 ≡ n = omega arith in
    let p : at + 0 ≡ at = omega arith in
    record {
      later = ls;
      found = rw (m, p, ← x, eq-eqb (get_or t 0 0) (code "C") (ap (λ (l : List ℕ). get_or l 0 0) x ∙ h));
      rests = y;
      here = rw (p, ← x) q;
    }
head_found file (line t ls) n at q (b ∷ before) head rest e c h =
    let x : t ≡ b = cc in
    let y : texts_of ls ≡ before ++ (head ∷ rest) = cc in
    let r = head_found file ls (n + 1) (at + length t + 2) (line_at file at t ls q).after before head rest y c.1 h in
    let m : n + 1 + length before ≡ n + suc (length before) = omega arith in
    let long : length t ≡ length b = ap length x in
    let p : at + length t + 2 + total before ≡ at + (length b + 2 + total before) = omega (arith, long) in
    record {
      later = r.later;
      found = rw (ne_eqb (get_or t 0 0) (code "C") (λ z. c.0 (ap (λ (l : List ℕ). get_or l 0 0) (sym x) ∙ z))) (rw (m, p) at r.found);
      rests = r.rests;
      here = rw p at r.here;
    }

-- ---- the points

-- the point of the first line
first_told : (file : List ℕ) (at : ℕ) (t : List ℕ) (ls : Lines) → lines_of (drop at file) ≡ line t ls → ReadsPoint t
    → TellsPoint file at t (point_in t).lat.count (point_in t).lat.letter (point_in t).lon.count (point_in t).lon.letter (at + 18) (length t - 18)
first_told file at t ls q r = record {
  point = r.is.point;
  reads = r.reads;
  latitudes = rw r.reads;
  norths = rw r.reads;
  longitudes = rw r.reads;
  easts = rw r.reads;
  place = refl;
  wide = refl;
  text = text_behind_lem file at 18 t ls q r.is.shape.long;
}

-- six numbers are passed
six_past : (at : ℕ) (t ys : List ℕ) (m n : ℕ) → n ≡ 6 + m → get_or (six_of at t ++ ys) n 0 ≡ get_or ys m 0
six_past at t ys m n e = rw e (get_or-append-add (six_of at t) ys m 0)

pub point_found : (file : List ℕ) (k : Lines) (at : ℕ) → lines_of (drop at file) ≡ k → (points later : List (List ℕ)) → texts_of k ≡ points ++ later → Each ReadsPoint points → (rest : List ℕ) (i : ℕ) → i < length points
    → TellsPointAt file (at + total (take i points)) (get_or points i []) (points_from (length points) at k ++ rest) i
unfolding points_from total
point_found file k at q [] later e r rest i h = absurd (omega arith)
point_found file end at q (p ∷ ps) later e r rest i h = let z : ◌≡◌ {A = ℕ} 0 (suc (length (ps ++ later))) = ap length e in absurd (omega arith)
point_found file (broken j) at q (p ∷ ps) later e r rest i h = let z : ◌≡◌ {A = ℕ} 0 (suc (length (ps ++ later))) = ap length e in absurd (omega arith)
point_found file (line t ls) at q (p ∷ ps) later e r rest zero h =
    let x : t ≡ p = cc in
    let m : at + 0 ≡ at = omega arith in
    rw (m, ← x) (first_told file at t ls q (rw (← x) at r.0))
point_found file (line t ls) at q (p ∷ ps) later e r rest (suc i) h =
    let x : t ≡ p = cc in
    let y : texts_of ls ≡ ps ++ later = cc in
    let w = point_found file ls (at + length t + 2) (line_at file at t ls q).after ps later y r.1 rest i (omega arith) in
    let l : at + length t + 2 + total (take i ps) ≡ at + (length p + 2 + total (take i ps)) = rw (← x) (omega arith) in
    let ys = points_from (length ps) (at + length t + 2) ls ++ rest in
    let a = six_past at t ys (i * 6) (suc i * 6) (omega arith) in
    let b = six_past at t ys (i * 6 + 1) (suc i * 6 + 1) (omega arith) in
    let c = six_past at t ys (i * 6 + 2) (suc i * 6 + 2) (omega arith) in
    let d = six_past at t ys (i * 6 + 3) (suc i * 6 + 3) (omega arith) in
    let f = six_past at t ys (i * 6 + 4) (suc i * 6 + 4) (omega arith) in
    let g = six_past at t ys (i * 6 + 5) (suc i * 6 + 5) (omega arith) in
    record {
      point = w.point;
      reads = w.reads;
      latitudes = a ∙ w.latitudes;
      norths = b ∙ w.norths;
      longitudes = c ∙ w.longitudes;
      easts = d ∙ w.easts;
      place = f ∙ w.place ∙ ap (λ (n : ℕ). n + 18) l;
      wide = g ∙ w.wide;
      text = ap₂ (λ (m n : ℕ). part m (m + n) file) f g ∙ w.text;
    }

-- six numbers for each
pub points_long : (points : List (List ℕ)) (k : Lines) (at : ℕ) (later : List (List ℕ)) → texts_of k ≡ points ++ later → length (points_from (length points) at k) ≡ length points * 6
unfolding points_from
points_long [] k at later e = refl
points_long (p ∷ ps) end at later e = let z : ◌≡◌ {A = ℕ} 0 (suc (length (ps ++ later))) = ap length e in absurd (omega arith)
points_long (p ∷ ps) (broken j) at later e = let z : ◌≡◌ {A = ℕ} 0 (suc (length (ps ++ later))) = ap length e in absurd (omega arith)
points_long (p ∷ ps) (line t ls) at later e =
    let y : texts_of ls ≡ ps ++ later = cc in
    omega (arith, length-append (six_of at t) (points_from (length ps) (at + length t + 2) ls), points_long ps ls (at + length t + 2) later y)

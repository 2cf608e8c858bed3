-- The two ways to the line of a record: by its number in a table that the check filled, and by stepping from line to line. Assumes nothing.
use Rattle.std.specs.Prelude.{Some}
use Prim.Native.Nat.{ℕ, suc, ◌+◌, ◌-◌}
use mathlib.Core.List.{List, [], ◌∷◌, ◌++◌}
use mathlib.Core.Path.{◌≡◌, ap, subst, ◌∙◌}
use native.Mathlib.Omega.{arith}
use lib.ListN.{length, get_or, length-append}
use lib.Seq.{get_or-append_seam}
use Rattle.rules.specs.Files.{verdict, good_lines, table_after}
use Rattle.rules.specs.Refusals.{says}
use Rattle.rules.specs.declared.Bounds.{Bounds}
use Rattle.rules.specs.Split.{Lines, end, broken, line, lines_of, bounds_of, line_text}
use Rattle.rules.specs.declared.Flight.{Flight}
use Rattle.rules.specs.declared.Seal.{Seal}
use Rattle.rules_laws.proofs.Counted.{line_by_number, lines_counted}
use Rattle.rules_laws.proofs.Splitting.{texts_of, Steps, steps}
use Rattle.claims_track.specs.Mapped.{Reached, first, further}

-- ---- by the table

pub by_table : (seal : Seal) (file table : List ℕ) (f : Flight) → verdict seal file (Some (length table)) ≡ says f
    → (before : List (List ℕ)) (l : List ℕ) (after : List (List ℕ)) → texts_of (lines_of file) ≡ before ++ (l ∷ after)
    → line_text file (bounds_of file (table_after seal file table) (length before + 1)) ≡ l
unfolding good_lines
by_table seal file table f e before l after o =
    let n : f.lines ≡ length before + suc (length after) = lines_counted seal file (Some (length table)) f e ∙ ap length o ∙ length-append before (l ∷ after) in
    let back : length before + 1 - 1 ≡ length before = omega arith in
    (line_by_number seal file table (length before + 1) (omega arith) (rw e (omega (arith, n)))).bytes
    ∙ rw back (ap (λ (ls : List (List ℕ)). get_or ls (length before) []) o)
    ∙ get_or-append_seam before l after []

-- ---- by stepping

step_to : (file : List ℕ) (k : Lines) (at : ℕ) → Steps file at k → (before : List (List ℕ)) (l : List ℕ) (after : List (List ℕ)) → texts_of k ≡ before ++ (l ∷ after)
    → Reached file at (length before + 1) l
step_to file end at s [] l after o = let z : ◌≡◌ {A = ℕ} 0 1 = cc in absurd (omega arith)
step_to file end at s (x ∷ before) l after o = let z : ◌≡◌ {A = ℕ} 0 1 = cc in absurd (omega arith)
step_to file (broken n) at s [] l after o = let z : ◌≡◌ {A = ℕ} 0 1 = cc in absurd (omega arith)
step_to file (broken n) at s (x ∷ before) l after o = let z : ◌≡◌ {A = ℕ} 0 1 = cc in absurd (omega arith)
step_to file (line t ls) at s [] l after o =
    let e : t ≡ l = cc in
    let b : Bounds = record { from = at; to = at + length t } in
    subst (Reached file at 1) (s.1 ∙ e) (first b s.0)
step_to file (line t ls) at s (x ∷ before) l after o =
    let e : texts_of ls ≡ before ++ (l ∷ after) = cc in
    let n : length before + 1 + 1 ≡ suc (length before) + 1 = omega arith in
    subst (λ (m : ℕ). Reached file at m l) n (further (record { from = at; to = at + length t }) s.0 (step_to file ls (at + length t + 2) s.2 before l after e))

pub by_steps : (file : List ℕ) (before : List (List ℕ)) (l : List ℕ) (after : List (List ℕ)) → texts_of (lines_of file) ≡ before ++ (l ∷ after) → Reached file 0 (length before + 1) l
by_steps file before l after o = step_to file (lines_of file) 0 (steps file) before l after o

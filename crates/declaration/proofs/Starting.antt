-- The search for the first C line, line by line: the line here is one, or the lines behind it decide. Assumes nothing.
use Rattle.std.specs.Prelude.{None, Some}
use Prim.Native.Nat.{ℕ, ◌+◌, ◌-◌, ◌≤◌, ◌<◌}
use Prim.Native.Char.{code}
use mathlib.Core.List.{List}
use mathlib.Core.Path.{◌≡◌, refl, sym, ap, ◌∙◌}
use native.Mathlib.Omega.{arith}
use borrow.Author.Tests.{eq-eqb, ne_eqb}
use lib.ListN.{length, get_or, drop, length-drop, length-take, drop_of_length-le}
use Rattle.rules.specs.Choice.{part}
use Rattle.rules.specs.Split.{Lines, end, broken, line, lines_of}
use Rattle.file_lines.specs.Ends.{ended_at}
use Rattle.file_lines.specs.declared.scan.Ended.{Ended}
use Rattle.file_lines.specs.declared.scan.Ended.TheVariants as ended
use Rattle.file_lines.proofs.Cuts as cuts
use Rattle.declaration.specs.Declaration.{first_c}
use Rattle.declaration.specs.Starts.{Lies}

-- no line is left where none is ended
pub broken_none : (k : Lines) (n at e : ℕ) → ended.Broken e ≡ ended_at at k → first_c n at k ≡ None
unfolding ended_at first_c
broken_none end n at e q = refl
broken_none (broken j) n at e q = refl
broken_none (line t ls) n at e q = let z : ◌≡◌ {A = ℕ} 0 1 = cc in absurd (omega arith)

-- how long the line is that ends at e
pub part_long : (f : List ℕ) (at e : ℕ) → at ≤ e → e ≤ length f → at + length (part at e f) ≡ e
part_long f at e h k = rw (length-take (e - at) (drop at f), length-drop at f) (omega arith)

-- what is left to be looked at from here on decides
pub record Seeking (f : List ℕ) (lines at : ℕ) : Type 0 where
  pub few : lines ≤ at
  pub is : first_c 0 0 (lines_of f) ≡ first_c lines at (lines_of (drop at f))

pub seeking_first : (f : List ℕ) → Seeking f 0 0
seeking_first f = record { few = omega arith; is = refl }

module _ (f : List ℕ) (lines at : ℕ) (w : Seeking f lines at) where
  pub seeking_last : length f ≤ at → first_c 0 0 (lines_of f) ≡ None
  unfolding lines_of first_c
  seeking_last h = w.is ∙ rw (drop_of_length-le f h)

  pub seeking_broken : (r : Ended) → r ≡ ended_at at (lines_of (drop at f)) → (e : ℕ) → r ≡ ended.Broken e → first_c 0 0 (lines_of f) ≡ None
  seeking_broken r q e d = w.is ∙ broken_none (lines_of (drop at f)) lines at e (sym d ∙ q)

  module _ (r : Ended) (q : r ≡ ended_at at (lines_of (drop at f))) (e : ℕ) (d : r ≡ ended.At e) where
    pub seeking_cut : cuts.Cut f at e
    seeking_cut = cuts.cut f at e (sym d ∙ q)

    long : at + length (part at e f) ≡ e
    long = part_long f at e seeking_cut.start (omega (arith, seeking_cut.fits))

    pub seeking_found : (b : ℕ) → b ≡ get_or (part at e f) 0 0 → b ≡ code "C" → Lies f (record { lines = lines; at = at; end = e })
    unfolding first_c
    seeking_found b g h = record {
      ordered = seeking_cut.start;
      inside = seeking_cut.fits;
      few = w.few;
      long = long;
      is = w.is ∙ rw (seeking_cut.lines, eq-eqb (get_or (part at e f) 0 0) (code "C") (sym g ∙ h));
    }

    pub seeking_next : (b : ℕ) → b ≡ get_or (part at e f) 0 0 → (b ≡ code "C" → ⊥) → Seeking f (lines + 1) (e + 2)
    unfolding first_c
    seeking_next b g h = record {
      few = omega (arith, w.few, seeking_cut.start);
      is = w.is ∙ rw (seeking_cut.lines, ne_eqb (get_or (part at e f) 0 0) (code "C") (λ z. h (g ∙ z)), long);
    }

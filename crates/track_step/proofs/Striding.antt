-- A B line that stands just at the place is what a step comes to. Assumes nothing.
use Prim.Native.Nat.{ℕ, ◌+◌}
use mathlib.Core.Bool.{true}
use mathlib.Core.List.{List}
use mathlib.Core.Path.{◌≡◌, refl, sym}
use native.Mathlib.Omega.{arith}
use borrow.Author.Tests.{le-leb}
use lib.ListN.{length}
use Rattle.rules.specs.Choice.{part}
use Rattle.rules.specs.Lines.{fix_fields}
use Rattle.track_rules.specs.declared.FixStep.{FixStep}
use Rattle.track_rules.specs.declared.Progress.{Progress}
use Rattle.track_step.specs.Steps.{passed_as, step_of, Spare, AtFix}
use Rattle.track_step.proofs.Going.{going_first, going_fix}
use Rattle.track_step.proofs.Laws.{few_is, read_so, step_read}

module _ (file : List ℕ) (p : Progress) (a : AtFix file p) where
  pub stride_spare : Spare p
  stride_spare = let f = few_is (length file) p a.few in record { lines = omega (arith, f.lines); day = omega (arith, f.day) }

  pub stride_so : (x : FixStep) → x ≡ passed_as (part p.at (p.at + p.size) file) p (p.at + p.size + 2) (fix_fields (part p.at (p.at + p.size) file)) → x ≡ step_of file p
  stride_so x h =
      step_read file p true x (sym a.few) refl p (going_fix file p p (going_first file p (few_is (length file) p a.few)) a.letter)
      (read_so file p true x (sym (le-leb (p.at + p.size + 2) (length file) a.room)) refl a.letter h)

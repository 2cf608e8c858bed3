-- `layout_entry::is_among` meets its contract: the codes from i on decide as all do. Assumes nothing.
use Prim.Native.Nat.{ℕ}
use mathlib.Core.Bool.{true, false}
use mathlib.Core.Path.{◌≡◌}
use lib.Dec.{eqb}
use lib.ListN.{drop, take}
use Rattle.rules.specs.Choice.{given, first_of}
use Rattle.layout_entry.specs.Parts.{is_among}
use Rattle.layout_entry.proofs.is_among.Given as goal

abbrev pub invariant-loop-i : goal.invariant-loop-i
invariant-loop-i l = given (first_of (λ (y : ℕ). eqb y l.code) (λ (k : ℕ) (y : ℕ). k) (drop l.i (take l.n l.codes)) l.i) false (λ k. true) ≡ is_among l.codes l.n l.code

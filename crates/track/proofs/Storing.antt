-- Records stored one after the other: what is still to be stored, after one turn and in the end. Assumes nothing.
use Prim.Native.Nat.{ℕ, zero, suc, ◌+◌, ◌<◌}
use mathlib.Core.List.{List, ◌++◌, append_assoc}
use mathlib.Core.Path.{◌≡◌, sym, ◌∙◌}
use native.Mathlib.Nat.{add-zero}
use native.Mathlib.Numerals.{add-one}
use native.Mathlib.Omega.{arith}
use lib.ListN.{length, set, take, drop, take-append-drop}
use lib.Seq.{drop-set-lt, take-suc-set}
use Rattle.track_rules.specs.declared.FixStep.{FixStep}
use Rattle.track_rules.specs.declared.Progress.{Progress}
use Rattle.track_rules.specs.declared.Record.{Record}
use Rattle.track_rules.specs.Stored.{fixes_from}

-- what the list will be: t fixes from the progress c on go to place i on
abbrev pub Will : (Progress → FixStep) → Progress → ℕ → ℕ → List Record → List Record
Will g c i t cur = take i cur ++ (fixes_from g c t ++ drop (i + t) cur)

-- one turn keeps that
pub turned : (g : Progress → FixStep) (c : Progress) (i t n : ℕ) (cur goal : List Record) → i + t ≡ n → i < n → i < length cur → Will g c i t cur ≡ goal
    → (u : ℕ) × ((u < t) × ((i + 1 + u ≡ n) × (Will g (g c).next (i + 1) u (set cur i (g c).found) ≡ goal)))
unfolding fixes_from
turned g c i zero n cur goal sum less in_cur e = absurd (omega arith)
turned g c i (suc u) n cur goal sum less in_cur e = (
  u,
  (
    omega arith,
    (
      omega arith,
      let past : i < i + 1 + u = omega arith in
          let same : i + 1 + u ≡ i + suc u = omega arith in
          rw (drop-set-lt (i + 1 + u) cur i (g c).found past, same, add-one, take-suc-set, append_assoc) e,
    ),
  ),
)

-- and the end of it
pub stored_all : (g : Progress → FixStep) (c : Progress) (i t n : ℕ) (cur goal : List Record) → i + t ≡ n → (i < n → ⊥) → Will g c i t cur ≡ goal → cur ≡ goal
unfolding fixes_from
stored_all g c i zero n cur goal sum more e = sym (take-append-drop i cur) ∙ rw add-zero at e
stored_all g c i (suc u) n cur goal sum more e = absurd (more (omega arith))

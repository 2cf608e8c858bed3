-- `line_kind::kind_of` meets its contract. Assumes nothing.
use Prim.Native.Nat.{ℕ, ◌<◌}
use mathlib.Core.Bool.{cond}
use mathlib.Core.Path.{◌≡◌, sym, ◌∙◌}
use native.Mathlib.Omega.{arith}
use borrow.Author.Tests.{ne_eqb, lt-ltb, le-ltb, le-leb, lt-leb}
use lib.Dec.{ltb, leb}
use Rattle.rules.specs.Lines.{kind_of}
use Rattle.rules.specs.declared.Kind.TheVariants as kind
use Rattle.line_kind.proofs.kind_of.Goals as goal

-- the byte is none of A to N
abbrev Rest : ℕ → Type 0
Rest b =
    (((((((((((((Unit {0} × (b ≡ 65 → ⊥)) × (b ≡ 66 → ⊥)) × (b ≡ 67 → ⊥)) × (b ≡ 68 → ⊥)) × (b ≡ 69 → ⊥)) × (b ≡ 70 → ⊥)) × (b ≡ 71 → ⊥)) × (b ≡ 72 → ⊥)) × (b ≡ 73 → ⊥)) × (b ≡ 74 → ⊥)) × (b ≡ 75 → ⊥)) × (b ≡ 76 → ⊥)) × (b ≡ 77 → ⊥)) × (b ≡ 78 → ⊥)

rest : (b : ℕ) → Rest b → kind_of b ≡ cond (ltb b 65) kind.NoKind (cond (leb b 90) kind.Other kind.NoKind)
unfolding kind_of
rest b r =
    simp (
      ne_eqb _ _ r.0.0.0.0.0.0.0.0.0.0.0.0.0.1,
      ne_eqb _ _ r.0.0.0.0.0.0.0.0.0.0.0.0.1,
      ne_eqb _ _ r.0.0.0.0.0.0.0.0.0.0.0.1,
      ne_eqb _ _ r.0.0.0.0.0.0.0.0.0.0.1,
      ne_eqb _ _ r.0.0.0.0.0.0.0.0.0.1,
      ne_eqb _ _ r.0.0.0.0.0.0.0.0.1,
      ne_eqb _ _ r.0.0.0.0.0.0.0.1,
      ne_eqb _ _ r.0.0.0.0.0.0.1,
      ne_eqb _ _ r.0.0.0.0.0.1,
      ne_eqb _ _ r.0.0.0.0.1,
      ne_eqb _ _ r.0.0.0.1,
      ne_eqb _ _ r.0.0.1,
      ne_eqb _ _ r.0.1,
      ne_eqb _ _ r.1,
    )

pub returns-in-65 : goal.returns-in-65
unfolding kind_of
returns-in-65 c = rw c.in-65.is

pub returns-in-66 : goal.returns-in-66
unfolding kind_of
returns-in-66 c = rw c.in-66.is

pub returns-in-67 : goal.returns-in-67
unfolding kind_of
returns-in-67 c = rw c.in-67.is

pub returns-in-68 : goal.returns-in-68
unfolding kind_of
returns-in-68 c = rw c.in-68.is

pub returns-in-69 : goal.returns-in-69
unfolding kind_of
returns-in-69 c = rw c.in-69.is

pub returns-in-70 : goal.returns-in-70
unfolding kind_of
returns-in-70 c = rw c.in-70.is

pub returns-in-71 : goal.returns-in-71
unfolding kind_of
returns-in-71 c = rw c.in-71.is

pub returns-in-72 : goal.returns-in-72
unfolding kind_of
returns-in-72 c = rw c.in-72.is

pub returns-in-73 : goal.returns-in-73
unfolding kind_of
returns-in-73 c = rw c.in-73.is

pub returns-in-74 : goal.returns-in-74
unfolding kind_of
returns-in-74 c = rw c.in-74.is

pub returns-in-75 : goal.returns-in-75
unfolding kind_of
returns-in-75 c = rw c.in-75.is

pub returns-in-76 : goal.returns-in-76
unfolding kind_of
returns-in-76 c = rw c.in-76.is

pub returns-in-77 : goal.returns-in-77
unfolding kind_of
returns-in-77 c = rw c.in-77.is

pub returns-in-78 : goal.returns-in-78
unfolding kind_of
returns-in-78 c = rw c.in-78.is

pub returns-in-79-to-90 : goal.returns-in-79-to-90
unfolding kind_of
returns-in-79-to-90 c =
    let l : c.args.b < 91 = c.in-79-to-90.if-b-lt91-own.true in
    sym (rest c.args.b c.in-79-to-90.in_default-own.rest ∙ simp (le-ltb _ _ c.in-79-to-90.if-b-lt65-own.false, le-leb c.args.b 90 (omega arith)))

pub returns-in_default : goal.returns-in_default
unfolding kind_of
returns-in_default c = sym (rest _ c.in_default.in_default-own.rest ∙ simp (lt-ltb _ _ c.in_default.if-b-lt65-own.true))

pub returns-in_default-2 : goal.returns-in_default-2
unfolding kind_of
returns-in_default-2 c = sym (rest _ c.in_default.in_default-own.rest ∙ simp (le-ltb _ _ c.in_default.if-b-lt65-own.false, lt-leb c.args.b 90 c.in_default.if-b-lt91-own.false))

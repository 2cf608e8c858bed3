-- `text_twelve::natural_at` meets its contract. Assumes nothing.
use mathlib.Core.Path.{◌≡◌, sym, ap, ◌∙◌, subst}
use native.Mathlib.Nat.{lt_of_le_of_lt}
use borrow.Author.Rules.{rules}
use lib.Dec.{T, lit<}
use lib.IntN.{ℤ, pos, nat_abs}
use lib.Signed.{non_neg, le_z, nat_abs-le}
use mir.Syntax.{w32}
use mir.Val.{to_z, of_z}
use mir.ValLaws.{to_z-of_z}
use Rattle.rules.specs.declared.Height.{Height}
use Rattle.text_twelve.specs.Twelve.{number}
use Rattle.rules_values.proofs.Laws.{zero_below}
use Rattle.text_twelve.proofs.Laws.{natural_up, natural_down}
use Rattle.text_twelve.proofs.natural_at.Goals as goal

pub overflow_cast-result : goal.overflow_cast-result
overflow_cast-result c =
    let z = c.number_at-z.result.metres in
    let b = to_z-of_z w32 z (record { sfits = c.struct_told-1.given.0.1 }) in
    let e = sym (zero_below z) ∙ ap (le_z (pos 0)) (sym b) ∙ c.if-z-ge0.true in
    rw b (subst T (sym e) tt, record { fits = lt_of_le_of_lt (nat_abs-le z c.struct_told-1.given.0.1) (lit< tt) })

pub returns-then-z-ge0 : goal.returns-then-z-ge0
returns-then-z-ge0 c = ap nat_abs (let back : to_z w32 (of_z w32 c.number_at-z.result.metres) ≡ (number c.args.list.now c.args.i) = to_z-of_z w32 c.number_at-z.result.metres (record { sfits = c.struct_told-1.given.0.1 }) ∙ ap (λ (h : Height). h.metres) c.number_at-z.ensures in back) ∙ natural_up (number c.args.list.now c.args.i) (sym (let signed : le_z (pos 0) (to_z w32 (of_z w32 c.number_at-z.result.metres)) ≡ non_neg (number c.args.list.now c.args.i) = ap (le_z (pos 0)) (let back : to_z w32 (of_z w32 c.number_at-z.result.metres) ≡ (number c.args.list.now c.args.i) = to_z-of_z w32 c.number_at-z.result.metres (record { sfits = c.struct_told-1.given.0.1 }) ∙ ap (λ (h : Height). h.metres) c.number_at-z.ensures in back) ∙ zero_below (number c.args.list.now c.args.i) in signed) ∙ c.if-z-ge0.true)

pub returns : goal.returns
returns c = natural_down (number c.args.list.now c.args.i) (sym (let signed : le_z (pos 0) (to_z w32 (of_z w32 c.number_at-z.result.metres)) ≡ non_neg (number c.args.list.now c.args.i) = ap (le_z (pos 0)) (let back : to_z w32 (of_z w32 c.number_at-z.result.metres) ≡ (number c.args.list.now c.args.i) = to_z-of_z w32 c.number_at-z.result.metres (record { sfits = c.struct_told-1.given.0.1 }) ∙ ap (λ (h : Height). h.metres) c.number_at-z.ensures in back) ∙ zero_below (number c.args.list.now c.args.i) in signed) ∙ c.if-z-ge0.false)

-- `write_legend::layout` meets its contract. Assumes nothing.
use Prim.Native.Nat.{◌≤◌}
use mathlib.Core.Path.{◌≡◌, refl, sym, ◌∙◌}
use native.Mathlib.Omega.{arith}
use borrow.Author.Tests.{ltb-true, ltb-false, not-false}
use lib.ListN.{length}
use Rattle.write_legend.proofs.layout.Goals.{then-out-place-via-then-out-place, then-out-place-via-else-out-place+then-out-place-2}
use Rattle.layout_coded.proofs.Turns.{unmapped}
use Rattle.write_legend.specs.Spelling.{Spellable}
use Rattle.write_ending.proofs.Laws.{bad, short, done}
use Rattle.write_legend.proofs.Entries.{spells, layout_length}
use Rattle.write_legend.proofs.layout.Goals as goal

pub returns-then-not-allowed : goal.returns-then-not-allowed
returns-then-not-allowed c = bad _ _ _ _ _ _ _ refl c.allowed.ensures _ c.if-not-allowed.true-raw c.refused.ensures refl

pub returns-then-out-place : goal.returns-then-out-place
returns-then-out-place c =
    let n = layout_length _ c.args.l (let counted : c.args.l.count ≤ length c.args.l.entries = let long : length c.args.l.entries ≡ 13 = search unmapped in omega (arith, long, (let spelt : Spellable c.args.l = spells _ _ (sym c.allowed.ensures ∙ not-false _ c.if-not-allowed.false-raw) in spelt).few) in counted) in
    elim c.then-out-place.branch [ then-out-place-via-then-out-place w ↦ short _ _ _ _ _ _ _ refl c.allowed.ensures c.if-not-allowed.false-raw _ n _ (omega arith) c.refused-then-out-place.ensures refl | then-out-place-via-else-out-place+then-out-place-2 w ↦ short _ _ _ _ _ _ _ refl c.allowed.ensures c.if-not-allowed.false-raw _ n _ (omega (arith, ltb-true)) c.refused-then-out-place.ensures refl ]

pub returns : goal.returns
returns c =
    done _ _ _ _ _ _ _ refl c.allowed.ensures c.if-not-allowed.false-raw _ (layout_length _ c.args.l (let counted : c.args.l.count ≤ length c.args.l.entries = let long : length c.args.l.entries ≡ 13 = search unmapped in omega (arith, long, (let spelt : Spellable c.args.l = spells _ _ (sym c.allowed.ensures ∙ not-false _ c.if-not-allowed.false-raw) in spelt).few) in counted)) _ (omega (arith, ltb-false)) refl c.fill_layout.ensures

pub overflow_mul-n : goal.overflow_mul-n
overflow_mul-n c = omega (arith, (let spelt : Spellable c.args.l = spells _ _ (sym c.allowed.ensures ∙ not-false _ c.if-not-allowed.false-raw) in spelt).few)

pub overflow_add-n : goal.overflow_add-n
overflow_add-n c = omega (arith, (let spelt : Spellable c.args.l = spells _ _ (sym c.allowed.ensures ∙ not-false _ c.if-not-allowed.false-raw) in spelt).few)

pub fill_layout-requires : goal.fill_layout-requires
fill_layout-requires c = spells _ _ (sym c.allowed.ensures ∙ not-false _ c.if-not-allowed.false-raw)

pub overflow_add-result : goal.overflow_add-result
overflow_add-result c = omega (arith, ltb-false)

-- `layout::reading::entries` meets its contract: what is left, behind the entries that are read, decides as all do from the start; and the codes are those of the entries. Assumes nothing.
use Prim.Native.Nat.{◌+◌, ◌-◌, ◌*◌, ◌≤◌}
use mathlib.Core.List.{map}
use mathlib.Core.Path.{◌≡◌, refl, sym, ◌∙◌, ap}
use native.Mathlib.Nat.{sub-zero}
use native.Mathlib.Omega.{arith}
use lib.ListN.{set, length-set}
use Rattle.rules.specs.Refusals.{says, result_told}
use Rattle.rules.specs.Layouts.{empty_layout, entries_from}
use Rattle.rules.specs.declared.Entry.{Entry}
use Rattle.rules.proofs.Handed.{handed_on}
use Rattle.layout_entry.proofs.Codes.{entry_alike, codes_set}
use Rattle.layout.proofs.Turns.{taken, ends, done, told_same, told_read}
use Rattle.layout.proofs.reading.entries.Goals as goal

pub loop-i-init : goal.loop-i-init
loop-i-init c = (refl, refl, rw sub-zero)

pub returns-in_err-e : goal.returns-in_err-e
unfolding result_told
returns-in_err-e c =
    let k = c.loop-i in
    let z = c.loop-i-test.true in
    handed_on _ _ _ c.from_residual.ensures.1 (sym (ends _ k.i _ (3 + 7 * k.i) k.start (record { count = k.i; entries = k.entries }) z _ _ _ (entry_alike k.entries k.i k.codes k.invariant.1 _ (3 + 7 * k.i) k.start ∙ sym c.entry_at.ensures ∙ ap result_told c.in_err-e.was)) ∙ k.invariant.2)

pub loop-i-preserved : goal.loop-i-preserved
unfolding result_told
loop-i-preserved c =
    let k = c.loop-i in
    let z = c.loop-i-test.true in
    let e = c.in_ok-e.e in
    let turn = taken _ k.i _ (3 + 7 * k.i) k.start (record { count = k.i; entries = k.entries }) z _
    (entry_alike k.entries k.i k.codes k.invariant.1 _ (3 + 7 * k.i) k.start ∙ sym c.entry_at.ensures ∙ ap result_told c.in_ok-e.was) in
    let next : 3 + 7 * (k.i + 1) ≡ 3 + 7 * k.i + 7 = omega arith in
    (length-set k.codes k.i e.code ∙ k.invariant.0, codes_set k.entries k.i e ∙ ap (λ l. set l k.i e.code) k.invariant.1, rw next (sym turn ∙ k.invariant.2))

pub returns : goal.returns
returns c =
    let k = c.loop-i in
    let a = c.args in
    let n : k.i ≡ a.count = omega (arith, c.loop-i-test.false) in
    told_read _ _ (sym k.invariant.2 ∙ done _ k.i _ (3 + 7 * k.i) k.start _ c.loop-i-test.false ∙ ap (λ x. says (record { count = x; entries = k.entries })) n)

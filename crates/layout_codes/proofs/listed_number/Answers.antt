-- `layout_codes::listed_number` meets its contract: the rows from i on decide as the whole table does. Assumes nothing.
use mathlib.Core.Path.{refl, sym, ◌∙◌, ap}
use borrow.Author.Rules.{rules}
use borrow.Author.Tests.{eq-eqb, ne_eqb}
use Rattle.rules.specs.Choice.{bytes}
use Rattle.rules.specs.Listed.{listed, unlisted, listed_number}
use Rattle.byte_chars.proofs.Laws.{hit, miss, past}
use Rattle.layout_codes.proofs.Rows.{row_at}
use Rattle.layout_codes.proofs.listed_number.Invariants.{same, numbered}
use Rattle.layout_codes.proofs.listed_number.Goals as goal

pub loop-i-init : goal.loop-i-init
unfolding listed_number
loop-i-init c = refl

pub returns-then-listed-code : goal.returns-then-listed-code
unfolding bytes listed
returns-then-listed-code c =
    let e = ap (λ r. r.code) (sym (row_at c.loop-i.i) ∙ sym c.listed_in-listed.ensures) ∙ c.if-listed-code.true in
    sym (hit (same _) numbered listed unlisted c.loop-i.i c.loop-i.i (search rules) (eq-eqb _ _ e)) ∙ c.loop-i.invariant

pub loop-i-preserved : goal.loop-i-preserved
unfolding bytes listed
loop-i-preserved c =
    let e = ne_eqb _ _ (λ p. c.if-listed-code.false (ap (λ r. r.code) (c.listed_in-listed.ensures ∙ row_at c.loop-i.i) ∙ p)) in
    sym (miss (same _) numbered listed unlisted c.loop-i.i c.loop-i.i (search rules) e) ∙ c.loop-i.invariant

pub returns : goal.returns
unfolding listed
returns c = sym (past (same _) numbered listed unlisted c.loop-i.i c.loop-i.i c.loop-i-test.false) ∙ c.loop-i.invariant

-- `byte_chars::first_invalid_by` meets its contract: what is left of the line decides as the whole line does. Assumes nothing.
use Rattle.std.proofs.Common.{rules, not, sym, ap, ◌∙◌}
use Rattle.rules.specs.Chars.{first_invalid}
use Rattle.byte_chars.proofs.Laws.{hit, miss, past}
use Rattle.byte_chars.proofs.first_invalid_by.Invariants.{fails, place}
use Rattle.byte_chars.proofs.first_invalid_by.Goals as goal

pub loop-i-init : goal.loop-i-init
unfolding first_invalid
loop-i-init c = search rules

pub returns-then-not-is_valid_by : goal.returns-then-not-is_valid_by
returns-then-not-is_valid_by c =
    sym (hit (fails _) place _ 0 c.loop-i.i _ c.loop-i-test.true (ap not (sym c.is_valid_by.ensures ∙ c.if-not-is_valid_by.true))) ∙ c.loop-i.invariant

pub loop-i-preserved : goal.loop-i-preserved
loop-i-preserved c =
    sym (miss (fails _) place _ 0 c.loop-i.i _ c.loop-i-test.true (ap not (sym c.is_valid_by.ensures ∙ c.if-not-is_valid_by.false))) ∙ c.loop-i.invariant

pub returns : goal.returns
returns c = sym (past (fails _) place _ 0 c.loop-i.i _ c.loop-i-test.false) ∙ c.loop-i.invariant

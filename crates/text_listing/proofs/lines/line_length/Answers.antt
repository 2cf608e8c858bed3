-- `text_listing::lines::line_length` meets its contract. Assumes nothing.
use Prim.Native.Nat.{◌-◌}
use mathlib.Core.Path.{sym, ap}
use borrow.Author.Tests.{eq-eqb, ne_eqb, ltb-false}
use lib.ListN.{get_or-eq_default}
use Rattle.rules.specs.Layouts.{line_length, unused}
use Rattle.rules.specs.declared.Entry.{Entry}
use Rattle.text_listing.proofs.lines.line_length.Goals as goal

pub returns-then-n-eq0 : goal.returns-then-n-eq0
unfolding line_length
returns-then-n-eq0 c = rw (eq-eqb _ 0 c.if-n-eq0.true)

pub returns-in-Some : goal.returns-in-Some
unfolding line_length
returns-in-Some c = rw (ne_eqb _ 0 c.if-n-eq0.false) (ap (λ (e : Entry). e.last) (c.in-Some.ensures.lookup.3.1 unused))

pub returns-in-None : goal.returns-in-None
unfolding line_length
returns-in-None c = let h = c.in-None.ensures.lookup in rw (ne_eqb _ 0 c.if-n-eq0.false, get_or-eq_default c.args.l.entries unused {n = c.args.l.count - 1} (ltb-false _ _ (sym h.0)))

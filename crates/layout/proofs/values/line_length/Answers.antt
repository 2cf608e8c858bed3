-- `layout::values::line_length` meets its contract. Assumes nothing.
use mathlib.Core.Path.{◌≡◌, sym, ap}
use borrow.Author.Tests.{eq-eqb, ne_eqb}
use lib.ListN.{length, get_or-eq_default}
use native.Mathlib.Omega.{arith}
use Rattle.rules.specs.Layouts.{unused, line_length}
use Rattle.layout_coded.proofs.Turns.{unmapped}
use Rattle.layout.proofs.values.line_length.Goals as goal

pub returns-in-B : goal.returns-in-B
unfolding line_length
returns-in-B c = rw (eq-eqb _ _ c.if-n-eq0.true, c.in-B.is)

pub returns-in-Extra : goal.returns-in-Extra
unfolding line_length
returns-in-Extra c = rw (eq-eqb _ _ c.if-n-eq0.true, c.in-Extra.is)

pub returns-then-n-gt13 : goal.returns-then-n-gt13
unfolding line_length
returns-then-n-gt13 c =
    let e : length c.args.l.entries ≡ 13 = search unmapped in
    rw (ne_eqb _ _ c.if-n-eq0.false) (sym (ap (λ r. r.last) (get_or-eq_default c.args.l.entries unused (omega arith))))

pub returns : goal.returns
unfolding line_length
returns c = rw (ne_eqb _ _ c.if-n-eq0.false)

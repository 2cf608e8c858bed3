-- `check_ahead::pace::take_columned` meets its contract: CR LF stands where the length says, and the line before it is taken where it is sure. Assumes nothing.
use Prim.Native.Nat.{◌+◌, ◌≤◌, ◌<◌}
use native.Mathlib.Omega.{arith}
use borrow.Author.Rules.{rules}
use lib.ListN.{length}
use Rattle.check_ahead.proofs.Lines.{first_is, cut_long, taken_mild}
use Rattle.check_ahead.proofs.pace.take_columned.Goals as goal

pub returns : goal.returns
returns c =
    let a = c.args in
    let f = a.file.now in
    let e = a.p.at + a.form.size in
    let room : e + 2 ≤ length f = omega (arith, c.if-left-size.false, c.if-left-lt2.false, c.requires.0) in
    let some : a.p.at < e = omega (arith, c.if-size-lt1.false) in
    λ st g k.
    taken_mild f st a.p a.form.size c.columned_line.result room (search rules) (search rules)
    (c.columned_line.ensures st g k (first_is f a.p.at e _ some c.requires.1) (cut_long f a.p.at e some (omega arith)))

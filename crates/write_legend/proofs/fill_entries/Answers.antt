-- `write_legend::fill_entries` meets its contract: what stands there after i turns are the first i entries. Assumes nothing.
use mathlib.Core.Path.{◌≡◌}
use native.Mathlib.Omega.{arith}
use lib.ListN.{length}
use Rattle.layout_coded.proofs.Turns.{unmapped}
use Rattle.write_legend.proofs.Entries.{entry_more, entries_none, entries_all}
use Rattle.write_legend.proofs.fill_entries.Goals as goal

pub loop-i-init : goal.loop-i-init
loop-i-init c = entries_none _

pub bounds-l-i : goal.bounds-l-i
bounds-l-i c = omega (arith, c.requires.few)

pub fill_entry-requires : goal.fill_entry-requires
fill_entry-requires c =
    let p = c.requires in
    (p.codes c.loop-i.i c.loop-i-test.true, omega (arith, p.few))

pub loop-i-preserved : goal.loop-i-preserved
loop-i-preserved c =
    let few = c.requires.few in
    let long : length c.args.l.entries ≡ 13 = search unmapped in
    entry_more _ _ _ c.args.l c.loop-i.i c.loop-i-test.true (omega (arith, long, few)) c.loop-i.invariant c.fill_entry.ensures

pub returns : goal.returns
returns c = entries_all _ _ c.args.l c.loop-i.i (omega arith) c.loop-i.invariant

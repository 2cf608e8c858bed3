-- `line_finer::finer_of` meets its contract: what the entries from i on tell of the three codes, which are those of the rules. Assumes nothing.
use mathlib.Core.Path.{◌≡◌, ◌∙◌, ap}
use native.Mathlib.Omega.{arith}
use lib.ListN.{length}
use Rattle.rules.specs.Choice.{bytes}
use Rattle.rules.specs.Fixes.{reach_of, finer_of}
use Rattle.layout_coded.proofs.Turns.{unmapped}
use Rattle.line_finer.proofs.Laws.{reach_from, reach_end, reach_first, reach_turn, three}
use Rattle.line_finer.proofs.finer_of.Goals as goal

pub loop-i-init : goal.loop-i-init
loop-i-init c =
    (reach_end c.args.layout _ (let long : length c.args.layout.entries ≡ 13 = search unmapped in long), reach_end c.args.layout _ (let long : length c.args.layout.entries ≡ 13 = search unmapped in long), reach_end c.args.layout _ (let long : length c.args.layout.entries ≡ 13 = search unmapped in long))

pub loop-i-preserved : goal.loop-i-preserved
loop-i-preserved c =
    let k = c.loop-i in (
      reach_turn c.args.layout _ (let long : length c.args.layout.entries ≡ 13 = search unmapped in long) k.i c.loop-i-test.true k.auto.i _ _ k.invariant.0 c.reached-time.ensures,
      reach_turn c.args.layout _ (let long : length c.args.layout.entries ≡ 13 = search unmapped in long) k.i c.loop-i-test.true k.auto.i _ _ k.invariant.1 c.reached-lat.ensures,
      reach_turn c.args.layout _ (let long : length c.args.layout.entries ≡ 13 = search unmapped in long) k.i c.loop-i-test.true k.auto.i _ _ k.invariant.2 c.reached-lon.ensures,
    )

pub returns : goal.returns
unfolding bytes finer_of
returns c =
    let k = c.loop-i in
    let l = c.args.layout in
    let z : k.i ≡ 0 = omega (arith, c.loop-i-test.false) in
    three _ _ _ _ _ _
    (k.invariant.0 ∙ ap (reach_from l _) z ∙ reach_first l _ ∙ ap (reach_of l) c.pack-tds.ensures)
    (k.invariant.1 ∙ ap (reach_from l _) z ∙ reach_first l _ ∙ ap (reach_of l) c.pack-lad.ensures)
    (k.invariant.2 ∙ ap (reach_from l _) z ∙ reach_first l _ ∙ ap (reach_of l) c.pack-lod.ensures)

-- `put_all` meets its contract: the numbers of the entries before the one in hand are stored. Assumes nothing.
use Rattle.std.proofs.Common.{◌≡◌, ◌∙◌, ◌+◌, ◌*◌, ap, length, take, arith}
use lib.ListN.{length-set}
use Rattle.rules_values.proofs.Laws.{unmapped}
use Rattle.c_answers.proofs.Laws.{all_stored}
use Rattle.c_entries.specs.Lent.{entries_size}
use Rattle.c_entries.proofs.Laws.{numbers_long, first_stored, triple_kept, three_more}
use Rattle.c_entries.proofs.put_all.Goals as goal

pub loop-i-init : goal.loop-i-init
loop-i-init c =
    let long : length c.args.es.entries ≡ 13 = search unmapped in
    (length-set c.args.list.now 0 c.args.es.count ∙ c.requires, first_stored c.args.es c.args.list.now c.requires long)

pub loop-i-preserved : goal.loop-i-preserved
loop-i-preserved c =
    let k = c.loop-i in
    let p = c.put_entry.ensures in
    let long : length c.args.es.entries ≡ 13 = search unmapped in
    (ap length p ∙ triple_kept k.list (3 * k.i + 1) _ ∙ k.invariant.0, ap (take (3 * (k.i + 1) + 1)) p ∙ three_more c.args.es k.list k.i long k.invariant.0 (omega arith) k.invariant.1)

pub returns : goal.returns
returns c =
    let k = c.loop-i in
    let long : length c.args.es.entries ≡ 13 = search unmapped in
    let z : 3 * k.i + 1 ≡ 40 = omega arith in
    all_stored k.list _ entries_size 40 (rw z at k.invariant.1) k.invariant.0 (numbers_long c.args.es long) (omega arith)

-- `notes_runs::place_of` meets its contract: by halves. Assumes nothing.
use mathlib.Core.Bool.{not}
use Rattle.std.proofs.Common.{rules, of_calls}
use Rattle.std.proofs.lemmas.Fn.{always_returns_same}
use Rattle.notes_rules.specs.Places.{earlier}
use Rattle.notes_runs.proofs.Runs.{found_all, in_two, found_by}
use Rattle.notes_runs.proofs.place_of.Goals as goal

pub returns-then-past_last : goal.returns-then-past_last
returns-then-past_last c = found_all _ _ _ _ c.requires.0 c.requires.1 (c.past_last.ensures c.if-past_last.true)

pub returns : goal.returns
returns c =
    let s = c.args.s.now in
    let x = c.args.x in
    found_by s c.args.heads.now c.args.n x _ c.requires.0 c.partition_point.ensures.bound
    (c.partition_point.ensures.partitioned (λ y. not (earlier s x y)) (always_returns_same _ _ _ (λ a r f k. search (rules, of_calls))) (in_two _ _ _ c.requires.1))

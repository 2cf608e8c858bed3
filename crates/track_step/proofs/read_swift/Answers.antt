-- `track_step::read_swift` meets its contract. Assumes nothing.
use Rattle.track_step.proofs.Laws.{read_known}
use Rattle.track_step.proofs.read_swift.Goals as goal

pub passed_plain-requires : goal.passed_plain-requires
passed_plain-requires c =
    let f = c.fields_of-f.ensures in
    (c.requires.0, c.has_finer.ensures c.if-has_finer.false, record { time = f.1; lat = f.2; lon = f.3 })

pub returns-then-has_finer : goal.returns-then-has_finer
returns-then-has_finer c = read_known _ _ _ _ _ c.fields_of-f.ensures.0 c.passed.ensures

pub returns : goal.returns
returns c = read_known _ _ _ _ _ c.fields_of-f.ensures.0 (c.passed_plain.ensures _)

-- `track_step::stride_by` meets its contract. Assumes nothing.
use Rattle.track_step.proofs.Laws.{read_known}
use Rattle.track_step.proofs.stride_by.Goals as goal

pub passed_plain-requires : goal.passed_plain-requires
passed_plain-requires c =
    let f = c.fields_of.ensures in
    (c.requires.0, c.requires.1, record { time = f.1; lat = f.2; lon = f.3 })

pub fields_of-requires : goal.fields_of-requires
fields_of-requires c = (c.requires.2, c.requires.3)

pub returns : goal.returns
returns c = read_known _ _ _ _ _ c.fields_of.ensures.0 (c.passed_plain.ensures _)

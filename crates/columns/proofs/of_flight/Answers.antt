-- `columns::of_flight` meets its contract. Assumes nothing.
use borrow.Author.Rules.{rules}
use Rattle.columns.proofs.Telling.{family_none, family_there}
use Rattle.columns.proofs.of_flight.Goals as goal

pub returns-in_default : goal.returns-in_default
returns-in_default c =
    family_none c.args.file.now c.args.codes.now c.args.list.now c.args.flight c.args.letter _ c.family.ensures _ c.in_default.is c.unplaced.ensures

pub returns : goal.returns
returns c =
    family_there c.args.file.now c.args.codes.now c.args.list.now c.args.flight c.args.letter _ c.family.ensures _ c.in-Some.is _ _ c.in_family.ensures

pub in_family-requires : goal.in_family-requires
in_family-requires c = c.requires

-- One answer at most meets the promise of this crate. Assumes nothing.
use Rattle.rules_only.proofs.Only.{Only, same}
use Rattle.notes_place.specs.Through.{BothThrough}
use Rattle.notes_place.specs.declared.Place.{Place}

pub only_both_through : (x y : Place) → Only (BothThrough x y)
only_both_through x y = same

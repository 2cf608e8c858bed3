-- Whether the runs of two slices are through, and the promise.
use Rattle.std.specs.Prelude.{Bool, ◌&&◌, ◌≡◌, leb}
use Rattle.notes_place.specs.declared.Place.{Place}

-- no note of the run is left
abbrev pub through : Place → Bool
through p = leb p.n p.i

-- of both slices
abbrev pub BothThrough : Place → Place → Bool → Type 0
BothThrough x y r = r ≡ (through x && through y)

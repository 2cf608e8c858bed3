-- No second answer meets a promise of `notes_compare`. Assumes nothing.
use Prim.Native.Nat.{ℕ}
use mathlib.Core.List.{List}
use Rattle.rules_only.proofs.Only.{Only, same}
use Rattle.notes_compare.specs.Letters.{TextsCompared, WhoseGiven, PlacesCompared, TextGoesOn}

pub only_texts_compared : (s : List ℕ) (i : ℕ) (t : List ℕ) (j : ℕ) → Only (TextsCompared s i t j)
only_texts_compared s i t j = same

pub only_whose_given : (s : List ℕ) (i : ℕ) (t : List ℕ) (j : ℕ) → Only (WhoseGiven s i t j)
only_whose_given s i t j = same

pub only_places_compared : (s : List ℕ) (i j : ℕ) → Only (PlacesCompared s i j)
only_places_compared s i j = same

pub only_text_goes_on : (s : List ℕ) (i : ℕ) → Only (TextGoesOn s i)
only_text_goes_on s i = same

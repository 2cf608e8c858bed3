-- For each promise of this crate: two answers that meet it are the same. Assumes nothing.
use Rattle.std.specs.Prelude.{Option}
use Prim.Native.Nat.{ℕ}
use mathlib.Core.Bool.{Bool}
use mathlib.Core.List.{List}
use mathlib.Core.Path.{◌≡◌, sym, ◌∙◌}
use Rattle.igc_words.specs.Words.{VerbGiven, OptionTest, NamesTest}
use Rattle.igc_words.specs.Deeds.{DeedGiven, FlightGiven}
use Rattle.igc_words.specs.declared.deeds.Deed.{Deed}
use Rattle.igc_words.specs.declared.Verb.{Verb}

pub only_verb_given : (word : List ℕ) (r r' : Option Verb) → VerbGiven word r → VerbGiven word r' → r ≡ r'
only_verb_given word r r' e e' = e ∙ sym e'

pub only_option_test : (word : List ℕ) (r r' : Bool) → OptionTest word r → OptionTest word r' → r ≡ r'
only_option_test word r r' e e' = e ∙ sym e'

pub only_names_test : (word : List ℕ) (r r' : Bool) → NamesTest word r → NamesTest word r' → r ≡ r'
only_names_test word r r' e e' = e ∙ sym e'

pub only_deed_given : (word : List ℕ) (r r' : Option Deed) → DeedGiven word r → DeedGiven word r' → r ≡ r'
only_deed_given word r r' e e' = e ∙ sym e'

pub only_flight_given : (word : List ℕ) (r r' : Option ℕ) → FlightGiven word r → FlightGiven word r' → r ≡ r'
only_flight_given word r r' e e' = e ∙ sym e'

-- The words of the program igc: which of them are verbs, which begin with a dash, and the one behind which every word is a name.
use Rattle.std.specs.Prelude.{ℕ, Bool, true, false, ◌&&◌, cond, List, [], ◌∷◌, ◌≡◌, eqb, get_or, None, Option, Some}
use Prim.Native.Char.{code}
use Rattle.rules.specs.Choice.{bytes}
use Rattle.igc_words.specs.declared.Verb.{Verb}
use Rattle.igc_words.specs.declared.Verb.TheVariants.{List as Listing, Check, Track, Summary, Merge, Shelf, Help, Version}

-- two texts are the same, byte for byte
unfoldable pub same : List ℕ → List ℕ → Bool
same [] [] = true
same [] (y ∷ b) = false
same (x ∷ a) [] = false
same (x ∷ a) (y ∷ b) = eqb x y && same a b

-- the verbs about the program itself: help and version, also with two dashes before them
unfoldable pub about_of : List ℕ → Option Verb
unfolding bytes
about_of word =
    cond (same word (bytes "help")) (Some Help)
    (cond (same word (bytes "--help")) (Some Help)
    (cond (same word (bytes "version")) (Some Version)
    (cond (same word (bytes "--version")) (Some Version) None)))

-- the verbs on files: list, check, track, summary, merge and shelf; or one about the program
unfoldable pub verb_of : List ℕ → Option Verb
unfolding bytes
verb_of word =
    cond (same word (bytes "list")) (Some Listing)
    (cond (same word (bytes "check")) (Some Check)
    (cond (same word (bytes "track")) (Some Track)
    (cond (same word (bytes "summary")) (Some Summary)
    (cond (same word (bytes "merge")) (Some Merge)
    (cond (same word (bytes "shelf")) (Some Shelf) (about_of word))))))

-- a word that begins with a dash
unfoldable pub dashed : List ℕ → Bool
dashed word = eqb (get_or word 0 0) (code "-")

-- ---- the promises

abbrev pub VerbGiven : List ℕ → Option Verb → Type 0
VerbGiven word r = r ≡ verb_of word

abbrev pub OptionTest : List ℕ → Bool → Type 0
OptionTest word r = r ≡ dashed word

-- the word behind which every word is a name
abbrev pub NamesTest : List ℕ → Bool → Type 0
NamesTest word r = r ≡ same word (bytes "--")

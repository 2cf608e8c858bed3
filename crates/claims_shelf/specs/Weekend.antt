-- Document 02, 'A shelf of flights on the tablet': the words of what is demanded of a shelf, said over the bytes of the buffer.
use Rattle.shelf_rules.specs.declared.Extent.{Extent}
use Rattle.rules.specs.declared.Refusal.{Refusal}
use Rattle.std.specs.Prelude.{ℕ, ◌+◌, ◌*◌, ◌≤◌, ◌<◌, List, ◌++◌, ◌⊎◌, ◌↔◌, ◌≡◌, length, get_or, take, drop, None, Result}
use Rattle.rules.specs.Refusals.{says, refuses, outcome, result_told}
use Rattle.rules.specs.declared.Seal.TheVariants as seal
use Rattle.grammar.specs.Faults.{Refused}
use Rattle.grammar.specs.Grammar.{Meets}
use Rattle.shelf_rules.specs.Contents.{word_bytes, number_of, start_of, size_of, slot_of, body_of, held}
use Rattle.shelf_rules.specs.Calls.{FlightAsked, BodyGiven}

-- ---- "27 SHELF if the buffer breaks these rules"

-- one of `size` bytes from a place on
abbrev pub Among : ℕ → ℕ → ℕ → Type 0
Among at size i = (at ≤ i) × (i < at + size)

-- the byte at place i stands in the body of entry n
pub record InBody (b : List ℕ) (n i : ℕ) : Type 0 where
  pub entry : n < 64
  pub used : number_of b n ≡ 0 → ⊥
  pub among : Among (start_of b n) (size_of b n) i

-- the buffer keeps "these rules"
pub record IsShelf (b : List ℕ) : Type 0 where
  -- "one lent buffer of 768 to 16,777,216 bytes"
  pub least_room : 768 ≤ length b
  pub most_room : length b ≤ 16777216
  -- "flight number 0 is a free entry, whose other bytes are 0"
  pub free : (n : ℕ) → n < 64 → number_of b n ≡ 0 → (i : ℕ) → i < 12 → get_or b (12 * n + i) 0 ≡ 0
  -- "Bodies have at least one byte"
  pub some_byte : (n : ℕ) → n < 64 → (number_of b n ≡ 0 → ⊥) → (i : ℕ) × InBody b n i
  -- "lie inside the part from 768"
  pub inside : (n i : ℕ) → InBody b n i → (768 ≤ i) × (i < length b)
  -- "and don't overlap": no byte stands in two of them
  pub apart : (n m i : ℕ) → InBody b n i → InBody b m i → n ≡ m
  -- "no flight number is used twice"
  pub once : (n m : ℕ) → n < 64 → m < 64 → (number_of b n ≡ 0 → ⊥) → number_of b n ≡ number_of b m → n ≡ m

-- "what a body says isn't looked at again": two buffers of one length with one table of contents, whatever their bodies are
pub record SameContents (b c : List ℕ) : Type 0 where
  pub same_length : length b ≡ length c
  pub same_bytes : (i : ℕ) → i < 768 → get_or b i 0 ≡ get_or c i 0

-- ---- finding

-- some entry has the number: of a flight, it is in use; of 0, an entry is free
abbrev pub InUse : List ℕ → ℕ → Type 0
InUse b number = (n : ℕ) × (n < 64) × (number_of b n ≡ number)

-- "the first free entry"
abbrev pub FirstFree : List ℕ → ℕ → Type 0
FirstFree b k = (k < 64) × (number_of b k ≡ 0) × ((n : ℕ) → n < k → number_of b n ≡ 0 → ⊥)

-- a "free run" of `size` bytes: one after the other from 768 on, inside the buffer, none of them in a body
pub record FreeRun (b : List ℕ) (at size : ℕ) : Type 0 where
  pub from_768 : 768 ≤ at
  pub inside : at + size ≤ length b
  pub free : (n i : ℕ) → Among at size i → InBody b n i → ⊥

-- "the smallest start where it fits between the others"
abbrev pub Smallest : List ℕ → ℕ → ℕ → Type 0
Smallest b size at = FreeRun b at size × ((a : ℕ) → FreeRun b a size → at ≤ a)

-- ---- what each call refuses first

-- a refusal by its number, which stands at no line and no byte
abbrev pub Unplaced : ℕ → ℕ → ℕ → ℕ → Type 0
Unplaced k n l x = (n ≡ k) × (l ≡ 0) × (x ≡ 0)

-- "27 SHELF if the buffer breaks these rules"
abbrev pub Broken : List ℕ → ℕ → ℕ → ℕ → Type 0
Broken b n l x = Unplaced 27 n l x × (IsShelf b → ⊥)

-- "then the file's own", by "the usual check"
abbrev pub FileRefused : List ℕ → List ℕ → ℕ → ℕ → ℕ → Type 0
FileRefused b file n l x = IsShelf b × Refused seal.Usual file None n l x

-- neither: the buffer is a shelf, and the file meets the grammar
abbrev pub Both : List ℕ → List ℕ → Type 0
Both b file = IsShelf b × Meets seal.Usual file

-- "then 28 ID for number 0 or one in use"
abbrev pub IdRefused : List ℕ → ℕ → List ℕ → ℕ → ℕ → ℕ → Type 0
IdRefused b number file n l x = Unplaced 28 n l x × Both b file × ((number ≡ 0) ⊎ InUse b number)

-- not so: the number can be given to a flight
abbrev pub New : List ℕ → ℕ → Type 0
New b number = (number ≡ 0 → ⊥) × (InUse b number → ⊥)

-- "29 ENTRIES when none is free"
abbrev pub EntriesRefused : List ℕ → ℕ → List ℕ → ℕ → ℕ → ℕ → Type 0
EntriesRefused b number file n l x = Unplaced 29 n l x × Both b file × New b number × (InUse b 0 → ⊥)

-- "30 NO_RUN exactly when no free run is long enough"
abbrev pub RunRefused : List ℕ → ℕ → List ℕ → ℕ → ℕ → ℕ → Type 0
RunRefused b number file n l x = Unplaced 30 n l x × Both b file × New b number × InUse b 0 × ((at : ℕ) → FreeRun b at (length file) → ⊥)

abbrev pub AddRefused : List ℕ → ℕ → List ℕ → ℕ → ℕ → ℕ → Type 0
AddRefused b number file n l x =
    Broken b n l x ⊎ (FileRefused b file n l x ⊎ (IdRefused b number file n l x ⊎ (EntriesRefused b number file n l x ⊎ RunRefused b number file n l x)))

-- "31 NOT_FOUND for asking for or removing 0 or a number not held"
abbrev pub NotFound : List ℕ → ℕ → ℕ → ℕ → ℕ → Type 0
NotFound b number n l x = Unplaced 31 n l x × IsShelf b × ((number ≡ 0) ⊎ (InUse b number → ⊥))

-- ---- what each call does where it is not refused

-- a body is added in entry k, from place `at` on
pub record AddsAt (b : List ℕ) (number : ℕ) (file : List ℕ) (k at : ℕ) : Type 0 where
  pub both : Both b file
  pub new : New b number
  pub entry : FirstFree b k
  pub start : Smallest b (length file) at

-- the buffer afterwards: "Adding changes only the new body and its entry"
pub record Puts (b : List ℕ) (number : ℕ) (file : List ℕ) (k at : ℕ) (after : List ℕ) : Type 0 where
  pub long : length after ≡ length b
  pub body : take (length file) (drop at after) ≡ file
  pub entry : slot_of after k ≡ record { number = number; start = at; size = length file }
  -- "each a u32 with its low byte first"
  pub spelled : take 12 (drop (12 * k) after) ≡ word_bytes number ++ (word_bytes at ++ word_bytes (length file))
  pub rest : (i : ℕ) → (Among at (length file) i → ⊥) → (Among (12 * k) 12 i → ⊥) → get_or after i 0 ≡ get_or b i 0

-- a flight is held in entry n
abbrev pub HeldIn : List ℕ → ℕ → ℕ → Type 0
HeldIn b number n = IsShelf b × (number ≡ 0 → ⊥) × (n < 64) × (number_of b n ≡ number)

-- the buffer afterwards: "removing zeroes its entry", "only the entry"
pub record Zeroes (b : List ℕ) (n : ℕ) (after : List ℕ) : Type 0 where
  pub long : length after ≡ length b
  pub entry : (i : ℕ) → Among (12 * n) 12 i → get_or after i 0 ≡ 0
  pub rest : (i : ℕ) → (Among (12 * n) 12 i → ⊥) → get_or after i 0 ≡ get_or b i 0

-- the buffer afterwards: "Packing moves bodies to the front in order of start, without gaps, and each flight's bytes stay the same"
pub record Packs (b after : List ℕ) : Type 0 where
  pub long : length after ≡ length b
  pub number : (n : ℕ) → n < 64 → number_of after n ≡ number_of b n
  pub size : (n : ℕ) → n < 64 → size_of after n ≡ size_of b n
  pub order : (n m : ℕ) → n < 64 → m < 64 → (number_of b n ≡ 0 → ⊥) → (number_of b m ≡ 0 → ⊥) → start_of b n < start_of b m → start_of after n < start_of after m
  pub no_gaps : (i : ℕ) → 768 ≤ i → ((n : ℕ) × InBody after n i) ↔ (i < 768 + held b)
  pub bytes : (n : ℕ) → n < 64 → body_of after n ≡ body_of b n
  -- "packing only starts and the bytes the moved bodies now cover"
  pub rest : (i : ℕ) → ((n : ℕ) → n < 64 → (number_of b n ≡ 0 → ⊥) → Among (12 * n + 4) 4 i → ⊥) → ((n : ℕ) → InBody after n i → ⊥) → get_or after i 0 ≡ get_or b i 0

-- ---- asking afterwards

-- the answer is the same, start and length or the refusal, and so are the bytes handed out
abbrev pub AskedAsBefore : List ℕ → List ℕ → ℕ → Type 0
AskedAsBefore b after number =
    ((r r' : Result Extent Refusal) → FlightAsked b number r → FlightAsked after number r' → result_told r' ≡ result_told r)
    × ((p p' : List ℕ) → BodyGiven b number p → BodyGiven after number p' → p' ≡ p)

-- it is found, or refused, as before, and the bytes handed out are the same, wherever they stand
abbrev pub FoundAsBefore : List ℕ → List ℕ → ℕ → Type 0
FoundAsBefore b after number =
    ((r r' : Result Extent Refusal) → FlightAsked b number r → FlightAsked after number r' → outcome (result_told r') ≡ outcome (result_told r))
    × ((p p' : List ℕ) → BodyGiven b number p → BodyGiven after number p' → p' ≡ p)

-- it is found at a start, and the bytes handed out are those of a file
abbrev pub AskedAs : List ℕ → ℕ → ℕ → List ℕ → Type 0
AskedAs b number at file =
    ((r : Result Extent Refusal) → FlightAsked b number r → result_told r ≡ says (record { start = at; size = length file })) × ((p : List ℕ) → BodyGiven b number p → p ≡ file)

-- "31 NOT_FOUND for asking for .. a number not held"
abbrev pub AskedInVain : List ℕ → ℕ → Type 0
AskedInVain b number = (r : Result Extent Refusal) → FlightAsked b number r → result_told r ≡ refuses 31 0 0

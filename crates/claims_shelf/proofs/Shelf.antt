-- A shelf of flights on the tablet, what is claimed. Each claim is a line from the room that proves it; its words stand in specs/Weekend and specs/Calls. Assumes nothing.
--
-- The claims are about every answer, and every buffer afterwards, that the contracts of the calls allow: `shelf::add` (promise FlightAdded), `shelf::ask` (FlightAsked), `shelf::body`
-- (BodyGiven), `shelf::remove` (FlightRemoved) and `shelf_pack::pack` (ShelfPacked). By the laws `only_..` of crates shelf and shelf_pack that is one each. A refusal is told by its number, line
-- and byte; the file's own are the grammar's (grammar: `refused_first`, `accepted_exactly`). A flight number is a u32.
use Rattle.shelf_rules.specs.declared.Extent.{Extent}
use Rattle.rules.specs.declared.Refusal.{Refusal}
use Rattle.std.specs.Prelude.{Result, Some, ⊤}
use Prim.Native.Nat.{ℕ, ◌+◌, ◌-◌, ◌≤◌, ◌<◌}
use mathlib.Core.Bool.{true}
use mathlib.Core.List.{List, [], ◌∷◌}
use mathlib.Core.Logic.{◌⊎◌, ◌↔◌}
use mathlib.Core.Path.{◌≡◌, refl}
use lib.ListN.{length, get_or}
use Rattle.rules.specs.Refusals.{says, refuses, result_told}
use Rattle.rules.specs.declared.Seal.TheVariants as seal
use Rattle.rules.proofs.Damaged.{five_lines}
use Rattle.grammar.specs.Grammar.{Meets, lines_in, flight_of}
use Rattle.grammar.specs.Readings.{Readable}
use Rattle.shelf_rules.specs.Contents.{word, word_bytes, start_of, size_of, held, sound}
use Rattle.shelf_pack.specs.Pack.{ShelfPacked}
use Rattle.shelf_rules.specs.Calls.{FlightAdded, FlightAsked, BodyGiven, FlightRemoved}
use Rattle.claims_shelf.specs.Weekend.{IsShelf, SameContents, FreeRun, Broken, AddRefused, NotFound, AddsAt, Puts, HeldIn, Zeroes, Packs, AskedAsBefore, FoundAsBefore, AskedAs, AskedInVain}
use Rattle.claims_shelf.specs.Calls.{Call, last_added, bytes_added, bytes_removed, Empty, Reached}
use Rattle.claims_shelf.proofs.Books as books
use Rattle.claims_shelf.proofs.Packing as packing
use Rattle.claims_shelf.proofs.Promised as promised
use Rattle.claims_shelf.proofs.Unread as unread
use Rattle.claims_shelf.proofs.Words as words
use Rattle.claims_shelf.proofs.Worked as worked

-- "27 SHELF if the buffer breaks these rules": what the calls test is that it keeps them
pub rules_exactly : (b : List ℕ) → (sound b ≡ true) ↔ IsShelf b
rules_exactly = words.keeps_exactly

-- ---- adding

module _ (b : List ℕ) (number : ℕ) (file : List ℕ) (r : Result ℕ Refusal) (after : List ℕ) (w : FlightAdded b number file r after) where
  -- "Refusals: 27 SHELF if the buffer breaks these rules, then the file's own, then 28 ID for number 0 or one in use, 29 ENTRIES when none is free, 30 NO_RUN exactly when no free run
  -- is long enough"
  pub add_refused_first : (n l x : ℕ) → (result_told r ≡ refuses n l x) ↔ AddRefused b number file n l x
  add_refused_first = promised.add_refused_first b number file r after w

  -- "takes the first free entry and puts the body at the smallest start where it fits between the others": the answer is that start
  pub add_takes : (at : ℕ) → (result_told r ≡ says at) ↔ ((k : ℕ) × AddsAt b number file k at)
  add_takes = promised.add_takes b number file r after w

  -- "the shelf is changed by none of them"
  pub add_refused_leaves : (n l x : ℕ) → result_told r ≡ refuses n l x → after ≡ b
  add_refused_leaves = promised.add_refused_leaves b number file r after w

  -- "No table is lent here or in CR .. 12, so 15 isn't met there."
  pub add_never_full : (n l x : ℕ) → result_told r ≡ refuses n l x → n ≡ 15 → ⊥
  add_never_full = promised.add_never_full b number file r after w

  module _ (small : number < 4294967296) where
    -- "Adding changes only the new body and its entry"
    pub add_changes_only : (k at : ℕ) → AddsAt b number file k at → Puts b number file k at after
    add_changes_only = promised.add_changes_only b number file r after w small

    -- a shelf stays one, whatever the answer
    pub add_keeps_rules : IsShelf b → IsShelf after
    add_keeps_rules = promised.add_keeps_rules b number file r after w small

    -- asked for, the flight that was added is handed out: the very bytes of the file
    pub added_is_asked : (k at : ℕ) → AddsAt b number file k at → AskedAs after number at file
    added_is_asked = promised.added_is_asked b number file r after w small

    -- every other flight number is answered as before, with the same bytes
    pub others_after_add : (x : ℕ) → (x ≡ number → ⊥) → AskedAsBefore b after x
    others_after_add = promised.others_after_add b number file r after w small

-- ---- asking

module _ (b : List ℕ) (number : ℕ) (r : Result Extent Refusal) (w : FlightAsked b number r) where
  -- "27 SHELF if the buffer breaks these rules", "31 NOT_FOUND for asking for .. 0 or a number not held"
  pub ask_refused_first : (n l x : ℕ) → (result_told r ≡ refuses n l x) ↔ (Broken b n l x ⊎ NotFound b number n l x)
  ask_refused_first = promised.ask_refused_first b number r w

  -- the answer is the start and the length that the flight's entry tells
  pub ask_finds : (start size : ℕ) → (result_told r ≡ says (record { start = start; size = size })) ↔ ((n : ℕ) × HeldIn b number n × (start_of b n ≡ start) × (size_of b n ≡ size))
  ask_finds = promised.ask_finds b number r w

-- "Asking for a number hands out its body as a part of the buffer"; where asking is refused, no byte
module _ (b : List ℕ) (number : ℕ) (body : List ℕ) (w : BodyGiven b number body) where
  pub body_is_part : (n : ℕ) → HeldIn b number n → (length body ≡ size_of b n) × ((i : ℕ) → i < size_of b n → get_or body i 0 ≡ get_or b (start_of b n + i) 0)
  body_is_part = promised.body_is_part b number body w

  pub no_body : (n l x : ℕ) → Broken b n l x ⊎ NotFound b number n l x → body ≡ []
  no_body = promised.no_body b number body w

-- ---- removing

module _ (b : List ℕ) (number : ℕ) (r : Result ⊤ Refusal) (after : List ℕ) (w : FlightRemoved b number r after) where
  -- "27 SHELF if the buffer breaks these rules", "31 NOT_FOUND for .. removing 0 or a number not held"
  pub remove_refused_first : (n l x : ℕ) → (result_told r ≡ refuses n l x) ↔ (Broken b n l x ⊎ NotFound b number n l x)
  remove_refused_first = promised.remove_refused_first b number r after w

  pub remove_finds : (result_told r ≡ says tt) ↔ ((n : ℕ) × HeldIn b number n)
  remove_finds = promised.remove_finds b number r after w

  -- "the shelf is changed by none of them"
  pub remove_refused_leaves : (n l x : ℕ) → result_told r ≡ refuses n l x → after ≡ b
  remove_refused_leaves = promised.remove_refused_leaves b number r after w

  -- "removing zeroes its entry"; "removing only the entry"
  pub remove_changes_only : (n : ℕ) → HeldIn b number n → Zeroes b n after
  remove_changes_only = promised.remove_changes_only b number r after w

  -- a shelf stays one, whatever the answer
  pub remove_keeps_rules : IsShelf b → IsShelf after
  remove_keeps_rules = promised.remove_keeps_rules b number r after w

  -- asked for, the flight that was removed is not found
  pub removed_is_gone : (n : ℕ) → HeldIn b number n → AskedInVain after number
  removed_is_gone = promised.removed_is_gone b number r after w

  -- every other flight number is answered as before, with the same bytes
  pub others_after_remove : (x : ℕ) → (x ≡ number → ⊥) → AskedAsBefore b after x
  others_after_remove = promised.others_after_remove b number r after w

-- ---- packing

module _ (b : List ℕ) (r : Result ⊤ Refusal) (after : List ℕ) (w : ShelfPacked b r after) where
  -- "27 SHELF if the buffer breaks these rules"
  pub pack_refused_first : (n l x : ℕ) → (result_told r ≡ refuses n l x) ↔ Broken b n l x
  pack_refused_first = promised.pack_refused_first b r after w

  -- "the shelf is changed by none of them"
  pub pack_refused_leaves : (n l x : ℕ) → result_told r ≡ refuses n l x → after ≡ b
  pack_refused_leaves = promised.pack_refused_leaves b r after w

  -- "each flight's bytes stay the same": every flight number is found, or refused, as before, with the same bytes
  pub all_after_pack : (x : ℕ) → FoundAsBefore b after x
  all_after_pack = promised.all_after_pack b r after w

  module _ (s : IsShelf b) where
    -- "Packing moves bodies to the front in order of start, without gaps"; "packing only starts and the bytes the moved bodies now cover"
    pub pack_changes_only : Packs b after
    pack_changes_only = promised.pack_changes_only b r after w s

    -- a shelf stays one
    pub pack_keeps_rules : IsShelf after
    pack_keeps_rules = promised.pack_keeps_rules b r after w s

    -- all free bytes are then one run behind the bodies: a body fits there where it is no longer than that run, and a longer one fits nowhere
    pub packed_free_run : (size : ℕ) → ((at : ℕ) × FreeRun after at size) ↔ (768 + held b + size ≤ length b)
    packed_free_run = promised.packed_free_run b r after w s

-- ---- "From an empty shelf": after any calls, whatever they answered

module _ (calls : List Call) (b : List ℕ) (k : Reached calls b) where
  -- "the bytes held by all bodies equal what was added less what was removed, told from the calls"
  pub held_by_calls : (held b ≡ bytes_added calls - bytes_removed calls) × (bytes_removed calls ≤ bytes_added calls)
  held_by_calls = books.held_by_calls calls b k

  -- it is a shelf
  pub calls_keep_rules : IsShelf b
  calls_keep_rules = books.calls_keep_rules calls b k

  -- a body that is handed out is the very file last added under its number, and meets the grammar of the usual check
  pub body_is_file : (number n : ℕ) → HeldIn b number n → (body : List ℕ) → BodyGiven b number body → (last_added calls number ≡ Some body) × Meets seal.Usual body
  body_is_file = books.body_is_file calls b k

  -- "Demands 2 and 3 speak of each body alone": all that can be read of a file can be read of a body, with any table that has an entry for each of its lines (grammar: `readable`). Demand 3
  -- (grammar_wider: `widened`) speaks of files that the check takes, and so of a body
  pub body_is_readable : (number n : ℕ) (h : HeldIn b number n) (body : List ℕ) (g : BodyGiven b number body) (table : List ℕ)
      → length (lines_in (body_is_file number n h body g).1.parts) ≤ length table → Readable seal.Usual body table (flight_of (body_is_file number n h body g).1)
  body_is_readable number n h body g table = books.readable_with body table (body_is_file number n h body g).1

-- ---- "what a body says isn't looked at again": two buffers of one length with one table of contents get the same answers, and have one table of contents afterwards, whatever their bodies are

module _ (b c : List ℕ) (s : SameContents b c) where
  pub add_unread : (number : ℕ) (file : List ℕ) (r r' : Result ℕ Refusal) (after after' : List ℕ) → FlightAdded b number file r after → FlightAdded c number file r' after' → result_told r ≡ result_told r'
  add_unread = unread.add_unread b c s

  pub ask_unread : (number : ℕ) (r r' : Result Extent Refusal) → FlightAsked b number r → FlightAsked c number r' → result_told r ≡ result_told r'
  ask_unread = unread.ask_unread b c s

  pub remove_unread : (number : ℕ) (r r' : Result ⊤ Refusal) (after after' : List ℕ) → FlightRemoved b number r after → FlightRemoved c number r' after' → result_told r ≡ result_told r'
  remove_unread = unread.remove_unread b c s

  pub pack_unread : (r r' : Result ⊤ Refusal) (after after' : List ℕ) → ShelfPacked b r after → ShelfPacked c r' after' → result_told r ≡ result_told r'
  pack_unread = unread.pack_unread b c s

  -- and the table of contents afterwards is one again, so that the same holds of each later call
  pub add_unread_after : (number : ℕ) (file : List ℕ) (r r' : Result ℕ Refusal) (after after' : List ℕ) → FlightAdded b number file r after → FlightAdded c number file r' after' → SameContents after after'
  add_unread_after = unread.add_unread_after b c s

  pub remove_unread_after : (number : ℕ) (r r' : Result ⊤ Refusal) (after after' : List ℕ) → FlightRemoved b number r after → FlightRemoved c number r' after' → SameContents after after'
  remove_unread_after = unread.remove_unread_after b c s

  pub pack_unread_after : (r r' : Result ⊤ Refusal) (after after' : List ℕ) → ShelfPacked b r after → ShelfPacked c r' after' → SameContents after after'
  pack_unread_after = unread.pack_unread_after b c s

  -- the body that is handed out stands at one place in both (`ask_unread`, `body_is_part`), and has as many bytes
  pub body_unread : (number : ℕ) (body body' : List ℕ) → BodyGiven b number body → BodyGiven c number body' → length body ≡ length body'
  body_unread = unread.body_unread b c s

-- ---- a weekend worked out

-- "each a u32 with its low byte first"
pub low_byte_first : (word_bytes 16909060 ≡ 4 ∷ 3 ∷ 2 ∷ 1 ∷ []) × (word (4 ∷ 3 ∷ 2 ∷ 1 ∷ []) 0 ≡ 16909060)
unfolding word word_bytes
low_byte_first = (refl, refl)

-- a buffer of zeros is an empty shelf
pub zeros_are_empty : (n : ℕ) → 768 ≤ n → n ≤ 16777216 → Empty (worked.zeros n)
zeros_are_empty = worked.zeros_empty

-- on a shelf with room for two of document 01's file of five lines, 89 bytes: the first from 768 on, the second behind it, 30 for a third; the first removed, and the third in its place
pub five_lines_thrice : Reached (worked.weekend_of five_lines) (worked.three five_lines)
five_lines_thrice = worked.five_reached

pub five_lines_held : held (worked.three five_lines) ≡ 178
five_lines_held = worked.five_held

-- three flights of which the first body is removed: its entry alone; then packed, every byte told
pub three_without_one : (r : Result ⊤ Refusal) (after : List ℕ) → FlightRemoved packing.three 8 r after → (result_told r ≡ says tt) × (after ≡ packing.without)
three_without_one = packing.removed

pub two_packed : (r : Result ⊤ Refusal) (after : List ℕ) → ShelfPacked packing.without r after → (result_told r ≡ says tt) × (after ≡ packing.packed)
two_packed = packing.packs

-- no shelf: two bodies that overlap by one byte; a free entry with a byte that is not 0
pub overlapping_is_none : IsShelf worked.overlapping → ⊥
overlapping_is_none = worked.overlapping_refused

pub leftover_is_none : IsShelf worked.leftover → ⊥
leftover_is_none = worked.leftover_refused

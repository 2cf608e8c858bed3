-- Document 02, 'A shelf of flights on the tablet': what adding, asking and removing say, and the buffer afterwards.
use Rattle.std.specs.Prelude.{ℕ, ◌+◌, ◌*◌, ◌-◌, Bool, true, false, not, ◌&&◌, List, [], eqb, leb, length, take, drop, replicate, None, Option}
use Rattle.std.proofs.lemmas.List.Edits.{sets}
use Rattle.rules.specs.Choice.{given, need}
use Rattle.rules.specs.Files.{verdict}
use Rattle.rules.specs.Refusals.{Said, says, refuses, no, and_then}
use Rattle.rules.specs.declared.Reason.TheVariants as reason
use Rattle.rules.specs.declared.Seal.{Seal}
use Rattle.rules.specs.declared.Seal.TheVariants as seal
use Rattle.shelf_rules.specs.Ranges.{least, every}
use Rattle.shelf_rules.specs.Contents.{number_of, start_of, end_of, slot_of, slot_bytes, clear, sound}
use Rattle.shelf_rules.specs.declared.Slot.{Slot}
use Rattle.shelf_rules.specs.declared.Spot.{Spot}

-- ---- finding

-- the first entry with a flight number; with 0, "the first free entry"
unfoldable pub entry_of : List ℕ → ℕ → Option ℕ
entry_of b number = least (λ n. eqb (number_of b n) number) 0 64

-- `size` bytes from a start on overlap no byte of an entry's body
abbrev pub clear_of : List ℕ → ℕ → ℕ → ℕ → Bool
clear_of b size at n = clear at (at + size) (start_of b n) (end_of b n)

-- a body of `size` bytes "fits between the others" at a start: it ends inside the buffer and overlaps no body
unfoldable pub fits : List ℕ → ℕ → ℕ → Bool
fits b size at = leb (at + size) (length b) && every (clear_of b size at) 64

-- the first entry whose body is in its way
unfoldable pub blocker_of : List ℕ → ℕ → ℕ → Option ℕ
blocker_of b size at = least (λ n. not (clear_of b size at n)) 0 64

-- "the smallest start where it fits", of those from 768 on
unfoldable pub place_for : List ℕ → ℕ → Option ℕ
place_for b size = least (fits b size) 768 (length b - 768)

-- ---- adding

-- "Adding puts the file through the usual check"
abbrev pub shelf_seal : Seal
shelf_seal = seal.Usual

-- "28 ID for number 0 or one in use": neither
unfoldable pub usable : List ℕ → ℕ → Bool
usable b number = not (eqb number 0) && given (entry_of b number) true (λ _. false)

-- where a body of `size` bytes goes: "then 28 ID for number 0 or one in use, 29 ENTRIES when none is free, 30 NO_RUN exactly when no free run is long enough"
unfoldable pub spot_for : List ℕ → ℕ → ℕ → Said Spot
spot_for b number size =
    need (usable b number) (no reason.Id 0) λ _.
    given (entry_of b 0) (no reason.Entries 0) λ k.
    given (place_for b size) (no reason.NoRun 0) λ at.
    says (record { entry = k; start = at })

-- "Refusals: 27 SHELF if the buffer breaks these rules, then the file's own, then 28 ID ..". "No table is lent here or in CR .. 12"
unfoldable pub add_said : List ℕ → ℕ → List ℕ → Said Spot
add_said b number file =
    need (sound b) (no reason.Shelf 0) λ _.
    and_then (verdict shelf_seal file None) λ _.
    spot_for b number (length file)

-- "takes the first free entry and puts the body at the smallest start where it fits between the others"; "the shelf is changed by none of them", the refusals
unfoldable pub after_add : Said Spot → List ℕ → ℕ → List ℕ → List ℕ
after_add (says s) b number file =
    sets (sets b s.start file) (12 * s.entry) (slot_bytes (record { number = number; start = s.start; size = length file }))
after_add (refuses n l x) b number file = b

-- ---- asking and removing

-- "27 SHELF if the buffer breaks these rules"; "31 NOT_FOUND for asking for or removing 0 or a number not held": the entry of a flight that is held
unfoldable pub held_at : List ℕ → ℕ → Said ℕ
held_at b number =
    need (sound b) (no reason.Shelf 0) λ _.
    need (not (eqb number 0)) (no reason.NotFound 0) λ _.
    given (entry_of b number) (no reason.NotFound 0) λ n. says n

-- "Asking for a number hands out its body": the entry that tells where it stands
unfoldable pub ask_said : List ℕ → ℕ → Said Slot
ask_said b number = and_then (held_at b number) λ n. says (slot_of b n)

-- "as a part of the buffer"; none where asking is refused
abbrev pub part_of : Said Slot → List ℕ → List ℕ
part_of (says s) b = take s.size (drop s.start b)
part_of (refuses n l x) b = []

-- what removing says: nothing but that it is done
abbrev pub remove_said : List ℕ → ℕ → Said (Unit {0})
remove_said b number = and_then (held_at b number) λ _. says tt

-- "removing zeroes its entry"
unfoldable pub after_remove : Said ℕ → List ℕ → List ℕ
after_remove (says n) b = sets b (12 * n) (replicate 12 0)
after_remove (refuses n l x) b = b

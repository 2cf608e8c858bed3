-- Two copies with notes, worked out by hand: the file that they make, an output that is a byte too short, a copy of another flight, and copies that are refused. Computed. Assumes nothing.
use Prim.Native.Nat.{ℕ}
use Prim.Native.String.{String}
use mathlib.Core.List.{List, [], ◌∷◌, ◌++◌}
use mathlib.Core.Path.{◌≡◌, refl}
use lib.ListN.{length, replicate}
use Rattle.rules.specs.declared.Reason.{Reason}
use Rattle.rules.specs.declared.Reason.TheVariants as reason
use Rattle.rules.specs.declared.Refusal.{Refusal}
use Rattle.rules.proofs.Computed.{everything, file_of}
use Rattle.notes_rules.specs.Notes.{sealed, common_part, notes_in}
use Rattle.notes_rules.specs.Merging.{merge_said}
use Rattle.notes_merge.specs.Merge.{merge_told, FilesMerged}
use Rattle.notes_merge.specs.declared.Brought.{Brought}
use Rattle.notes_merge.specs.declared.Brought.TheVariants as brought
use Rattle.notes_merge.proofs.Merging.{made}
use Rattle.notes_merge.proofs.Only.{only_files_merged}

-- the answer, and the output afterwards, are these and no others
abbrev pub Gives : List ℕ → List ℕ → List ℕ → Brought → List ℕ → Type 0
Gives first second out answer after = (r : Brought) (out' : List ℕ) → FilesMerged first second out r out' → (r ≡ answer) × (out' ≡ after)

-- ---- the copies

-- The lines up to the G line have 7, 11, 8, 35 and 4 bytes, and 2 more each: 75. Each note of six bytes has 8, that of seven 9.
abbrev pub day : List ℕ
unfolding file_of
day = file_of ("AXYZ001" ∷ "HFDTE150724" ∷ "LXYZ TOW" ∷ "B1200005130000N00015000WA0010000120" ∷ "GABC" ∷ "LXYZ B" ∷ "LXYZ A" ∷ "LXYZ A" ∷ [])

abbrev pub night : List ℕ
unfolding file_of
night = file_of ("AXYZ001" ∷ "HFDTE150724" ∷ "LXYZ TOW" ∷ "B1200005130000N00015000WA0010000120" ∷ "GABC" ∷ "LXYZ AB" ∷ "LXYZ A" ∷ "LXYZ B" ∷ "LXYZ B" ∷ [])

-- A stands twice in the first copy and once in the second, B once and twice, AB in the second alone: each as often as in the copy that has it more often. A begins AB and comes first; B is
-- last. The note before the G line stays where it is. 75 bytes, four notes of 8 and one of 9 are 116.
abbrev pub both : List ℕ
unfolding file_of
both = file_of ("AXYZ001" ∷ "HFDTE150724" ∷ "LXYZ TOW" ∷ "B1200005130000N00015000WA0010000120" ∷ "GABC" ∷ "LXYZ A" ∷ "LXYZ A" ∷ "LXYZ AB" ∷ "LXYZ B" ∷ "LXYZ B" ∷ [])

-- an output of n bytes
abbrev pub lent : ℕ → List ℕ
lent n = replicate n 42

-- "bytes past a result stay"
pub merged_both : (length both ≡ 116) × Gives day night (lent 119) (brought.Whole 116) (both ++ (42 ∷ 42 ∷ 42 ∷ []))
unfolding everything file_of sealed common_part notes_in merge_said merge_told
merged_both = (
  refl,
  λ r out w. only_files_merged day night (lent 119) r (brought.Whole 116) out (both ++ (42 ∷ 42 ∷ 42 ∷ [])) w (made day night (lent 119) (brought.Whole 116) (both ++ (42 ∷ 42 ∷ 42 ∷ [])) refl refl),
)

-- ---- refusals, each with whose it is; "a refusal leaves the output unchanged"

abbrev refused : Reason → ℕ → ℕ → Refusal
refused why line byte = record { reason = why; line = line; byte = byte }

-- a byte too few
pub merged_no_room : Gives day night (lent 115) (brought.Neither (refused reason.NoRoom 0 0)) (lent 115)
unfolding everything file_of sealed common_part notes_in merge_said merge_told
merged_no_room r out w = only_files_merged day night (lent 115) r _ out _ w (made day night (lent 115) (brought.Neither (refused reason.NoRoom 0 0)) (lent 115) refl refl)

-- the first copy with 101 metres for 100, in an output of no bytes: "26 NOT_SAME" comes before 18
abbrev pub another : List ℕ
unfolding file_of
another = file_of ("AXYZ001" ∷ "HFDTE150724" ∷ "LXYZ TOW" ∷ "B1200005130000N00015000WA0010100120" ∷ "GABC" ∷ "LXYZ B" ∷ "LXYZ A" ∷ "LXYZ A" ∷ [])

pub merged_not_same : Gives day another [] (brought.Neither (refused reason.NotSame 0 0)) []
unfolding everything file_of sealed common_part notes_in merge_said merge_told
merged_not_same r out w = only_files_merged day another [] r _ out _ w (made day another [] (brought.Neither (refused reason.NotSame 0 0)) [] refl refl)

-- no G line: the usual check accepts it, the strict check says 16 at the line behind its third. A note with a comma: 8 in line 4, at byte 5
abbrev pub unsealed : List ℕ
unfolding file_of
unsealed = file_of ("AXYZ001" ∷ "HFDTE150724" ∷ "B1200005130000N00015000WA0010000120" ∷ [])

abbrev pub spoiled : List ℕ
unfolding file_of
spoiled = file_of ("AXYZ001" ∷ "HFDTE150724" ∷ "GABC" ∷ "LXYZ,A" ∷ [])

-- the first file's refusal before the second's, and both before 26
pub merged_first : Gives unsealed spoiled (lent 9) (brought.First (refused reason.EndsEarly 4 0)) (lent 9)
unfolding everything file_of sealed common_part notes_in merge_said merge_told
merged_first r out w = only_files_merged unsealed spoiled (lent 9) r _ out _ w (made unsealed spoiled (lent 9) (brought.First (refused reason.EndsEarly 4 0)) (lent 9) refl refl)

pub merged_second : Gives day spoiled (lent 9) (brought.Second (refused reason.Character 4 5)) (lent 9)
unfolding everything file_of sealed common_part notes_in merge_said merge_told
merged_second r out w = only_files_merged day spoiled (lent 9) r _ out _ w (made day spoiled (lent 9) (brought.Second (refused reason.Character 4 5)) (lent 9) refl refl)

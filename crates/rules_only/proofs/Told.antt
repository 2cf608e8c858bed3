-- Each map that tells an answer in the paper's terms is one to one, by a map back: so two answers that are told the same are the same. Assumes nothing.
use Rattle.std.specs.Prelude.{Err, None, Ok, Some}
use Prim.Native.Nat.{ℕ}
use mathlib.Core.List.{List, [], ◌∷◌}
use mathlib.Core.Path.{◌≡◌, refl, sym, ap, ◌∙◌}
use lib.ListN.{get_or}
use Rattle.rules.specs.Choice.{given}
use Rattle.rules.specs.Refusals.{Said, says, refuses, number, refusal, result_told}
use Rattle.rules.specs.Reads.{Reading, fix_reading_told, extra_reading_told}
use Rattle.rules.specs.declared.Reason.{Reason}
use Rattle.rules.specs.declared.Reason.TheVariants.{Empty, TooLong, LineEnd, EmptyLine, Kind, Order, Length, Character, Form, Tile, Twice, Width, Column, Back, TableFull, EndsEarly, BadValue, NoRoom, Absent, NotNumber, InputOver, Time, Position, Altitude, Date, NotSame, Shelf, Id, Entries, NoRun, NotFound}
use Rattle.rules.specs.declared.Refusal.{Refusal}
use Rattle.rules.specs.declared.Fix.{Fix}

-- ---- a map with a way back is one to one

module _ {T B : Type 0} where
  abbrev pub OneToOne : (T → B) → Type 0
  OneToOne told = (r r' : T) → told r ≡ told r' → r ≡ r'

  pub by_back : {told : T → B} (back : B → T) → ((r : T) → back (told r) ≡ r) → OneToOne told
  by_back back inverse r r' e = sym (inverse r) ∙ ap back e ∙ inverse r'

-- ---- refusals

-- the reasons at their numbers; there is no number 0
abbrev pub reasons : List Reason
reasons =
    Empty ∷ Empty ∷ TooLong ∷ LineEnd ∷ EmptyLine ∷ Kind ∷ Order ∷ Length ∷ Character ∷ Form ∷ Tile ∷ Twice ∷ Width ∷ Column ∷ Back ∷ TableFull ∷ EndsEarly
    ∷ BadValue ∷ NoRoom ∷ Absent ∷ NotNumber ∷ InputOver ∷ Time ∷ Position ∷ Altitude ∷ Date ∷ NotSame ∷ Shelf ∷ Id ∷ Entries ∷ NoRun ∷ NotFound ∷ []

reason_back : (r : Reason) → get_or reasons (number r) Empty ≡ r
unfolding number
reason_back =
    elim [ Empty ↦ refl | TooLong ↦ refl | LineEnd ↦ refl | EmptyLine ↦ refl | Kind ↦ refl | Order ↦ refl | Length ↦ refl | Character ↦ refl | Form ↦ refl | Tile ↦ refl | Twice ↦ refl | Width ↦ refl | Column ↦ refl | Back ↦ refl | TableFull ↦ refl | EndsEarly ↦ refl | BadValue ↦ refl | NoRoom ↦ refl | Absent ↦ refl | NotNumber ↦ refl | InputOver ↦ refl | Time ↦ refl | Position ↦ refl | Altitude ↦ refl | Date ↦ refl | NotSame ↦ refl | Shelf ↦ refl | Id ↦ refl | Entries ↦ refl | NoRun ↦ refl | NotFound ↦ refl ]

-- "No. | Name": no two names have one number
pub number_one : OneToOne number
number_one = by_back (λ n. get_or reasons n Empty) reason_back

abbrev pub refusal_of : ℕ → ℕ → ℕ → Refusal
refusal_of n l b = record { reason = get_or reasons n Empty; line = l; byte = b }

pub refusal_back : (r : Refusal) → refusal_of (number r.reason) r.line r.byte ≡ r
refusal_back r = ap (λ (x : Reason). let w : Refusal = record { reason = x; line = r.line; byte = r.byte } in w) (reason_back r.reason)

module _ {T A : Type 0} where
  -- the answer that says a value, and the answer that refuses
  abbrev pub answer_of : (A → T) → (Refusal → T) → Said A → T
  answer_of is refused (says v) = is v
  answer_of is refused (refuses n l b) = refused (refusal_of n l b)

-- a refusal is told with nothing left out
pub refusal_one : (A : Type 0) → OneToOne (refusal {A = A})
refusal_one A = by_back (answer_of (λ v. refusal_of 0 0 0) (λ r. r)) refusal_back

-- ---- answers that are a value or a refusal

pub result_one : {A : Type 0} → OneToOne (result_told {A = A})
unfolding result_told
result_one = by_back (answer_of Ok Err) (elim [ Ok v ↦ refl | Err r ↦ ap Err (refusal_back r) ])

pub fix_reading_one : OneToOne fix_reading_told
unfolding fix_reading_told
fix_reading_one = by_back (answer_of (λ r. Ok (record { fix = r.value; entries = r.entries })) Err) (elim [ Ok v ↦ refl | Err r ↦ ap Err (refusal_back r) ])

pub extra_reading_one : OneToOne extra_reading_told
unfolding extra_reading_told
extra_reading_one = by_back (answer_of (λ r. Ok (record { time = r.value; entries = r.entries })) Err) (elim [ Ok v ↦ refl | Err r ↦ ap Err (refusal_back r) ])

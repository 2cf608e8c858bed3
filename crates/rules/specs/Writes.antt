-- Document 01, 'Refusal numbers': the lines that the writers make, when they give 17 and 18, and what the output holds afterwards.
use Rattle.std.specs.Prelude.{ℕ, ◌+◌, Bool, true, false, ◌&&◌, cond, List, [], ◌∷◌, ◌++◌, eqb, leb, ℤ, pos, negsuc, length, None, Option, Some}
use Prim.Native.Char.{code}
use Rattle.std.proofs.lemmas.List.Edits.{sets}
use Rattle.rules.specs.Families.{line_letter, layout_letter}
use Rattle.rules.specs.Choice.{need}
use Rattle.rules.specs.Refusals.{Said, says, refuses, no, refusal}
use Rattle.rules.specs.Numbers.{digits_of}
use Rattle.rules.specs.Fields.{time_text, date_text, latitude_text, longitude_text, altitude_text}
use Rattle.rules.specs.Listed.{code_text}
use Rattle.rules.specs.Layouts.{entries_of}
use Rattle.rules.specs.Fixes.{fields_of}
use Rattle.rules.specs.Reads.{fix_said, extra_said, head_said, point_said}
use Rattle.rules.specs.declared.Reason.TheVariants.{BadValue, NoRoom}
use Rattle.rules.specs.declared.Date.{Date}
use Rattle.rules.specs.declared.Position.{Position}
use Rattle.rules.specs.declared.Entry.{Entry}
use Rattle.rules.specs.declared.Layout.{Layout}
use Rattle.rules.specs.declared.Extra.{Extra}
use Rattle.rules.specs.declared.Family.{Family}
use Rattle.rules.specs.declared.Family.TheVariants as family
use Rattle.rules.specs.declared.FinePosition.{FinePosition}
use Rattle.rules.specs.declared.FixFields.{FixFields}
use Rattle.rules.specs.declared.Fix.{Fix}
use Rattle.rules.specs.declared.Head.{Head}
use Rattle.rules.specs.declared.Point.{Point}

-- ---- the text of each line, without its CR LF. "Writers make B, I, J, K and C lines."; M and N "have writers".
-- "Writers take what the readings give, columns and other text as bytes; B and K readers and writers take the layout too; C head and C point have a reader and a writer
-- each."; N as K

unfoldable pub fields_text : FixFields → List ℕ → List ℕ
fields_text f tail =
    code "B" ∷ (time_text f.time
    ++ (latitude_text f.lat
    ++ (longitude_text f.lon
    ++ (f.validity ∷ (altitude_text f.pressure
    ++ (altitude_text f.gnss
    ++ tail))))))

-- of a fix: of its fields
unfoldable pub fix_text : Fix → List ℕ → List ℕ
fix_text f tail = fields_text (fields_of f) tail

unfoldable pub extra_text : Extra → ℕ → List ℕ → List ℕ
extra_text e t tail = line_letter (family.Extra e) ∷ (time_text t ++ tail)

unfoldable pub entry_text : Entry → List ℕ
entry_text e = digits_of 2 e.first ++ (digits_of 2 e.last ++ code_text e.code)

unfoldable pub entry_texts : List Entry → List ℕ
entry_texts [] = []
entry_texts (e ∷ es) = entry_text e ++ entry_texts es

unfoldable pub layout_text : Family → Layout → List ℕ
layout_text f l = layout_letter f ∷ (digits_of 2 l.count ++ entry_texts (entries_of l))

-- "000000 means not given"
unfoldable pub planned_text : Option Date → List ℕ
planned_text (Some d) = date_text d
planned_text None = digits_of 6 0

unfoldable pub head_text : Head → List ℕ → List ℕ
head_text h rest =
    code "C" ∷ (date_text h.declared
    ++ (time_text h.time
    ++ (planned_text h.flight
    ++ (digits_of 4 h.task
    ++ (digits_of 2 h.turns
    ++ rest)))))

unfoldable pub point_text : Point → List ℕ → List ℕ
point_text p rest = code "C" ∷ (latitude_text p.lat ++ (longitude_text p.lon ++ rest))

-- ---- equal values, as tests

abbrev pub same_integer : ℤ → ℤ → Bool
same_integer (pos m) (pos n) = eqb m n
same_integer (pos m) (negsuc n) = false
same_integer (negsuc m) (pos n) = false
same_integer (negsuc m) (negsuc n) = eqb m n

abbrev pub same_position : Position → Position → Bool
same_position p q = eqb p.count q.count && eqb p.letter q.letter

abbrev pub same_fine_position : FinePosition → FinePosition → Bool
same_fine_position p q = eqb p.count q.count && eqb p.letter q.letter && eqb p.decimals q.decimals

unfoldable pub same_fix : Fix → Fix → Bool
same_fix f g =
    eqb f.time.count g.time.count
    && eqb f.time.decimals g.time.decimals
    && same_fine_position f.lat g.lat
    && same_fine_position f.lon g.lon
    && eqb f.validity g.validity
    && same_integer f.pressure.metres g.pressure.metres
    && same_integer f.gnss.metres g.gnss.metres

abbrev pub same_date : Date → Date → Bool
same_date d e = eqb d.day e.day && eqb d.month e.month && eqb d.year e.year

abbrev pub same_planned : Option Date → Option Date → Bool
same_planned (Some d) (Some e) = same_date d e
same_planned (Some d) None = false
same_planned None (Some e) = false
same_planned None None = true

unfoldable pub same_head : Head → Head → Bool
same_head h k =
    same_date h.declared k.declared
    && eqb h.time k.time
    && same_planned h.flight k.flight
    && eqb h.task k.task
    && eqb h.turns k.turns

unfoldable pub same_point : Point → Point → Bool
same_point p q = same_position p.lat q.lat && same_position p.lon q.lon

module _ {A : Type 0} where
  -- the reading says this value
  abbrev pub reads : (A → A → Bool) → Said A → A → Bool
  reads same (says w) v = same w v
  reads same (refuses n l b) v = false

-- ---- "A writer gives 17 exactly when no line that passes 7 to 13 reads as the values given." Only a value's own text can read as it: so, when that does not.

unfoldable pub is_fix : Fix → List ℕ → Layout → Bool
is_fix f tail layout = reads same_fix (fix_said (fix_text f tail) layout) f

unfoldable pub is_extra : Extra → ℕ → List ℕ → Layout → Bool
is_extra e t tail layout = reads eqb (extra_said e (extra_text e t tail) layout) t

unfoldable pub is_head : Head → List ℕ → Bool
is_head h rest = reads same_head (head_said (head_text h rest)) h

unfoldable pub is_point : Point → List ℕ → Bool
is_point p rest = reads same_point (point_said (point_text p rest)) p

-- ---- what a writer answers, and the output afterwards

-- "18 NO_ROOM: output shorter than place + length + 2"; "Writers test 17 before 18 (a place past the end is 18)"; the answer is the place after the line and its CR LF
unfoldable pub written : Bool → List ℕ → ℕ → List ℕ → Said ℕ
written good text place out =
    need good (no BadValue 0) λ _.
    need (leb (place + length text + 2) (length out)) (no NoRoom 0) λ _.
    says (place + length text + 2)

abbrev pub crlf : List ℕ
crlf = 13 ∷ 10 ∷ []

-- "a refused write changes no byte. Each written line goes into the lent output from a given place on, and bytes outside the line and its CR LF stay."
unfoldable pub out_after : Said ℕ → List ℕ → ℕ → List ℕ → List ℕ
out_after (says n) text place out = sets out place (text ++ crlf)
out_after (refuses n l b) text place out = out

-- the answer, in the paper's terms

-- ---- a field into an output: the bytes from a place on, where they have room; else nothing changes

unfoldable pub put_at : List ℕ → ℕ → List ℕ → List ℕ
put_at out at text = cond (leb (at + length text) (length out)) (sets out at text) out

-- Demand 3, to read as before: the lines of a file by their kinds, one line by its layout against another by its, and all that two files have in common where one has more columns.
use Rattle.std.specs.Prelude.{ℕ, suc, ◌+◌, ◌*◌, ◌^◌, ◌<◌, Bool, true, false, not, ◌&&◌, cond, List, [], ◌∷◌, ◌≡◌, get_or}
use Rattle.rules.specs.Refusals.{Said, says, and_then}
use Rattle.rules.specs.Families.{layout_of, count_of}
use Rattle.rules.specs.Listed.{packed_of, listed, tds, lad, lod}
use Rattle.rules.specs.Layouts.{carries, column_text, presence_said}
use Rattle.rules.specs.Lines.{kind_of}
use Rattle.rules.specs.Fixes.{plain}
use Rattle.rules.specs.Roles.{role_of, is_of, is_declaring, is_event}
use Rattle.rules.specs.Split.{Lines, end, broken, line, lines_of}
use Rattle.rules.specs.Reads.{ValueOf, reading}
use Rattle.rules.specs.Looks.{look_said, look_number}
use Rattle.rules.specs.declared.Layout.{Layout}
use Rattle.rules.specs.declared.Listed.{Listed}
use Rattle.rules.specs.declared.Presence.{Presence}
use Rattle.rules.specs.declared.Family.{Family}
use Rattle.rules.specs.declared.Family.TheVariants as family
use Rattle.rules.specs.declared.Fix.{Fix}
use Rattle.rules.specs.declared.Kind.{Kind}
use Rattle.rules.specs.declared.Layouts.{Layouts}
use Rattle.rules.specs.declared.Role.TheVariants as role
use Rattle.rules.specs.declared.Flight.{Flight}
use Rattle.grammar_wider.specs.Wider.{Extends, LayoutLines, all, without, changed, put, Wider, front, from}

-- ---- the lines by their kinds

-- the lines whose kind passes a test, in their order
abbrev pub lines_with : (Kind → Bool) → Lines → List (List ℕ)
lines_with test end = []
lines_with test (broken n) = []
lines_with test (line t ls) = cond (test (kind_of (get_or t 0 0))) (t ∷ lines_with test ls) (lines_with test ls)

-- the lines of a family, and the one with the number n, from 0
abbrev pub lines_of_family : Family → Lines → List (List ℕ)
lines_of_family f = lines_with λ k. is_of f (role_of k)

abbrev pub line_of : Family → List ℕ → ℕ → List ℕ
line_of f file n = get_or (lines_of_family f (lines_of file)) n []

-- ---- one line

-- the text that the look for a code gives, into the entries of a line's reading
unfoldable pub text_said : List ℕ → Layout → List ℕ → Said (List ℕ)
text_said l es name = and_then (look_said l es name) λ s. says (column_text l s)

-- One count of a fix, with its decimals, before and after ('), by the code of its finer digits. Where their column was there, both are as before. Where it was not there, there were no
-- decimals, and the count is as before without those that are added: "where LAD, LOD or TDS is added, 'reads as before' means the count without the extra digits" (document 02).
-- Where it is still not there, both are as before.
pub record CountAsBefore (old new : Layout) (x count decimals count' decimals' : ℕ) : Type 0 where
  pub kept : carries old x ≡ true → (count' ≡ count) × (decimals' ≡ decimals)
  pub added : carries old x ≡ false → (decimals ≡ 0) × (plain count' decimals' ≡ count)
  pub missing : carries new x ≡ false → (count' ≡ count) × (decimals' ≡ decimals)

-- The fix of a B line: its time, latitude and longitude each as a count by its column, and all else as it was. "the map's degrees of a coordinate so refined may differ", since they
-- are those of the finer count; where count and decimals are as before, so are they.
pub record FixAsBefore (old new : Layout) (f f' : Fix) : Type 0 where
  pub time : CountAsBefore old new tds f.time.count f.time.decimals f'.time.count f'.time.decimals
  pub lat : CountAsBefore old new lad f.lat.count f.lat.decimals f'.lat.count f'.lat.decimals
  pub lat_letter : f'.lat.letter ≡ f.lat.letter
  pub lon : CountAsBefore old new lod f.lon.count f.lon.decimals f'.lon.count f'.lon.decimals
  pub lon_letter : f'.lon.letter ≡ f.lon.letter
  pub validity : f'.validity ≡ f.validity
  pub pressure : f'.pressure ≡ f.pressure
  pub gnss : f'.gnss ≡ f.gnss

-- the value of a line of a family: of a B line its fix, of a K or an N line its time, which stays
abbrev pub ValueAsBefore : (f : Family) → Layout → Layout → ValueOf f → ValueOf f → Type 0
ValueAsBefore family.B old new v v' = FixAsBefore old new v v'
ValueAsBefore (family.Extra x) old new t t' = t' ≡ t

-- Line l read by the old layout, and l' by the new one: each says a value with the entries of its layout, the value as before; and "an old column reads as before when the look for its
-- code gives the same text, and the same number or 20, wherever its bytes now stand".
pub record AsBefore (f : Family) (old new : Layout) (l l' : List ℕ) : Type 0 where
  pub value : ValueOf f
  pub value' : ValueOf f
  pub before : reading f l old ≡ says (record { value = value; entries = old })
  pub after : reading f l' new ≡ says (record { value = value'; entries = new })
  pub same : ValueAsBefore f old new value value'
  pub text : (name : List ℕ) → carries old (packed_of name) ≡ true → (t : List ℕ) × (text_said l old name ≡ says t) × (text_said l' new name ≡ says t)
  pub number : (name : List ℕ) → carries old (packed_of name) ≡ true → look_number l' new name ≡ look_number l old name

-- ---- the presence word

-- the bits of the listed codes that the new layout carries and the old one does not; the first row has the number n
unfoldable pub added_from : Layout → Layout → List Listed → ℕ → ℕ
added_from old new [] n = 0
added_from old new (r ∷ rs) n = cond (carries new r.code && not (carries old r.code)) 1 0 * 2 ^ n + added_from old new rs (suc n)

-- and how many they are
unfoldable pub added_in : Layout → Layout → List Listed → ℕ
added_in old new [] = 0
added_in old new (r ∷ rs) = cond (carries new r.code && not (carries old r.code)) 1 0 + added_in old new rs

-- "One u32 word tells which listed codes an I line carries, a bit for each number, with the count of those columns": both layouts have one, the new one has the old bits
-- and those of the listed codes added, and counts the added columns beside the old.
pub record MoreBits (old new : Layout) : Type 0 where
  pub before : Presence
  pub after : Presence
  pub old_said : presence_said old ≡ says before
  pub new_said : presence_said new ≡ says after
  pub word : after.word ≡ before.word + added_from old new listed 0
  pub count : after.count ≡ before.count + added_in old new listed

-- ---- the file

-- how many layout lines are put in
abbrev pub put_into : {fs : List Family} {old new : Layouts} {ls ls' : Lines} → LayoutLines fs old new ls ls' → ℕ
put_into (all b) = 0
put_into (without r) = put_into r
put_into (changed e e' x r) = put_into r
put_into (put e' r) = put_into r + 1

abbrev pub put_in : {ls ls' : Lines} → Wider ls ls' → ℕ
put_in (front x w) = put_in w
put_in (from r) = put_into r

-- What file', of which f' is said, has in common with file, of which f is said, where so many layout lines were put in: the date; the count of B lines, of K lines and of
-- N lines; whether it is signed; the declaration, the events and all other lines of kinds that neither tell a layout nor have columns; the first fix, the second and so on, and so the K lines and
-- the N lines, in every old value and every old column.
pub record ReadsAsBefore (file file' : List ℕ) (f f' : Flight) (more : ℕ) : Type 0 where
  pub date : f'.date ≡ f.date
  pub lines : f'.lines ≡ f.lines + more
  pub counts : (g : Family) → count_of g f'.counts ≡ count_of g f.counts
  pub signed : f'.signed ≡ f.signed
  pub declaration : lines_with (λ k. is_declaring (role_of k)) (lines_of file') ≡ lines_with (λ k. is_declaring (role_of k)) (lines_of file)
  pub events : lines_with (λ k. is_event (role_of k)) (lines_of file') ≡ lines_with (λ k. is_event (role_of k)) (lines_of file)
  pub others : (test : Kind → Bool) → ((k : Kind) (g : Family) → role_of k ≡ role.Tells g → test k ≡ false)
      → ((k : Kind) (g : Family) → role_of k ≡ role.Columned g → test k ≡ false) → lines_with test (lines_of file') ≡ lines_with test (lines_of file)
  pub columned : (g : Family) (n : ℕ) → n < count_of g f.counts
      → AsBefore g (layout_of g f.layouts) (layout_of g f'.layouts) (line_of g file n) (line_of g file' n)
  pub presence : MoreBits f.layouts.b f'.layouts.b

-- The same; and in each layout every old column is as wide as it was.
pub record LayoutsAsBefore (file file' : List ℕ) (f f' : Flight) (more : ℕ) : Type 0 where
  pub reads : ReadsAsBefore file file' f f' more
  pub layouts : (g : Family) → Extends (layout_of g f.layouts) (layout_of g f'.layouts)

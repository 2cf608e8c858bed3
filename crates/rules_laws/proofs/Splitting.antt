-- A file and its lines: how a file is cut, that nothing is lost, and that a step and the table's entries lead to the lines in their order. Assumes nothing.
use Rattle.std.specs.Prelude.{None, Some}
use Prim.Native.Nat.{ℕ, zero, suc, ◌+◌, ◌-◌, ◌≤◌, ◌<◌}
use mathlib.Core.Bool.{Bool, true, false, cond}
use mathlib.Core.List.{List, [], ◌∷◌, ◌++◌}
use mathlib.Core.Path.{◌≡◌, refl, sym, ap, ◌∙◌}
use native.Mathlib.Omega.{arith}
use borrow.Author.Tests.{le-leb, eq-eqb, ne_eqb, eqb-true, eqb-false}
use lib.Dec.{eqb}
use lib.ListN.{length, get_or, drop, length-append, length-drop}
use lib.Seq.{drop-drop, drop-append_seam, take-append_seam}
use Rattle.rules.specs.Choice.{part, on}
use Rattle.rules.specs.Refusals.{says}
use Rattle.rules.specs.Split.{Lines, end, broken, line, text, lines_of, after_cr, offsets, begins_crlf, first_crlf, is_start, bounds_of, line_text, step_at}

-- ---- a file made of lines is read as those lines

-- neither CR nor LF
abbrev pub Text : List ℕ → Type 0
Text [] = Unit {0}
Text (b ∷ t) = (b ≡ 13 → ⊥) × (b ≡ 10 → ⊥) × Text t

pub lines_of_line : (t rest : List ℕ) → Text t → lines_of (t ++ 13 ∷ 10 ∷ rest) ≡ line t (lines_of rest)
unfolding lines_of text
lines_of_line [] rest h = refl
lines_of_line (b ∷ t) rest h = simp (ne_eqb _ _ h.0, ne_eqb _ _ h.1, lines_of_line t rest h.2)

-- ---- how the first line lies in the bytes

pub record Cut (l t : List ℕ) (ls : Lines) : Type 0 where
  pub rest : List ℕ
  pub clear : Text t
  pub bytes : l ≡ t ++ 13 ∷ 10 ∷ rest
  pub lines : lines_of rest ≡ ls

abbrev Good : List ℕ → Lines → Type 0
Good l end = l ≡ []
Good l (broken n) = Unit {0}
Good l (line t ls) = Cut l t ls

good_text : (b : ℕ) (r : List ℕ) (k : Lines) → (b ≡ 13 → ⊥) → (b ≡ 10 → ⊥) → Good r k → Good (b ∷ r) (text b k)
unfolding text
good_text b r end m n g = tt
good_text b r (broken k) m n g = tt
good_text b r (line t ls) m n g = record { rest = g.rest; clear = (m, n, g.clear); bytes = ap (λ (x : List ℕ). b ∷ x) g.bytes; lines = g.lines }

good_lf : (c : ℕ) (r : List ℕ) (x : Bool) → eqb c 10 ≡ x → Good (13 ∷ c ∷ r) (cond x (line [] (lines_of r)) (broken 0))
good_lf c r true e = record { rest = r; clear = tt; bytes = rw (eqb-true c 10 e); lines = refl }
good_lf c r false e = tt

good_cr : (r : List ℕ) → Good (13 ∷ r) (after_cr r)
unfolding after_cr
good_cr [] = tt
good_cr (c ∷ r) = good_lf c r (eqb c 10) refl

good_byte : (b : ℕ) (r : List ℕ) (x y : Bool) → eqb b 13 ≡ x → eqb b 10 ≡ y → Good r (lines_of r)
    → Good (b ∷ r) (cond x (after_cr r) (cond y (broken 0) (text b (lines_of r))))
good_byte b r true y e f g = rw (eqb-true b 13 e) (good_cr r)
good_byte b r false true e f g = tt
good_byte b r false false e f g = good_text b r (lines_of r) (eqb-false b 13 e) (eqb-false b 10 f) g

good : (l : List ℕ) → Good l (lines_of l)
unfolding lines_of
good [] = refl
good (b ∷ r) = good_byte b r (eqb b 13) (eqb b 10) refl refl (good r)

-- where a line is read, its bytes stand first, then CR LF, then what the other lines are read from
pub cut : (l t : List ℕ) (ls : Lines) → lines_of l ≡ line t ls → Cut l t ls
cut l t ls e = rw e at (good l)

pub none_left : (l : List ℕ) → lines_of l ≡ end → l ≡ []
none_left l e = rw e at (good l)

-- ---- a file whose lines all end is those lines, each with its CR LF

abbrev pub Whole : Lines → Type 0
Whole end = Unit {0}
Whole (broken n) = ⊥
Whole (line t ls) = Whole ls

abbrev pub unlines : Lines → List ℕ
unlines end = []
unlines (broken n) = []
unlines (line t ls) = t ++ 13 ∷ 10 ∷ unlines ls

back : (k : Lines) (l : List ℕ) → lines_of l ≡ k → Whole k → unlines k ≡ l
back end l e w = sym (none_left l e)
back (broken n) l e w = absurd w
back (line t ls) l e w = let c = cut l t ls e in rw (back ls c.rest c.lines w) (sym c.bytes)

pub file_is_its_lines : (file : List ℕ) → Whole (lines_of file) → unlines (lines_of file) ≡ file
file_is_its_lines file w = back (lines_of file) file refl w

-- each line of the file is text, and lines of text are read back
abbrev pub AllText : Lines → Type 0
AllText end = Unit {0}
AllText (broken n) = Unit {0}
AllText (line t ls) = Text t × AllText ls

texts_by : (k : Lines) (l : List ℕ) → lines_of l ≡ k → AllText k
texts_by end l e = tt
texts_by (broken n) l e = tt
texts_by (line t ls) l e = let c = cut l t ls e in (c.clear, texts_by ls c.rest c.lines)

pub lines_are_text : (file : List ℕ) → AllText (lines_of file)
lines_are_text file = texts_by (lines_of file) file refl

pub lines_read_back : (k : Lines) → AllText k → Whole k → lines_of (unlines k) ≡ k
unfolding lines_of
lines_read_back end h w = refl
lines_read_back (broken n) h w = absurd w
lines_read_back (line t ls) h w = lines_of_line t (unlines ls) h.0 ∙ ap (line t) (lines_read_back ls h.1 w)

-- "line lengths plus 2 each total the file's length"
abbrev pub total : Lines → ℕ
total end = 0
total (broken n) = 0
total (line t ls) = length t + 2 + total ls

length_unlines : (k : Lines) → length (unlines k) ≡ total k
length_unlines end = refl
length_unlines (broken n) = refl
length_unlines (line t ls) = omega (arith, length-append t (13 ∷ 10 ∷ unlines ls), length_unlines ls)

pub lengths_total : (file : List ℕ) → Whole (lines_of file) → total (lines_of file) ≡ length file
lengths_total file w = sym (length_unlines (lines_of file)) ∙ ap length (file_is_its_lines file w)

-- ---- the first CR LF is the line's end

first_text : (t rest : List ℕ) (at : ℕ) → Text t → first_crlf at (t ++ 13 ∷ 10 ∷ rest) ≡ Some (at + length t)
unfolding first_crlf begins_crlf
first_text [] rest at h = ap Some (omega arith)
first_text (b ∷ t) rest at h = simp (ne_eqb _ _ h.0) (first_text t rest (at + 1) h.2 ∙ ap Some (omega arith))

pub first_is_end : (l t : List ℕ) (ls : Lines) (at : ℕ) → lines_of l ≡ line t ls → first_crlf at l ≡ Some (at + length t)
first_is_end l t ls at e = let c = cut l t ls e in rw c.bytes (first_text t c.rest at c.clear)

-- ---- a line at a place of the file

pub record LineAt (file : List ℕ) (at : ℕ) (t : List ℕ) (ls : Lines) : Type 0 where
  pub inside : at + length t + 2 ≤ length file
  pub ends : first_crlf at (drop at file) ≡ Some (at + length t)
  pub text : part at (at + length t) file ≡ t
  pub starts : is_start file (at + length t + 2) ≡ true
  pub after : lines_of (drop (at + length t + 2) file) ≡ ls

module _ (file : List ℕ) (at : ℕ) (t rest : List ℕ) (e : drop at file ≡ t ++ 13 ∷ 10 ∷ rest) where
  to_end : drop (at + length t) file ≡ 13 ∷ 10 ∷ rest
  to_end = sym (drop-drop (length t) at file) ∙ rw e (drop-append_seam t (13 ∷ 10 ∷ rest))

  past_end : drop (at + length t + 2) file ≡ rest
  past_end = sym (drop-drop 2 (at + length t) file) ∙ rw to_end

  inside_file : at + length t + 2 ≤ length file
  inside_file = omega (arith, ap length e, length-drop at file, length-append t (13 ∷ 10 ∷ rest))

  taken : part at (at + length t) file ≡ t
  taken = let n : at + length t - at ≡ length t = omega arith in rw (n, e) (take-append_seam t (13 ∷ 10 ∷ rest))

  next_starts : is_start file (at + length t + 2) ≡ true
  unfolding is_start begins_crlf
  next_starts =
      let n : at + length t + 2 - 2 ≡ at + length t = omega arith in
      rw (ne_eqb (at + length t + 2) 0 (λ z. omega arith), le-leb 2 (at + length t + 2) (omega arith), n, to_end)

pub line_at : (file : List ℕ) (at : ℕ) (t : List ℕ) (ls : Lines) → lines_of (drop at file) ≡ line t ls → LineAt file at t ls
line_at file at t ls e =
    let c = cut (drop at file) t ls e in record {
      inside = inside_file file at t c.rest c.bytes;
      ends = first_is_end (drop at file) t ls at e;
      text = taken file at t c.rest c.bytes;
      starts = next_starts file at t c.rest c.bytes;
      after = rw (past_end file at t c.rest c.bytes) c.lines;
    }

-- ---- stepping over the lines

-- what the steps from a place on find: each line in its order, and then that none is left; nothing is claimed from a broken line on
abbrev pub Steps : List ℕ → ℕ → Lines → Type 0
Steps file at end = step_at file at ≡ says (record { found = None; next = at })
Steps file at (broken n) = Unit {0}
Steps file at (line t ls) =
    (step_at file at ≡ says (record { found = Some (record { from = at; to = at + length t }); next = at + length t + 2 }))
    × (part at (at + length t) file ≡ t)
    × Steps file (at + length t + 2) ls

step_none : (file : List ℕ) (at : ℕ) → at ≡ length file → step_at file at ≡ says (record { found = None; next = at })
unfolding step_at
step_none file at e = rw (le-leb at (length file) (omega arith), eq-eqb at (length file) e)

step_line : (file : List ℕ) (at e : ℕ) → at < length file → first_crlf at (drop at file) ≡ Some e
    → step_at file at ≡ says (record { found = Some (record { from = at; to = e }); next = e + 2 })
unfolding step_at
step_line file at e h f = rw (le-leb at (length file) (omega arith), ne_eqb at (length file) (λ z. omega arith), f)

steps_from : (file : List ℕ) (k : Lines) (at : ℕ) → at ≤ length file → lines_of (drop at file) ≡ k → Steps file at k
steps_from file end at h e = step_none file at (omega (arith, ap length (none_left (drop at file) e), length-drop at file))
steps_from file (broken n) at h e = tt
steps_from file (line t ls) at h e =
    let l = line_at file at t ls e in
    (step_line file at (at + length t) (omega (arith, l.inside)) l.ends, l.text, steps_from file ls (at + length t + 2) l.inside l.after)

-- from place 0, where all lines end: exactly the lines, and then none
pub steps : (file : List ℕ) → Steps file 0 (lines_of file)
steps file = steps_from file (lines_of file) 0 (omega arith) refl

-- ---- a line by its number

abbrev pub texts_of : Lines → List (List ℕ)
texts_of end = []
texts_of (broken n) = []
texts_of (line t ls) = t ∷ texts_of ls

-- an offset that leads to a line
pub record Leads (file : List ℕ) (o : ℕ) (t : List ℕ) : Type 0 where
  pub start : is_start file o ≡ true
  pub ends : first_crlf o (drop o file) ≡ Some (o + length t)
  pub text : part o (o + length t) file ≡ t

pub length_offsets : (k : Lines) (at : ℕ) → length (offsets at k) ≡ length (texts_of k)
unfolding offsets
length_offsets end at = refl
length_offsets (broken n) at = refl
length_offsets (line t ls) at = ap suc (length_offsets ls (at + length t + 2))

offsets_lead : (file : List ℕ) (k : Lines) (at n : ℕ) → lines_of (drop at file) ≡ k → is_start file at ≡ true → n < length (texts_of k)
    → Leads file (get_or (offsets at k) n 0) (get_or (texts_of k) n [])
unfolding offsets
offsets_lead file end at n e s h = absurd (omega arith)
offsets_lead file (broken b) at n e s h = absurd (omega arith)
offsets_lead file (line t ls) at zero e s h = let l = line_at file at t ls e in record { start = s; ends = l.ends; text = l.text }
offsets_lead file (line t ls) at (suc n) e s h =
    let l = line_at file at t ls e in offsets_lead file ls (at + length t + 2) n l.after l.starts (omega arith)

-- the offset of each line leads to that line
pub offset_leads : (file : List ℕ) (n : ℕ) → n < length (texts_of (lines_of file)) → Leads file (get_or (offsets 0 (lines_of file)) n 0) (get_or (texts_of (lines_of file)) n [])
unfolding is_start
offset_leads file n h = offsets_lead file (lines_of file) 0 n refl refl h

module _ (file table : List ℕ) (n o : ℕ) (t : List ℕ) (low : 1 ≤ n) (high : n ≤ length table) (e : get_or table (n - 1) 0 ≡ o) (l : Leads file o t) where
  pub bounds_lead : bounds_of file table n ≡ says (record { from = o; to = o + length t })
  unfolding bounds_of on
  bounds_lead = rw (le-leb 1 n low, le-leb n (length table) high, e, l.start, l.ends)

  pub text_there : line_text file (bounds_of file table n) ≡ t
  unfolding line_text
  text_there = rw bounds_lead l.text

-- Document 01, 'Which kind may follow which' and the time order of 'Fields': what the lines before tell of a line that comes after them. They are given in their
-- order, each without its CR LF, and a line's kind is told by its first byte. They have passed; a field of theirs that could not be read would count as 0.
use Rattle.std.specs.Prelude.{ℕ, zero, suc, ◌+◌, ◌-◌, ◌<◌, Bool, true, false, not, ◌&&◌, ◌||◌, cond, List, [], ◌∷◌, ◌++◌, ◌↔◌, ◌≡◌, eqb, leb, ltb, length, get_or, None, Option, Some}
use Prim.Native.Char.{code}
use Rattle.rules.specs.Families.{layout_letter}
use Rattle.rules.specs.Choice.{given, byte, bytes, Each}
use Rattle.rules.specs.Numbers.{number_at}
use Rattle.rules.specs.Fields.{time_at}
use Rattle.rules.specs.Listed.{code_at}
use Rattle.rules.specs.declared.Entry.{Entry}
use Rattle.rules.specs.declared.Extra.TheVariants as extra
use Rattle.rules.specs.declared.Family.{Family}
use Rattle.rules.specs.declared.Family.TheVariants as family
use Rattle.rules.specs.declared.Head.{Head}
use Rattle.rules.specs.declared.Role.{Role}
use Rattle.rules.specs.declared.Role.TheVariants as role
use Rattle.grammar.specs.Grammar.{IsHeadLine, IsPointLine, Follows, AtMostOne, laid, beginning}

-- a field's value, 0 where it could not be read
abbrev pub or_zero : Option ℕ → ℕ
or_zero o = given o 0 λ v. v

-- ---- letters

-- one of these letters
unfoldable pub is_among : List ℕ → ℕ → Bool
is_among [] b = false
is_among (x ∷ xs) b = eqb b x || is_among xs b

-- each line begins with one of these letters
unfoldable pub only : List ℕ → List (List ℕ) → Bool
only xs [] = true
only xs (l ∷ ls) = is_among xs (get_or l 0 0) && only xs ls

-- no line begins with this letter
abbrev pub without : ℕ → List (List ℕ) → Bool
without x ls = eqb (beginning x ls) 0

-- the last line begins with this letter
unfoldable pub ends_with : ℕ → List (List ℕ) → Bool
ends_with x [] = false
ends_with x (l ∷ []) = eqb (get_or l 0 0) x
ends_with x (l ∷ k ∷ ls) = ends_with x (k ∷ ls)

-- ---- the declaration

-- "its point lines, as many as its turn points plus 4 (take-off, start, finish, landing)"; a head has the "2-digit number of turn points" at 24
abbrev pub points_of : List ℕ → ℕ
points_of head = or_zero (number_at head (byte 24) 2) + 4

-- "a C head, then at once its point lines": the first C line is the head, and fewer lines have come after it than it has points
unfoldable pub is_open : List (List ℕ) → Bool
is_open [] = false
is_open (l ∷ ls) = cond (eqb (get_or l 0 0) (code "C")) (ltb (length ls) (points_of l)) (is_open ls)

-- the same in the grammar's words: the lines end with a head and its first points, fewer than all of them
pub record Open (ls : List (List ℕ)) : Type 0 where
  pub before : List (List ℕ)
  pub head : List ℕ
  pub points : List (List ℕ)
  pub order : ls ≡ before ++ (head ∷ points)
  pub no_other : Each (λ l. get_or l 0 0 ≡ code "C" → ⊥) before
  pub says : Head
  pub is_head : IsHeadLine says head
  pub are_points : Each IsPointLine points
  pub fewer : length points < says.turns + 4

-- ---- which kind may come

-- "After these come C, D, E, F, B, K, L and other", and N: behind the first two lines, and before the first G
unfoldable pub is_body : List (List ℕ) → Bool
is_body ls = leb 2 (length ls) && without (code "G") ls

-- "Line 1 is A, line 2 is H, then further H lines, then at most one I, then at most one J."; of M: "straight after J, or after I or the H lines if those are missing": the letters
-- of the lines before an I line, before a J line, and before an M line
abbrev pub letters_before : Family → List ℕ
unfolding bytes
letters_before family.B = bytes "AH"
letters_before (family.Extra extra.K) = bytes "AHI"
letters_before (family.Extra extra.N) = bytes "AHIJ"

-- "Line 1 is A, line 2 is H, then further H lines, then at most one I, then at most one J. After these come C, D, E, F, B, K, L and other, with no further A, H,
-- I, J. At most one declaration (h), begun before the first B: a C head, then at once its point lines .. Then one or more G lines. After the first G only G or L;
-- after an L that follows a G, only L. So a B after G is refused, as 000 A2.3.1 demands." With B and K come N lines; and "M is built as J is, at most one".
unfoldable pub may_come : Role → List (List ℕ) → Bool
unfolding bytes
-- line 1, and "no further A"
may_come role.Opens ls = eqb (length ls) 0
-- behind line 1, among H lines only
may_come role.Heads ls = leb 1 (length ls) && only (bytes "AH") ls
-- behind line 2, with only the A line, H lines and earlier layout lines before it
may_come (role.Tells f) ls = leb 2 (length ls) && only (letters_before f) ls
-- the next point of the declaration, or the head of the only one, before the first B
may_come role.Declares ls = (is_open ls || (without (code "C") ls && without (code "B") ls)) && is_body ls
-- "at once its point lines": no other kind comes between them
may_come (role.Columned f) ls = not (is_open ls) && is_body ls
may_come role.Event ls = not (is_open ls) && is_body ls
may_come role.Satellites ls = not (is_open ls) && is_body ls
may_come role.Differential ls = not (is_open ls) && is_body ls
may_come role.Other ls = not (is_open ls) && is_body ls
-- before and after the first G
may_come role.Remark ls = not (is_open ls) && leb 2 (length ls)
-- the first G, or one right behind a G
may_come role.Seals ls = not (is_open ls) && (leb 2 (length ls) && (without (code "G") ls || ends_with (code "G") ls))
may_come role.NoRole ls = false

-- ---- the columns that an I, a J or an M line tells

-- "start SS, finish FF and a code CCC", behind `at` bytes
abbrev pub entry_of : List ℕ → ℕ → Entry
entry_of l at = record { first = or_zero (number_at l at 2); last = or_zero (number_at l (at + 2) 2); code = or_zero (code_at l (at + 4)) }

-- so many entries, the first behind `at` bytes
unfoldable pub entries_in : ℕ → List ℕ → ℕ → List Entry
entries_in zero l at = []
entries_in (suc left) l at = entry_of l at ∷ entries_in left l (at + 7)

-- the lines that begin with this letter
unfoldable pub those : ℕ → List (List ℕ) → List (List ℕ)
those x [] = []
those x (l ∷ ls) = cond (eqb (get_or l 0 0) x) (l ∷ those x ls) (those x ls)

-- "NN, then NN entries": those of the first of these lines
abbrev pub first_entries : List (List ℕ) → List Entry
first_entries [] = []
first_entries (l ∷ ls) = entries_in (or_zero (number_at l (byte 2) 2)) l (byte 4)

-- the entries of the I line, for B lines, of the J line, for K lines, or of the M line, for N lines; none where there is "no such line"
abbrev pub entries_told : Family → List (List ℕ) → List Entry
entries_told f ls = first_entries (those (layout_letter f) ls)

-- the last FF, where there is one, else n
unfoldable pub ends_at : ℕ → List Entry → ℕ
ends_at n [] = n
ends_at n (e ∷ es) = ends_at e.last es

-- "A line of that kind ends at the last FF; with NN 00, or no such line, B has 35 and K has 7."; "N is built as K is"
abbrev pub size_of : Family → List Entry → ℕ
size_of family.B es = ends_at 35 es
size_of (family.Extra x) es = ends_at 7 es

-- ---- the time order

-- "B, E, F and K lines run in time order."; of N: "and it joins the time order"
abbrev pub timed_letters : List ℕ
timed_letters = code "B" ∷ code "E" ∷ code "F" ∷ code "K" ∷ code "N" ∷ []

-- the time, at 2 to 7, of the last B, E, F, K or N line, where there is one
unfoldable pub last_time : List (List ℕ) → Option ℕ
last_time [] = None
last_time (l ∷ ls) = given (last_time ls) (cond (is_among timed_letters (get_or l 0 0)) (time_at l (byte 2)) None) λ t. Some t

-- a B, E, F, K or N line
abbrev pub IsTimed : List ℕ → Type 0
IsTimed l = is_among timed_letters (get_or l 0 0) ≡ true

abbrev pub NoTime : List ℕ → Type 0
NoTime l = IsTimed l → time_at l (byte 2) ≡ None

-- "A fall of more than 43,200 seconds from the one before counts as the next day; a smaller fall, or one of exactly 43,200, is refused (h). Equal times are fine."
unfoldable pub is_in_time : Option ℕ → ℕ → Bool
is_in_time before now = given before true λ t. leb t now || ltb 43200 (t - now)

-- the last B, E, F, K or N line with a time, and that time; each that has passed has one
pub record Latest (ls : List (List ℕ)) (t : ℕ) : Type 0 where
  pub before : List (List ℕ)
  pub line : List ℕ
  pub after : List (List ℕ)
  pub order : ls ≡ before ++ (line ∷ after)
  pub timed : IsTimed line
  pub time : time_at line (byte 2) ≡ Some t
  pub no_later : Each NoTime after

-- ---- what these tests mean, in the grammar's words, of lines that have passed

pub record Meant (ls : List (List ℕ)) : Type 0 where
  pub declaration : (is_open ls ≡ true) ↔ Open ls
  -- "at most one I", "at most one J", of M "at most one", and their entries
  pub told : (f : Family) → AtMostOne f (laid (entries_told f ls)) (those (layout_letter f) ls)
  -- the time before is that of the last timed line, and from it on a time is in order where it follows it
  pub latest : (t : ℕ) → last_time ls ≡ Some t → Latest ls t
  pub no_time : last_time ls ≡ None → Each NoTime ls
  pub times : (t now : ℕ) → last_time ls ≡ Some t → (is_in_time (last_time ls) now ≡ true) ↔ Follows t now

-- Document 01, 'I and J layouts': the columns that an I, a J or an M line tells, over the place where the first one starts.
use Rattle.rules.specs.declared.Refusal.{Refusal}
use Rattle.std.specs.Prelude.{ℕ, zero, suc, ◌+◌, ◌-◌, ◌*◌, ◌^◌, Bool, true, false, not, ◌&&◌, cond, List, [], ◌∷◌, ◌≡◌, eqb, leb, length, get_or, take, drop, set, replicate, Option, Result}
use Rattle.std.specs.Int.Count.{ones}
use Rattle.rules.specs.Choice.{given, need, first_of, leads, part, byte}
use Rattle.rules.specs.Refusals.{Said, says, refuses, no, refusal, outcome, value_or, and_then, breaks, result_told}
use Rattle.rules.specs.Families.{first_start}
use Rattle.rules.specs.Numbers.{number_at}
use Rattle.rules.specs.Listed.{code_at, is_code_word, listed, width_fits, keeps_limit, listed_number}
use Rattle.rules.specs.declared.Reason.TheVariants.{Tile, Twice, Width, Column, BadValue}
use Rattle.rules.specs.declared.AtLimit.{AtLimit}
use Rattle.rules.specs.declared.Listed.{Listed}
use Rattle.rules.specs.declared.Entry.{Entry}
use Rattle.rules.specs.declared.Layout.{Layout}
use Rattle.rules.specs.declared.Family.{Family}
use Rattle.rules.specs.declared.Family.TheVariants as family
use Rattle.rules.specs.declared.Presence.{Presence}
use Rattle.rules.specs.declared.Class.TheVariants as class
use Rattle.rules.specs.declared.Span.{Span}

-- what stands behind the last entry
abbrev pub unused : Entry
unused = record { first = 0; last = 0; code = 0 }

-- no columns: "with NN 00, or no such line"
abbrev pub empty_layout : Layout
empty_layout = record { count = 0; entries = replicate 13 unused }

-- one entry more, behind those that are there
abbrev pub with_entry : Layout → Entry → Layout
with_entry l e = record { count = l.count + 1; entries = set l.entries l.count e }

-- the entries of a layout, in their order
abbrev pub entries_of : Layout → List Entry
entries_of l = take l.count l.entries

abbrev pub span_of : Entry → Span
span_of e = record { first = e.first; last = e.last }

-- the first and last byte of the column of a code, among entries and in a layout
abbrev pub look_in : List Entry → ℕ → Option Span
look_in es x = first_of (λ e. eqb e.code x) (λ k e. span_of e) es 0

unfoldable pub look : Layout → ℕ → Option Span
look l x = look_in (entries_of l) x

-- whether a code has a column
unfoldable pub carries : Layout → ℕ → Bool
carries l x = given (look l x) false λ s. true

-- One entry against those before it, refusals at the entry's first byte: "10 TILE: SS or FF wrong", "each next starts one past the last finish (h); FF is not
-- below SS"; "11 TWICE: code again", "No code comes twice in one layout"; "12 WIDTH: listed code, wrong width".
unfoldable pub placed : ℕ → Layout → Entry → ℕ → Said Entry
placed start before e first =
    need (eqb e.first start) (no Tile first) λ _.
    need (leb e.first e.last) (no Tile first) λ _.
    need (not (carries before e.code)) (no Twice first) λ _.
    need (width_fits e.code (e.last - e.first + 1)) (no Width first) λ _.
    says e

-- The entry that stands behind `at` bytes: "start SS, finish FF and a code CCC", "entries from the left, each by 9, 10, 11, 12".
unfoldable pub entry_at : List ℕ → ℕ → ℕ → Layout → Said Entry
entry_at l at start before =
    given (number_at l at 2) (breaks class.Other (at + 1)) λ ss.
    given (number_at l (at + 2) 2) (breaks class.Other (at + 3)) λ ff.
    given (code_at l (at + 4)) (breaks class.Other (at + 5)) λ ccc.
    placed start before (record { first = ss; last = ff; code = ccc }) (at + 1)

-- the entries that are left, behind those of a layout
unfoldable pub entries_from : ℕ → List ℕ → ℕ → ℕ → Layout → Said Layout
entries_from zero l at start before = says before
entries_from (suc left) l at start before =
    and_then (entry_at l at start before) λ e. entries_from left l (at + 7) (e.last + 1) (with_entry before e)

-- "NN, then NN entries"; "The length is 3 + 7 × NN"; "NN and the length against it come first (9, byte 2), then entries from the left"
unfoldable pub layout_fields : ℕ → List ℕ → Said Layout
layout_fields start l =
    given (number_at l (byte 2) 2) (breaks class.Other 2) λ nn.
    need (eqb (length l) (3 + 7 * nn)) (breaks class.Other 2) λ _.
    entries_from nn l (byte 4) start empty_layout

module _ {A : Type 0} where
  -- there is a value
  abbrev pub is_said : Said A → Bool
  is_said (says v) = true
  is_said (refuses n l b) = false

-- an entry that two digits each and three code characters can spell
unfoldable pub is_spelt : Entry → Bool
is_spelt e = leb e.last 99 && is_code_word e.code

-- every entry can be spelt, and keeps the rules behind those before it
unfoldable pub all_placed : List Entry → ℕ → Layout → Bool
all_placed [] start before = true
all_placed (e ∷ es) start before = is_spelt e && is_said (placed start before e 0) && all_placed es (e.last + 1) (with_entry before e)

unfoldable pub is_unused : Entry → Bool
is_unused e = eqb e.first 0 && eqb e.last 0 && eqb e.code 0

-- A layout is allowed where a line can tell it: up to 13 entries, each by the rules from the first start on, and nothing behind them.
unfoldable pub allowed : ℕ → Layout → Bool
allowed start l =
    leb l.count 13 && all_placed (entries_of l) start empty_layout && leads is_unused (13 - l.count) (drop l.count l.entries)

-- "A line of that kind ends at the last FF; with NN 00, or no such line, B has 35 and K has 7."; N as K
unfoldable pub line_length : ℕ → Layout → ℕ
line_length start l = cond (eqb l.count 0) (start - 1) (get_or l.entries (l.count - 1) unused).last

-- the text of a column of a line
abbrev pub column_text : List ℕ → Span → List ℕ
column_text l s = part (byte s.first) s.last l

-- "13 COLUMN: listed column against its rule; line, column's first byte"; "13 for digits past a limit" (document 02)
unfoldable pub bad_column : AtLimit → List ℕ → Layout → Option ℕ
bad_column at l layout =
    first_of (λ e. not (keeps_limit at e.code (column_text l (span_of e)))) (λ k e. e.first) (entries_of layout) 0

-- every listed column of a line by its rule
unfoldable pub columns : AtLimit → List ℕ → Layout → Said (Unit {0})
columns at l layout = given (bad_column at l layout) (says tt) λ first. no Column first

-- 1 where the layout carries a listed code, else 0
abbrev pub bit : Layout → Listed → ℕ
bit l r = cond (carries l r.code) 1 0

-- "a bit for each number ..: bit n, worth 2^n, for number n"; the first row has the number n
unfoldable pub word_from : Layout → List Listed → ℕ → ℕ
word_from l [] n = 0
word_from l (r ∷ rs) n = bit l r * 2 ^ n + word_from l rs (suc n)

-- "One u32 word tells which listed codes an I line carries, a bit for each number, with the count of those columns"
unfoldable pub presence_of : Layout → Presence
presence_of l = record { word = word_from l listed 0; count = ones (word_from l listed 0) }

-- how many of the entries have a listed code
unfoldable pub listed_in : List Entry → ℕ
listed_in [] = 0
listed_in (e ∷ es) = listed_in es + given (listed_number e.code) 0 λ n. 1

-- "17 BAD_VALUE: value, layout, line number or place given is not allowed"
unfoldable pub length_said : Family → Layout → Said ℕ
length_said f l = need (allowed (first_start f) l) (no BadValue 0) λ _. says (line_length (first_start f) l)

-- the presence word of "which listed codes an I line carries", so of a layout for B lines
unfoldable pub presence_said : Layout → Said Presence
presence_said l = need (allowed (first_start family.B) l) (no BadValue 0) λ _. says (presence_of l)

-- the answers, in the paper's terms

-- the layout that was read, or the refusal
abbrev pub LayoutTold : Said Layout → Result Layout Refusal → Type 0
LayoutTold s r = result_told r ≡ s

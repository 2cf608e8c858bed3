-- The listing of document 01 behind its first line, as pages, each as much of it as a block takes: what is printed for a line, what stands on a page and which line follows
-- it, and the promises of the functions that put it.
use Rattle.std.specs.Prelude.{ℕ, zero, suc, ◌+◌, ◌-◌, cond, List, [], ◌∷◌, ◌++◌, ◌≡◌, leb, ltb, eqb, length, get_or}
use Prim.Native.Char.{code}
use Rattle.rules.specs.Choice.{need, part}
use Rattle.rules.specs.Layouts.{allowed}
use Rattle.rules.specs.Lines.{fix_fields}
use Rattle.rules.specs.Listing.{line_shown}
use Rattle.rules.specs.declared.Entry.{Entry}
use Rattle.rules.specs.declared.Layout.{Layout}
use Rattle.text_pieces.specs.Buffer.{Shown}
use Rattle.text_listing.specs.Lines.{column_line}
use Rattle.text_block.specs.declared.Page.{Page}

-- ---- a line

-- where the line behind `passed` others ends: its CR LF stands before the next line, or at the end of the file
unfoldable pub end_of : List ℕ → ℕ → ℕ → ℕ → ℕ
end_of table lines passed size = cond (ltb (passed + 1) lines) (get_or table (passed + 1) 0) size - 2

-- that line without its CR LF, by a table of the lines' offsets; no bytes where the offsets are no part of the file
unfoldable pub text_at : List ℕ → List ℕ → ℕ → ℕ → List ℕ
text_at file table lines passed =
    need (leb (get_or table passed 0) (end_of table lines passed (length file))) [] λ _.
    need (leb (end_of table lines passed (length file)) (length file)) [] λ _.
    part (get_or table passed 0) (end_of table lines passed (length file)) file

-- what is printed for it: its fix with its columns where it is a B line and its fields are good; the line's number is one more than the lines passed. What else the check
-- asks of a B line, each of an accepted file has passed.
unfoldable pub printed : ℕ → Layout → List ℕ → List ℕ
printed passed layout l = need (eqb (get_or l 0 0) (code "B")) [] λ _. line_shown (passed + 1) layout l (fix_fields l)

-- the columns' lines, one after the other
unfoldable pub column_lines : List ℕ → List Entry → List ℕ
column_lines l [] = []
column_lines l (e ∷ es) = column_line l e ++ column_lines l es

-- ---- a page: what a block takes

-- its text, and how many lines are passed with it
pub record Leaf : Type 0 where
  pub text : List ℕ
  pub next : ℕ

abbrev pub leaf : List ℕ → ℕ → Leaf
leaf text next = record { text = text; next = next }

abbrev pub before : List ℕ → Leaf → Leaf
before t s = leaf (t ++ s.text) s.next

module _ (file table : List ℕ) (lines : ℕ) (layout : Layout) where
  -- what is printed for the line behind `passed` others
  unfoldable pub printed_at : ℕ → List ℕ
  printed_at passed = printed passed layout (text_at file table lines passed)

  -- of `k` lines as many as surely have room behind `used` bytes of a block: 4,096 bytes are more than a line prints
  unfoldable pub leaf_from : ℕ → ℕ → ℕ → ℕ → Leaf
  leaf_from room zero passed used = leaf [] passed
  leaf_from room (suc k) passed used =
      cond (ltb room (used + 4096)) (leaf [] passed) (before (printed_at passed) (leaf_from room k (passed + 1) (used + length (printed_at passed))))

  -- the lines behind those passed; a layout that is not allowed reads no fix, so nothing is left to print
  unfoldable pub leaf_at : ℕ → ℕ → Leaf
  leaf_at room passed = cond (allowed 36 layout) (leaf_from room (lines - passed) passed 0) (leaf [] lines)

  -- the texts of the pages from one on, one behind the other, `k` pages at most
  unfoldable pub joined : ℕ → ℕ → ℕ → List ℕ
  joined room zero passed = []
  joined room (suc k) passed = cond (leb lines passed) [] ((leaf_at room passed).text ++ joined room k (leaf_at room passed).next)

-- ---- the promises

-- the block afterwards begins with the leaf's text and is behind it as it was; how many bytes that are, and how many lines are passed
pub record LeafPut (s : Leaf) (block : List ℕ) (r : Page) (after : List ℕ) : Type 0 where
  pub shown : Shown s.text block r.used after
  pub next : r.passed ≡ s.next

abbrev pub LinesFilled : List ℕ → List ℕ → ℕ → Layout → ℕ → List ℕ → Page → List ℕ → Type 0
LinesFilled file table lines layout passed block r after = LeafPut (leaf_from file table lines layout (length block) (lines - passed) passed 0) block r after

abbrev pub Filled : List ℕ → List ℕ → ℕ → Layout → ℕ → List ℕ → Page → List ℕ → Type 0
Filled file table lines layout passed block r after = LeafPut (leaf_at file table lines layout (length block) passed) block r after

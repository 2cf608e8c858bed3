-- A run of lines that are held against their places, and taken by plain numbers.
use Rattle.std.specs.Prelude.{ℕ, ◌+◌, ◌-◌, ◌≤◌, Bool, true, false, List, ◌≡◌, length, get_or, take}
use Rattle.rules.specs.Families.{first_start, layout_of}
use Rattle.rules.specs.Layouts.{entries_of}
use Rattle.rules.specs.declared.Extra.TheVariants as extra
use Rattle.rules.specs.declared.Family.{Family}
use Rattle.rules.specs.declared.Family.TheVariants as family
use Rattle.rules.specs.declared.State.{State}
use Rattle.check_front.specs.Front.{is_below}
use Rattle.check_places.specs.Places.{kept, laid, low_marks, span_marks, other_marks, fix_lows, fix_spans, fix_others, extra_lows, extra_spans, end_of, seconds_of}
use Rattle.check_clock.specs.declared.Pace.{Pace}
use Rattle.check_ahead.specs.Paces.{paced, Going, Known}
use Rattle.check_ahead.specs.Runs.{Running}

-- the lines of a family end where their last column does
abbrev pub Reaches : Family → State → ℕ → Type 0
Reaches f st size = size ≡ end_of (entries_of (layout_of f st.flight.layouts)) (first_start f - 1)

-- a pace of plain numbers
abbrev pub pace_by : ℕ → ℕ → ℕ → ℕ → ℕ → ℕ → ℕ → Pace
pace_by at stage clock lines fixes extras n = record { at = at; stage = stage; clock = clock; lines = lines; counts = record { b = fixes; k = extras; n = n } }

-- the places of B lines with this pattern, and of K lines
pub record FixLaid (pattern a s o : List ℕ) : Type 0 where
  pub low : a ≡ laid fix_lows low_marks pattern
  pub span : s ≡ laid fix_spans span_marks pattern
  pub other : o ≡ laid fix_others other_marks pattern

pub record ExtraLaid (pattern a s o : List ℕ) : Type 0 where
  pub low : a ≡ laid extra_lows low_marks pattern
  pub span : s ≡ laid extra_spans span_marks pattern
  pub other : o ≡ laid extra_lows other_marks pattern

-- each byte of a line that is `size` bytes long, and of CR LF, may stand at its place
pub record KeptTo (size : ℕ) (low span other l : List ℕ) : Type 0 where
  pub n : ℕ
  pub enough : size + 2 ≤ n
  pub most : n ≤ 112
  pub stand : kept (take n low) (take n span) (take n other) l ≡ true

pub record FixKept (size : ℕ) (low span other l : List ℕ) (t : ℕ) : Type 0 where
  pub stand : KeptTo size low span other l
  pub below : is_below (get_or l 15 0) (get_or l 16 0) ≡ true
  pub secs : t ≡ seconds_of l

pub record ExtraKept (size : ℕ) (low span other l : List ℕ) (t : ℕ) : Type 0 where
  pub stand : KeptTo size low span other l
  pub secs : t ≡ seconds_of l

pub record LineTimed (is : Bool) (l low span other : List ℕ) (b : ℕ) (low' span' other' : List ℕ) (k t : ℕ) : Type 0 where
  pub fix : is ≡ true → t ≤ 86399 → FixKept b low span other l t
  pub extra : is ≡ false → t ≤ 86399 → ExtraKept k low' span' other' l t

-- what a run knows of the lines that it holds against their places
pub record Ready (st : State) (p : Pace) (low span other : List ℕ) (b : ℕ) (low' span' other' : List ℕ) (k : ℕ) : Type 0 where
  pub fixes : List ℕ
  pub extras : List ℕ
  pub going : Going st p
  pub known : Known family.B st b fixes
  pub known' : Known (family.Extra extra.K) st k extras
  pub reached : Reaches family.B st b
  pub reached' : Reaches (family.Extra extra.K) st k
  pub places : FixLaid fixes low span other
  pub places' : ExtraLaid extras low' span' other'

pub record Strode (lent : Bool) (file table low span other : List ℕ) (b : ℕ) (low' span' other' : List ℕ) (k : ℕ) (p r : Pace) (table' : List ℕ) : Type 0 where
  pub long : length table' ≡ length table
  pub reach : (st : State) → Ready st p low span other b low' span' other' k → Running lent file table p.at (paced st p) table' r

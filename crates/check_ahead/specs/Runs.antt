-- What must hold before a run of lines that are surely good, and what holds after it.
use Rattle.std.specs.Prelude.{ℕ, ◌+◌, ◌≤◌, Bool, true, List, ◌≡◌, length, take}
use Rattle.rules.specs.Families.{first_start}
use Rattle.rules.specs.Roles.{after_h, in_body}
use Rattle.rules.specs.Layouts.{allowed, line_length, entries_of}
use Rattle.rules.specs.declared.Family.{Family}
use Rattle.rules.specs.declared.Extra.TheVariants as extra
use Rattle.rules.specs.declared.Family.TheVariants as family
use Rattle.rules.specs.declared.Layout.{Layout}
use Rattle.rules.specs.declared.Seal.{Seal}
use Rattle.rules.specs.declared.State.{State}
use Rattle.check_state.specs.States.{Few}
use Rattle.check_table.specs.Turns.{Here}
use Rattle.check_sure.specs.Sure.{pattern_of}
use Rattle.check_clock.specs.declared.Pace.{Pace}
use Rattle.check_ahead.specs.Paces.{paced, Going}
use Rattle.check_ahead.specs.declared.Ahead.{Ahead}
use Rattle.check_ahead.specs.declared.Gauge.{Gauge}

-- body lines may come behind `from` bytes of a file of allowed size, and the counts have room
pub record MayRun (file : List ℕ) (from : ℕ) (st : State) : Type 0 where
  pub points : st.points ≡ 0
  pub low : after_h ≤ st.stage
  pub high : st.stage ≤ in_body
  pub size : length file ≤ 16777216
  pub within : from ≤ length file
  pub few : Few st

-- a line can tell each of the layouts
pub record AllAllowed (st : State) : Type 0 where
  pub fixes : allowed (first_start family.B) st.flight.layouts.b ≡ true
  pub extras : allowed (first_start (family.Extra extra.K)) st.flight.layouts.k ≡ true
  pub unsigned : allowed (first_start (family.Extra extra.N)) st.flight.layouts.n ≡ true

-- what is known of the lines of a family with this layout
pub record Gauged (f : Family) (l : Layout) (r : Gauge) : Type 0 where
  pub sized : r.size ≡ line_length (first_start f) l
  pub ended : r.end ≤ length r.pattern
  pub columned : take r.end r.pattern ≡ pattern_of (entries_of l)

-- what held before the run holds after it: the lines between are passed, and their entries put
pub record Ran (lent : Bool) (file table : List ℕ) (from : ℕ) (st : State) (r : Ahead) (table' : List ℕ) : Type 0 where
  pub onward : from ≤ r.at
  pub long : length table' ≡ length table
  pub reach : (seal : Seal) (t₀ : List ℕ) → Here seal lent file t₀ table from st → Here seal lent file t₀ table' r.at r.state

-- the same at each turn of a run, for the numbers of a pace
pub record Running (lent : Bool) (file table₀ : List ℕ) (from : ℕ) (st : State) (table : List ℕ) (p : Pace) : Type 0 where
  pub going : Going st p
  pub long : length table ≡ length table₀
  pub begun : from ≤ p.at
  pub within : p.at ≤ length file
  pub lines : p.lines + from ≤ st.flight.lines + p.at
  pub reach : (seal : Seal) (t₀ : List ℕ) → Here seal lent file t₀ table₀ from st → Here seal lent file t₀ table p.at (paced st p)

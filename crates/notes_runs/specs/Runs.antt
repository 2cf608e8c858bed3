-- A run of notes: the places of the first notes that come after one, in order, as many as a list has room for.
use Rattle.std.specs.Prelude.{ℕ, ◌-◌, ◌≤◌, ◌<◌, true, false, List, ◌∷◌, ◌≡◌, length, take, drop, get_or}
use Rattle.std.proofs.lemmas.List.Edits.{sets}
use Rattle.notes_sorted.specs.Ways.{rest, keep}
use Rattle.notes_rules.specs.Places.{earlier, starts, inside}

-- where the note after that at i starts
pub record LineAfter (s : List ℕ) (i r : ℕ) : Type 0 where
  pub is : inside i (drop i s) ≡ starts r (drop r s)
  pub later : i < r

-- the last of the first n comes before x
pub record PastLast (s heads : List ℕ) (n x : ℕ) : Type 0 where
  pub some : 0 < n
  pub before : earlier s x (get_or heads (n - 1) 0) ≡ false

-- r of the first n come before x
pub record Found (s heads : List ℕ) (n x r : ℕ) : Type 0 where
  pub few : r ≤ n
  pub before : (k : ℕ) → k < r → earlier s x (get_or heads k 0) ≡ false
  pub behind : r < n → earlier s x (get_or heads r 0) ≡ true

-- x put at p, and the others up to m moved on by one
unfoldable pub pushed : List ℕ → ℕ → ℕ → ℕ → List ℕ
pushed heads p m x = sets heads p (take (m - p) (x ∷ drop p heads))

-- one more note looked at: the first r places of the list are the run, and the others are as they were
pub record Kept (s : List ℕ) (last : ℕ) (heads : List ℕ) (n x : ℕ) (heads' : List ℕ) (r : ℕ) : Type 0 where
  pub size : length heads' ≡ length heads
  pub fits : r ≤ length heads'
  pub is : take r heads' ≡ keep (earlier s) (length heads) last (take n heads) x
  pub more : n ≤ r
  pub left : drop r heads' ≡ drop r heads

-- the notes that come after `last`, in order
abbrev pub coming : List ℕ → ℕ → List ℕ
coming s last = rest (earlier s) last (starts 0 s)

-- the first of them, as many as there is room for; places behind them as they were
pub record Refilled (s : List ℕ) (last : ℕ) (heads heads' : List ℕ) (r : ℕ) : Type 0 where
  pub size : length heads' ≡ length heads
  pub fits : r ≤ length heads'
  pub is : take r heads' ≡ take (length heads) (coming s last)
  pub left : drop r heads' ≡ drop r heads

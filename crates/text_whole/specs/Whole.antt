-- A text that is put whole or not at all, where `Shown` would cut it.
use Rattle.std.specs.Prelude.{ℕ, cond, List, ◌++◌, ◌≡◌, leb, length, drop, None, Option, Some}

-- how many bytes; none where there is no room

-- the buffer begins with the text and is behind it as it was; where the text has no room, the buffer is as it was
pub record Delivered (text out : List ℕ) (r : Option ℕ) (after : List ℕ) : Type 0 where
  pub said : r ≡ cond (leb (length text) (length out)) (Some (length text)) None
  pub bytes : after ≡ cond (leb (length text) (length out)) (text ++ drop (length text) out) out

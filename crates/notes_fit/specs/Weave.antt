-- The notes of two slices woven into one: what is said of them, and what stands in the output.
use Rattle.std.specs.Prelude.{ℕ, ◌+◌, List, ◌≡◌, leb, length}
use Rattle.std.proofs.lemmas.List.Edits.{sets}
use Rattle.rules.specs.Choice.{need}
unfoldable pub use Rattle.notes_weave.specs.Loom.{all}
use Rattle.notes_fit.specs.declared.Woven.{Woven}
use Rattle.notes_fit.specs.declared.Woven.TheVariants as woven

-- the notes of both put behind so many bytes of an output of `room` bytes: the length of the whole; or it is too long, a slice or the whole; or the output is shorter
unfoldable pub woven_said : ℕ → List ℕ → List ℕ → ℕ → Woven
woven_said front a b room =
    need (leb (length a) 16777216) woven.TooLong λ _.
    need (leb (length b) 16777216) woven.TooLong λ _.
    need (leb (front + length (all a b)) 16777216) woven.TooLong λ _.
    need (leb (front + length (all a b)) room) woven.NoRoom λ _.
    woven.Put (front + length (all a b))

-- the output afterwards: with the notes in it, or as it was
abbrev pub out_woven : Woven → ℕ → List ℕ → List ℕ → List ℕ
out_woven (woven.Put n) front text out = sets out front text
out_woven woven.TooLong front text out = out
out_woven woven.NoRoom front text out = out

pub record NotesWoven (front : ℕ) (a b out : List ℕ) (r : Woven) (after : List ℕ) : Type 0 where
  pub told : r ≡ woven_said front a b (length out)
  pub bytes : after ≡ out_woven (woven_said front a b (length out)) front (all a b) out

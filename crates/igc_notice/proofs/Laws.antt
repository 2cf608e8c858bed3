-- A name, whether a file is signed, and its recorder, each put by its case. Assumes nothing.
use Prim.Native.Nat.{ℕ, ◌≤◌, ◌<◌}
use mathlib.Core.Bool.{Bool, true, false}
use mathlib.Core.List.{List, ◌++◌}
use mathlib.Core.Path.{◌≡◌}
use lib.ListN.{length}
use borrow.Author.Tests.{eq-eqb, ne_eqb, le-leb, lt-leb}
use Rattle.rules.specs.Choice.{bytes, byte, part}
use Rattle.rules.specs.Listing.{lf}
use Rattle.text_pieces.specs.Buffer.{PiecePut}
use Rattle.igc_notice.specs.Notice.{name_shown, signed_shown, recorder_shown}

module _ {out after : List ℕ} {at r : ℕ} where
  pub no_name : (name : List ℕ) → length name ≡ 0 → PiecePut out at (bytes "(no name, or one over 4,096 bytes)") r after → PiecePut out at (name_shown name) r after
  unfolding name_shown
  no_name name e p = rw (eq-eqb (length name) 0 e) p

  pub some_name : (name : List ℕ) → (length name ≡ 0 → ⊥) → PiecePut out at name r after → PiecePut out at (name_shown name) r after
  unfolding name_shown
  some_name name e p = rw (ne_eqb (length name) 0 e) p

  pub is_signed : (signed : Bool) → signed ≡ true → PiecePut out at (bytes ", signed" ++ lf) r after → PiecePut out at (signed_shown signed) r after
  unfolding signed_shown
  is_signed signed e p = rw e p

  pub not_signed : (signed : Bool) → signed ≡ false → PiecePut out at (bytes ", not signed" ++ lf) r after → PiecePut out at (signed_shown signed) r after
  unfolding signed_shown
  not_signed signed e p = rw e p

  pub no_recorder : (file : List ℕ) → length file < 7 → PiecePut out at (bytes ", no recorder") r after → PiecePut out at (recorder_shown file) r after
  unfolding recorder_shown
  no_recorder file h p = rw (lt-leb 7 (length file) h) p

  pub some_recorder : (file : List ℕ) → 7 ≤ length file → PiecePut out at (bytes ", recorder " ++ part (byte 2) (byte 8) file) r after → PiecePut out at (recorder_shown file) r after
  unfolding recorder_shown
  some_recorder file h p = rw (le-leb 7 (length file) h) p

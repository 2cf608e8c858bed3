-- How long the text of each field is, and one field put before what follows it. Assumes nothing.
use Prim.Native.Nat.{ℕ, ◌+◌, ◌/◌, ◌%◌}
use mathlib.Core.List.{List, ◌++◌}
use mathlib.Core.Path.{◌≡◌}
use borrow.Author.Tests.{eq-eqb, ne_eqb}
use lib.ListN.{length, length-append}
use Rattle.rules.specs.Numbers.{pairs_text}
use Rattle.rules.specs.Fields.{time_text, date_text, position_text}
use Rattle.rules.specs.Writes.{put_at}
use Rattle.rules.specs.declared.Date.{Date}
use Rattle.rules.specs.declared.Position.{Position}
use Rattle.rules.proofs.Times.{by_pairs}
use Rattle.rules.proofs.Texts.{digits_length, pairs_length}
use Rattle.byte_put.specs.Puts.{Fills}
use Rattle.byte_put.proofs.Laws.{put_last, put_then, byte_then}
use Rattle.write_height.proofs.Laws.{altitude_then}

pub time_length : (t : ℕ) → length (time_text t) ≡ 6
time_length = by_pairs (λ l. length l ≡ 6) pairs_length

-- a time put as hours, minutes and seconds: the leap second, and any other
module _ (l after : List ℕ) (at t : ℕ) where
  pub put_leap : t ≡ 86400 → after ≡ put_at l at (pairs_text 23 59 60) → after ≡ put_at l at (time_text t)
  unfolding time_text
  put_leap h e = rw (eq-eqb t 86400 h) e

  pub put_usual : (t ≡ 86400 → ⊥) → after ≡ put_at l at (pairs_text (t / 3600) (t / 60 % 60) (t % 60)) → after ≡ put_at l at (time_text t)
  unfolding time_text
  put_usual h e = rw (ne_eqb t 86400 h) e

pub date_length : (d : Date) → length (date_text d) ≡ 6
unfolding date_text
date_length d = pairs_length d.day d.month (d.year % 100)

pub position_length : (width : ℕ) (p : Position) → length (position_text width p) ≡ width + 6
unfolding position_text
position_length width p = simp (length-append, digits_length)

pub time_then : (x l l₁ : List ℕ) (at t : ℕ) (b : List ℕ) → l₁ ≡ put_at l at (time_text t) → Fills l₁ (at + 6) b x → Fills l at (time_text t ++ b) x
time_then x l l₁ at t b = put_then x l l₁ at (time_text t) b 6 (time_length t)

pub date_then : (x l l₁ : List ℕ) (at : ℕ) (d : Date) (b : List ℕ) → l₁ ≡ put_at l at (date_text d) → Fills l₁ (at + 6) b x → Fills l at (date_text d ++ b) x
date_then x l l₁ at d b = put_then x l l₁ at (date_text d) b 6 (date_length d)

pub position_then : (x l l₁ : List ℕ) (at width : ℕ) (p : Position) (b : List ℕ) → l₁ ≡ put_at l at (position_text width p) → Fills l₁ (at + (width + 6)) b x
    → Fills l at (position_text width p ++ b) x
position_then x l l₁ at width p b = put_then x l l₁ at (position_text width p) b (width + 6) (position_length width p)

-- a line of its fields
pub ruleset fields = (put_last, byte_then, time_then, date_then, position_then, altitude_then)

-- What the pieces of an explanation put into a buffer, one after the other, in the forms that `search` finds. Assumes nothing.
use Prim.Native.Nat.{ℕ, ◌+◌}
use mathlib.Core.List.{List, ◌++◌, append-nil}
use mathlib.Core.Path.{◌≡◌}
use borrow.Author.Tests.{eq-eqb, ne_eqb}
use Rattle.rules.specs.Choice.{bytes}
use Rattle.rules.specs.Listing.{shown}
use Rattle.rules.specs.Refusals.{number}
use Rattle.rules.specs.declared.Reason.{Reason}
use Rattle.rules.specs.declared.Refusal.{Refusal}
use Rattle.text_pieces.specs.Buffer.{PiecePut}
use Rattle.text_pieces.proofs.Laws.{then, nothing}
use Rattle.text_quote.specs.Quote.{before, quote}
use Rattle.text_faulty.specs.Faulty.{text_of}
use Rattle.text_explain.specs.Explanation.{counted, begun, head, explanation}

module _ {out mid after : List ℕ} {at m r : ℕ} where
  pub number_fills : {t : List ℕ} (n : ℕ) (reason : Reason) → n ≡ number reason → PiecePut out at (shown n) m mid → PiecePut mid m t r after → PiecePut out at (shown (number reason) ++ t) r after
  number_fills n reason e f g = then (rw e at f) g

  pub counted_fills : (n : ℕ) (w : List ℕ) → (n ≡ 0 → ⊥) → PiecePut out at w m mid → PiecePut mid m (shown n) r after → PiecePut out at (counted w n) r after
  unfolding counted
  counted_fills n w z f g = rw (ne_eqb n 0 z) (then f g)

  pub explained_fills : (file t : List ℕ) (w : Refusal) → (w.line ≡ 0 → ⊥) → t ≡ text_of file w.line
      → PiecePut out at (head w) m mid → PiecePut mid m (quote w.byte t) r after → PiecePut out at (explanation file w) r after
  unfolding explanation
  explained_fills file t w z e f g = rw (ne_eqb w.line 0 z) (then f (rw e at g))

module _ (out : List ℕ) (at : ℕ) where
  pub counted_none : (n : ℕ) (w : List ℕ) → n ≡ 0 → PiecePut out at (counted w n) at out
  unfolding counted
  counted_none n w e = rw (eq-eqb n 0 e) (nothing out at)

  pub begun_none : (b from : ℕ) → from ≡ before b → from ≡ 0 → PiecePut out at (begun b) at out
  unfolding begun
  begun_none b from e z = rw (← e, eq-eqb from 0 z) (nothing out at)

module _ {out after : List ℕ} {at r : ℕ} where
  pub begun_some : (b from : ℕ) → from ≡ before b → (from ≡ 0 → ⊥)
      → PiecePut out at (bytes " (text from byte" ++ (shown (from + 1) ++ bytes ")")) r after → PiecePut out at (begun b) r after
  unfolding begun
  begun_some b from e z f = rw (← e, ne_eqb from 0 z) f

  pub unplaced_fills : (file : List ℕ) (w : Refusal) → w.line ≡ 0 → PiecePut out at (head w) r after → PiecePut out at (explanation file w) r after
  unfolding explanation
  unplaced_fills file w e f = rw (eq-eqb w.line 0 e, append-nil) f

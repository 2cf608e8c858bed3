-- What a store of bytes into one entry, or past the table, leaves of the entries and of the bodies. Assumes nothing.
use Prim.Native.Nat.{ℕ, ◌+◌, ◌*◌, ◌≤◌, ◌<◌}
use mathlib.Core.List.{List}
use mathlib.Core.Logic.{inl, inr}
use mathlib.Core.Path.{◌≡◌}
use native.Mathlib.Omega.{arith}
use lib.ListN.{length}
use lib.Seq.{sets}
use Rattle.shelf_rules.specs.Contents.{word, number_of, start_of, size_of, end_of, body_of}
use Rattle.shelf_rules.proofs.Tests.{by_le}
use Rattle.shelf_rules.proofs.Bytes.{word_kept, run_kept}
use Rattle.claims_shelf.proofs.Tables.{Changed}

-- ---- a store into the entry k

module _ (b t : List ℕ) (k : ℕ) (h : length t ≡ 12) where
  words_kept : (m j : ℕ) → j + 4 ≤ 12 → (m ≡ k → ⊥) → word (sets b (12 * k) t) (12 * m + j) ≡ word b (12 * m + j)
  words_kept m j g d = by_le m k
      (λ q. word_kept b (12 * k) t (12 * m + j) (inl (omega arith)))
      (λ q. word_kept b (12 * k) t (12 * m + j) (inr (omega arith)))

  pub entry_changed : Changed (number_of b) (start_of b) (size_of b) (number_of (sets b (12 * k) t)) (start_of (sets b (12 * k) t)) (size_of (sets b (12 * k) t)) k
  entry_changed = record {
    number_kept = λ m p d. by_le m k
        (λ q. word_kept b (12 * k) t (12 * m) (inl (omega arith)))
        (λ q. word_kept b (12 * k) t (12 * m) (inr (omega arith)));
    start_kept = λ m p d. words_kept m 4 (omega arith) d;
    size_kept = λ m p d. words_kept m 8 (omega arith) d;
  }

  -- bodies lie past the table
  pub body_past : (m : ℕ) → k < 64 → 768 ≤ start_of b m → end_of b m ≤ length b → (m < 64) → (m ≡ k → ⊥) → body_of (sets b (12 * k) t) m ≡ body_of b m
  body_past m p f g q d =
      rw (words_kept m 4 (omega arith) d, words_kept m 8 (omega arith) d)
      (run_kept b (12 * k) t (start_of b m) (size_of b m) g (inr (omega arith)))

-- ---- a store past the table

module _ (b t : List ℕ) (at : ℕ) (h : 768 ≤ at) (m : ℕ) (p : m < 64) where
  pub number_past : number_of (sets b at t) m ≡ number_of b m
  number_past = word_kept b at t (12 * m) (inl (omega arith))

  pub start_past : start_of (sets b at t) m ≡ start_of b m
  start_past = word_kept b at t (12 * m + 4) (inl (omega arith))

  pub size_past : size_of (sets b at t) m ≡ size_of b m
  size_past = word_kept b at t (12 * m + 8) (inl (omega arith))

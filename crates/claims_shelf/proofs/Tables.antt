-- A table of contents in which one entry changes. Assumes nothing.
use Prim.Native.Nat.{ℕ, ◌+◌, ◌≤◌, ◌<◌}
use mathlib.Core.Logic.{◌⊎◌, inl, inr, ⊎_elim}
use mathlib.Core.Path.{◌≡◌, sym, ◌∙◌}
use native.Mathlib.Omega.{arith}
use Rattle.shelf_rules.specs.Contents.{Kept}
use Rattle.shelf_rules.proofs.Tests.{by_eq}

-- the entry k alone changes
pub record Changed (number start size number' start' size' : ℕ → ℕ) (k : ℕ) : Type 0 where
  pub number_kept : (m : ℕ) → m < 64 → (m ≡ k → ⊥) → number' m ≡ number m
  pub start_kept : (m : ℕ) → m < 64 → (m ≡ k → ⊥) → start' m ≡ start m
  pub size_kept : (m : ℕ) → m < 64 → (m ≡ k → ⊥) → size' m ≡ size m

-- what is asked of it: it is free, or inside; it overlaps no other; its number is no other's
pub record Allowed (number start size : ℕ → ℕ) (room k x a z : ℕ) : Type 0 where
  pub none : x ≡ 0 → (a ≡ 0) × (z ≡ 0)
  pub some_byte : (x ≡ 0 → ⊥) → 1 ≤ z
  pub from_768 : (x ≡ 0 → ⊥) → 768 ≤ a
  pub inside : (x ≡ 0 → ⊥) → a + z ≤ room
  pub clear : (m : ℕ) → m < 64 → (m ≡ k → ⊥) → (a + z ≤ start m) ⊎ (start m + size m ≤ a)
  pub own : (m : ℕ) → m < 64 → (m ≡ k → ⊥) → x ≡ number m → x ≡ 0

module _ {number start size number' start' size' : ℕ → ℕ} {room k : ℕ} (s : Kept number start size room)
    (c : Changed number start size number' start' size' k) (a : Allowed number start size room k (number' k) (start' k) (size' k)) where
  used : (n : ℕ) → n < 64 → (n ≡ k → ⊥) → (number' n ≡ 0 → ⊥) → number n ≡ 0 → ⊥
  used n p d z e = z (c.number_kept n p d ∙ e)

  apart_kept : (n m : ℕ) → n < 64 → m < n → (start' n + size' n ≤ start' m) ⊎ (start' m + size' m ≤ start' n)
  apart_kept n m p h =
      by_eq n k
      (λ e. let d : m ≡ k → ⊥ = λ g. omega arith in
      rw (c.start_kept m (omega arith) d, c.size_kept m (omega arith) d, e) (a.clear m (omega arith) d))
      (λ d. by_eq m k
      (λ e. rw (c.start_kept n p d, c.size_kept n p d, e) (⊎_elim inr inl (a.clear n p d)))
      (λ g. rw (c.start_kept n p d, c.size_kept n p d, c.start_kept m (omega arith) g, c.size_kept m (omega arith) g) (s.apart n m p h)))

  once_kept : (n m : ℕ) → n < 64 → m < n → number' n ≡ number' m → number' n ≡ 0
  once_kept n m p h e =
      by_eq n k
      (λ q. let d : m ≡ k → ⊥ = λ g. omega arith in
      rw q (a.own m (omega arith) d (rw q at e ∙ c.number_kept m (omega arith) d)))
      (λ d. by_eq m k
      (λ q. e ∙ rw q (a.own n p d (sym (rw q at e) ∙ c.number_kept n p d)))
      (λ g. c.number_kept n p d ∙ s.once n m p h (sym (c.number_kept n p d) ∙ e ∙ c.number_kept m (omega arith) g)))

  -- the table stays sound
  pub kept_changed : Kept number' start' size' room
  kept_changed = record {
    free = λ n p z. by_eq n k
        (λ e. rw e (a.none (rw e at z)))
        (λ d. rw (c.start_kept n p d, c.size_kept n p d) (s.free n p (sym (c.number_kept n p d) ∙ z)));
    some_byte = λ n p z. by_eq n k
        (λ e. rw e (a.some_byte (rw e at z)))
        (λ d. rw (c.size_kept n p d) (s.some_byte n p (used n p d z)));
    from_768 = λ n p z. by_eq n k
        (λ e. rw e (a.from_768 (rw e at z)))
        (λ d. rw (c.start_kept n p d) (s.from_768 n p (used n p d z)));
    inside = λ n p z. by_eq n k
        (λ e. rw e (a.inside (rw e at z)))
        (λ d. rw (c.start_kept n p d, c.size_kept n p d) (s.inside n p (used n p d z)));
    apart = apart_kept;
    once = once_kept;
  }

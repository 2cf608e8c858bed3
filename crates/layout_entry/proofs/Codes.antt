-- Of the entries before it only the codes decide on an entry. Assumes nothing.
use Rattle.std.specs.Prelude.{None, Option, Some}
use Prim.Native.Nat.{ℕ, zero, suc, ◌+◌}
use mathlib.Core.Bool.{Bool, true, false, cond}
use mathlib.Core.List.{List, [], ◌∷◌, map}
use mathlib.Core.Path.{◌≡◌, refl, ◌∙◌, ap}
use lib.Dec.{eqb}
use lib.ListN.{take, set}
use Rattle.rules.specs.Choice.{given, first_of}
use Rattle.rules.specs.Numbers.{number_at}
use Rattle.rules.specs.Listed.{code_at}
use Rattle.rules.specs.Layouts.{span_of, look, carries, placed, entry_at}
use Rattle.rules.specs.declared.Entry.{Entry}
use Rattle.rules.specs.declared.Layout.{Layout}
use Rattle.layout_entry.specs.Parts.{is_among, coded_by}

-- one that is found among codes is found among the entries that have them, and the other way round
module _ (x : ℕ) where
  among : (codes : List ℕ) (n k : ℕ)
      → given (first_of (λ (y : ℕ). eqb y x) (λ (k : ℕ) (y : ℕ). k) (take n codes) k) false (λ k. true)
      ≡ given (first_of (λ (e : Entry). eqb e.code x) (λ (k : ℕ) (e : Entry). span_of e) (take n (coded_by codes n).entries) k) false (λ s. true)
  unfolding first_of
  among codes zero k = refl
  among [] (suc n) k = refl
  among (y ∷ codes) (suc n) k = go (eqb y x) (among codes n (suc k))
    where
      go : (t : Bool)
          → given (first_of (λ (y : ℕ). eqb y x) (λ (k : ℕ) (y : ℕ). k) (take n codes) (suc k)) false (λ k. true)
          ≡ given (first_of (λ (e : Entry). eqb e.code x) (λ (k : ℕ) (e : Entry). span_of e) (take n (coded_by codes n).entries) (suc k)) false (λ s. true)
          → given (cond t (Some k) (first_of (λ (y : ℕ). eqb y x) (λ (k : ℕ) (y : ℕ). k) (take n codes) (suc k))) false (λ k. true)
          ≡ given (cond t (Some (record { first = 0; last = 0 })) (first_of (λ (e : Entry). eqb e.code x) (λ (k : ℕ) (e : Entry). span_of e) (take n (coded_by codes n).entries) (suc k))) false (λ s. true)
      go true r = refl
      go false r = r

  coded : (es : List Entry) (n k : ℕ)
      → given (first_of (λ (e : Entry). eqb e.code x) (λ (k : ℕ) (e : Entry). span_of e) (take n es) k) false (λ s. true)
      ≡ given (first_of (λ (y : ℕ). eqb y x) (λ (k : ℕ) (y : ℕ). k) (take n (map (λ (e : Entry). e.code) es)) k) false (λ k. true)
  unfolding first_of
  coded es zero k = refl
  coded [] (suc n) k = refl
  coded (e ∷ es) (suc n) k = go (eqb e.code x) (coded es n (suc k))
    where
      go : (t : Bool)
          → given (first_of (λ (e : Entry). eqb e.code x) (λ (k : ℕ) (e : Entry). span_of e) (take n es) (suc k)) false (λ s. true)
          ≡ given (first_of (λ (y : ℕ). eqb y x) (λ (k : ℕ) (y : ℕ). k) (take n (map (λ (e : Entry). e.code) es)) (suc k)) false (λ k. true)
          → given (cond t (Some (span_of e)) (first_of (λ (e : Entry). eqb e.code x) (λ (k : ℕ) (e : Entry). span_of e) (take n es) (suc k))) false (λ s. true)
          ≡ given (cond t (Some k) (first_of (λ (y : ℕ). eqb y x) (λ (k : ℕ) (y : ℕ). k) (take n (map (λ (e : Entry). e.code) es)) (suc k))) false (λ k. true)
      go true r = refl
      go false r = r

pub among_carries : (codes : List ℕ) (n x : ℕ) → is_among codes n x ≡ carries (coded_by codes n) x
unfolding carries look
among_carries codes n x = among x codes n 0

module _ (es : List Entry) (n : ℕ) where
  -- the first n of a list of entries, and entries that have their codes
  abbrev these : Layout
  these = record { count = n; entries = es }

  abbrev alike : Layout
  alike = coded_by (map (λ (e : Entry). e.code) es) n

  carries_alike : (x : ℕ) → carries these x ≡ carries alike x
  unfolding carries look
  carries_alike x = coded x es n 0 ∙ among x (map (λ (e : Entry). e.code) es) n 0

  given_alike : {A B : Type 0} (o : Option A) (a : B) (f g : A → B) → ((v : A) → f v ≡ g v) → given o a f ≡ given o a g
  given_alike None a f g h = refl
  given_alike (Some v) a f g h = h v

  placed_alike : (start : ℕ) (e : Entry) (first : ℕ) → placed start these e first ≡ placed start alike e first
  unfolding placed
  placed_alike start e first = rw (carries_alike e.code)

  pub entry_alike : (codes : List ℕ) → map (λ (e : Entry). e.code) es ≡ codes → (l : List ℕ) (at start : ℕ) → entry_at l at start these ≡ entry_at l at start (coded_by codes n)
  unfolding entry_at
  entry_alike codes m l at start =
      (given_alike (number_at l at 2) _ _ _ λ ss.
      given_alike (number_at l (at + 2) 2) _ _ _ λ ff.
      given_alike (code_at l (at + 4)) _ _ _ λ ccc.
      placed_alike start (record { first = ss; last = ff; code = ccc }) (at + 1))
      ∙ ap (λ x. entry_at l at start (coded_by x n)) m

-- the codes of a list of entries, one of which is set
pub codes_set : (es : List Entry) (i : ℕ) (e : Entry) → map (λ (e : Entry). e.code) (set es i e) ≡ set (map (λ (e : Entry). e.code) es) i e.code
codes_set [] i e = refl
codes_set (x ∷ es) zero e = refl
codes_set (x ∷ es) (suc i) e = ap (λ l. x.code ∷ l) (codes_set es i e)

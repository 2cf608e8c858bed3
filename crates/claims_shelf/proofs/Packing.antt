-- Three flights on a shelf, one of them removed, and the shelf packed: every byte worked out by hand. Computed. Assumes nothing.
use Rattle.rules.specs.declared.Refusal.{Refusal}
use Rattle.std.specs.Prelude.{Result, ⊤}
use Prim.Native.Nat.{ℕ, ◌*◌, ◌<◌}
use mathlib.Core.Bool.{Bool, true, false, ◌||◌}
use mathlib.Core.List.{List, [], ◌∷◌, ◌++◌}
use mathlib.Core.Logic.{◌⊎◌, inl, inr}
use mathlib.Core.Path.{◌≡◌, refl, sym, ap, subst, ◌∙◌}
use native.Mathlib.Omega.{arith}
use borrow.Author.Tests.{ne_eqb, eqb-true}
use lib.Dec.{eqb, leb}
use lib.ListN.{length, replicate}
use Rattle.rules.specs.Refusals.{says, result_told}
use Rattle.shelf_rules.specs.Calls.{FlightRemoved}
use Rattle.shelf_rules.specs.Contents.{word, word_bytes, one_kept, two_kept, slot_sound, sound, number_of}
use Rattle.shelf_rules.specs.Moves.{moved_to}
use Rattle.shelf_rules.specs.Packing.{before, Packed}
use Rattle.shelf_rules.specs.Ranges.{every, total, least}
use Rattle.shelf_rules.specs.Shelf.{entry_of, held_at, after_remove}
use Rattle.shelf_rules.proofs.Packing.{moved_only}
use Rattle.shelf_rules.proofs.Ranges.{every_at}
use Rattle.shelf_rules.proofs.Tests.{by_eq}
use Rattle.shelf_pack.specs.Pack.{ShelfPacked}
use Rattle.shelf_pack.proofs.Only.{only_packed}
use Rattle.claims_shelf.proofs.Answers.{by_sum}

-- the twelve bytes of an entry: a number below 256, a start from 768 to 1,023, which is 3 * 256 and the rest, and a size below 256
abbrev pub told : ℕ → ℕ → ℕ → List ℕ
told number rest size = number ∷ 0 ∷ 0 ∷ 0 ∷ rest ∷ 3 ∷ 0 ∷ 0 ∷ size ∷ 0 ∷ 0 ∷ 0 ∷ []

abbrev pub zeros : ℕ → List ℕ
zeros n = replicate n 0

-- flight 7 from 772 on, flight 8 from 768 on, flight 9 from 776 on; a byte is free before flight 9, and two behind it. 61 entries are free
abbrev pub three : List ℕ
three = told 7 4 3 ++ (told 8 0 4 ++ (told 9 8 2 ++ (zeros 732 ++ (81 ∷ 82 ∷ 83 ∷ 84 ∷ 71 ∷ 72 ∷ 73 ∷ 50 ∷ 91 ∷ 92 ∷ 51 ∷ 52 ∷ []))))

-- flight 8 removed: its entry alone
abbrev pub without : List ℕ
without = told 7 4 3 ++ (zeros 12 ++ (told 9 8 2 ++ (zeros 732 ++ (81 ∷ 82 ∷ 83 ∷ 84 ∷ 71 ∷ 72 ∷ 73 ∷ 50 ∷ 91 ∷ 92 ∷ 51 ∷ 52 ∷ []))))

-- flight 7 starts first, and goes to 768; flight 9 goes behind its three bytes, to 771. The bytes from 773 on, which no body covers, stay
abbrev pub packed : List ℕ
packed = told 7 0 3 ++ (zeros 12 ++ (told 9 3 2 ++ (zeros 732 ++ (71 ∷ 72 ∷ 73 ∷ 91 ∷ 92 ∷ 72 ∷ 73 ∷ 50 ∷ 91 ∷ 92 ∷ 51 ∷ 52 ∷ []))))

-- ---- removed

pub removed : (r : Result ⊤ Refusal) (after : List ℕ) → FlightRemoved three 8 r after → (result_told r ≡ says tt) × (after ≡ without)
unfolding word one_kept two_kept slot_sound sound every least entry_of held_at after_remove
removed r after w = (w.told, w.bytes)

-- ---- packed

-- the entries in use
in_use : (n : ℕ) → n < 64 → (number_of without n ≡ 0 → ⊥) → (n ≡ 0) ⊎ (n ≡ 2)
unfolding word every
in_use n p u = by_eq n 0 inl (λ d. by_eq n 2 inr (λ e. absurd (u (eqb-true (number_of without n) 0 (free n p d e)))))
  where
    test : ℕ → Bool
    test n = eqb n 0 || eqb n 2 || eqb (number_of without n) 0

    free : (n : ℕ) → n < 64 → (n ≡ 0 → ⊥) → (n ≡ 2 → ⊥) → eqb (number_of without n) 0 ≡ true
    free n p d e = rw (ne_eqb n 0 d, ne_eqb n 2 e) at (every_at test 64 refl n p)

is_packed : Packed without packed
unfolding word word_bytes total before
is_packed = record {
  same_length = refl;
  start = λ n p u. by_sum (in_use n p u) (λ e. rw e refl) (λ e. rw e refl);
  bytes = λ n p u. by_sum (in_use n p u) (λ e. rw e refl) (λ e. rw e refl);
  only = λ i f.
      let x = f 0 (omega arith) (λ z. omega (arith, z)) in
      let y = f 2 (omega arith) (λ z. omega (arith, z)) in
      moved_only (moved_to without 0 768) 2 771 i y.0 y.1 ∙ moved_only without 0 768 i x.0 x.1;
}

pub packs : (r : Result ⊤ Refusal) (after : List ℕ) → ShelfPacked without r after → (result_told r ≡ says tt) × (after ≡ packed)
unfolding word one_kept two_kept slot_sound sound every
packs r after w = (w.told, only_packed without after packed (w.bytes.packed refl) is_packed)

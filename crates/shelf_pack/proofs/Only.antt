-- No second answer meets the promise of `pack`, and the buffer is afterwards one thing: each of its bytes is one of a start, one of a packed body, or as it was. Assumes nothing.
use Prim.Native.Nat.{ℕ, zero, suc, ◌+◌, ◌*◌, ◌-◌, ◌≤◌, ◌<◌}
use mathlib.Core.List.{List}
use mathlib.Core.Logic.{◌⊎◌, inl, inr, ⊎_elim}
use mathlib.Core.Path.{◌≡◌, sym, ◌∙◌, ap}
use native.Mathlib.Omega.{arith}
use lib.ListN.{get_or, drop}
use lib.Seq.{get_or-take, get_or-drop, ext_get_or}
use Rattle.rules.specs.Refusals.{says}
use Rattle.rules.proofs.Inverse.{by_bool}
use Rattle.rules_only.proofs.Told.{result_one}
use Rattle.rules_only.proofs.Only.{OnlyBoth, alike}
use Rattle.shelf_rules.specs.Contents.{number_of, size_of, sound}
use Rattle.shelf_rules.specs.Packing.{pack_said, packed_start, Untouched, Packed, PackedOrSame}
use Rattle.shelf_rules.proofs.Tests.{by_eq}
use Rattle.shelf_rules.proofs.Bytes.{run}
use Rattle.shelf_rules.proofs.Packing.{by_outside}
use Rattle.shelf_pack.specs.Pack.{ShelfPacked}

-- a byte of a run
run_byte : (at size : ℕ) (l : List ℕ) (i : ℕ) → at ≤ i → i < at + size → get_or l i 0 ≡ get_or (run at size l) (i - at) 0
run_byte at size l i g h =
    let e : at + (i - at) ≡ i = omega arith in
    sym (get_or-take size (drop at l) (i - at) 0 (omega arith) ∙ get_or-drop at l (i - at) 0 ∙ ap (λ (m : ℕ). get_or l m 0) e)

same_byte : (at size : ℕ) (l l' : List ℕ) (i : ℕ) → run at size l ≡ run at size l' → at ≤ i → i < at + size → get_or l i 0 ≡ get_or l' i 0
same_byte at size l l' i e g h = run_byte at size l i g h ∙ ap (λ (t : List ℕ). get_or t (i - at) 0) e ∙ sym (run_byte at size l' i g h)

module _ (b c c' : List ℕ) (w : Packed b c) (w' : Packed b c') (i : ℕ) where
  -- one entry: it leaves the byte alone, or tells it
  by_entry : (n : ℕ) → n < 64 → (number_of b n ≡ 0 → ⊥) → Untouched b n i ⊎ (get_or c i 0 ≡ get_or c' i 0)
  by_entry n p u =
      by_outside (12 * n + 4) 4 i
      (λ g. by_outside (packed_start b n) (size_of b n) i
      (λ h. inl (g, h))
      (λ h e. inr (same_byte (packed_start b n) (size_of b n) c c' i (w.bytes n p u ∙ sym (w'.bytes n p u)) h e)))
      (λ g e. inr (same_byte (12 * n + 4) 4 c c' i (w.start n p u ∙ sym (w'.start n p u)) g e))

  -- the entries below a number: all leave it alone, or one tells it
  by_entries : (k : ℕ) → k ≤ 64 → ((n : ℕ) → n < k → (number_of b n ≡ 0 → ⊥) → Untouched b n i) ⊎ (get_or c i 0 ≡ get_or c' i 0)
  by_entries zero h = inl (λ n p u. absurd (omega arith))
  by_entries (suc k) h = ⊎_elim
      (λ f. by_eq (number_of b k) 0
      (λ z. inl (λ n p u. by_eq n k (λ e. absurd (u (rw e z))) (λ d. f n (omega arith) u)))
      (λ v. ⊎_elim
      (λ g. inl (λ n p u. by_eq n k (λ e. rw e g) (λ d. f n (omega arith) u)))
      inr
      (by_entry k (omega arith) v)))
      inr
      (by_entries k (omega arith))

  one_byte : get_or c i 0 ≡ get_or c' i 0
  one_byte = ⊎_elim (λ f. w.only i f ∙ sym (w'.only i f)) (λ e. e) (by_entries 64 (omega arith))

pub only_packed : (b c c' : List ℕ) → Packed b c → Packed b c' → c ≡ c'
only_packed b c c' w w' = ext_get_or 0 c c' (w.same_length ∙ sym w'.same_length) λ i p. one_byte b c c' w w' i

pub only_packed_or_same : (b c c' : List ℕ) → PackedOrSame b c → PackedOrSame b c' → c ≡ c'
only_packed_or_same b c c' w w' =
    by_bool (sound b)
    (λ e. only_packed b c c' (w.packed (rw e)) (w'.packed (rw e)))
    (λ e.
    let no : pack_said b ≡ says tt → ⊥ = λ g. let z : ◌≡◌ {A = ℕ} 0 1 = let f = rw e at g in cc in omega arith in
    w.refused no ∙ sym (w'.refused no))

pub only_shelf_packed : (b : List ℕ) → OnlyBoth (ShelfPacked b)
only_shelf_packed b r r' after after' w w' = (alike result_one r r' w.told w'.told, only_packed_or_same b after after' w.bytes w'.bytes)

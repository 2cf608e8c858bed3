-- A line filled part by part into the part of an output that is lent, and a writer's ways out. Assumes nothing.
use Rattle.rules.specs.declared.Refusal.{Refusal}
use Rattle.std.specs.Prelude.{Ok, Result}
use Prim.Native.Nat.{ℕ, zero, suc, ◌+◌, ◌-◌, ◌≤◌, ◌<◌}
use mathlib.Core.Bool.{Bool, true, false, not}
use mathlib.Core.List.{List, [], ◌∷◌, ◌++◌, append_assoc, append-nil}
use mathlib.Core.Path.{◌≡◌, refl, sym, ◌∙◌, ap}
use native.Mathlib.Omega.{arith}
use borrow.Author.Tests.{le-leb, lt-leb, not-true, not-false}
use borrow.Rule.Slice.PartMut.{mid_of, put_mid}
use lib.ListN.{length, take, drop, set, length-append, length-drop, drop_of_length-le}
use lib.Seq.{sets, take_all}
use Rattle.rules.specs.Refusals.{no, result_told}
use Rattle.rules.specs.Writes.{crlf, written, out_after}
use Rattle.rules.specs.Promises.{Written}
use Rattle.rules.specs.declared.Reason.TheVariants.{BadValue, NoRoom}
use Rattle.byte_put.specs.Puts.{Fills}

-- ---- a line that is filled part by part, and its end

pub regroup : (x l : List ℕ) (at : ℕ) (a b c : List ℕ) → Fills l at (a ++ (b ++ c)) x → Fills l at ((a ++ b) ++ c) x
regroup x l at a b c f = rw append_assoc f

pub closed_length : (rest : List ℕ) → length (rest ++ crlf) ≡ length rest + 2
closed_length rest = length-append rest crlf

-- ---- what is put at the front of the part that is lent from a place on is put at the place

sets_cons : (x : ℕ) (l : List ℕ) (i : ℕ) (t : List ℕ) → sets (x ∷ l) (suc i) t ≡ x ∷ sets l i t
sets_cons x l i [] = refl
sets_cons x l i (b ∷ t) = sets_cons x (set l i b) (suc i) t

sets_part : (l : List ℕ) (a : ℕ) (t : List ℕ) → a ≤ length l → take a l ++ sets (drop a l) 0 t ≡ sets l a t
sets_part l zero t h = refl
sets_part [] (suc a) t h = let z : ⊥ = omega arith in search
sets_part (x ∷ l) (suc a) t h = sym (sets_cons x l a t ∙ ap (λ (m : List ℕ). x ∷ m) (sym (sets_part l a t (omega arith))))

lent : (l y : List ℕ) (a : ℕ) (t : List ℕ) → a + length t ≤ length l → Fills (mid_of a (length l - a) l) 0 t y → put_mid a (length l - a) l y ≡ sets l a t
lent l y a t h f =
    let p : take (length l - a) (drop a l) ≡ drop a l = take_all (length l - a) (drop a l) (omega (arith, length-drop a l)) in
    let d : drop (length l - a) (drop a l) ≡ [] = drop_of_length-le (drop a l) {i = length l - a} (omega (arith, length-drop a l)) in
    let e : y ≡ sets (drop a l) 0 t = rw p at (f.is (rw p (omega (arith, length-drop a l)))) in
    rw (e, d, append-nil) (sets_part l a t (omega arith))

-- ---- a writer's ways out: b is what the test of the values said, n the length of the line with its CR LF

module _ (good test : Bool) (text : List ℕ) (place : ℕ) (out : List ℕ) (r : Result ℕ Refusal) (b : Bool) (e : good ≡ test) (f : b ≡ test) where
  pub bad : (after : List ℕ) → not b ≡ true → result_told r ≡ no BadValue 0 → after ≡ out → Written good text place out r after
  unfolding written out_after
  bad after g w k =
      let t : good ≡ false = e ∙ sym f ∙ not-true b g in
      record { told = rw t w; bytes = rw t k }

  module _ (g : not b ≡ false) (n : ℕ) (h : length text + 2 ≡ n) where
    pub short : (after : List ℕ) → length out < place + n → result_told r ≡ no NoRoom 0 → after ≡ out → Written good text place out r after
    unfolding written out_after
    short after s w k =
        let t : good ≡ true = e ∙ sym f ∙ not-false b g in
        let q = lt-leb (place + length text + 2) (length out) (omega arith) in
        record { told = rw (t, q) w; bytes = rw (t, q) k }

    pub done : (y : List ℕ) → place + n ≤ length out → r ≡ Ok (place + n) → Fills (mid_of place (length out - place) out) 0 (text ++ crlf) y
        → Written good text place out r (put_mid place (length out - place) out y)
    unfolding written out_after result_told
    done y s w k =
        let t : good ≡ true = e ∙ sym f ∙ not-false b g in
        let q = le-leb (place + length text + 2) (length out) (omega arith) in
        let m : place + length text + 2 ≡ place + n = omega arith in
        record { told = rw (w, t, q, m); bytes = rw (t, q) (lent out y place (text ++ crlf) (omega (arith, length-append text crlf)) k) }

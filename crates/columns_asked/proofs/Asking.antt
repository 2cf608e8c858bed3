-- Codes one after the other: what those from each one on say is what all say. Assumes nothing.
use Rattle.rules.specs.declared.Span.{Span}
use Rattle.std.specs.Prelude.{None, Ok, Option, Some}
use Prim.Native.Nat.{ℕ, zero, suc, ◌+◌, ◌-◌, ◌*◌, ◌/◌, ◌%◌, ◌≤◌, ◌<◌}
use mathlib.Core.Bool.{Bool, true, false, not, ◌&&◌}
use mathlib.Core.List.{List, [], ◌∷◌}
use mathlib.Core.Path.{◌≡◌, refl, sym, ap, ◌∙◌}
use native.Mathlib.Omega.{arith}
use borrow.Author.Tests.{leb-true, eq-eqb, ne_eqb, not-true, not-false}
use lib.Dec.{eqb, leb}
use lib.ListN.{length, get_or, set, take, drop, replicate, length-set}
use lib.Seq.{sets, get_or-take, get_or-drop, drop-drop}
use Rattle.rules.specs.Layouts.{look, carries}
use Rattle.rules.specs.Listed.{packed, packed_of}
use Rattle.rules.specs.Refusals.{no, result_told}
use Rattle.rules.specs.declared.Layout.{Layout}
use Rattle.rules.specs.declared.Reason.TheVariants as reason
use Rattle.rules.proofs.Inverse.{and_inv}
use Rattle.columns_asked.specs.Asks.{names_from, names_of, among, again, are_codes, are_carried, places_of, places_said, asked_said, spotted, PlacesTold, PlacesAsked}
use Rattle.columns_asked.specs.declared.Places.{Places}

-- ---- the code behind so many bytes

pub code_there : (l : List ℕ) (at a b c r : ℕ) → a ≡ get_or l at 0 → b ≡ get_or l (at + 1) 0 → c ≡ get_or l (at + 2) 0 → r ≡ packed a b c → r ≡ packed_of (drop at l)
code_there l at a b c r e f g h =
    let m : at + 0 ≡ at = omega arith in
    let z : get_or (drop at l) 0 0 ≡ get_or l at 0 = get_or-drop at l 0 0 ∙ ap (λ (k : ℕ). get_or l k 0) m in
    rw (z, get_or-drop at l 1 0, get_or-drop at l 2 0, ← e, ← f, ← g) h

named : (l : List ℕ) → packed_of (take 3 l) ≡ packed_of l
named l = rw (get_or-take 3 l 0 0 (omega arith), get_or-take 3 l 1 0 (omega arith), get_or-take 3 l 2 0 (omega arith))

pub names_long : (n : ℕ) (codes : List ℕ) → length (names_from n codes) ≡ n
unfolding names_from
names_long zero codes = refl
names_long (suc n) codes = ap suc (names_long n (drop 3 codes))

module _ (codes : List ℕ) (n : ℕ) where
  -- the names from number i on
  abbrev pub rest : ℕ → List (List ℕ)
  rest i = names_from (n - i) (drop (i * 3) codes)

  abbrev pub code : ℕ → ℕ
  code i = packed_of (drop (i * 3) codes)

  pub rest_all : rest 0 ≡ names_from n codes
  rest_all = let k : n - 0 ≡ n = omega arith in rw k

  module _ (i : ℕ) where
    rest_next : i < n → rest i ≡ take 3 (drop (i * 3) codes) ∷ rest (i + 1)
    unfolding names_from
    rest_next h =
        let m : n - i ≡ suc (n - (i + 1)) = omega arith in
        let k : i * 3 + 3 ≡ (i + 1) * 3 = omega arith in
        let d : drop 3 (drop (i * 3) codes) ≡ drop ((i + 1) * 3) codes = drop-drop 3 (i * 3) codes ∙ ap (λ (x : ℕ). drop x codes) k in
        rw (m, d)

    rest_end : (i < n → ⊥) → rest i ≡ []
    unfolding names_from
    rest_end h = let m : n - i ≡ 0 = omega arith in rw m

    -- ---- a code among them

    module _ (x y : ℕ) (e : y ≡ code i) where
      pub among_here : i < n → y ≡ x → true ≡ among x (rest i)
      unfolding among
      among_here h g = rw (rest_next h, named (drop (i * 3) codes), ← e, eq-eqb y x g)

      pub among_next : i < n → (y ≡ x → ⊥) → among x (rest i) ≡ among x (rest (i + 1))
      unfolding among
      among_next h g = rw (rest_next h, named (drop (i * 3) codes), ← e, ne_eqb y x g)

    pub among_end : (x : ℕ) → (i < n → ⊥) → false ≡ among x (rest i)
    unfolding among
    among_end x h = rw (rest_end h)

    -- ---- a code that comes again

    module _ (y : ℕ) (e : y ≡ code i) (r : Bool) (g : r ≡ among y (rest (i + 1))) where
      pub again_here : i < n → r ≡ true → true ≡ again (rest i)
      unfolding again
      again_here h t = rw (rest_next h, named (drop (i * 3) codes), ← e, ← g, t)

      pub again_next : i < n → r ≡ false → again (rest i) ≡ again (rest (i + 1))
      unfolding again
      again_next h t = rw (rest_next h, named (drop (i * 3) codes), ← e, ← g, t)

    pub again_end : (i < n → ⊥) → false ≡ again (rest i)
    unfolding again
    again_end h = rw (rest_end h)

    -- ---- their places

    module _ (layout : Layout) (y : ℕ) (e : y ≡ code i) (h : i < n) (s : Option Span) (g : s ≡ look layout y) where
      pub spot_none : s ≡ None → are_carried layout (rest i) ≡ false
      unfolding are_carried carries
      spot_none t = rw (rest_next h, named (drop (i * 3) codes), ← e, ← g, t)

      module _ (a z : ℕ) (t : s ≡ Some (record { first = a; last = z })) where
        pub spot_carried : are_carried layout (rest i) ≡ are_carried layout (rest (i + 1))
        unfolding are_carried carries
        spot_carried = rw (rest_next h, named (drop (i * 3) codes), ← e, ← g, t)

        pub spot_places : places_of layout (rest i) ≡ a ∷ z ∷ places_of layout (rest (i + 1))
        unfolding places_of
        spot_places = rw (rest_next h, named (drop (i * 3) codes), ← e, ← g, t)

  -- the places so far, and what is left to be put behind them
  pub record Spotting (layout : Layout) (spots : List ℕ) (i : ℕ) : Type 0 where
    pub long : length spots ≡ 26
    pub carried : are_carried layout (rest i) ≡ are_carried layout (names_from n codes)
    pub is : sets spots (i * 2) (places_of layout (rest i)) ≡ spotted (places_of layout (names_from n codes))

  module _ (layout : Layout) where
    pub spotting_first : Spotting layout (replicate 26 0) 0
    spotting_first = record { long = refl; carried = rw rest_all; is = rw rest_all }

    module _ (spots : List ℕ) (i : ℕ) (w : Spotting layout spots i) where
      pub spotting_none : (y : ℕ) → y ≡ code i → i < n → (s : Option Span) → s ≡ look layout y → s ≡ None → (r : Places) → PlacesTold (no reason.Absent 0) r → PlacesTold (places_said layout (names_from n codes)) r
      unfolding places_said
      spotting_none y e h s g t r p = rw (← w.carried, spot_none i layout y e h s g t) p

      pub spotting_next : (y : ℕ) → y ≡ code i → i < n → (s : Option Span) → s ≡ look layout y → (a z : ℕ) → s ≡ Some (record { first = a; last = z }) → Spotting layout (set (set spots (i * 2) a) (i * 2 + 1) z) (i + 1)
      spotting_next y e h s g a z t =
          let m : i * 2 + 1 ≡ suc (i * 2) = omega arith in
          let k : (i + 1) * 2 ≡ suc (suc (i * 2)) = omega arith in
          record {
            long = length-set (set spots (i * 2) a) (i * 2 + 1) z ∙ length-set spots (i * 2) a ∙ w.long;
            carried = sym (spot_carried i layout y e h s g a z t) ∙ w.carried;
            is = rw (m, k) (rw (spot_places i layout y e h s g a z t) at w.is);
          }

      pub spotting_last : (i < n → ⊥) → PlacesTold (places_said layout (names_from n codes)) (record { outcome = (Ok tt); spots = spots })
      unfolding places_said are_carried places_of result_told
      spotting_last h =
          let c : true ≡ are_carried layout (names_from n codes) = rw (rest_end i h) at w.carried in
          let p : spots ≡ spotted (places_of layout (names_from n codes)) = rw (rest_end i h) at w.is in
          rw (← c) (record { answer = refl; spots = p })

-- ---- whether they are codes

module _ (codes : List ℕ) where
  pub codes_few : are_codes codes ≡ true → length codes ≤ 39
  unfolding are_codes
  codes_few e =
      let a = and_inv (leb 1 (length codes) && leb (length codes) 39 && eqb (length codes % 3) 0) _ e in
      let b = and_inv (leb 1 (length codes) && leb (length codes) 39) _ a.0 in
      let c = and_inv (leb 1 (length codes)) _ b.0 in
      leb-true _ _ c.1

  pub ask_few : (t : Bool) → t ≡ are_codes codes → not t ≡ false → length codes / 3 ≤ 13
  ask_few t e h = omega (arith, codes_few (sym e ∙ not-false t h))

  module _ (layout : Layout) (t : Bool) (e : t ≡ are_codes codes) (r : Places) where
    pub ask_none : not t ≡ true → PlacesTold (no reason.BadValue 0) r → PlacesAsked layout codes r
    unfolding asked_said
    ask_none h p = rw (← e, not-true t h) p

    pub ask_there : not t ≡ false → PlacesTold (places_said layout (names_of codes)) r → PlacesAsked layout codes r
    unfolding asked_said
    ask_there h p = rw (← e, not-false t h) p

-- Lines of known sizes passed one after the other, and their rows put: what is left to be put from each place on gives the whole list. Assumes nothing.
use Rattle.std.specs.Prelude.{None, Option, Some}
use Prim.Native.Nat.{ℕ, suc, ◌+◌, ◌-◌, ◌/◌, ◌≤◌, ◌<◌}
use mathlib.Core.Bool.{Bool, true, false, cond}
use mathlib.Core.List.{List, [], ◌∷◌, ◌++◌}
use mathlib.Core.Path.{◌≡◌, refl, sym, ap, ◌∙◌}
use native.Mathlib.Omega.{arith}
use borrow.Author.Tests.{le-leb, lt-leb, eq-eqb, ne_eqb, eqb-true}
use lib.Dec.{eqb}
use lib.IntN.{ℤ}
use lib.ListN.{length, get_or, set, drop, length-append, length-drop, drop_of_length-le}
use lib.Seq.{sets, length-sets, get_or-drop}
use Rattle.rules.specs.Choice.{given, part}
use Rattle.rules.specs.Families.{line_letter, family_of}
use Rattle.rules.specs.Split.{Lines, end, broken, line, lines_of}
use Rattle.rules.specs.declared.Extra.TheVariants as extra
use Rattle.rules.specs.declared.Family.{Family}
use Rattle.rules.specs.declared.Family.TheVariants as family
use Rattle.rules.proofs.Inverse.{none_some}
use Rattle.rules_laws.proofs.Splitting.{cut, none_left, line_at}
use Rattle.file_lines.specs.Ends.{ended_at}
use Rattle.file_lines.specs.declared.scan.Ended.{Ended}
use Rattle.file_lines.specs.declared.scan.Ended.TheVariants as ended
use Rattle.file_lines.proofs.Cuts as cuts
use Rattle.columns_row.specs.Cells.{row_of, RowPut}
use Rattle.columns_row.proofs.Rows.{row_long}
use Rattle.columns.specs.Lines.{size_in, by_size, text_end, end_by, Sized, rows_by}
use Rattle.columns.specs.declared.Sizes.{Sizes}

-- ---- a line with a letter by the byte at its place

pub letter_high : (g : Family) → 13 < line_letter g
letter_high family.B = omega arith
letter_high (family.Extra extra.K) = omega arith
letter_high (family.Extra extra.N) = omega arith

letter_first : (b : ℕ) → 13 < b → (t r : List ℕ) → eqb (get_or (t ++ 13 ∷ 10 ∷ r) 0 0) b ≡ eqb (get_or t 0 0) b
letter_first b h [] r = ne_eqb 13 b (λ e. omega arith) ∙ sym (ne_eqb 0 b (λ e. omega arith))
letter_first b h (c ∷ t) r = refl

letter_at : (b : ℕ) → 13 < b → (f : List ℕ) (at : ℕ) (t : List ℕ) (ls : Lines) → lines_of (drop at f) ≡ line t ls → eqb (get_or f at 0) b ≡ eqb (get_or t 0 0) b
letter_at b h f at t ls e =
    let c = cut (drop at f) t ls e in
    let n : at + 0 ≡ at = omega arith in
    let k : get_or (drop at f) 0 0 ≡ get_or f at 0 = rw n at (get_or-drop at f 0 0) in
    rw (← k, c.bytes) (letter_first b h t c.rest)

-- ---- where a line ends

-- the letter of a family is its own
pub family_letter : (b : ℕ) (g : Family) → family_of b ≡ Some g → b ≡ line_letter g
unfolding family_of
family_letter b g e = by_b (eqb b (line_letter family.B)) refl e
  where
    same : (x : Family) → Some x ≡ Some g → eqb b (line_letter x) ≡ true → b ≡ line_letter g
    same x q t = eqb-true b (line_letter x) t ∙ ap (λ (o : Option Family). given o 0 line_letter) q

    by_n : (t : Bool) → eqb b (line_letter (family.Extra extra.N)) ≡ t → cond t (Some (family.Extra extra.N)) None ≡ Some g → b ≡ line_letter g
    by_n true t q = same (family.Extra extra.N) q t
    by_n false t q = absurd (none_some q)

    by_k : (t : Bool) → eqb b (line_letter (family.Extra extra.K)) ≡ t
        → cond t (Some (family.Extra extra.K)) (cond (eqb b (line_letter (family.Extra extra.N))) (Some (family.Extra extra.N)) None) ≡ Some g → b ≡ line_letter g
    by_k true t q = same (family.Extra extra.K) q t
    by_k false t q = by_n (eqb b (line_letter (family.Extra extra.N))) refl q

    by_b : (t : Bool) → eqb b (line_letter family.B) ≡ t
        → cond t (Some family.B) (cond (eqb b (line_letter (family.Extra extra.K))) (Some (family.Extra extra.K)) (cond (eqb b (line_letter (family.Extra extra.N))) (Some (family.Extra extra.N)) None)) ≡ Some g
        → b ≡ line_letter g
    by_b true t q = same family.B q t
    by_b false t q = by_k (eqb b (line_letter (family.Extra extra.K))) refl q

module _ (f : List ℕ) (at : ℕ) (s : Sizes) (h : at < length f) where
  -- a line of a family ends by its size, in the file
  pub end_sized : Sized s (lines_of (drop at f)) → (g : Family) → get_or f at 0 ≡ line_letter g → (ended.At (at + size_in g s) ≡ ended_at at (lines_of (drop at f))) × (at + size_in g s ≤ length f)
  unfolding ended_at
  end_sized w g e = by (lines_of (drop at f)) refl w
    where
      by : (k : Lines) → lines_of (drop at f) ≡ k → Sized s k → (ended.At (at + size_in g s) ≡ ended_at at k) × (at + size_in g s ≤ length f)
      by end q v = absurd (omega (arith, h, length-drop at f, ap length (none_left (drop at f) q)))
      by (broken n) q v = absurd v
      by (line t ls) q v =
          let b : get_or t 0 0 ≡ line_letter g = eqb-true (get_or t 0 0) (line_letter g) (sym (letter_at (line_letter g) (letter_high g) f at t ls q) ∙ eq-eqb (get_or f at 0) (line_letter g) e) in
          let n = v.0 g b in
          let p = line_at f at t ls q in
          (ap (λ (m : ℕ). ended.At (at + m)) (sym n), omega (arith, n, p.inside))

  -- no line is broken
  pub end_whole : Sized s (lines_of (drop at f)) → (r : Ended) → r ≡ ended_at at (lines_of (drop at f)) → (e : ℕ) → r ≡ ended.Broken e → ended.At e ≡ ended_at at (lines_of (drop at f))
  unfolding ended_at
  end_whole w r e z d = by (lines_of (drop at f)) refl w e
    where
      by : (k : Lines) → lines_of (drop at f) ≡ k → Sized s k → r ≡ ended_at at k → ended.At z ≡ ended_at at k
      by end q v m = absurd (omega (arith, h, length-drop at f, ap length (none_left (drop at f) q)))
      by (broken n) q v m = absurd v
      by (line t ls) q v m = let y : ◌≡◌ {A = ℕ} 0 1 = cc in absurd (omega arith)

  -- so it ends where the sizes tell, whatever its letter
  sized_end : Sized s (lines_of (drop at f)) → (o : Option Family) → family_of (get_or f at 0) ≡ o
      → ended.At (given o (text_end (ended_at at (lines_of (drop at f)))) λ g. by_size (length f) at (size_in g s)) ≡ ended_at at (lines_of (drop at f))
  unfolding by_size
  sized_end w None e = by (ended_at at (lines_of (drop at f))) refl
    where
      by : (r : Ended) → r ≡ ended_at at (lines_of (drop at f)) → ended.At (text_end r) ≡ ended_at at (lines_of (drop at f))
      by (ended.At z) q = q
      by (ended.Broken z) q = end_whole w (ended.Broken z) q z refl
  sized_end w (Some g) e =
      let h = end_sized w g (family_letter (get_or f at 0) g e) in
      rw (le-leb (size_in g s) (length f - at) (omega (arith, h.1))) h.0

  pub ends_so : Sized s (lines_of (drop at f)) → (e : ℕ) → e ≡ end_by f at s → ended.At e ≡ ended_at at (lines_of (drop at f))
  unfolding end_by
  ends_so w e q =
      let r : e ≡ given (family_of (get_or f at 0)) (text_end (ended_at at (lines_of (drop at f)))) (λ g. by_size (length f) at (size_in g s)) = rw (lt-leb (length f) at h) at q in
      rw r (sized_end w (family_of (get_or f at 0)) refl)

-- ---- the place that the sizes tell, by each way to it

module _ (f : List ℕ) (at : ℕ) (s : Sizes) where
  pub end_past : length f ≤ at → at ≡ end_by f at s
  unfolding end_by
  end_past h = rw (le-leb (length f) at h)

  letter_family : (g : Family) → family_of (line_letter g) ≡ Some g
  unfolding family_of
  letter_family family.B = refl
  letter_family (family.Extra extra.K) = refl
  letter_family (family.Extra extra.N) = refl

  module _ (h : at < length f) where
    pub end_family : (g : Family) → get_or f at 0 ≡ line_letter g → (e : ℕ) → e ≡ by_size (length f) at (size_in g s) → e ≡ end_by f at s
    unfolding end_by
    end_family g b e q = rw (lt-leb (length f) at h, b, letter_family g) q

    pub end_other : (get_or f at 0 ≡ line_letter family.B → ⊥) → (get_or f at 0 ≡ line_letter (family.Extra extra.K) → ⊥) → (get_or f at 0 ≡ line_letter (family.Extra extra.N) → ⊥) → (r : Ended) → r ≡ ended_at at (lines_of (drop at f)) → (e : ℕ) → e ≡ text_end r → e ≡ end_by f at s
    unfolding end_by family_of
    end_other b k n r q e t =
        rw (lt-leb (length f) at h, ne_eqb (get_or f at 0) (line_letter family.B) b, ne_eqb (get_or f at 0) (line_letter (family.Extra extra.K)) k, ne_eqb (get_or f at 0) (line_letter (family.Extra extra.N)) n)
        (t ∙ ap text_end q)

-- ---- rows put one behind the other

sets_both : (xs ys l : List ℤ) (i : ℕ) → sets l i (xs ++ ys) ≡ sets (sets l i xs) (i + length xs) ys
sets_both [] ys l i = let m : i + 0 ≡ i = omega arith in rw m
sets_both (x ∷ xs) ys l i = let m : suc i + length xs ≡ i + suc (length xs) = omega arith in sets_both xs ys (set l i x) (suc i) ∙ rw m

module _ (f : List ℕ) (letter : ℕ) (high : 13 < letter) (s : Sizes) (places : List ℕ) where
  abbrev rows : ℕ → List ℤ
  rows at = rows_by letter places (lines_of (drop at f))

  abbrev width : ℕ
  width = length places / 2

  -- the lines that are left keep their sizes, their rows have room, and put from here on they give the whole list
  pub record Filling (list₀ list : List ℤ) (at put : ℕ) : Type 0 where
    pub long : length list ≡ length list₀
    pub sized : Sized s (lines_of (drop at f))
    pub room : put + length (rows at) ≤ length list
    pub is : sets list put (rows at) ≡ sets list₀ 0 (rows_by letter places (lines_of f))

  pub filling_first : (list : List ℤ) → Sized s (lines_of f) → length (rows_by letter places (lines_of f)) ≤ length list → Filling list list 0 0
  filling_first list w h = record { long = refl; sized = w; room = omega (arith, h); is = refl }

  module _ (list₀ list : List ℤ) (at put : ℕ) (w : Filling list₀ list at put) where
    pub filling_last : length f ≤ at → list ≡ sets list₀ 0 (rows_by letter places (lines_of f))
    unfolding lines_of rows_by
    filling_last h = rw (drop_of_length-le f h) at w.is

    module _ (e : ℕ) (q : ended.At e ≡ ended_at at (lines_of (drop at f))) where
      abbrev text : List ℕ
      text = part at e f

      lines_are : lines_of (drop at f) ≡ line text (lines_of (drop (e + 2) f))
      lines_are = (cuts.cut f at e q).lines

      sized_next : Sized s (lines_of (drop (e + 2) f))
      sized_next = let v : Sized s (line text (lines_of (drop (e + 2) f))) = rw lines_are at w.sized in v.1

      -- a line of the family
      module _ (b : get_or f at 0 ≡ letter) where
        here : eqb (get_or text 0 0) letter ≡ true
        here = sym (letter_at letter high f at text (lines_of (drop (e + 2) f)) lines_are) ∙ eq-eqb (get_or f at 0) letter b

        rows_here : rows at ≡ row_of text places ++ rows (e + 2)
        unfolding rows_by
        rows_here = rw (lines_are, here)

        rows_long : length (rows at) ≡ width + length (rows (e + 2))
        rows_long = ap length rows_here ∙ length-append (row_of text places) (rows (e + 2)) ∙ ap (λ (n : ℕ). n + length (rows (e + 2))) (row_long width text places)

        pub put_fits : put + width ≤ length list
        put_fits = omega (arith, w.room, rows_long)

        pub filling_row : (after : List ℤ) → RowPut text places put list after → (list' : List ℤ) → list' ≡ after → (put' : ℕ) → put' ≡ put + width → Filling list₀ list' (e + 2) put'
        filling_row after p list' same_list put' same_put =
            let a : after ≡ sets list put (row_of text places) = rw (le-leb (put + width) (length list) put_fits) at p in
            let n : length after ≡ length list = rw a (length-sets list put (row_of text places)) in
            let m : put + length (row_of text places) ≡ put + width = ap (λ (n : ℕ). put + n) (row_long width text places) in
            let both : sets list put (rows at) ≡ sets after (put + width) (rows (e + 2)) = rw (rows_here, sets_both (row_of text places) (rows (e + 2)) list put, m, ← a) in
            rw (same_list, same_put) (record { long = n ∙ w.long; sized = sized_next; room = omega (arith, w.room, rows_long, n); is = sym both ∙ w.is })

      -- another line
      pub filling_over : (get_or f at 0 ≡ letter → ⊥) → (list' : List ℤ) → list' ≡ list → (put' : ℕ) → put' ≡ put → Filling list₀ list' (e + 2) put'
      unfolding rows_by
      filling_over d list' same_list put' same_put =
          let o : eqb (get_or text 0 0) letter ≡ false = sym (letter_at letter high f at text (lines_of (drop (e + 2) f)) lines_are) ∙ ne_eqb (get_or f at 0) letter d in
          let same : rows at ≡ rows (e + 2) = rw (lines_are, o) in
          rw (same_list, same_put) (record { long = w.long; sized = sized_next; room = rw (← same) w.room; is = rw (← same) w.is })

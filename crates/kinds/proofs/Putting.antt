-- Lines of known sizes passed one after the other, and their letters put: what is left to be put from each place on gives the whole list. Assumes nothing.
use Prim.Native.Nat.{ℕ, suc, ◌+◌, ◌-◌, ◌≤◌, ◌<◌}
use Prim.Native.Char.{code}
use mathlib.Core.Bool.{Bool, true, false, ◌||◌, cond}
use mathlib.Core.List.{List, [], ◌∷◌}
use mathlib.Core.Logic.{◌⊎◌, inl, inr}
use mathlib.Core.Path.{◌≡◌, refl, sym, ap, ◌∙◌}
use native.Mathlib.Numerals.{add-one}
use native.Mathlib.Omega.{arith}
use borrow.Author.Tests.{eq-eqb, ne_eqb}
use lib.Dec.{eqb}
use lib.ListN.{length, take, drop, get_or, set, length-drop, length-set, drop_of_length-le}
use lib.Seq.{sets, get_or-drop, get_or-take, length-take-le}
use Rattle.rules.specs.Choice.{part}
use Rattle.rules.specs.Split.{Lines, end, broken, line, lines_of}
use Rattle.file_lines.specs.Ends.{ended_at}
use Rattle.file_lines.specs.declared.scan.Ended.TheVariants as ended
use Rattle.file_lines.proofs.Cuts as cuts
use Rattle.notes_rules.specs.Notes.{is_seal, sealed}
use Rattle.notes_common.proofs.Accepted.{Filled}
use Rattle.columns.specs.Lines.{Sized, end_by}
use Rattle.columns.specs.declared.Sizes.{Sizes}
use Rattle.columns.proofs.Filling.{ends_so}
use Rattle.kinds.specs.Kinds.{letter_of}
use Rattle.kinds.specs.Letters.{letters_of, to_seal, notes_from, Ready, LettersPut}
use Rattle.kinds.proofs.Marking.{none_sealed, one_sealed}

-- what the lines from a place on make of the lines counted up to the last G line so far
abbrev seal_at : ℕ → ℕ → Lines → ℕ
seal_at last put k = cond (sealed k) (put + to_seal k) last

seal_line : (last put : ℕ) (t : List ℕ) (ls : Lines) → seal_at last put (line t ls) ≡ seal_at (cond (is_seal t) (put + 1) last) (put + 1) ls
unfolding sealed to_seal
seal_line last put t ls = go (is_seal t) (sealed ls) refl
  where
    go : (p q : Bool) → sealed ls ≡ q → cond (p || q) (put + cond (p || q) (suc (to_seal ls)) 0) last ≡ cond q (put + 1 + to_seal ls) (cond p (put + 1) last)
    go true true e = omega arith
    go true false e = omega (arith, none_sealed ls e)
    go false true e = omega arith
    go false false e = refl

module _ (f : List ℕ) (s : Sizes) where
  abbrev rest : ℕ → Lines
  rest at = lines_of (drop at f)

  -- the lines that are left keep their sizes and are not empty, their letters have room, and put from here on they give the whole list
  pub record Putting (list₀ list : List ℕ) (at put last : ℕ) : Type 0 where
    pub long : length list ≡ length list₀
    pub ready : Ready s (rest at)
    pub room : put + length (letters_of (rest at)) ≤ length list
    pub is : sets list put (letters_of (rest at)) ≡ sets list₀ 0 (letters_of (lines_of f))
    pub count : put + length (letters_of (rest at)) ≡ length (letters_of (lines_of f))
    pub seal : seal_at last put (rest at) ≡ to_seal (lines_of f)

  pub putting_first : (list : List ℕ) → Ready s (lines_of f) → length (letters_of (lines_of f)) ≤ length list → Putting list list 0 0 0
  putting_first list w h = record { long = refl; ready = w; room = omega (arith, h); is = refl; count = omega arith; seal = go (sealed (lines_of f)) refl }
    where
      go : (b : Bool) → sealed (lines_of f) ≡ b → cond b (0 + to_seal (lines_of f)) 0 ≡ to_seal (lines_of f)
      go true e = omega arith
      go false e = sym (none_sealed (lines_of f) e)

  module _ (list₀ list : List ℕ) (at put last : ℕ) (w : Putting list₀ list at put last) where
    -- ---- the end

    module _ (h : length f ≤ at) where
      pub putting_last : list ≡ sets list₀ 0 (letters_of (lines_of f))
      unfolding lines_of letters_of
      putting_last = rw (drop_of_length-le f h) at w.is

      last_is : last ≡ to_seal (lines_of f)
      unfolding lines_of sealed
      last_is = rw (drop_of_length-le f h) at w.seal

      put_is : put ≡ length (letters_of (lines_of f))
      unfolding lines_of letters_of
      put_is = let e : put + 0 ≡ length (letters_of (lines_of f)) = rw (drop_of_length-le f h) at w.count in omega (arith, e)

      pub letters_unsealed : last ≡ 0 → LettersPut (lines_of f) list₀ put list
      letters_unsealed z = record { before = go (sealed (lines_of f)) refl; letters = putting_last }
        where
          go : (b : Bool) → sealed (lines_of f) ≡ b → put ≡ cond b (to_seal (lines_of f)) (length (letters_of (lines_of f)))
          go true e = absurd (omega (arith, one_sealed (lines_of f) e, last_is, z))
          go false e = put_is

      pub letters_sealed : (last ≡ 0 → ⊥) → LettersPut (lines_of f) list₀ last list
      letters_sealed z = record { before = go (sealed (lines_of f)) refl; letters = putting_last }
        where
          go : (b : Bool) → sealed (lines_of f) ≡ b → last ≡ cond b (to_seal (lines_of f)) (length (letters_of (lines_of f)))
          go true e = last_is
          go false e = absurd (z (last_is ∙ none_sealed (lines_of f) e))

    -- ---- a line

    pub ended_so : at < length f → (e : ℕ) → e ≡ end_by f at s → ended.At e ≡ ended_at at (rest at)
    ended_so h e q = ends_so f at s h w.ready.sized e q

    module _ (e : ℕ) (q : ended.At e ≡ ended_at at (rest at)) where
      abbrev text : List ℕ
      text = part at e f

      lines_are : rest at ≡ line text (rest (e + 2))
      lines_are = (cuts.cut f at e q).lines

      ready_line : Ready s (line text (rest (e + 2)))
      ready_line = rw lines_are at w.ready

      long_text : length text ≡ e - at
      long_text = let c = cuts.cut f at e q in length-take-le (e - at) (drop at f) (omega (arith, c.fits, length-drop at f))

      letter_is : letter_of text ≡ get_or f at 0
      letter_is =
          let n : at + 0 ≡ at = omega arith in
          get_or-take (e - at) (drop at f) 0 0 (omega (arith, long_text, ready_line.filled.0)) ∙ rw n at (get_or-drop at f 0 0)

      letters_are : letters_of (rest at) ≡ get_or f at 0 ∷ letters_of (rest (e + 2))
      unfolding letters_of
      letters_are = rw (lines_are, letter_is)

      letters_long : length (letters_of (rest at)) ≡ suc (length (letters_of (rest (e + 2))))
      letters_long = ap length letters_are

      pub put_fits : put < length list
      put_fits = omega (arith, w.room, letters_long)

      seal_next : seal_at (cond (eqb (get_or f at 0) (code "G")) (put + 1) last) (put + 1) (rest (e + 2)) ≡ to_seal (lines_of f)
      seal_next = rw (← letter_is) (sym (seal_line last put text (rest (e + 2))) ∙ ap (seal_at last put) (sym lines_are) ∙ w.seal)

      next : (last' : ℕ) → seal_at last' (put + 1) (rest (e + 2)) ≡ to_seal (lines_of f) → Putting list₀ (set list put (get_or f at 0)) (e + 2) (put + 1) last'
      next last' d =
          let long = length-set list put (get_or f at 0) in
          let i : sets (set list put (get_or f at 0)) (put + 1) (letters_of (rest (e + 2))) ≡ sets list put (letters_of (rest at)) = rw (letters_are, add-one) in
          record {
            long = long ∙ w.long;
            ready = record { sized = ready_line.sized.1; filled = ready_line.filled.1 };
            room = omega (arith, w.room, letters_long, long);
            is = i ∙ w.is;
            count = omega (arith, w.count, letters_long);
            seal = d;
          }

      -- a G line, and another line
      pub putting_either : {A B : Type 0} (last' : ℕ) → (A → get_or f at 0 ≡ code "G") → (B → (get_or f at 0 ≡ code "G" → ⊥)) → (A × (last' ≡ put + 1)) ⊎ (B × (last' ≡ last))
          → Putting list₀ (set list put (get_or f at 0)) (e + 2) (put + 1) last'
      putting_either last' g n (inl p) = rw p.1 (next (put + 1) (rw (eq-eqb (get_or f at 0) (code "G") (g p.0)) at seal_next))
      putting_either last' g n (inr p) = rw p.1 (next last (rw (ne_eqb (get_or f at 0) (code "G") (n p.0)) at seal_next))

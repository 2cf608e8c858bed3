-- The kinds of lines are their letters, marked behind the last G line; and bytes of a list marked one after the other. Assumes nothing.
use Prim.Native.Nat.{ℕ, suc, ◌+◌, ◌-◌, ◌≤◌, ◌<◌}
use Prim.Native.Char.{code}
use mathlib.Core.Bool.{Bool, true, false, not, ◌&&◌, ◌||◌, cond}
use mathlib.Core.List.{List, [], ◌∷◌, ◌++◌}
use mathlib.Core.Path.{◌≡◌, refl, sym, ap, ◌∙◌}
use native.Mathlib.Omega.{arith}
use borrow.Author.Tests.{ne_eqb, eqb-true}
use lib.Dec.{eqb}
use lib.ListN.{length, take, drop, get_or, set, length-append, length-drop, length-set}
use lib.Seq.{sets, sets-eq, drop-cons, drop-set-lt, take-append-le, drop-append-le, take_at, drop_at}
use Rattle.rules.specs.Choice.{part}
use Rattle.rules.specs.Split.{Lines, end, broken, line}
use Rattle.rules.proofs.Inverse.{false_true}
use Rattle.notes_rules.specs.Notes.{is_seal, sealed}
use Rattle.kinds.specs.Kinds.{letter_of, note_mark, kind_by, kinds_behind, kinds_of}
use Rattle.kinds.specs.Letters.{letters_of, to_seal, notes_from, mark_of, marked}

-- ---- the last G line among lines

pub none_sealed : (k : Lines) → sealed k ≡ false → to_seal k ≡ 0
unfolding sealed to_seal
none_sealed end e = refl
none_sealed (broken n) e = refl
none_sealed (line t ls) e = rw e

pub one_sealed : (k : Lines) → sealed k ≡ true → 1 ≤ to_seal k
unfolding sealed to_seal
one_sealed end e = absurd (false_true e)
one_sealed (broken n) e = absurd (false_true e)
one_sealed (line t ls) e = rw e (omega arith)

pub seal_inside : (k : Lines) → to_seal k ≤ length (letters_of k)
unfolding to_seal letters_of
seal_inside end = omega arith
seal_inside (broken n) = omega arith
seal_inside (line t ls) = go (is_seal t || sealed ls) (seal_inside ls)
  where
    go : (b : Bool) → to_seal ls ≤ length (letters_of ls) → cond b (suc (to_seal ls)) 0 ≤ suc (length (letters_of ls))
    go true h = omega (arith, h)
    go false h = omega arith

pub notes_inside : (k : Lines) → notes_from k ≤ length (letters_of k)
notes_inside k = go (sealed k)
  where
    go : (b : Bool) → cond b (to_seal k) (length (letters_of k)) ≤ length (letters_of k)
    go true = seal_inside k
    go false = omega arith

-- ---- kinds by letters

pub marked_long : (l : List ℕ) → length (marked l) ≡ length l
unfolding marked
marked_long [] = refl
marked_long (b ∷ l) = ap suc (marked_long l)

-- before every G line, and before the last, no line is a note
unmarked : (x : Bool) (m l : ℕ) → (cond (x && false && true) m l ≡ l) × ((b : Bool) → cond (x && b && false) m l ≡ l)
unmarked true m l = (refl, λ b. go b)
  where
    go : (b : Bool) → cond (b && false) m l ≡ l
    go true = refl
    go false = refl
unmarked false m l = (refl, λ b. refl)

-- behind the last G line each L line is one
marks : (x : Bool) (m l : ℕ) → cond (x && true && true) m l ≡ cond x m l
marks true m l = refl
marks false m l = refl

-- and a G line is none
seal_kind : (b : Bool) (t : List ℕ) → is_seal t ≡ true → kind_by b false t ≡ letter_of t
seal_kind b t e =
    let g : letter_of t ≡ code "G" = eqb-true (letter_of t) (code "G") e in
    rw (ne_eqb (letter_of t) (code "L") (λ q. let z : ◌≡◌ {A = ℕ} 71 76 = sym g ∙ q in omega arith))

pub kinds_unsealed : (k : Lines) → sealed k ≡ false → kinds_behind false k ≡ letters_of k
unfolding sealed kinds_behind letters_of
kinds_unsealed end e = refl
kinds_unsealed (broken n) e = refl
kinds_unsealed (line t ls) e = go (is_seal t) (sealed ls) refl refl e (λ b. kinds_unsealed ls b)
  where
    go : (p q : Bool) → is_seal t ≡ p → sealed ls ≡ q → (p || q) ≡ false → (sealed ls ≡ false → kinds_behind false ls ≡ letters_of ls) → kind_by false q t ∷ kinds_behind (false || p) ls ≡ letter_of t ∷ letters_of ls
    go true q a b c later = absurd (false_true (sym c))
    go false true a b c later = absurd (false_true (sym c))
    go false false a b c later = rw ((unmarked (eqb (letter_of t) (code "L")) note_mark (letter_of t)).0, later b)

pub kinds_behind_lem : (k : Lines) → sealed k ≡ false → kinds_behind true k ≡ marked (letters_of k)
unfolding sealed kinds_behind letters_of marked
kinds_behind_lem end e = refl
kinds_behind_lem (broken n) e = refl
kinds_behind_lem (line t ls) e = go (is_seal t) (sealed ls) refl refl e (λ b. kinds_behind_lem ls b)
  where
    go : (p q : Bool) → is_seal t ≡ p → sealed ls ≡ q → (p || q) ≡ false → (sealed ls ≡ false → kinds_behind true ls ≡ marked (letters_of ls)) → kind_by true q t ∷ kinds_behind (true || p) ls ≡ mark_of (letter_of t) ∷ marked (letters_of ls)
    go true q a b c later = absurd (false_true (sym c))
    go false true a b c later = absurd (false_true (sym c))
    go false false a b c later = rw (marks (eqb (letter_of t) (code "L")) note_mark (letter_of t), later b)

abbrev cut_at : ℕ → List ℕ → List ℕ
cut_at n l = take n l ++ marked (drop n l)

or_true : (b : Bool) → (b || true) ≡ true
or_true true = refl
or_true false = refl

pub kinds_sealed : (k : Lines) (before : Bool) → sealed k ≡ true → kinds_behind before k ≡ cut_at (to_seal k) (letters_of k)
unfolding sealed kinds_behind letters_of to_seal
kinds_sealed end before e = absurd (false_true e)
kinds_sealed (broken n) before e = absurd (false_true e)
kinds_sealed (line t ls) before e = go (is_seal t) (sealed ls) refl refl e (λ x b. kinds_sealed ls x b)
  where
    go : (p q : Bool) → is_seal t ≡ p → sealed ls ≡ q → (p || q) ≡ true → ((x : Bool) → sealed ls ≡ true → kinds_behind x ls ≡ cut_at (to_seal ls) (letters_of ls))
        → kind_by before q t ∷ kinds_behind (before || p) ls ≡ cut_at (cond (p || q) (suc (to_seal ls)) 0) (letter_of t ∷ letters_of ls)
    go true true a b c later = rw ((unmarked (eqb (letter_of t) (code "L")) note_mark (letter_of t)).1 before, later (before || true) b)
    go false true a b c later = rw ((unmarked (eqb (letter_of t) (code "L")) note_mark (letter_of t)).1 before, later (before || false) b)
    go true false a b c later = rw (seal_kind before t a, or_true before, none_sealed ls b, kinds_behind_lem ls b)
    go false false a b c later = absurd (false_true c)

all_cut : (l : List ℕ) → cut_at (length l) l ≡ l
unfolding marked
all_cut [] = refl
all_cut (b ∷ l) = ap (λ (m : List ℕ). b ∷ m) (all_cut l)

-- all kinds: the letters, and from where the notes begin marked
pub kinds_cut : (k : Lines) → kinds_of k ≡ cut_at (notes_from k) (letters_of k)
kinds_cut k = go (sealed k) refl
  where
    go : (b : Bool) → sealed k ≡ b → kinds_behind false k ≡ cut_at (cond b (to_seal k) (length (letters_of k))) (letters_of k)
    go true e = kinds_sealed k false e
    go false e = kinds_unsealed k e ∙ sym (all_cut (letters_of k))

pub kinds_long : (k : Lines) (before : Bool) → length (kinds_behind before k) ≡ length (letters_of k)
unfolding kinds_behind letters_of
kinds_long end before = refl
kinds_long (broken n) before = refl
kinds_long (line t ls) before = ap suc (kinds_long ls (before || is_seal t))

-- ---- bytes of a list marked one after the other

abbrev pub marked_in : List ℕ → ℕ → ℕ → List ℕ
marked_in list i to = sets list i (marked (part i to list))

module _ (list : List ℕ) (i to : ℕ) where
  pub marking_last : to ≤ i → marked_in list i to ≡ list
  unfolding marked
  marking_last h = let z : to - i ≡ 0 = omega arith in rw z

  marking_next : i < to → to ≤ length list → marked_in (set list i (mark_of (get_or list i 0))) (i + 1) to ≡ marked_in list i to
  unfolding marked
  marking_next h k =
      let s : to - i ≡ suc (to - (i + 1)) = omega arith in
      let m : i + 1 ≡ suc i = omega arith in
      rw (s, drop-cons list i 0 (omega arith), m, drop-set-lt (suc i) list i (mark_of (get_or list i 0)) (omega arith))

  -- one byte more
  pub marking_turn : (list₀ whole : List ℕ) (b : ℕ) → i < to → to ≤ length list₀ → (length list ≡ length list₀) × (marked_in list i to ≡ whole) → b ≡ mark_of (get_or list i 0)
      → (length (set list i b) ≡ length list₀) × (marked_in (set list i b) (i + 1) to ≡ whole)
  marking_turn list₀ whole b h k w e = rw e (length-set list i (mark_of (get_or list i 0)) ∙ w.0, marking_next h (omega (arith, w.0)) ∙ w.1)

-- ---- letters put and marked

-- letters at the front of a list, marked from a place among them on
pub marked_front : (l list : List ℕ) (s n : ℕ) → length l ≡ n → s ≤ n → n ≤ length list → marked_in (sets list 0 l) s n ≡ cut_at s l ++ drop n list
marked_front l list s n e h k =
    let r = drop n list in
    let z : 0 + length l ≡ n = omega (arith, e) in
    let front : sets list 0 l ≡ l ++ r = sets-eq l list 0 (omega (arith, e)) ∙ rw z in
    let here : part s n (l ++ r) ≡ drop s l = rw (drop-append-le s l r (omega (arith, e))) (take_at (drop s l) r (n - s) (length-drop s l ∙ omega (arith, e))) in
    let m = marked (drop s l) in
    let long : length m ≡ n - s = marked_long (drop s l) ∙ length-drop s l ∙ omega (arith, e) in
    let tail : drop (s + length m) (l ++ r) ≡ r = drop_at l r (s + length m) (omega (arith, e, long)) in
    rw (front, here) (sets-eq m (l ++ r) s (omega (arith, e, long, length-append l r)) ∙ rw (tail, take-append-le s l r (omega (arith, e))))

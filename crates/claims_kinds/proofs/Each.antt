-- The byte of each line: its letter, or the mark exactly where the line is a note. Assumes nothing.
use Rattle.std.specs.Prelude.{None}
use Prim.Native.Nat.{ℕ, zero, suc, ◌+◌, ◌-◌, ◌≤◌, ◌<◌}
use Prim.Native.Char.{code}
use mathlib.Core.Bool.{Bool, true, false, not, ◌&&◌, ◌||◌, cond}
use mathlib.Core.List.{List, [], ◌∷◌}
use mathlib.Core.Path.{◌≡◌, refl, sym, ap, ◌∙◌}
use native.Mathlib.Omega.{arith}
use borrow.Author.Tests.{eq-eqb, ne_eqb, eqb-true}
use lib.Dec.{eqb, leb}
use lib.ListN.{length, take, drop, get_or}
use lib.Seq.{get_or-take, get_or-drop, length-take-le}
use Rattle.rules.specs.Choice.{Each}
use Rattle.rules.specs.Files.{run, verdict}
use Rattle.rules.specs.Lines.{kind_of}
use Rattle.rules.specs.Order.{start}
use Rattle.rules.specs.Refusals.{says}
use Rattle.rules.specs.Roles.{role_of, is_role}
use Rattle.rules.specs.Split.{Lines, end, broken, line, lines_of}
use Rattle.rules.specs.declared.Flight.{Flight}
use Rattle.rules.specs.declared.Seal.{Seal}
use Rattle.rules.specs.declared.State.{State}
use Rattle.rules.proofs.Inverse.{false_true, refuses_says, need_inv}
use Rattle.rules_laws.proofs.Passing.{role_in, judged, ran}
use Rattle.rules_laws.proofs.Splitting.{texts_of}
use Rattle.notes_rules.specs.Notes.{is_seal, sealed}
use Rattle.kinds.specs.Kinds.{letter_of, note_mark, kind_by, kinds_behind}
use Rattle.claims_kinds.specs.Noted.{Begins, IsNote, IsKind, note, letter}

-- ---- G lines among lines

any_seal : List (List ℕ) → Bool
any_seal [] = false
any_seal (t ∷ ts) = is_seal t || any_seal ts

sealed_any : (k : Lines) → sealed k ≡ any_seal (texts_of k)
unfolding sealed any_seal
sealed_any end = refl
sealed_any (broken n) = refl
sealed_any (line t ls) = ap (λ (b : Bool). is_seal t || b) (sealed_any ls)

record Somewhere (ts : List (List ℕ)) : Type 0 where
  at : ℕ
  inside : at < length ts
  is : Begins ts at (code "G")

any_there : (ts : List (List ℕ)) → any_seal ts ≡ true → Somewhere ts
unfolding any_seal
any_there [] e = absurd (false_true e)
any_there (t ∷ ts) e = go (is_seal t) refl (λ x. any_there ts x) e
  where
    go : (b : Bool) → is_seal t ≡ b → (any_seal ts ≡ true → Somewhere ts) → (b || any_seal ts) ≡ true → Somewhere (t ∷ ts)
    go true q later x = record { at = 0; inside = omega arith; is = eqb-true (get_or t 0 0) (code "G") q }
    go false q later x = let s = later x in record { at = suc s.at; inside = omega (arith, s.inside); is = s.is }

any_nowhere : (ts : List (List ℕ)) → any_seal ts ≡ false → (i : ℕ) → Begins ts i (code "G") → ⊥
unfolding any_seal
any_nowhere [] e i b = omega (arith, b)
any_nowhere (t ∷ ts) e i b = go (is_seal t) refl (λ x j c. any_nowhere ts x j c) e i b
  where
    go : (q : Bool) → is_seal t ≡ q → (any_seal ts ≡ false → (j : ℕ) → Begins ts j (code "G") → ⊥) → (q || any_seal ts) ≡ false → (i : ℕ) → Begins (t ∷ ts) i (code "G") → ⊥
    go true q later x i b = false_true (sym x)
    go false q later x zero b = false_true (sym q ∙ eq-eqb (get_or t 0 0) (code "G") b)
    go false q later x (suc j) b = later x j b

-- ---- the byte of a line, by the lines before it and after it

or_false : (b : Bool) → b ≡ (b || false)
or_false true = refl
or_false false = refl

or_three : (a b c : Bool) → ((a || b) || c) ≡ (a || (b || c))
or_three true b c = refl
or_three false b c = refl

kind_at : (k : Lines) (before : Bool) (n : ℕ) → n < length (texts_of k)
    → get_or (kinds_behind before k) n 0 ≡ kind_by (before || any_seal (take n (texts_of k))) (any_seal (drop (suc n) (texts_of k))) (get_or (texts_of k) n [])
unfolding kinds_behind any_seal
kind_at end before n h = absurd (omega arith)
kind_at (broken m) before n h = absurd (omega arith)
kind_at (line t ls) before zero h = rw (← sealed_any ls, ← or_false before)
kind_at (line t ls) before (suc n) h = kind_at ls (before || is_seal t) n (omega (arith, h)) ∙ rw (or_three before (is_seal t) (any_seal (take n (texts_of ls))))

module _ (ls : List (List ℕ)) (n : ℕ) (h : n < length ls) where
  kind_by_lem : (p q r : Bool) → eqb (letter_of (get_or ls n [])) (code "L") ≡ p → any_seal (take n ls) ≡ q → any_seal (drop (suc n) ls) ≡ r
      → IsKind ls n (cond (p && q && not r) note_mark (letter_of (get_or ls n [])))
  kind_by_lem true true false a b c =
      let s = any_there (take n ls) b in
      let i : s.at < n = omega (arith, s.inside, length-take-le n ls (omega (arith, h))) in
      note (record {
        remark = eqb-true _ _ a;
        signed = s.at;
        before = i;
        signs = ap (λ (t : List ℕ). get_or t 0 0) (sym (get_or-take n ls s.at [] i)) ∙ s.is;
        last = λ j m w.
            let z : suc n + (j - suc n) ≡ j = omega arith in
            let e : get_or (drop (suc n) ls) (j - suc n) [] ≡ get_or ls j [] = get_or-drop (suc n) ls (j - suc n) [] ∙ ap (λ (x : ℕ). get_or ls x []) z in
            any_nowhere (drop (suc n) ls) c (j - suc n) (ap (λ (t : List ℕ). get_or t 0 0) e ∙ w);
      })
  kind_by_lem false q r a b c = letter (λ w. false_true (sym a ∙ eq-eqb _ (code "L") w.remark))
  kind_by_lem true false r a b c = letter (λ w. any_nowhere (take n ls) b w.signed (ap (λ (t : List ℕ). get_or t 0 0) (get_or-take n ls w.signed [] w.before) ∙ w.signs))
  kind_by_lem true true true a b c =
      let s = any_there (drop (suc n) ls) c in
      letter (λ w. w.last (suc n + s.at) (omega arith) (ap (λ (t : List ℕ). get_or t 0 0) (sym (get_or-drop (suc n) ls s.at [])) ∙ s.is))

-- the byte of line n of lines, counted from 0
pub kind_is : (k : Lines) (n : ℕ) → n < length (texts_of k) → IsKind (texts_of k) n (get_or (kinds_behind false k) n 0)
kind_is k n h =
    let ls = texts_of k in
    rw (kind_at k false n h) (kind_by_lem ls n h (eqb (letter_of (get_or ls n [])) (code "L")) (any_seal (take n ls)) (any_seal (drop (suc n) ls)) refl refl refl)

-- ---- the mark is no letter of a line

abbrev pub NoMark : List ℕ → Type 0
NoMark t = letter_of t ≡ note_mark → ⊥

unknown : (t : List ℕ) → letter_of t ≡ note_mark → is_role (role_in t) ≡ true → ⊥
unfolding kind_of
unknown t e k = false_true (rw e at k)

run_unmarked : (seal : Seal) (k : Lines) (st : State) (f : Flight) → run seal None st k ≡ says f → Each NoMark (texts_of k)
run_unmarked seal end st f e = tt
run_unmarked seal (broken n) st f e = tt
run_unmarked seal (line t ls) st f e =
    let g = ran seal None st t ls f e in
    ((λ m. unknown t m (judged t st g.after g.judges).known), run_unmarked seal ls g.after f g.runs)

pub unmarked : (seal : Seal) (file : List ℕ) (f : Flight) → verdict seal file None ≡ says f → Each NoMark (texts_of (lines_of file))
unfolding verdict
unmarked seal file f e =
    let a = need_inv (leb 1 (length file)) _ (says f) _ refuses_says e in
    let b = need_inv (leb (length file) 16777216) _ (says f) _ refuses_says a.1 in
    run_unmarked seal (lines_of file) start f b.1

pub unmarked_at : (ls : List (List ℕ)) → Each NoMark ls → (n : ℕ) → letter_of (get_or ls n []) ≡ note_mark → ⊥
unmarked_at [] h n e = omega (arith, e)
unmarked_at (t ∷ ls) h zero e = h.0 e
unmarked_at (t ∷ ls) h (suc n) e = unmarked_at ls h.1 n e

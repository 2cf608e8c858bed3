-- Where CR LF stands: the rules' tests are those of specs/Endings, which mean what they say; and a line by its number and a step come back with the line that stands there,
-- of any file, table and place. Assumes nothing.
use Rattle.std.specs.Prelude.{None, Some}
use Prim.Native.Nat.{ℕ, zero, suc, ◌+◌, ◌-◌, ◌≤◌}
use mathlib.Core.Bool.{Bool, true, false, ◌&&◌, ◌||◌, cond, or-true}
use mathlib.Core.List.{List, [], ◌∷◌, ◌++◌}
use mathlib.Core.Logic.{◌↔◌, ◌⊎◌, inl, inr}
use mathlib.Core.Path.{◌≡◌, refl, sym, ◌∙◌, ap, ap₂, subst}
use native.Mathlib.Omega.{arith}
use borrow.Author.Tests.{le-leb, leb-true, eqb-true, eq-eqb, eqb-false, ne_eqb}
use lib.Dec.{eqb, leb}
use lib.ListN.{length, get_or, drop}
use Rattle.rules.specs.Choice.{given, on}
use Rattle.rules.specs.Refusals.{number, says, refuses}
use Rattle.rules.specs.declared.Bounds.{Bounds}
use Rattle.rules.specs.Split.{Stepped, begins_crlf, first_crlf, is_start, bounds_of, step_at}
use Rattle.rules.proofs.Inverse.{refuses_says, none_some, false_true, and_inv, given_inv, need_inv}
use Rattle.grammar.specs.Checks.{is_there}
use Rattle.grammar.specs.Endings.{is_ending, has_ending, Ending, EndingsMeant, FirstLine, IsLineAt, IsNumbered, IsStep, none_left, next_line}

-- ---- the rules' tests

pub ending_behind : (n : ℕ) (l : List ℕ) → begins_crlf (drop n l) ≡ is_ending n l
unfolding begins_crlf is_ending
ending_behind zero [] = refl
ending_behind (suc n) [] = refl
ending_behind zero (b ∷ l) = refl
ending_behind (suc n) (b ∷ l) = ending_behind n l

pub ending_first : (l : List ℕ) (at : ℕ) → is_there (first_crlf at l) ≡ has_ending l
unfolding first_crlf has_ending
ending_first [] at = refl
ending_first (b ∷ l) at = rw (ending_behind 0 (b ∷ l)) (go (is_ending 0 (b ∷ l)) (ending_first l (at + 1)))
  where
    go : (t : Bool) → is_there (first_crlf (at + 1) l) ≡ has_ending l → is_there (cond t (Some at) (first_crlf (at + 1) l)) ≡ (t || has_ending l)
    go true h = refl
    go false h = h

-- ---- what the tests of CR LF mean

-- CR LF stands first
leading : (b : ℕ) (l : List ℕ) → is_ending 0 (b ∷ l) ≡ true → (after : List ℕ) × (b ∷ l ≡ 13 ∷ 10 ∷ after)
unfolding is_ending
leading b [] h = absurd (false_true (and_inv (eqb b 13) false h).1)
leading b (c ∷ l) h = let a = and_inv (eqb b 13) (eqb c 10) h in (l, rw (eqb-true b 13 a.0, eqb-true c 10 a.1))

-- one byte in front
further : (b : ℕ) {l : List ℕ} → Ending l → Ending (b ∷ l)
further b w = record { before = b ∷ w.before; after = w.after; order = ap (λ x. b ∷ x) w.order }

there : (n : ℕ) (l : List ℕ) → is_ending n l ≡ true → (w : Ending l) × (length w.before ≡ n)
unfolding is_ending further
there n [] h = absurd (false_true h)
there zero (b ∷ l) h = let a = leading b l h in (record { before = []; after = a.0; order = a.1 }, refl)
there (suc n) (b ∷ l) h = let w = there n l h in (further b w.0, ap suc w.1)

stands : (before after : List ℕ) → (is_ending (length before) (before ++ (13 ∷ 10 ∷ after)) ≡ true) × (has_ending (before ++ (13 ∷ 10 ∷ after)) ≡ true)
unfolding is_ending has_ending
stands [] after = (refl, refl)
stands (b ∷ before) after = let r = stands before after in (r.0, rw r.1 (or-true (is_ending 0 (b ∷ (before ++ (13 ∷ 10 ∷ after))))))

somewhere : (l : List ℕ) → has_ending l ≡ true → Ending l
unfolding has_ending
somewhere [] h = absurd (false_true h)
somewhere (b ∷ l) h = go (is_ending 0 (b ∷ l)) refl h (somewhere l)
  where
    go : (t : Bool) → is_ending 0 (b ∷ l) ≡ t → (t || has_ending l) ≡ true → (has_ending l ≡ true → Ending l) → Ending (b ∷ l)
    go true e h r = (there 0 (b ∷ l) e).0
    go false e h r = further b (r h)

pub endings_meant : EndingsMeant
endings_meant = record {
  there = λ n l. (there n l, λ w. ap₂ is_ending (sym w.1) w.0.order ∙ (stands w.0.before w.0.after).0);
  somewhere = λ l. (somewhere l, λ w. ap has_ending w.order ∙ (stands w.before w.after).1);
}

-- ---- the first line of some bytes

-- behind one byte a CR LF stands earlier by one
nearer : (b : ℕ) (l : List ℕ) → is_ending 0 (b ∷ l) ≡ false → (w : Ending (b ∷ l)) → (v : Ending l) × (suc (length v.before) ≡ length w.before)
nearer b l i w = go w.before refl w.order
  where
    go : (before : List ℕ) → w.before ≡ before → b ∷ l ≡ before ++ (13 ∷ 10 ∷ w.after) → (v : Ending l) × (suc (length v.before) ≡ length w.before)
    go [] e o = absurd (false_true (sym i ∙ ap (is_ending 0) o ∙ (stands [] w.after).0))
    go (c ∷ before) e o = (record { before = before; after = w.after; order = ap (drop 1) o }, sym (ap length e))

first_there : (l : List ℕ) (at e : ℕ) → first_crlf at l ≡ Some e → (text : List ℕ) × FirstLine l text × (e ≡ at + length text)
unfolding first_crlf
first_there [] at e h = absurd (none_some h)
first_there (b ∷ l) at e h = go (is_ending 0 (b ∷ l)) refl (subst (λ t. cond t (Some at) (first_crlf (at + 1) l) ≡ Some e) (ending_behind 0 (b ∷ l)) h) (first_there l (at + 1) e)
  where
    go : (t : Bool) → is_ending 0 (b ∷ l) ≡ t → cond t (Some at) (first_crlf (at + 1) l) ≡ Some e
        → (first_crlf (at + 1) l ≡ Some e → (text : List ℕ) × FirstLine l text × (e ≡ at + 1 + length text)) → (text : List ℕ) × FirstLine (b ∷ l) text × (e ≡ at + length text)
    go true i h more = let a = leading b l i in ([], record { after = a.0; order = a.1; none_earlier = λ w. omega arith }, let k : at ≡ e = cc in omega (arith, k))
    go false i h more =
        let r = more h in
        let w = r.1 in (
          b ∷ r.0,
          record {
            after = w.after;
            order = ap (λ x. b ∷ x) w.order;
            none_earlier = λ v. let n = nearer b l i v in let m = w.none_earlier n.0 in omega (arith, n.1, m);
          },
          omega (arith, r.2),
        )

at_once : (after : List ℕ) (at : ℕ) → first_crlf at (13 ∷ 10 ∷ after) ≡ Some at
unfolding first_crlf begins_crlf
at_once after at = refl

first_here : (l text : List ℕ) (at : ℕ) → FirstLine l text → first_crlf at l ≡ Some (at + length text)
unfolding first_crlf further
first_here l [] at w = ap (first_crlf at) w.order ∙ at_once w.after at ∙ ap Some (omega arith)
first_here [] (c ∷ text) at w = absurd (omega (arith, ap length w.order))
first_here (b ∷ l) (c ∷ text) at w = go (is_ending 0 (b ∷ l)) refl (first_here l text (at + 1))
  where
    go : (t : Bool) → is_ending 0 (b ∷ l) ≡ t → (FirstLine l text → first_crlf (at + 1) l ≡ Some (at + 1 + length text)) → cond (begins_crlf (b ∷ l)) (Some at) (first_crlf (at + 1) l) ≡ Some (at + suc (length text))
    go true i more = let a = leading b l i in absurd (let h = w.none_earlier (record { before = []; after = a.0; order = a.1 }) in omega (arith, h))
    go false i more =
        let v : FirstLine l text = record { after = w.after; order = ap (drop 1) w.order; none_earlier = λ z. let h = w.none_earlier (further b z) in omega (arith, h) } in
        rw (ending_behind 0 (b ∷ l), i) (more v ∙ ap Some (omega arith))

-- ---- a line by its number, and a step

line_there : (file : List ℕ) (o e : ℕ) → first_crlf o (drop o file) ≡ Some e → IsLineAt file (record { from = o; to = e })
line_there file o e h = let r = first_there (drop o file) o e h in record { text = r.0; is = r.1; ends = r.2 }

line_here : (file : List ℕ) (b : Bounds) → IsLineAt file b → first_crlf b.from (drop b.from file) ≡ Some b.to
line_here file b w = first_here (drop b.from file) w.text b.from w.is ∙ ap Some (sym w.ends)

-- "neither 0 nor just past a CR LF"
abbrev Starts : List ℕ → ℕ → Type 0
Starts file o = (o ≡ 0) ⊎ ((w : Ending file) × (length w.before + 2 ≡ o))

starts_there : (file : List ℕ) (o : ℕ) → is_start file o ≡ true → Starts file o
unfolding is_start
starts_there file o h = go (eqb o 0) refl h
  where
    go : (t : Bool) → eqb o 0 ≡ t → (t || (leb 2 o && begins_crlf (drop (o - 2) file))) ≡ true → Starts file o
    go true e h = inl (eqb-true o 0 e)
    go false e h =
        let a = and_inv (leb 2 o) (begins_crlf (drop (o - 2) file)) h in
        let w = there (o - 2) file (sym (ending_behind (o - 2) file) ∙ a.1) in
        let k = leb-true 2 o a.0 in
        inr (w.0, omega (arith, w.1, k))

starts_here : (file : List ℕ) (o : ℕ) → Starts file o → is_start file o ≡ true
unfolding is_start
starts_here file o (inl e) = rw (eq-eqb o 0 e)
starts_here file o (inr (w, e)) =
    let n : o - 2 ≡ length w.before = omega (arith, e) in
    rw (le-leb 2 o (omega (arith, e)), ending_behind (o - 2) file, n, ap (is_ending (length w.before)) w.order ∙ (stands w.before w.after).0) (or-true (eqb o 0))

pub numbered_exactly : (file table : List ℕ) (n : ℕ) (b : Bounds) → (bounds_of file table n ≡ says b) ↔ IsNumbered file table n b
unfolding bounds_of on
numbered_exactly file table n b = (out, back)
  where
    out : bounds_of file table n ≡ says b → IsNumbered file table n b
    out e =
        let x = need_inv (leb 1 n) _ (says b) _ refuses_says e in
        let y = need_inv (leb n (length table)) _ (says b) _ refuses_says x.1 in
        let z = need_inv (is_start file (get_or table (n - 1) 0)) _ (says b) _ refuses_says y.1 in
        let g = given_inv (first_crlf (get_or table (n - 1) 0) (drop (get_or table (n - 1) 0) file)) _ (says b) _ refuses_says z.1 in
        let h = g.2 in
        let k : ◌≡◌ {A = Bounds} (record { from = get_or table (n - 1) 0; to = g.0 }) b = cc in
        subst (IsNumbered file table n) k (record {
          least = leb-true 1 n x.0;
          most = leb-true n (length table) y.0;
          entry = refl;
          starts = starts_there file (get_or table (n - 1) 0) z.0;
          line = line_there file (get_or table (n - 1) 0) g.0 g.1;
        })

    back : IsNumbered file table n b → bounds_of file table n ≡ says b
    back w = rw (le-leb 1 n w.least, le-leb n (length table) w.most, sym w.entry, starts_here file b.from w.starts, line_here file b w.line)

pub step_exactly : (file : List ℕ) (at : ℕ) (s : Stepped) → (step_at file at ≡ says s) ↔ IsStep file at s
unfolding step_at number
step_exactly file at s = (out, back)
  where
    out : step_at file at ≡ says s → IsStep file at s
    out e = let x = need_inv (leb at (length file)) _ (says s) _ refuses_says e in go (leb-true at (length file) x.0) (eqb at (length file)) refl x.1
      where
        go : at ≤ length file → (t : Bool) → eqb at (length file) ≡ t
            → cond t (says (record { found = None; next = at })) (given (first_crlf at (drop at file)) (refuses 17 0 0) λ e. says (record { found = Some (record { from = at; to = e }); next = e + 2 })) ≡ says s
            → IsStep file at s
        go m true i h = let k : ◌≡◌ {A = Stepped} (record { found = None; next = at }) s = cc in subst (IsStep file at) k (none_left (eqb-true at (length file) i))
        go m false i h =
            let g = given_inv (first_crlf at (drop at file)) _ (says s) _ refuses_says h in
            let j = g.2 in
            let n = eqb-false at (length file) i in
            let k : ◌≡◌ {A = Stepped} (record { found = Some (record { from = at; to = g.0 }); next = g.0 + 2 }) s = cc in
            subst (IsStep file at) k (next_line g.0 (omega (arith, m, n)) (line_there file at g.0 g.1))

    back : {s : Stepped} → IsStep file at s → step_at file at ≡ says s
    back (none_left e) = rw (le-leb at (length file) (omega (arith, e)), eq-eqb at (length file) e)
    back (next_line e m w) = rw (le-leb at (length file) (omega (arith, m)), ne_eqb at (length file) (λ z. omega (arith, z, m)), line_here file (record { from = at; to = e }) w)

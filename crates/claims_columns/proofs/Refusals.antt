-- Which refusal there is, exactly: the file's own, then 17 for the letter, 17 for the codes, 19, 18. Assumes nothing.
use Rattle.std.specs.Prelude.{None, Option, Some}
use Prim.Native.Nat.{ℕ, zero, suc, ◌*◌, ◌/◌, ◌%◌, ◌≤◌, ◌<◌}
use mathlib.Core.Bool.{Bool, true, false, ◌&&◌}
use mathlib.Core.List.{List}
use mathlib.Core.Path.{◌≡◌, refl, sym, ap, subst, ◌∙◌}
use native.Mathlib.Omega.{arith}
use borrow.Author.Tests.{lt-leb, leb-true, leb-false, eqb-true}
use lib.Dec.{eqb, leb}
use lib.ListN.{length, get_or}
use Rattle.rules.specs.Choice.{given, need, first_of, Each}
use Rattle.rules.specs.Families.{line_letter, layout_letter, layout_of, count_of, family_of}
use Rattle.rules.specs.Layouts.{empty_layout, look, carries}
use Rattle.rules.specs.Files.{verdict}
use Rattle.rules.specs.Refusals.{number, Said, says, refuses, no, and_then}
use Rattle.rules.specs.declared.Family.{Family}
use Rattle.rules.specs.declared.Flight.{Flight}
use Rattle.rules.specs.declared.Layout.{Layout}
use Rattle.rules.specs.declared.Reason.TheVariants as reason
use Rattle.rules.proofs.Inverse.{refuses_says, false_true, and_inv}
use Rattle.grammar.specs.Grammar.{Meets, lines_in, beginning, flight_of}
use Rattle.grammar.proofs.Demands.{accepted_as, refused_first}
use Rattle.grammar.proofs.Reading.{lines_are}
use Rattle.track.proofs.Accepted.{reads}
use Rattle.track.proofs.Accepted.{lines_are as lines_read}
use Rattle.grammar_untabled.proofs.NeverFull.{check_never_full}
use Rattle.columns_asked.specs.Asks.{names_from, names_of, are_codes, are_carried, places_of, places_said, asked_said}
use Rattle.columns.specs.Columns.{columns_seal, grid_room, grid_in, grid_of, grid_said, lines_said}
use Rattle.claims_columns.specs.Barogram.{ColumnsRefused, own, no_family, no_codes, absent, short}
use Rattle.claims_columns.proofs.Answers.{met, counts_are}

meets_so : (file : List ℕ) (m : Meets columns_seal file) → verdict columns_seal file None ≡ says (flight_of m)
meets_so file m = (accepted_as columns_seal file None (flight_of m)).1 (m, tt, refl)

module _ (file : List ℕ) (letter : ℕ) (codes : List ℕ) (room : ℕ) where
  abbrev Why : ℕ → ℕ → ℕ → Type 0
  Why n l b = ColumnsRefused file letter codes room n l b

  refused_as : (n l b n' l' b' : ℕ) → ◌≡◌ {A = Said ℕ} (refuses n l b) (refuses n' l' b') → Why n l b → Why n' l' b'
  refused_as n l b n' l' b' e x =
      let p : n ≡ n' = cc in
      let q : l ≡ l' = cc in
      let k : b ≡ b' = cc in
      rw (← p, ← q, ← k) x

  -- ---- a refusal is one of these

  module _ (f : Flight) (v : verdict columns_seal file None ≡ says f) (n l b : ℕ) where
    room_by : (g : Family) → family_of letter ≡ Some g → are_codes codes ≡ true → are_carried (layout_of g f.layouts) (names_of codes) ≡ true → (t : Bool)
        → leb (count_of g f.counts * (length codes / 3)) room ≡ t
        → lines_said (need t (no reason.NoRoom 0) λ _. says (record { family = g; layout = layout_of g f.layouts; lines = count_of g f.counts })) ≡ refuses n l b → Why n l b
    unfolding number
    room_by g o x y true t q = absurd (refuses_says (sym q))
    room_by g o x y false t q =
        let m = met file f v in
        let h : room < count_of g f.counts * (length codes / 3) = leb-false _ _ t in
        let c : count_of g f.counts ≡ beginning (line_letter g) (lines_in m.0.parts) = sym (ap (λ (z : Flight). count_of g z.counts) m.1) ∙ counts_are file m.0 g in
        let d : are_carried (layout_of g m.0.layouts) (names_of codes) ≡ true = ap (λ (z : Flight). are_carried (layout_of g z.layouts) (names_of codes)) m.1 ∙ y in
        refused_as _ _ _ _ _ _ q (short m.0 g o x d (subst (λ (z : ℕ). room < z * (length codes / 3)) c h))

    asked_by : (g : Family) → family_of letter ≡ Some g → (x y : Bool) → are_codes codes ≡ x → are_carried (layout_of g f.layouts) (names_of codes) ≡ y
        → lines_said (and_then (need x (no reason.BadValue 0) λ _. need y (no reason.Absent 0) λ _. says (places_of (layout_of g f.layouts) (names_of codes))) λ _. grid_room f g codes room) ≡ refuses n l b
        → Why n l b
    unfolding number grid_room
    asked_by g o false y s t q = refused_as _ _ _ _ _ _ q (no_codes (met file f v).0 g o s)
    asked_by g o true false s t q =
        let m = met file f v in
        refused_as _ _ _ _ _ _ q (absent m.0 g o s (ap (λ (z : Flight). are_carried (layout_of g z.layouts) (names_of codes)) m.1 ∙ t))
    asked_by g o true true s t q = room_by g o s t (leb (count_of g f.counts * (length codes / 3)) room) refl q

    family_by : (o : Option Family) → family_of letter ≡ o → lines_said (given o (no reason.BadValue 0) λ g. grid_in f g codes room) ≡ refuses n l b → Why n l b
    unfolding number grid_in asked_said places_said
    family_by None e q = refused_as _ _ _ _ _ _ q (no_family (met file f v).0 e)
    family_by (Some g) e q = asked_by g e (are_codes codes) (are_carried (layout_of g f.layouts) (names_of codes)) refl refl q

  own_as : (n l b n' l' b' : ℕ) → ◌≡◌ {A = Said ℕ} (refuses n l b) (refuses n' l' b') → ◌≡◌ {A = Said Flight} (refuses n l b) (refuses n' l' b')
  own_as n l b n' l' b' e = let p : n ≡ n' = cc in let q : l ≡ l' = cc in let k : b ≡ b' = cc in cc

  verdict_by : (s : Said Flight) → verdict columns_seal file None ≡ s → (n l b : ℕ) → lines_said (and_then s λ f. grid_of f letter codes room) ≡ refuses n l b → Why n l b
  unfolding grid_of
  verdict_by (says f) v n l b q = family_by f v n l b (family_of letter) refl q
  verdict_by (refuses i j k) v n l b q = own ((refused_first columns_seal file None n l b).0 (v ∙ own_as i j k n l b q))

  pub refused_there : (n l b : ℕ) → lines_said (grid_said file letter codes room) ≡ refuses n l b → Why n l b
  unfolding grid_said
  refused_there n l b e = verdict_by (verdict columns_seal file None) refl n l b e

  -- ---- and each of these is refused

  pub refused_here : (n l b : ℕ) → Why n l b → lines_said (grid_said file letter codes room) ≡ refuses n l b
  unfolding grid_said grid_of grid_in grid_room asked_said places_said number
  refused_here n l b (own x) = rw ((refused_first columns_seal file None n l b).1 x)
  refused_here n l b (no_family m e) = rw (meets_so file m, e)
  refused_here n l b (no_codes m g o e) = rw (meets_so file m, o, e)
  refused_here n l b (absent m g o x y) = rw (meets_so file m, o, x, y)
  refused_here n l b (short m g o x y h) =
      let k : room < count_of g (flight_of m).counts * (length codes / 3) = subst (λ (z : ℕ). room < z * (length codes / 3)) (sym (counts_are file m g)) h in
      rw (meets_so file m, o, x, y, lt-leb (count_of g (flight_of m).counts * (length codes / 3)) room k)

  pub never_full : (n l b : ℕ) → Why n l b → n ≡ 15 → ⊥
  never_full n l b (own x) z = false_true (sym (check_never_full columns_seal file n l b ((refused_first columns_seal file None n l b).1 x)) ∙ ap (λ (k : ℕ). eqb k 15) z)
  never_full n l b (no_family m e) z = omega arith
  never_full n l b (no_codes m g o e) z = omega arith
  never_full n l b (absent m g o x y) z = omega arith
  never_full n l b (short m g o x y h) z = omega arith

-- ---- no line tells the layout

bare : (codes : List ℕ) (n : ℕ) → 1 ≤ n → are_carried empty_layout (names_from n codes) ≡ false
unfolding are_carried carries look first_of names_from
bare codes zero h = absurd (omega arith)
bare codes (suc n) h = refl

some_codes : (codes : List ℕ) → are_codes codes ≡ true → 1 ≤ length codes / 3
unfolding are_codes
some_codes codes e =
    let a = and_inv (leb 1 (length codes) && leb (length codes) 39 && eqb (length codes % 3) 0) _ e in
    let b = and_inv (leb 1 (length codes) && leb (length codes) 39) _ a.0 in
    let c = and_inv (leb 1 (length codes)) _ b.0 in
    let h : 1 ≤ length codes = leb-true _ _ c.0 in
    let k : length codes % 3 ≡ 0 = eqb-true _ _ b.1 in
    omega (arith, h, k)

pub untold_absent : (file : List ℕ) (m : Meets columns_seal file) (g : Family) (codes : List ℕ) → are_codes codes ≡ true → Each (λ l. get_or l 0 0 ≡ layout_letter g → ⊥) (lines_in m.parts)
    → are_carried (layout_of g m.layouts) (names_of codes) ≡ false
untold_absent file m g codes c u =
    let a = meets_so file m in
    let t = subst (Each (λ l. get_or l 0 0 ≡ layout_letter g → ⊥)) (sym (lines_read columns_seal file (flight_of m) a ∙ lines_are file m)) u in
    let n : layout_of g m.layouts ≡ empty_layout = (reads columns_seal file (flight_of m) a).untold g t in
    ap (λ (l : Layout). are_carried l (names_of codes)) n ∙ bare codes (length codes / 3) (some_codes codes c)

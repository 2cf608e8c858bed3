-- A look says 17 exactly of a bad answer, 19 exactly where no entry has the code, else the bytes of the entry that has it, and as a number 20 exactly where they spell none,
-- else the number that they spell; whatever line and entries it is given. Assumes nothing.
use Rattle.std.specs.Prelude.{None, Option, Some}
use Prim.Native.Nat.{ℕ, suc, ◌-◌, ◌≤◌, ◌<◌}
use mathlib.Core.Bool.{Bool, true, false, not, ◌&&◌}
use mathlib.Core.List.{List, [], ◌∷◌, ◌++◌}
use mathlib.Core.Logic.{◌⊎◌, inl, inr}
use mathlib.Core.Path.{◌≡◌, refl, sym, ◌∙◌, ap, subst}
use native.Mathlib.Omega.{arith}
use borrow.Author.Tests.{eq-eqb, ne_eqb, le-leb, leb-true, leb-false}
use lib.Dec.{leb}
use lib.ListN.{length, length-drop}
use lib.Seq.{length-take-le}
use Rattle.rules.specs.Choice.{first_of, given, Each}
use Rattle.rules.specs.Refusals.{number, Said, says, refuses}
use Rattle.rules.specs.Numbers.{whole_of}
use Rattle.rules.specs.Listed.{packed_of, code_text}
use Rattle.rules.specs.declared.Span.{Span}
use Rattle.rules.specs.Layouts.{span_of, entries_of, look_in, look}
use Rattle.rules.specs.Looks.{are_inside, fits_line, look_said, look_text, look_number}
use Rattle.rules.specs.declared.Signed.{Signed}
use Rattle.rules.specs.declared.Entry.{Entry}
use Rattle.rules.specs.declared.Layout.{Layout}
use Rattle.rules.proofs.Inverse.{and_inv, none_some, false_true}
use Rattle.rules_trips.proofs.Each.{each_cut}
use Rattle.rules_sound.proofs.Placed.{Coded}
use Rattle.rules_sound.proofs.Entries.{packed_back}
use Rattle.rules_sound.proofs.Looked.{look_there}
use Rattle.grammar.specs.Grammar.{width_of, Carries, bytes_of}
use Rattle.grammar.specs.Checks.{has_code}
use Rattle.grammar.specs.Readings.{IsName}
use Rattle.grammar.specs.ReadersRefuse.{are_once, are_within, Once}
use Rattle.grammar.specs.Looking.{BadAnswer, over, twice, outside, GoodAnswer, LookSays, bad, absent, there, NumberSays, refused, unspelt, spelt, LooksExactly}
use Rattle.grammar.proofs.Columns.{whole_there, whole_here, name_back, none_looked}
use Rattle.grammar.proofs.Finer.{found_in, carried_so, one_code}
use Rattle.grammar.proofs.Faulty.{found_has}
use Rattle.grammar.proofs.ReadersRefuse.{once_same, within_same, names_meant}

-- ---- bad answers and good ones

-- a code that comes again: the first one that does, and the one behind it
record Again (es : List Entry) : Type 0 where
  before : List Entry
  entry : Entry
  after : List Entry
  order : es ≡ before ++ (entry ∷ after)
  carried : Carries after (code_text entry.code)

-- the code of an entry among those behind it
has_there : (x : ℕ) (es : List Entry) → has_code es x ≡ true → Carries es (code_text x)
has_there x es h = go (look_in es x) refl (found_has x es 0 ∙ h)
  where
    go : (o : Option Span) → look_in es x ≡ o → given o false (λ s. true) ≡ true → Carries es (code_text x)
    go (Some s) e t = found_in x es 0 s e
    go None e t = absurd (false_true t)

again_there : (es : List Entry) → are_once es ≡ false → Again es
unfolding are_once
again_there [] h = absurd (false_true (sym h))
again_there (e ∷ es) h = go (has_code es e.code) refl h (again_there es)
  where
    go : (t : Bool) → has_code es e.code ≡ t → (not t && are_once es) ≡ false → (are_once es ≡ false → Again es) → Again (e ∷ es)
    go true q h r = record { before = []; entry = e; after = es; order = refl; carried = has_there e.code es q }
    go false q h r =
        let a = r h in
        record { before = e ∷ a.before; entry = a.entry; after = a.after; order = ap (λ y. e ∷ y) a.order; carried = a.carried }

-- an entry that is not inside the line
record Out (n : ℕ) (es : List Entry) : Type 0 where
  before : List Entry
  entry : Entry
  after : List Entry
  order : es ≡ before ++ (entry ∷ after)
  so : (entry.first ≡ 0) ⊎ ((n < entry.last) ⊎ (entry.last < entry.first))

out_there : (n : ℕ) (es : List Entry) → are_within n es ≡ false → Out n es
unfolding are_within
out_there n [] h = absurd (false_true (sym h))
out_there n (e ∷ es) h = go (leb 1 e.first) (leb e.first e.last) (leb e.last n) refl refl refl h (out_there n es)
  where
    here : (e.first ≡ 0) ⊎ ((n < e.last) ⊎ (e.last < e.first)) → Out n (e ∷ es)
    here s = record { before = []; entry = e; after = es; order = refl; so = s }

    go : (a b c : Bool) → leb 1 e.first ≡ a → leb e.first e.last ≡ b → leb e.last n ≡ c → (a && b && c && are_within n es) ≡ false → (are_within n es ≡ false → Out n es) → Out n (e ∷ es)
    go false b c p q r h k = here (inl (omega (arith, leb-false 1 e.first p)))
    go true false c p q r h k = here (inr (inr (leb-false _ _ q)))
    go true true false p q r h k = here (inr (inl (leb-false _ _ r)))
    go true true true p q r h k =
        let o = k h in
        record { before = e ∷ o.before; entry = o.entry; after = o.after; order = ap (λ y. e ∷ y) o.order; so = o.so }

-- the codes behind an entry are others
once_behind : (before after : List Entry) (e : Entry) → Once (before ++ (e ∷ after)) → Each (λ x. x.code ≡ e.code → ⊥) after
once_behind [] after e o = o.0
once_behind (b ∷ before) after e o = once_behind before after e o.1

module _ (l : List ℕ) (es : Layout) where
  fits_same : fits_line l es ≡ (leb es.count 13 && are_once (entries_of es) && are_within (length l) (entries_of es))
  unfolding fits_line are_inside
  fits_same = rw (once_same, within_same (length l) (entries_of es) 0)

  good_there : fits_line l es ≡ true → GoodAnswer l es
  good_there h =
      let a = and_inv _ (are_within (length l) (entries_of es)) (sym fits_same ∙ h) in
      let b = and_inv (leb es.count 13) (are_once (entries_of es)) a.0 in
      record { few = leb-true _ _ b.0; once = (names_meant.once (entries_of es)).0 b.1; inside = (names_meant.within (length l) (entries_of es)).0 a.1 }

  good_here : GoodAnswer l es → fits_line l es ≡ true
  good_here w = fits_same ∙ rw (le-leb _ _ w.few, (names_meant.once (entries_of es)).1 w.once, (names_meant.within (length l) (entries_of es)).1 w.inside)

  bad_there : fits_line l es ≡ false → BadAnswer l es
  bad_there h = go (leb es.count 13) (are_once (entries_of es)) refl refl (sym fits_same ∙ h)
    where
      go : (a b : Bool) → leb es.count 13 ≡ a → are_once (entries_of es) ≡ b → (a && b && are_within (length l) (entries_of es)) ≡ false → BadAnswer l es
      go false b p q h = over (leb-false _ _ p)
      go true false p q h = let w = again_there (entries_of es) q in twice w.before w.after w.entry w.order w.carried
      go true true p q h = let w = out_there (length l) (entries_of es) h in outside w.before w.after w.entry w.order w.so

  never_both : BadAnswer l es → GoodAnswer l es → ⊥
  never_both (over h) w = omega (arith, w.few)
  never_both (twice before after e o c) w = carried_so (λ x. x.code ≡ e.code → ⊥) (once_behind before after e (subst Once o w.once)) c (one_code _ _ c.coded)
  never_both (outside before after e o s) w = go (each_cut _ before (e ∷ after) (subst (Each (λ e. (1 ≤ e.first) × (e.first ≤ e.last) × (e.last ≤ length l))) o w.inside)).1.0 s
    where
      go : (1 ≤ e.first) × (e.first ≤ e.last) × (e.last ≤ length l) → (e.first ≡ 0) ⊎ ((length l < e.last) ⊎ (e.last < e.first)) → ⊥
      go i (inl h) = omega (arith, i.0)
      go i (inr (inl h)) = omega (arith, i.2)
      go i (inr (inr h)) = omega (arith, i.1)

  bad_here : BadAnswer l es → fits_line l es ≡ false
  bad_here f = go (fits_line l es) refl
    where
      go : (t : Bool) → fits_line l es ≡ t → fits_line l es ≡ false
      go true h = absurd (never_both f (good_there h))
      go false h = h

-- ---- the entry of a code

-- no code comes twice, so the first entry that is found is the one that has the code
first_there : (x : ℕ) (before after : List Entry) (e : Entry) (n : ℕ) → Once (before ++ (e ∷ after)) → e.code ≡ x
    → first_of (Coded x) (λ (k : ℕ) (e : Entry). span_of e) (before ++ (e ∷ after)) n ≡ Some (span_of e)
unfolding first_of
first_there x [] after e n o h = rw (eq-eqb _ _ h)
first_there x (b ∷ before) after e n o h =
    rw (ne_eqb b.code x (λ i. (each_cut _ before (e ∷ after) o.0).1.0 (h ∙ sym i))) (first_there x before after e (suc n) o.1 h)

module _ (l : List ℕ) (es : Layout) (name : List ℕ) (named : IsName name) where
  carried_found : GoodAnswer l es → (c : Carries (entries_of es) name) → look es (packed_of name) ≡ Some (span_of c.entry)
  unfolding look
  carried_found w c =
      ap (λ y. look_in y (packed_of name)) c.order
      ∙ first_there (packed_of name) c.before c.after c.entry 0 (subst Once c.order w.once) (sym (packed_back c.entry.code) ∙ ap packed_of c.coded)

  -- ---- what the look says

  said_there : GoodAnswer l es → (c : Carries (entries_of es) name) → look_said l es name ≡ says (span_of c.entry)
  said_there w c = look_there l es name (good_here l es w) ∙ rw (carried_found w c)

  said_absent : GoodAnswer l es → Each (λ e. code_text e.code ≡ name → ⊥) (entries_of es) → look_said l es name ≡ refuses 19 0 0
  unfolding number
  said_absent w h = look_there l es name (good_here l es w) ∙ rw (none_looked es name named h)

  said_bad : BadAnswer l es → look_said l es name ≡ refuses 17 0 0
  unfolding look_said number
  said_bad f = rw (bad_here l es f)

  place_here : {s : Said Span} → LookSays l es name s → look_said l es name ≡ s
  place_here (bad f) = said_bad f
  place_here (absent w h) = said_absent w h
  place_here (there w c) = said_there w c

  -- one of the three is so
  some_says : LookSays l es name (look_said l es name)
  unfolding look
  some_says = by (fits_line l es) refl
    where
      found : GoodAnswer l es → (o : Option Span) → look_in (entries_of es) (packed_of name) ≡ o → LookSays l es name (look_said l es name)
      found w None e =
          let h = (names_meant.absent (entries_of es) name named).0 (sym (found_has (packed_of name) (entries_of es) 0) ∙ ap (λ o. given o false (λ s. true)) e) in
          subst (LookSays l es name) (sym (said_absent w h)) (absent w h)
      found w (Some s) e =
          let c = subst (Carries (entries_of es)) (name_back name named) (found_in (packed_of name) (entries_of es) 0 s e) in
          subst (LookSays l es name) (sym (said_there w c)) (there w c)

      by : (t : Bool) → fits_line l es ≡ t → LookSays l es name (look_said l es name)
      by true h = found (good_there l es h) (look_in (entries_of es) (packed_of name)) refl
      by false h = let f = bad_there l es h in subst (LookSays l es name) (sym (said_bad f)) (bad f)

  -- ---- its text

  told : GoodAnswer l es → (c : Carries (entries_of es) name) → (look_text l (look_said l es name) ≡ bytes_of c.entry l) × (length (bytes_of c.entry l) ≡ width_of c.entry)
  unfolding look_text
  told w c =
      let i = carried_so _ w.inside c in
      let e : Entry = c.entry in
      let n : e.last - (e.first - 1) ≤ length l - (e.first - 1) = omega (arith, i.2) in
      let k : e.last - (e.first - 1) ≡ width_of e = omega (arith, i.0, i.1) in
      (rw (said_there w c), length-take-le _ _ (rw (length-drop (e.first - 1) l) n) ∙ k)

  nothing_told : (n k b : ℕ) → LookSays l es name (refuses n k b) → look_text l (look_said l es name) ≡ []
  unfolding look_text
  nothing_told n k b h = rw (place_here h)

  -- ---- its number

  number_here : {z : Said Signed} → NumberSays l es name z → look_number l es name ≡ z
  unfolding look_number number
  number_here (refused n k b h) = rw (place_here h)
  number_here (unspelt w c h) = rw (said_there w c) (go (whole_of (bytes_of c.entry l)) refl)
    where
      go : (o : Option Signed) → whole_of (bytes_of c.entry l) ≡ o → given o (refuses 20 0 0) (λ z. says z) ≡ refuses 20 0 0
      go None e = refl
      go (Some z) e = absurd (h z (whole_there _ z e))
  number_here (spelt w c z h) = rw (said_there w c, whole_here (bytes_of c.entry l) h)

  some_number : NumberSays l es name (look_number l es name)
  some_number = by some_says refl
    where
      counted : GoodAnswer l es → (c : Carries (entries_of es) name) → (o : Option Signed) → whole_of (bytes_of c.entry l) ≡ o → NumberSays l es name (look_number l es name)
      counted w c None e = let n = unspelt w c (λ z h. none_some (sym e ∙ whole_here _ h)) in subst (NumberSays l es name) (sym (number_here n)) n
      counted w c (Some z) e = let n = spelt w c z (whole_there _ z e) in subst (NumberSays l es name) (sym (number_here n)) n

      by : {s : Said Span} → LookSays l es name s → look_said l es name ≡ s → NumberSays l es name (look_number l es name)
      by (there w c) e = counted w c (whole_of (bytes_of c.entry l)) refl
      by (bad f) e = let n = refused 17 0 0 (bad f) in subst (NumberSays l es name) (sym (number_here n)) n
      by (absent w h) e = let n = refused 19 0 0 (absent w h) in subst (NumberSays l es name) (sym (number_here n)) n

  pub looks_exactly : LooksExactly l es name
  looks_exactly = record {
    place = λ s. (λ e. subst (LookSays l es name) e some_says, place_here);
    text = told;
    untold = nothing_told;
    number = λ z. (λ e. subst (NumberSays l es name) e some_number, number_here);
  }

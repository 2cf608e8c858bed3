-- Files whose C lines are the same in the same order tell the same declaration, but for places; files that differ in notes alone are so, and so is a file with columns added. Assumes nothing.
use Prim.Native.Nat.{ℕ, suc, ◌+◌, ◌-◌, ◌*◌, ◌<◌}
use Prim.Native.Char.{code}
use mathlib.Core.Bool.{cond}
use mathlib.Core.List.{List, [], ◌∷◌, ◌++◌}
use mathlib.Core.Path.{◌≡◌, refl, sym, ap, subst, ◌∙◌}
use native.Mathlib.Omega.{arith}
use borrow.Author.Tests.{eq-eqb, ne_eqb, eqb-true}
use lib.Dec.{eqb}
use lib.ListN.{length, get_or, take, drop}
use Rattle.rules.specs.Choice.{Each}
use Rattle.rules.specs.Families.{line_letter, layout_letter}
use Rattle.rules.specs.Reads.{head_said, point_said, layout_said}
use Rattle.rules.specs.Refusals.{Said, says, value_or}
use Rattle.rules.specs.Split.{Lines, line}
use Rattle.rules.specs.declared.Extra.TheVariants as extra
use Rattle.rules.specs.declared.Family.{Family}
use Rattle.rules.specs.declared.Family.TheVariants as family
use Rattle.rules.specs.declared.Head.{Head}
use Rattle.rules.specs.declared.Layout.{Layout}
use Rattle.rules.specs.declared.Layouts.{Layouts}
use Rattle.rules.specs.declared.Point.{Point}
use Rattle.rules.proofs.Inverse.{refuses_says, need_inv}
use Rattle.rules_laws.proofs.Splitting.{texts_of}
use Rattle.grammar.specs.Coming.{those}
use Rattle.grammar.specs.Readings.{NoC, total}
use Rattle.grammar_wider.specs.Wider.{WiderLine, AfterLayouts, done, same, columned, LayoutLines, all, without, changed, put, Wider, front, from}
use Rattle.grammar_wider.proofs.Letters.{first_kept}
use Rattle.declaration.specs.Declaration.{no_head, no_point, undeclared}
use Rattle.declaration.specs.declared.Declared.{Declared}
use Rattle.claims_declaration.specs.Demanded.{TellsHead, TellsPoint, TellsPointAt, Tells, tells_none, tells_all, SamePoint, SameButPlaces}
use Rattle.claims_declaration.proofs.Finding.{head_letter}

-- ---- the C lines of a declaration are its head and its points

those_no : (ls : List (List ℕ)) → Each NoC ls → those (code "C") ls ≡ []
unfolding those
those_no [] h = refl
those_no (l ∷ ls) h = rw (ne_eqb (get_or l 0 0) (code "C") h.0) (those_no ls h.1)

-- lines before the first C line, and C lines with no other behind them
those_past : (before ls : List (List ℕ)) → Each NoC before → those (code "C") (before ++ ls) ≡ those (code "C") ls
unfolding those
those_past [] ls h = refl
those_past (l ∷ before) ls h = rw (ne_eqb (get_or l 0 0) (code "C") h.0) (those_past before ls h.1)

those_begun : (points later : List (List ℕ)) → Each (λ l. get_or l 0 0 ≡ code "C") points → Each NoC later → those (code "C") (points ++ later) ≡ points
unfolding those
those_begun [] later h n = those_no later n
those_begun (l ∷ points) later h n = rw (eq-eqb (get_or l 0 0) (code "C") h.0) (ap (λ (r : List (List ℕ)). l ∷ r) (those_begun points later h.1 n))

c_lines : (before : List (List ℕ)) (head : List ℕ) (points later : List (List ℕ)) → Each NoC before → get_or head 0 0 ≡ code "C" → Each (λ l. get_or l 0 0 ≡ code "C") points → Each NoC later
    → those (code "C") (before ++ (head ∷ (points ++ later))) ≡ head ∷ points
c_lines before head points later nb h cs nl = those_past before (head ∷ (points ++ later)) nb ∙ those_begun (head ∷ points) later (h, cs) nl

-- ---- two declarations

same_head : (l : List ℕ) (h h' : Head) → head_said l ≡ says h → head_said l ≡ says h' → h' ≡ h
same_head l h h' e e' = ap (value_or no_head) (sym e' ∙ e)

same_point : (l : List ℕ) (p p' : Point) → point_said l ≡ says p → point_said l ≡ says p' → p' ≡ p
same_point l p p' e e' = ap (value_or no_point) (sym e' ∙ e)

point_alike : (file other : List ℕ) (at at' : ℕ) (l : List ℕ) (after after' : List ℕ) (i : ℕ) → TellsPointAt file at l after i → TellsPointAt other at' l after' i → SamePoint after after' i
point_alike file other at at' l after after' i t t' =
    let p = same_point l t.point t'.point t.reads t'.reads in
    record {
      latitude = t'.latitudes ∙ ap (λ (x : Point). x.lat.count) p ∙ sym t.latitudes;
      north = t'.norths ∙ ap (λ (x : Point). x.lat.letter) p ∙ sym t.norths;
      longitude = t'.longitudes ∙ ap (λ (x : Point). x.lon.count) p ∙ sym t.longitudes;
      east = t'.easts ∙ ap (λ (x : Point). x.lon.letter) p ∙ sym t.easts;
      long = t'.wide ∙ sym t.wide;
    }

abbrev At : List ℕ → List (List ℕ) → List ℕ → List (List ℕ) → List ℕ → ℕ → Type 0
At file before head points after i = TellsPointAt file (total before + length head + 2 + total (take i points)) (get_or points i []) after i

pub tells_alike : (file other : List ℕ) (lines lines' : List (List ℕ)) (d d' : Declared) (after after' : List ℕ) → those (code "C") lines' ≡ those (code "C") lines → Tells file lines d after → Tells other lines' d' after'
    → SameButPlaces d d' after after'
tells_alike file other lines lines' d d' after after' c (tells_none nc e) (tells_none nc' e') = record {
  head = ap (λ (x : Declared). x.head) (e' ∙ sym e);
  points = ap (λ (x : Declared). x.points) (e' ∙ sym e);
  long = ap (λ (x : Declared). x.length) (e' ∙ sym e);
  each = λ i h. let z : d.points ≡ 0 = ap (λ (x : Declared). x.points) e in absurd (omega (arith, h, z));
}
tells_alike file other lines lines' d d' after after' c (tells_none nc e) (tells_all before head points later q nb cs nl th n p) =
    let a = ap (those (code "C")) q ∙ c_lines before head points later nb (head_letter head _ th.head) cs nl in
    let z : ◌≡◌ {A = ℕ} (suc (length points)) 0 = ap length (sym a ∙ c ∙ those_no lines nc) in
    absurd (omega arith)
tells_alike file other lines lines' d d' after after' c (tells_all before head points later q nb cs nl th n p) (tells_none nc' e') =
    let a = ap (those (code "C")) q ∙ c_lines before head points later nb (head_letter head _ th.head) cs nl in
    let z : ◌≡◌ {A = ℕ} 0 (suc (length points)) = ap length (sym (those_no lines' nc') ∙ c ∙ a) in
    absurd (omega arith)
tells_alike file other lines lines' d d' after after' c (tells_all before head points later q nb cs nl th n p) (tells_all before' head' points' later' q' nb' cs' nl' th' n' p') =
    let a = ap (those (code "C")) q ∙ c_lines before head points later nb (head_letter head _ th.head) cs nl in
    let b = ap (those (code "C")) q' ∙ c_lines before' head' points' later' nb' (head_letter head' _ th'.head) cs' nl' in
    let both : head' ∷ points' ≡ head ∷ points = sym b ∙ c ∙ a in
    let x : head' ≡ head = ap (λ (r : List (List ℕ)). get_or r 0 []) both in
    let y : points' ≡ points = ap (λ (r : List (List ℕ)). drop 1 r) both in
    let m : length points' ≡ length points = ap length y in
    record {
      head = same_head head d.head d'.head th.head (ap head_said (sym x) ∙ th'.head);
      points = n' ∙ m ∙ sym n;
      long = th'.long ∙ ap (λ (l : List ℕ). length l - 25) x ∙ sym th.long;
      each = λ i h.
          let u : At file before head points after i = p i (omega (arith, h, n)) in
          let v : At other before' head' points' after' i = p' i (omega (arith, h, n, m)) in
          point_alike file other _ _ (get_or points i []) after after' i u
          (subst (λ (ls : List (List ℕ)). TellsPointAt other (total before' + length head' + 2 + total (take i points')) (get_or ls i []) after' i) y v);
    }

-- ---- a file with columns added has the C lines that it had

abbrev cs : List (List ℕ) → List (List ℕ)
cs ls = those (code "C") ls

pass_same : (t : List ℕ) (ls ks : List (List ℕ)) → cs ks ≡ cs ls → cs (t ∷ ks) ≡ cs (t ∷ ls)
unfolding those
pass_same t ls ks e = ap (λ (r : List (List ℕ)). cond (eqb (get_or t 0 0) (code "C")) (t ∷ r) r) e

pass_other : (t : List ℕ) (ls : List (List ℕ)) → NoC t → cs (t ∷ ls) ≡ cs ls
unfolding those
pass_other t ls h = rw (ne_eqb (get_or t 0 0) (code "C") h)

layout_no_c : (f : Family) (t : List ℕ) (i : Layout) → layout_said f t ≡ says i → NoC t
unfolding layout_said
layout_no_c f t i e z = by f (sym (eqb-true _ _ (need_inv (eqb (get_or t 0 0) (layout_letter f)) _ (says i) _ refuses_says e).0) ∙ z)
  where
    by : (g : Family) → layout_letter g ≡ code "C" → ⊥
    by family.B k = omega arith
    by (family.Extra extra.K) k = omega arith
    by (family.Extra extra.N) k = omega arith

line_no_c : (f : Family) → line_letter f ≡ code "C" → ⊥
line_no_c family.B k = omega arith
line_no_c (family.Extra extra.K) k = omega arith
line_no_c (family.Extra extra.N) k = omega arith

after_same : {old new : Layouts} {ls ls' : Lines} → AfterLayouts old new ls ls' → cs (texts_of ls') ≡ cs (texts_of ls)
after_same done = refl
after_same (same {t = t} {ls = ls} {ls' = ls'} h w) = pass_same t (texts_of ls) (texts_of ls') (after_same w)
after_same (columned {t = t} {t' = t'} {ls = ls} {ls' = ls'} f e k w) =
    pass_other t' (texts_of ls') (λ z. line_no_c f (sym e ∙ sym (first_kept f t t' k.fields) ∙ z)) ∙ after_same w ∙ sym (pass_other t (texts_of ls) (λ z. line_no_c f (sym e ∙ z)))

layouts_same : {fs : List Family} {old new : Layouts} {ls ls' : Lines} → LayoutLines fs old new ls ls' → cs (texts_of ls') ≡ cs (texts_of ls)
layouts_same (all w) = after_same w
layouts_same (without w) = layouts_same w
layouts_same (changed {f = f} {t = t} {t' = t'} {i = i} {i' = i'} {ls = ls} {ls' = ls'} a b x w) =
    pass_other t' (texts_of ls') (layout_no_c f t' i' b) ∙ layouts_same w ∙ sym (pass_other t (texts_of ls) (layout_no_c f t i a))
layouts_same (put {f = f} {t' = t'} {i' = i'} {ls' = ls'} b w) = pass_other t' (texts_of ls') (layout_no_c f t' i' b) ∙ layouts_same w

pub wider_same : {ls ls' : Lines} → Wider ls ls' → cs (texts_of ls') ≡ cs (texts_of ls)
wider_same (front {t = t} {ls = ls} {ls' = ls'} h w) = pass_same t (texts_of ls) (texts_of ls') (wider_same w)
wider_same (from w) = layouts_same w

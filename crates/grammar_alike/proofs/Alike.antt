-- Two accepted files whose lines other than L lines are the same say the same, and whatever is read of the nth line of a kind other than L is the same. Assumes nothing.
use Rattle.std.specs.Prelude.{Option}
use Prim.Native.Nat.{ℕ}
use Prim.Native.Char.{code}
use mathlib.Core.List.{List, [], ◌∷◌}
use mathlib.Core.Path.{◌≡◌, sym, ◌∙◌, ap, ap₂}
use native.Mathlib.Omega.{arith}
use lib.Dec.{leb}
use lib.ListN.{length, get_or}
use Rattle.rules.specs.Families.{line_letter, layout_letter, layout_of}
use Rattle.rules.specs.Files.{verdict}
use Rattle.rules.specs.Looks.{look_text}
use Rattle.rules.specs.Reads.{reading, date_said}
use Rattle.rules.specs.Refusals.{says}
use Rattle.rules.specs.Split.{lines_of}
use Rattle.rules.specs.declared.Date.{Date}
use Rattle.rules.specs.declared.Family.{Family}
use Rattle.rules.specs.declared.Flight.{Flight}
use Rattle.rules.specs.declared.Layout.{Layout}
use Rattle.rules.specs.declared.Layouts.{Layouts}
use Rattle.rules.specs.declared.Seal.{Seal}
use Rattle.rules_laws.proofs.Splitting.{texts_of}
use Rattle.rules_sound.proofs.Families.{every, all_layouts}
use Rattle.grammar.specs.Coming.{those}
use Rattle.grammar_alike.specs.Alike.{without_l, LayoutBy, ByKind, SaysAlike, span_in, number_of, SameColumn}
use Rattle.grammar_alike.proofs.Letters.{kinds_alike}
use Rattle.grammar_alike.proofs.Filters.{by_kind}

-- no line with columns, and none that tells them, is an L line
no_l : (x : Family) → line_letter x ≡ code "L" → ⊥
no_l = every (λ x. line_letter x ≡ code "L" → ⊥) (λ e. omega (arith, e)) (λ e. omega (arith, e)) (λ e. omega (arith, e))

no_l_tells : (x : Family) → layout_letter x ≡ code "L" → ⊥
no_l_tells = every (λ x. layout_letter x ≡ code "L" → ⊥) (λ e. omega (arith, e)) (λ e. omega (arith, e)) (λ e. omega (arith, e))

-- ---- the same lines of each kind say the same

one_layout : (x : Family) (i j : Layout) (ls : List (List ℕ)) → LayoutBy x i ls → LayoutBy x j ls → j ≡ i
one_layout x i j [] p q = q ∙ sym p
one_layout x i j (l ∷ ls) p q = let e : says j ≡ says i = sym q ∙ p in cc

one_date : (d e : Date) (k l : List ℕ) → k ≡ l → date_said l ≡ says d → date_said k ≡ says e → e ≡ d
one_date d e k l s p q = let r : says e ≡ says d = sym q ∙ ap date_said s ∙ p in cc

pub said_alike : (f : Flight) (ls : List (List ℕ)) (g : Flight) (ks : List (List ℕ)) → ByKind f ls → ByKind g ks → without_l ks ≡ without_l ls → SaysAlike f ls g ks
said_alike f ls g ks p q e =
    let same = kinds_alike ls ks e in
    record {
      date = one_date f.date g.date (get_or (those (code "H") ks) 0 []) (get_or (those (code "H") ls) 0 []) (ap (λ (l : List (List ℕ)). get_or l 0 []) (same (code "H") (λ z. omega (arith, z)))) p.date q.date;
      layouts = all_layouts g.layouts f.layouts (λ x.
          let s = same (layout_letter x) (no_l_tells x) in
          one_layout x (layout_of x f.layouts) (layout_of x g.layouts) (those (layout_letter x) ls) (p.layouts x) (rw s at (q.layouts x)));
      counts = λ x. q.counts x ∙ ap length (same (line_letter x) (no_l x)) ∙ sym (p.counts x);
      signed = q.signed ∙ ap (λ (l : List (List ℕ)). leb 1 (length l)) (same (code "G") (λ z. omega (arith, z))) ∙ sym p.signed;
      kinds = same;
    }

-- two files accepted by the same check, each with its table or without one
pub says_alike : (seal : Seal) (file other : List ℕ) (room room' : Option ℕ) (f g : Flight) → verdict seal file room ≡ says f → verdict seal other room' ≡ says g
    → without_l (texts_of (lines_of other)) ≡ without_l (texts_of (lines_of file)) → SaysAlike f (texts_of (lines_of file)) g (texts_of (lines_of other))
says_alike seal file other room room' f g p q =
    said_alike f (texts_of (lines_of file)) g (texts_of (lines_of other)) (by_kind seal file room f p) (by_kind seal other room' g q)

-- ---- whatever is read, with the layouts, of the nth line of a kind other than L

module _ (f : Flight) (ls : List (List ℕ)) (g : Flight) (ks : List (List ℕ)) (w : SaysAlike f ls g ks) where
  pub nth_alike : {A : Type 0} (reader : Layouts → List ℕ → A) (letter : ℕ) → (letter ≡ code "L" → ⊥) → (n : ℕ)
      → reader g.layouts (get_or (those letter ks) n []) ≡ reader f.layouts (get_or (those letter ls) n [])
  nth_alike reader letter other n = ap₂ reader w.layouts (ap (λ (l : List (List ℕ)). get_or l n []) (w.kinds letter other))

  -- the nth fix, the nth K line and the nth N line, each with its layout: the value, and the entries of its columns
  pub readings_alike : (x : Family) (n : ℕ)
      → reading x (get_or (those (line_letter x) ks) n []) (layout_of x g.layouts) ≡ reading x (get_or (those (line_letter x) ls) n []) (layout_of x f.layouts)
  readings_alike x = nth_alike (λ by l. reading x l (layout_of x by)) (line_letter x) (no_l x)

  -- their columns, by the look into those entries: where each stands, its text, and its number
  pub columns_alike : (x : Family) (n : ℕ) (name : List ℕ)
      → SameColumn x name (get_or (those (line_letter x) ks) n []) (layout_of x g.layouts) (get_or (those (line_letter x) ls) n []) (layout_of x f.layouts)
  columns_alike x n name = (
    nth_alike (λ by l. span_in x l (layout_of x by) name) (line_letter x) (no_l x) n,
    nth_alike (λ by l. look_text l (span_in x l (layout_of x by) name)) (line_letter x) (no_l x) n,
    nth_alike (λ by l. number_of x l (layout_of x by) name) (line_letter x) (no_l x) n,
  )

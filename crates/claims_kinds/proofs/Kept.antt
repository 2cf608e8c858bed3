-- Notes change no other line's byte, and added columns change none but those of the layout lines. Assumes nothing.
use Prim.Native.Nat.{ℕ}
use Prim.Native.Char.{code}
use mathlib.Core.Bool.{Bool, true, false, not, ◌&&◌, ◌||◌, cond}
use mathlib.Core.List.{List, [], ◌∷◌, map}
use mathlib.Core.Path.{◌≡◌, refl, sym, ap, ◌∙◌}
use borrow.Author.Tests.{ne_eqb, eqb-true}
use lib.Dec.{eqb}
use lib.ListN.{length, get_or}
use Rattle.rules.specs.Choice.{Each}
use Rattle.rules.specs.Families.{layout_letter}
use Rattle.rules.specs.Reads.{layout_said}
use Rattle.rules.specs.Refusals.{says}
use Rattle.rules.specs.Split.{Lines, end, broken, line}
use Rattle.rules.specs.declared.Extra.TheVariants as extra
use Rattle.rules.specs.declared.Family.{Family}
use Rattle.rules.specs.declared.Family.TheVariants as family
use Rattle.rules.specs.declared.Layout.{Layout}
use Rattle.rules.specs.declared.Layouts.{Layouts}
use Rattle.rules.proofs.Inverse.{refuses_says, need_inv}
use Rattle.rules_laws.proofs.Splitting.{texts_of}
use Rattle.grammar_alike.specs.Alike.{without_l}
use Rattle.grammar_wider.specs.Wider.{AfterLayouts, done, same, columned, LayoutLines, all, without, changed, put, Wider, front, from}
use Rattle.grammar_wider.proofs.Letters.{first_kept}
use Rattle.notes_rules.specs.Notes.{is_seal, sealed}
use Rattle.kinds.specs.Kinds.{letter_of, note_mark, kind_by, kinds_behind}
use Rattle.claims_kinds.specs.Noted.{besides_l, besides_layouts}
use Rattle.claims_kinds.proofs.Each.{NoMark}

-- ---- lines other than L lines

-- the bytes of the other lines are their letters
pub others_are : (k : Lines) (before : Bool) → Each NoMark (texts_of k) → besides_l (kinds_behind before k) ≡ map letter_of (without_l (texts_of k))
unfolding kinds_behind besides_l without_l
others_are end before h = refl
others_are (broken n) before h = refl
others_are (line t ls) before h = go (eqb (letter_of t) (code "L")) refl before (not (sealed ls)) (kinds_behind (before || is_seal t) ls) (others_are ls (before || is_seal t) h.1)
  where
    go : (p : Bool) → eqb (letter_of t) (code "L") ≡ p → (q r : Bool) (rest : List ℕ) → besides_l rest ≡ map letter_of (without_l (texts_of ls))
        → besides_l (cond (p && q && r) note_mark (letter_of t) ∷ rest) ≡ map letter_of (cond p (without_l (texts_of ls)) (t ∷ without_l (texts_of ls)))
    go true e true true rest later = later
    go true e true false rest later = rw e later
    go true e false r rest later = rw e later
    go false e q r rest later = rw (e, ne_eqb (letter_of t) note_mark h.0) (ap (λ (l : List ℕ). letter_of t ∷ l) later)

-- ---- columns added

-- the same letters, so the same bytes, whatever came before; and G lines in both or in neither
record SameKinds (k k' : Lines) : Type 0 where
  seals : sealed k ≡ sealed k'
  bytes : (before : Bool) → besides_layouts (kinds_behind before k) ≡ besides_layouts (kinds_behind before k')

-- a line in front whose letter stays
front_same : (t t' : List ℕ) (k k' : Lines) → letter_of t ≡ letter_of t' → SameKinds k k' → SameKinds (line t k) (line t' k')
unfolding sealed kinds_behind besides_layouts
front_same t t' k k' e w = record {
  seals = rw (e, w.seals);
  bytes = λ before. rw (e, w.seals, w.bytes (before || eqb (letter_of t') (code "G")));
}

-- a layout line in front tells nothing here
abbrev is_layout_byte : ℕ → Bool
is_layout_byte b = eqb b (code "I") || eqb b (code "J") || eqb b (code "M")

module _ (t : List ℕ) (g : Family) (e : letter_of t ≡ layout_letter g) where
  layout_byte : (g : Family) → (is_layout_byte (layout_letter g) ≡ true) × (eqb (layout_letter g) (code "L") ≡ false) × (eqb (layout_letter g) (code "G") ≡ false)
  layout_byte family.B = (refl, refl, refl)
  layout_byte (family.Extra extra.K) = (refl, refl, refl)
  layout_byte (family.Extra extra.N) = (refl, refl, refl)

  layout_sealed : (k : Lines) → sealed (line t k) ≡ sealed k
  unfolding sealed
  layout_sealed k = rw (e, (layout_byte g).2)

  or_false : (b : Bool) → (b || false) ≡ b
  or_false true = refl
  or_false false = refl

  layout_bytes : (k : Lines) (before : Bool) → besides_layouts (kinds_behind before (line t k)) ≡ besides_layouts (kinds_behind before k)
  unfolding kinds_behind besides_layouts
  layout_bytes k before = rw (e, (layout_byte g).1, (layout_byte g).2, or_false before, (layout_byte g).0)

layout_letter_lem : (g : Family) (t : List ℕ) (i : Layout) → layout_said g t ≡ says i → letter_of t ≡ layout_letter g
unfolding layout_said
layout_letter_lem g t i e = eqb-true _ _ (need_inv (eqb (get_or t 0 0) (layout_letter g)) _ (says i) _ refuses_says e).0

after_kept : {old new : Layouts} {k k' : Lines} → AfterLayouts old new k k' → SameKinds k k'
after_kept done = record { seals = refl; bytes = λ b. refl }
after_kept (same {t} {ls} {ls'} x w) = front_same t t ls ls' refl (after_kept w)
after_kept (columned {t} {t'} {ls} {ls'} g x l w) = front_same t t' ls ls' (sym (first_kept g t t' l.fields)) (after_kept w)

layouts_kept : {fs : List Family} {old new : Layouts} {k k' : Lines} → LayoutLines fs old new k k' → SameKinds k k'
layouts_kept (all w) = after_kept w
layouts_kept (without w) = layouts_kept w
layouts_kept (changed {f} {fs} {old} {new} {t} {t'} {i} {i'} {ls} {ls'} e e' x w) =
    let s = layouts_kept w in
    let a = layout_letter_lem f t i e in
    let b = layout_letter_lem f t' i' e' in
    record {
      seals = layout_sealed t f a ls ∙ s.seals ∙ sym (layout_sealed t' f b ls');
      bytes = λ before. layout_bytes t f a ls before ∙ s.bytes before ∙ sym (layout_bytes t' f b ls' before);
    }
layouts_kept (put {f} {fs} {old} {new} {t'} {i'} {ls} {ls'} e' w) =
    let s = layouts_kept w in
    let b = layout_letter_lem f t' i' e' in
    record { seals = s.seals ∙ sym (layout_sealed t' f b ls'); bytes = λ before. s.bytes before ∙ sym (layout_bytes t' f b ls' before) }

wider_kept : {k k' : Lines} → Wider k k' → SameKinds k k'
wider_kept (front {t} {ls} {ls'} x w) = front_same t t ls ls' refl (wider_kept w)
wider_kept (from w) = layouts_kept w

pub wider_bytes : {k k' : Lines} → Wider k k' → (before : Bool) → besides_layouts (kinds_behind before k) ≡ besides_layouts (kinds_behind before k')
wider_bytes w = (wider_kept w).bytes

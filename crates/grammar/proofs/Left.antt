-- Every file has one answer, in the grammar's words; and what is left in what was lent: in the table the offsets of the lines before the faulty one, the rest as lent, and in
-- the output of a refused write what was there. Assumes nothing.
use Rattle.rules.specs.declared.Refusal.{Refusal}
use Rattle.std.specs.Prelude.{None, Option, Result, Some, Ok, Err, IsErr}
use Prim.Native.Nat.{ℕ, ◌+◌, ◌-◌}
use mathlib.Core.Bool.{Bool}
use mathlib.Core.List.{List, []}
use mathlib.Core.Logic.{◌⊎◌, inl, inr}
use mathlib.Core.Path.{◌≡◌, refl, sym, ◌∙◌, ap, subst}
use native.Mathlib.Omega.{arith}
use lib.ListN.{length}
use Rattle.rules.specs.Refusals.{number, Said, says, refuses, outcome, value_or, result_told}
use Rattle.rules.specs.Layouts.{empty_layout}
use Rattle.rules.specs.Order.{no_flight}
use Rattle.rules.specs.Split.{end, lines_of, line_text}
use Rattle.rules.specs.Files.{verdict, good_lines, table_after}
use Rattle.rules.specs.Reads.{reading, fix_reading_told, extra_reading_told, layout_said, head_rest, point_rest}
use Rattle.rules.specs.Looks.{look_text}
use Rattle.rules.specs.Promises.{FileChecked, Written}
use Rattle.rules.specs.declared.Flight.{Flight}
use Rattle.rules.specs.declared.Family.TheVariants as family
use Rattle.rules.specs.declared.Layout.{Layout}
use Rattle.rules.specs.declared.FixReading.{FixReading}
use Rattle.rules.specs.declared.ExtraReading.{ExtraReading}
use Rattle.rules.specs.declared.Seal.{Seal}
use Rattle.rules.specs.declared.Checked.{Checked}
use Rattle.rules.proofs.Inverse.{refuses_says}
use Rattle.rules_laws.proofs.Counted.{good_in}
use Rattle.grammar.specs.Grammar.{lines_in, Fits, Meets, flight_of}
use Rattle.grammar.specs.Faults.{Before, Refused, empty, too_long, line_end, in_line, table_full, ends_early}
use Rattle.grammar.specs.Left.{OneAnswer, lines_before, FileLeaves, WriteLeaves, NoValue}
use Rattle.grammar.specs.Readings.{Entered}
use Rattle.grammar.proofs.Accepted.{lines_cut}
use Rattle.grammar.proofs.Sections.{lines_joined}
use Rattle.grammar.proofs.Reading.{entered}
use Rattle.grammar.proofs.Writers.{Answer, bad, full, wrote, answer}
use Rattle.grammar.proofs.Demands.{accepted_as, refused_first}

same_refusal : {A : Type 0} {n l b n' l' b' : ℕ} → ◌≡◌ {A = Said A} (refuses n l b) (refuses n' l' b') → (n ≡ n') × (l ≡ l') × (b ≡ b')
same_refusal e = (cc, cc, cc)

-- ---- one answer

pub one_answer : (seal : Seal) (file : List ℕ) (room : Option ℕ) → OneAnswer seal file room
one_answer seal file room = record {
  there = by (verdict seal file room) refl;
  not_both = λ m f n l b w. refuses_says (sym ((refused_first seal file room n l b).1 w) ∙ (accepted_as seal file room (flight_of m)).1 (m, f, refl));
  one_refusal = λ n l b n' l' b' w w'. same_refusal (sym ((refused_first seal file room n l b).1 w) ∙ (refused_first seal file room n' l' b').1 w');
}
  where
    by : (s : Said Flight) → verdict seal file room ≡ s → ((m : Meets seal file) × Fits room (length (lines_in m.parts))) ⊎ ((n : ℕ) × (l : ℕ) × (b : ℕ) × Refused seal file room n l b)
    by (says f) e = let r = (accepted_as seal file room f).0 e in inl (r.0, r.1)
    by (refuses n l b) e = inr (n, l, b, (refused_first seal file room n l b).0 e)

-- ---- the table

module _ (seal : Seal) (file table : List ℕ) where
  -- where the file is refused, they are the lines before the faulty one
  good_before : {n l b : ℕ} → Refused seal file (Some (length table)) n l b → good_in seal file table ≡ l - 1
  unfolding good_lines
  good_before {n} {l} {b} w = ap good_lines ((refused_first seal file (Some (length table)) n l b).1 w)

  led : (lines : List (List ℕ)) (rest : List ℕ) → Before file (Some (length table)) lines rest → good_in seal file table ≡ length lines + 1 - 1 → Entered lines table (table_after seal file table)
  led lines rest w g = entered seal file table lines (lines_of rest) (ap lines_of w.bytes ∙ lines_joined lines rest w.texts) (g ∙ omega arith) w.fits

  refused_entered : {n l b : ℕ} (w : Refused seal file (Some (length table)) n l b) → good_in seal file table ≡ l - 1 → Entered (lines_before w) table (table_after seal file table)
  refused_entered (empty e) g = entered seal file table [] (lines_of file) refl g (omega arith)
  refused_entered (too_long h) g = entered seal file table [] (lines_of file) refl g (omega arith)
  refused_entered (line_end lines rest n w e) g = led lines rest w g
  refused_entered (in_line lines l rest n b w t f) g = led lines _ w g
  refused_entered (table_full lines l rest w t p r) g = led lines _ w g
  refused_entered (ends_early lines w e) g = led lines [] w g

pub file_leaves : (seal : Seal) (file table : List ℕ) (r : Checked) (after : List ℕ) → FileChecked seal file table r after → FileLeaves seal file table r after
unfolding good_lines
file_leaves seal file table r after c = by (verdict seal file (Some (length table))) refl
  where
    by : (s : Said Flight) → verdict seal file (Some (length table)) ≡ s → FileLeaves seal file table r after
    by (says f) e =
        let a = (accepted_as seal file (Some (length table)) f).0 e in
        let told : result_told r.outcome ≡ says tt = c.told.answer ∙ ap outcome e in
        let g : good_in seal file table ≡ length (lines_in a.0.parts) = ap good_lines e ∙ sym (ap (λ x. x.lines) a.2) in
        let t = entered seal file table (lines_in a.0.parts) end (lines_cut file a.0) g a.1 in
        record {
          accepted = λ x. (a.0, c.told.flight ∙ ap (value_or no_flight) e ∙ sym a.2, subst (Entered (lines_in a.0.parts) table) (sym c.entries) t);
          refused = λ n l b x. absurd (refuses_says (sym x ∙ told));
        }
    by (refuses n l b) e =
        let told : result_told r.outcome ≡ refuses n l b = c.told.answer ∙ ap outcome e in
        record {
          accepted = λ x. absurd (refuses_says (sym told ∙ x));
          refused = λ n' l' b' x.
              let s = same_refusal (sym told ∙ x) in
              let w = (refused_first seal file (Some (length table)) n' l' b').0 (e ∙ cc) in
              (w, c.told.flight ∙ ap (value_or no_flight) e, subst (Entered (lines_before w) table) (sym c.entries) (refused_entered seal file table w (good_before seal file table w)));
        }

-- ---- a refused write

pub write_leaves : (good : Bool) (text : List ℕ) (place : ℕ) (out : List ℕ) (r : Result ℕ Refusal) (after : List ℕ) → Written good text place out r after → WriteLeaves r out after
unfolding number
write_leaves good text place out r after w n l b x = by (answer good text place out r after w)
  where
    by : Answer good text place out (result_told r) after → (l ≡ 0) × (b ≡ 0) × ((n ≡ 17) ⊎ (n ≡ 18)) × (after ≡ out)
    by (bad e a u) = let s = same_refusal (sym x ∙ a) in (s.1, s.2, inl s.0, u)
    by (full e h a u) = let s = same_refusal (sym x ∙ a) in (s.1, s.2, inr s.0, u)
    by (wrote e h s) = absurd (refuses_says (sym x ∙ s.next))

-- ---- a refused reading

-- what stands beside a refusal
beside : {A : Type 0} (a : A) (s : Said A) (n l b : ℕ) → outcome s ≡ refuses n l b → value_or a s ≡ a
beside a (says v) n l b e = absurd (refuses_says (sym e))
beside a (refuses k i j) n l b e = refl

-- an answer that refuses holds no value
fix_none : (r : Result FixReading Refusal) (n l b : ℕ) → fix_reading_told r ≡ refuses n l b → IsErr r
unfolding fix_reading_told
fix_none (Ok v) n l b e = absurd (refuses_says (sym e))
fix_none (Err w) n l b e = refl

extra_none : (r : Result ExtraReading Refusal) (n l b : ℕ) → extra_reading_told r ≡ refuses n l b → IsErr r
unfolding extra_reading_told
extra_none (Ok v) n l b e = absurd (refuses_says (sym e))
extra_none (Err w) n l b e = refl

result_none : {A : Type 0} (r : Result A Refusal) (n l b : ℕ) → result_told r ≡ refuses n l b → IsErr r
unfolding result_told
result_none (Ok v) n l b e = absurd (refuses_says (sym e))
result_none (Err w) n l b e = refl

pub no_value : NoValue
unfolding line_text look_text head_rest point_rest
no_value = record {
  line = λ file table n r p h. let e = h.3 in p ∙ rw e;
  column = λ l layout name r p h. let e = h.3 in p ∙ rw e;
  head_text = λ l r p h. let e = h.3 in p ∙ rw e;
  point_text = λ l r p h. let e = h.3 in p ∙ rw e;
  flight = λ seal file r p h. p.flight ∙ beside no_flight (verdict seal file None) h.0 h.1 h.2 (sym p.answer ∙ h.3);
  fix = λ l layout r p h. fix_none r h.0 h.1 h.2 (p ∙ h.3);
  extra = λ x l layout r p h. extra_none r h.0 h.1 h.2 (p ∙ h.3);
  layout = λ f l r p h. result_none r h.0 h.1 h.2 (p ∙ h.3);
}

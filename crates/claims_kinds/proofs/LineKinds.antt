-- The kinds of a file's lines, what is claimed. Each claim is a line from the room that proves it; its words stand in specs/Noted. Assumes nothing.
--
-- The claims are about every answer that the contract of `kinds::kinds` allows (promise FileKinded), and by `only_file_kinded` that is one. It is told by `kinds_said`: the file's own refusal, then 18,
-- or how many lines there are; the list afterwards is `kinds_after`. The file's refusals are the grammar's (demands: `refused_first`).
use Rattle.rules.specs.declared.Refusal.{Refusal}
use Rattle.std.specs.Prelude.{Result}
use Prim.Native.Nat.{ℕ, ◌≤◌, ◌<◌}
use mathlib.Core.Bool.{false}
use mathlib.Core.List.{List, [], map}
use mathlib.Core.Logic.{◌↔◌}
use mathlib.Core.Path.{◌≡◌, refl, sym, ap, subst, ◌∙◌}
use lib.ListN.{length, get_or, take, drop}
use Rattle.rules.specs.Choice.{Each}
use Rattle.rules.specs.Refusals.{says, refuses, result_told}
use Rattle.rules.specs.Split.{lines_of}
use Rattle.rules_laws.proofs.Splitting.{texts_of}
use Rattle.grammar.specs.Grammar.{Meets, lines_in}
use Rattle.grammar.proofs.Demands.{accepted_as}
use Rattle.grammar.proofs.Reading.{lines_are}
use Rattle.grammar_alike.specs.Alike.{without_l}
use Rattle.grammar_wider.specs.Wider.{WiderFile}
use Rattle.kinds.specs.Kinds.{kinds_seal, letter_of, note_mark, kinds_of, FileKinded}
use Rattle.claims_kinds.specs.Noted.{IsNote, IsKind, note, letter, KindsRefused, besides_l, besides_layouts}
use Rattle.claims_kinds.proofs.Each.{NoMark, unmarked, unmarked_at}
use Rattle.claims_kinds.proofs.Answers as answers
use Rattle.claims_kinds.proofs.Answers.{Stands, stands}
use Rattle.claims_kinds.proofs.Kept.{others_are, wider_bytes}

module _ (file list : List ℕ) (r : Result ℕ Refusal) (after : List ℕ) (w : FileKinded file list r after) where
  -- refused exactly in this order: the file's own, then 18
  pub kinds_refused_first : (n l b : ℕ) → (result_told r ≡ refuses n l b) ↔ KindsRefused file (length list) n l b
  kinds_refused_first n l b = (
    (λ e. answers.refused_there file (length list) n l b (sym w.told ∙ e)),
    (λ x. w.told ∙ answers.refused_here file (length list) n l b x),
  )

  -- nothing of the list changes then
  pub kinds_leave : (n l b : ℕ) → result_told r ≡ refuses n l b → after ≡ list
  kinds_leave = answers.leaves file list r after w

  -- no table is lent, so 15 is not met
  pub kinds_never_full : (n l b : ℕ) → result_told r ≡ refuses n l b → n ≡ 15 → ⊥
  kinds_never_full n l b e = answers.never_full file (length list) n l b ((kinds_refused_first n l b).0 e)

  module _ (n : ℕ) (e : result_told r ≡ says n) where
    s : Stands file list r after w n
    s = stands file list r after w n e

    -- the file meets the grammar
    pub kinds_accept : Meets kinds_seal file
    kinds_accept = ((accepted_as kinds_seal file _ s.flight).0 s.accepted).0

    -- the list keeps its length, and the bytes past the last line's stay
    pub kinds_rest : (length after ≡ length list) × (drop n after ≡ drop n list)
    kinds_rest = answers.stays file list r after w n s

    -- the bytes of the lines other than L lines are their letters, in their order
    pub kinds_besides : besides_l (take n after) ≡ map letter_of (without_l (texts_of (lines_of file)))
    kinds_besides = ap besides_l (answers.stored file list r after w n s) ∙ others_are (lines_of file) false (unmarked kinds_seal file s.flight s.accepted)

    module _ (m : Meets kinds_seal file) where
      -- the answer is how many lines the file has, and the list has a byte for each
      pub kinds_count : (n ≡ length (lines_in m.parts)) × (n ≤ length list)
      kinds_count = (answers.counts file list r after w n s m, s.room)

      -- byte i of the list is the mark where line i is a note, an L line behind the last G line, and else the line's letter; lines count from 0
      pub kinds_bytes : (i : ℕ) → i < n → IsKind (lines_in m.parts) i (get_or after i 0)
      kinds_bytes = answers.kinds_at file list r after w n s m

      -- and it is the mark nowhere else
      pub kinds_marked : (i : ℕ) → i < n → (get_or after i 0 ≡ note_mark) ↔ IsNote (lines_in m.parts) i
      kinds_marked i h = exactly (get_or after i 0) (kinds_bytes i h)
        where
          exactly : (b : ℕ) → IsKind (lines_in m.parts) i b → (b ≡ note_mark) ↔ IsNote (lines_in m.parts) i
          exactly b (note x) = ((λ _. x), (λ _. refl))
          exactly b (letter x) = (
            (λ q. absurd (unmarked_at (lines_in m.parts) (subst (Each NoMark) (lines_are file m) (unmarked kinds_seal file s.flight s.accepted)) i q)),
            (λ y. absurd (x y)),
          )

-- ---- two files

module _ (file list : List ℕ) (r : Result ℕ Refusal) (after : List ℕ) (w : FileKinded file list r after) (n : ℕ) (e : result_told r ≡ says n)
    (other list' : List ℕ) (r' : Result ℕ Refusal) (after' : List ℕ) (w' : FileKinded other list' r' after') (n' : ℕ) (e' : result_told r' ≡ says n') where
  -- notes change nothing but their own bytes: two files that differ in L lines alone have the same bytes for all other lines
  pub notes_change_no_kind : without_l (texts_of (lines_of other)) ≡ without_l (texts_of (lines_of file)) → besides_l (take n' after') ≡ besides_l (take n after)
  notes_change_no_kind q = kinds_besides other list' r' after' w' n' e' ∙ ap (map letter_of) q ∙ sym (kinds_besides file list r after w n e)

  -- columns added to B, K or N lines change nothing: but for the bytes of I, J and M lines, which may be put in, the bytes are the same in the same order
  pub columns_change_no_kind : WiderFile file other → besides_layouts (take n' after') ≡ besides_layouts (take n after)
  columns_change_no_kind x =
      ap besides_layouts (answers.stored other list' r' after' w' n' (stands other list' r' after' w' n' e'))
      ∙ sym (wider_bytes x false)
      ∙ ap besides_layouts (sym (answers.stored file list r after w n (stands file list r after w n e)))

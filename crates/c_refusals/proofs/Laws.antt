-- Words put into a lent text, and what the caller is told. Assumes nothing.
use Rattle.rules.specs.declared.Refusal.{Refusal}
use Rattle.std.specs.Prelude.{None, Ok, Option, Result, Some}
use Prim.Native.Nat.{ℕ, ◌≤◌, ◌<◌}
use native.Mathlib.Omega.{arith}
use mathlib.Core.List.{List}
use mathlib.Core.Path.{◌≡◌, refl, sym, ◌∙◌, ap}
use lib.ListN.{length}
use borrow.Author.Tests.{le-leb, lt-leb}
use Rattle.rules.specs.Refusals.{no, result_told}
use Rattle.rules.specs.declared.Reason.{Reason}
use Rattle.rules.specs.declared.Reason.TheVariants.{BadValue, NoRoom}
use Rattle.text_pieces.specs.Buffer.{Shown, PiecePut}
use Rattle.text_pieces.proofs.Laws.{whole}
use Rattle.c_answers.specs.Answers.{size, in_numbers, AnswerGiven}
use Rattle.c_answers.specs.declared.Numbers.{Numbers}
use Rattle.c_answers.proofs.Laws.{beside_room}
use Rattle.text_refusal.specs.Table.{name}
use Rattle.text_refusal.proofs.Words.{name_room}
use Rattle.text_explain.specs.Explanation.{explanation}
use Rattle.c_refusals.specs.Reasons.{reason_numbered}
use Rattle.c_refusals.specs.Calls.{name_of, explained_of, put_said, text_after, WordsPut, length_numbers, TextAnswered}

-- ---- words put into a lent text

pub no_words : (words : Option (List ℕ)) (text : List ℕ) (w : Result ℕ Refusal) → words ≡ None → result_told w ≡ no BadValue 0 → WordsPut words text w text
unfolding put_said text_after
no_words words text w e h = rw e (record { told = h; bytes = refl })

module _ (words text : List ℕ) where
  pub words_no_room : (w : Result ℕ Refusal) → length text < length words → result_told w ≡ no NoRoom 0 → WordsPut (Some words) text w text
  unfolding put_said text_after
  words_no_room w h e = record { told = rw (lt-leb (length words) (length text) h) e; bytes = rw (lt-leb (length words) (length text) h) }

  pub words_room : (n : ℕ) (after : List ℕ) → length words ≤ length text → PiecePut text 0 words n after → WordsPut (Some words) text (Ok n) after
  unfolding put_said text_after result_told
  words_room n after h p =
      let s = whole {out = text} {n = length text} refl h p in
      let k = le-leb (length words) (length text) h in
      record { told = rw (k, s.count); bytes = rw k s.bytes }

-- a name has room in 16 bytes
pub name_shown_lem : (reason : Reason) {out after : List ℕ} {r : ℕ} → PiecePut out 0 (name reason) r after → length out ≡ 16 → Shown (name reason) out r after
name_shown_lem reason p e = whole e (omega (arith, name_room reason)) p

-- ---- the words of a number

module _ (n : ℕ) (q : Option Reason) (e : q ≡ reason_numbered n) where
  unnumbered : q ≡ None → reason_numbered n ≡ None
  unnumbered h = sym e ∙ rw h

  has_reason : (reason : Reason) → q ≡ Some reason → reason_numbered n ≡ Some reason
  has_reason reason h = sym e ∙ rw h

  module _ (text : List ℕ) (w : Result ℕ Refusal) where
    pub no_name : q ≡ None → result_told w ≡ no BadValue 0 → WordsPut (name_of n) text w text
    unfolding name_of
    no_name h g = rw (unnumbered h) (no_words None text w refl g)

    pub name_put : (reason : Reason) (words after : List ℕ) → q ≡ Some reason → words ≡ name reason → WordsPut (Some words) text w after → WordsPut (name_of n) text w after
    unfolding name_of
    name_put reason words after h g p = rw (has_reason reason h, ← g) p

    module _ (file : List ℕ) (l b : ℕ) where
      pub no_explanation : q ≡ None → result_told w ≡ no BadValue 0 → WordsPut (explained_of file n l b) text w text
      unfolding explained_of
      no_explanation h g = rw (unnumbered h) (no_words None text w refl g)

      pub explanation_put : (reason : Reason) (words after : List ℕ) → q ≡ Some reason → words ≡ explanation file (record { reason = reason; line = l; byte = b }) → WordsPut (Some words) text w after → WordsPut (explained_of file n l b) text w after
      unfolding explained_of
      explanation_put reason words after h g p = rw (has_reason reason h, ← g) p

-- ---- what the caller is told

module _ (words : Option (List ℕ)) (text answer : List ℕ) where
  pub text_room : (w : Result ℕ Refusal) (n : Numbers) (r : ℕ) (text_now answer_now : List ℕ) → length answer ≡ size → WordsPut words text w text_now → n ≡ in_numbers length_numbers (result_told w) → AnswerGiven answer n r answer_now → TextAnswered words text answer r text_now answer_now
  text_room w n r text_now answer_now h p e a = beside_room answer text _ n _ r answer_now text_now h (e ∙ ap (in_numbers length_numbers) p.told) a p.bytes

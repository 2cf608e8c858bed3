-- Each way out of the functions that say what is refused is a way through what is said. Assumes nothing.
use Rattle.std.specs.Prelude.{Err, None, Ok, Result}
use Prim.Native.Nat.{ℕ, suc, ◌≤◌, ◌<◌}
use mathlib.Core.Bool.{false}
use mathlib.Core.List.{List, [], ◌++◌}
use mathlib.Core.Path.{◌≡◌, refl, sym, ap, ◌∙◌}
use native.Mathlib.Omega.{arith}
use borrow.Author.Tests.{le-leb, lt-leb}
use lib.ListN.{length, drop}
use lib.Seq.{sets, length-sets}
use Rattle.rules.specs.Choice.{part}
use Rattle.rules.specs.Files.{verdict, over, CheckedTold}
use Rattle.rules.specs.Refusals.{Said, says, refusal, result_told}
use Rattle.rules.specs.Split.{Lines, end, broken, line, lines_of}
use Rattle.rules.specs.declared.Checked.{Checked}
use Rattle.rules.specs.declared.Flight.{Flight}
use Rattle.rules.specs.declared.Reason.TheVariants as reason
use Rattle.rules.specs.declared.Refusal.{Refusal}
use Rattle.rules_laws.proofs.Splitting.{texts_of}
use Rattle.rules_laws.proofs.Counted.{lines_counted, accepted_whole}
use Rattle.file_lines.specs.Ends.{unplaced}
use Rattle.notes_common.proofs.Accepted.{accepted_filled}
use Rattle.track.proofs.Accepted.{texts_read}
use Rattle.columns.specs.Lines.{sizes_of}
use Rattle.columns.specs.declared.Sizes.{Sizes}
use Rattle.columns.proofs.Columning.{lines_sized}
use Rattle.columns.proofs.Telling.{said_refused, check_accepted}
use Rattle.kinds.specs.Kinds.{kinds_seal, kinds_of, kinds_in, kinds_said, KindsTold, FileKinded}
use Rattle.kinds.specs.Letters.{letters_of, notes_from, Ready, LettersPut}
use Rattle.kinds.proofs.Marking.{notes_inside, kinds_cut, kinds_long, marked_in, marked_front}

pub letters_long : (k : Lines) → length (letters_of k) ≡ length (texts_of k)
unfolding letters_of
letters_long end = refl
letters_long (broken n) = refl
letters_long (line t ls) = ap suc (letters_long ls)

module _ (file list : List ℕ) where
  -- refused: nothing changes
  pub refused_told : (s : Said ℕ) (w : Refusal) → s ≡ refusal w → KindsTold file s list (Err w) list
  unfolding result_told
  refused_told s w e = rw e (record { told = refl; bytes = refl })

  -- ---- the list has room, or is short

  module _ (f : Flight) (v : verdict kinds_seal file None ≡ says f) (n : ℕ) (same : n ≡ f.lines) where
    pub short_told : (w : Refusal) → length list < n → w ≡ unplaced reason.NoRoom → KindsTold file (kinds_in f (length list)) list (Err w) list
    unfolding kinds_in
    short_told w h e = refused_told _ w (rw (← same, lt-leb n (length list) h, e))

    many : length (letters_of (lines_of file)) ≡ n
    many = letters_long (lines_of file) ∙ sym (lines_counted kinds_seal file None f v) ∙ sym same

    module _ (h : n ≤ length list) where
      pub ready : (sizes : Sizes) → sizes ≡ sizes_of f.layouts → Ready sizes (lines_of file) × (length (letters_of (lines_of file)) ≤ length list)
      ready sizes e = (
        record { sized = rw e (lines_sized f.layouts (lines_of file) (texts_read kinds_seal file f v) (accepted_whole kinds_seal file None f v)); filled = accepted_filled kinds_seal file f v },
        omega (arith, many, h),
      )

      pub put_long : (from : ℕ) (mid : List ℕ) → LettersPut (lines_of file) list from mid → n ≤ length mid
      put_long from mid p = omega (arith, h, ap length p.letters ∙ length-sets list 0 (letters_of (lines_of file)))

      pub room_told : (from : ℕ) (mid after : List ℕ) → LettersPut (lines_of file) list from mid → after ≡ marked_in mid from n → KindsTold file (kinds_in f (length list)) list (Ok n) after
      unfolding kinds_in result_told
      room_told from mid after p e =
          let i : from ≤ n = omega (arith, p.before, notes_inside (lines_of file), many) in
          let long : n ≡ length (kinds_of (lines_of file)) = sym many ∙ sym (kinds_long (lines_of file) false) in
          let c : marked_in mid from n ≡ over (kinds_of (lines_of file)) list = rw (p.letters, marked_front (letters_of (lines_of file)) list from n many i h, ← long, kinds_cut (lines_of file), p.before) in
          rw (← same, le-leb n (length list) h) (record { told = refl; bytes = e ∙ c })

  -- ---- the check

  module _ (c : Checked) (t : CheckedTold (verdict kinds_seal file None) c) where
    pub check_refused : (w : Refusal) → c.outcome ≡ Err w → FileKinded file list (Err w) list
    unfolding kinds_said result_told
    check_refused w e = refused_told _ w (said_refused (verdict kinds_seal file None) w (rw e at t.answer) _)

    pub check_says : c.outcome ≡ (Ok tt) → verdict kinds_seal file None ≡ says c.flight
    check_says e = check_accepted file [] [] 0 c t e

    pub check_told : c.outcome ≡ (Ok tt) → (r : Result ℕ Refusal) (after : List ℕ) → KindsTold file (kinds_in c.flight (length list)) list r after → FileKinded file list r after
    unfolding kinds_said
    check_told e r after q = rw (check_says e) q

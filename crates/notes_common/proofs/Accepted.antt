-- An accepted file is the part up to the end of its last G line, and then its notes, each a text with CR LF. Assumes nothing.
use Rattle.std.specs.Prelude.{None, Option}
use Prim.Native.Nat.{ℕ, ◌≤◌}
use mathlib.Core.Bool.{Bool, true, false, ◌||◌, cond}
use mathlib.Core.List.{List, [], ◌∷◌, ◌++◌, append_assoc}
use mathlib.Core.Path.{◌≡◌, refl, sym, ◌∙◌, ap}
use native.Mathlib.Omega.{arith}
use borrow.Author.Tests.{leb-true, ne_eqb}
use lib.Dec.{leb}
use lib.ListN.{length, drop}
use lib.Seq.{drop-append_seam}
use Rattle.rules.specs.Choice.{Each}
use Rattle.rules.specs.Refusals.{says}
use Rattle.rules.specs.Split.{Lines, end, broken, line, lines_of}
use Rattle.rules.specs.Order.{start}
use Rattle.rules.specs.Files.{run, verdict}
use Rattle.rules.specs.declared.Flight.{Flight}
use Rattle.rules.specs.declared.Seal.{Seal}
use Rattle.rules.specs.declared.State.{State}
use Rattle.rules.proofs.Inverse.{refuses_says, need_inv}
use Rattle.rules_laws.proofs.Splitting.{Text, Whole, unlines, file_is_its_lines, AllText, lines_are_text}
use Rattle.rules_laws.proofs.Passing.{judged, ran}
use Rattle.rules_laws.proofs.Counted.{accepted_whole}
use Rattle.notes_rules.specs.Notes.{joined, is_seal, sealed, common_part, notes_in}
use Rattle.notes_rules.specs.Places.{Plain, Note}
use Rattle.notes_common.proofs.Common.{none_common}

-- ---- the lines, part by part

pub parted : (k : Lines) → Whole k → unlines k ≡ common_part k ++ joined (notes_in k)
unfolding common_part notes_in
parted end w = refl
parted (broken n) w = absurd w
parted (line t ls) w = go (is_seal t) (sealed ls) refl (parted ls w)
  where
    go : (b s : Bool) → sealed ls ≡ s → unlines ls ≡ common_part ls ++ joined (notes_in ls)
        → t ++ 13 ∷ 10 ∷ unlines ls ≡ cond (b || s) (t ++ 13 ∷ 10 ∷ common_part ls) [] ++ joined (cond (b || s) (notes_in ls) (t ∷ notes_in ls))
    go true s e h = rw h (sym (append_assoc t (13 ∷ 10 ∷ common_part ls) (joined (notes_in ls))))
    go false true e h = rw h (sym (append_assoc t (13 ∷ 10 ∷ common_part ls) (joined (notes_in ls))))
    go false false e h = rw (h, none_common ls e)

-- ---- each line is a text, and not empty

abbrev pub Filled : Lines → Type 0
Filled end = Unit {0}
Filled (broken n) = Unit {0}
Filled (line t ls) = (1 ≤ length t) × Filled ls

run_filled : (seal : Seal) (room : Option ℕ) (k : Lines) (st : State) (f : Flight) → run seal room st k ≡ says f → Filled k
run_filled seal room end st f e = tt
run_filled seal room (broken n) st f e = tt
run_filled seal room (line t ls) st f e =
    let g = ran seal room st t ls f e in
    ((judged t st g.after g.judges).long, run_filled seal room ls g.after f g.runs)

pub accepted_filled : (seal : Seal) (file : List ℕ) (f : Flight) → verdict seal file None ≡ says f → Filled (lines_of file)
unfolding verdict
accepted_filled seal file f e =
    let a = need_inv (leb 1 (length file)) _ (says f) _ refuses_says e in
    let b = need_inv (leb (length file) 16777216) _ (says f) _ refuses_says a.1 in
    run_filled seal None (lines_of file) start f b.1

plain_text : (t : List ℕ) → Text t → Plain t
plain_text [] h = tt
plain_text (b ∷ t) h = (ne_eqb b 13 h.0, plain_text t h.2)

note_text : (t : List ℕ) → Text t → 1 ≤ length t → Note t
note_text [] h n = absurd (omega arith)
note_text (b ∷ t) h n = plain_text (b ∷ t) h

notes_are : (k : Lines) → AllText k → Filled k → Each Note (notes_in k)
unfolding notes_in
notes_are end h f = tt
notes_are (broken n) h f = tt
notes_are (line t ls) h f = go (is_seal t || sealed ls) (note_text t h.0 f.0) (notes_are ls h.1 f.1)
  where
    go : (b : Bool) → Note t → Each Note (notes_in ls) → Each Note (cond b (notes_in ls) (t ∷ notes_in ls))
    go true n m = m
    go false n m = (n, m)

-- ---- the file

pub record Copy (file : List ℕ) : Type 0 where
  pub most : length file ≤ 16777216
  pub bytes : file ≡ common_part (lines_of file) ++ joined (notes_in (lines_of file))
  pub notes : Each Note (notes_in (lines_of file))
  -- what stands behind the common part
  pub behind : drop (length (common_part (lines_of file))) file ≡ joined (notes_in (lines_of file))

pub copy : (seal : Seal) (file : List ℕ) (f : Flight) → verdict seal file None ≡ says f → Copy file
unfolding verdict
copy seal file f e =
    let a = need_inv (leb 1 (length file)) _ (says f) _ refuses_says e in
    let b = need_inv (leb (length file) 16777216) _ (says f) _ refuses_says a.1 in
    let w = accepted_whole seal file None f e in
    let p : file ≡ common_part (lines_of file) ++ joined (notes_in (lines_of file)) = sym (file_is_its_lines file w) ∙ parted (lines_of file) w in
    record {
      most = leb-true _ _ b.0;
      bytes = p;
      notes = notes_are (lines_of file) (lines_are_text file) (accepted_filled seal file f e);
      behind = ap (drop (length (common_part (lines_of file)))) p ∙ drop-append_seam (common_part (lines_of file)) (joined (notes_in (lines_of file)));
    }

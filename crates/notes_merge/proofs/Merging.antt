-- Two files merged: the notes that the code weaves are the notes brought together, and each way out is a way through `merge_said`. Assumes nothing.
use Rattle.std.specs.Prelude.{Err, None, Ok, Option, Result, Some, ⊤}
use Prim.Native.Nat.{ℕ, ◌+◌, ◌-◌, ◌≤◌, ◌<◌}
use mathlib.Core.Bool.{Bool, true, false, cond}
use mathlib.Core.List.{List, [], ◌∷◌, ◌++◌, append_assoc}
use mathlib.Core.Path.{◌≡◌, refl, sym, ◌∙◌, ap}
use native.Mathlib.Numerals.{add-one}
use native.Mathlib.Omega.{arith}
use borrow.Author.Tests.{le-leb, leb-true}
use lib.Dec.{leb}
use lib.ListN.{length, take, drop, get_or, set, length-append, length-drop, drop_of_length-le}
use lib.Seq.{sets, sets-eq, length-sets, length-take-le, take-suc, take_all, drop-append_seam}
use Rattle.rules.specs.Choice.{need, Each}
use Rattle.rules.specs.Refusals.{number, Said, says, refuses, refusal, outcome, result_told}
use Rattle.rules.specs.Split.{lines_of}
use Rattle.rules.specs.Files.{verdict}
use Rattle.rules.specs.declared.Flight.{Flight}
use Rattle.rules.specs.declared.Reason.TheVariants.{TooLong, NoRoom, NotSame}
use Rattle.rules.specs.declared.Refusal.{Refusal}
use Rattle.rules.specs.declared.Seal.TheVariants as seal
use Rattle.rules.proofs.Inverse.{refuses_says, none_some, need_inv}
use Rattle.rules.proofs.Texts.{sets_append}
use Rattle.notes_sorted.specs.Ways.{in_order, weave}
use Rattle.notes_sorted.proofs.Pairs.{weave_is}
use Rattle.notes_rules.specs.Notes.{not_after, joined, common_part, notes_in, is_same}
use Rattle.notes_rules.specs.Merging.{Merged, merged, of_neither, merged_file, merge_said, out_merged}
use Rattle.notes_rules.specs.Places.{Note}
use Rattle.notes_rules.proofs.Texts.{texts}
use Rattle.notes_rules.proofs.Places.{whole}
use Rattle.notes_common.proofs.Common.{front_is, front_inside, same_is}
use Rattle.notes_common.proofs.Accepted.{copy}
use Rattle.notes_fit.specs.Weave.{all, woven_said, out_woven, NotesWoven}
use Rattle.notes_fit.specs.declared.Woven.{Woven}
use Rattle.notes_fit.specs.declared.Woven.TheVariants as woven
use Rattle.notes_merge.specs.Merge.{StrictlyAccepted, merge_told, FilesMerged}
use Rattle.notes_merge.specs.declared.Brought.{Brought}
use Rattle.notes_merge.specs.declared.Brought.TheVariants as brought

-- ---- a part of the bytes

pub part_none : (l : List ℕ) (n : ℕ) → length l < n → [] ≡ drop n l
part_none l n h = sym (drop_of_length-le l {i = n} (omega arith))

pub part_all : (l : List ℕ) (n : ℕ) → n ≤ length l → take (length l - n) (drop n l) ≡ drop n l
part_all l n h = take_all (length l - n) (drop n l) (omega (arith, length-drop n l))

-- ---- bytes put into the front

-- one byte after the other: i of n bytes are put
pub record Copying (from out₀ : List ℕ) (n : ℕ) (out : List ℕ) (i : ℕ) : Type 0 where
  pub low : i ≤ n
  pub is : out ≡ sets out₀ 0 (take i from)

module _ (from out₀ : List ℕ) (n : ℕ) where
  pub copying_first : Copying from out₀ n out₀ 0
  copying_first = record { low = omega arith; is = refl }

  module _ (out : List ℕ) (i : ℕ) (w : Copying from out₀ n out i) where
    pub copying_size : length out ≡ length out₀
    copying_size = ap length w.is ∙ length-sets out₀ 0 (take i from)

    pub copying_next : i < n → n ≤ length from → Copying from out₀ n (set out i (get_or from i 0)) (i + 1)
    copying_next h g =
        let e : take (i + 1) from ≡ take i from ++ (get_or from i 0 ∷ []) = rw add-one (take-suc from i 0 (omega arith)) in
        let k : 0 + length (take i from) ≡ i = omega (arith, length-take-le i from (omega arith)) in
        let s : sets out₀ 0 (take i from ++ (get_or from i 0 ∷ [])) ≡ set (sets out₀ 0 (take i from)) i (get_or from i 0) = rw k at (sets_append out₀ 0 (take i from) (get_or from i 0 ∷ [])) in
        record { low = omega arith; is = rw (e, s) (ap (λ (l : List ℕ). set l i (get_or from i 0)) w.is) }

    pub copying_end : n ≤ i → out ≡ sets out₀ 0 (take n from)
    copying_end h = let e : i ≡ n = omega (arith, w.low) in rw e at w.is

-- the first n bytes, and then those behind them
pub front_put : (out x y : List ℕ) → length x + length y ≤ length out → sets (sets out (length x) y) 0 x ≡ (x ++ y) ++ drop (length (x ++ y)) out
front_put out x y h =
    let n = length x in
    let z = drop (n + length y) out in
    let a : length (take n out) ≡ n = length-take-le n out (omega arith) in
    let o : sets out n y ≡ (take n out ++ y) ++ z = sets-eq y out n h in
    let p : sets (sets out n y) 0 x ≡ x ++ drop (0 + n) (sets out n y) = sets-eq x (sets out n y) 0 (omega (arith, length-sets out n y)) in
    let s : 0 + n ≡ n = omega arith in
    let q : drop (0 + n) (sets out n y) ≡ y ++ z = ap (λ (k : ℕ). drop k (sets out n y)) s ∙ ap (drop n) (o ∙ append_assoc (take n out) y z) ∙ ap (λ (k : ℕ). drop k (take n out ++ (y ++ z))) (sym a) ∙ drop-append_seam (take n out) (y ++ z) in
    p ∙ ap (λ (l : List ℕ). x ++ l) q ∙ sym (append_assoc x y z) ∙ ap (λ (k : ℕ). (x ++ y) ++ drop k out) (sym (length-append x y))

-- ---- the notes

module _ (first second : List ℕ) where
  abbrev ones : List (List ℕ)
  ones = notes_in (lines_of first)

  abbrev twos : List (List ℕ)
  twos = notes_in (lines_of second)

  -- as the code makes them
  abbrev pub woven_notes : List (List ℕ)
  woven_notes = weave not_after (in_order not_after ones) (in_order not_after twos)

  abbrev pub result : List ℕ
  result = merged_file first woven_notes

  pub made : (out : List ℕ) (r : Brought) (after : List ℕ) → merge_told r ≡ merge_said first second result (length out)
      → after ≡ out_merged (merge_said first second result (length out)) result out → FilesMerged first second out r after
  made out r after e f = record { notes = woven_notes; together = weave_is texts ones twos; told = e; bytes = f }

-- two lists of notes, as the code weaves them
all_is : (ts us : List (List ℕ)) → Each Note ts → Each Note us → all (joined ts) (joined us) ≡ joined (weave not_after (in_order not_after ts) (in_order not_after us))
unfolding all
all_is ts us g h = rw (whole ts g, whole us h)

-- ---- the files' own refusals

refused_is : (s : Said Flight) (r : Refusal) → refusal r ≡ outcome s → s ≡ refusal r
refused_is (says f) r e = absurd (refuses_says e)
refused_is (refuses n l b) r e =
    let p : number r.reason ≡ n = cc in
    let q : r.line ≡ l = cc in
    let t : r.byte ≡ b = cc in
    rw (p, q, t)

pub accepted_is : (file : List ℕ) (o : Result ⊤ Refusal) → result_told o ≡ outcome (verdict seal.Strict file None) → o ≡ (Ok tt) → StrictlyAccepted file
unfolding result_told
accepted_is file o e g = go (verdict seal.Strict file None) refl (rw g at e)
  where
    go : (s : Said Flight) → verdict seal.Strict file None ≡ s → says tt ≡ outcome s → StrictlyAccepted file
    go (says f) h k = (f, h)
    go (refuses n l b) h k = absurd (refuses_says (sym k))

module _ (first second out : List ℕ) (o : Result ⊤ Refusal) (r : Refusal) (g : o ≡ Err r) where
  pub first_refused : result_told o ≡ outcome (verdict seal.Strict first None) → FilesMerged first second out (brought.First r) out
  unfolding result_told merge_said merge_told
  first_refused e =
      let v = refused_is (verdict seal.Strict first None) r (rw g at e) in
      made first second out (brought.First r) out (rw v) (rw v)

  pub second_refused : StrictlyAccepted first → result_told o ≡ outcome (verdict seal.Strict second None) → FilesMerged first second out (brought.Second r) out
  unfolding result_told merge_said merge_told
  second_refused a e =
      let v = refused_is (verdict seal.Strict second None) r (rw g at e) in
      made first second out (brought.Second r) out (rw (a.1, v)) (rw (a.1, v))

-- ---- two accepted files

module _ (first second out : List ℕ) (a : StrictlyAccepted first) (b : StrictlyAccepted second) where
  abbrev one : List ℕ
  one = common_part (lines_of first)

  abbrev two : List ℕ
  two = common_part (lines_of second)

  -- what `alike` finds
  abbrev found_is : Option ℕ → Type 0
  found_is r = r ≡ cond (is_same one two) (Some (length one)) None

  pub not_same : (r : Option ℕ) (u : Refusal) → found_is r → r ≡ None → u ≡ record { reason = NotSame; line = 0; byte = 0 } → FilesMerged first second out (brought.Neither u) out
  unfolding merge_said merge_told
  not_same r u e g v = go (is_same one two) refl (rw g at e)
    where
      go : (t : Bool) → is_same one two ≡ t → None ≡ cond t (Some (length one)) None → FilesMerged first second out (brought.Neither u) out
      go true h k = absurd (none_some k)
      go false h k = made first second out (brought.Neither u) out (rw (v, a.1, b.1, h)) (rw (a.1, b.1, h))

  pub found_same : (r : Option ℕ) (n : ℕ) → found_is r → r ≡ Some n → (is_same one two ≡ true) × (n ≡ length one)
  found_same r n e g = go (is_same one two) refl (rw g at e)
    where
      go : (t : Bool) → is_same one two ≡ t → Some n ≡ cond t (Some (length one)) None → (is_same one two ≡ true) × (n ≡ length one)
      go true h k = (h, cc)
      go false h k = absurd (none_some (sym k))

  module _ (n : ℕ) (same : is_same one two ≡ true) (e : n ≡ length one) where
    abbrev notes : List (List ℕ)
    notes = woven_notes first second

    abbrev whole_file : List ℕ
    whole_file = merged_file first notes

    text_is : all (drop n first) (drop n second) ≡ joined notes
    text_is =
        let p = copy seal.Strict first a.0 a.1 in
        let q = copy seal.Strict second b.0 b.1 in
        let s : n ≡ length two = e ∙ ap length (same_is one two same) in
        let x : drop n first ≡ joined (notes_in (lines_of first)) = ap (λ (k : ℕ). drop k first) e ∙ p.behind in
        let y : drop n second ≡ joined (notes_in (lines_of second)) = ap (λ (k : ℕ). drop k second) s ∙ q.behind in
        rw (x, y) (all_is (notes_in (lines_of first)) (notes_in (lines_of second)) p.notes q.notes)

    size_is : n + length (all (drop n first) (drop n second)) ≡ length whole_file
    size_is = omega (arith, e, ap length text_is, length-append one (joined notes))

    -- what the weaving says, as what the merge says
    abbrev woven_told : Woven → Merged
    woven_told (woven.Put k) = merged k
    woven_told woven.TooLong = of_neither (number TooLong) 0 0
    woven_told woven.NoRoom = of_neither (number NoRoom) 0 0

    said_is : woven_told (woven_said n (drop n first) (drop n second) (length out)) ≡ merge_said first second whole_file (length out)
    unfolding woven_said merge_said
    said_is =
        let p = copy seal.Strict first a.0 a.1 in
        let q = copy seal.Strict second b.0 b.1 in
        let x = le-leb (length (drop n first)) 16777216 (omega (arith, p.most, length-drop n first)) in
        let y = le-leb (length (drop n second)) 16777216 (omega (arith, q.most, length-drop n second)) in
        rw (x, y, size_is, a.1, b.1, same) (go (leb (length whole_file) 16777216) (leb (length whole_file) (length out)))
      where
        go : (t s : Bool) → woven_told (need t woven.TooLong λ _. need s woven.NoRoom λ _. woven.Put (length whole_file))
            ≡ need t (of_neither (number TooLong) 0 0) λ _. need s (of_neither (number NoRoom) 0 0) λ _. merged (length whole_file)
        go true true = refl
        go true false = refl
        go false s = refl

    put_fits : (k : ℕ) → woven_said n (drop n first) (drop n second) (length out) ≡ woven.Put k → (length whole_file ≡ k) × (length whole_file ≤ length out)
    unfolding woven_said
    put_fits k g =
        let size = n + length (all (drop n first) (drop n second)) in
        let x = need_inv (leb (length (drop n first)) 16777216) woven.TooLong (woven.Put k) _ long_put g in
        let y = need_inv (leb (length (drop n second)) 16777216) woven.TooLong (woven.Put k) _ long_put x.1 in
        let z = need_inv (leb size 16777216) woven.TooLong (woven.Put k) _ long_put y.1 in
        let s = need_inv (leb size (length out)) woven.NoRoom (woven.Put k) _ room_put z.1 in
        let h : woven.Put size ≡ woven.Put k = s.1 in
        let q : size ≡ k = cc in
        let f : size ≤ length out = leb-true size (length out) s.0 in
        (sym size_is ∙ q, omega (arith, f, size_is))
      where
        long_put : woven.TooLong ≡ woven.Put k → ⊥
        long_put e = let z : ◌≡◌ {A = ℕ} 0 1 = cc in omega arith

        room_put : woven.NoRoom ≡ woven.Put k → ⊥
        room_put e = let z : ◌≡◌ {A = ℕ} 0 1 = cc in omega arith

    module _ (r : Woven) (out₁ : List ℕ) (w : NotesWoven n (drop n first) (drop n second) out r out₁) where
      told_is : woven_told r ≡ merge_said first second whole_file (length out)
      told_is = ap woven_told w.told ∙ said_is

      bytes_are : out₁ ≡ out_woven r n (joined notes) out
      bytes_are = w.bytes ∙ rw (text_is, ← w.told)

      too_long : (u : Refusal) → u ≡ record { reason = TooLong; line = 0; byte = 0 } → r ≡ woven.TooLong → FilesMerged first second out (brought.Neither u) out₁
      unfolding merge_told
      too_long u v g =
          let t : of_neither (number TooLong) 0 0 ≡ merge_said first second whole_file (length out) = rw g at told_is in
          let o : out₁ ≡ out = rw g at bytes_are in
          made first second out (brought.Neither u) out₁ (rw v t) (rw (← t) o)

      no_room : (u : Refusal) → u ≡ record { reason = NoRoom; line = 0; byte = 0 } → r ≡ woven.NoRoom → FilesMerged first second out (brought.Neither u) out₁
      unfolding merge_told
      no_room u v g =
          let t : of_neither (number NoRoom) 0 0 ≡ merge_said first second whole_file (length out) = rw g at told_is in
          let o : out₁ ≡ out = rw g at bytes_are in
          made first second out (brought.Neither u) out₁ (rw v t) (rw (← t) o)

      module _ (k : ℕ) (g : r ≡ woven.Put k) where
        text_put : out₁ ≡ sets out n (joined notes)
        text_put = rw g at bytes_are

        fits : (length whole_file ≡ k) × (length whole_file ≤ length out)
        fits = put_fits k (sym w.told ∙ g)

        room : (n ≤ length first) × (n ≤ length out₁)
        room = (omega (arith, e, front_inside first), omega (arith, e, fits.1, length-append one (joined notes), ap length text_put, length-sets out n (joined notes)))

        all_put : (out₂ : List ℕ) → out₂ ≡ sets out₁ 0 (take n first) → FilesMerged first second out (brought.Whole k) out₂
        unfolding merge_told
        all_put out₂ h =
            let t : merged k ≡ merge_said first second whole_file (length out) = rw g at told_is in
            let x : take n first ≡ one = ap (λ (j : ℕ). take j first) e ∙ front_is first in
            let o : out₂ ≡ sets (sets out (length one) (joined notes)) 0 one = rw (text_put, x, e) at h in
            made first second out (brought.Whole k) out₂ t (rw (← t) (o ∙ front_put out one (joined notes) (omega (arith, fits.1, length-append one (joined notes)))))

  -- the ways out, behind what the parts found
  module _ (fr : Option ℕ) (n : ℕ) (fe : found_is fr) (fg : fr ≡ Some n) (x y : List ℕ) (ex : x ≡ drop n first) (ey : y ≡ drop n second) (r : Woven) (out₁ : List ℕ) (w : NotesWoven n x y out r out₁) where
    same_n : (is_same one two ≡ true) × (n ≡ length one)
    same_n = found_same fr n fe fg

    parts : NotesWoven n (drop n first) (drop n second) out r out₁
    parts = rw (ex, ey) at w

    pub bring_long : (u : Refusal) → u ≡ record { reason = TooLong; line = 0; byte = 0 } → r ≡ woven.TooLong → FilesMerged first second out (brought.Neither u) out₁
    bring_long = too_long n same_n.0 same_n.1 r out₁ parts

    pub bring_short : (u : Refusal) → u ≡ record { reason = NoRoom; line = 0; byte = 0 } → r ≡ woven.NoRoom → FilesMerged first second out (brought.Neither u) out₁
    bring_short = no_room n same_n.0 same_n.1 r out₁ parts

    pub bring_room : (k : ℕ) → r ≡ woven.Put k → (n ≤ length first) × (n ≤ length out₁)
    bring_room = room n same_n.0 same_n.1 r out₁ parts

    pub bring_whole : (k : ℕ) → r ≡ woven.Put k → (out₂ : List ℕ) → out₂ ≡ sets out₁ 0 (take n first) → FilesMerged first second out (brought.Whole k) out₂
    bring_whole = all_put n same_n.0 same_n.1 r out₁ parts

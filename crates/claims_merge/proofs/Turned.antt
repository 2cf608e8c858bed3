-- The two copies in the other order, three copies in another pairing, a copy with itself, and copies that are not of one file. Assumes nothing.
use Rattle.std.specs.Prelude.{None}
use Prim.Native.Nat.{ℕ, ◌+◌, ◌≤◌, ◌<◌}
use mathlib.Core.Bool.{Bool, true, false}
use mathlib.Core.List.{List, [], ◌∷◌, ◌++◌}
use mathlib.Core.Logic.{◌↔◌}
use mathlib.Core.Path.{◌≡◌, refl, sym, ◌∙◌, ap, ap₂, subst}
use native.Mathlib.Omega.{arith}
use borrow.Author.Tests.{le-leb, lt-leb}
use lib.Dec.{leb}
use lib.ListN.{length, drop, length-append}
use Rattle.rules.specs.Choice.{need}
use Rattle.rules.specs.Refusals.{number, Said, says, refuses}
use Rattle.rules.specs.Split.{lines_of}
use Rattle.rules.specs.Files.{verdict}
use Rattle.rules.specs.declared.Flight.{Flight}
use Rattle.rules.specs.declared.Reason.TheVariants.{TooLong, NoRoom, NotSame}
use Rattle.rules.specs.declared.Seal.TheVariants as seal
use Rattle.rules.proofs.Inverse.{false_true}
use Rattle.notes_sorted.specs.Sorted.{Together}
use Rattle.notes_sorted.specs.Ways.{insert, into, in_order}
use Rattle.notes_sorted.proofs.Sorting.{by}
use Rattle.notes_sorted.proofs.Pairs.{together_once, together_turned, together_paired, together_self}
use Rattle.notes_rules.specs.Notes.{not_after, joined, common_part, notes_in, is_same}
use Rattle.notes_rules.specs.Merging.{Merged, merged, of_first, of_second, of_neither, accept_first, accept_second, merged_file, merge_said, out_merged}
use Rattle.notes_rules.proofs.Texts.{texts}
use Rattle.notes_common.proofs.Common.{same_is, is_same_lem}
use Rattle.notes_common.proofs.Accepted.{copy}
use Rattle.notes_merge.specs.Merge.{StrictlyAccepted, merge_told, FilesMerged}
use Rattle.notes_merge.specs.declared.Brought.{Brought}
use Rattle.notes_merge.specs.declared.Brought.TheVariants as brought
use Rattle.notes_merge.proofs.Only.{merge_one, only_files_merged}
use Rattle.claims_merge.specs.Evening.{Makes}
use Rattle.claims_merge.proofs.Making.{Made, common_again, notes_again}

-- ---- the other order

same_turned : (x y : List ℕ) (b : Bool) → is_same x y ≡ b → is_same y x ≡ b
same_turned x y true e = ap (is_same y) (same_is x y e) ∙ is_same_lem y
same_turned x y false e = go (is_same y x) refl
  where
    go : (b : Bool) → is_same y x ≡ b → is_same y x ≡ false
    go true h = let s = same_is y x h in absurd (false_true (sym e ∙ ap (is_same x) s ∙ is_same_lem x))
    go false h = h

-- what both say, where both are accepted
abbrev pub Rest : List ℕ → List ℕ → List ℕ → ℕ → Merged
Rest one two file room =
    need (is_same one two) (of_neither (number NotSame) 0 0) λ _.
    need (leb (length file) 16777216) (of_neither (number TooLong) 0 0) λ _.
    need (leb (length file) room) (of_neither (number NoRoom) 0 0) λ _.
    merged (length file)

module _ (first second : List ℕ) (a : StrictlyAccepted first) (b : StrictlyAccepted second) (notes : List (List ℕ)) (room : ℕ) where
  abbrev one : List ℕ
  one = common_part (lines_of first)

  abbrev two : List ℕ
  two = common_part (lines_of second)

  pub said_rest : merge_said first second (merged_file first notes) room ≡ Rest one two (one ++ joined notes) room
  unfolding merge_said
  said_rest = rw (a.1, b.1)

  rest_turned : Rest one two (one ++ joined notes) room ≡ Rest two one (two ++ joined notes) room
  rest_turned = go (is_same one two) refl
    where
      go : (t : Bool) → is_same one two ≡ t → Rest one two (one ++ joined notes) room ≡ Rest two one (two ++ joined notes) room
      go true e = rw (same_is one two e)
      go false e = rw (e, same_turned one two false e)

  out_turned : (out : List ℕ) → out_merged (Rest one two (one ++ joined notes) room) (one ++ joined notes) out ≡ out_merged (Rest two one (two ++ joined notes) room) (two ++ joined notes) out
  out_turned out = go (is_same one two) refl
    where
      go : (t : Bool) → is_same one two ≡ t → out_merged (Rest one two (one ++ joined notes) room) (one ++ joined notes) out ≡ out_merged (Rest two one (two ++ joined notes) room) (two ++ joined notes) out
      go true e = rw (same_is one two e)
      go false e = rw (e, same_turned one two false e)

pub turned : (first second out : List ℕ) (r : Brought) (after : List ℕ) → StrictlyAccepted first → StrictlyAccepted second → FilesMerged second first out r after → FilesMerged first second out r after
turned first second out r after a b w =
    let n = length out in
    let e = said_rest second first b a w.notes n in
    let f = said_rest first second a b w.notes n in
    record {
      notes = w.notes;
      together = together_turned texts (notes_in (lines_of second)) (notes_in (lines_of first)) w.notes w.together;
      told = w.told ∙ e ∙ rest_turned second first b a w.notes n ∙ sym f;
      bytes = w.bytes
          ∙ ap (λ (m : Merged). out_merged m (merged_file second w.notes) out) e
          ∙ out_turned second first b a w.notes n out
          ∙ ap (λ (m : Merged). out_merged m (merged_file first w.notes) out) (sym f);
    }

-- a file that is refused leaves the output as it was, whichever it is
module _ (first second out : List ℕ) (r : Brought) (after : List ℕ) (w : FilesMerged first second out r after) where
  pub first_out : (k l b : ℕ) → verdict seal.Strict first None ≡ refuses k l b → after ≡ out
  unfolding merge_said
  first_out k l b e = w.bytes ∙ rw e

  pub second_out : (k l b : ℕ) → verdict seal.Strict second None ≡ refuses k l b → after ≡ out
  unfolding merge_said
  second_out k l b e = w.bytes ∙ go (verdict seal.Strict first None)
    where
      go : (s : Said Flight)
          → out_merged (accept_first s λ _. accept_second (verdict seal.Strict second None) λ _. Rest (common_part (lines_of first)) (common_part (lines_of second)) (merged_file first w.notes) (length out)) (merged_file first w.notes) out ≡ out
      go (says f) = rw e
      go (refuses n m c) = refl

-- where it is refused
pub refused_leaves : (first second out : List ℕ) (r : Brought) (after : List ℕ) → FilesMerged first second out r after → ((n : ℕ) → r ≡ brought.Whole n → ⊥) → after ≡ out
unfolding merge_told
refused_leaves first second out r after w h = w.bytes ∙ go (merge_said first second (merged_file first w.notes) (length out)) w.told
  where
    go : (m : Merged) → merge_told r ≡ m → out_merged m (merged_file first w.notes) out ≡ out
    go (merged n) e = absurd (h n (merge_one r (brought.Whole n) e))
    go (of_first k l b) e = refl
    go (of_second k l b) e = refl
    go (of_neither k l b) e = refl

pub either_way : (first second out : List ℕ) (r r' : Brought) (after after' : List ℕ) → FilesMerged first second out r after → FilesMerged second first out r' after'
    → (after ≡ after') × (StrictlyAccepted first → StrictlyAccepted second → r ≡ r')
either_way first second out r r' after after' w v = (go (verdict seal.Strict first None) (verdict seal.Strict second None) refl refl, λ a b. (both a b).0)
  where
    both : StrictlyAccepted first → StrictlyAccepted second → (r ≡ r') × (after ≡ after')
    both a b = only_files_merged first second out r r' after after' w (turned first second out r' after' a b v)

    go : (s t : Said Flight) → verdict seal.Strict first None ≡ s → verdict seal.Strict second None ≡ t → after ≡ after'
    go (says f) (says g) p q = (only_files_merged first second out r r' after after' w (turned first second out r' after' (f, p) (g, q) v)).1
    go (refuses k l b) t p q = first_out first second out r after w k l b p ∙ sym (second_out second first out r' after' v k l b p)
    go (says f) (refuses k l b) p q = second_out first second out r after w k l b q ∙ sym (first_out second first out r' after' v k l b q)

-- ---- another pairing

pub pairing : (a b c ab bc x y : List ℕ) → Made a b ab → Made ab c x → Made b c bc → Made a bc y → x ≡ y
pairing a b c ab bc x y p q u v =
    let t = together_paired texts (notes_in (lines_of a)) (notes_in (lines_of b)) (notes_in (lines_of c)) p.notes u.notes q.notes v.notes p.together
    (subst (λ (ns : List (List ℕ)). Together not_after ns (notes_in (lines_of c)) q.notes) (notes_again a b ab p) q.together)
    u.together
    (subst (λ (ns : List (List ℕ)). Together not_after (notes_in (lines_of a)) ns v.notes) (notes_again b c bc u) v.together) in
    q.is ∙ ap₂ (λ (l : List ℕ) (ns : List (List ℕ)). l ++ joined ns) (common_again a b ab p) t ∙ sym v.is

-- ---- a copy with itself

insert_size : (x : List ℕ) (ys : List (List ℕ)) → length (joined (insert not_after x ys)) ≡ length x + 2 + length (joined ys)
insert_size x [] = omega (arith, length-append x (13 ∷ 10 ∷ []))
insert_size x (y ∷ ys) =
    by (λ l. length (joined l) ≡ length x + 2 + length (joined (y ∷ ys))) (not_after x y) (x ∷ y ∷ ys) (y ∷ insert not_after x ys)
    (λ _. omega (arith, length-append x (13 ∷ 10 ∷ joined (y ∷ ys))))
    (λ _. omega (arith, length-append y (13 ∷ 10 ∷ joined (insert not_after x ys)), length-append y (13 ∷ 10 ∷ joined ys), insert_size x ys))

into_size : (acc xs : List (List ℕ)) → length (joined (into not_after acc xs)) ≡ length (joined acc) + length (joined xs)
into_size acc [] = omega arith
into_size acc (x ∷ xs) = omega (arith, into_size (insert not_after x acc) xs, insert_size x acc, length-append x (13 ∷ 10 ∷ joined xs))

module _ (file : List ℕ) (a : StrictlyAccepted file) where
  -- its notes in order
  abbrev pub in_its_order : List ℕ
  in_its_order = merged_file file (in_order not_after (notes_in (lines_of file)))

  pub own_size : length in_its_order ≡ length file
  own_size =
      let c = copy seal.Strict file a.0 a.1 in
      let one = common_part (lines_of file) in
      let ns = notes_in (lines_of file) in
      omega (arith, length-append one (joined (in_order not_after ns)), length-append one (joined ns), into_size [] ns, ap length c.bytes)

  module _ (out : List ℕ) (r : Brought) (after : List ℕ) (w : FilesMerged file file out r after) where
    notes_own : w.notes ≡ in_order not_after (notes_in (lines_of file))
    notes_own = together_once texts (notes_in (lines_of file)) (notes_in (lines_of file)) w.notes (in_order not_after (notes_in (lines_of file))) w.together (together_self texts (notes_in (lines_of file)))

    said_own : merge_said file file (merged_file file w.notes) (length out) ≡ need (leb (length file) (length out)) (of_neither (number NoRoom) 0 0) λ _. merged (length file)
    said_own =
        let c = copy seal.Strict file a.0 a.1 in
        rw notes_own (said_rest file file a a (in_order not_after (notes_in (lines_of file))) (length out) ∙ rw (is_same_lem (common_part (lines_of file)), own_size, le-leb (length file) 16777216 c.most))

    own_good : length file ≤ length out → (r ≡ brought.Whole (length file)) × (after ≡ in_its_order ++ drop (length file) out)
    unfolding merge_told
    own_good h =
        let e : merge_said file file (merged_file file w.notes) (length out) ≡ merged (length file) = said_own ∙ rw (le-leb (length file) (length out) h) in (
          merge_one r (brought.Whole (length file)) (w.told ∙ e),
          w.bytes ∙ ap (λ (m : Merged). out_merged m (merged_file file w.notes) out) e ∙ rw (notes_own, own_size),
        )

    -- the copy made is at the output's front, and the rest is as lent
    pub own_makes : length file ≤ length out
        → (r ≡ brought.Whole (length file)) × (copied : List ℕ) × Makes file file copied × (length copied ≡ length file) × (after ≡ copied ++ drop (length file) out)
    own_makes h =
        let g = own_good h in
        let copied = in_its_order in
        let says : FilesMerged file file out (brought.Whole (length copied)) after = subst (λ (b : Brought). FilesMerged file file out b after) (g.0 ∙ ap brought.Whole (sym own_size)) w in
        let left : after ≡ copied ++ drop (length copied) out = g.1 ∙ ap (λ (n : ℕ). copied ++ drop n out) (sym own_size) in
        (g.0, copied, record { out = out; after = after; says = says; left = left }, own_size, g.1)

    pub own_short : length out < length file → (merge_told r ≡ of_neither (number NoRoom) 0 0) × (after ≡ out)
    own_short h =
        let e : merge_said file file (merged_file file w.notes) (length out) ≡ of_neither (number NoRoom) 0 0 = said_own ∙ rw (lt-leb (length file) (length out) h) in
        (w.told ∙ e, w.bytes ∙ ap (λ (m : Merged). out_merged m (merged_file file w.notes) out) e)

-- ---- copies that are not of one file

not_so : (one two file : List ℕ) (room : ℕ) → is_same one two ≡ true → of_neither (number NotSame) 0 0 ≡ Rest one two file room → ⊥
unfolding number
not_so one two file room s = rw s (go (leb (length file) 16777216) (leb (length file) room))
  where
    go : (t u : Bool) → of_neither 26 0 0 ≡ (need t (of_neither 2 0 0) λ _. need u (of_neither 18 0 0) λ _. merged (length file)) → ⊥
    go true true e = let z : ◌≡◌ {A = ℕ} 0 1 = cc in omega arith
    go true false e = let z : ◌≡◌ {A = ℕ} 26 18 = cc in omega (arith, z)
    go false u e = let z : ◌≡◌ {A = ℕ} 26 2 = cc in omega (arith, z)

-- where both are accepted
pub not_same_accepted : (first second out : List ℕ) (r : Brought) (after : List ℕ) → StrictlyAccepted first → StrictlyAccepted second → FilesMerged first second out r after
    → (merge_told r ≡ of_neither (number NotSame) 0 0) ↔ (common_part (lines_of first) ≡ common_part (lines_of second) → ⊥)
not_same_accepted first second out r after a b w = (there, here)
  where
    there : merge_told r ≡ of_neither (number NotSame) 0 0 → common_part (lines_of first) ≡ common_part (lines_of second) → ⊥
    there e s =
        not_so (common_part (lines_of first)) (common_part (lines_of second)) (merged_file first w.notes) (length out)
        (ap (is_same (common_part (lines_of first))) (sym s) ∙ is_same_lem (common_part (lines_of first)))
        (sym e ∙ w.told ∙ said_rest first second a b w.notes (length out))

    here : (common_part (lines_of first) ≡ common_part (lines_of second) → ⊥) → merge_told r ≡ of_neither (number NotSame) 0 0
    here n = go (is_same (common_part (lines_of first)) (common_part (lines_of second))) refl
      where
        go : (t : Bool) → is_same (common_part (lines_of first)) (common_part (lines_of second)) ≡ t → merge_told r ≡ of_neither (number NotSame) 0 0
        go true e = absurd (n (same_is (common_part (lines_of first)) (common_part (lines_of second)) e))
        go false e = w.told ∙ said_rest first second a b w.notes (length out) ∙ rw e

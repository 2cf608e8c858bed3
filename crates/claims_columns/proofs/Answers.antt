-- What is answered on the columns of a file, and the list afterwards, from the promise of the call. Assumes nothing.
use Rattle.rules.specs.declared.Refusal.{Refusal}
use Rattle.std.specs.Prelude.{None, Option, Result, Some}
use Prim.Native.Nat.{ℕ, ◌+◌, ◌*◌, ◌/◌, ◌≤◌, ◌<◌}
use mathlib.Core.Bool.{true}
use mathlib.Core.List.{List, []}
use mathlib.Core.Path.{◌≡◌, refl, sym, ap, subst, ◌∙◌}
use native.Mathlib.Omega.{arith}
use borrow.Author.Tests.{leb-true}
use lib.Dec.{leb}
use lib.IntN.{ℤ, pos}
use lib.ListN.{length, get_or, drop, length-append, length-drop}
use lib.Seq.{drop_at}
use Rattle.rules.specs.Choice.{given}
use Rattle.rules.specs.Families.{line_letter, layout_of, count_of, family_of}
use Rattle.rules.specs.Files.{verdict}
use Rattle.rules.specs.Refusals.{Said, says, refuses, value_or, result_told}
use Rattle.rules.specs.Split.{lines_of}
use Rattle.rules.specs.declared.Extra.TheVariants as extra
use Rattle.rules.specs.declared.Family.{Family}
use Rattle.rules.specs.declared.Family.TheVariants as family
use Rattle.rules.specs.declared.Flight.{Flight}
use Rattle.rules.specs.declared.Layouts.{Layouts}
use Rattle.rules.proofs.Inverse.{refuses_says, need_inv, given_inv, then_inv}
use Rattle.rules_laws.proofs.Splitting.{texts_of}
use Rattle.grammar.specs.Grammar.{Meets, lines_in, beginning, flight_of}
use Rattle.grammar.proofs.Demands.{accepted_as}
use Rattle.grammar.proofs.Reading.{lines_are}
use Rattle.track.proofs.Accepted.{texts_read, letters_counted}
use Rattle.columns_asked.specs.Asks.{names_of, are_codes, are_carried, places_of, places_said, asked_said, spotted}
use Rattle.columns_asked.proofs.Asking.{names_long, codes_few}
use Rattle.columns.specs.Columns.{columns_seal, Grid, rows_in, grid_room, grid_in, grid_of, grid_said, lines_said, numbers_in, over, FileColumned}
use Rattle.columns.specs.Lines.{Found}
use Rattle.columns.proofs.Columning.{found_long}
use Rattle.claims_columns.specs.Barogram.{of_family, IsCell}
use Rattle.claims_columns.proofs.Cells.{rows_cells}

-- an accepted file has met the grammar
pub met : (file : List ℕ) (f : Flight) → verdict columns_seal file None ≡ says f → (m : Meets columns_seal file) × (flight_of m ≡ f)
met file f e = let a = (accepted_as columns_seal file None f).0 e in (a.0, a.2)

-- its counts are those of the lines that the grammar finds
pub counts_are : (file : List ℕ) (m : Meets columns_seal file) (g : Family) → count_of g (flight_of m).counts ≡ beginning (line_letter g) (lines_in m.parts)
counts_are file m family.B = refl
counts_are file m (family.Extra extra.K) = refl
counts_are file m (family.Extra extra.N) = refl

-- ---- an answer that is no refusal

module _ (file : List ℕ) (letter : ℕ) (codes : List ℕ) (list : List ℤ) (r : Result ℕ Refusal) (after : List ℤ) (w : FileColumned file letter codes list r after) where
  pub record Stands (n : ℕ) : Type 0 where
    pub flight : Flight
    pub accepted : verdict columns_seal file None ≡ says flight
    pub family : Family
    pub of : family_of letter ≡ Some family
    pub are : are_codes codes ≡ true
    pub carried : are_carried (layout_of family flight.layouts) (names_of codes) ≡ true
    pub count : n ≡ count_of family flight.counts
    pub room : n * (length codes / 3) ≤ length list
    pub is : after ≡ over (rows_in family (layout_of family flight.layouts) (names_of codes) (lines_of file)) list

  pub stands : (n : ℕ) → result_told r ≡ says n → Stands n
  unfolding grid_said grid_of grid_in grid_room asked_said places_said
  stands n e =
      let a = then_inv (grid_said file letter codes (length list)) n _ (sym w.told ∙ e) in
      let b = then_inv (verdict columns_seal file None) a.0 _ a.1 in
      let f = b.0 in
      let c = given_inv (family_of letter) _ (says a.0) _ refuses_says b.2 in
      let g = c.0 in
      let d = then_inv (asked_said (layout_of g f.layouts) codes) a.0 _ c.2 in
      let x = need_inv (are_codes codes) _ (says d.0) _ refuses_says d.1 in
      let y = need_inv (are_carried (layout_of g f.layouts) (names_of codes)) _ (says d.0) _ refuses_says x.1 in
      let z = need_inv (leb (count_of g f.counts * (length codes / 3)) (length list)) _ (says a.0) _ refuses_says d.2 in
      let same : record { family = g; layout = layout_of g f.layouts; lines = count_of g f.counts } ≡ a.0 = cc in
      let count : n ≡ count_of g f.counts = let p : a.0.lines ≡ n = cc in sym p ∙ sym (ap (λ (q : Grid). q.lines) same) in
      let said : grid_said file letter codes (length list) ≡ says (record { family = g; layout = layout_of g f.layouts; lines = count_of g f.counts }) = a.1 ∙ ap says (sym same) in
      record {
        flight = f;
        accepted = b.1;
        family = g;
        of = c.1;
        are = x.0;
        carried = y.0;
        count = count;
        room = subst (λ (q : ℕ). q * (length codes / 3) ≤ length list) (sym count) (leb-true _ _ z.0);
        is = w.numbers ∙ ap (λ (s : Said Grid). over (numbers_in file codes s) list) said;
      }

  module _ (n : ℕ) (s : Stands n) where
    abbrev pub rows : List ℤ
    rows = rows_in s.family (layout_of s.family s.flight.layouts) (names_of codes) (lines_of file)

    pub rows_many : length rows ≡ n * (length codes / 3)
    rows_many =
        let f : Found file s.flight s.family codes (spotted (places_of (layout_of s.family s.flight.layouts) (names_of codes))) = record { accepted = s.accepted; few = codes_few codes s.are; carried = s.carried; spots = refl } in
        found_long file s.flight s.family codes _ f ∙ ap (λ (q : ℕ). q * (length codes / 3)) (sym s.count)

    pub stays : (length after ≡ length list) × (drop (n * (length codes / 3)) after ≡ drop (n * (length codes / 3)) list)
    stays =
        let h : length rows ≤ length list = omega (arith, rows_many, s.room) in (
          rw s.is (length-append rows (drop (length rows) list) ∙ rw (length-drop (length rows) list) (omega (arith, h))),
          rw s.is (drop_at rows (drop (length rows) list) (n * (length codes / 3)) rows_many ∙ ap (λ (q : ℕ). drop q list) rows_many),
        )

    -- of the grammar's reading of the file, and the family of the letter
    module _ (m : Meets columns_seal file) (g : Family) (o : family_of letter ≡ Some g) where
      flight_same : s.flight ≡ flight_of m
      flight_same =
          let v : says s.flight ≡ says (flight_of m) = sym s.accepted ∙ (accepted_as columns_seal file None (flight_of m)).1 (m, tt, refl) in
          ap (value_or (flight_of m)) v

      family_same : s.family ≡ g
      family_same = let v : Some s.family ≡ Some g = sym s.of ∙ o in ap (λ (x : Option Family). given x g λ y. y) v

      pub counts : (n ≡ beginning (line_letter g) (lines_in m.parts)) × (n * (length codes / 3) ≤ length list)
      counts =
          let c : n ≡ count_of g (flight_of m).counts = s.count ∙ ap (λ (x : Flight). count_of s.family x.counts) flight_same ∙ ap (λ (x : Family). count_of x (flight_of m).counts) family_same in
          (c ∙ counts_are file m g, s.room)

      abbrev At : Family → Layouts → List (List ℕ) → ℕ → ℕ → ℤ → Type 0
      At x ls ts i c z = IsCell x (layout_of x ls) (get_or (of_family x ts) i []) (get_or (names_of codes) c []) z

      pub cells : (i c : ℕ) → i < n → c < length codes / 3 → At g m.layouts (lines_in m.parts) i c (get_or after (i * (length codes / 3) + c) (pos 0))
      cells i c h k =
          let wide = names_long (length codes / 3) codes in
          let many : n ≡ beginning (line_letter s.family) (texts_of (lines_of file)) = s.count ∙ letters_counted columns_seal file s.flight s.accepted s.family in
          let x = rows_cells s.family s.flight.layouts (names_of codes) s.carried c (omega (arith, k, wide)) (lines_of file) (drop (length rows) list) i
          (texts_read columns_seal file s.flight s.accepted) (omega (arith, many, h)) in
          let y = subst (λ (q : ℕ). At s.family s.flight.layouts (texts_of (lines_of file)) i c (get_or (over rows list) (i * q + c) (pos 0))) wide x in
          let z = subst (λ (l : List ℤ). At s.family s.flight.layouts (texts_of (lines_of file)) i c (get_or l (i * (length codes / 3) + c) (pos 0))) (sym s.is) y in
          let u = subst (λ (f : Flight). At s.family f.layouts (texts_of (lines_of file)) i c (get_or after (i * (length codes / 3) + c) (pos 0))) flight_same z in
          let t = subst (λ (ts : List (List ℕ)). At s.family m.layouts ts i c (get_or after (i * (length codes / 3) + c) (pos 0))) (lines_are file m) u in
          subst (λ (x : Family). At x m.layouts (lines_in m.parts) i c (get_or after (i * (length codes / 3) + c) (pos 0))) family_same t

  -- ---- a refusal

  -- nothing changes
  pub leaves : (n l b : ℕ) → result_told r ≡ refuses n l b → after ≡ list
  leaves n l b e = by (grid_said file letter codes (length list)) refl (sym w.told ∙ e)
    where
      by : (s : Said Grid) → grid_said file letter codes (length list) ≡ s → lines_said s ≡ refuses n l b → after ≡ list
      by (says a) q k = absurd (refuses_says (sym k))
      by (refuses i j h) q k = w.numbers ∙ ap (λ (s : Said Grid). over (numbers_in file codes s) list) q

-- Each way out of the functions that say what is refused is a way through what is said. Assumes nothing.
use Rattle.std.specs.Prelude.{Err, None, Ok, Option, Result, Some}
use Prim.Native.Nat.{ℕ, ◌*◌, ◌/◌, ◌≤◌, ◌<◌}
use mathlib.Core.List.{List, []}
use mathlib.Core.Path.{◌≡◌, refl, sym, ap, subst, ◌∙◌}
use native.Mathlib.Nat.{mul-le-mul}
use native.Mathlib.Omega.{arith}
use borrow.Author.Tests.{le-leb, lt-leb}
use lib.IntN.{ℤ}
use lib.ListN.{length, replicate}
use lib.Seq.{sets, length-sets}
use Rattle.rules.specs.Choice.{part}
use Rattle.rules.specs.Families.{line_letter, layout_of, count_of, family_of}
use Rattle.rules.specs.Files.{verdict, CheckedTold}
use Rattle.rules.specs.Order.{no_flight}
use Rattle.rules.specs.Refusals.{Said, says, refuses, refusal, outcome, value_or, and_then, result_told}
use Rattle.rules.specs.Split.{lines_of}
use Rattle.rules.specs.declared.Checked.{Checked}
use Rattle.rules.specs.declared.Family.{Family}
use Rattle.rules.specs.declared.Flight.{Flight}
use Rattle.rules.specs.declared.Layout.{Layout}
use Rattle.rules.specs.declared.Reason.TheVariants as reason
use Rattle.rules.specs.declared.Refusal.{Refusal}
use Rattle.rules.proofs.Inverse.{refuses_says, need_inv}
use Rattle.file_lines.specs.Ends.{unplaced}
use Rattle.columns_asked.specs.Asks.{names_of, are_codes, are_carried, places_of, places_said, asked_said, spotted, PlacesAsked}
use Rattle.columns_asked.specs.declared.Places.{Places}
use Rattle.columns_asked.proofs.Asking.{codes_few}
use Rattle.columns.specs.Columns.{columns_seal, rows_in, Grid, grid_room, grid_in, grid_of, grid_said, GridTold, FileColumned}
use Rattle.columns.specs.Lines.{sizes_of, Sized, rows_by, Found}
use Rattle.columns.specs.declared.Sizes.{Sizes}
use Rattle.columns.proofs.Columning.{found_sized, found_rows, found_long, over_is}
use Rattle.columns.proofs.Filling.{letter_high}

-- a refusal as it was told, of another value
pub said_refused : {A B : Type 0} (s : Said A) (w : Refusal) → refusal w ≡ outcome s → (f : A → Said B) → and_then s f ≡ refusal w
said_refused (says v) w e f = absurd (refuses_says e)
said_refused {A} {B} (refuses n l b) w e f = ap relay (sym e)
  where
    relay : Said (Unit {0}) → Said B
    relay (says u) = refuses 0 0 0
    relay (refuses n' l' b') = refuses n' l' b'

-- the places in a layout that was found
pub asked_by : (l layout : Layout) (codes : List ℕ) (p : Places) → l ≡ layout → PlacesAsked l codes p → PlacesAsked layout codes p
asked_by l layout codes p e t = subst (λ (x : Layout). PlacesAsked x codes p) e t

module _ (file codes : List ℕ) (list : List ℤ) where
  -- refused: nothing changes
  pub refused_told : (s : Said Grid) (w : Refusal) → s ≡ refusal w → GridTold file codes s list (Err w) list
  unfolding result_told
  refused_told s w e = rw e (record { told = refl; numbers = refl })

  -- ---- the list has room, or is short

  module _ (f : Flight) (g : Family) where
    module _ (n : ℕ) (same : n ≡ count_of g f.counts) where
      pub store_short : (w : Refusal) → length list < n * (length codes / 3) → w ≡ unplaced reason.NoRoom → GridTold file codes (grid_room f g codes (length list)) list (Err w) list
      unfolding grid_room
      store_short w h e = refused_told _ w (rw (← same, lt-leb (n * (length codes / 3)) (length list) h, e))

      module _ (spots : List ℕ) (w : Found file f g codes spots) where
        -- the product does not wrap
        pub store_small : n ≤ 4294967295 → n * (length codes / 3) ≤ 4294967295 * 13
        store_small h = let k : length codes / 3 ≤ 13 = omega (arith, w.few) in mul-le-mul h k

        pub store_spots : length spots ≡ 26
        store_spots = rw w.spots (length-sets (replicate 26 0) 0 (places_of (layout_of g f.layouts) (names_of codes)))

        module _ (letter : ℕ) (l : letter ≡ line_letter g) (h : n * (length codes / 3) ≤ length list) where
          rows_fit : length (rows_in g (layout_of g f.layouts) (names_of codes) (lines_of file)) ≤ length list
          rows_fit = rw (found_long file f g codes spots w, ← same) h

          put_is : rows_by letter (part 0 (length codes / 3 * 2) spots) (lines_of file) ≡ rows_in g (layout_of g f.layouts) (names_of codes) (lines_of file)
          put_is = rw l (found_rows file f g codes spots w)

          pub store_ready : (sizes : Sizes) → sizes ≡ sizes_of f.layouts
              → (13 < letter) × Sized sizes (lines_of file) × (length (rows_by letter (part 0 (length codes / 3 * 2) spots) (lines_of file)) ≤ length list)
          store_ready sizes e = (rw l (letter_high g), rw e (found_sized file f g codes spots w), rw put_is rows_fit)

          pub store_fits : (after : List ℤ) → after ≡ sets list 0 (rows_by letter (part 0 (length codes / 3 * 2) spots) (lines_of file))
              → GridTold file codes (grid_room f g codes (length list)) list (Ok n) after
          unfolding grid_room result_told
          store_fits after e =
              let a = e ∙ ap (sets list 0) put_is ∙ over_is (rows_in g (layout_of g f.layouts) (names_of codes) (lines_of file)) list rows_fit in
              rw (← same, le-leb (n * (length codes / 3)) (length list) h) (record { told = refl; numbers = a })

    -- ---- where the columns stand

    module _ (p : Places) (t : PlacesAsked (layout_of g f.layouts) codes p) where
      pub asked_refused : (w : Refusal) → p.outcome ≡ Err w → GridTold file codes (grid_in f g codes (length list)) list (Err w) list
      unfolding grid_in result_told
      asked_refused w e = refused_told _ w (said_refused (asked_said (layout_of g f.layouts) codes) w (rw e at t.answer) _)

      asked_there : (s : Said (List ℕ)) → asked_said (layout_of g f.layouts) codes ≡ s → says tt ≡ outcome s → p.spots ≡ spotted (value_or [] s) → verdict columns_seal file None ≡ says f → Found file f g codes p.spots
      unfolding asked_said places_said
      asked_there (refuses n l b) q e k v = absurd (refuses_says (sym e))
      asked_there (says ps) q e k v =
          let a = need_inv (are_codes codes) _ (says ps) _ refuses_says q in
          let b = need_inv (are_carried (layout_of g f.layouts) (names_of codes)) _ (says ps) _ refuses_says a.1 in
          record { accepted = v; few = codes_few codes a.0; carried = b.0; spots = k ∙ ap spotted (sym (ap (value_or []) b.1)) }

      pub asked_found : p.outcome ≡ (Ok tt) → verdict columns_seal file None ≡ says f → Found file f g codes p.spots
      unfolding result_told
      asked_found e v = asked_there (asked_said (layout_of g f.layouts) codes) refl (rw e at t.answer) t.spots v

      pub asked_told_lem : p.outcome ≡ (Ok tt) → (r : Result ℕ Refusal) (after : List ℤ) → GridTold file codes (grid_room f g codes (length list)) list r after → GridTold file codes (grid_in f g codes (length list)) list r after
      unfolding grid_in result_told
      asked_told_lem e r after q = by (asked_said (layout_of g f.layouts) codes) (rw e at t.answer)
        where
          by : (s : Said (List ℕ)) → says tt ≡ outcome s → GridTold file codes (and_then s λ _. grid_room f g codes (length list)) list r after
          by (says ps) k = q
          by (refuses n l b) k = absurd (refuses_says (sym k))

  -- ---- the family

  module _ (f : Flight) (letter : ℕ) (t : Option Family) (e : t ≡ family_of letter) where
    pub family_none : (w : Refusal) → t ≡ None → w ≡ unplaced reason.BadValue → GridTold file codes (grid_of f letter codes (length list)) list (Err w) list
    unfolding grid_of
    family_none w h k = refused_told _ w (rw (← e, h, k))

    pub family_there : (g : Family) → t ≡ Some g → (r : Result ℕ Refusal) (after : List ℤ) → GridTold file codes (grid_in f g codes (length list)) list r after → GridTold file codes (grid_of f letter codes (length list)) list r after
    unfolding grid_of
    family_there g h r after q = rw (← e, h) q

  -- ---- the check

  module _ (letter : ℕ) (c : Checked) (t : CheckedTold (verdict columns_seal file None) c) where
    pub check_refused : (w : Refusal) → c.outcome ≡ Err w → FileColumned file letter codes list (Err w) list
    unfolding grid_said result_told
    check_refused w e = refused_told _ w (said_refused (verdict columns_seal file None) w (rw e at t.answer) _)

    verdict_says : (s : Said Flight) → says tt ≡ outcome s → c.flight ≡ value_or no_flight s → s ≡ says c.flight
    verdict_says (says f) e k = ap says (sym k)
    verdict_says (refuses n l b) e k = absurd (refuses_says (sym e))

    pub check_accepted : c.outcome ≡ (Ok tt) → verdict columns_seal file None ≡ says c.flight
    unfolding result_told
    check_accepted e = verdict_says (verdict columns_seal file None) (rw e at t.answer) t.flight

    pub check_told : c.outcome ≡ (Ok tt) → (r : Result ℕ Refusal) (after : List ℤ) → GridTold file codes (grid_of c.flight letter codes (length list)) list r after → FileColumned file letter codes list r after
    unfolding grid_said
    check_told e r after q = rw (check_accepted e) q

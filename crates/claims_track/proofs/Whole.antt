-- The records of a track in the list, put together: each is its B line's, they are in order, and the line is found by table and by steps. Assumes nothing.
use Rattle.rules.specs.declared.Refusal.{Refusal}
use Rattle.std.specs.Prelude.{None, Result, Some}
use Prim.Native.Nat.{ℕ, ◌+◌, ◌<◌}
use mathlib.Core.List.{List, [], ◌∷◌, ◌++◌}
use mathlib.Core.Path.{◌≡◌, refl, sym, ◌∙◌, ap}
use native.Mathlib.Nat.{zero-add}
use native.Mathlib.Omega.{arith}
use lib.Dec.{leb}
use lib.ListN.{length, get_or, take, drop, get_or-append, length-append, length-drop}
use lib.Seq.{take-append_seam, drop-append_seam}
use Rattle.rules.specs.Files.{verdict, good_lines, table_after}
use Rattle.rules.specs.Order.{start}
use Rattle.rules.specs.Reads.{fix_said}
use Rattle.rules.specs.Refusals.{number, says, refuses, result_told}
use Rattle.rules.specs.Split.{lines_of, bounds_of, line_text}
use Rattle.rules.specs.Walk.{set_out}
use Rattle.rules.specs.declared.Flight.{Flight}
use Rattle.rules.specs.declared.Layout.{Layout}
use Rattle.rules.specs.declared.Reason.TheVariants as reason
use Rattle.rules.proofs.Inverse.{refuses_says, need_inv}
use Rattle.rules_laws.proofs.Counted.{tabled, table_adds}
use Rattle.rules_laws.proofs.Splitting.{texts_of}
use Rattle.rules_laws.proofs.Walking.{both_start}
use Rattle.grammar.specs.Grammar.{Meets, lines_in, flight_of, beginning}
use Rattle.grammar.proofs.Demands.{accepted_as}
use Rattle.grammar.proofs.Reading.{lines_are}
use Rattle.track_rules.specs.Track.{zero_record}
use Rattle.track_rules.specs.Track.{track_seal, track_of}
use Rattle.track_rules.specs.declared.Record.{Record}
use Rattle.track.specs.Tracks.{FileTracked}
use Rattle.track.proofs.Accepted.{texts_read}
use Rattle.claims_track.specs.Mapped.{IsRecord, Ordered, Reached}
use Rattle.claims_track.proofs.Answers.{Stands, stands}
use Rattle.claims_track.proofs.Days.{walked_first}
use Rattle.claims_track.proofs.Ordering.{in_order}
use Rattle.claims_track.proofs.Records.{Good, record_at}
use Rattle.claims_track.proofs.Ways as ways

-- an accepted file's lines pass and read
pub all_good : (file : List ℕ) (f : Flight) → verdict track_seal file None ≡ says f → Good track_seal f.layouts f start (lines_of file)
unfolding verdict
all_good file f e =
    let a = need_inv (leb 1 (length file)) _ (says f) _ refuses_says e in
    let b = need_inv (leb (length file) 16777216) _ (says f) _ refuses_says a.1 in
    record { runs = b.1; reads = texts_read track_seal file f e }

module _ (file : List ℕ) (list : List Record) (r : Result ℕ Refusal) (after : List Record) (w : FileTracked file list r after) (n : ℕ) (e : result_told r ≡ says n) where
  s : Stands file list r after w n
  s = stands file list r after w n e

  abbrev layout : Layout
  layout = s.flight.layouts.b

  abbrev track : List Record
  track = track_of file layout

  -- record i stands in the list
  in_list : (i : ℕ) → i < n → get_or after i zero_record ≡ get_or track i zero_record
  in_list i h = ap (λ (l : List Record). get_or l i zero_record) s.is ∙ get_or-append track (drop n list) zero_record i (omega (arith, s.count, h))

  found : (i : ℕ) → i < n → IsRecord layout (texts_of (lines_of file)) i (get_or after i zero_record)
  unfolding beginning
  found i h =
      let x : IsRecord layout (texts_of (lines_of file)) (0 + i) (get_or track i zero_record) = record_at track_seal s.flight.layouts s.flight (lines_of file) [] set_out start (all_good file s.flight s.accepted) walked_first i (omega (arith, s.count, h)) in
      rw (in_list i h) (rw zero-add at x)

  -- what the grammar finds of the file is what the check says
  flight_is : (m : Meets track_seal file) → flight_of m ≡ s.flight
  flight_is m =
      let a = (accepted_as track_seal file None (flight_of m)).1 (m, tt, refl) in
      let b = s.accepted in
      let z : says (flight_of m) ≡ says s.flight = sym a ∙ b in
      cc

  pub records : (m : Meets track_seal file) (i : ℕ) → i < n → IsRecord m.layouts.b (lines_in m.parts) i (get_or after i zero_record)
  records m i h =
      let l : layout ≡ m.layouts.b = ap (λ (x : Flight). x.layouts.b) (sym (flight_is m)) in
      rw (lines_are file m, l) at (found i h)

  pub rest : (length after ≡ length list) × (drop n after ≡ drop n list)
  rest =
      let a : length after ≡ length list = ap length s.is ∙ length-append track (drop n list) ∙ omega (arith, s.count, s.fits, length-drop n list) in
      let d : drop (length track) (track ++ drop n list) ≡ drop n list = drop-append_seam track (drop n list) in
      (a, ap (drop n) s.is ∙ (rw s.count at d))

  pub ordered : Ordered (take n after)
  ordered =
      let t : take (length track) (track ++ drop n list) ≡ track = take-append_seam track (drop n list) in
      let u : take n after ≡ track = ap (take n) s.is ∙ (rw s.count at t) in
      rw u (in_order track_seal s.flight.layouts s.flight (lines_of file) set_out start (all_good file s.flight s.accepted) both_start).1

  -- with a table the check says the same, where it says anything
  same_flight : (table : List ℕ) (f : Flight) → verdict track_seal file (Some (length table)) ≡ says f → f ≡ s.flight
  unfolding tabled good_lines
  same_flight table f g =
      let t : tabled (length table) (says s.flight) ≡ says f = ap (tabled (length table)) (sym s.accepted) ∙ sym (table_adds track_seal file (length table)) ∙ g in
      let n = need_inv (leb s.flight.lines (length table)) (refuses (number reason.TableFull) (length table + 1) 0) (says f) (λ _. says s.flight) refuses_says t in
      let z : says s.flight ≡ says f = n.1 in
      cc

  pub by_table : (m : Meets track_seal file) (table : List ℕ) (f : Flight) → verdict track_seal file (Some (length table)) ≡ says f → (i : ℕ)
      → (x : IsRecord m.layouts.b (lines_in m.parts) i (get_or after i zero_record))
      → (line_text file (bounds_of file (table_after track_seal file table) (get_or after i zero_record).line) ≡ x.line) × (fix_said x.line f.layouts.b ≡ says (get_or after i zero_record).fix)
  by_table m table f g i x =
      let o : texts_of (lines_of file) ≡ x.before ++ (x.line ∷ x.after) = lines_are file m ∙ x.order in
      let l : f.layouts.b ≡ m.layouts.b = ap (λ (x : Flight). x.layouts.b) (same_flight table f g ∙ sym (flight_is m)) in
      (rw x.number (ways.by_table track_seal file table f g x.before x.line x.after o), rw l x.reads)

  pub by_steps : (m : Meets track_seal file) (i : ℕ) (x : IsRecord m.layouts.b (lines_in m.parts) i (get_or after i zero_record))
      → Reached file 0 (get_or after i zero_record).line x.line
  by_steps m i x =
      let o : texts_of (lines_of file) ≡ x.before ++ (x.line ∷ x.after) = lines_are file m ∙ x.order in
      rw x.number (ways.by_steps file x.before x.line x.after o)

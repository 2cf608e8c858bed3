-- What is answered on the track and on the summary of a file with added columns, and the lists afterwards, from the records in their pairs. Assumes nothing.
use Rattle.rules.specs.declared.Refusal.{Refusal}
use Rattle.std.specs.Prelude.{None, Result}
use Prim.Native.Nat.{ℕ, ◌<◌}
use mathlib.Core.Bool.{Bool, true, false}
use mathlib.Core.List.{List, ◌++◌}
use mathlib.Core.Path.{◌≡◌, refl, sym, ◌∙◌, ap, ap₂}
use native.Mathlib.Omega.{arith}
use lib.IntN.{ℤ}
use lib.ListN.{length, get_or, drop, get_or-append}
use Rattle.rules.specs.Files.{verdict}
use Rattle.rules.specs.Fixes.{plain, plain_time, plain_position}
use Rattle.rules.specs.Layouts.{carries}
use Rattle.rules.specs.Refusals.{says, refuses, result_told}
use Rattle.rules.specs.Split.{lines_of}
use Rattle.rules.specs.declared.Family.TheVariants as family
use Rattle.rules.specs.declared.FinePosition.{FinePosition}
use Rattle.rules.specs.declared.Flight.{Flight}
use Rattle.rules.specs.declared.Layout.{Layout}
use Rattle.grammar_wider.specs.Before.{CountAsBefore, ReadsAsBefore, put_in}
use Rattle.grammar_wider.specs.Wider.{Wider}
use Rattle.grammar_wider.proofs.Lists.{pair_at}
use Rattle.rules_only.proofs.Told.{result_one}
use Rattle.track_rules.specs.Track.{zero_record, track_seal, track_of}
use Rattle.track_rules.specs.declared.Record.{Record}
use Rattle.track.specs.Tracks.{FileTracked}
use Rattle.track.proofs.Tracking.{counted_all}
use Rattle.summary_reckon.specs.Summary.{updated}
use Rattle.claims_track.proofs.Answers.{stands, refused_leaves}
use Rattle.claims_track.proofs.Whole as whole
use Rattle.claims_notes.proofs.Tracks as tracks
use Rattle.claims_notes.proofs.Summaries.{SameTold, others_summed}
use Rattle.claims_notes.proofs.Summaries as summaries
use Rattle.claims_steady.specs.Steady.{RecordAsBefore, ListAsBefore, TrackAsBefore, SummaryAsBefore}
use Rattle.claims_steady.proofs.Records.{pairs_map, records_paired}

-- ---- a record by its plain counts

plain_none : (n : ℕ) → plain n 0 ≡ n
unfolding plain
plain_none n = omega arith

-- a count as before has the old plain count
same_plain : (old new : Layout) (x count decimals count' decimals' : ℕ) → CountAsBefore old new x count decimals count' decimals' → plain count' decimals' ≡ plain count decimals
same_plain old new x count decimals count' decimals' h = by (carries old x) refl
  where
    by : (b : Bool) → carries old x ≡ b → plain count' decimals' ≡ plain count decimals
    by true e = ap₂ plain (h.kept e).0 (h.kept e).1
    by false e = (h.added e).1 ∙ sym (ap (plain count) (h.added e).0 ∙ plain_none count)

abbrev plainly : FinePosition → FinePosition
plainly p = record { count = plain p.count p.decimals; letter = p.letter; decimals = 0 }

-- without its line number, with plain counts alone
abbrev plain_record : Record → Record
plain_record r = record {
  line = 0;
  day = r.day;
  fix = record {
    time = record { count = plain_time r.fix; decimals = 0 };
    lat = plainly r.fix.lat;
    lon = plainly r.fix.lon;
    validity = r.fix.validity;
    pressure = r.fix.pressure;
    gnss = r.fix.gnss;
  };
}

plainly_same : (p : FinePosition) → plain_position (plainly p) ≡ plain_position p
unfolding plain_position
plainly_same p = rw (plain_none (plain p.count p.decimals))

told_plainly : (r : Record) → SameTold r (plain_record r)
told_plainly r = record {
  day = refl;
  time = plain_none (plain_time r.fix);
  height = refl;
  mark = refl;
  lat = rw (plainly_same r.fix.lat);
  lon = rw (plainly_same r.fix.lon);
}

none_plainly : plain_record zero_record ≡ zero_record
unfolding plain
none_plainly = refl

same_plainly : (old new : Layout) (more : ℕ) (r r' : Record) → RecordAsBefore old new more r r' → plain_record r' ≡ plain_record r
same_plainly old new more r r' x =
    let f = x.fix in
    let t = same_plain old new _ _ _ _ _ f.time in
    let a = same_plain old new _ _ _ _ _ f.lat in
    let o = same_plain old new _ _ _ _ _ f.lon in
    rw (x.day, t, a, f.lat_letter, o, f.lon_letter, f.validity, f.pressure, f.gnss)

-- ---- two files

module _ (file file' : List ℕ) (f f' : Flight) (p : verdict track_seal file None ≡ says f) (q : verdict track_seal file' None ≡ says f') (wider : Wider (lines_of file) (lines_of file'))
    (w : ReadsAsBefore file file' f f' (put_in wider)) where
  abbrev old : Layout
  old = f.layouts.b

  abbrev new : Layout
  new = f'.layouts.b

  abbrev more : ℕ
  more = put_in wider

  at_place : (n : ℕ) → n < length (track_of file old) → RecordAsBefore old new more (get_or (track_of file old) n zero_record) (get_or (track_of file' new) n zero_record)
  at_place n h = pair_at (RecordAsBefore old new more) zero_record (track_of file old) (track_of file' new) n (records_paired file file' f f' p q wider w) h

  pub track_before : TrackAsBefore file file' f f' more
  track_before = record {
    said = tracks.answers_alike file f file' f' p q (w.counts family.B);
    count = counted_all file f p;
    count' = counted_all file' f' q ∙ w.counts family.B;
    records = λ n h. at_place n (omega (arith, h, counted_all file f p));
  }

  pub summary_before : SummaryAsBefore file file'
  summary_before =
      let rs = track_of file old in
      let rs' = track_of file' new in
      let e : (k : ℕ) (list : List ℤ) → updated k rs' list ≡ updated k rs list = λ k list.
      others_summed plain_record told_plainly none_plainly k list rs'
      ∙ ap (λ (l : List Record). updated k l list) (pairs_map (RecordAsBefore old new more) plain_record (same_plainly old new more) rs rs' (records_paired file file' f f' p q wider w))
      ∙ sym (others_summed plain_record told_plainly none_plainly k list rs) in
      record {
        said = summaries.answers_alike file f file' f' p q (w.counts family.B);
        after = λ k list. summaries.lists_alike file f file' f' p q (w.counts family.B) k list (e k list);
      }

  -- ---- the answers on the track

  module _ (list : List Record) (r r' : Result ℕ Refusal) (after after' : List Record) (a : FileTracked file list r after) (b : FileTracked file' list r' after') where
    pub same_answer : r' ≡ r
    same_answer = result_one r' r (b.told ∙ track_before.said (length list) ∙ sym a.told)

    pub refused_alike : (n l k : ℕ) → result_told r ≡ refuses n l k → after' ≡ after
    refused_alike n l k e = refused_leaves file' list r' after' b n l k (ap result_told same_answer ∙ e) ∙ sym (refused_leaves file list r after a n l k e)

    module _ (n : ℕ) (e : result_told r ≡ says n) where
      e' : result_told r' ≡ says n
      e' = ap result_told same_answer ∙ e

      -- the record at a place of the list is the track's
      in_list : (length (track_of file old) ≡ n) × ((i : ℕ) → i < n → get_or after i zero_record ≡ get_or (track_of file old) i zero_record)
      in_list =
          let s = stands file list r after a n e in
          let x : s.flight ≡ f = let v : says s.flight ≡ says f = sym s.accepted ∙ p in cc in
          let c : length (track_of file old) ≡ n = rw x at s.count in
          let y : after ≡ track_of file old ++ drop n list = rw x at s.is in
          (c, λ i h. ap (λ (l : List Record). get_or l i zero_record) y ∙ get_or-append (track_of file old) (drop n list) zero_record i (omega (arith, c, h)))

      in_list' : (i : ℕ) → i < n → get_or after' i zero_record ≡ get_or (track_of file' new) i zero_record
      in_list' =
          let s = stands file' list r' after' b n e' in
          let x : s.flight ≡ f' = let v : says s.flight ≡ says f' = sym s.accepted ∙ q in cc in
          let c : length (track_of file' new) ≡ n = rw x at s.count in
          let y : after' ≡ track_of file' new ++ drop n list = rw x at s.is in
          λ i h. ap (λ (l : List Record). get_or l i zero_record) y ∙ get_or-append (track_of file' new) (drop n list) zero_record i (omega (arith, c, h))

      pub given_alike : ListAsBefore old new more n after after'
      given_alike =
          let t = whole.rest file list r after a n e in
          let t' = whole.rest file' list r' after' b n e' in
          record {
            long = t'.0 ∙ sym t.0;
            records = λ i h. rw (in_list.1 i h, in_list' i h) (at_place i (omega (arith, h, in_list.0)));
            rest = t'.1 ∙ sym t.1;
          }

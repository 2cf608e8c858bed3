-- A body line by its kind: where it is surely good, the check judges it good, and leaves the numbers that the run has. Assumes nothing.
use Rattle.rules.specs.declared.Refusal.{Refusal}
use Rattle.std.specs.Result.{result_ok}
use Rattle.std.specs.Prelude.{Err, None, Ok, Option, Result, Some, ⊤}
use Prim.Native.Nat.{ℕ, ◌+◌, ◌-◌, ◌≤◌, ◌<◌}
use mathlib.Core.Bool.{true, false}
use mathlib.Core.List.{List, ◌∷◌, ◌++◌}
use mathlib.Core.Path.{◌≡◌, refl, sym, ap, ◌∙◌}
use native.Mathlib.Omega.{arith}
use borrow.Author.Tests.{le-leb}
use lib.ListN.{length, get_or, take, drop, length-take, length-drop, take-append-drop}
use lib.Seq.{drop-drop, get_or-take, get_or-drop}
use Rattle.rules.specs.Families.{first_start, line_letter, layout_of, one_more}
use Rattle.rules.specs.Roles.{after_h, in_body, stage_after}
use Rattle.rules.specs.Choice.{on}
use Rattle.rules.specs.Layouts.{entries_of, line_length}
use Rattle.rules.specs.Lines.{kind_of, columned_line, e_line, f_line, shaped}
use Rattle.rules.specs.Order.{judge, order_of, fits_declaration, ruled, timed, passing, is_back, moved, counted, clocked}
use Rattle.rules.specs.Refusals.{says, result_told}
use Rattle.rules.specs.Split.{lines_of}
use Rattle.rules.specs.declared.Counts.{Counts}
use Rattle.rules.specs.declared.Family.{Family}
use Rattle.rules.specs.declared.Extra.TheVariants as extra
use Rattle.rules.specs.declared.Family.TheVariants as family
use Rattle.rules.specs.declared.State.{State}
use Rattle.rules_laws.proofs.Splitting.{lines_of_line}
use Rattle.rules_laws.proofs.LineEnds.{rest}
use Rattle.byte_sweep.specs.Plain.{is_mild, every}
use Rattle.byte_sweep.proofs.Laws.{mild_text}
use Rattle.check_sure.specs.Sure.{pattern_of, sure_time}
use Rattle.check_sure.proofs.Said.{SureParts, parts, sure_columned}
use Rattle.file_lines.proofs.Cuts.{Cut}
use Rattle.check_counts.specs.Counting.{more_of}
use Rattle.check_counts.proofs.Counting.{are_few_lem, few_more}
use Rattle.check_places.proofs.Good.{Good}
use Rattle.check_clock.specs.Times.{onward, AfterTime}
use Rattle.check_clock.specs.declared.Pace.{Pace}
use Rattle.check_clock.proofs.Moving.{timed_is}
use Rattle.check_ahead.specs.Paces.{paced, Going, Known, Judges, JudgedAs, MildAs, Takes, TakenAs}

-- ---- a line judged

module _ (l : List ℕ) (s : State) (points : s.points ≡ 0) (low : after_h ≤ s.stage) (high : s.stage ≤ in_body) (long : 1 ≤ length l) where
  judged_columned : (f : Family) (t : ℕ) → get_or l 0 0 ≡ line_letter f → columned_line f (layout_of f s.flight.layouts) l ≡ says t → is_back (passing s.clock t) ≡ false
      → judge l s ≡ says (clocked t (counted f (moved in_body s)))
  unfolding judge on kind_of order_of fits_declaration stage_after ruled timed
  judged_columned family.B t k read forth = rw (le-leb 1 (length l) long, k, points, le-leb after_h s.stage low, le-leb s.stage in_body high, read, forth)
  judged_columned (family.Extra extra.K) t k read forth = rw (le-leb 1 (length l) long, k, points, le-leb after_h s.stage low, le-leb s.stage in_body high, read, forth)
  judged_columned (family.Extra extra.N) t k read forth = rw (le-leb 1 (length l) long, k, points, le-leb after_h s.stage low, le-leb s.stage in_body high, read, forth)

  judged_event : (t : ℕ) → get_or l 0 0 ≡ 69 → e_line l ≡ says t → is_back (passing s.clock t) ≡ false → judge l s ≡ says (clocked t (moved in_body s))
  unfolding judge on kind_of order_of fits_declaration stage_after ruled timed
  judged_event t k read forth = rw (le-leb 1 (length l) long, k, points, le-leb after_h s.stage low, le-leb s.stage in_body high, read, forth)

  judged_satellites : (t : ℕ) → get_or l 0 0 ≡ 70 → f_line l ≡ says t → is_back (passing s.clock t) ≡ false → judge l s ≡ says (clocked t (moved in_body s))
  unfolding judge on kind_of order_of fits_declaration stage_after ruled timed
  judged_satellites t k read forth = rw (le-leb 1 (length l) long, k, points, le-leb after_h s.stage low, le-leb s.stage in_body high, read, forth)

  judged_remark : get_or l 0 0 ≡ 76 → shaped 1 99 false l ≡ says tt → judge l s ≡ says (moved in_body s)
  unfolding judge on kind_of order_of fits_declaration stage_after ruled
  judged_remark k read = rw (le-leb 1 (length l) long, k, points, le-leb s.stage in_body high, le-leb after_h s.stage low, read)

-- ---- a line taken by numbers

-- what is said of the numbers that a run goes on with, where it goes on
pub by_taken : {l : List ℕ} {st : State} {p : Pace} {next : ℕ} (r : Option Pace) → ((q : Pace) → r ≡ Some q → Judges l st p next q) → JudgedAs l st p next r
by_taken (Some q) h = h q refl
by_taken None h = tt

by_mild : {l : List ℕ} {st : State} {p : Pace} {next : ℕ} (r : Option Pace) → ((q : Pace) → r ≡ Some q → Judges l st p next q × (every is_mild l ≡ true)) → MildAs l st p next r
by_mild (Some q) h = h q refl
by_mild None h = tt

module _ (l : List ℕ) (st : State) (p : Pace) (next : ℕ) (g : Going st p) (long : 1 ≤ length l) where
  pub judged_good : (f : Family) (size : ℕ) (pattern : List ℕ) (t : ℕ) → Known f st size pattern → get_or l 0 0 ≡ line_letter f → SureParts f l size pattern t → is_back (passing p.clock t) ≡ false
      → Judges l st p next (onward p next t (one_more f p.counts))
  judged_good f size pattern t k e s w =
      let layout = layout_of f st.flight.layouts in
      let m : SureParts f l (line_length (first_start f) layout) (pattern_of (entries_of layout)) t = rw (k.sized, k.columned) at s in
      record { judged = judged_columned l (paced st p) g.points g.low g.high long f t e (sure_columned f layout l t k.told m) w; at = refl; stage = refl }

  pub columned_told_lem : (f : Family) (size : ℕ) (pattern : List ℕ) (time : Option ℕ) (r : Option Pace) → Known f st size pattern → get_or l 0 0 ≡ line_letter f
      → time ≡ sure_time f l size pattern → (counts : Counts) → counts ≡ more_of f p.counts → AfterTime time p next counts r → MildAs l st p next r
  columned_told_lem f size pattern time r k e s counts n a =
      by_mild r λ q h.
      let few = (timed_is time p q next counts r a h).room.few in
      let more : counts ≡ one_more f p.counts = n ∙ few_more f p.counts (are_few_lem p.counts few) in
      let d = timed_is time p q next (one_more f p.counts) r (rw more at a) h in
      let m = parts f l size pattern d.t (sym s ∙ d.is) in
      (rw d.numbers (judged_good f size pattern d.t k e m d.forth), m.mild)

  -- a line with no columns that the check judges so
  other : (t : ℕ) (r : Option Pace) → (is_back (passing p.clock t) ≡ false → judge l (paced st p) ≡ says (clocked t (moved in_body (paced st p)))) → AfterTime (Some t) p next p.counts r → JudgedAs l st p next r
  other t r j a =
      by_taken r λ q h.
      let d = timed_is (Some t) p q next p.counts r a h in
      let e : d.t ≡ t = cc d.is in
      let w : is_back (passing p.clock t) ≡ false = rw e at d.forth in
      rw (d.numbers, e) (record { judged = j w; at = refl; stage = refl })

  pub event_told : (t : ℕ) (read : Result ℕ Refusal) (r : Option Pace) → get_or l 0 0 ≡ 69 → result_told read ≡ e_line l → read ≡ Ok t → AfterTime (Some t) p next p.counts r → JudgedAs l st p next r
  unfolding result_told
  event_told t read r e s q a = other t r (judged_event l (paced st p) g.points g.low g.high long t e (sym s ∙ rw q)) a

  pub satellites_told : (t : ℕ) (read : Result ℕ Refusal) (r : Option Pace) → get_or l 0 0 ≡ 70 → result_told read ≡ f_line l → read ≡ Ok t → AfterTime (Some t) p next p.counts r → JudgedAs l st p next r
  unfolding result_told
  satellites_told t read r e s q a = other t r (judged_satellites l (paced st p) g.points g.low g.high long t e (sym s ∙ rw q)) a

  pub remark_told : (read : Result ⊤ Refusal) (r : Option Pace) → get_or l 0 0 ≡ 76 → result_told read ≡ shaped 1 99 false l → read ≡ (Ok tt) → AfterTime (Some p.clock) p next p.counts r → JudgedAs l st p next r
  unfolding result_told
  remark_told read r e s q a =
      other p.clock r (λ w. judged_remark l (paced st p) g.points g.low g.high long e (sym s ∙ rw q)) a

-- what was read, where it is asked for as an option
pub ok_is : {T E : Type 0} (r : Result T E) (t : T) → result_ok r ≡ Some t → r ≡ Ok t
ok_is (Ok v) t e = cc
ok_is (Err w) t e = let z : ◌≡◌ {A = ℕ} 0 1 = cc in absurd (omega arith)

-- ---- a line cut off

first_byte : (f : List ℕ) (at e : ℕ) → at < e → get_or (take (e - at) (drop at f)) 0 0 ≡ get_or f at 0
first_byte f at e h =
    let n : at + 0 ≡ at = omega arith in
    get_or-take (e - at) (drop at f) 0 0 (omega arith) ∙ get_or-drop at f 0 0 ∙ ap (λ (k : ℕ). get_or f k 0) n

pub first_is : (f : List ℕ) (at e letter : ℕ) → at < e → get_or f at 0 ≡ letter → get_or (take (e - at) (drop at f)) 0 0 ≡ letter
first_is f at e letter h k = first_byte f at e h ∙ k

pub cut_long : (f : List ℕ) (at e : ℕ) → at < e → e ≤ length f → 1 ≤ length (take (e - at) (drop at f))
cut_long f at e h w = simp (length-take, length-drop) (omega arith)

pub taken_by : (f : List ℕ) (st : State) (p : Pace) (e : ℕ) (r : Option Pace) → Cut f p.at e → JudgedAs (take (e - p.at) (drop p.at f)) st p (e + 2) r → TakenAs f st p r
taken_by f st p e (Some q) k j =
    let long : p.at + length (take (e - p.at) (drop p.at f)) ≡ e = simp (length-take, length-drop) (omega (arith, k.start, k.fits)) in
    record {
      passed = record {
        text = take (e - p.at) (drop p.at f);
        lines = rw j.at k.lines;
        place = rw (j.at, long);
        within = rw j.at k.fits;
        judged = j.judged;
      };
      stage = j.stage;
    }
taken_by f st p e None k j = tt

-- a CR LF behind a mild text ends its line
module _ (f : List ℕ) (at size : ℕ) (w : at + size + 2 ≤ length f) (cr : get_or f (at + size) 0 ≡ 13) (lf : get_or f (at + size + 1) 0 ≡ 10) where
  tail : drop (at + size) f ≡ 13 ∷ 10 ∷ drop (at + size + 2) f
  tail =
      let n : at + size + 1 + 1 ≡ at + size + 2 = omega arith in
      rest f (at + size) (omega arith) ∙ rw (rest f (at + size + 1) (omega arith), n, cr, lf)

  bytes : drop at f ≡ take size (drop at f) ++ 13 ∷ 10 ∷ drop (at + size + 2) f
  bytes = sym (take-append-drop size (drop at f)) ∙ ap (λ (x : List ℕ). take size (drop at f) ++ x) (drop-drop size at f ∙ tail)

  pub cut_mild : every is_mild (take (at + size - at) (drop at f)) ≡ true → Cut f at (at + size)
  cut_mild m =
      let n : at + size - at ≡ size = omega arith in
      record {
        start = omega arith;
        fits = w;
        lines = rw n (ap lines_of bytes ∙ lines_of_line (take size (drop at f)) (drop (at + size + 2) f) (mild_text (take size (drop at f)) (rw n at m)));
      }

pub taken_mild : (f : List ℕ) (st : State) (p : Pace) (size : ℕ) (r : Option Pace) → p.at + size + 2 ≤ length f → get_or f (p.at + size) 0 ≡ 13 → get_or f (p.at + size + 1) 0 ≡ 10
    → MildAs (take (p.at + size - p.at) (drop p.at f)) st p (p.at + size + 2) r → TakenAs f st p r
taken_mild f st p size (Some q) w cr lf j = taken_by f st p (p.at + size) (Some q) (cut_mild f p.at size w cr lf j.1) j.0
taken_mild f st p size None w cr lf j = tt

-- a line that is told to be good by its places is passed
pub good_taken : (file : List ℕ) (st : State) (p : Pace) (f : Family) (size : ℕ) (pattern : List ℕ) (t : ℕ) → Going st p → Known f st size pattern → 1 ≤ size
    → Good f (drop p.at file) size pattern t → is_back (passing p.clock t) ≡ false → Takes file st p (onward p (p.at + size + 2) t (one_more f p.counts))
good_taken file st p f size pattern t g k one d w =
    let l = take size (drop p.at file) in
    let n : p.at + size - p.at ≡ size = omega arith in
    let m : p.at + (size + 1) ≡ p.at + size + 1 = omega arith in
    let long : length l ≡ size = d.parts.long in
    let room : size + 2 ≤ length file - p.at = rw length-drop at d.within in
    taken_mild file st p size (Some (onward p (p.at + size + 2) t (one_more f p.counts))) (omega arith) (sym (get_or-drop p.at file size 0) ∙ d.cr)
    (ap (λ (i : ℕ). get_or file i 0) (sym m) ∙ sym (get_or-drop p.at file (size + 1) 0) ∙ d.lf)
    (rw n (judged_good l st p (p.at + size + 2) g (omega arith) f size pattern t k (get_or-take size (drop p.at file) 0 0 (omega arith) ∙ d.letter) d.parts w, d.parts.mild))

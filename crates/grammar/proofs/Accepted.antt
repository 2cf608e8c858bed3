-- A file is accepted exactly when it meets the grammar and its lines fit the table, and then the answer is what the grammar says of it. Assumes nothing.
use Rattle.std.specs.Prelude.{None, Option}
use Prim.Native.Nat.{ℕ, ◌+◌, ◌-◌, ◌≤◌}
use Prim.Native.Char.{code}
use mathlib.Core.Bool.{Bool, true, false, ◌||◌, cond, or-true, or-false}
use mathlib.Core.List.{List, [], ◌∷◌, ◌++◌, append-nil, append_assoc}
use mathlib.Core.Logic.{inl, ◌↔◌}
use mathlib.Core.Path.{◌≡◌, refl, sym, ◌∙◌, ap, subst}
use native.Mathlib.Nat.{zero-add}
use native.Mathlib.Omega.{arith}
use borrow.Author.Tests.{le-leb, leb-true, eqb-true}
use lib.Dec.{eqb, leb}
use lib.ListN.{length, get_or}
use Rattle.rules.specs.Choice.{Each}
use Rattle.rules.specs.Families.{line_letter, layout_of, count_of}
use Rattle.rules.specs.Refusals.{says}
use Rattle.rules.specs.Layouts.{empty_layout, is_said}
use Rattle.rules.specs.Roles.{same_family, after_a, after_h, after_layout, in_body, after_g}
use Rattle.rules.specs.Order.{start, moved, dated, no_flight}
use Rattle.rules.specs.Split.{end, lines_of}
use Rattle.rules.specs.Files.{ends_after, finish, has_room, run, verdict}
use Rattle.rules.specs.declared.Date.{Date}
use Rattle.rules.specs.declared.Layouts.{Layouts}
use Rattle.rules.specs.declared.Extra.TheVariants as extra
use Rattle.rules.specs.declared.Family.{Family}
use Rattle.rules.specs.declared.Family.TheVariants as family
use Rattle.rules.specs.declared.Flight.{Flight}
use Rattle.rules.specs.declared.Seal.{Seal}
use Rattle.rules.specs.declared.Seal.TheVariants as seal
use Rattle.rules.specs.declared.State.{State}
use Rattle.rules.proofs.Inverse.{refuses_says, need_inv}
use Rattle.rules_laws.proofs.Passing.{front_over}
use Rattle.rules_laws.proofs.Signing.{judged_signed}
use Rattle.rules_laws.proofs.Splitting.{none_left}
use Rattle.grammar.specs.Grammar.{IsText, OrderFrom, InOrder, IsALine, IsDateLine, AtMostOne, Parts, told_in, lines_in, SealedBy, Keeps, join_lines, Meets, beginning, counts_in, signed_in, flight_of}
use Rattle.rules_trips.proofs.Placing.{said_some}
use Rattle.rules_sound.proofs.Families.{every, all_layouts}
use Rattle.grammar.proofs.Leading.{letter_tests, counts_more, Part, Leads, a_line, date_line, h_line, layout_line, body_line, g_line, l_line, Sound, sound_start, judge_leads, leads_judge}
use Rattle.grammar.proofs.Leading as part
use Rattle.grammar.proofs.Sections.{Passes, done, next, passes_join, all_passed, before, begins, lines_joined, none_fit, ended, comes, passes_run, stops_run, at_end, Fresh, passes_above, Above, Section, split, above_end, section_passes, headers_there, headers_here, layout_there, layout_here, body_same, body_stage, body_there, body_here, seals_there, seals_here, seal_needed, remarks_there, remarks_here}

-- ---- the counts

pub counts_passed : {st s : State} {ls : List (List ℕ)} → Passes st ls s → (f : Family)
    → count_of f s.flight.counts ≡ count_of f st.flight.counts + beginning (line_letter f) ls
unfolding beginning
counts_passed done f = omega arith
counts_passed (next {st = st} {m = m} {l = l} e p) f = omega (arith, counts_more l st m e f, counts_passed p f)

-- the lines so far have a G line among them, or these have
pub signed_passed : {st s : State} {ls : List (List ℕ)} → Passes st ls s → s.flight.signed ≡ (signed_in ls || st.flight.signed)
unfolding beginning
signed_passed done = refl
signed_passed (next {st = st} {m = m} {l = l} {ls = ls} e p) =
    signed_passed p ∙ ap (λ b. signed_in ls || b) (judged_signed l st m e ∙ ap (λ b. b || st.flight.signed) (sym (letter_tests l).1.1)) ∙ by (eqb (get_or l 0 0) (code "G"))
  where
    by : (b : Bool) → (signed_in ls || (b || st.flight.signed)) ≡ (leb 1 (cond b 1 0 + beginning (code "G") ls) || st.flight.signed)
    by true = or-true (signed_in ls) ∙ sym (ap (λ b. b || st.flight.signed) (le-leb 1 (1 + beginning (code "G") ls) (omega arith)))
    by false = ap (λ n. leb 1 n || st.flight.signed) (sym (zero-add (beginning (code "G") ls)))

-- ---- the first two lines

abbrev opened : Date → State
opened d = dated d (moved after_h (moved after_a start))

first_line_lem : {l : List ℕ} {p : Part} {m : State} → Leads start l p m → IsALine l × (m ≡ moved after_a start)
first_line_lem (a_line z p w) = (w, refl)
first_line_lem (date_line d a b p n w) = absurd (omega arith)
first_line_lem (h_line a b p n w) = absurd (omega arith)
first_line_lem (layout_line f i a b p w) = absurd (omega arith)
first_line_lem (body_line a b w) = absurd (omega arith)
first_line_lem (g_line a b p w) = absurd (omega arith)
first_line_lem (l_line a b p w) = absurd (omega arith)

second_line : {l : List ℕ} {p : Part} {m : State} → Leads (moved after_a start) l p m → (d : Date) × IsDateLine d l × (m ≡ opened d)
second_line (a_line z p w) = absurd (omega arith)
second_line (date_line d a b p n w) = (d, w, refl)
second_line (h_line a b p n w) = absurd (n refl)
second_line (layout_line f i a b p w) = absurd (omega arith)
second_line (body_line a b w) = absurd (omega arith)
second_line (g_line a b p w) = absurd (omega arith)
second_line (l_line a b p w) = absurd (omega arith)

record Front (ls : List (List ℕ)) (s : State) : Type 0 where
  recorder : List ℕ
  day : List ℕ
  rest : List (List ℕ)
  lines : ls ≡ recorder ∷ day ∷ rest
  is_a : IsALine recorder
  date : Date
  is_date : IsDateLine date day
  passes : Passes (opened date) rest s

front_second : {ls : List (List ℕ)} {s : State} (l : List ℕ) → IsALine l → Passes (moved after_a start) ls s → after_h ≤ s.stage → Front (l ∷ ls) s
front_second l a done h = absurd (omega arith)
front_second {s = s} l a (next {m = m} {l = k} {ls = ls} e p) h =
    let d = second_line (judge_leads k (moved after_a start) m sound_start e).1 in
    record { recorder = l; day = k; rest = ls; lines = refl; is_a = a; date = d.0; is_date = d.1; passes = subst (λ x. Passes x ls s) d.2 p }

front_there : {ls : List (List ℕ)} {s : State} → Passes start ls s → after_h ≤ s.stage → Front ls s
front_there done h = absurd (omega arith)
front_there {s = s} (next {m = m} {l = l} {ls = ls} e p) h =
    let a = first_line_lem (judge_leads l start m sound_start e).1 in
    front_second l a.0 (subst (λ x. Passes x ls s) a.1 p) h

-- ---- lines that pass are as the grammar says

-- the layout lines, one family after the other, and then the rest
in_turn : (is js ms rest : List (List ℕ)) → is ++ (js ++ (ms ++ rest)) ≡ (is ++ (js ++ ms)) ++ rest
in_turn is js ms rest = simp append_assoc

record AllTold (st : State) (ls : List (List ℕ)) (s : State) : Type 0 where
  told : Family → List (List ℕ)
  rest : List (List ℕ)
  state : State
  lines : ls ≡ (told family.B ++ (told (family.Extra extra.K) ++ told (family.Extra extra.N))) ++ rest
  each : (f : Family) → AtMostOne f (layout_of f state.flight.layouts) (told f)
  date : state.flight.date ≡ st.flight.date
  fresh : Fresh st → Fresh state
  low : after_h ≤ state.stage
  high : state.stage ≤ in_body
  later : Above in_body state rest s

all_told : {st s : State} {ls : List (List ℕ)} → Above (after_h + 1) st ls s → st.stage ≡ after_h → st.flight.layouts ≡ no_flight.layouts → AllTold st ls s
all_told {st} a h e =
    let is = split (part.telling family.B) (omega arith) a in
    let js = split (part.telling (family.Extra extra.K)) (omega arith) is.later in
    let ms = split (part.telling (family.Extra extra.N)) (omega arith) js.later in
    let I = layout_there family.B is.section (ap (λ x. x.b) e) (omega arith) (omega arith) in
    let J = layout_there (family.Extra extra.K) js.section (I.others (family.Extra extra.K) refl ∙ ap (λ x. x.k) e) I.low I.high in
    let M = layout_there (family.Extra extra.N) ms.section (J.others (family.Extra extra.N) refl ∙ I.others (family.Extra extra.N) refl ∙ ap (λ x. x.n) e) J.low J.high in
    let told : Family → List (List ℕ) = every (λ g. List (List ℕ)) is.front js.front ms.front in
    record {
      told = told;
      rest = ms.rest;
      state = ms.state;
      lines = is.lines ∙ ap (λ x. is.front ++ x) (js.lines ∙ ap (λ x. js.front ++ x) ms.lines) ∙ in_turn is.front js.front ms.front ms.rest;
      each = every (λ g. AtMostOne g (layout_of g ms.state.flight.layouts) (told g))
          (subst (λ x. AtMostOne family.B x is.front) (sym (M.others family.B refl ∙ J.others family.B refl)) I.one)
          (subst (λ x. AtMostOne (family.Extra extra.K) x js.front) (sym (M.others (family.Extra extra.K) refl)) J.one)
          M.one;
      date = M.date ∙ J.date ∙ I.date;
      fresh = λ x. M.fresh (J.fresh (I.fresh x));
      low = M.low;
      high = omega (arith, M.high);
      later = ms.later;
    }

in_order : (c : ℕ) (ts : List ℕ) → OrderFrom c ts → InOrder ts
in_order c [] h = tt
in_order c (t ∷ ts) h = h.1

-- the lines are those of these parts, and they keep to the rules, with the date and the layouts of the last state
kept : (needs : Seal) {ls : List (List ℕ)} {s : State} → Passes start ls s → s.points ≡ 0 → ends_after needs ≤ s.stage
    → (parts : Parts) × (ls ≡ lines_in parts) × (times : List ℕ) × Keeps needs parts s.flight.date s.flight.layouts times
kept needs {ls} {s} p zero h =
    let f = front_there p (omega (arith, front_over needs)) in
    let hs = split part.header (omega arith) (passes_above f.passes sound_start) in
    let H = headers_there hs.section (omega arith) refl in
    let T = all_told hs.later H.stage H.same.1 in
    let bs = split part.body (omega arith) T.later in
    let gs = split part.seals (omega arith) bs.later in
    let rs = split part.remarks (omega arith) gs.later in
    let z = above_end rs.later in
    let B = body_same bs.section in
    let G = seals_there gs.section in
    let R = remarks_there rs.section in
    let fresh = T.fresh (H.fresh (refl, refl, refl, refl)) in
    let stage = body_stage bs.section T.low T.high in
    let done : bs.state.points ≡ 0 = sym (ap (λ x. x.points) z.1 ∙ R.2 ∙ G.2) ∙ zero in
    let date : s.flight.date ≡ f.date = ap (λ x. x.flight.date) z.1 ∙ R.1.0 ∙ G.1.0 ∙ B.0 ∙ T.date ∙ H.same.0 in
    let laid : s.flight.layouts ≡ T.state.flight.layouts = ap (λ x. x.flight.layouts) z.1 ∙ R.1.1 ∙ G.1.1 ∙ B.1 in
    let body = body_there s.flight.layouts bs.section (sym laid) fresh.0 fresh.1 fresh.2 done in
    let parts : Parts = record { recorder = f.recorder; day = f.day; headers = hs.front; told = T.told; body = bs.front; seals = gs.front; remarks = rs.front } in
    let lines = f.lines
    ∙ ap (λ x. f.recorder ∷ f.day ∷ x) (hs.lines
    ∙ ap (λ x. hs.front ++ x) (T.lines
    ∙ ap (λ x. told_in parts ++ x) (bs.lines
    ∙ ap (λ x. bs.front ++ x) (gs.lines
    ∙ ap (λ x. gs.front ++ x) (rs.lines ∙ ap (λ x. rs.front ++ x) z.0 ∙ append-nil rs.front))))) in (
      parts,
      lines,
      body.times,
      record {
        recorder = f.is_a;
        day = subst (λ x. IsDateLine x f.day) (sym date) f.is_date;
        headers = H.each;
        told = λ g. subst (λ x. AtMostOne g (layout_of g x) (T.told g)) (sym laid) (T.each g);
        body = body.lines;
        order = in_order T.state.clock body.times body.order;
        seals = G.0;
        sealed = seal_needed needs stage.1 gs.section rs.section (rw z.1 at h);
        remarks = R.0;
      },
    )

-- ---- lines that are as the grammar says pass

-- from a state on the lines pass, and the file may end, with this date and these layouts
record Finished (needs : Seal) (st : State) (ls : List (List ℕ)) (date : Date) (layouts : Layouts) : Type 0 where
  state : State
  passes : Passes st ls state
  whole : state.points ≡ 0
  sealed : ends_after needs ≤ state.stage
  dated : state.flight.date ≡ date
  laid : state.flight.layouts ≡ layouts

-- behind lines of a part
behind : {needs : Seal} {p : Part} {st m : State} {ls ks : List (List ℕ)} {date : Date} {layouts : Layouts} → Sound st → Section p st ls m
    → (Sound m → Finished needs m ks date layouts) → Finished needs st (ls ++ ks) date layouts
behind g w k =
    let s = section_passes g w in
    let r = k s.1 in
    record { state = r.state; passes = passes_join s.0 r.passes; whole = r.whole; sealed = r.sealed; dated = r.dated; laid = r.laid }

from_zero : (c : ℕ) (ts : List ℕ) → c ≡ 0 → InOrder ts → OrderFrom c ts
from_zero c [] e h = tt
from_zero c (t ∷ ts) e h = (inl (omega arith), h)

may_end : (needs : Seal) (gs : List (List ℕ)) (stage : ℕ) → SealedBy needs gs → after_h ≤ stage → (1 ≤ length gs → after_g ≤ stage) → ends_after needs ≤ stage
may_end seal.Usual gs stage s h f = h
may_end seal.Strict gs stage s h f = f s

module _ {needs : Seal} {p : Parts} {date : Date} {layouts : Layouts} {times : List ℕ} (w : Keeps needs p date layouts times) where
  abbrev On : State → List (List ℕ) → Type 0
  On st ls = Finished needs st ls date layouts

  seals_on : (st : State) → Sound st → st.flight.date ≡ date → st.flight.layouts ≡ layouts → st.points ≡ 0 → after_h ≤ st.stage → st.stage ≤ in_body → On st (p.seals ++ p.remarks)
  seals_on st g d f z a b =
      let r = seals_here p.seals st w.seals a (omega arith) z in
      let s = seals_there r.1 in
      behind g r.1 λ h.
      let x = remarks_here p.remarks r.0 h w.remarks (omega (arith, r.2)) (omega (arith, r.3)) (s.2 ∙ z) in
      record {
        state = x.0;
        passes = x.1;
        whole = x.2;
        sealed = may_end needs p.seals x.0.stage w.sealed (omega (arith, r.2, x.3)) (λ n. omega (arith, r.4 n, x.3));
        dated = x.4.0 ∙ s.1.0 ∙ d;
        laid = x.4.1 ∙ s.1.1 ∙ f;
      }

  body_on : (st : State) → Sound st → st.flight.date ≡ date → st.flight.layouts ≡ layouts → Fresh st → after_h ≤ st.stage → st.stage ≤ in_body → On st (p.body ++ (p.seals ++ p.remarks))
  body_on st g d f h a b =
      let r = body_here layouts st w.body f h a b (from_zero st.clock times h.3 w.order) in
      let s = body_same r.1 in
      let t = body_stage r.1 a b in
      behind g r.1 λ k. seals_on r.0 k (s.0 ∙ d) (s.1 ∙ f) r.2 t.0 t.1

  -- the line that tells a family's layout, and then the others
  told_on : (f : Family) (st : State) {ks : List (List ℕ)} → Sound st → st.flight.date ≡ date → layout_of f st.flight.layouts ≡ empty_layout → Fresh st
      → after_h ≤ st.stage → st.stage ≤ after_layout f - 1
      → ((m : State) → Sound m → m.flight.date ≡ date → layout_of f m.flight.layouts ≡ layout_of f layouts
      → ((g : Family) → same_family g f ≡ false → layout_of g m.flight.layouts ≡ layout_of g st.flight.layouts) → Fresh m
      → after_h ≤ m.stage → m.stage ≤ after_layout f → On m ks)
      → On st (p.told f ++ ks)
  told_on f st g d e h a b k =
      let r = layout_here f st (w.told f) e a b h.0 in
      let s = layout_there f r.1 e a b in
      behind g r.1 λ x. k r.0 x (s.date ∙ d) r.2 s.others (s.fresh h) s.low s.high

  headers_on : On (opened date) (p.headers ++ (told_in p ++ (p.body ++ (p.seals ++ p.remarks))))
  headers_on =
      let r = headers_here p.headers (opened date) w.headers (omega arith) refl refl in
      let s = headers_there r.1 (omega arith) refl in
      behind sound_start r.1 λ g.
      subst (On r.0) (in_turn (p.told family.B) (p.told (family.Extra extra.K)) (p.told (family.Extra extra.N)) _) (
      told_on family.B r.0 g s.same.0 (ap (λ x. x.b) s.same.1) (s.fresh (refl, refl, refl, refl)) (omega (arith, s.stage)) (omega (arith, s.stage)) λ m x d own others fresh low high.
      told_on (family.Extra extra.K) m x d (others (family.Extra extra.K) refl ∙ ap (λ x. x.k) s.same.1) fresh low high λ n y e mine rest clean from to.
      told_on (family.Extra extra.N) n y e (rest (family.Extra extra.N) refl ∙ others (family.Extra extra.N) refl ∙ ap (λ x. x.n) s.same.1) clean from to λ o z c last kept new least most.
      body_on o z c (all_layouts _ _ (every (λ f. layout_of f o.flight.layouts ≡ layout_of f layouts) (kept family.B refl ∙ rest family.B refl ∙ own) (kept (family.Extra extra.K) refl ∙ mine) last)) new least (omega arith))

  passed : On start (lines_in p)
  passed =
      let r = headers_on in
      record {
        state = r.state;
        passes = next (leads_judge p.recorder start sound_start (a_line refl refl w.recorder))
            (next (leads_judge p.day (moved after_a start) sound_start (date_line date (omega arith) (omega arith) refl refl w.day)) r.passes);
        whole = r.whole;
        sealed = r.sealed;
        dated = r.dated;
        laid = r.laid;
      }

-- ---- the theorems

-- the grammar's reading of a file whose lines pass
flight_is : (ls : List (List ℕ)) (s : State) (date : Date) (layouts : Layouts) → Passes start ls s → s.flight.date ≡ date → s.flight.layouts ≡ layouts
    → record { date = date; layouts = layouts; lines = length ls; counts = counts_in ls; signed = signed_in ls } ≡ s.flight
flight_is ls s date layouts p d f =
    let l : length ls ≡ s.flight.lines = sym (all_passed p) in
    let b : beginning (code "B") ls ≡ s.flight.counts.b = omega (arith, counts_passed p family.B) in
    let k : beginning (code "K") ls ≡ s.flight.counts.k = omega (arith, counts_passed p (family.Extra extra.K)) in
    let n : beginning (code "N") ls ≡ s.flight.counts.n = omega (arith, counts_passed p (family.Extra extra.N)) in
    let g : signed_in ls ≡ s.flight.signed = sym (signed_passed p ∙ or-false (signed_in ls)) in
    λ i. record { date = sym d i; layouts = sym f i; lines = l i; counts = record { b = b i; k = k i; n = n i }; signed = g i }

-- the file is cut into the grammar's lines
pub lines_cut : {needs : Seal} (file : List ℕ) (m : Meets needs file) → lines_of file ≡ before (lines_in m.parts) end
unfolding lines_of
lines_cut file m =
    let ls = lines_in m.parts in
    ap lines_of (m.bytes ∙ sym (append-nil (join_lines ls))) ∙ lines_joined ls [] m.texts

module _ (needs : Seal) (file : List ℕ) (room : Option ℕ) (f : Flight) where
  abbrev Said-so : Type 0
  Said-so = (m : Meets needs file) × (has_room room (length (lines_in m.parts)) ≡ true) × (flight_of m ≡ f)

  accepted_meets : verdict needs file room ≡ says f → Said-so
  unfolding verdict finish
  accepted_meets e =
      let a = need_inv (leb 1 (length file)) _ (says f) _ refuses_says e in
      let b = need_inv (leb (length file) 16777216) _ (says f) _ refuses_says a.1 in
      let c = comes needs room (lines_of file) start (none_fit room) in
      let d = at_end needs room c.state c.left (run needs room start (lines_of file)) f c.stops b.1 in
      let g = begins c.lines file c.left c.parted in
      let p = need_inv (eqb c.state.points 0) _ (says f) _ refuses_says d.1 in
      let s = need_inv (leb (ends_after needs) c.state.stage) _ (says f) _ refuses_says p.1 in
      let k = kept needs c.passes (eqb-true _ _ p.0) (leb-true _ _ s.0) in
      let same : c.state.flight ≡ f = cc in
      let bytes : file ≡ join_lines c.lines = g.bytes ∙ ap (λ r. join_lines c.lines ++ r) (none_left g.rest (g.lines ∙ d.0)) ∙ append-nil (join_lines c.lines) in (
        record {
          least = leb-true _ _ a.0;
          most = leb-true _ _ b.0;
          parts = k.0;
          bytes = bytes ∙ ap join_lines k.1;
          texts = subst (Each IsText) k.1 g.texts;
          date = c.state.flight.date;
          layouts = c.state.flight.layouts;
          times = k.2;
          keeps = k.3;
        },
        subst (λ x. has_room room (length x) ≡ true) k.1 (rw (all_passed c.passes) at c.fits),
        flight_is (lines_in k.0) c.state _ _ (subst (λ x. Passes start x c.state) k.1 c.passes) refl refl ∙ same,
      )

  meets_accepted : Said-so → verdict needs file room ≡ says f
  unfolding verdict finish
  meets_accepted w =
      let m = w.0 in
      let p = passed m.keeps in
      let r = passes_run needs room end p.passes (rw (all_passed p.passes) w.1) in
      let e : finish needs p.state ≡ says p.state.flight = rw (p.whole, le-leb (ends_after needs) p.state.stage p.sealed) in
      let same = sym (flight_is (lines_in m.parts) p.state _ _ p.passes p.dated p.laid) ∙ w.2 in
      rw (le-leb _ _ m.least, le-leb _ _ m.most, lines_cut file m) (r ∙ stops_run needs room p.state ended ∙ e ∙ ap says same)

  -- accepted with this answer exactly when the file meets the grammar, its lines fit, and the grammar says this of it
  pub accepted_as : (verdict needs file room ≡ says f) ↔ ((m : Meets needs file) × (has_room room (length (lines_in m.parts)) ≡ true) × (flight_of m ≡ f))
  accepted_as = (accepted_meets, meets_accepted)

-- accepted exactly when the file meets the grammar and its lines fit the table
pub accepted_exactly : (needs : Seal) (file : List ℕ) (room : Option ℕ) → (is_said (verdict needs file room) ≡ true) ↔ ((m : Meets needs file) × (has_room room (length (lines_in m.parts)) ≡ true))
accepted_exactly needs file room = (there, here)
  where
    there : is_said (verdict needs file room) ≡ true → (m : Meets needs file) × (has_room room (length (lines_in m.parts)) ≡ true)
    there e =
        let s = said_some (verdict needs file room) e in
        let w = (accepted_as needs file room s.0).0 s.1 in
        (w.0, w.1)

    here : ((m : Meets needs file) × (has_room room (length (lines_in m.parts)) ≡ true)) → is_said (verdict needs file room) ≡ true
    here w = rw ((accepted_as needs file room (flight_of w.0)).1 (w.0, w.1, refl))

-- and a file has one reading by the grammar: the same lines, date, layouts and counts, and whether it is signed
pub one_reading : (needs : Seal) (file : List ℕ) (m n : Meets needs file) → flight_of m ≡ flight_of n
one_reading needs file m n =
    let a = (accepted_as needs file None (flight_of m)).1 (m, refl, refl) in
    let b = (accepted_as needs file None (flight_of n)).1 (n, refl, refl) in
    cc

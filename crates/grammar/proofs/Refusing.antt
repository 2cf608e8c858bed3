-- A file is refused with a number, line and byte exactly when that refusal's meaning holds of it; and what lines that pass tell, in the grammar's words: a declaration that
-- is open is a head and its first points, and at most one I, one J and one M line tell the columns. Assumes nothing.
use Rattle.std.specs.Prelude.{None, Option, Some}
use Prim.Native.Nat.{ℕ, ◌+◌, ◌-◌, ◌≤◌, suc, ◌<◌}
use Prim.Native.Char.{code}
use mathlib.Core.Bool.{Bool, true, false, ◌||◌, cond, or-true}
use mathlib.Core.List.{List, [], ◌∷◌, ◌++◌, append_assoc, append-nil}
use mathlib.Core.Logic.{◌⊎◌, inl, inr, ◌↔◌}
use mathlib.Core.Path.{◌≡◌, refl, sym, ◌∙◌, ap, subst}
use native.Mathlib.Omega.{arith}
use borrow.Author.Tests.{le-leb, leb-true, leb-false, eqb-true, eqb-false, ne_eqb, eq-eqb, ltb-true, lt-ltb, lt-leb}
use lib.Dec.{eqb, leb, ltb}
use lib.ListN.{length, get_or}
use Rattle.rules.specs.Choice.{byte, bytes, Each}
use Rattle.rules.specs.Choice as choice
use Rattle.rules.specs.Families.{layout_letter}
use Rattle.rules.specs.Fields.{time_at}
use Rattle.rules.specs.Refusals.{says, number, Said, refuses}
use Rattle.rules.specs.Roles.{after_h, in_body}
use Rattle.rules.specs.Order.{start}
use Rattle.rules.specs.declared.State.{State}
use Rattle.rules.specs.Split.{Lines, end, broken, line, text, lines_of, after_cr}
use Rattle.rules.specs.Files.{ends_after, finish, has_room, run, verdict}
use Rattle.rules.specs.declared.Flight.{Flight}
use Rattle.rules.specs.declared.Seal.{Seal}
use Rattle.rules.specs.declared.Seal.TheVariants as seal
use Rattle.rules.proofs.Inverse.{false_true}
use Rattle.rules_laws.proofs.Passing as passes
use Rattle.rules_laws.proofs.Chains.{by_need, by_test}
use Rattle.rules_laws.proofs.Splitting.{cut, none_left, lines_of_line}
use Rattle.rules_laws.proofs.Counted.{judged_more}
use Rattle.grammar.specs.Grammar.{Follows, AtMostOne, given, beginning, IsText}
use Rattle.grammar.specs.Coming.{is_among, points_of, is_open, Open, those, timed_letters, last_time, NoTime, Latest, is_in_time, Meant}
use Rattle.grammar.specs.Faults.{PassAfter, Before, NoEnd, none_comes, lf_alone, cr_alone, Unsealed, Refused, empty, too_long, line_end, in_line, table_full, ends_early}
use Rattle.grammar.proofs.EachLine.{head_said_lem}
use Rattle.grammar.proofs.Leading.{fits_there, fits_so, some_points}
use Rattle.grammar.proofs.Sections.{Passes, done, next, all_passed, before, text_is, is_text, begins, lines_joined, none_fit, Stops, ended, endless, faulty, full, comes, passes_run, stops_run}
use Rattle.grammar.proofs.Standing.{head_points, Declaration, undeclared, declared, open_behind, declaration_told_lem, laid_out_lem, Stands, stands_start, stands_next}
use Rattle.grammar.proofs.Faulty.{judge_passes, passes_judge, judge_fails, fails_judge}

-- ---- lines that pass

-- the check judges lines good one after the other exactly where each passes its checks
pub passes_behind : {st s : State} {ls : List (List ℕ)} (ks : List (List ℕ)) → Stands ks st → Passes st ls s → PassAfter ks ls × Stands (ks ++ ls) s
passes_behind ks w (done {st = st}) = (tt, subst (λ x. Stands x st) (sym (append-nil ks)) w)
passes_behind {s = s} ks w (next {st = st} {m = m} {l = l} {ls = ls} e p) =
    let r = passes_behind (ks ++ (l ∷ [])) (stands_next ks l st m w e) p in
    ((judge_passes ks l st w m e, r.0), subst (λ x. Stands x s) (append_assoc ks (l ∷ []) ls) r.1)

pub behind_passes : (ks ls : List (List ℕ)) (st : State) → Stands ks st → PassAfter ks ls → (s : State) × Passes st ls s × Stands (ks ++ ls) s
behind_passes ks [] st w h = (st, done, subst (λ x. Stands x st) (sym (append-nil ks)) w)
behind_passes ks (l ∷ ls) st w h =
    let j = passes_judge ks l st w h.0 in
    let r = behind_passes (ks ++ (l ∷ [])) ls j.0 (stands_next ks l st j.0 w j.1) h.1 in
    (r.0, next j.1 r.1, subst (λ x. Stands x r.0) (append_assoc ks (l ∷ []) ls) r.2)

-- ---- what they tell

-- points are to come exactly where the declaration is open
pub opened : (ls : List (List ℕ)) (st : State) → Stands ls st → (1 ≤ st.points) ↔ Open ls
opened ls st w = (go w.declaration, back)
  where
    go : {d : Bool} {points : ℕ} → Declaration ls d points → 1 ≤ points → Open ls
    go (undeclared n) h = absurd (omega arith)
    go (declared p before hd rest head o n v e ps) h =
        record { before = before; head = hd; points = rest; order = o; no_other = n; says = head; is_head = v; are_points = ps h; fewer = omega arith }

    back : Open ls → 1 ≤ st.points
    back o =
        let p = head_points o.says o.head o.is_head in
        leb-true 1 st.points ((declaration_told_lem ls w.declaration).0 ∙ ap is_open o.order
        ∙ (open_behind o.before o.head o.points o.no_other (head_said_lem o.says o.head o.is_head).0).0
        ∙ lt-ltb (length o.points) (points_of o.head) (omega (arith, o.fewer)))

follows : (t now : ℕ) → ((leb t now || ltb 43200 (t - now)) ≡ true) ↔ Follows t now
follows t now = (out (leb t now) (ltb 43200 (t - now)) refl refl, back)
  where
    out : (a b : Bool) → leb t now ≡ a → ltb 43200 (t - now) ≡ b → (a || b) ≡ true → Follows t now
    out true b p q e = inl (leb-true _ _ p)
    out false true p q e = inr (ltb-true _ _ q)
    out false false p q e = absurd (false_true e)

    back : Follows t now → (leb t now || ltb 43200 (t - now)) ≡ true
    back (inl h) = rw (le-leb t now h)
    back (inr h) = rw (lt-ltb 43200 (t - now) h) (or-true (leb t now))

-- the last time is that of the last timed line
abbrev Timing : List (List ℕ) → Option ℕ → Type 0
Timing ls (Some t) = Latest ls t
Timing ls None = Each NoTime ls

-- one line in front of lines whose last time is o
timing_more : (l : List ℕ) (ls : List (List ℕ)) (o : Option ℕ) (b : Bool) (u : Option ℕ) → is_among timed_letters (get_or l 0 0) ≡ b → time_at l (byte 2) ≡ u → Timing ls o
    → Timing (l ∷ ls) (choice.given o (cond b u None) λ t. Some t)
timing_more l ls (Some t) b u p q w =
    record { before = l ∷ w.before; line = w.line; after = w.after; order = ap (λ x. l ∷ x) w.order; timed = w.timed; time = w.time; no_later = w.no_later }
timing_more l ls None true (Some t) p q w = record { before = []; line = l; after = ls; order = refl; timed = p; time = q; no_later = w }
timing_more l ls None true None p q w = (λ h. q, w)
timing_more l ls None false u p q w = (λ h. absurd (false_true (sym p ∙ h)), w)

timing : (ls : List (List ℕ)) → Timing ls (last_time ls)
unfolding last_time bytes
timing [] = tt
timing (l ∷ ls) = timing_more l ls (last_time ls) _ _ refl refl (timing ls)

stands_meant : (ls : List (List ℕ)) (st : State) → Stands ls st → Meant ls
unfolding is_in_time
stands_meant ls st w =
    let i = (declaration_told_lem ls w.declaration).0 in
    record {
      declaration = (λ e. (opened ls st w).0 (leb-true 1 st.points (i ∙ e)), λ o. sym i ∙ le-leb 1 st.points ((opened ls st w).1 o));
      told = λ f. subst (λ x. AtMostOne f x (those (layout_letter f) ls)) (laid_out_lem f (w.told f)) (w.told f);
      latest = λ t e. subst (Timing ls) e (timing ls);
      no_time = λ e. subst (Timing ls) e (timing ls);
      times = λ t now e. rw e (follows t now);
    }

-- what lines that pass tell, in the grammar's words
pub meant : (ls : List (List ℕ)) → PassAfter [] ls → Meant ls
meant ls h = let r = behind_passes [] ls start stands_start h in stands_meant ls r.0 r.2

-- ---- a line with no end

-- one byte of text in front
more_text : (b : ℕ) {l : List ℕ} {n : ℕ} → (b ≡ 13 → ⊥) → (b ≡ 10 → ⊥) → NoEnd l n → NoEnd (b ∷ l) (suc n)
more_text b p q (none_comes t h n) = none_comes (b ∷ t) ((p, q), h) (omega arith)
more_text b p q (lf_alone t r h) = lf_alone (b ∷ t) r ((p, q), h)
more_text b p q (cr_alone t r h n) = cr_alone (b ∷ t) r ((p, q), h) n

-- what the lines of a list tell of it, where it is broken at once
abbrev Ends : List ℕ → Lines → Type 0
Ends l end = l ≡ []
Ends l (broken n) = NoEnd l n
Ends l (line t ls) = Unit {0}

ends_text : (b : ℕ) (l : List ℕ) (k : Lines) → (b ≡ 13 → ⊥) → (b ≡ 10 → ⊥) → Ends l k → Ends (b ∷ l) (text b k)
unfolding text
ends_text b l end p q h = rw h (none_comes (b ∷ []) ((p, q), tt) (omega arith))
ends_text b l (broken n) p q h = more_text b p q h
ends_text b l (line t ls) p q h = tt

ends_cr : (l : List ℕ) → Ends (13 ∷ l) (after_cr l)
unfolding after_cr
ends_cr [] = cr_alone [] [] tt (λ z. omega arith)
ends_cr (b ∷ l) = go (eqb b 10) refl
  where
    go : (x : Bool) → eqb b 10 ≡ x → Ends (13 ∷ b ∷ l) (cond x (line [] (lines_of l)) (broken 0))
    go true e = tt
    go false e = cr_alone [] (b ∷ l) tt (eqb-false b 10 e)

ends : (l : List ℕ) → Ends l (lines_of l)
unfolding lines_of
ends [] = refl
ends (b ∷ l) = go (eqb b 13) (eqb b 10) refl refl (ends l)
  where
    go : (x y : Bool) → eqb b 13 ≡ x → eqb b 10 ≡ y → Ends l (lines_of l) → Ends (b ∷ l) (cond x (after_cr l) (cond y (broken 0) (text b (lines_of l))))
    go true y e f h = rw (eqb-true b 13 e) (ends_cr l)
    go false true e f h = rw (eqb-true b 10 f) (lf_alone [] l tt)
    go false false e f h = ends_text b l (lines_of l) (eqb-false b 13 e) (eqb-false b 10 f) h

pub no_end : (l : List ℕ) (n : ℕ) → lines_of l ≡ broken n → NoEnd l n
no_end l n e = rw e at (ends l)

-- behind text
broken_text : (t r : List ℕ) (n : ℕ) → IsText t → lines_of r ≡ broken n → lines_of (t ++ r) ≡ broken (length t + n)
unfolding lines_of text
broken_text [] r n h e = e ∙ ap broken (omega arith)
broken_text (b ∷ t) r n h e =
    simp (ne_eqb b 13 h.0.0, ne_eqb b 10 h.0.1, broken_text t r n h.1 e) (ap broken (omega arith))

text_alone : (t : List ℕ) → IsText t → 1 ≤ length t → lines_of t ≡ broken (length t)
unfolding lines_of text
text_alone [] h n = absurd (omega arith)
text_alone (b ∷ []) h n = rw (ne_eqb b 13 h.0.0, ne_eqb b 10 h.0.1)
text_alone (b ∷ c ∷ t) h n = rw (ne_eqb b 13 h.0.0, ne_eqb b 10 h.0.1, text_alone (c ∷ t) h.1 (omega arith))

cr_broken : (r : List ℕ) → (get_or r 0 0 ≡ 10 → ⊥) → lines_of (13 ∷ r) ≡ broken 0
unfolding lines_of
cr_broken [] n = refl
cr_broken (b ∷ r) n = rw (ne_eqb b 10 n)

pub end_none : {l : List ℕ} {n : ℕ} → NoEnd l n → lines_of l ≡ broken n
unfolding lines_of
end_none (none_comes t h n) = text_alone t h n
end_none (lf_alone t r h) = broken_text t (10 ∷ r) 0 h refl ∙ ap broken (omega arith)
end_none (cr_alone t r h n) = broken_text t (13 ∷ r) 0 h (cr_broken r n) ∙ ap broken (omega arith)

-- ---- a refused file

-- the part that the file must reach was not reached exactly where what it needs is missing
missing : (seal : Seal) (lines : List (List ℕ)) (st : State) → Stands lines st → (st.stage < ends_after seal) ↔ Unsealed seal lines
missing seal.Usual lines st w = (
  λ h. leb-false 2 (length lines) (sym w.staged.two_lines ∙ lt-leb after_h st.stage h),
  λ h. leb-false after_h st.stage (w.staged.two_lines ∙ lt-leb 2 (length lines) h),
)
missing seal.Strict lines st w = (
  λ h. eqb-true (beginning (code "G") lines) 0 (sym w.staged.unsealed ∙ le-leb st.stage in_body (omega arith)),
  λ e. let i = leb-true st.stage in_body (w.staged.unsealed ∙ eq-eqb (beginning (code "G") lines) 0 e) in omega arith,
)

-- the first line that has no room comes right behind those that have
full_at : (room : Option ℕ) (n : ℕ) → has_room room n ≡ true → has_room room (n + 1) ≡ false → room ≡ Some n
full_at None n e f = absurd (false_true (sym f))
full_at (Some entries) n e f = let i = leb-true n entries e in let j = leb-false (n + 1) entries f in ap Some (omega arith)

module _ (seal : Seal) (file : List ℕ) (room : Option ℕ) where
  -- an answer that is a refusal means what it says
  abbrev Means : Said Flight → Type 0
  Means (says f) = Unit {0}
  Means (refuses n l b) = Refused seal file room n l b

  early : (lines : List (List ℕ)) (st : State) → Before file room lines [] → Stands lines st → Means (finish seal st)
  unfolding finish number
  early lines st w v =
      by_test Means (eqb st.points 0) _ _ (λ p. rw v.lines (ends_early lines w (inl ((opened lines st v).0 (some_points st.points (eqb-false _ _ p)))))) λ p.
      by_test Means (leb (ends_after seal) st.stage) _ (λ u. says st.flight) (λ q. rw v.lines (ends_early lines w (inr ((missing seal lines st v).0 (leb-false _ _ q))))) λ q. tt

  -- where the check stops, its answer means what it says
  stopped : (lines : List (List ℕ)) (st : State) (k : Lines) (x : Said Flight) (rest : List ℕ) → Before file room lines rest → lines_of rest ≡ k → Stands lines st
      → Stops seal room st k x → Means x
  unfolding number
  stopped lines st k x rest w e v ended = early lines st (rw (none_left rest e) at w) v
  stopped lines st k x rest w e v (endless i) = rw v.lines (line_end lines rest i w (no_end rest i e))
  stopped lines st k x rest w e v (faulty {l = l} {ls = ls} i j b h) =
      let c = cut rest l ls e in
      rw v.lines (in_line lines l c.rest i b (rw c.bytes at w) (text_is l c.clear) (judge_fails lines l st v i j b h))
  stopped lines st k x rest w e v (full {l = l} {ls = ls} m h g) =
      let c = cut rest l ls e in
      let i : m.flight.lines ≡ length lines + 1 = (judged_more l st m h).lines ∙ ap (λ y. y + 1) v.lines in
      rw i (table_full lines l c.rest (rw c.bytes at w) (text_is l c.clear) (judge_passes lines l st v m h) (full_at room (length lines) (fits_so room _ w.fits) (rw i at g)))

  means : Means (verdict seal file room)
  unfolding verdict number
  means =
      by_test Means (leb 1 (length file)) _ _ (λ p. let i = leb-false 1 (length file) p in empty (omega arith)) λ p.
      by_test Means (leb (length file) 16777216) _ _ (λ q. too_long (leb-false (length file) 16777216 q)) λ q.
      let c = comes seal room (lines_of file) start (none_fit room) in
      let b = begins c.lines file c.left c.parted in
      let v = passes_behind [] stands_start c.passes in
      let fits = fits_there room _ (rw (all_passed c.passes) at c.fits) in
      let w : Before file room c.lines b.rest = record { least = leb-true _ _ p; most = leb-true _ _ q; bytes = b.bytes; texts = b.texts; passes = v.0; fits = fits } in
      stopped c.lines c.state c.left (run seal room start (lines_of file)) b.rest w b.lines v.1 c.stops

  refused_there : (n l b : ℕ) → verdict seal file room ≡ refuses n l b → Refused seal file room n l b
  refused_there n l b e = rw e at means

  -- where the check stands when it has gone through the lines before
  abbrev Gone : List (List ℕ) → Type 0
  Gone lines = (s : State) × Passes start lines s × Stands lines s

  gone : (lines : List (List ℕ)) (rest : List ℕ) → Before file room lines rest → Gone lines
  gone lines rest w = behind_passes [] lines start stands_start w.passes

  -- it answers for what is left
  goes : (lines : List (List ℕ)) (rest : List ℕ) (k : Lines) (x : Said Flight) → Before file room lines rest → lines_of rest ≡ k → (h : Gone lines)
      → Stops seal room h.0 k x → verdict seal file room ≡ x
  unfolding verdict
  goes lines rest k x w e h s =
      let l : lines_of file ≡ before lines k = ap lines_of w.bytes ∙ lines_joined lines rest w.texts ∙ ap (before lines) e in
      rw (le-leb _ _ w.least, le-leb _ _ w.most, l) (passes_run seal room k h.1 (rw h.2.lines (fits_so room _ w.fits)) ∙ stops_run seal room h.0 s)

  finish_early : (lines : List (List ℕ)) (st : State) → Stands lines st → Open lines ⊎ Unsealed seal lines
      → finish seal st ≡ refuses 16 (st.flight.lines + 1) 0
  unfolding finish number
  finish_early lines st v (inl h) =
      let i = (opened lines st v).1 h in
      rw (ne_eqb st.points 0 (λ z. omega arith))
  finish_early lines st v (inr h) =
      by_need (λ x. x ≡ refuses 16 (st.flight.lines + 1) 0) (eqb st.points 0) _ _ refl (rw (lt-leb (ends_after seal) st.stage ((missing seal lines st v).1 h)))

  refused_here : {n l b : ℕ} → Refused seal file room n l b → verdict seal file room ≡ refuses n l b
  unfolding verdict number lines_of
  refused_here (empty e) = rw (lt-leb 1 (length file) (omega arith))
  refused_here (too_long h) = rw (le-leb 1 (length file) (omega arith), lt-leb (length file) 16777216 h)
  refused_here (line_end lines rest i w e) =
      let h = gone lines rest w in
      rw (← h.2.lines) (goes lines rest (broken i) _ w (end_none e) h (endless i))
  refused_here (in_line lines l rest i b w t f) =
      let h = gone lines (l ++ (13 ∷ 10 ∷ rest)) w in
      rw (← h.2.lines)
      (goes lines (l ++ (13 ∷ 10 ∷ rest)) (line l (lines_of rest)) _ w (lines_of_line l rest (is_text l t)) h
      (faulty i 0 b (fails_judge lines l h.0 h.2 i b f)))
  refused_here (table_full lines l rest w t p r) =
      let h = gone lines (l ++ (13 ∷ 10 ∷ rest)) w in
      let m = passes_judge lines l h.0 h.2 p in
      let i : m.0.flight.lines ≡ length lines + 1 = (judged_more l h.0 m.0 m.1).lines ∙ ap (λ y. y + 1) h.2.lines in
      rw (← i) (goes lines (l ++ (13 ∷ 10 ∷ rest)) (line l (lines_of rest)) _ w (lines_of_line l rest (is_text l t)) h (full m.0 m.1 (ap (λ x. has_room x m.0.flight.lines) r ∙ lt-leb m.0.flight.lines (length lines) (omega arith))))
  refused_here (ends_early lines w e) =
      let h = gone lines [] w in
      goes lines [] end _ w refl h ended ∙ finish_early lines h.0 h.2 e ∙ ap (λ x. refuses 16 (x + 1) 0) h.2.lines

-- what each refusal of a file means
pub refused_first : (seal : Seal) (file : List ℕ) (room : Option ℕ) (n l b : ℕ) → (verdict seal file room ≡ refuses n l b) ↔ Refused seal file room n l b
refused_first seal file room n l b = (refused_there seal file room n l b, refused_here seal file room)

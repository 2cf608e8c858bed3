-- The check of a file counts its lines and its B, K and N lines, and the table's entries lead to the lines by their numbers; the others stay; with a table only 15 is added. Assumes nothing.
use Rattle.std.specs.Prelude.{None, Option, Some}
use Prim.Native.Nat.{ℕ, ◌+◌, ◌-◌, ◌≤◌, ◌<◌}
use mathlib.Core.Bool.{Bool, true, false, cond}
use mathlib.Core.List.{List, []}
use mathlib.Core.Path.{◌≡◌, refl, sym, ◌∙◌}
use native.Mathlib.Nat.{add-zero, zero-add}
use native.Mathlib.Omega.{arith}
use borrow.Author.Tests.{leb-true, leb-false, le-leb, lt-leb}
use lib.Dec.{leb, eqb}
use lib.ListN.{length, get_or, take, drop, length-append, length-drop, get_or-append}
use lib.Seq.{length-take-le, get_or-take, get_or-drop, get_or-append-add}
use Rattle.rules.specs.Choice.{need}
use Rattle.rules.specs.Families.{count_of, one_more}
use Rattle.rules.specs.Refusals.{Said, says, refuses, no, in_line, and_then, number}
use Rattle.rules.specs.Roles.{is_of}
use Rattle.rules.specs.Split.{Lines, end, broken, line, lines_of, offsets, bounds_of, line_text}
use Rattle.rules.specs.Order.{moved, judge, start, no_flight}
use Rattle.rules.specs.Files.{ends_after, finish, has_room, run, verdict, good_lines, table_after, over}
use Rattle.rules.specs.declared.Reason.TheVariants as reason
use Rattle.rules.specs.declared.Family.{Family}
use Rattle.rules.specs.declared.Extra.TheVariants as extra
use Rattle.rules.specs.declared.Family.TheVariants as family
use Rattle.rules.specs.declared.Flight.{Flight}
use Rattle.rules.specs.declared.Role.{Role}
use Rattle.rules.specs.declared.Role.TheVariants as role
use Rattle.rules.specs.declared.Seal.{Seal}
use Rattle.rules.specs.declared.State.{State}
use Rattle.rules_laws.proofs.Chains.{Sure, surely, sure_map, by_need, by_test, by_line}
use Rattle.rules_laws.proofs.Passing.{role_in, Leaves, opens, date, header, layout, columned, head, point, event, satellites, differential, seals, remark, other, judged}
use Rattle.rules_laws.proofs.Splitting.{Whole, texts_of, length_offsets, offset_leads, bounds_lead, text_there}

-- ---- one line more

-- so many lines more, and so many of each family
pub record More (n : ℕ) (of : Family → ℕ) (before after : Flight) : Type 0 where
  pub lines : after.lines ≡ before.lines + n
  pub count : (f : Family) → count_of f after.counts ≡ count_of f before.counts + of f

-- 1 where the test is passed
abbrev pub one : Bool → ℕ
one b = cond b 1 0

family_more : (f g : Family) (st : State) → count_of f (one_more g st.flight.counts) ≡ count_of f st.flight.counts + one (is_of f (role.Columned g))
family_more family.B family.B st = refl
family_more family.B (family.Extra extra.K) st = omega arith
family_more family.B (family.Extra extra.N) st = omega arith
family_more (family.Extra extra.K) family.B st = omega arith
family_more (family.Extra extra.N) family.B st = omega arith
family_more (family.Extra extra.K) (family.Extra extra.K) st = refl
family_more (family.Extra extra.K) (family.Extra extra.N) st = omega arith
family_more (family.Extra extra.N) (family.Extra extra.K) st = omega arith
family_more (family.Extra extra.N) (family.Extra extra.N) st = refl

-- a line that passes is one line more, and one of its family if it has one
abbrev pub OneMore : List ℕ → State → State → Type 0
OneMore l st after = More 1 (λ f. one (is_of f (role_in l))) st.flight after.flight

left_more : (l : List ℕ) (stage : ℕ) (st : State) {r : Role} {after : State} → Leaves l (moved stage st) r after → More 1 (λ f. one (is_of f r)) st.flight after.flight
left_more l stage st (opens e) = record { lines = refl; count = λ f. omega arith }
left_more l stage st (date d n e) = record { lines = refl; count = λ f. omega arith }
left_more l stage st (header n e) = record { lines = refl; count = λ f. omega arith }
left_more l stage st (layout f i e) = record { lines = refl; count = λ f. omega arith }
left_more l stage st (columned g t e o) = record { lines = refl; count = λ f. family_more f g st }
left_more l stage st (head h n e) = record { lines = refl; count = λ f. omega arith }
left_more l stage st (point p n e) = record { lines = refl; count = λ f. omega arith }
left_more l stage st (event t e o) = record { lines = refl; count = λ f. omega arith }
left_more l stage st (satellites t e o) = record { lines = refl; count = λ f. omega arith }
left_more l stage st (differential e) = record { lines = refl; count = λ f. omega arith }
left_more l stage st (seals e) = record { lines = refl; count = λ f. omega arith }
left_more l stage st (remark e) = record { lines = refl; count = λ f. omega arith }
left_more l stage st (other e) = record { lines = refl; count = λ f. omega arith }

pub judged_more : (l : List ℕ) (st after : State) → judge l st ≡ says after → OneMore l st after
judged_more l st after e = let j = judged l st after e in left_more l j.stage st j.left

pub judge_counts : (l : List ℕ) (st : State) → Sure (OneMore l st) (judge l st)
judge_counts l st = by (judge l st) refl
  where
    by : (s : Said State) → judge l st ≡ s → Sure (OneMore l st) s
    by (says after) e = judged_more l st after e
    by (refuses n k b) e = tt

-- ---- the whole file

-- how many lines there are whose role passes a test
abbrev pub tally : (Role → Bool) → Lines → ℕ
tally test end = 0
tally test (broken n) = 0
tally test (line t ls) = one (test (role_in t)) + tally test ls

-- what is said behind the lines k: they all end, and each is counted
pub record Counted (k : Lines) (before after : Flight) : Type 0 where
  pub whole : Whole k
  pub more : More (length (texts_of k)) (λ f. tally (is_of f) k) before after

next_counted : (t : List ℕ) (ls : Lines) (st after : State) (f : Flight) → OneMore t st after → Counted ls after.flight f → Counted (line t ls) st.flight f
next_counted t ls st after f m c = record {
  whole = c.whole;
  more = record { lines = omega (arith, m.lines, c.more.lines); count = λ g. omega (arith, m.count g, c.more.count g) };
}

-- what holds of both ways in which a file ends
module _ (seal : Seal) (st : State) where
  abbrev pub early : Said Flight
  early = refuses (number reason.EndsEarly) (st.flight.lines + 1) 0

  pub finish_by : (P : Said Flight → Type 0) → P early → P (says st.flight) → P (finish seal st)
  unfolding finish
  finish_by P a b = by_need P (eqb st.points 0) early _ a (by_need P (leb (ends_after seal) st.stage) early (λ u. says st.flight) a b)

module _ (seal : Seal) (room : Option ℕ) where
  run_counts : (k : Lines) (st : State) → Sure (Counted k st.flight) (run seal room st k)
  unfolding run
  run_counts end st = finish_by seal st (Sure (Counted end st.flight)) tt (record { whole = tt; more = record { lines = omega arith; count = λ f. omega arith } })
  run_counts (broken n) st = tt
  run_counts (line t ls) st =
      by_line (Sure (Counted (line t ls) st.flight)) (OneMore t st) (st.flight.lines + 1) (judge t st) _ (judge_counts t st) (λ k b. tt) λ after m.
      by_need (Sure (Counted (line t ls) st.flight)) (has_room room after.flight.lines) _ _ tt
      (sure_map (Counted ls after.flight) (Counted (line t ls) st.flight) (run seal room after ls) (λ f. next_counted t ls st after f m) (run_counts ls after))

  verdict_counts : (file : List ℕ) → Sure (Counted (lines_of file) no_flight) (verdict seal file room)
  unfolding verdict
  verdict_counts file =
      by_need (Sure (Counted (lines_of file) no_flight)) (leb 1 (length file)) (no reason.Empty 0) _ tt
      (by_need (Sure (Counted (lines_of file) no_flight)) (leb (length file) 16777216) (no reason.TooLong 0) _ tt
      (run_counts (lines_of file) start))

module _ (seal : Seal) (file : List ℕ) (room : Option ℕ) (f : Flight) (accepted : verdict seal file room ≡ says f) where
  all_counted : Counted (lines_of file) no_flight f
  all_counted = surely (Counted (lines_of file) no_flight) (verdict seal file room) f accepted (verdict_counts seal room file)

  -- every line of an accepted file ends with CR LF
  pub accepted_whole : Whole (lines_of file)
  accepted_whole = all_counted.whole

  -- "the count of lines, of B lines and of K lines"
  pub lines_counted : f.lines ≡ length (texts_of (lines_of file))
  lines_counted = omega (arith, all_counted.more.lines)

  pub family_counted : (g : Family) → count_of g f.counts ≡ tally (is_of g) (lines_of file)
  family_counted family.B = omega (arith, all_counted.more.count family.B)
  family_counted (family.Extra extra.K) = omega (arith, all_counted.more.count (family.Extra extra.K))
  family_counted (family.Extra extra.N) = omega (arith, all_counted.more.count (family.Extra extra.N))

-- ---- the table

-- the good lines are among the lines that there are, and have room
abbrev Within : ℕ → Option ℕ → Said Flight → Type 0
Within most room s = (good_lines s ≤ most) × (has_room room (good_lines s) ≡ true)

module _ (seal : Seal) (room : Option ℕ) where
  run_within : (k : Lines) (st : State) → has_room room st.flight.lines ≡ true → Within (st.flight.lines + length (texts_of k)) room (run seal room st k)
  unfolding run good_lines
  run_within end st h =
      let n : st.flight.lines + 1 - 1 ≡ st.flight.lines = omega arith in
      rw add-zero (finish_by seal st (Within st.flight.lines room) (omega arith, rw n h) (omega arith, h))
  run_within (broken m) st h = let n : st.flight.lines + 1 - 1 ≡ st.flight.lines = omega arith in (omega arith, rw n h)
  run_within (line t ls) st h =
      let n : st.flight.lines + 1 - 1 ≡ st.flight.lines = omega arith in
      let P = Within (st.flight.lines + length (texts_of (line t ls))) room in
      by_line P (OneMore t st) (st.flight.lines + 1) (judge t st) _ (judge_counts t st) (λ k b. (omega arith, rw n h)) λ after m.
      by_test P (has_room room after.flight.lines) (refuses (number reason.TableFull) after.flight.lines 0) _ (λ e. (omega (arith, m.lines), rw (m.lines, n) h)) λ e.
      let w = run_within ls after e in
      (omega (arith, m.lines, w.0), w.1)

  verdict_within : (file : List ℕ) → has_room room 0 ≡ true → Within (length (texts_of (lines_of file))) room (verdict seal file room)
  unfolding verdict good_lines
  verdict_within file h =
      let P = Within (length (texts_of (lines_of file))) room in
      by_need P (leb 1 (length file)) (no reason.Empty 0) _ (omega arith, h)
      (by_need P (leb (length file) 16777216) (no reason.TooLong 0) _ (omega arith, h)
      (rw zero-add at (run_within (lines_of file) start h)))

-- ---- with a table only 15 is added

-- what a check without a table says, in a table of so many entries: "15 TABLE_FULL: good line, no entry left; line, 0"
unfoldable pub tabled : ℕ → Said Flight → Said Flight
tabled entries s = need (leb (good_lines s) entries) (refuses (number reason.TableFull) (entries + 1) 0) λ _. s

fits : (entries : ℕ) (s : Said Flight) → good_lines s ≤ entries → tabled entries s ≡ s
unfolding tabled
fits entries s h = rw (le-leb (good_lines s) entries h)

full : (entries : ℕ) (s : Said Flight) → entries < good_lines s → tabled entries s ≡ refuses (number reason.TableFull) (entries + 1) 0
unfolding tabled
full entries s h = rw (lt-leb (good_lines s) entries h)

module _ (seal : Seal) where
  -- no good line is lost
  run_goes : (k : Lines) (st : State) → st.flight.lines ≤ good_lines (run seal None st k)
  unfolding run good_lines
  run_goes end st = finish_by seal st (λ s. st.flight.lines ≤ good_lines s) (omega arith) (omega arith)
  run_goes (broken m) st = omega arith
  run_goes (line t ls) st =
      by_line (λ s. st.flight.lines ≤ good_lines s) (OneMore t st) (st.flight.lines + 1) (judge t st) _ (judge_counts t st) (λ k b. omega arith) λ after m.
      omega (arith, m.lines, run_goes ls after)

  run_tabled : (entries : ℕ) (k : Lines) (st : State) → st.flight.lines ≤ entries → run seal (Some entries) st k ≡ tabled entries (run seal None st k)
  unfolding run good_lines
  run_tabled entries end st h = finish_by seal st (λ s. s ≡ tabled entries s) (sym (fits entries (early seal st) (omega arith))) (sym (fits entries (says st.flight) (omega arith)))
  run_tabled entries (broken m) st h = rw (fits entries (refuses (number reason.LineEnd) (st.flight.lines + 1) (m + 1)) (omega arith))
  run_tabled entries (line t ls) st h = by (judge t st) (judge_counts t st) (λ after m e. run_tabled entries ls after e)
    where
      by : (s : Said State) → Sure (OneMore t st) s → ((after : State) → OneMore t st after → after.flight.lines ≤ entries → run seal (Some entries) after ls ≡ tabled entries (run seal None after ls))
          → (and_then (in_line (st.flight.lines + 1) s) λ after. need (leb after.flight.lines entries) (refuses (number reason.TableFull) after.flight.lines 0) λ _. run seal (Some entries) after ls)
          ≡ tabled entries (and_then (in_line (st.flight.lines + 1) s) λ after. run seal None after ls)
      by (refuses n k b) m next = rw (fits entries (refuses n (st.flight.lines + 1) b) (omega arith))
      by (says after) m next = room (leb after.flight.lines entries) refl
        where
          room : (b : Bool) → leb after.flight.lines entries ≡ b
              → (need b (refuses (number reason.TableFull) after.flight.lines 0) λ _. run seal (Some entries) after ls) ≡ tabled entries (run seal None after ls)
          room true e = next after m (leb-true after.flight.lines entries e)
          room false e =
              let g = leb-false after.flight.lines entries e in
              let n : after.flight.lines ≡ entries + 1 = omega (arith, m.lines) in
              rw (full entries (run seal None after ls) (omega (arith, run_goes ls after)), n)

  pub table_adds : (file : List ℕ) (entries : ℕ) → verdict seal file (Some entries) ≡ tabled entries (verdict seal file None)
  unfolding verdict good_lines
  table_adds file entries = by (leb 1 (length file)) (leb (length file) 16777216)
    where
      by : (a b : Bool)
          → (need a (no reason.Empty 0) λ _. need b (no reason.TooLong 0) λ _. run seal (Some entries) start (lines_of file))
          ≡ tabled entries (need a (no reason.Empty 0) λ _. need b (no reason.TooLong 0) λ _. run seal None start (lines_of file))
      by false b = rw (fits entries (no reason.Empty 0) (omega arith))
      by true false = rw (fits entries (no reason.TooLong 0) (omega arith))
      by true true = run_tabled entries (lines_of file) start (omega arith)

over_past : (es table : List ℕ) (n d : ℕ) → length es ≤ n → get_or (over es table) n d ≡ get_or table n d
over_past es table n d h =
    let e : length es + (n - length es) ≡ n = omega arith in
    rw e at (get_or-append-add es (drop (length es) table) (n - length es) d ∙ get_or-drop (length es) table (n - length es) d)

-- the lines before the faulty one; all, where the file is accepted
abbrev pub good_in : Seal → List ℕ → List ℕ → ℕ
good_in seal file table = good_lines (verdict seal file (Some (length table)))

-- lines are numbered from 1
abbrev pub offset_of : List ℕ → ℕ → ℕ
offset_of file n = get_or (offsets 0 (lines_of file)) (n - 1) 0

abbrev pub text_of : List ℕ → ℕ → List ℕ
text_of file n = get_or (texts_of (lines_of file)) (n - 1) []

-- line n by its number, in the table afterwards: its bounds and its bytes
pub record Numbered (seal : Seal) (file table : List ℕ) (n : ℕ) : Type 0 where
  pub bounds : bounds_of file (table_after seal file table) n ≡ says (record { from = offset_of file n; to = offset_of file n + length (text_of file n) })
  pub bytes : line_text file (bounds_of file (table_after seal file table) n) ≡ text_of file n

module _ (seal : Seal) (file table : List ℕ) where
  abbrev good : ℕ
  good = good_in seal file table

  within : good ≤ length table
  within = leb-true good (length table) (verdict_within seal (Some (length table)) file (le-leb 0 (length table) (omega arith))).1

  enough : good ≤ length (offsets 0 (lines_of file))
  enough = rw length_offsets (verdict_within seal (Some (length table)) file (le-leb 0 (length table) (omega arith))).0

  as_many : length (take good (offsets 0 (lines_of file))) ≡ good
  as_many = length-take-le good (offsets 0 (lines_of file)) enough

  pub table_length : length (table_after seal file table) ≡ length table
  unfolding table_after
  table_length =
      simp (length-append, length-drop, as_many) (omega (arith, within))

  -- "The table gets entries for the lines before the faulty one (16 or accepted: all lines)"
  pub entry_put : (n d : ℕ) → n < good → get_or (table_after seal file table) n d ≡ get_or (offsets 0 (lines_of file)) n d
  unfolding table_after
  entry_put n d h =
      get_or-append (take good (offsets 0 (lines_of file))) _ d n (rw as_many h) ∙ get_or-take good (offsets 0 (lines_of file)) n d h

  -- "the rest unchanged"
  pub entry_kept : (n d : ℕ) → good ≤ n → get_or (table_after seal file table) n d ≡ get_or table n d
  unfolding table_after
  entry_kept n d h = over_past (take good (offsets 0 (lines_of file))) table n d (rw as_many h)

  pub line_by_number : (n : ℕ) → 1 ≤ n → n ≤ good → Numbered seal file table n
  line_by_number n low high =
      let i : n - 1 < good = omega arith in
      let there : n ≤ length (table_after seal file table) = rw table_length (omega (arith, within)) in
      let leads = offset_leads file (n - 1) (omega (arith, (verdict_within seal (Some (length table)) file (le-leb 0 (length table) (omega arith))).0)) in record {
        bounds = bounds_lead file (table_after seal file table) n (offset_of file n) (text_of file n) low there (entry_put (n - 1) 0 i) leads;
        bytes = text_there file (table_after seal file table) n (offset_of file n) (text_of file n) low there (entry_put (n - 1) 0 i) leads;
      }

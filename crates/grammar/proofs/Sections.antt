-- The check goes through the lines of a file, each judged good after those before it, to where it stops, and answers as it stops. Lines that pass come part by part, each part's
-- lines are what the grammar calls them, and lines that the grammar allows pass. Assumes nothing.
use Rattle.std.specs.Prelude.{None, Option, Some}
use Prim.Native.Nat.{ℕ, ◌+◌, ◌≤◌, zero, suc, ◌-◌}
use Prim.Native.Char.{code}
use mathlib.Core.Bool.{true, false, Bool, cond}
use mathlib.Core.List.{List, [], ◌∷◌, ◌++◌, append_assoc, append-nil}
use mathlib.Core.Path.{◌≡◌, refl, sym, ◌∙◌, ap, subst}
use native.Mathlib.Omega.{arith}
use borrow.Author.Tests.{le-leb, leb-true, leb-false, eqb-false, ne_eqb}
use lib.ListN.{length, get_or}
use lib.Dec.{eqb, leb}
use Rattle.rules.specs.Choice.{need, Each}
use Rattle.rules.specs.Refusals.{number, Said, says, refuses, in_line, and_then}
use Rattle.rules.specs.Split.{Lines, end, broken, line, lines_of}
use Rattle.rules.specs.Order.{start, judge, moved, laid_out, signed_off, begun, pointed}
use Rattle.rules.specs.Files.{finish, has_room, run, ends_after}
use Rattle.rules.specs.declared.Reason.TheVariants as reason
use Rattle.rules.specs.declared.Flight.{Flight}
use Rattle.rules.specs.declared.Seal.{Seal}
use Rattle.rules.specs.declared.State.{State}
use Rattle.rules.specs.Families.{layout_of, count_of}
use Rattle.rules.specs.Layouts.{empty_layout}
use Rattle.rules.specs.Roles.{same_family, after_a, after_h, after_layout, in_body, after_g, after_last_g}
use Rattle.rules.specs.declared.Layout.{Layout}
use Rattle.rules.specs.declared.Layouts.{Layouts}
use Rattle.rules.specs.declared.Counts.{Counts}
use Rattle.rules.specs.declared.Family.{Family}
use Rattle.rules.specs.declared.Extra.TheVariants as extra
use Rattle.rules.specs.declared.Family.TheVariants as family
use Rattle.rules.specs.declared.Seal.TheVariants as needs
use Rattle.rules.proofs.Inverse.{refuses_says, false_true}
use Rattle.rules_laws.proofs.Chains.{by_test}
use Rattle.rules_laws.proofs.Splitting.{Text, cut, lines_of_line}
use Rattle.rules_laws.proofs.Counted.{judged_more}
use Rattle.grammar.specs.Grammar.{IsText, join_lines, Follows, OrderFrom, IsHLine, IsPointLine, IsLLine, IsGLine, AtMostOne, absent, given, Timed, columned, event, satellites, Untimed, differential, remark, other, Items, Body, undeclared, declared, SealedBy}
use Rattle.grammar.specs.Grammar as grammar
use Rattle.rules_sound.proofs.Families.{put_own, put_others}
use Rattle.grammar.proofs.EachLine.{e_said, f_said, columned_letter}
use Rattle.grammar.proofs.Leading.{Part, recorder, header, telling, body, seals, remarks, counted_by, after_timed, InBody, head, point, timed, quiet, Leads, a_line, date_line, h_line, layout_line, body_line, g_line, l_line, Sound, judge_leads, leads_judge, stays_sound}

-- ---- a run of good lines

-- each line is judged good after those before it, from one state to another
pub data Passes : State → List (List ℕ) → State → Type 0 where
  done : {st : State} → Passes st [] st
  next : {st m s : State} {l : List ℕ} {ls : List (List ℕ)} → judge l st ≡ says m → Passes m ls s → Passes st (l ∷ ls) s

pub passes_join : {a b c : State} {ls ks : List (List ℕ)} → Passes a ls b → Passes b ks c → Passes a (ls ++ ks) c
passes_join done q = q
passes_join (next e p) q = next e (passes_join p q)

pub lines_passed : {st s : State} {ls : List (List ℕ)} → Passes st ls s → s.flight.lines ≡ st.flight.lines + length ls
lines_passed done = omega arith
lines_passed (next {st = st} {m = m} {l = l} e p) = omega (arith, (judged_more l st m e).lines, lines_passed p)

pub all_passed : {s : State} {ls : List (List ℕ)} → Passes start ls s → s.flight.lines ≡ length ls
all_passed p = omega (arith, lines_passed p)

-- ---- lines, and then what is left

abbrev pub before : List (List ℕ) → Lines → Lines
before [] k = k
before (l ∷ ls) k = line l (before ls k)

pub text_is : (l : List ℕ) → Text l → IsText l
text_is [] h = tt
text_is (b ∷ l) h = ((h.0, h.1), text_is l h.2)

pub is_text : (l : List ℕ) → IsText l → Text l
is_text [] h = tt
is_text (b ∷ l) h = (h.0.0, h.0.1, is_text l h.1)

-- a file whose first lines are these is those lines, each with its CR LF, and what the others are read from
pub record Begins (file : List ℕ) (ls : List (List ℕ)) (k : Lines) : Type 0 where
  pub rest : List ℕ
  pub bytes : file ≡ join_lines ls ++ rest
  pub texts : Each IsText ls
  pub lines : lines_of rest ≡ k

pub begins : (ls : List (List ℕ)) (file : List ℕ) (k : Lines) → lines_of file ≡ before ls k → Begins file ls k
unfolding join_lines
begins [] file k e = record { rest = file; bytes = refl; texts = tt; lines = e }
begins (l ∷ ls) file k e =
    let c = cut file l (before ls k) e in
    let b = begins ls c.rest k c.lines in
    record {
      rest = b.rest;
      bytes = c.bytes ∙ ap (λ r. l ++ (13 ∷ 10 ∷ r)) b.bytes ∙ sym (append_assoc l (13 ∷ 10 ∷ join_lines ls) b.rest);
      texts = (text_is l c.clear, b.texts);
      lines = b.lines;
    }

pub lines_joined : (ls : List (List ℕ)) (rest : List ℕ) → Each IsText ls → lines_of (join_lines ls ++ rest) ≡ before ls (lines_of rest)
unfolding join_lines
lines_joined [] rest h = refl
lines_joined (l ∷ ls) rest h =
    ap lines_of (append_assoc l (13 ∷ 10 ∷ join_lines ls) rest)
    ∙ lines_of_line l (join_lines ls ++ rest) (is_text l h.0)
    ∙ ap (line l) (lines_joined ls rest h.1)

-- ---- where the check stops

-- a table that has room for more lines has room for fewer
fewer_fit : (room : Option ℕ) (n m : ℕ) → n ≤ m → has_room room m ≡ true → has_room room n ≡ true
fewer_fit None n m h e = refl
fewer_fit (Some entries) n m h e = let i = leb-true m entries e in le-leb n entries (omega arith)

pub none_fit : (room : Option ℕ) → has_room room 0 ≡ true
none_fit None = refl
none_fit (Some entries) = le-leb 0 entries (omega arith)

module _ (seal : Seal) (room : Option ℕ) where
  -- the check can go no further, and its answer
  pub data Stops (st : State) : Lines → Said Flight → Type 0 where
    ended : Stops st end (finish seal st)
    endless : (n : ℕ) → Stops st (broken n) (refuses (number reason.LineEnd) (st.flight.lines + 1) (n + 1))
    faulty : {l : List ℕ} {ls : Lines} (n k b : ℕ) → judge l st ≡ refuses n k b → Stops st (line l ls) (refuses n (st.flight.lines + 1) b)
    full : {l : List ℕ} {ls : Lines} (m : State) → judge l st ≡ says m → has_room room m.flight.lines ≡ false
        → Stops st (line l ls) (refuses (number reason.TableFull) m.flight.lines 0)

  -- the lines that pass, and where the check stops behind them
  pub record Comes (st : State) (k : Lines) (x : Said Flight) : Type 0 where
    pub lines : List (List ℕ)
    pub left : Lines
    pub state : State
    pub parted : k ≡ before lines left
    pub passes : Passes st lines state
    pub fits : has_room room state.flight.lines ≡ true
    pub stops : Stops state left x

  pub comes : (k : Lines) (st : State) → has_room room st.flight.lines ≡ true → Comes st k (run seal room st k)
  unfolding run
  comes end st h = record { lines = []; left = end; state = st; parted = refl; passes = done; fits = h; stops = ended }
  comes (broken n) st h = record { lines = []; left = broken n; state = st; parted = refl; passes = done; fits = h; stops = endless n }
  comes (line l ls) st h = go (judge l st) refl (λ m. comes ls m)
    where
      go : (x : Said State) → judge l st ≡ x → ((m : State) → has_room room m.flight.lines ≡ true → Comes m ls (run seal room m ls))
          → Comes st (line l ls) (and_then (in_line (st.flight.lines + 1) x) λ after.
          need (has_room room after.flight.lines) (refuses (number reason.TableFull) after.flight.lines 0) λ u. run seal room after ls)
      go (refuses n k b) e f = record { lines = []; left = line l ls; state = st; parted = refl; passes = done; fits = h; stops = faulty n k b e }
      go (says m) e f =
          by_test (Comes st (line l ls)) (has_room room m.flight.lines) _ _
          (λ q. record { lines = []; left = line l ls; state = st; parted = refl; passes = done; fits = h; stops = full m e q }) λ q.
          let c = f m q in
          record { lines = l ∷ c.lines; left = c.left; state = c.state; parted = ap (line l) c.parted; passes = next e c.passes; fits = c.fits; stops = c.stops }

  -- and back: the check goes through lines that pass, and answers as it stops

  pub passes_run : (k : Lines) {st s : State} {ls : List (List ℕ)} → Passes st ls s → has_room room s.flight.lines ≡ true → run seal room st (before ls k) ≡ run seal room s k
  unfolding run
  passes_run k done h = refl
  passes_run k (next {m = m} {s = s} e p) h =
      rw (e, fewer_fit room m.flight.lines s.flight.lines (omega (arith, lines_passed p)) h) (passes_run k p h)

  pub stops_run : (st : State) {k : Lines} {x : Said Flight} → Stops st k x → run seal room st k ≡ x
  unfolding run
  stops_run st ended = refl
  stops_run st (endless n) = refl
  stops_run st (faulty n k b e) = rw e
  stops_run st (full m e h) = rw (e, h)

  -- a value is said only at the end
  pub at_end : (st : State) (k : Lines) (x : Said Flight) (f : Flight) → Stops st k x → x ≡ says f → (k ≡ end) × (finish seal st ≡ says f)
  at_end st k x f ended e = (refl, e)
  at_end st k x f (endless n) e = absurd (refuses_says e)
  at_end st k x f (faulty n i b j) e = absurd (refuses_says e)
  at_end st k x f (full m j h) e = absurd (refuses_says e)

-- ---- parts come in their order

-- the stage behind the lines of a part
abbrev pub rank : Part → ℕ
rank recorder = after_a
rank header = after_h
rank (telling f) = after_layout f
rank body = in_body
rank seals = after_g
rank remarks = after_last_g

part_of : ℕ → Part
part_of n = get_or (recorder ∷ recorder ∷ header ∷ telling family.B ∷ telling (family.Extra extra.K) ∷ telling (family.Extra extra.N) ∷ body ∷ seals ∷ remarks ∷ []) n recorder

part_back : (p : Part) → part_of (rank p) ≡ p
unfolding part_of
part_back recorder = refl
part_back header = refl
part_back (telling family.B) = refl
part_back (telling (family.Extra extra.K)) = refl
part_back (telling (family.Extra extra.N)) = refl
part_back body = refl
part_back seals = refl
part_back remarks = refl

same_part : (p q : Part) → rank p ≡ rank q → p ≡ q
same_part p q e = sym (part_back p) ∙ ap part_of e ∙ part_back q

-- layouts are told behind the headers, and before the body
pub layout_stage : (f : Family) → (after_h ≤ after_layout f - 1) × (after_layout f ≤ in_body - 1)
layout_stage family.B = (omega arith, omega arith)
layout_stage (family.Extra extra.K) = (omega arith, omega arith)
layout_stage (family.Extra extra.N) = (omega arith, omega arith)

body_ranks : {st : State} {l : List ℕ} {m : State} → InBody st l m → m.stage ≡ in_body
body_ranks (head h z d b w) = refl
body_ranks (point h w) = refl
body_ranks (timed t w z o) = refl
body_ranks (quiet z w) = refl

ranks : {st : State} {l : List ℕ} {p : Part} {m : State} → Leads st l p m → (st.stage ≤ rank p) × (m.stage ≡ rank p) × (rank p ≤ after_last_g)
ranks (a_line z p w) = (omega arith, refl, omega arith)
ranks (date_line d a b p n w) = (b, refl, omega arith)
ranks (h_line a b p n w) = (b, refl, omega arith)
ranks (layout_line f i a b p w) = let s = layout_stage f in (omega arith, refl, omega arith)
ranks (body_line a b w) = (b, body_ranks w, omega arith)
ranks (g_line a b p w) = (b, refl, omega arith)
ranks (l_line a b p w) = (b, refl, omega arith)

-- lines of parts from n on, in the order of parts
pub data Above : ℕ → State → List (List ℕ) → State → Type 0 where
  no_more : {n : ℕ} {st : State} → Above n st [] st
  more : {n : ℕ} {st m s : State} {l : List ℕ} {ls : List (List ℕ)} (q : Part) → n ≤ rank q → Leads st l q m → Above (rank q) m ls s → Above n st (l ∷ ls) s

pub passes_above : {st s : State} {ls : List (List ℕ)} → Passes st ls s → Sound st → Above st.stage st ls s
passes_above done g = no_more
passes_above (next {st = st} {m = m} {s = s} {l = l} {ls = ls} e p) g =
    let w = judge_leads l st m g e in
    let r = ranks w.1 in
    more w.0 r.0 w.1 (subst (λ n. Above n m ls s) r.1 (passes_above p (stays_sound l st w.1 g)))

-- the lines of one part
pub data Section (p : Part) : State → List (List ℕ) → State → Type 0 where
  empty : {st : State} → Section p st [] st
  also : {st : State} {l : List ℕ} {m s : State} {ls : List (List ℕ)} → Leads st l p m → Section p m ls s → Section p st (l ∷ ls) s

-- the lines of a part, and then those of later parts
pub record Split (p : Part) (st : State) (ls : List (List ℕ)) (s : State) : Type 0 where
  pub front : List (List ℕ)
  pub rest : List (List ℕ)
  pub state : State
  pub lines : ls ≡ front ++ rest
  pub section : Section p st front state
  pub later : Above (suc (rank p)) state rest s

pub split : (p : Part) {n : ℕ} {st s : State} {ls : List (List ℕ)} → rank p ≤ n → Above n st ls s → Split p st ls s
split p h (no_more {st = st}) = record { front = []; rest = []; state = st; lines = refl; section = empty; later = no_more }
split p h (more {n = n} {st = st} {m = m} {s = s} {l = l} {ls = ls} q g w a) = go (leb (rank q) (rank p)) refl (λ i. split p i a)
  where
    go : (b : Bool) → leb (rank q) (rank p) ≡ b → (rank p ≤ rank q → Split p m ls s) → Split p st (l ∷ ls) s
    go true e f =
        let i : q ≡ p = same_part q p (omega (arith, leb-true (rank q) (rank p) e)) in
        let r = f (omega arith) in
        record { front = l ∷ r.front; rest = r.rest; state = r.state; lines = ap (λ x. l ∷ x) r.lines; section = also (rw i at w) r.section; later = r.later }
    go false e f =
        record { front = []; rest = l ∷ ls; state = st; lines = refl; section = empty; later = more q (leb-false _ _ e) w a }

pub above_end : {st s : State} {ls : List (List ℕ)} → Above (suc after_last_g) st ls s → (ls ≡ []) × (s ≡ st)
above_end no_more = (refl, refl)
above_end (more q g w a) = absurd (omega (arith, (ranks w).2))

-- lines of a part pass, and leave layouts that lines can tell
pub section_passes : {p : Part} {st m : State} {ls : List (List ℕ)} → Sound st → Section p st ls m → Passes st ls m × Sound m
section_passes g empty = (done, g)
section_passes g (also {st = st} {l = l} w r) = let x = section_passes (stays_sound l st w g) r in (next (leads_judge l st g w) x.0, x.1)

-- ---- what the lines of a part leave as it was

abbrev pub Same : State → State → Type 0
Same st m = (m.flight.date ≡ st.flight.date) × (m.flight.layouts ≡ st.flight.layouts)

-- no declaration, no B line and no time so far
abbrev pub Fresh : State → Type 0
Fresh st = (st.points ≡ 0) × (st.declared ≡ false) × (count_of family.B st.flight.counts ≡ 0) × (st.clock ≡ 0)

-- ---- H lines

pub record HeadersThere (st : State) (hs : List (List ℕ)) (m : State) : Type 0 where
  pub each : Each IsHLine hs
  pub same : Same st m
  pub fresh : Fresh st → Fresh m
  pub stage : m.stage ≡ after_h

pub headers_there : {st m : State} {hs : List (List ℕ)} → Section header st hs m → 2 ≤ st.flight.lines → st.stage ≡ after_h → HeadersThere st hs m
headers_there empty n e = record { each = tt; same = (refl, refl); fresh = λ f. f; stage = e }
headers_there (also (date_line d a b p i w) r) n e = absurd (omega arith)
headers_there (also (h_line a b p i w) r) n e =
    let x = headers_there r (omega arith) refl in
    record { each = (w, x.each); same = x.same; fresh = x.fresh; stage = x.stage }

pub headers_here : (hs : List (List ℕ)) (st : State) → Each IsHLine hs → 2 ≤ st.flight.lines → st.stage ≡ after_h → st.points ≡ 0 → (m : State) × Section header st hs m
headers_here [] st h n e p = (st, empty)
headers_here (l ∷ hs) st h n e p =
    let r = headers_here hs (moved after_h st) h.1 (omega arith) refl p in
    (r.0, also {st = st} (h_line (omega arith) (omega arith) p (λ z. omega arith) h.0) r.1)

-- ---- I, J and M lines

pub record LayoutThere (f : Family) (st : State) (ls : List (List ℕ)) (m : State) : Type 0 where
  pub one : AtMostOne f (layout_of f m.flight.layouts) ls
  pub date : m.flight.date ≡ st.flight.date
  pub others : (g : Family) → same_family g f ≡ false → layout_of g m.flight.layouts ≡ layout_of g st.flight.layouts
  pub fresh : Fresh st → Fresh m
  pub low : after_h ≤ m.stage
  pub high : m.stage ≤ after_layout f

pub layout_there : (f : Family) {st m : State} {ls : List (List ℕ)} → Section (telling f) st ls m → layout_of f st.flight.layouts ≡ empty_layout
    → after_h ≤ st.stage → st.stage ≤ after_layout f - 1 → LayoutThere f st ls m
layout_there f empty e a b = record { one = rw e absent; date = refl; others = λ g n. refl; fresh = λ x. x; low = a; high = omega arith }
layout_there f (also {st = st} (layout_line g i x y p w) empty) e a b = record {
  one = rw (put_own f i st.flight.layouts) (given w);
  date = refl;
  others = put_others f i st.flight.layouts;
  fresh = λ x. x;
  low = omega (arith, (layout_stage f).0);
  high = omega arith;
}
layout_there f (also (layout_line g i x y p w) (also (layout_line h j u v q z) r)) e a b = absurd (omega (arith, (layout_stage f).0))

pub layout_here : (f : Family) {layout : Layout} {ls : List (List ℕ)} (st : State) → AtMostOne f layout ls → layout_of f st.flight.layouts ≡ empty_layout
    → after_h ≤ st.stage → st.stage ≤ after_layout f - 1 → st.points ≡ 0 → (m : State) × Section (telling f) st ls m × (layout_of f m.flight.layouts ≡ layout)
layout_here f st absent e a b p = (st, empty, e)
layout_here f st (given {layout = i} w) e a b p = (laid_out f i (moved (after_layout f) st), also (layout_line f i a b p w) empty, put_own f i st.flight.layouts)

-- ---- the body

step_same : {st : State} {l : List ℕ} {m : State} → InBody st l m → Same st m
step_same (head h z d b w) = (refl, refl)
step_same (point h w) = (refl, refl)
step_same (timed t w z o) = (refl, refl)
step_same (quiet z w) = (refl, refl)

pub body_same : {st m : State} {ls : List (List ℕ)} → Section body st ls m → Same st m
body_same empty = (refl, refl)
body_same (also (body_line a b w) r) = let x = step_same w in let y = body_same r in (y.0 ∙ x.0, y.1 ∙ x.1)

pub body_stage : {st m : State} {ls : List (List ℕ)} → Section body st ls m → after_h ≤ st.stage → st.stage ≤ in_body → (after_h ≤ m.stage) × (m.stage ≤ in_body)
body_stage empty a b = (a, b)
body_stage (also (body_line x y w) r) a b = let e = body_ranks w in body_stage r (omega arith) (omega arith)

untimed_not_b : {l : List ℕ} → Untimed l → get_or l 0 0 ≡ code "B" → ⊥
untimed_not_b (differential w) e = omega (arith, w.letter)
untimed_not_b (remark w) e = omega (arith, w.letter)
untimed_not_b (other w) e = omega (arith, w.from)

-- how many B lines there are then
counted_by_lem : {layouts : Layouts} {t : ℕ} (l : List ℕ) (w : Timed layouts t l) (ns : Counts)
    → count_of family.B (counted_by w ns) ≡ count_of family.B ns + cond (eqb (get_or l 0 0) (code "B")) 1 0
counted_by_lem {layouts} {t} l (columned family.B w) ns = rw (columned_letter family.B layouts.b t l w)
counted_by_lem {layouts} {t} l (columned (family.Extra extra.K) w) ns = rw (columned_letter (family.Extra extra.K) layouts.k t l w) (omega arith)
counted_by_lem {layouts} {t} l (columned (family.Extra extra.N) w) ns = rw (columned_letter (family.Extra extra.N) layouts.n t l w) (omega arith)
counted_by_lem {layouts} {t} l (event w) ns = rw (e_said l t w).0 (omega arith)
counted_by_lem {layouts} {t} l (satellites w) ns = rw (f_said l t w).0 (omega arith)

-- the lines of a part of the grammar, and their times, which follow the time c
pub record Told (By : List (List ℕ) → List ℕ → Type 0) (c : ℕ) (ls : List (List ℕ)) : Type 0 where
  pub times : List ℕ
  pub lines : By ls times
  pub order : OrderFrom c times

timed_told : {By : List (List ℕ) → List ℕ → Type 0} (c t : ℕ) (l : List ℕ) (ls : List (List ℕ)) → Follows c t
    → ((ts : List ℕ) → By ls ts → By (l ∷ ls) (t ∷ ts)) → Told By t ls → Told By c (l ∷ ls)
timed_told c t l ls h f r = record { times = t ∷ r.times; lines = f r.times r.lines; order = (h, r.order) }

untimed_told : {By : List (List ℕ) → List ℕ → Type 0} (c : ℕ) (l : List ℕ) (ls : List (List ℕ))
    → ((ts : List ℕ) → By ls ts → By (l ∷ ls) ts) → Told By c ls → Told By c (l ∷ ls)
untimed_told c l ls f r = record { times = r.times; lines = f r.times r.lines; order = r.order }

-- no declaration can begin any more
abbrev Closed : State → Type 0
Closed st = st.declared ≡ false → count_of family.B st.flight.counts ≡ 0 → ⊥

module _ (layouts : Layouts) where
  -- the layouts of the grammar are those of the state
  abbrev Laid : State → Type 0
  Laid st = st.flight.layouts ≡ layouts

  -- where no declaration can begin, the lines are items
  items_there : {st m : State} {ls : List (List ℕ)} → Section body st ls m → Laid st → st.points ≡ 0 → Closed st → Told (Items layouts) st.clock ls
  items_there empty e p c = record { times = []; lines = grammar.done; order = tt }
  items_there (also (body_line a b (head h z d n w)) r) e p c = absurd (c d n)
  items_there (also (body_line a b (point h w)) r) e p c = absurd (omega arith)
  items_there (also {st = st} {l = l} {ls = ls} (body_line a b (timed t w z o)) r) e p c =
      timed_told st.clock t l ls o (λ ts. grammar.timed (rw e at w)) (items_there r e p (λ d n. c d (omega (arith, counted_by_lem l w st.flight.counts))))
  items_there (also {st = st} {l = l} {ls = ls} (body_line a b (quiet z w)) r) e p c =
      untimed_told st.clock l ls (λ ts. grammar.untimed w) (items_there r e p c)

  -- as many points as are to come, and then items
  points_there : (p : ℕ) {st m : State} {ls : List (List ℕ)} → Section body st ls m → Laid st → st.declared ≡ true → st.points ≡ p → m.points ≡ 0
      → (points rest : List (List ℕ)) × (ls ≡ points ++ rest) × Each IsPointLine points × (length points ≡ p) × Told (Items layouts) st.clock rest
  points_there zero {st} {m} {ls} s e d z n = ([], ls, refl, tt, refl, items_there s e z (λ q i. false_true (sym q ∙ d)))
  points_there (suc p) empty e d z n = absurd (omega arith)
  points_there (suc p) (also (body_line a b (head h i j k w)) r) e d z n = absurd (omega arith)
  points_there (suc p) (also {l = l} (body_line a b (point h w)) r) e d z n =
      let x = points_there p r e d (omega arith) n in
      (l ∷ x.0, x.1, ap (λ y. l ∷ y) x.2, (w, x.3), ap suc x.4, x.5)
  points_there (suc p) (also (body_line a b (timed t w i o)) r) e d z n = absurd (omega arith)
  points_there (suc p) (also (body_line a b (quiet i w)) r) e d z n = absurd (omega arith)

  -- a line that is no B line, before a body
  body_timed : {t : ℕ} {l : List ℕ} {ls : List (List ℕ)} → Timed layouts t l → (get_or l 0 0 ≡ code "B" → ⊥) → (ts : List ℕ) → Body layouts ls ts
      → Body layouts (l ∷ ls) (t ∷ ts)
  body_timed w n ts (undeclared i) = undeclared (grammar.timed w i)
  body_timed {l = l} w n ts (declared before hd points after h i no_b hl ps c j) = declared (l ∷ before) hd points after h (grammar.timed w i) (n, no_b) hl ps c j

  body_untimed : {l : List ℕ} {ls : List (List ℕ)} → Untimed l → (ts : List ℕ) → Body layouts ls ts → Body layouts (l ∷ ls) ts
  body_untimed w ts (undeclared i) = undeclared (grammar.untimed w i)
  body_untimed {l = l} w ts (declared before hd points after h i no_b hl ps c j) =
      declared (l ∷ before) hd points after h (grammar.untimed w i) (untimed_not_b w, no_b) hl ps c j

  items_body : {c : ℕ} {ls : List (List ℕ)} → Told (Items layouts) c ls → Told (Body layouts) c ls
  items_body r = record { times = r.times; lines = undeclared r.lines; order = r.order }

  pub body_there : {st m : State} {ls : List (List ℕ)} → Section body st ls m → Laid st → st.points ≡ 0 → st.declared ≡ false → count_of family.B st.flight.counts ≡ 0
      → m.points ≡ 0 → Told (Body layouts) st.clock ls
  body_there empty e p d n z = record { times = []; lines = undeclared grammar.done; order = tt }
  body_there (also {l = l} (body_line a b (head h x y i w)) r) e p d n z =
      let k = points_there (h.turns + 4) r e refl refl z in
      record {
        times = k.5.times;
        lines = subst (λ x. Body layouts (l ∷ x) k.5.times) (sym k.2) (declared {ts = []} [] l k.0 k.1 h grammar.done tt w k.3 k.4 k.5.lines);
        order = k.5.order;
      }
  body_there (also (body_line a b (point h w)) r) e p d n z = absurd (omega arith)
  body_there (also {st = st} {l = l} {ls = ls} (body_line a b (timed t w x o)) r) e p d n z = go (eqb (get_or l 0 0) (code "B")) refl (λ i. body_there r e p d i z)
    where
      now : Timed layouts t l
      now = rw e at w

      go : (b : Bool) → eqb (get_or l 0 0) (code "B") ≡ b → (count_of family.B (counted_by w st.flight.counts) ≡ 0 → Told (Body layouts) t ls) → Told (Body layouts) st.clock (l ∷ ls)
      go true q k =
          let c = counted_by_lem l w st.flight.counts in
          items_body (timed_told st.clock t l ls o (λ ts. grammar.timed now) (items_there r e p (λ f i. omega (arith, rw q at c))))
      go false q k =
          let c = counted_by_lem l w st.flight.counts in
          timed_told st.clock t l ls o (body_timed now (eqb-false _ _ q)) (k (omega (arith, rw q at c)))
  body_there (also {st = st} {l = l} {ls = ls} (body_line a b (quiet x w)) r) e p d n z =
      untimed_told st.clock l ls (body_untimed w) (body_there r e p d n z)

  -- ---- and back

  -- items, in time, pass; what comes behind them, in time too, follows their last time, and with no B line among them there are no more
  items_here : {ls : List (List ℕ)} {ts : List ℕ} (us : List ℕ) (st : State) (c : ℕ) → Items layouts ls ts → st.clock ≡ c → Laid st → after_h ≤ st.stage → st.stage ≤ in_body
      → st.points ≡ 0 → OrderFrom c (ts ++ us)
      → (m : State) × Section body st ls m × OrderFrom m.clock us × (m.points ≡ 0) × (m.declared ≡ st.declared)
      × (Each (λ l. get_or l 0 0 ≡ code "B" → ⊥) ls → count_of family.B m.flight.counts ≡ count_of family.B st.flight.counts)
  items_here us st c grammar.done i e a b p o = (st, empty, subst (λ x. OrderFrom x us) (sym i) o, p, refl, λ n. refl)
  items_here us st c (grammar.timed {l = l} {t = t} w r) i e a b p o =
      let v : Timed st.flight.layouts t l = rw e w in
      let x = items_here us (after_timed v (moved in_body st)) t r refl e (omega arith) (omega arith) p o.1 in
      let q = counted_by_lem l v st.flight.counts in
      (x.0, also {st = st} (body_line a b (timed t v p (rw i o.0))) x.1, x.2, x.3, x.4, λ n. x.5 n.1 ∙ omega (arith, rw (ne_eqb _ _ n.0) at q))
  items_here us st c (grammar.untimed w r) i e a b p o =
      let x = items_here us (moved in_body st) c r i e (omega arith) (omega arith) p o in
      (x.0, also (body_line a b (quiet p w)) x.1, x.2, x.3, x.4, λ n. x.5 n.1)

  -- the points of a declaration pass
  points_here : (ps : List (List ℕ)) (st : State) → Each IsPointLine ps → st.points ≡ length ps → after_h ≤ st.stage → st.stage ≤ in_body
      → (m : State) × Section body st ps m × (m.points ≡ 0) × (m.clock ≡ st.clock)
  points_here [] st h e a b = (st, empty, e, refl)
  points_here (l ∷ ps) st h e a b =
      let r = points_here ps (pointed (moved in_body st)) h.1 (omega arith) (omega arith) (omega arith) in
      (r.0, also {st = st} (body_line a b (point (omega arith) h.0)) r.1, r.2, r.3)

  section_join : {p : Part} {a b c : State} {ls ks : List (List ℕ)} → Section p a ls b → Section p b ks c → Section p a (ls ++ ks) c
  section_join empty q = q
  section_join (also w r) q = also w (section_join r q)

  pub body_here : {ls : List (List ℕ)} {ts : List ℕ} (st : State) → Body layouts ls ts → Laid st → Fresh st → after_h ≤ st.stage → st.stage ≤ in_body
      → OrderFrom st.clock ts → (m : State) × Section body st ls m × (m.points ≡ 0)
  body_here st (undeclared i) e f a b o =
      let r = items_here [] st st.clock i refl e a b f.0 (rw append-nil o) in
      (r.0, r.1, r.3)
  body_here st (declared {us = us} before hd points after h i no_b w ps c j) e f a b o =
      let r = items_here us st st.clock i refl e a b f.0 o in
      let x = body_stage r.1 a b in
      let k = points_here points (begun h (moved in_body r.0)) ps (sym c) (omega arith) (omega arith) in
      let z = body_stage k.1 (omega arith) (omega arith) in
      let q = items_here [] k.0 r.0.clock j k.3 ((body_same k.1).1 ∙ (body_same r.1).1 ∙ e) z.0 z.1 k.2 (rw append-nil r.2) in
      (q.0, section_join r.1 (also (body_line x.0 x.1 (head h r.3 (r.4 ∙ f.1) (r.5 no_b ∙ f.2) w)) (section_join k.1 q.1)), q.3)

-- ---- G lines, and L lines behind them

pub seals_there : {st m : State} {ls : List (List ℕ)} → Section seals st ls m → Each IsGLine ls × Same st m × (m.points ≡ st.points)
seals_there empty = (tt, (refl, refl), refl)
seals_there (also (g_line a b p w) r) = let x = seals_there r in ((w, x.0), x.1, x.2)

pub seals_here : (ls : List (List ℕ)) (st : State) → Each IsGLine ls → after_h ≤ st.stage → st.stage ≤ after_g
    → st.points ≡ 0 → (m : State) × Section seals st ls m × (st.stage ≤ m.stage) × (m.stage ≤ after_g) × (1 ≤ length ls → after_g ≤ m.stage)
seals_here [] st h a b p = (st, empty, omega arith, b, λ n. absurd (omega arith))
seals_here (l ∷ ls) st h a b p =
    let r = seals_here ls (signed_off (moved after_g st)) h.1 (omega arith) (omega arith) p in
    (r.0, also (g_line a b p h.0) r.1, omega arith, r.3, λ n. r.2)

pub remarks_there : {st m : State} {ls : List (List ℕ)} → Section remarks st ls m → Each IsLLine ls × Same st m × (m.points ≡ st.points)
remarks_there empty = (tt, (refl, refl), refl)
remarks_there (also (l_line a b p w) r) = let x = remarks_there r in ((w, x.0), x.1, x.2)

-- the file has what it must have at its end
pub seal_needed : (needs : Seal) {b g r : State} {gs ls : List (List ℕ)} → b.stage ≤ in_body → Section seals b gs g → Section remarks g ls r → ends_after needs ≤ r.stage → SealedBy needs gs
seal_needed needs.Usual h s t k = tt
seal_needed needs.Strict h empty empty k = absurd (omega arith)
seal_needed needs.Strict h empty (also (l_line a b p w) r) k = absurd (omega arith)
seal_needed needs.Strict h (also w r) t k = omega arith

-- an L line may come anywhere behind the headers: it is of the body, or behind the G lines
remark_led : (l : List ℕ) (st : State) → IsLLine l → after_h ≤ st.stage → st.stage ≤ after_last_g → st.points ≡ 0
    → (c : ℕ) × (st.stage ≤ c) × (c ≤ after_last_g) × ((p : Part) × Leads st l p (moved c st))
remark_led l st w a b p = go (leb st.stage in_body) refl
  where
    go : (t : Bool) → leb st.stage in_body ≡ t → (c : ℕ) × (st.stage ≤ c) × (c ≤ after_last_g) × ((p : Part) × Leads st l p (moved c st))
    go true q = let i = leb-true st.stage in_body q in (in_body, i, omega arith, (body, body_line a i (quiet p (remark w))))
    go false q = let i = leb-false st.stage in_body q in (after_last_g, b, omega arith, (remarks, l_line i b p w))

pub remarks_here : (ls : List (List ℕ)) (st : State) → Sound st → Each IsLLine ls → after_h ≤ st.stage → st.stage ≤ after_last_g → st.points ≡ 0
    → (m : State) × Passes st ls m × (m.points ≡ 0) × (st.stage ≤ m.stage) × Same st m
remarks_here [] st g h a b p = (st, done, p, omega arith, (refl, refl))
remarks_here (l ∷ ls) st g h a b p =
    let x = remark_led l st h.0 a b p in
    let r = remarks_here ls (moved x.0 st) g h.1 (omega (arith, x.1)) x.2 p in
    (r.0, next (leads_judge l st g x.3.1) r.1, r.2, omega (arith, x.1), r.4)

-- The lines of a file with added columns pass one after the other, as the old lines did, and the lines of each family read as before. Assumes nothing.
use Rattle.std.specs.Prelude.{None, Some}
use Prim.Native.Nat.{ℕ, ◌+◌, ◌≤◌, ◌<◌}
use mathlib.Core.Bool.{true, false}
use mathlib.Core.List.{List, [], ◌∷◌}
use mathlib.Core.Path.{◌≡◌, refl, sym, ap, subst, ◌∙◌}
use native.Mathlib.Omega.{arith}
use borrow.Author.Tests.{leb-true}
use lib.Dec.{leb, eqb}
use Rattle.rules.specs.Families.{first_start, layout_of, with_layout}
use Rattle.rules.specs.Refusals.{says}
use Rattle.rules.specs.Layouts.{empty_layout}
use Rattle.rules.specs.Roles.{is_front, is_of, at_start, after_a, after_h, after_layout, in_body, stage_after}
use Rattle.rules.specs.Split.{Lines, end, broken, line}
use Rattle.rules.specs.Order.{moved, laid_out, judge, start}
use Rattle.rules.specs.Files.{ends_after, finish, run}
use Rattle.rules.specs.declared.Layout.{Layout}
use Rattle.rules.specs.declared.Layouts.{Layouts}
use Rattle.rules.specs.declared.Family.{Family}
use Rattle.rules.specs.declared.Role.{Role}
use Rattle.rules.specs.declared.Flight.{Flight}
use Rattle.rules.specs.declared.Seal.{Seal}
use Rattle.rules.specs.declared.State.{State}
use Rattle.rules.proofs.Inverse.{refuses_says, false_true, need_inv}
use Rattle.rules_laws.proofs.Passing.{leading_inv, front_over, role_in, Leaves, opens, date, header, layout, columned as has_columns, head, point, event, satellites, differential, seals, remark, other, judged, ran, ran_so}
use Rattle.rules_sound.proofs.Families.{line_role, put_own, own_put, Beside, one, apart, beside}
use Rattle.rules_sound.proofs.Placed.{Sound, sound_line, sound_empty}
use Rattle.grammar_wider.specs.Wider.{Extends, AfterLayouts, done, same, columned, LayoutLines, all, without, changed, put, no_layouts, Wider, front, from}
use Rattle.grammar_wider.specs.Before.{lines_of_family}
use Rattle.grammar_wider.proofs.Families.{none_yet, Ordered, in_order}
use Rattle.grammar_wider.proofs.Judged.{wide_flight, wide, order_stage, Paired, bare_step, columned_step}
use Rattle.grammar_wider.proofs.Changing.{told_role, told_after, told_passes, staged, Behind, columned_behind, tells_behind, bare_behind, behind_front, judged_alike, sealed_alike}

-- ---- what is shown of the lines ls' of the new file, from its state on, where those of the old one are ls and say f

pub record Widened (seal : Seal) (st : State) (ls ls' : Lines) (f : Flight) (old new : Layouts) : Type 0 where
  pub lines : ℕ
  pub runs : run seal None st ls' ≡ says (wide_flight new lines f)
  pub told : f.layouts ≡ old
  pub pairs : (g : Family) → Paired old new g (lines_of_family g ls) (lines_of_family g ls')

-- with a line t' before the new ones
before_line : {seal : Seal} {st after : State} {ls ls' : Lines} {f : Flight} {old new : Layouts} (ms : Lines) (t' : List ℕ) → judge t' st ≡ says after
    → (r : Widened seal after ls ls' f old new)
    → ((g : Family) → Paired old new g (lines_of_family g ls) (lines_of_family g ls') → Paired old new g (lines_of_family g ms) (lines_of_family g (line t' ls')))
    → Widened seal st ms (line t' ls') f old new
before_line {seal = seal} {st = st} {after = after} {ls' = ls'} ms t' j r p = record {
  lines = r.lines;
  runs = ran_so seal None st t' ls' _ (record { after = after; judges = j; fits = refl; runs = r.runs });
  told = r.told;
  pairs = λ g. p g (r.pairs g);
}

-- ---- after the layout lines

-- the layouts of each family
abbrev Fit : Family → Layout → Layout → Type 0
Fit g i i' = Sound (first_start g) i × Sound (first_start g) i' × Extends i i'

abbrev pub Fine : Layouts → Layouts → Type 0
Fine old new = (g : Family) → Fit g (layout_of g old) (layout_of g new)

-- what a file says at its end
ended : (seal : Seal) (st : State) (f : Flight) → run seal None st end ≡ says f → (eqb st.points 0 ≡ true) × (leb (ends_after seal) st.stage ≡ true) × (st.flight ≡ f)
unfolding run finish
ended seal st f h =
    let w = need_inv (eqb st.points 0) _ (says f) _ refuses_says h in
    let v = need_inv (leb (ends_after seal) st.stage) _ (says f) _ refuses_says w.1 in
    (w.0, v.0, cc)

module _ (seal : Seal) (f : Flight) where
  at_end : (old new : Layouts) (st : State) (n : ℕ) → st.flight.layouts ≡ old → run seal None st end ≡ says f → Widened seal (wide new n st) end end f old new
  unfolding run finish
  at_end old new st n p h =
      let e = ended seal st f h in
      record { lines = n; runs = rw (e.0, e.1, ← e.2); told = rw (← e.2) p; pairs = λ g. tt }

  body : {old new : Layouts} {ls ls' : Lines} → Fine old new → AfterLayouts old new ls ls' → (st : State) (n : ℕ) → st.flight.layouts ≡ old → run seal None st ls ≡ says f
      → Widened seal (wide new n st) ls ls' f old new
  body {old = old} {new = new} fi done st n p h = at_end old new st n p h
  body {old = old} {new = new} fi (same {t = t} {ls = ls} x b) st n p h =
      let u = ran seal None st t ls f h in
      let d = bare_step old new n t st u.after x u.judges in
      before_line (line t ls) t d.judges (body fi b u.after (n + 1) (d.layouts ∙ p) u.runs) (λ g. d.pairs g _ _)
  body {old = old} {new = new} fi (columned {t = t} {t' = t'} {ls = ls} g k w b) st n p h =
      let u = ran seal None st t ls f h in
      let d = columned_step g old new t t' (fi g).0 (fi g).1 (fi g).2 k w n st u.after p u.judges in
      before_line (line t ls) t' d.judges (body fi b u.after (n + 1) (d.layouts ∙ p) u.runs) (λ g. d.pairs g _ _)

-- ---- behind the part `low`: the end, or a line that comes only behind the front

abbrev pub Begins : ℕ → Lines → Type 0
Begins low end = Unit {0}
Begins low (broken n) = Unit {0}
Begins low (line t ls) = Behind low (role_in t)

module _ (seal : Seal) (low : ℕ) (st : State) (early : st.stage ≤ low) where
  pub front_behind : (ls : Lines) (f : Flight) → Begins low ls → run seal None st ls ≡ says f → after_h ≤ st.stage
  unfolding run
  front_behind end f b h = omega (arith, front_over seal, leb-true (ends_after seal) st.stage (ended seal st f h).1)
  front_behind (broken n) f b h = absurd (refuses_says h)
  front_behind (line t ls) f b h = let u = ran seal None st t ls f h in behind_front low t b st early u.after u.judges

  run_alike : (ls : Lines) (s : ℕ) → Begins low ls → low < in_body → s ≤ low → after_h ≤ s → after_h ≤ st.stage → run seal None (staged s st) ls ≡ run seal None st ls
  unfolding run finish
  run_alike end s b i e a a' = rw (sealed_alike seal st.stage s a' (omega arith) a (omega arith))
  run_alike (broken n) s b i e a a' = refl
  run_alike (line t ls) s b i e a a' = rw (judged_alike low t b st early s e a a')

-- ---- the layout lines

ordered_from : (low low' : ℕ) (fs : List Family) → low ≤ low' → Ordered low' fs → Ordered low fs
ordered_from low low' [] h o = omega arith
ordered_from low low' (f ∷ fs) h o = (omega (arith, o.0), o.1)

in_body_lem : (low : ℕ) (fs : List Family) → Ordered low fs → low < in_body
in_body_lem low [] o = o
in_body_lem low (f ∷ fs) o = omega (arith, o.0, in_body_lem (after_layout f) fs o.1)

-- so begin the lines from there on
begins : {fs : List Family} {old new : Layouts} {ls ls' : Lines} (low : ℕ) → LayoutLines fs old new ls ls' → Ordered low fs → Begins low ls
begins low (all done) o = tt
begins low (all (same {t = t} x b)) o = bare_behind low (role_in t) x o
begins low (all (columned {t = t} f k w b)) o = rw (line_role f _ k) (columned_behind low f o)
begins low (without {f = f} {fs = fs} r) o = begins low r (ordered_from low (after_layout f) fs (omega (arith, o.0)) o.1)
begins low (changed {f = f} {t = t} {i = i} e e' x r) o = rw (told_role f t i e) (tells_behind low f o.0)
begins low (put {f = f} {fs = fs} e' r) o = begins low r (ordered_from low (after_layout f) fs (omega (arith, o.0)) o.1)

fine_with : (f : Family) (i i' : Layout) (old new : Layouts) → Fit f i i' → Fine old new → Fine (with_layout f i old) (with_layout f i' new)
fine_with f i i' old new x fi g = by g (beside f g)
  where
    by : (g : Family) → Beside f g → Fit g (layout_of g (with_layout f i old)) (layout_of g (with_layout f i' new))
    by g (one q) = rw (put_own g i old, put_own g i' new) x
    by g (apart q h) = rw (h i old, h i' new) (fi g)

-- no layout is told yet behind the part `low`
abbrev Later : ℕ → Layouts → Type 0
Later low ls = (g : Family) → low < after_layout g → layout_of g ls ≡ empty_layout

later_with : (low : ℕ) (f : Family) (i : Layout) (ls : Layouts) → low < after_layout f → Later low ls → Later (after_layout f) (with_layout f i ls)
later_with low f i ls h la g p = by g (beside f g) p
  where
    by : (g : Family) → Beside f g → after_layout f < after_layout g → layout_of g (with_layout f i ls) ≡ empty_layout
    by g (one q) p = absurd (omega arith)
    by g (apart q k) p = k i ls ∙ la g (omega arith)

-- what is shown of the lines from there on, whatever layouts they tell
pub record Went (seal : Seal) (st : State) (ls ls' : Lines) (f : Flight) : Type 0 where
  pub old : Layouts
  pub new : Layouts
  pub fine : Fine old new
  pub passed : Widened seal st ls ls' f old new

-- with a line t' before the new ones, and ms for the old ones, which is of no family
went_line : {seal : Seal} {st after : State} {ls ls' : Lines} {f : Flight} (ms : Lines) (t' : List ℕ) → judge t' st ≡ says after
    → ((g : Family) → (lines_of_family g ms ≡ lines_of_family g ls) × (is_of g (role_in t') ≡ false)) → Went seal after ls ls' f → Went seal st ms (line t' ls') f
went_line ms t' j p r = record {
  old = r.old;
  new = r.new;
  fine = r.fine;
  passed = before_line {old = r.old} {new = r.new} ms t' j r.passed (λ g y. rw ((p g).0, (p g).1) y);
}

module _ (seal : Seal) (f : Flight) where
  layouts_went : {fs : List Family} {old new : Layouts} {ls ls' : Lines} (low : ℕ) → LayoutLines fs old new ls ls' → Ordered low fs → Later low old → Fine old new
      → (st : State) (n : ℕ) → st.flight.layouts ≡ old → st.points ≡ 0 → after_h ≤ st.stage → st.stage ≤ low → run seal None st ls ≡ says f
      → Went seal (wide new n st) ls ls' f
  layouts_went {old = old} {new = new} low (all b) o la fi st n p z a c h = record { old = old; new = new; fine = fi; passed = body seal f fi b st n p h }
  layouts_went low (without {f = g} r) o la fi st n p z a c h =
      layouts_went (after_layout g) r o.1 (λ q k. la q (omega (arith, o.0))) fi st n p z a (omega (arith, o.0)) h
  layouts_went {old = old} {new = new} low (changed {f = g} {t = t} {t' = t'} {i = i} {i' = i'} {ls = ls} e e' x r) o la fi st n p z a c h =
      let u = ran seal None st t ls f h in
      let m = told_after g t i e st u.after u.judges in
      let w = layouts_went (after_layout g) r o.1 (later_with low g i old o.0 la) (fine_with g i i' old new (sound_line g t i e, sound_line g t' i' e', x) fi)
      (laid_out g i (moved (after_layout g) st)) (n + 1) (ap (with_layout g i) p) z (omega (arith, o.0)) (omega arith) (rw m u.runs) in
      let j = told_passes g t' i' e' (wide new n st) z a (omega (arith, o.0)) in
      went_line (line t ls) t' j (λ q. (rw (told_role g t i e), rw (told_role g t' i' e'))) w
  layouts_went {old = old} {new = new} low (put {f = g} {fs = fs} {t' = t'} {i' = i'} {ls = ls} e' r) o la fi st n p z a c h =
      let s = after_layout g in
      let q : with_layout g empty_layout old ≡ old = ap (λ y. with_layout g y old) (sym (la g (omega (arith, o.0)))) ∙ own_put g old in
      let fi' = rw q at (fine_with g empty_layout i' old new (sound_empty (first_start g), sound_line g t' i' e', tt) fi) in
      let same_run = run_alike seal s st (omega (arith, o.0)) ls s (begins s r o.1) (in_body_lem s fs o.1) (omega arith) (omega (arith, o.0)) a in
      let w = layouts_went s r o.1 (λ q k. la q (omega (arith, o.0))) fi' (staged s st) (n + 1) p z (omega (arith, o.0)) (omega arith) (same_run ∙ h) in
      let j = told_passes g t' i' e' (wide new n st) z a (omega (arith, o.0)) in
      went_line ls t' j (λ q. (refl, rw (told_role g t' i' e'))) w

-- ---- the A line and the H lines

record Early (st : State) : Type 0 where
  stage : st.stage ≤ after_h
  points : st.points ≡ 0
  layouts : st.flight.layouts ≡ no_layouts

early_left : (st : State) (s : ℕ) {l : List ℕ} {r : Role} {after : State} → Early st → is_front r ≡ true → stage_after r st.stage ≡ Some s → Leaves l (moved s st) r after
    → Early after × ((g : Family) → is_of g r ≡ false)
unfolding stage_after
early_left st s y x o (opens e) = (record { stage = omega (arith, (leading_inv at_start at_start after_a st.stage s o).2); points = y.points; layouts = y.layouts }, λ g. refl)
early_left st s y x o (date d z e) = (record { stage = omega (arith, (leading_inv after_a after_h after_h st.stage s o).2); points = y.points; layouts = y.layouts }, λ g. refl)
early_left st s y x o (header z e) = (record { stage = omega (arith, (leading_inv after_a after_h after_h st.stage s o).2); points = y.points; layouts = y.layouts }, λ g. refl)
early_left st s y x o (layout f i e) = absurd (false_true x)
early_left st s y x o (has_columns f t e w) = absurd (false_true x)
early_left st s y x o (head h z e) = absurd (false_true x)
early_left st s y x o (point p z e) = absurd (false_true x)
early_left st s y x o (event t e w) = absurd (false_true x)
early_left st s y x o (satellites t e w) = absurd (false_true x)
early_left st s y x o (differential e) = absurd (false_true x)
early_left st s y x o (seals e) = absurd (false_true x)
early_left st s y x o (remark e) = absurd (false_true x)
early_left st s y x o (other e) = absurd (false_true x)

none_fine : Fine no_layouts no_layouts
none_fine g = rw (none_yet g) (sound_empty (first_start g), sound_empty (first_start g), tt)

module _ (seal : Seal) (f : Flight) where
  went : {ls ls' : Lines} → Wider ls ls' → (st : State) → Early st → run seal None st ls ≡ says f → Went seal st ls ls' f
  went (from {ls = ls} {ls' = ls'} r) st y h =
      let a = front_behind seal after_h st y.stage ls f (begins after_h r in_order) h in
      let w = layouts_went seal f after_h r in_order (λ g p. none_yet g) none_fine st st.flight.lines y.layouts y.points a y.stage h in
      subst (λ x. Went seal (wide x st.flight.lines st) ls ls' f) (sym y.layouts) w
  went (front {t = t} {ls = ls} x w) st y h =
      let u = ran seal None st t ls f h in
      let j = judged t st u.after u.judges in
      let n = early_left st j.stage y x (order_stage (role_in t) st j.stage j.order) j.left in
      went_line (line t ls) t u.judges (λ g. (rw (n.1 g), n.1 g)) (went w u.after n.0 u.runs)

  -- from the first line on
  pub lines_went : {ls ls' : Lines} → Wider ls ls' → run seal None start ls ≡ says f → Went seal start ls ls' f
  lines_went w h = went w start (record { stage = omega arith; points = refl; layouts = refl }) h

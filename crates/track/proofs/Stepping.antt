-- Steps over the lines of a file whose B lines all read find its track: from each place on, what they find are the records of the lines that are left. Assumes nothing.
use Rattle.std.specs.Prelude.{None, Option, Some}
use Prim.Native.Nat.{ℕ, zero, suc, ◌+◌, ◌-◌, ◌≤◌, ◌<◌}
use Prim.Native.Char.{code}
use mathlib.Core.Bool.{Bool, true, false, cond}
use mathlib.Core.List.{List, [], ◌∷◌, ◌++◌}
use mathlib.Core.Path.{◌≡◌, refl, sym, ap, ◌∙◌}
use native.Mathlib.Omega.{arith}
use borrow.Author.Tests.{le-leb, leb-true, ne_eqb, eqb-true, eqb-false}
use lib.Dec.{eqb, leb}
use lib.ListN.{length, get_or, drop}
use lib.Seq.{get_or-take, get_or-drop}
use Rattle.rules.specs.Choice.{on, part}
use Rattle.rules.specs.Fixes.{finer_of, fields_of}
use Rattle.rules.specs.Layouts.{line_length}
use Rattle.rules.specs.Lines.{kind_of, is_sized, shaped, shaped_by, fix_fields}
use Rattle.rules.specs.Order.{Passing, onward, next_day, back, passing}
use Rattle.rules.specs.Reads.{fix_said}
use Rattle.rules.specs.Refusals.{says}
use Rattle.rules.specs.Split.{Lines, end, broken, line, lines_of}
use Rattle.rules.specs.Walk.{Walk, time_on, day_after, walked_by, walked}
use Rattle.rules.specs.declared.Family.TheVariants as family
use Rattle.rules.specs.declared.Finer.{Finer}
use Rattle.rules.specs.declared.Fix.{Fix}
use Rattle.rules.specs.declared.Layout.{Layout}
use Rattle.rules.proofs.Inverse.{refuses_says, need_inv, and_inv}
use Rattle.rules_laws.proofs.Splitting.{texts_of, line_at}
use Rattle.rules_trips.proofs.Columned.{by_said}
use Rattle.rules_trips.proofs.Fixes.{fields_said_lem, fix_front, fix_fields_lem}
use Rattle.grammar.specs.Grammar.{beginning}
use Rattle.line_finer.specs.Within.{fix_within}
use Rattle.line_finer.proofs.Read.{fix_made}
use Rattle.track_step.specs.Steps.{walk_of, behind, skipped, passed_by, read_at, is_few, step_of}
use Rattle.track_rules.specs.Track.{record_of, records_of, track_from}
use Rattle.track_rules.specs.declared.FixStep.{FixStep}
use Rattle.track_rules.specs.declared.Progress.{Progress}
use Rattle.track_rules.specs.declared.Record.{Record}
use Rattle.track_step.proofs.Going.{walk_lines}
use Rattle.track_rules.specs.Stored.{fixes_from}

-- ---- a B line that reads

sized : (start : ℕ) (layout : Layout) (t : List ℕ) → shaped_by start layout t ≡ says tt → length t ≡ line_length start layout
unfolding shaped_by shaped is_sized
sized start layout t e =
    let n = need_inv (is_sized (line_length start layout) (line_length start layout) t) _ (says tt) _ refuses_says e in
    let b = and_inv (leb (line_length start layout) (length t)) (leb (length t) (line_length start layout)) n.0 in
    omega (arith, leb-true (line_length start layout) (length t) b.0, leb-true (length t) (line_length start layout) b.1)

-- its letter, its length, its fields by themselves, its time, and its fix
pub record Fixed (layout : Layout) (t : List ℕ) (f : Fix) : Type 0 where
  pub letter : get_or t 0 0 ≡ code "B"
  pub long : length t ≡ line_length 36 layout
  pub fields : fix_fields t ≡ says (fields_of f)
  pub time : time_on t ≡ Some (fields_of f).time
  pub made : fix_within t (finer_of layout) (fields_of f) ≡ f

pub fixed : (layout : Layout) (t : List ℕ) (f : Fix) → fix_said t layout ≡ says f → Fixed layout t f
unfolding kind_of
fixed layout t f e =
    let v = fields_of f in
    let said = fix_fields_lem t layout f e in
    let w = by_said family.B t layout v said in
    let c = (fix_front.passes layout t v).0 w.2 in
    record { letter = w.0; long = sized 36 layout t c.shape; fields = fields_said_lem t v c.fields; time = rw w.0 c.fields.at_time; made = fix_made t layout f e }

-- ---- the walk of a progress

walk_behind : (o : Option ℕ) (p : Progress) (next : ℕ) → walk_of (behind o p next) ≡ walked_by o (walk_of p)
walk_behind None p next = refl
walk_behind (Some t) p next = refl

day_within : (a : Passing) (day lines : ℕ) → day ≤ lines → day_after a day ≤ lines + 1
day_within onward day lines h = omega arith
day_within next_day day lines h = omega arith
day_within back day lines h = omega arith

pub walk_within : (o : Option ℕ) (w : Walk) → w.day ≤ w.lines → (walked_by o w).day ≤ (walked_by o w).lines
walk_within None w h = omega arith
walk_within (Some t) w h = day_within (passing w.clock t) w.day w.lines h

-- the first byte of a line, in the file
first_there : (file t : List ℕ) (at b : ℕ) → part at (at + length t) file ≡ t → get_or t 0 0 ≡ suc b → get_or file at 0 ≡ suc b
first_there file [] at b e k = absurd (omega arith)
first_there file (x ∷ t) at b e k =
    let n : 0 < at + length (x ∷ t) - at = omega arith in
    let z : at + 0 ≡ at = omega arith in
    rw z at (sym (get_or-drop at file 0 0) ∙ sym (get_or-take (at + length (x ∷ t) - at) (drop at file) 0 0 n) ∙ ap (λ l. get_or l 0 0) e ∙ k)

-- ---- lines whose B lines all read

module _ (layout : Layout) where
  -- each B line reads
  abbrev pub AllRead : Lines → Type 0
  AllRead end = Unit {0}
  AllRead (broken n) = Unit {0}
  AllRead (line t ls) = (get_or t 0 0 ≡ code "B" → (f : Fix) × (fix_said t layout ≡ says f)) × AllRead ls

  pub other_said : (t : List ℕ) → (get_or t 0 0 ≡ code "B" → ⊥) → (w : Walk) → records_of w (fix_said t layout) ≡ []
  unfolding fix_said
  other_said t d w = rw (ne_eqb (get_or t 0 0) (code "B") d)

  -- how many they are: one for each B line
  pub as_many : (k : Lines) (w : Walk) → AllRead k → length (track_from layout w k) ≡ beginning (code "B") (texts_of k)
  unfolding track_from on beginning
  as_many end w r = refl
  as_many (broken n) w r = refl
  as_many (line t ls) w r = by (eqb (get_or t 0 0) (code "B")) refl (as_many ls (walked t w) r.1)
    where
      by : (b : Bool) → eqb (get_or t 0 0) (code "B") ≡ b → length (track_from layout (walked t w) ls) ≡ beginning (code "B") (texts_of ls)
          → length (records_of (walked t w) (fix_said t layout) ++ track_from layout (walked t w) ls) ≡ cond (eqb (get_or t 0 0) (code "B")) 1 0 + beginning (code "B") (texts_of ls)
      by true e later =
          let q = r.0 (eqb-true (get_or t 0 0) (code "B") e) in
          rw (q.1, e) (omega (arith, later))
      by false e later = rw (other_said t (eqb-false (get_or t 0 0) (code "B") e) (walked t w), e) (omega (arith, later))

module _ (file : List ℕ) (short : length file ≤ 16777216) (layout : Layout) where
  -- where the steps are: the lines that are left, and numbers that fit
  pub record Here (p : Progress) (k : Lines) : Type 0 where
    pub lines : lines_of (drop p.at file) ≡ k
    pub inside : p.at ≤ length file
    pub passed : p.lines ≤ p.at
    pub days : p.day ≤ p.lines
    pub size : p.size ≡ line_length 36 layout
    pub finer : p.finer ≡ finer_of layout

  few : (p : Progress) (k : Lines) → Here p k → is_few (length file) p ≡ true
  unfolding is_few
  few p k h = rw (le-leb (length file) 16777216 short, le-leb p.lines 16777216 (omega (arith, h.passed, h.inside)), le-leb p.day 16777216 (omega (arith, h.passed, h.inside, h.days)))

  -- behind a line
  here_next : (p : Progress) (t : List ℕ) (ls : Lines) (o : Option ℕ) (next : ℕ) → Here p (line t ls) → next ≡ p.at + length t + 2 → Here (behind o p next) ls
  here_next p t ls o next h e =
      let l = line_at file p.at t ls h.lines in
      record {
        lines = rw e l.after;
        inside = rw e l.inside;
        passed = omega (arith, walk_lines o (walk_of p), h.passed, e);
        days = walk_within o (walk_of p) h.days;
        size = h.size;
        finer = h.finer;
      }

  -- a step from a B line, and over another line
  step_fix : (p : Progress) (t : List ℕ) (ls : Lines) (f : Fix) → Here p (line t ls) → Fixed layout t f → step_of file p ≡ passed_by t p (p.at + p.size + 2) (fields_of f)
  unfolding step_of skipped read_at on
  step_fix p t ls f h w =
      let l = line_at file p.at t ls h.lines in
      let n : p.size ≡ length t = h.size ∙ sym w.long in
      let text : part p.at (p.at + p.size) file ≡ t = rw n l.text in
      let room : p.at + p.size + 2 ≤ length file = rw n l.inside in
      rw (few p (line t ls) h, h.lines, w.letter, le-leb (p.at + p.size + 2) (length file) room, first_there file t p.at 65 l.text w.letter, text, w.fields)

  step_over : (p : Progress) (t : List ℕ) (ls : Lines) → Here p (line t ls) → (get_or t 0 0 ≡ code "B" → ⊥) → step_of file p ≡ step_of file (behind (time_on t) p (p.at + length t + 2))
  unfolding step_of skipped on
  step_over p t ls h d =
      let q = here_next p t ls (time_on t) (p.at + length t + 2) h refl in
      rw (few p (line t ls) h, h.lines, ne_eqb (get_or t 0 0) (code "B") d, few (behind (time_on t) p (p.at + length t + 2)) ls q, q.lines)

  from_alike : (g : Progress → FixStep) (p q : Progress) (n : ℕ) → g p ≡ g q → fixes_from g p n ≡ fixes_from g q n
  unfolding fixes_from
  from_alike g p q zero e = refl
  from_alike g p q (suc n) e = rw e

  abbrev left : Progress → Lines → List Record
  left p k = track_from layout (walk_of p) k

  abbrev Found : Progress → Lines → Type 0
  Found p k = fixes_from (step_of file) p (length (left p k)) ≡ left p k

  -- the records of the lines that are left are what the steps find
  pub steps_find : (k : Lines) (p : Progress) → Here p k → AllRead layout k → Found p k
  unfolding track_from fixes_from on
  steps_find end p h r = refl
  steps_find (broken n) p h r = refl
  steps_find (line t ls) p h r = by (eqb (get_or t 0 0) (code "B")) refl (λ q g. steps_find ls q g r.1)
    where
      by : (b : Bool) → eqb (get_or t 0 0) (code "B") ≡ b → ((q : Progress) → Here q ls → Found q ls) → Found p (line t ls)
      by true e later =
          let q = r.0 (eqb-true (get_or t 0 0) (code "B") e) in
          let w = fixed layout t q.0 q.1 in
          let v = fields_of q.0 in
          let next = behind (Some v.time) p (p.at + p.size + 2) in
          let n : p.at + p.size + 2 ≡ p.at + length t + 2 = omega (arith, h.size, w.long) in
          let more = later next (here_next p t ls (Some v.time) (p.at + p.size + 2) h n) in
          let made : fix_within t p.finer v ≡ q.0 = ap (λ (fine : Finer). fix_within t fine v) h.finer ∙ w.made in
          rw (w.time, q.1, step_fix p t ls q.0 h w, made) (ap (λ (x : List Record). record_of (walked_by (Some v.time) (walk_of p)) q.0 ∷ x) more)
      by false e later =
          let d = eqb-false (get_or t 0 0) (code "B") e in
          let next = behind (time_on t) p (p.at + length t + 2) in
          let more = later next (here_next p t ls (time_on t) (p.at + length t + 2) h refl) in
          let same : left next ls ≡ track_from layout (walked t (walk_of p)) ls = ap (λ (w : Walk). track_from layout w ls) (walk_behind (time_on t) p (p.at + length t + 2)) in
          rw (other_said layout t d (walked t (walk_of p)), ← same) (from_alike (step_of file) p next (length (left next ls)) (step_over p t ls h d) ∙ more)

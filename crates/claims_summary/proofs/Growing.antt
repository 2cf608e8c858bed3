-- A file that has grown by B lines behind its last timed line: its layouts are those of the older file, and its fixes begin with the older file's. Assumes nothing.
use Rattle.std.specs.Prelude.{None}
use Prim.Native.Nat.{ℕ}
use Prim.Native.Char.{code}
use mathlib.Core.Bool.{Bool, true, false, cond}
use mathlib.Core.List.{List, [], ◌∷◌, ◌++◌, append_assoc, append-nil}
use mathlib.Core.Path.{◌≡◌, refl, sym, ap, ◌∙◌}
use lib.Dec.{eqb, leb}
use lib.ListN.{length, get_or}
use Rattle.rules.specs.Choice.{on}
use Rattle.rules.specs.Files.{ends_after, finish, run, verdict}
use Rattle.rules.specs.Order.{start}
use Rattle.rules.specs.Reads.{fix_said}
use Rattle.rules.specs.Refusals.{says}
use Rattle.rules.specs.Split.{Lines, end, broken, line, lines_of}
use Rattle.rules.specs.Walk.{Walk, set_out, walked}
use Rattle.rules.specs.declared.Family.TheVariants as family
use Rattle.rules.specs.declared.Flight.{Flight}
use Rattle.rules.specs.declared.Layout.{Layout}
use Rattle.rules.specs.declared.Seal.{Seal}
use Rattle.rules.specs.declared.State.{State}
use Rattle.rules.proofs.Inverse.{refuses_says, need_inv}
use Rattle.rules_laws.proofs.Passing.{ran}
use Rattle.rules_laws.proofs.Splitting.{texts_of}
use Rattle.grammar.specs.Coming.{is_among, IsTimed, those, first_entries, entries_told}
use Rattle.grammar.specs.Grammar.{laid}
use Rattle.grammar.proofs.Standing.{Stands, stands_start, stands_next, laid_out_lem}
use Rattle.track_rules.specs.Track.{records_of, track_from, track_of}
use Rattle.track_rules.specs.declared.Record.{Record}
use Rattle.track.proofs.Stepping.{other_said}
use Rattle.claims_summary.specs.Overview.{PutIn, done, put, kept, Grown}

-- ---- the layout of B lines, by the lines of the file

module _ (seal : Seal) (f : Flight) where
  record Ended (ls : List (List ℕ)) : Type 0 where
    pub state : State
    pub stands : Stands ls state
    pub flight : state.flight ≡ f

  ended : (k : Lines) (ls : List (List ℕ)) (st : State) → Stands ls st → run seal None st k ≡ says f → Ended (ls ++ texts_of k)
  unfolding run finish
  ended end ls st w e =
      let a = need_inv (eqb st.points 0) _ (says f) _ refuses_says e in
      let b = need_inv (leb (ends_after seal) st.stage) _ (says f) _ refuses_says a.1 in
      let z : says st.flight ≡ says f = b.1 in
      rw append-nil (record { state = st; stands = w; flight = cc })
  ended (broken n) ls st w e = absurd (refuses_says e)
  ended (line t k) ls st w e =
      let g = ran seal None st t k f e in
      rw (append_assoc ls (t ∷ []) (texts_of k)) at (ended k (ls ++ (t ∷ [])) g.after (stands_next ls t st g.after w g.judges) g.runs)

  layout_told : (file : List ℕ) → verdict seal file None ≡ says f → f.layouts.b ≡ laid (entries_told family.B (texts_of (lines_of file)))
  unfolding verdict
  layout_told file e =
      let a = need_inv (leb 1 (length file)) _ (says f) _ refuses_says e in
      let b = need_inv (leb (length file) 16777216) _ (says f) _ refuses_says a.1 in
      let x = ended (lines_of file) [] start stands_start b.1 in
      ap (λ (g : Flight). g.layouts.b) (sym x.flight) ∙ laid_out_lem family.B (x.stands.told family.B)

pub those_append : (x : ℕ) (a b : List (List ℕ)) → those x (a ++ b) ≡ those x a ++ those x b
unfolding those
those_append x [] b = refl
those_append x (l ∷ a) b = by (eqb (get_or l 0 0) x) (those_append x a b)
  where
    by : (t : Bool) → those x (a ++ b) ≡ those x a ++ those x b → cond t (l ∷ those x (a ++ b)) (those x (a ++ b)) ≡ cond t (l ∷ those x a) (those x a) ++ those x b
    by true e = ap (λ (k : List (List ℕ)). l ∷ k) e
    by false e = e

-- among the lines that tell the layout of B lines there is no B line
same_told : {a b : List (List ℕ)} → PutIn a b → those (code "I") b ≡ those (code "I") a
unfolding those
same_told done = refl
same_told (put {l = l} e p) = rw e (same_told p)
same_told (kept {l = l} h p) = ap (λ (k : List (List ℕ)). cond (eqb (get_or l 0 0) (code "I")) (l ∷ k) k) (same_told p)

same_lines : (older newer : List (List ℕ)) → Grown older newer → entries_told family.B newer ≡ entries_told family.B older
same_lines older newer g = ap first_entries (ap (those (code "I")) g.since ∙ those_append (code "I") g.same g.more ∙ ap (λ (k : List (List ℕ)). those (code "I") g.same ++ k) (same_told g.puts) ∙ sym (those_append (code "I") g.same g.rest) ∙ sym (ap (those (code "I")) g.before))

-- ---- the fixes, by the lines of the file

-- a line that is not timed is no B line
pub no_fix : (l : List ℕ) → (IsTimed l → ⊥) → get_or l 0 0 ≡ code "B" → ⊥
unfolding is_among
no_fix l h e = h (rw e refl)

module _ (layout : Layout) where
  abbrev fixes_on : Walk → List (List ℕ) → List Record
  fixes_on w [] = []
  fixes_on w (l ∷ ls) = records_of (walked l w) (fix_said l layout) ++ fixes_on (walked l w) ls

  fixes_are : (k : Lines) (w : Walk) → track_from layout w k ≡ fixes_on w (texts_of k)
  unfolding track_from on
  fixes_are end w = refl
  fixes_are (broken n) w = refl
  fixes_are (line t ls) w = ap (λ (rs : List Record). records_of (walked t w) (fix_said t layout) ++ rs) (fixes_are ls (walked t w))

  abbrev walked_over : Walk → List (List ℕ) → Walk
  walked_over w [] = w
  walked_over w (l ∷ ls) = walked_over (walked l w) ls

  fixes_append : (w : Walk) (a b : List (List ℕ)) → fixes_on w (a ++ b) ≡ fixes_on w a ++ fixes_on (walked_over w a) b
  fixes_append w [] b = refl
  fixes_append w (l ∷ a) b =
      ap (λ (rs : List Record). records_of (walked l w) (fix_said l layout) ++ rs) (fixes_append (walked l w) a b)
      ∙ sym (append_assoc (records_of (walked l w) (fix_said l layout)) (fixes_on (walked l w) a) (fixes_on (walked_over (walked l w) a) b))

  no_fixes : {a b : List (List ℕ)} → PutIn a b → (w : Walk) → fixes_on w a ≡ []
  no_fixes done w = refl
  no_fixes (put e p) w = no_fixes p w
  no_fixes (kept {l = l} h p) w = rw (other_said layout l (no_fix l h) (walked l w)) (no_fixes p (walked l w))

  fixes_grow : (older newer : List (List ℕ)) (g : Grown older newer) → fixes_on set_out newer ≡ fixes_on set_out older ++ fixes_on (walked_over set_out g.same) g.more
  fixes_grow older newer g =
      let w = walked_over set_out g.same in
      let o : fixes_on set_out older ≡ fixes_on set_out g.same = ap (fixes_on set_out) g.before ∙ fixes_append set_out g.same g.rest ∙ ap (λ (rs : List Record). fixes_on set_out g.same ++ rs) (no_fixes g.puts w) ∙ append-nil (fixes_on set_out g.same) in
      ap (fixes_on set_out) g.since ∙ fixes_append set_out g.same g.more ∙ ap (λ (rs : List Record). rs ++ fixes_on w g.more) (sym o)

-- the fixes of the newer file: those of the older one, and then others
pub record Longer (older newer : List ℕ) (f g : Flight) : Type 0 where
  pub others : List Record
  pub is : track_of newer g.layouts.b ≡ track_of older f.layouts.b ++ others

pub longer : (seal : Seal) (older newer : List ℕ) (f g : Flight) → verdict seal older None ≡ says f → verdict seal newer None ≡ says g → Grown (texts_of (lines_of older)) (texts_of (lines_of newer))
    → Longer older newer f g
longer seal older newer f g a b x =
    let l : g.layouts.b ≡ f.layouts.b = layout_told seal g newer b ∙ ap laid (same_lines (texts_of (lines_of older)) (texts_of (lines_of newer)) x) ∙ sym (layout_told seal f older a) in
    record {
      others = fixes_on f.layouts.b (walked_over f.layouts.b set_out x.same) x.more;
      is =
          ap (track_of newer) l
          ∙ fixes_are f.layouts.b (lines_of newer) set_out
          ∙ fixes_grow f.layouts.b (texts_of (lines_of older)) (texts_of (lines_of newer)) x
          ∙ ap (λ (rs : List Record). rs ++ fixes_on f.layouts.b (walked_over f.layouts.b set_out x.same) x.more) (sym (fixes_are f.layouts.b (lines_of older) set_out));
    }

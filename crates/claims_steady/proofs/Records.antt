-- The records of the track of a file with added columns, one after the other, beside those of the old file. Assumes nothing.
use Rattle.std.specs.Prelude.{None}
use Prim.Native.Nat.{ℕ, suc, ◌+◌, ◌<◌}
use Prim.Native.Char.{code}
use mathlib.Core.Bool.{Bool, true, false}
use mathlib.Core.List.{List, [], ◌∷◌, map}
use mathlib.Core.Path.{◌≡◌, refl, sym, ◌∙◌, ap, ap₂, subst}
use native.Mathlib.Nat.{zero-add}
use native.Mathlib.Omega.{arith}
use lib.ListN.{length, get_or}
use Rattle.rules.specs.Choice.{on}
use Rattle.rules.specs.Files.{verdict}
use Rattle.rules.specs.Refusals.{says}
use Rattle.rules.specs.Roles.{is_front, is_bare, is_of}
use Rattle.rules.specs.Split.{Lines, line, lines_of}
use Rattle.rules.specs.Walk.{Walk, set_out, time_on, walked}
use Rattle.rules.specs.declared.Family.{Family}
use Rattle.rules.specs.declared.Family.TheVariants as family
use Rattle.rules.specs.declared.Flight.{Flight}
use Rattle.rules.specs.declared.Layout.{Layout}
use Rattle.rules.specs.declared.Layouts.{Layouts}
use Rattle.rules.specs.declared.Role.{Role}
use Rattle.rules.specs.declared.Role.TheVariants as role
use Rattle.rules.proofs.Inverse.{false_true}
use Rattle.rules_laws.proofs.Counted.{family_counted}
use Rattle.rules_laws.proofs.Passing.{role_in}
use Rattle.rules_sound.proofs.Families.{line_role}
use Rattle.grammar.proofs.EachLine.{fix_alone}
use Rattle.grammar_wider.specs.Wider.{AfterLayouts, done, same, columned, LayoutLines, all, without, changed, put, Wider, front, from}
use Rattle.grammar_wider.specs.Before.{lines_of_family, AsBefore, ReadsAsBefore, put_into, put_in}
use Rattle.grammar_wider.proofs.Changing.{told_role}
use Rattle.grammar_wider.proofs.Kept.{family_tallied}
use Rattle.grammar_wider.proofs.Lists.{Pairs}
use Rattle.track_rules.specs.Track.{track_seal, track_from, track_of}
use Rattle.track.proofs.Stepping.{other_said}
use Rattle.grammar_wider.proofs.Letters.{first_kept}
use Rattle.claims_steady.specs.Steady.{RecordAsBefore}
use Rattle.claims_steady.proofs.Walks.{same_time, told_untimed, Ahead, both_on, one_on}

-- ---- two lists, element by element

module _ {A : Type 0} (R : A → A → Type 0) where
  pairs_from : (d : A) (xs ys : List A) → length ys ≡ length xs → ((n : ℕ) → n < length xs → R (get_or xs n d) (get_or ys n d)) → Pairs R xs ys
  pairs_from d [] [] e h = tt
  pairs_from d [] (y ∷ ys) e h = absurd (omega (arith, e))
  pairs_from d (x ∷ xs) [] e h = absurd (omega (arith, e))
  pairs_from d (x ∷ xs) (y ∷ ys) e h = (h 0 (omega arith), pairs_from d xs ys (omega (arith, e)) (λ n p. h (suc n) (omega arith)))

  -- what is made alike of each pair
  pub pairs_map : {B : Type 0} (make : A → B) → ((x y : A) → R x y → make y ≡ make x) → (xs ys : List A) → Pairs R xs ys → map make ys ≡ map make xs
  pairs_map make h [] [] p = refl
  pairs_map make h [] (y ∷ ys) p = absurd p
  pairs_map make h (x ∷ xs) [] p = absurd p
  pairs_map {B = B} make h (x ∷ xs) (y ∷ ys) p = ap₂ (λ (a : B) (l : List B). a ∷ l) (h x y p.0) (pairs_map make h xs ys p.1)

-- ---- which lines have a record

-- a role that lines with columns do not have
no_fix : (test : Role → Bool) → ((f : Family) → test (role.Columned f) ≡ false) → (r : Role) → test r ≡ true → is_of family.B r ≡ false
no_fix test n role.Opens x = refl
no_fix test n role.Heads x = refl
no_fix test n (role.Tells f) x = refl
no_fix test n (role.Columned f) x = absurd (false_true (sym (n f) ∙ x))
no_fix test n role.Declares x = refl
no_fix test n role.Event x = refl
no_fix test n role.Satellites x = refl
no_fix test n role.Differential x = refl
no_fix test n role.Seals x = refl
no_fix test n role.Remark x = refl
no_fix test n role.Other x = refl
no_fix test n role.NoRole x = refl

no_b : (t : List ℕ) → is_of family.B (role_in t) ≡ false → get_or t 0 0 ≡ code "B" → ⊥
no_b t e k = false_true (sym e ∙ ap (is_of family.B) (line_role family.B _ k))

module _ (old new : Layout) where
  abbrev Lined : Lines → Lines → Type 0
  Lined ls ls' = Pairs (AsBefore family.B old new) (lines_of_family family.B ls) (lines_of_family family.B ls')

  abbrev Recorded : ℕ → Walk → Walk → Lines → Lines → Type 0
  Recorded more v v' ls ls' = Pairs (RecordAsBefore old new more) (track_from old v ls) (track_from new v' ls')

  -- a line in each file that is no B line
  skip_both : (more : ℕ) (v v' : Walk) (t t' : List ℕ) (ls ls' : Lines) → is_of family.B (role_in t) ≡ false → is_of family.B (role_in t') ≡ false
      → Recorded more (walked t v) (walked t' v') ls ls' → Recorded more v v' (line t ls) (line t' ls')
  unfolding track_from on
  skip_both more v v' t t' ls ls' e e' r = rw (other_said old t (no_b t e) (walked t v), other_said new t' (no_b t' e') (walked t' v')) r

  -- a line in the new file alone
  skip_new : (more : ℕ) (v v' : Walk) (t' : List ℕ) (ls ls' : Lines) → is_of family.B (role_in t') ≡ false → Recorded more v (walked t' v') ls ls' → Recorded more v v' ls (line t' ls')
  unfolding track_from on
  skip_new more v v' t' ls ls' e' r = rw (other_said new t' (no_b t' e') (walked t' v')) r

  -- a line with columns in each
  columned_both : (more : ℕ) (v v' : Walk) (f : Family) (t t' : List ℕ) (ls ls' : Lines) → role_in t ≡ role.Columned f → role_in t' ≡ role.Columned f → Ahead more (walked t v) (walked t' v')
      → Lined (line t ls) (line t' ls') → (Lined ls ls' → Recorded more (walked t v) (walked t' v') ls ls') → Recorded more v v' (line t ls) (line t' ls')
  unfolding track_from on
  columned_both more v v' (family.Extra x) t t' ls ls' r r' a p later = skip_both more v v' t t' ls ls' (ap (is_of family.B) r) (ap (is_of family.B) r') (later (rw (r, r') at p))
  columned_both more v v' family.B t t' ls ls' r r' a p later =
      let q : AsBefore family.B old new t t' × Lined ls ls' = rw (r, r') at p in
      let x = q.0 in
      rw (fix_alone t old (record { value = x.value; entries = old }) x.before, fix_alone t' new (record { value = x.value'; entries = new }) x.after) (record { line = a.lines; day = a.day; fix = x.same }, later q.1)

  -- ---- the lines, in their order

  body : {o n : Layouts} {ls ls' : Lines} → AfterLayouts o n ls ls' → (more : ℕ) (v v' : Walk) → Ahead more v v' → Lined ls ls' → Recorded more v v' ls ls'
  unfolding track_from
  body done more v v' h p = tt
  body (same {t = t} {ls = ls} {ls' = ls'} x b) more v v' h p =
      let e = no_fix is_bare (λ f. refl) (role_in t) x in
      skip_both more v v' t t ls ls' e e (body b more (walked t v) (walked t v') (both_on more v v' (time_on t) h) (rw e at p))
  body (columned {t = t} {t' = t'} {ls = ls} {ls' = ls'} f x w b) more v v' h p =
      let a : Ahead more (walked t v) (walked t' v') = rw (same_time f t t' w.fields) (both_on more v v' (time_on t) h) in
      columned_both more v v' f t t' ls ls' (line_role f _ x) (line_role f _ (first_kept f t t' w.fields ∙ x)) a p (λ q. body b more (walked t v) (walked t' v') a q)

  layouts : {fs : List Family} {o n : Layouts} {ls ls' : Lines} (r : LayoutLines fs o n ls ls') (more : ℕ) (v v' : Walk) → Ahead more v v' → Lined ls ls' → Recorded (more + put_into r) v v' ls ls'
  layouts {ls = ls} {ls' = ls'} (all b) more v v' h p =
      let m : more ≡ more + 0 = omega arith in
      subst (λ (n : ℕ). Recorded n v v' ls ls') m (body b more v v' h p)
  layouts (without r) more v v' h p = layouts r more v v' h p
  layouts (changed {f = f} {t = t} {t' = t'} {ls = ls} {ls' = ls'} e e' x r) more v v' h p =
      let k : is_of family.B (role_in t) ≡ false = ap (is_of family.B) (told_role f t _ e) in
      let k' : is_of family.B (role_in t') ≡ false = ap (is_of family.B) (told_role f t' _ e') in
      let a : Ahead more (walked t v) (walked t' v') = rw (told_untimed f t _ e, told_untimed f t' _ e') (both_on more v v' None h) in
      skip_both (more + put_into r) v v' t t' ls ls' k k' (layouts r more (walked t v) (walked t' v') a (rw (k, k') at p))
  layouts (put {f = f} {t' = t'} {ls = ls} {ls' = ls'} e' r) more v v' h p =
      let k' : is_of family.B (role_in t') ≡ false = ap (is_of family.B) (told_role f t' _ e') in
      let m : more + 1 + put_into r ≡ more + (put_into r + 1) = omega arith in
      skip_new (more + (put_into r + 1)) v v' t' ls ls' k'
      (subst (λ (n : ℕ). Recorded n v (walked t' v') ls ls') m (layouts r (more + 1) v (walked t' v') (one_on more v v' t' (told_untimed f t' _ e') h) (rw k' at p)))

  lines : {ls ls' : Lines} (w : Wider ls ls') (v v' : Walk) → Ahead 0 v v' → Lined ls ls' → Recorded (put_in w) v v' ls ls'
  lines (front {t = t} {ls = ls} {ls' = ls'} x w) v v' h p =
      let e = no_fix is_front (λ f. refl) (role_in t) x in
      skip_both (put_in w) v v' t t ls ls' e e (lines w (walked t v) (walked t v') (both_on 0 v v' (time_on t) h) (rw e at p))
  lines (from {ls = ls} {ls' = ls'} r) v v' h p = subst (λ (n : ℕ). Recorded n v v' ls ls') (zero-add (put_into r)) (layouts r 0 v v' h p)

-- ---- the file

module _ (file file' : List ℕ) (f f' : Flight) (p : verdict track_seal file None ≡ says f) (q : verdict track_seal file' None ≡ says f') (wider : Wider (lines_of file) (lines_of file'))
    (w : ReadsAsBefore file file' f f' (put_in wider)) where
  fixes_paired : Pairs (AsBefore family.B f.layouts.b f'.layouts.b) (lines_of_family family.B (lines_of file)) (lines_of_family family.B (lines_of file'))
  fixes_paired =
      let n = family_tallied family.B (lines_of file) ∙ sym (family_counted track_seal file None f p family.B) in
      let n' = family_tallied family.B (lines_of file') ∙ sym (family_counted track_seal file' None f' q family.B) in
      pairs_from (AsBefore family.B f.layouts.b f'.layouts.b) [] (lines_of_family family.B (lines_of file)) (lines_of_family family.B (lines_of file')) (n' ∙ w.counts family.B ∙ sym n)
      (λ i h. w.columned family.B i (omega (arith, n, h)))

  pub records_paired : Pairs (RecordAsBefore f.layouts.b f'.layouts.b (put_in wider)) (track_of file f.layouts.b) (track_of file' f'.layouts.b)
  records_paired = lines f.layouts.b f'.layouts.b wider set_out set_out (record { lines = refl; clock = refl; day = refl }) fixes_paired

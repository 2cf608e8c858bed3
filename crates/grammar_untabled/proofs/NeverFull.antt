-- Where no table is lent, 15 isn't met: no check of a line has that number. Assumes nothing.
use Rattle.std.specs.Prelude.{None}
use Prim.Native.Nat.{ℕ, zero, suc, ◌+◌}
use mathlib.Core.Bool.{Bool, true, false, not, ◌&&◌, cond}
use mathlib.Core.List.{List, [], ◌∷◌, ◌++◌}
use mathlib.Core.Path.{◌≡◌, refl, sym, ◌∙◌, ap}
use native.Mathlib.Omega.{arith}
use lib.Dec.{eqb}
use lib.ListN.{length, get_or}
use Rattle.rules.specs.Lines.{kind_of}
use Rattle.rules.specs.Roles.{role_of}
use Rattle.rules.specs.Refusals.{refuses}
use Rattle.rules.specs.Files.{verdict}
use Rattle.rules.specs.declared.AtLimit.{AtLimit}
use Rattle.rules.specs.declared.Entry.{Entry}
use Rattle.rules.specs.declared.Family.{Family}
use Rattle.rules.specs.declared.Family.TheVariants as family
use Rattle.rules.specs.declared.Role.{Role}
use Rattle.rules.specs.declared.Role.TheVariants as role
use Rattle.rules.specs.declared.Seal.{Seal}
use Rattle.rules.proofs.Inverse.{false_true}
use Rattle.grammar.specs.Checks.{Check, one_each, shape_checks, column_checks, pair_checks, entry_checks, date_checks, header_checks, head_checks, point_checks, field_checks, role_checks, checks_of, FailsFirst}
use Rattle.grammar.specs.Coming.{is_open, entry_of}
use Rattle.grammar.specs.Faults.{Refused, empty, too_long, line_end, in_line, table_full, ends_early}
use Rattle.grammar.proofs.Refusing.{refused_first}

-- ---- the checks of a line

-- none of them has the number 15
abbrev clear : List Check → Bool
clear [] = true
clear (c ∷ cs) = not (eqb c.number 15) && clear cs

both : (cs ds : List Check) → clear (cs ++ ds) ≡ (clear cs && clear ds)
both [] ds = refl
both (c ∷ cs) ds = go (eqb c.number 15) (both cs ds)
  where
    go : (t : Bool) → clear (cs ++ ds) ≡ (clear cs && clear ds) → (not t && clear (cs ++ ds)) ≡ ((not t && clear cs) && clear ds)
    go true h = refl
    go false h = h

one_each_lem : {A : Type 0} (n : ℕ) (place : ℕ → A → ℕ) (test : A → Bool) (xs : List A) (at : ℕ) → eqb n 15 ≡ false → clear (one_each n place test xs at) ≡ true
unfolding one_each
one_each_lem n place test [] at e = refl
one_each_lem n place test (a ∷ xs) at e = rw e (one_each_lem n place test xs (suc at) e)

shape : (least most : ℕ) (in_h : Bool) (l : List ℕ) → clear (shape_checks least most in_h l) ≡ true
unfolding shape_checks
shape least most in_h l = one_each_lem 8 _ _ l 0 refl

columns : (at : AtLimit) (l : List ℕ) (es : List Entry) → clear (column_checks at l es) ≡ true
unfolding column_checks
columns at l es = one_each_lem 13 _ _ es 0 refl

pairs : (at : ℕ) (l : List ℕ) → clear (pair_checks at l) ≡ true
unfolding pair_checks
pairs at [] = refl
pairs at (a ∷ []) = refl
pairs at (a ∷ b ∷ l) = pairs (at + 2) l

entries : (left : ℕ) (l : List ℕ) (at start : ℕ) (before : List Entry) → clear (entry_checks left l at start before) ≡ true
unfolding entry_checks
entries zero l at start before = refl
entries (suc left) l at start before = entries left l (at + 7) ((entry_of l at).last + 1) (before ++ (entry_of l at ∷ []))

fields : (f : Family) (l : List ℕ) → clear (field_checks f l) ≡ true
fields family.B l = refl
fields (family.Extra x) l = refl

either : (t : Bool) (cs ds : List Check) → clear cs ≡ true → clear ds ≡ true → clear (cond t cs ds) ≡ true
either true cs ds h k = h
either false cs ds h k = k

of_role : (r : Role) (ls : List (List ℕ)) (l : List ℕ) → clear (role_checks r ls l) ≡ true
of_role role.Opens ls l = simp (both, shape)
of_role role.Heads ls l = either (eqb (length ls) 1) (date_checks l) (header_checks l) (simp (both, shape)) (simp (both, shape))
of_role (role.Tells f) ls l = simp (both, shape, entries)
of_role (role.Columned f) ls l = simp (both, shape, fields, columns)
of_role role.Declares ls l = either (is_open ls) (point_checks l) (head_checks l) (simp (both, shape)) (simp (both, shape))
of_role role.Event ls l = simp (both, shape)
of_role role.Satellites ls l = simp (both, shape, pairs)
of_role role.Differential ls l = simp (both, shape)
of_role role.Seals ls l = shape 2 255 false l
of_role role.Remark ls l = shape 1 99 false l
of_role role.Other ls l = shape 1 255 false l
of_role role.NoRole ls l = refl

-- so none that fails has it
clear_at : (cs : List Check) (c : Check) (ds : List Check) → clear (cs ++ (c ∷ ds)) ≡ true → eqb c.number 15 ≡ false
clear_at cs c ds e = go (clear cs) (eqb c.number 15) (sym (both cs (c ∷ ds)) ∙ e)
  where
    go : (s t : Bool) → (s && (not t && clear ds)) ≡ true → t ≡ false
    go true true h = absurd (false_true h)
    go true false h = refl
    go false t h = absurd (false_true h)

line_never_full : (ls : List (List ℕ)) (l : List ℕ) (n b : ℕ) → FailsFirst (checks_of ls l) n b → eqb n 15 ≡ false
unfolding checks_of
line_never_full ls l n b f =
    let all : clear (checks_of ls l) ≡ true = of_role (role_of (kind_of (get_or l 0 0))) ls l in
    ap (λ (k : ℕ). eqb k 15) (sym f.numbered) ∙ clear_at f.before f.failed f.after (ap clear (sym f.order) ∙ all)

-- ---- the check of a file without a table

refused_never_full : (seal : Seal) (file : List ℕ) (n l b : ℕ) → Refused seal file None n l b → eqb n 15 ≡ false
refused_never_full seal file n l b (empty _) = refl
refused_never_full seal file n l b (too_long _) = refl
refused_never_full seal file n l b (line_end _ _ _ _ _) = refl
refused_never_full seal file n l b (in_line ls t _ _ _ _ _ f) = line_never_full ls t n b f
refused_never_full seal file n l b (table_full ls _ _ _ _ _ e) = let z : ◌≡◌ {A = ℕ} 0 1 = cc in absurd (omega arith)
refused_never_full seal file n l b (ends_early _ _ _) = refl

pub check_never_full : (seal : Seal) (file : List ℕ) (n l b : ℕ) → verdict seal file None ≡ refuses n l b → eqb n 15 ≡ false
check_never_full seal file n l b e = refused_never_full seal file n l b ((refused_first seal file None n l b).0 e)

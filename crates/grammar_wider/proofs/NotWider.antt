-- Worked files that are no file of five lines with added columns: of each, what is computed is not what is proved of such files. Assumes nothing.
use Rattle.std.specs.Prelude.{None, Some}
use Prim.Native.Nat.{ℕ, ◌≤◌}
use Prim.Native.String.{String}
use mathlib.Core.Bool.{true, false}
use mathlib.Core.List.{List, [], ◌∷◌}
use mathlib.Core.Path.{◌≡◌, refl, sym, ap, ◌∙◌}
use native.Mathlib.Omega.{arith}
use lib.Dec.{lit≤, lit<}
use lib.ListN.{length}
use Rattle.rules.specs.Choice.{bytes}
use Rattle.rules.specs.Refusals.{Said, says, refuses}
use Rattle.rules.specs.Listed.{packed_of}
use Rattle.rules.specs.Layouts.{carries, empty_layout}
use Rattle.rules.specs.Files.{verdict}
use Rattle.rules.specs.declared.Family.TheVariants as family
use Rattle.rules.specs.declared.Fix.{Fix}
use Rattle.rules.specs.declared.Flight.{Flight}
use Rattle.rules.specs.declared.Layout.{Layout}
use Rattle.rules.specs.Reads.{Reading}
use Rattle.rules.specs.declared.Seal.TheVariants as seal
use Rattle.rules.proofs.Computed.{everything, file_of}
use Rattle.rules.proofs.Damaged.{five_lines, five_layout, verdict_of_five}
use Rattle.rules.proofs.Inverse.{refuses_says}
use Rattle.grammar_wider.specs.Wider.{WiderFile}
use Rattle.grammar_wider.specs.Before.{line_of, text_said, AsBefore, put_in, ReadsAsBefore}
use Rattle.grammar_wider.proofs.WholeFile.{reads_as_before}
use Rattle.grammar_wider.proofs.Instances.{told}

-- ---- what such a file must be

-- what is said of document 01's file, with another layout of its B lines
abbrev pub five : Layout → Flight
five i = record { date = record { day = 15; month = 7; year = 2024 }; layouts = record { b = i; k = empty_layout; n = empty_layout }; lines = 5; counts = record { b = 1; k = 0; n = 0 }; signed = true }

-- and of its first two lines alone
abbrev pub two : Flight
two = record { date = record { day = 15; month = 7; year = 2024 }; layouts = record { b = empty_layout; k = empty_layout; n = empty_layout }; lines = 2; counts = record { b = 0; k = 0; n = 0 }; signed = false }

module _ (file' : List ℕ) (long : length file' ≤ 16777216) (w : WiderFile five_lines file') where
  so : (f' : Flight) × (verdict seal.Strict file' None ≡ says f') × ReadsAsBefore five_lines file' (five five_layout) f' (put_in w)
  so = reads_as_before seal.Strict five_lines file' (Some 16) None (five five_layout) verdict_of_five w long refl

  is_accepted : (n l b : ℕ) → verdict seal.Strict file' None ≡ refuses n l b → ⊥
  is_accepted n l b e = refuses_says (sym e ∙ so.1)

  -- its first fix is read as before, and so is each of its old columns
  first_fix : (f : Flight) → verdict seal.Strict file' None ≡ says f → AsBefore family.B five_layout f.layouts.b (line_of family.B five_lines 0) (line_of family.B file' 0)
  first_fix f e = let i : so.0 ≡ f = cc so.1 in rw (← i) (so.2.columned family.B 0 (lit< tt))

  first_column : (f : Flight) (name : List ℕ) → verdict seal.Strict file' None ≡ says f → carries five_layout (packed_of name) ≡ true
      → text_said (line_of family.B file' 0) f.layouts.b name ≡ text_said (line_of family.B five_lines 0) five_layout name
  first_column f name e c = let a = (first_fix f e).text name c in a.2 ∙ sym a.1

-- ---- what is no such file

abbrev pub file_with : String → String → List ℕ
file_with i b = file_of ("AXYZ001" ∷ "HFDTE150724" ∷ i ∷ b ∷ "GABC" ∷ [])

-- FXA is 013, and was 012
abbrev pub text_changed : List ℕ
text_changed = file_with "I033638FXA3941ENL4243SIU" "B1200005130000N00015000WA001000012001334508"

pub text_changed_lem : WiderFile five_lines text_changed → ⊥
unfolding everything file_of told text_said
text_changed_lem w =
    let e = first_column text_changed (lit≤ tt) w (five (told family.B "I033638FXA3941ENL4243SIU")) (bytes "FXA") refl refl in
    let z : ◌≡◌ {A = ℕ} 50 51 = cc e in
    omega arith

-- the fix is one second later
abbrev pub value_changed : List ℕ
value_changed = file_with "I033638FXA3941ENL4243SIU" "B1200015130000N00015000WA001000012001234508"

abbrev seconds : Said (Reading Fix) → ℕ
seconds (says r) = r.value.time.count
seconds (refuses n l b) = 0

pub value_changed_lem : WiderFile five_lines value_changed → ⊥
unfolding everything file_of told
value_changed_lem w =
    let e = first_fix value_changed (lit≤ tt) w (five (told family.B "I033638FXA3941ENL4243SIU")) refl in
    let z : ◌≡◌ {A = ℕ} 43201 43200 = ap seconds e.after ∙ (e.same.time.missing refl).0 ∙ sym (ap seconds e.before) in
    omega arith

-- FXA is left out
abbrev pub left_out : List ℕ
left_out = file_with "I023638ENL3940SIU" "B1200005130000N00015000WA001000012034508"

pub left_out_lem : WiderFile five_lines left_out → ⊥
unfolding everything file_of told text_said
left_out_lem w = refuses_says {n = 19} {l = 0} {b = 0} (first_column left_out (lit≤ tt) w (five (told family.B "I023638ENL3940SIU")) (bytes "FXA") refl refl)

-- FXA is used twice
abbrev pub used_twice : List ℕ
used_twice = file_with "I033638FXA3940SIU4143FXA" "B1200005130000N00015000WA001000012001208345"

pub used_twice_lem : WiderFile five_lines used_twice → ⊥
unfolding everything file_of
used_twice_lem w = is_accepted used_twice (lit≤ tt) w 11 3 18 refl

-- the text of ENL, which is listed, is no digits
abbrev pub rule_broken : List ℕ
rule_broken = file_with "I033638FXA3940SIU4143ENL" "B1200005130000N00015000WA0010000120012083A5"

pub rule_broken_lem : WiderFile five_lines rule_broken → ⊥
unfolding everything file_of
rule_broken_lem w = is_accepted rule_broken (lit≤ tt) w 13 4 41 refl

-- the text of ZZZ, which is not listed, has an invalid character
abbrev pub character_invalid : List ℕ
character_invalid = file_with "I033638FXA3940SIU4142ZZZ" "B1200005130000N00015000WA001000012001208X!"

pub character_invalid_lem : WiderFile five_lines character_invalid → ⊥
unfolding everything file_of
character_invalid_lem w = is_accepted character_invalid (lit≤ tt) w 8 4 42 refl

-- a J line is put in before the I line
abbrev pub wrong_place : List ℕ
wrong_place = file_of ("AXYZ001" ∷ "HFDTE150724" ∷ "J010810HDT" ∷ "I023638FXA3940SIU" ∷ "B1200005130000N00015000WA001000012001208" ∷ "GABC" ∷ [])

pub wrong_place_lem : WiderFile five_lines wrong_place → ⊥
unfolding everything file_of
wrong_place_lem w = is_accepted wrong_place (lit≤ tt) w 6 4 1 refl

-- an M line is put in before the I line
abbrev pub too_early : List ℕ
too_early = file_of ("AXYZ001" ∷ "HFDTE150724" ∷ "M010810HRT" ∷ "I023638FXA3940SIU" ∷ "B1200005130000N00015000WA001000012001208" ∷ "GABC" ∷ [])

pub too_early_lem : WiderFile five_lines too_early → ⊥
unfolding everything file_of
too_early_lem w = is_accepted too_early (lit≤ tt) w 6 4 1 refl

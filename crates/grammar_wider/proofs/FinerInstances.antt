-- Worked files with columns of finer digits, each computed: LAD and TDS added to a file, another column added to a file that has LAD, and LAD added at 90 degrees, where only zeros
-- will do. Assumes nothing.
use Rattle.std.specs.Prelude.{None}
use Prim.Native.Nat.{ℕ}
use Prim.Native.Char.{code}
use mathlib.Core.Bool.{true}
use mathlib.Core.List.{List, [], ◌∷◌}
use mathlib.Core.Path.{◌≡◌, refl, sym, ◌∙◌}
use lib.Dec.{lit≤}
use lib.IntN.{pos}
use Rattle.rules.specs.Refusals.{says, refuses}
use Rattle.rules.specs.Files.{verdict}
use Rattle.rules.specs.Reads.{fix_said}
use Rattle.rules.specs.declared.Family.TheVariants as family
use Rattle.rules.specs.declared.Fix.{Fix}
use Rattle.rules.specs.declared.Flight.{Flight}
use Rattle.rules.specs.declared.Seal.TheVariants as seal
use Rattle.rules.proofs.Computed.{everything, file_of}
use Rattle.rules.proofs.Damaged.{five_lines, five_layout}
use Rattle.rules.proofs.Inverse.{refuses_says}
use Rattle.grammar_wider.specs.Wider.{width_in, text_in, limits_of, same, columned, done, changed, put, no_layouts, front, from, WiderFile}
use Rattle.grammar_wider.specs.Before.{line_of}
use Rattle.grammar_wider.proofs.WholeFile.{reads_as_before}
use Rattle.grammar_wider.proofs.Instances.{told, laid, rest, fit}

-- the fix of document 01's file, with this time and this latitude, each a count and its decimals
abbrev pub fix_at : ℕ → ℕ → ℕ → ℕ → Fix
fix_at time decimals lat more = record {
  time = record { count = time; decimals = decimals };
  lat = record { count = lat; letter = code "N"; decimals = more };
  lon = record { count = 15000; letter = code "W"; decimals = 0 };
  validity = code "A";
  pressure = record { metres = pos 100 };
  gnss = record { metres = pos 120 };
}

-- ---- added: the counts without the extra digits are the old ones

-- LAD, of three digits, and TDS, of one, put between FXA and SIU of document 01's file of five lines
abbrev pub finer_added : List ℕ
finer_added = file_of ("AXYZ001" ∷ "HFDTE150724" ∷ "I043638FXA3941LAD4242TDS4344SIU" ∷ "B1200005130000N00015000WA0010000120012123508" ∷ "GABC" ∷ [])

pub finer_added_lem : WiderFile five_lines finer_added
unfolding everything file_of width_in text_in limits_of told
finer_added_lem =
    front refl (front refl (from (changed {i = told family.B "I023638FXA3940SIU"} {i' = told family.B "I043638FXA3941LAD4242TDS4344SIU"} refl refl (refl, (refl, tt))
    (rest {old = laid "I023638FXA3940SIU" "" ""} {new = laid "I043638FXA3941LAD4242TDS4344SIU" "" ""}
    (columned family.B refl (record { fields = refl; long = refl; kept = (refl, (refl, tt)); added = (fit refl refl, (fit refl refl, (fit refl refl, (fit refl refl, tt)))) })
    (same refl done))))))

pub added_counts : (fix_said (line_of family.B five_lines 0) five_layout ≡ says (fix_at 43200 0 3090000 0))
    × (fix_said (line_of family.B finer_added 0) (told family.B "I043638FXA3941LAD4242TDS4344SIU") ≡ says (fix_at 432005 1 3090000123 3))
unfolding everything file_of told
added_counts = (refl, refl)

-- ---- kept: the counts and their decimals are the old ones

abbrev pub with_lad : List ℕ
with_lad = file_of ("AXYZ001" ∷ "HFDTE150724" ∷ "I013639LAD" ∷ "B1200005130000N00015000WA00100001201234" ∷ "GABC" ∷ [])

-- ENL put before LAD
abbrev pub lad_kept : List ℕ
lad_kept = file_of ("AXYZ001" ∷ "HFDTE150724" ∷ "I023638ENL3942LAD" ∷ "B1200005130000N00015000WA00100001203451234" ∷ "GABC" ∷ [])

pub lad_kept_lem : WiderFile with_lad lad_kept
unfolding everything file_of width_in text_in limits_of told
lad_kept_lem =
    front refl (front refl (from (changed {i = told family.B "I013639LAD"} {i' = told family.B "I023638ENL3942LAD"} refl refl (refl, tt)
    (rest {old = laid "I013639LAD" "" ""} {new = laid "I023638ENL3942LAD" "" ""}
    (columned family.B refl (record { fields = refl; long = refl; kept = (refl, tt); added = (fit refl refl, (fit refl refl, tt)) })
    (same refl done))))))

pub kept_counts : (fix_said (line_of family.B with_lad 0) (told family.B "I013639LAD") ≡ says (fix_at 43200 0 30900001234 4))
    × (fix_said (line_of family.B lad_kept 0) (told family.B "I023638ENL3942LAD") ≡ says (fix_at 43200 0 30900001234 4))
unfolding everything file_of told
kept_counts = (refl, refl)

-- ---- at 90 degrees

abbrev pub at_pole : List ℕ
at_pole = file_of ("AXYZ001" ∷ "HFDTE150724" ∷ "B1200009000000N00015000WA0010000120" ∷ "GABC" ∷ [])

-- zeros of LAD put in
abbrev pub zeros_added : List ℕ
zeros_added = file_of ("AXYZ001" ∷ "HFDTE150724" ∷ "I013637LAD" ∷ "B1200009000000N00015000WA001000012000" ∷ "GABC" ∷ [])

pub zeros_added_lem : WiderFile at_pole zeros_added
unfolding everything file_of width_in text_in limits_of told
zeros_added_lem =
    front refl (front refl (from (put {i' = told family.B "I013637LAD"} refl
    (rest {old = no_layouts} {new = laid "I013637LAD" "" ""}
    (columned family.B refl (record { fields = refl; long = refl; kept = tt; added = (fit refl refl, tt) })
    (same refl done))))))

-- other digits of LAD are against their rule there
abbrev pub past_pole : List ℕ
past_pole = file_of ("AXYZ001" ∷ "HFDTE150724" ∷ "I013637LAD" ∷ "B1200009000000N00015000WA001000012001" ∷ "GABC" ∷ [])

pub past_pole_lem : WiderFile at_pole past_pole → ⊥
unfolding everything file_of
past_pole_lem w =
    let f : Flight = record { date = record { day = 15; month = 7; year = 2024 }; layouts = no_layouts; lines = 4; counts = record { b = 1; k = 0; n = 0 }; signed = true } in
    let e : verdict seal.Strict past_pole None ≡ refuses 13 4 36 = refl in
    refuses_says (sym e ∙ (reads_as_before seal.Strict at_pole past_pole None None f refl w (lit≤ tt) refl).1)

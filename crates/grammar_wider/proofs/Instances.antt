-- Worked files with added columns, each computed: they show that such files are there, and of every sort. Assumes nothing.
use Prim.Native.Nat.{ℕ}
use Prim.Native.String.{String}
use mathlib.Core.Bool.{true, false}
use mathlib.Core.List.{List, [], ◌∷◌}
use mathlib.Core.Path.{◌≡◌, refl}
use Rattle.rules.specs.Choice.{bytes}
use Rattle.rules.specs.Refusals.{says, value_or}
use Rattle.rules.specs.Chars.{characters}
use Rattle.rules.specs.Listed.{keeps_limit}
use Rattle.rules.specs.Layouts.{empty_layout}
use Rattle.rules.specs.Split.{Lines}
use Rattle.rules.specs.Reads.{layout_said}
use Rattle.rules.specs.declared.AtLimit.{AtLimit}
use Rattle.rules.specs.declared.Layout.{Layout}
use Rattle.rules.specs.declared.Layouts.{Layouts}
use Rattle.rules.specs.declared.Extra.TheVariants as extra
use Rattle.rules.specs.declared.Family.{Family}
use Rattle.rules.specs.declared.Family.TheVariants as family
use Rattle.rules.proofs.Computed.{everything, file_of}
use Rattle.rules.proofs.Damaged.{five_lines}
use Rattle.rules.proofs.SignedFiles.{four_lines, two_lines}
use Rattle.grammar_wider.specs.Wider.{width_in, text_in, limits_of, KeepsRules, AfterLayouts, done, same, columned, LayoutLines, all, without, changed, put, no_layouts, front, from, WiderFile}
use Rattle.grammar_wider.specs.Before.{put_in}

-- the layout that a line tells, the empty one where it tells none; and the layouts that an I line, a J line and an M line tell
unfoldable pub told : Family → String → Layout
told f l = value_or empty_layout (layout_said f (bytes l))

abbrev pub laid : String → String → String → Layouts
laid i j m = record { b = told family.B i; k = told (family.Extra extra.K) j; n = told (family.Extra extra.N) m }

-- the lines after the layout lines, where no further family has one
abbrev pub rest : {fs : List Family} {old new : Layouts} {ls ls' : Lines} → AfterLayouts old new ls ls' → LayoutLines fs old new ls ls'
rest {fs = []} b = all b
rest {fs = f ∷ fs} b = without (rest b)

-- the text of a column keeps the rules, whether the column is an added one or not
pub fit : {at : AtLimit} {x : ℕ} {text : List ℕ} {A : Type 0} → characters false text ≡ says tt → keeps_limit at x text ≡ true → A → KeepsRules at x text
fit v r h = record { valid = v; rule = r }

-- ENL put between FXA and SIU of document 01's file of five lines
abbrev pub enl_between : List ℕ
enl_between = file_of ("AXYZ001" ∷ "HFDTE150724" ∷ "I033638FXA3941ENL4243SIU" ∷ "B1200005130000N00015000WA001000012001234508" ∷ "GABC" ∷ [])

pub between : WiderFile five_lines enl_between
unfolding everything file_of width_in text_in limits_of told
between =
    front refl (front refl (from (changed {i = told family.B "I023638FXA3940SIU"} {i' = told family.B "I033638FXA3941ENL4243SIU"} refl refl (refl, (refl, tt))
    (rest {old = laid "I023638FXA3940SIU" "" ""} {new = laid "I033638FXA3941ENL4243SIU" "" ""}
    (columned family.B refl (record { fields = refl; long = refl; kept = (refl, (refl, tt)); added = (fit refl refl, (fit refl refl, (fit refl refl, tt))) })
    (same refl done))))))

-- the same without the G line
abbrev pub enl_between_four : List ℕ
enl_between_four = file_of ("AXYZ001" ∷ "HFDTE150724" ∷ "I033638FXA3941ENL4243SIU" ∷ "B1200005130000N00015000WA001000012001234508" ∷ [])

pub between_four : WiderFile four_lines enl_between_four
unfolding everything file_of width_in text_in limits_of told
between_four =
    front refl (front refl (from (changed {i = told family.B "I023638FXA3940SIU"} {i' = told family.B "I033638FXA3941ENL4243SIU"} refl refl (refl, (refl, tt))
    (rest {old = laid "I023638FXA3940SIU" "" ""} {new = laid "I033638FXA3941ENL4243SIU" "" ""}
    (columned family.B refl (record { fields = refl; long = refl; kept = (refl, (refl, tt)); added = (fit refl refl, (fit refl refl, (fit refl refl, tt))) })
    done)))))

-- an I line put in behind the A line and the H line, where there is no other
abbrev pub two_and_i : List ℕ
two_and_i = file_of ("AXYZ001" ∷ "HFDTE150724" ∷ "I023638FXA3940SIU" ∷ [])

pub put_i_last : WiderFile two_lines two_and_i
unfolding everything file_of told
put_i_last = front refl (front refl (from (put {i' = told family.B "I023638FXA3940SIU"} refl (rest {old = no_layouts} {new = laid "I023638FXA3940SIU" "" ""} done))))

-- an unlisted code put before FXA, and the old columns in the other order
abbrev pub others_moved : List ℕ
others_moved = file_of ("AXYZ001" ∷ "HFDTE150724" ∷ "I033637ZZZ3839SIU4042FXA" ∷ "B1200005130000N00015000WA0010000120X-08012" ∷ "GABC" ∷ [])

pub before_and_moved : WiderFile five_lines others_moved
unfolding everything file_of width_in text_in limits_of told
before_and_moved =
    front refl (front refl (from (changed {i = told family.B "I023638FXA3940SIU"} {i' = told family.B "I033637ZZZ3839SIU4042FXA"} refl refl (refl, (refl, tt))
    (rest {old = laid "I023638FXA3940SIU" "" ""} {new = laid "I033637ZZZ3839SIU4042FXA" "" ""}
    (columned family.B refl (record { fields = refl; long = refl; kept = (refl, (refl, tt)); added = (fit refl refl, (fit refl refl, (fit refl refl, tt))) })
    (same refl done))))))

abbrev pub no_columns : List ℕ
no_columns = file_of ("AXYZ001" ∷ "HFDTE150724" ∷ "HFPLTPILOT" ∷ "B1200005130000N00015000WA0010000120" ∷ "K120004" ∷ "N120004" ∷ "E120005PEV" ∷ "B1200055130000N00015000WA0010000120" ∷ "GABC" ∷ [])

-- an I line put into a file that had none, after the last H line
abbrev pub with_i : List ℕ
with_i = file_of ("AXYZ001" ∷ "HFDTE150724" ∷ "HFPLTPILOT" ∷ "I013638ENL" ∷ "B1200005130000N00015000WA0010000120345" ∷ "K120004" ∷ "N120004" ∷ "E120005PEV" ∷ "B1200055130000N00015000WA0010000120999" ∷ "GABC" ∷ [])

pub put_i : WiderFile no_columns with_i
unfolding everything file_of width_in text_in limits_of told
put_i =
    front refl (front refl (front refl (from (put {i' = told family.B "I013638ENL"} refl
    (rest {old = no_layouts} {new = laid "I013638ENL" "" ""}
    (columned family.B refl (record { fields = refl; long = refl; kept = tt; added = (fit refl refl, tt) })
    (columned (family.Extra extra.K) refl (record { fields = refl; long = refl; kept = tt; added = tt })
    (columned (family.Extra extra.N) refl (record { fields = refl; long = refl; kept = tt; added = tt }) (same refl
    (columned family.B refl (record { fields = refl; long = refl; kept = tt; added = (fit refl refl, tt) }) (same refl done)))))))))))

-- a K column added where there was no J line: it is put in after the last H line
abbrev pub with_j : List ℕ
with_j = file_of ("AXYZ001" ∷ "HFDTE150724" ∷ "HFPLTPILOT" ∷ "J010810HDT" ∷ "B1200005130000N00015000WA0010000120" ∷ "K120004270" ∷ "N120004" ∷ "E120005PEV" ∷ "B1200055130000N00015000WA0010000120" ∷ "GABC" ∷ [])

pub put_j : WiderFile no_columns with_j
unfolding everything file_of width_in text_in limits_of told
put_j =
    front refl (front refl (front refl (from (without (put {i' = told (family.Extra extra.K) "J010810HDT"} refl
    (rest {old = no_layouts} {new = laid "" "J010810HDT" ""}
    (columned family.B refl (record { fields = refl; long = refl; kept = tt; added = tt })
    (columned (family.Extra extra.K) refl (record { fields = refl; long = refl; kept = tt; added = (fit refl refl, tt) })
    (columned (family.Extra extra.N) refl (record { fields = refl; long = refl; kept = tt; added = tt }) (same refl
    (columned family.B refl (record { fields = refl; long = refl; kept = tt; added = tt }) (same refl done))))))))))))

-- an N column added where there was no M line: with neither an I nor a J line it is put in after the last H line
abbrev pub with_m : List ℕ
with_m = file_of ("AXYZ001" ∷ "HFDTE150724" ∷ "HFPLTPILOT" ∷ "M010810HRT" ∷ "B1200005130000N00015000WA0010000120" ∷ "K120004" ∷ "N120004112" ∷ "E120005PEV" ∷ "B1200055130000N00015000WA0010000120" ∷ "GABC" ∷ [])

pub put_m : WiderFile no_columns with_m
unfolding everything file_of width_in text_in limits_of told
put_m =
    front refl (front refl (front refl (from (without (without (put {i' = told (family.Extra extra.N) "M010810HRT"} refl
    (rest {old = no_layouts} {new = laid "" "" "M010810HRT"}
    (columned family.B refl (record { fields = refl; long = refl; kept = tt; added = tt })
    (columned (family.Extra extra.K) refl (record { fields = refl; long = refl; kept = tt; added = tt })
    (columned (family.Extra extra.N) refl (record { fields = refl; long = refl; kept = tt; added = (fit refl refl, tt) }) (same refl
    (columned family.B refl (record { fields = refl; long = refl; kept = tt; added = tt }) (same refl done)))))))))))))

-- and where there is a J line, straight after that
abbrev pub with_j_and_m : List ℕ
with_j_and_m = file_of ("AXYZ001" ∷ "HFDTE150724" ∷ "HFPLTPILOT" ∷ "J010810HDT" ∷ "M010810HRT" ∷ "B1200005130000N00015000WA0010000120" ∷ "K120004270" ∷ "N120004112" ∷ "E120005PEV" ∷ "B1200055130000N00015000WA0010000120" ∷ "GABC" ∷ [])

pub put_m_behind : WiderFile with_j with_j_and_m
unfolding everything file_of width_in text_in limits_of told
put_m_behind =
    front refl (front refl (front refl (from (without (changed {i = told (family.Extra extra.K) "J010810HDT"} {i' = told (family.Extra extra.K) "J010810HDT"} refl refl (refl, tt)
    (put {i' = told (family.Extra extra.N) "M010810HRT"} refl
    (rest {old = laid "" "J010810HDT" ""} {new = laid "" "J010810HDT" "M010810HRT"}
    (columned family.B refl (record { fields = refl; long = refl; kept = tt; added = tt })
    (columned (family.Extra extra.K) refl (record { fields = refl; long = refl; kept = (refl, tt); added = (fit refl refl, tt) })
    (columned (family.Extra extra.N) refl (record { fields = refl; long = refl; kept = tt; added = (fit refl refl, tt) }) (same refl
    (columned family.B refl (record { fields = refl; long = refl; kept = tt; added = tt }) (same refl done)))))))))))))

-- all three put in
abbrev pub with_all : List ℕ
with_all = file_of ("AXYZ001" ∷ "HFDTE150724" ∷ "HFPLTPILOT" ∷ "I013638ENL" ∷ "J010810HDT" ∷ "M010810HRT" ∷ "B1200005130000N00015000WA0010000120345" ∷ "K120004270" ∷ "N120004112" ∷ "E120005PEV" ∷ "B1200055130000N00015000WA0010000120999" ∷ "GABC" ∷ [])

pub put_all : WiderFile no_columns with_all
unfolding everything file_of width_in text_in limits_of told
put_all =
    front refl (front refl (front refl (from (put {i' = told family.B "I013638ENL"} refl (put {i' = told (family.Extra extra.K) "J010810HDT"} refl
    (put {i' = told (family.Extra extra.N) "M010810HRT"} refl
    (rest {old = no_layouts} {new = laid "I013638ENL" "J010810HDT" "M010810HRT"}
    (columned family.B refl (record { fields = refl; long = refl; kept = tt; added = (fit refl refl, tt) })
    (columned (family.Extra extra.K) refl (record { fields = refl; long = refl; kept = tt; added = (fit refl refl, tt) })
    (columned (family.Extra extra.N) refl (record { fields = refl; long = refl; kept = tt; added = (fit refl refl, tt) }) (same refl
    (columned family.B refl (record { fields = refl; long = refl; kept = tt; added = (fit refl refl, tt) }) (same refl done)))))))))))))

-- with a line of every kind, a declaration among them
abbrev pub every_kind : List ℕ
every_kind = file_of ("AXYZ001" ∷ "HFDTE150724" ∷ "I00" ∷ "J010808TDS" ∷ "M010810HRT" ∷ "C150724093000150724000100" ∷ "C5130000N00015000W" ∷ "C5130000N00015000W" ∷ "C5130000N00015000W" ∷ "C5130000N00015000W" ∷ "D20331" ∷ "F115959" ∷ "B1200005130000N00015000WA0010000120" ∷ "K1200047" ∷ "N120004112" ∷ "E120005PEV" ∷ "LPILOT" ∷ "Z" ∷ "GABC" ∷ [])

-- I00 replaced, and a column put before the one of the K lines and before the one of the N lines
abbrev pub all_widened : List ℕ
all_widened = file_of ("AXYZ001" ∷ "HFDTE150724" ∷ "I023639DAE4040ZZZ" ∷ "J020810HDT1111TDS" ∷ "M020810OXY1113HRT" ∷ "C150724093000150724000100" ∷ "C5130000N00015000W" ∷ "C5130000N00015000W" ∷ "C5130000N00015000W" ∷ "C5130000N00015000W" ∷ "D20331" ∷ "F115959" ∷ "B1200005130000N00015000WA0010000120-012:" ∷ "K1200042707" ∷ "N120004098112" ∷ "E120005PEV" ∷ "LPILOT" ∷ "Z" ∷ "GABC" ∷ [])

pub all_widened_lem : WiderFile every_kind all_widened
unfolding everything file_of width_in text_in limits_of told
all_widened_lem =
    front refl (front refl (from (changed {i = empty_layout} {i' = told family.B "I023639DAE4040ZZZ"} refl refl tt
    (changed {i = told (family.Extra extra.K) "J010808TDS"} {i' = told (family.Extra extra.K) "J020810HDT1111TDS"} refl refl (refl, tt)
    (changed {i = told (family.Extra extra.N) "M010810HRT"} {i' = told (family.Extra extra.N) "M020810OXY1113HRT"} refl refl (refl, tt)
    (rest {old = laid "I00" "J010808TDS" "M010810HRT"} {new = laid "I023639DAE4040ZZZ" "J020810HDT1111TDS" "M020810OXY1113HRT"}
    (same refl (same refl (same refl (same refl (same refl (same refl (same refl
    (columned family.B refl (record { fields = refl; long = refl; kept = tt; added = (fit refl refl, (fit refl refl, tt)) })
    (columned (family.Extra extra.K) refl (record { fields = refl; long = refl; kept = (refl, tt); added = (fit refl refl, (fit refl refl, tt)) })
    (columned (family.Extra extra.N) refl (record { fields = refl; long = refl; kept = (refl, tt); added = (fit refl refl, (fit refl refl, tt)) })
    (same refl (same refl (same refl (same refl done))))))))))))))))))))

-- columns added to the B lines and to the N lines, and none to the K lines between them
abbrev pub some_widened : List ℕ
some_widened = file_of ("AXYZ001" ∷ "HFDTE150724" ∷ "I023639DAE4040ZZZ" ∷ "J010808TDS" ∷ "M020810HRT1113OXY" ∷ "C150724093000150724000100" ∷ "C5130000N00015000W" ∷ "C5130000N00015000W" ∷ "C5130000N00015000W" ∷ "C5130000N00015000W" ∷ "D20331" ∷ "F115959" ∷ "B1200005130000N00015000WA0010000120-012:" ∷ "K1200047" ∷ "N120004112098" ∷ "E120005PEV" ∷ "LPILOT" ∷ "Z" ∷ "GABC" ∷ [])

pub some_widened_lem : WiderFile every_kind some_widened
unfolding everything file_of width_in text_in limits_of told
some_widened_lem =
    front refl (front refl (from (changed {i = empty_layout} {i' = told family.B "I023639DAE4040ZZZ"} refl refl tt
    (changed {i = told (family.Extra extra.K) "J010808TDS"} {i' = told (family.Extra extra.K) "J010808TDS"} refl refl (refl, tt)
    (changed {i = told (family.Extra extra.N) "M010810HRT"} {i' = told (family.Extra extra.N) "M020810HRT1113OXY"} refl refl (refl, tt)
    (rest {old = laid "I00" "J010808TDS" "M010810HRT"} {new = laid "I023639DAE4040ZZZ" "J010808TDS" "M020810HRT1113OXY"}
    (same refl (same refl (same refl (same refl (same refl (same refl (same refl
    (columned family.B refl (record { fields = refl; long = refl; kept = tt; added = (fit refl refl, (fit refl refl, tt)) })
    (columned (family.Extra extra.K) refl (record { fields = refl; long = refl; kept = (refl, tt); added = (fit refl refl, tt) })
    (columned (family.Extra extra.N) refl (record { fields = refl; long = refl; kept = (refl, tt); added = (fit refl refl, (fit refl refl, tt)) })
    (same refl (same refl (same refl (same refl done))))))))))))))))))))

-- how many lines were put in
pub put_in_lem : (put_in between ≡ 0) × (put_in put_i ≡ 1) × (put_in put_j ≡ 1) × (put_in put_m ≡ 1) × (put_in put_m_behind ≡ 1) × (put_in put_all ≡ 3) × (put_in all_widened_lem ≡ 0) × (put_in some_widened_lem ≡ 0)
    × (put_in between_four ≡ 0) × (put_in put_i_last ≡ 1)
unfolding between put_i put_j put_m put_m_behind put_all all_widened_lem some_widened_lem between_four put_i_last
put_in_lem = (refl, refl, refl, refl, refl, refl, refl, refl, refl, refl)

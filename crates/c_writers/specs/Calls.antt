-- The promise of each call that writes a line, by name: an equation on the number returned, the answer and the lent output afterwards.
use Rattle.std.specs.Prelude.{ℕ, List, []}
use Rattle.rules.specs.Choice.{given}
use Rattle.rules.specs.Refusals.{Said, no}
use Rattle.rules.specs.Writes.{written, out_after, fix_text, extra_text, head_text, is_head, point_text, is_point}
use Rattle.rules.specs.declared.Fix.{Fix}
use Rattle.rules.specs.declared.Head.{Head}
use Rattle.rules.specs.declared.Point.{Point}
use Rattle.rules.specs.declared.Reason.TheVariants.{BadValue}
use Rattle.c_answers.specs.Answers.{size, in_numbers, has_room, AnsweredBeside}
use Rattle.c_given.specs.Given.{extra_of}
use Rattle.c_given_write.specs.Written.{fix_written, extra_written, layout_written, layout_text_by}
use Rattle.c_writers.specs.Values.{place_numbers}

-- what is said of a text that is to be written, in numbers, and the output afterwards; an answer of another length leaves it as it was
abbrev pub WriteAnswered : Said ℕ → List ℕ → ℕ → List ℕ → List ℕ → ℕ → List ℕ → List ℕ → Type 0
WriteAnswered said text place out answer r out_now answer_now =
    AnsweredBeside (has_room size answer) answer (in_numbers place_numbers said) out (out_after said text place out) r answer_now out_now

abbrev pub WriteFixAnswered : Fix → List ℕ → List ℕ → ℕ → List ℕ → List ℕ → ℕ → List ℕ → List ℕ → Type 0
WriteFixAnswered f columns l place out answer r out_now answer_now =
    WriteAnswered (fix_written f columns l place out) (fix_text f columns) place out answer r out_now answer_now

-- a K or an N line, by its letter: 17 for any other letter
unfoldable pub kind_written : ℕ → ℕ → List ℕ → List ℕ → ℕ → List ℕ → Said ℕ
kind_written kind t columns l place out = given (extra_of kind) (no BadValue 0) λ e. extra_written e t columns l place out

unfoldable pub kind_text : ℕ → ℕ → List ℕ → List ℕ
kind_text kind t columns = given (extra_of kind) [] λ e. extra_text e t columns

abbrev pub WriteExtraAnswered : ℕ → ℕ → List ℕ → List ℕ → ℕ → List ℕ → List ℕ → ℕ → List ℕ → List ℕ → Type 0
WriteExtraAnswered kind t columns l place out answer r out_now answer_now =
    WriteAnswered (kind_written kind t columns l place out) (kind_text kind t columns) place out answer r out_now answer_now

abbrev pub WriteLayoutAnswered : List ℕ → ℕ → List ℕ → List ℕ → ℕ → List ℕ → List ℕ → Type 0
WriteLayoutAnswered l place out answer r out_now answer_now = WriteAnswered (layout_written l place out) (layout_text_by l) place out answer r out_now answer_now

abbrev pub WriteHeadAnswered : Head → List ℕ → ℕ → List ℕ → List ℕ → ℕ → List ℕ → List ℕ → Type 0
WriteHeadAnswered h text place out answer r out_now answer_now =
    WriteAnswered (written (is_head h text) (head_text h text) place out) (head_text h text) place out answer r out_now answer_now

abbrev pub WritePointAnswered : Point → List ℕ → ℕ → List ℕ → List ℕ → ℕ → List ℕ → List ℕ → Type 0
WritePointAnswered p text place out answer r out_now answer_now =
    WriteAnswered (written (is_point p text) (point_text p text) place out) (point_text p text) place out answer r out_now answer_now

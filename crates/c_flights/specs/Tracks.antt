-- The values of an answer on a file's track, and the promises of the call and of what tells it: equations on the number returned, on the answer and on the list of records afterwards.
use Rattle.rules.specs.Refusals.{result_told}
use Rattle.rules.specs.declared.Refusal.{Refusal}
use Rattle.std.specs.Prelude.{ℕ, List, [], ◌∷◌, length, Result}
use Rattle.track_rules.specs.Track.{track_said, list_after}
use Rattle.track_rules.specs.declared.Record.{Record}
use Rattle.c_answers.specs.Answers.{size, in_numbers, has_room, AnsweredBeside, AnswerGiven}

-- "the count is the number of B lines"
abbrev pub count_numbers : ℕ → List ℕ
count_numbers n = n ∷ []

abbrev pub TrackTold : List ℕ → Result ℕ Refusal → ℕ → List ℕ → Type 0
TrackTold answer t r after = AnswerGiven answer (in_numbers count_numbers (result_told t)) r after

-- "all fixes of an accepted file in one call, as a lent list of fix records": the number returned, the answer and the list; an answer of another length leaves both as they were
abbrev pub TrackAnswered : List ℕ → List Record → List ℕ → ℕ → List Record → List ℕ → Type 0
TrackAnswered file list answer r list_now answer_now =
    AnsweredBeside (has_room size answer) answer (in_numbers count_numbers (track_said file (length list))) list (list_after file list) r answer_now list_now

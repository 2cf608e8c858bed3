-- `check_ahead::pace::other_line` meets its contract: each kind is judged as the check judges it. Assumes nothing.
use mathlib.Core.Path.{sym, ◌∙◌}
use Rattle.check_ahead.proofs.Lines.{ok_is, remark_told, event_told, satellites_told}
use Rattle.check_ahead.proofs.pace.other_line.Goals as goal
use Rattle.check_ahead.proofs.pace.other_line.Goals.{in-76+in_ok-ok-in-76, in-69+in_ok-time-in-69, in-70+in_ok-time-in-70}

pub returns : goal.returns
returns c = λ st g e n.
    elim c.match-letter.branch [
      | in-76+in_ok-ok-in-76 w ↦ remark_told _ st _ _ g n _ _ (e ∙ w.in-76.is) w.shaped.ensures (ok_is _ _ (sym w.ok.ensures.value ∙ w.in_ok-ok-in-76.was)) (rw w.time-is at c.after_time.ensures)
      | in-69+in_ok-time-in-69 w ↦ event_told _ st _ _ g n _ _ _ (e ∙ w.in-69.is) w.event.ensures (ok_is _ _ (sym w.ok-in-69.ensures.value ∙ w.in_ok-time-in-69.was)) (rw w.time-is at c.after_time.ensures)
      | in-70+in_ok-time-in-70 w ↦ satellites_told _ st _ _ g n _ _ _ (e ∙ w.in-70.is) w.satellites.ensures (ok_is _ _ (sym w.ok-in-70.ensures.value ∙ w.in_ok-time-in-70.was)) (rw w.time-is at c.after_time.ensures)
    ]

-- `check_judge::ruled_line` meets its contract: each arm is the rule of its role. Assumes nothing.
use borrow.Author.Rules.{rules}
use Rattle.rules.specs.Order.{ruled}
use Rattle.check_counts.proofs.Counting.{few_more}
use Rattle.check_judge.proofs.ruled_line.Goals as goal

pub returns-in-Opens : goal.returns-in-Opens
unfolding ruled
returns-in-Opens c = rw c.in-Opens.is (rw c.recorder.ensures at c.after_outcome.ensures)

pub returns-in-Heads : goal.returns-in-Heads
unfolding ruled
returns-in-Heads c = rw c.in-Heads.is c.judge_header.ensures

pub returns-in-Tells : goal.returns-in-Tells
unfolding ruled
returns-in-Tells c = rw c.in-Tells.is c.judge_layout.ensures

pub returns-in-Columned : goal.returns-in-Columned
unfolding ruled
returns-in-Columned c = rw c.in-Columned.is (rw (few_more _ _ c.requires) at c.judge_columned.ensures)

pub returns-in-Declares : goal.returns-in-Declares
unfolding ruled
returns-in-Declares c = rw c.in-Declares.is c.judge_declaration.ensures

pub returns-in-Event : goal.returns-in-Event
unfolding ruled
returns-in-Event c = rw c.in-Event.is (rw c.event.ensures at c.after_time.ensures)

pub returns-in-Satellites : goal.returns-in-Satellites
unfolding ruled
returns-in-Satellites c = rw c.in-Satellites.is (rw c.satellites.ensures at c.after_time-in-Satellites.ensures)

pub returns-in-Differential : goal.returns-in-Differential
unfolding ruled
returns-in-Differential c = rw c.in-Differential.is (rw c.differential.ensures at c.after_outcome-in-Differential.ensures)

pub returns-in-Seals : goal.returns-in-Seals
unfolding ruled
returns-in-Seals c = rw c.in-Seals.is c.judge_seal.ensures

pub returns-in-Remark : goal.returns-in-Remark
unfolding ruled
returns-in-Remark c = rw c.in-Remark.is c.judge_remark.ensures

pub returns-in-Other : goal.returns-in-Other
unfolding ruled
returns-in-Other c = rw c.in-Other.is c.judge_other.ensures

pub returns-in-NoRole : goal.returns-in-NoRole
unfolding ruled
returns-in-NoRole c = rw c.in-NoRole.is c.refused_at.ensures

-- `text_forms::put_line` meets its contract. Assumes nothing.
use borrow.Author.Rules.{rules}
use Rattle.text_forms.proofs.Laws.{track_line, csv_line, gpx_line}
use Rattle.text_forms.proofs.put_line.Goals as goal

pub returns-in-Track : goal.returns-in-Track
returns-in-Track c = search (track_line, rules)

pub returns-in-Csv : goal.returns-in-Csv
returns-in-Csv c = search (csv_line, rules)

pub returns-in-Gpx : goal.returns-in-Gpx
returns-in-Gpx c = search (gpx_line, rules)

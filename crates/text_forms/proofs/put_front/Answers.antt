-- `text_forms::put_front` meets its contract. Assumes nothing.
use borrow.Author.Rules.{rules}
use Rattle.text_forms.proofs.Laws.{track_front, csv_front, gpx_front}
use Rattle.text_forms.proofs.put_front.Goals as goal

pub returns-in-Track : goal.returns-in-Track
returns-in-Track c = search (track_front, rules)

pub returns-in-Csv : goal.returns-in-Csv
returns-in-Csv c = search (csv_front, rules)

pub returns-in-Gpx : goal.returns-in-Gpx
returns-in-Gpx c = search (gpx_front, rules)

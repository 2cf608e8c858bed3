-- `text_forms::put_back` meets its contract. Assumes nothing.
use borrow.Author.Rules.{rules}
use Rattle.text_forms.proofs.Laws.{track_back, csv_back, gpx_back}
use Rattle.text_forms.proofs.put_back.Goals as goal

pub returns-in-Track : goal.returns-in-Track
returns-in-Track c = search (track_back, rules)

pub returns-in-Csv : goal.returns-in-Csv
returns-in-Csv c = search (csv_back, rules)

pub returns-in-Gpx : goal.returns-in-Gpx
returns-in-Gpx c = search (gpx_back, rules)

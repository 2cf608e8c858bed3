-- `shelf_bytes::put_word` meets its contract: the number's four bytes stand there, or have no room. Assumes nothing.
use Rattle.shelf_bytes.proofs.Laws.{word_is}
use Rattle.shelf_bytes.proofs.put_word.Goals as goal

pub returns : goal.returns
returns c = rw (← word_is) (cc)

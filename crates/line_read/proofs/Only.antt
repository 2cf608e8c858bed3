-- One answer at most meets the promise of the reader of an H line. Assumes nothing.
use Prim.Native.Nat.{ℕ}
use mathlib.Core.List.{List}
use Rattle.rules_only.proofs.Told.{result_one}
use Rattle.rules_only.proofs.Only.{Only, alike}
use Rattle.line_read.specs.Headers.{HeaderGiven}

pub only_header_given : (l : List ℕ) → Only (HeaderGiven l)
only_header_given l = alike result_one

-- `byte_chars::is_text` meets its contract: where all bytes are valid in every line, none is invalid. Assumes nothing.
use Rattle.std.proofs.Common.{rules, fold, ◌&&◌, ◌≡◌, ◌∙◌, sym, true, false}
use Rattle.rules.specs.Chars.{is_valid}
use Rattle.byte_chars.proofs.Table.{none_invalid}
use Rattle.byte_chars.proofs.is_text.Goals as goal

pub returns : goal.returns
returns c =
    let e : c.fold.result ≡ fold (λ ok b. ok && is_valid false b) true c.args.line.now = search rules in
    λ t. none_invalid c.args.line.now (sym e ∙ t)

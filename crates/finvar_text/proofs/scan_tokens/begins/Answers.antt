use Rattle.finvar_text.proofs.ScanSteps.{prefix_is}
use Rattle.finvar_text.proofs.scan_tokens.begins.Goals as goal

pub returns : goal.returns
returns c = record { is = prefix_is c.starts_with.result c.args.word.now c.args.keyword.now c.starts_with.ensures.value }

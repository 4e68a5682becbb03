use Rattle.std.proofs.lemmas.Option.{IfSome_then}
use Rattle.invring_app.proofs.CommandLaws.{IsRequest-decided, IsRequest-limits, IsRequest-number}
use Rattle.invring_app.proofs.words.read_words.Goals as goal

pub returns : goal.returns
returns c =
    let decided = IsRequest-decided _ c.request_in.result c.request_in.ensures.is in
    record { some = decided.0; number = IfSome_then _ decided.0 (λ r is. IsRequest-number _ r is); limits = IfSome_then _ decided.0 (λ r is. IsRequest-limits _ r is); none = decided.1 }

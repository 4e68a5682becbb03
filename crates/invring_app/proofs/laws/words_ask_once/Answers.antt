use Rattle.invring_app.proofs.CommandLaws.{IsRequest-unique}
use Rattle.invring_app.proofs.laws.words_ask_once.Goals as goal

pub returns : goal.returns
returns c = record { one = IsRequest-unique }

use Rattle.finvar_text.proofs.Scans.{text_unique}
use Rattle.finvar_text.proofs.laws.trees_of_texts.Goals as goal

pub returns : goal.returns
returns c = record { one = text_unique }

use Rattle.certificate_io.proofs.LineTrees.{lines_are_one}
use Rattle.certificate_io.proofs.laws.lines_of_texts.Goals as goal

pub returns : goal.returns
returns c = record { one = lines_are_one }

use Rattle.groebner_hom.proofs.RelationsAbove.{nothing_with_marks}
use Rattle.groebner_hom.proofs.laws.ideals_with_marks.Goals as goal

pub returns : goal.returns
returns g c = record { within = nothing_with_marks }

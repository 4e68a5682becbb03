use Rattle.secondary_gens.proofs.OnePrinted.{printed_unique}
use Rattle.secondary_gens.proofs.SomePrinted.{printed_exists}
use Rattle.secondary_gens.proofs.laws.printed_combinations.Goals as goal

pub returns-clause-unique : goal.returns-clause-unique
returns-clause-unique g c = λ ws ds es θ S h s f a b p q. printed_unique (g.F.Field.field c.args._field.now) ws ds es θ S h s f a b p q

pub returns-clause-exists : goal.returns-clause-exists
returns-clause-exists g c = λ ws ds es θ S h positive s d f form over. printed_exists (g.F.Field.field c.args._field.now) ws ds es θ S h positive s d f form over

use Rattle.std.proofs.Common.{refl}
use Rattle.prime_field.proofs.gfp.PrimeField.new.Goals as goal

pub returns-in-2-clause-field : goal.returns-in-2-clause-field
returns-in-2-clause-field c = (_, refl)

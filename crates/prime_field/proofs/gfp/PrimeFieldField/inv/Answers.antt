use Rattle.prime_field.specs.ListedPrimes.{listed_prime}
use Rattle.prime_field.proofs.gfp.PrimeFieldField.inv.Goals as goal

pub inverse-requires-clause-prime : goal.inverse-requires-clause-prime
inverse-requires-clause-prime c = listed_prime c.args.self.now.p c.args.self.now.listed

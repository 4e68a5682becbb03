use Rattle.cert_check.proofs.MadeHolds.{made_holds}
use Rattle.cert_check.proofs.MadeOnce.{made_once}
use Rattle.cert_check.proofs.laws.made_certificates.Goals as goal

pub returns-clause-hold : goal.returns-clause-hold
returns-clause-hold c = λ k gens d tries well nonsingular made. made_holds k gens d tries well made nonsingular

pub returns-clause-one : goal.returns-clause-one
returns-clause-one c = λ k gens d e tries well other names made again. made_once k gens tries d well made e names other again

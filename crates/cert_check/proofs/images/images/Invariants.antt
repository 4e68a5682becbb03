use Rattle.std.proofs.Common.{◌++◌, length, take}
use Rattle.poly_module.specs.SpaceVectors.{vectors_of}
use Rattle.poly_module.specs.Variables.{variables}
use Rattle.finite_certificate.proofs.ImageSteps.{AreImages}
use Rattle.cert_check.proofs.CheckSpaces.{plain_of}
use Rattle.cert_check.proofs.images.images.Given as goal

abbrev pub invariant-loop-i : goal.invariant-loop-i
invariant-loop-i l =
    let S = plain_of l.space in
    AreImages S l.images.items (variables S.field l.i)

abbrev pub invariant-loop-i-2 : goal.invariant-loop-i-2
invariant-loop-i-2 l =
    let S = plain_of l.space in
    AreImages S l.images.items (variables S.field (length S.weights) ++ vectors_of S (λ m. m) (take l.i l.theta))

use Rattle.alg_core.specs.Keys.{key}
use Rattle.alg_core.specs.Spaces.{place}
use Rattle.module_groebner.proofs.CriterionSteps.{position_of}
use Rattle.algebra_tests.proofs.groebner.s_vector_of.Goals as goal

pub s_vector-requires-clause-position : goal.s_vector-requires-clause-position
s_vector-requires-clause-position g c =
    let s = place (λ m. m) c.in-Some-Some.s.now.at in
    let t = place (λ m. m) c.in-Some-Some.t.now.at in
    (key s, key t, c.in-Some-Some.ensures.lead, c.in-Some-Some.ensures'.lead, position_of s t c.if-s-t.false)

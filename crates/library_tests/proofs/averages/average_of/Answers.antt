use Rattle.std.proofs.Common.{◌≤◌, ℕ, List, length, sym, subst, arith}
use Rattle.lin_algebra.specs.declared.matrix.Matrix.{Matrix}
use Rattle.matrix_group.specs.Groups.{size}
use Rattle.prime_field.specs.PrimeFields.{gfp}
use Rattle.reynolds_op.specs.Averages.{IsAveraging}
use Rattle.library_tests.proofs.averages.average_of.Goals as goal

pub apply-requires-clause-averaging : goal.apply-requires-clause-averaging
apply-requires-clause-averaging g c =
    let f = c.args.space.now.field in
    let same = sym c.in-Some.ensures.elements in
    let few = c.requires.size in
    let three = c.in_ok-has_polynomials.ensures.three c.if-not-branch.false in
    let within : size c.args.group.now ≤ length c.args.space.now.grading.weights.items = omega (arith, few, three) in
    record {
      averaging = subst (λ (ms : List (Matrix ℕ)). IsAveraging (gfp f.p f.listed) (size ms) c.in-Some.reynolds) same c.in-Some.ensures.some;
      within = subst (λ (ms : List (Matrix ℕ)). size ms ≤ length c.args.space.now.grading.weights.items) same within;
    }

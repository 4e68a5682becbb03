use Rattle.invariant_space.proofs.Common.{◌∙◌, ap, length, sym, subst, arith, over, IsEchelonBasis, keys_of}
use Rattle.invariant_space.proofs.EchelonBasis.{basis_of_kernel}
use Rattle.invariant_space.proofs.ImageLaws.{level_monomials}
use Rattle.invariant_space.proofs.Places.{length_keys}
use Rattle.invariant_space.proofs.invariants.whole_basis.Goals as goal

pub index-monomials-requires : goal.index-monomials-requires
index-monomials-requires g c =
    let n = c.in_ok-level.ensures.level.sums.count in
    let w = c.args.space.now.grading.weights.ok.0 in
    let v = c.in_ok-level.level.sums.ok.0 in
    omega (arith, c.len.ensures)

pub equations-requires-clause-images : goal.equations-requires-clause-images
equations-requires-clause-images g c =
    let w = c.args.space.now.grading.weights.ok.0 in
    let p = c.index-monomials.result.now in
    let m = level_monomials (over g.F.Field.field g.O.TermOrder.order c.args.space.now) c.args.gens.now c.args.d c.len.result c.in_ok-level.level p c.deref.result.now (omega (arith, c.len.ensures)) c.in_ok-level.ensures.level c.index-monomials.ensures c.deref.ensures.value in
    (c.args.d, keys_of p, m.0, length_keys p ∙ sym (ap length c.terms-count.ensures.is), m.1)

pub kernel-requires : goal.kernel-requires
kernel-requires g c =
    let w = c.args.space.now.grading.weights.ok.0 in
    let p = c.index-monomials.result.now in
    let m = level_monomials (over g.F.Field.field g.O.TermOrder.order c.args.space.now) c.args.gens.now c.args.d c.len.result c.in_ok-level.level p c.deref.result.now (omega (arith, c.len.ensures)) c.in_ok-level.ensures.level c.index-monomials.ensures c.deref.ensures.value in
    record { matrix = (c.in_ok-equations.ensures.equations c.args.d (keys_of p) m.0 (length_keys p ∙ sym (ap length c.terms-count.ensures.is)) m.1).matrix }

pub polynomials-requires-clause-monomials : goal.polynomials-requires-clause-monomials
polynomials-requires-clause-monomials g c =
    let w = c.args.space.now.grading.weights.ok.0 in
    (level_monomials (over g.F.Field.field g.O.TermOrder.order c.args.space.now) c.args.gens.now c.args.d c.len.result c.in_ok-level.level c.index-monomials.result.now c.deref.result.now (omega (arith, c.len.ensures)) c.in_ok-level.ensures.level c.index-monomials.ensures c.deref.ensures.value).2

pub polynomials-requires-clause-columns : goal.polynomials-requires-clause-columns
polynomials-requires-clause-columns g c =
    let w = c.args.space.now.grading.weights.ok.0 in
    let p = c.index-monomials.result.now in
    let m = level_monomials (over g.F.Field.field g.O.TermOrder.order c.args.space.now) c.args.gens.now c.args.d c.len.result c.in_ok-level.level p c.deref.result.now (omega (arith, c.len.ensures)) c.in_ok-level.ensures.level c.index-monomials.ensures c.deref.ensures.value in
    c.in_ok-kernel.ensures.columns ∙ (c.in_ok-equations.ensures.equations c.args.d (keys_of p) m.0 (length_keys p ∙ sym (ap length c.terms-count.ensures.is)) m.1).cols ∙ length_keys p

pub returns-clause-echelon : goal.returns-clause-echelon
returns-clause-echelon g c =
    let S = over g.F.Field.field g.O.TermOrder.order c.args.space.now in
    let w = c.args.space.now.grading.weights.ok.0 in
    let p = c.index-monomials.result.now in
    let m = level_monomials S c.args.gens.now c.args.d c.len.result c.in_ok-level.level p c.deref.result.now (omega (arith, c.len.ensures)) c.in_ok-level.ensures.level c.index-monomials.ensures c.deref.ensures.value in
    subst (IsEchelonBasis S c.args.gens.now c.args.d) (sym c.in_ok-basis.ensures.are)
    (basis_of_kernel S c.args.gens.now c.args.d (keys_of p) m.0 c.in_ok-equations.equations c.in_ok-kernel.kernel (c.in_ok-equations.ensures.equations c.args.d (keys_of p) m.0 (length_keys p ∙ sym (ap length c.terms-count.ensures.is)) m.1)
    c.in_ok-kernel.ensures.echelon c.in_ok-kernel.ensures.kernel)

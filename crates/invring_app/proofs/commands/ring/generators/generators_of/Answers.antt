use Rattle.std.proofs.Common.{◌∙◌, ℕ, Err, Vec, length, ap, subst, sym}
use Rattle.std.specs.Global.{Global}
use Rattle.std.specs.Prelude.{All}
use Rattle.std.specs.Option.{option_map}
use Rattle.alg_core.specs.Binomials.{monomials_of_degree}
use Rattle.alg_core.specs.Spaces.{SpaceOver}
use Rattle.poly_module.specs.SpaceVectors.{vector_of, vectors_of}
use Rattle.matrix_group.specs.Actions.{IsSquare, Invariant}
use Rattle.finvar_text.specs.Problems.{problem_in}
use Rattle.finite_certificate.specs.MarkSpaces.{mark_space}
use Rattle.prime_field.specs.PrimeFields.{gfp}
use Rattle.prime_field.specs.declared.gfp.PrimeField.{PrimeField}
use Rattle.alg_core.specs.declared.block_order.BlockOrder.{BlockOrder}
use Rattle.alg_core.specs.declared.space.Space.{Space}
use Rattle.secondary_gens.specs.Forms.{IsSmallForm, IsPositiveForm}
use Rattle.secondary_gens.specs.Secondaries.{AreSecondaries, IsComplete, IsFirstPast, IsPastBound}
use Rattle.syzygy_kernel.specs.declared.member.Member.{Member}
use Rattle.certificate_io.specs.Certificates.{evidence_of}
use Rattle.invring_app.specs.EvidenceLines.{ForEach, IsEvidenceWith}
use Rattle.invring_app.specs.Faults.{fault_of_space}
use Rattle.invring_app.specs.RingFaults.{IsRingTold}
use Rattle.invring_app.specs.WrittenParts.{AreWritable, AreWritten}
use Rattle.invring_app.proofs.FaultLaws.{handed-on}
use Rattle.invring_app.proofs.FixedValues.{plain_polynomials}
use Rattle.invring_app.proofs.GeneratorSteps.{for_each}
use Rattle.invring_app.proofs.RankedSteps.{square_in, fixed_terms, image_fault, kept_of}
use Rattle.invring_app.proofs.RingSteps.{space_of, image_told}
use Rattle.invring_app.proofs.WritableForms.{each_length, small_polys, writable}
use Rattle.invring_app.proofs.commands.ring.generators.generators_of.Goals as goal

abbrev marked : Space PrimeField BlockOrder → SpaceOver ℕ
marked s = mark_space (λ (f : PrimeField). gfp f.p f.listed) s

pub choose-requires-clause-polynomials : goal.choose-requires-clause-polynomials
choose-requires-clause-polynomials c = plain_polynomials (space_of c.args.ranked.now.space) c.requires.ranked.ground.plain

pub written_parts-requires-clause-polynomials : goal.written_parts-requires-clause-polynomials
written_parts-requires-clause-polynomials c = plain_polynomials (space_of c.args.ranked.now.space) c.requires.ranked.ground.plain

pub choose-requires-clause-square : goal.choose-requires-clause-square
choose-requires-clause-square c =
    let r = c.args.ranked.now in
    let S = space_of r.space in
    subst (All (IsSquare S.field (length S.weights))) (sym c.deref.ensures.value) (square_in c.args.script.now c.requires.sound c.args.limits.now S c.requires.ranked.ground)

pub choose-requires-clause-primaries : goal.choose-requires-clause-primaries
choose-requires-clause-primaries c =
    let S = space_of c.args.ranked.now.space in
    subst (All (IsPositiveForm S)) (sym c.as_slice-theta.ensures.value) c.requires.ranked.found.forms

pub choose-requires-clause-images : goal.choose-requires-clause-images
choose-requires-clause-images c =
    let S = space_of c.args.ranked.now.space in
    subst (All (IsSmallForm S)) (sym c.as_slice-forms.ensures.value) c.requires.generating.forms

pub choose-requires-clause-fixed : goal.choose-requires-clause-fixed
choose-requires-clause-fixed c =
    let r = c.args.ranked.now in
    let S = space_of r.space in
    subst (λ gs. All (λ p. Invariant S.field gs (vector_of S (λ m. m) p)) c.as_slice-theta.result.now) (sym c.deref.ensures.value)
    (subst (All (λ p. Invariant S.field c.args.script.now.gens.items (vector_of S (λ m. m) p))) (sym c.as_slice-theta.ensures.value)
    (fixed_terms c.args.script.now c.requires.sound c.args.limits.now S r.primaries.items (marked r.over.space) r.over.space.order.vars r.over.space.order.weights.items r.over.free_module r.over.powers.items c.requires.ranked c.args.order c.requires.group))

pub choose-requires-clause-fixed_images : goal.choose-requires-clause-fixed_images
choose-requires-clause-fixed_images c =
    let S = space_of c.args.ranked.now.space in
    subst (λ gs. All (λ p. Invariant S.field gs (vector_of S (λ m. m) p)) c.as_slice-forms.result.now) (sym c.deref.ensures.value)
    (subst (All (λ p. Invariant S.field c.args.script.now.gens.items (vector_of S (λ m. m) p))) (sym c.as_slice-forms.ensures.value) c.requires.generating.fixed)

pub choose-requires-clause-generate : goal.choose-requires-clause-generate
choose-requires-clause-generate c =
    let S = space_of c.args.ranked.now.space in
    let x = vectors_of S (λ m. m) in
    subst (λ gs. IsComplete S.field (length S.weights) gs (x c.as_slice-theta.result.now) (x c.as_slice-forms.result.now)) (sym c.deref.ensures.value)
    (subst (λ ps. IsComplete S.field (length S.weights) c.args.script.now.gens.items (x ps) (x c.as_slice-forms.result.now)) (sym c.as_slice-theta.ensures.value)
    (subst (λ fs. IsComplete S.field (length S.weights) c.args.script.now.gens.items (x c.args.ranked.now.primaries.items) (x fs)) (sym c.as_slice-forms.ensures.value) c.requires.generating.complete))

pub returns-in_err-secondaries-clause-fault : goal.returns-in_err-secondaries-clause-fault
returns-in_err-secondaries-clause-fault c =
    let script = c.args.script.now in
    let l = c.args.limits.now in
    let q = problem_in script in
    let r = c.args.ranked.now in
    let S = space_of r.space in
    let e = c.in_err-secondaries.field-0.0 in
    handed-on (IsRingTold q l) c.from_residual.result (fault_of_space e) c.from_residual.ensures.1
    (image_told q l e (λ d count told.
    let past = c.in_err-secondaries.ensures.bound d count (ap (λ y. Err y) told) in
    image_fault script c.requires.sound l S r.primaries.items (marked r.over.space) r.over.space.order.vars r.over.space.order.weights.items r.over.free_module r.over.powers.items c.requires.ranked c.args.order c.requires.group
    c.args.images.images.items _ c.requires.generating d count (past.0 ∙ ap (λ m. monomials_of_degree m d) c.requires.ranked.ground.many)
    (subst (λ fs. IsFirstPast S fs l.max_terms d) c.as_slice-forms.ensures.value past.1)))

pub written_parts-requires-clause-given : goal.written_parts-requires-clause-given
written_parts-requires-clause-given c =
    let r = c.args.ranked.now in
    let S = space_of r.space in
    let made = c.in_ok-secondaries.ensures in
    subst (AreWritable S c.as_slice-theta.result.now c.as_slice-forms.result.now) (sym c.as_slice.ensures.value)
    (writable S c.deref.result.now c.as_slice-theta.result.now c.as_slice-forms.result.now c.in_ok-secondaries.secondaries.items (subst (All (IsPositiveForm S)) (sym c.as_slice-theta.ensures.value) c.requires.ranked.found.forms)
    (subst (All (IsSmallForm S)) (sym c.as_slice-forms.ensures.value) c.requires.generating.forms) made.forms
    (subst (λ gs. All (λ p. Invariant S.field gs (vector_of S (λ m. m) p)) c.as_slice-forms.result.now) (sym c.deref.ensures.value)
    (subst (All (λ p. Invariant S.field c.args.script.now.gens.items (vector_of S (λ m. m) p))) (sym c.as_slice-forms.ensures.value) c.requires.generating.fixed)) made.rise made.complete)

pub returns-clause-kept : goal.returns-clause-kept
returns-clause-kept c =
    let script = c.args.script.now in
    let l = c.args.limits.now in
    let r = c.args.ranked.now in
    let S = space_of r.space in
    kept_of script c.requires.sound l S r.primaries.items (marked r.over.space) r.over.space.order.vars r.over.space.order.weights.items r.over.free_module r.over.powers.items c.requires.ranked c.args.order c.requires.group
    c.args.images.images.items _ c.requires.generating (subst (λ fs. (d : ℕ) → ¬ IsPastBound S fs l.max_terms d) c.as_slice-forms.ensures.value c.in_ok-secondaries.ensures.within)

pub evidence-requires : goal.evidence-requires
evidence-requires c =
    let script = c.args.script.now in
    let r = c.args.ranked.now in
    let S = space_of r.space in
    let cs = c.in_ok-written.written.combs.items in
    let o = option_map (λ (v : Vec (Member ℕ) Global). v.items) c.args.images.members in
    record {
      same = subst (λ bs. ForEach bs o cs) (sym c.monomials-monomials.ensures.is)
          (for_each S script.characteristic c.args.order c.args.limits.now.max_basis script.gens.items r.primaries.items r.over.free_module.monomials c.args.images.images.items o c.requires.generating.source cs
          (ap length (sym c.as_slice-forms.ensures.value) ∙ each_length _ c.as_slice-forms.result.now cs c.in_ok-written.ensures.are.combinations));
    }

pub returns-clause-parts : goal.returns-clause-parts
returns-clause-parts c =
    let script = c.args.script.now in
    let r = c.args.ranked.now in
    let S = space_of r.space in
    let x = vectors_of S (λ m. m) in
    let T = c.in_ok-secondaries.secondaries.items in
    let w = c.in_ok-written.written in
    let o = option_map (λ (v : Vec (Member ℕ) Global). v.items) c.args.images.members in
    let e = evidence_of c.in_ok-evidence.evidence in
    let made = subst (λ ps. AreWritten S ps c.args.images.images.items T w.combs.items w.irreducibles.items w.words.items) c.as_slice-theta.ensures.value
    (subst (λ fs. AreWritten S c.as_slice-theta.result.now fs T w.combs.items w.irreducibles.items w.words.items) c.as_slice-forms.ensures.value
    (subst (λ ts. AreWritten S c.as_slice-theta.result.now c.as_slice-forms.result.now ts w.combs.items w.irreducibles.items w.words.items) c.as_slice.ensures.value c.in_ok-written.ensures.are)) in
    record {
      polynomials = small_polys S T c.in_ok-secondaries.ensures.forms;
      secondaries = subst (λ gs. AreSecondaries S gs (x r.primaries.items) (x T)) c.deref.ensures.value
          (subst (λ ps. AreSecondaries S c.deref.result.now (x ps) (x T)) c.as_slice-theta.ensures.value c.in_ok-secondaries.ensures.secondaries);
      evidence = (w.combs.items, subst (λ bs. IsEvidenceWith bs o w.combs.items e) c.monomials-monomials.ensures.is c.in_ok-evidence.ensures.is, made.combinations);
      chosen = made.chosen;
    }

use Rattle.std.proofs.Common.{◌≡◌, ℕ, Err, length, ap, subst, sym, arith}
use Rattle.alg_core.specs.Spaces.{SpaceOver}
use Rattle.poly_module.specs.SpaceVectors.{vectors_of}
use Rattle.primary_search.specs.Searches.{IsEnd}
use Rattle.primary_search.specs.Walks.{FirstPrimaries}
use Rattle.finvar_text.specs.Problems.{problem_in}
use Rattle.finite_certificate.specs.MarkSpaces.{mark_space}
use Rattle.finite_certificate.specs.StandardMonomials.{IsOverRank}
use Rattle.prime_field.specs.PrimeFields.{gfp}
use Rattle.prime_field.specs.declared.gfp.PrimeField.{PrimeField}
use Rattle.invring_app.specs.Faults.{fault_of_rank, fault_of_search}
use Rattle.invring_app.specs.FoundPrimaries.{AreFound, IsOver, IsFreeOver}
use Rattle.invring_app.specs.RingFaults.{IsRingTold}
use Rattle.invring_app.proofs.FaultLaws.{handed-on}
use Rattle.invring_app.proofs.FoundSteps.{found_is}
use Rattle.invring_app.proofs.GeneratorLaws.{squares}
use Rattle.invring_app.proofs.PrimaryLines.{positive-is, shift-is, told-is}
use Rattle.invring_app.proofs.RankedSteps.{rank_fault}
use Rattle.invring_app.proofs.RingSteps.{space_of, ground_of, search_told, rank_told}
use Rattle.invring_app.proofs.commands.ring.ranked.rank_script.Goals as goal

pub search-requires-clause-positive : goal.search-requires-clause-positive
search-requires-clause-positive c = positive-is _ _ _ c.in_ok-space.ensures.is

pub search-requires-clause-shift : goal.search-requires-clause-shift
search-requires-clause-shift c = shift-is _ _ _ c.in_ok-space.ensures.is

pub search-requires-clause-square : goal.search-requires-clause-square
search-requires-clause-square c =
    let script = c.args.script.now in
    let whole = script.names.ok.0 in
    let many : c.len-variables.result ≡ length script.names.items = omega arith in
    let ground = ground_of script c.in_ok-space.space c.len-variables.result c.field_of-field.result many c.field_of-field.ensures.is c.in_ok-space.ensures.field c.in_ok-space.ensures.is in
    let S = space_of c.in_ok-space.space in
    squares script S.field (length S.weights) _ c.requires.sound ground.field ground.many c.deref.ensures.value

pub returns-in_err-primaries-clause-fault : goal.returns-in_err-primaries-clause-fault
returns-in_err-primaries-clause-fault c =
    let script = c.args.script.now in
    let whole = script.names.ok.0 in
    let many : c.len-variables.result ≡ length script.names.items = omega arith in
    let ground = ground_of script c.in_ok-space.space c.len-variables.result c.field_of-field.result many c.field_of-field.ensures.is c.in_ok-space.ensures.field c.in_ok-space.ensures.is in
    let space = c.in_ok-space.space in
    let l = c.args.limits.now in
    let q = problem_in script in
    let e = c.in_err-primaries.field-0.0 in
    let told = c.in_err-primaries.ensures in
    let group = c.requires.group in
    handed-on (IsRingTold q l) c.from_residual-in_err-primaries.result (fault_of_search e) c.from_residual-in_err-primaries.ensures.1
    (search_told q l group.0 e group.1
    (told-is script space c.len-variables.result c.requires.sound many ground.field c.in_ok-space.ensures.order (ap (λ (T : SpaceOver ℕ). T.weights) c.in_ok-space.ensures.is) (ap (λ (T : SpaceOver ℕ). T.shifts) c.in_ok-space.ensures.is) l c.deref.result.now
    c.deref.ensures.value l.max_degree e (λ found m is. told.found found m (ap (λ x. Err x) is)) (λ found m is. told.no_primary found m (ap (λ x. Err x) is)) (λ m count is. told.terms m count (ap (λ x. Err x) is)) (λ b is. told.basis b (ap (λ x. Err x) is))))

pub over_primaries-requires-clause-found : goal.over_primaries-requires-clause-found
over_primaries-requires-clause-found c =
    let script = c.args.script.now in
    let whole = script.names.ok.0 in
    let many : c.len-variables.result ≡ length script.names.items = omega arith in
    let ground = ground_of script c.in_ok-space.space c.len-variables.result c.field_of-field.result many c.field_of-field.ensures.is c.in_ok-space.ensures.field c.in_ok-space.ensures.is in
    let S = space_of c.in_ok-space.space in
    let l = c.args.limits.now in
    let n = ground.many in
    let some = c.requires.sound.some in
    let few = c.requires.sound.few in
    let found = c.in_ok-primaries.ensures in
    subst (AreFound S l.max_basis) (sym c.deref-2.ensures.value)
    (found_is S c.deref.result.now l ground.plain c.requires.limits c.in_ok-primaries.primaries.items (omega arith) (omega arith) found.polynomials found.first found.end)

pub returns-in_err-over-clause-fault : goal.returns-in_err-over-clause-fault
returns-in_err-over-clause-fault c =
    let script = c.args.script.now in
    let whole = script.names.ok.0 in
    let many : c.len-variables.result ≡ length script.names.items = omega arith in
    let ground = ground_of script c.in_ok-space.space c.len-variables.result c.field_of-field.result many c.field_of-field.ensures.is c.in_ok-space.ensures.field c.in_ok-space.ensures.is in
    let S = space_of c.in_ok-space.space in
    let l = c.args.limits.now in
    let q = problem_in script in
    let x = vectors_of S (λ m. m) in
    let θ = c.in_ok-primaries.primaries.items in
    let e = c.in_err-over.field-0.0 in
    let end = subst (λ gs. IsEnd S gs l (x θ)) c.deref.ensures.value c.in_ok-primaries.ensures.end in
    let group = c.requires.group in
    handed-on (IsRingTold q l) c.from_residual-in_err-over.result (fault_of_rank e) c.from_residual-in_err-over.ensures.1
    (rank_told q l e (λ counted is.
    let above = c.in_err-over.ensures.bound counted (ap (λ y. Err y) is) in
    rank_fault script c.requires.sound l S ground group.0 group.1 θ end counted
    (above.0, subst (λ ps. IsOverRank S.field (length S.weights) (x ps) l.max_rank) c.deref-2.ensures.value above.1)))

pub returns-clause-is : goal.returns-clause-is
returns-clause-is c =
    let script = c.args.script.now in
    let whole = script.names.ok.0 in
    let many : c.len-variables.result ≡ length script.names.items = omega arith in
    let ground = ground_of script c.in_ok-space.space c.len-variables.result c.field_of-field.result many c.field_of-field.ensures.is c.in_ok-space.ensures.field c.in_ok-space.ensures.is in
    let S = space_of c.in_ok-space.space in
    let l = c.args.limits.now in
    let x = vectors_of S (λ m. m) in
    let θ = c.in_ok-primaries.primaries.items in
    let n = ground.many in
    let some = c.requires.sound.some in
    let few = c.requires.sound.few in
    let made = c.in_ok-primaries.ensures in
    let built = c.in_ok-over.over in
    let M = mark_space (λ (f : PrimeField). gfp f.p f.listed) built.space in
    record {
      ground = ground;
      found = found_is S c.deref.result.now l ground.plain c.requires.limits θ (omega arith) (omega arith) made.polynomials made.first made.end;
      first = subst (λ gs. FirstPrimaries S gs l.tries (x θ)) c.deref.ensures.value made.first;
      end = subst (λ gs. IsEnd S gs l (x θ)) c.deref.ensures.value made.end;
      over = subst (λ ps. IsOver S ps built.free_module.monomials built.free_module.lifts built.powers.items) c.deref-2.ensures.value c.in_ok-over.ensures.is;
      free = subst (λ ps. IsFreeOver S M built.space.order.vars built.space.order.weights.items ps built.free_module) c.deref-2.ensures.value c.in_ok-over.ensures.free;
      few = c.in_ok-over.ensures.within;
    }

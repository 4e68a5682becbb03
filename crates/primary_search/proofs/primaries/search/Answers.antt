use Rattle.std.proofs.Common.{◌+◌, ◌≤◌, Err, length, sym, ap, subst, arith}
use Rattle.alg_core.specs.Binomials.{monomials_of_degree}
use Rattle.alg_core.specs.Spaces.{over}
use Rattle.poly_module.specs.SpaceVectors.{vectors_of}
use Rattle.invariant_space.specs.InvariantSpaces.{IsEchelonBasis}
use Rattle.primary_search.specs.Candidates.{candidates}
use Rattle.primary_search.specs.Searches.{Passes, IsStop, IsLast}
use Rattle.primary_search.proofs.FirstLaws.{first_forms, first_invariant, first_regular, end_first}
use Rattle.primary_search.proofs.SearchSteps.{few_enough, handed, nothing_above, nothing_ended, nothing_kept, no_polys, search_more, search_last, search_stop}
use Rattle.primary_search.proofs.primaries.search.Goals as goal

pub loop-below-init : goal.loop-below-init
loop-below-init g c =
    let S = over g.F.Field.field g.O.TermOrder.order c.args.space.now in
    let none = c.nothing-taken.ensures.members in
    let empty = ap (vectors_of S (λ m. m)) none in
    record {
      passed = empty;
      polys = no_polys S c.args.limits.now.max_degree c.nothing-taken.result.members.items none;
      kept = nothing_kept S c.args.limits.now.max_basis c.nothing-taken.result.members.items c.nothing-taken.result.basis.items none c.nothing-taken.ensures.basis;
      ideal = nothing_above S c.args.limits.now.max_basis (vectors_of S (λ m. m) c.nothing-taken.result.members.items) empty;
      unfinished = nothing_ended S c.requires.some (vectors_of S (λ m. m) c.nothing-taken.result.members.items) empty;
    }

pub walk-requires-clause-echelon : goal.walk-requires-clause-echelon
walk-requires-clause-echelon g c =
    let S = over g.F.Field.field g.O.TermOrder.order c.args.space.now in
    let d = c.loop-below.below + 1 in
    let low : d ≤ c.args.limits.now.max_degree = let t = c.loop-below-test.true in omega arith in
    (c.args.gens.now, d, low, subst (λ m. IsEchelonBasis S c.args.gens.now d (vectors_of S (λ m. m) m)) (sym c.as_slice.ensures.value) c.in_ok-members.ensures.echelon)

pub returns-in_err-walk-clause-basis : goal.returns-in_err-walk-clause-basis
returns-in_err-walk-clause-basis g c = λ b e.
    let S = over g.F.Field.field g.O.TermOrder.order c.args.space.now in
    let xs = vectors_of S (λ m. m) in
    let n = length S.weights in
    let gens = c.args.gens.now in
    let l = c.args.limits.now in
    let d = c.loop-below.below in
    let T = xs c.loop-below.taken.members.items in
    let bs = xs c.in_ok-members.members.items in
    let within : monomials_of_degree n (d + 1) ≤ l.max_terms = few_enough (monomials_of_degree n (d + 1)) l.max_terms (λ h. let e = c.basis.ensures.within h in let f = c.in_ok-members.was {u = tt} in cc) in
    let stop : IsStop S l.max_basis T (candidates S.field l.tries bs) b =
    subst (λ m. IsStop S l.max_basis T (candidates S.field l.tries (xs m)) b) c.as_slice.ensures.value
    (c.in_err-walk.ensures.stop b (ap (λ x. Err x) (handed c.from_residual-in_err-walk.result c.in_err-walk.field-0.0 c.from_residual-in_err-walk.ensures.1 b e))) in
    search_stop S gens l d T bs c.loop-below.invariant.passed c.loop-below-test.true within c.in_ok-members.ensures.echelon b stop

pub returns-then-branch-clause-first : goal.returns-then-branch-clause-first
returns-then-branch-clause-first g c =
    let S = over g.F.Field.field g.O.TermOrder.order c.args.space.now in
    let xs = vectors_of S (λ m. m) in
    let n = length S.weights in
    let gens = c.args.gens.now in
    let l = c.args.limits.now in
    let d = c.loop-below.below in
    let T = xs c.loop-below.taken.members.items in
    let bs = xs c.in_ok-members.members.items in
    let within : monomials_of_degree n (d + 1) ≤ l.max_terms = few_enough (monomials_of_degree n (d + 1)) l.max_terms (λ h. let e = c.basis.ensures.within h in let f = c.in_ok-members.was {u = tt} in cc) in
    let last : IsLast S l.max_basis T (candidates S.field l.tries bs) (xs c.walk.new.taken.members.items) =
    subst (λ m. IsLast S l.max_basis T (candidates S.field l.tries (xs m)) (xs c.walk.new.taken.members.items)) c.as_slice.ensures.value (c.in_ok-walk.ensures.last c.if-branch.true) in
    let end = search_last S gens l d T bs c.loop-below.invariant.passed c.loop-below-test.true within c.in_ok-members.ensures.echelon (xs c.walk.new.taken.members.items) last in
    let first = end_first S gens l c.requires.some (xs c.walk.new.taken.members.items) end in
    first

pub returns-then-branch-clause-forms : goal.returns-then-branch-clause-forms
returns-then-branch-clause-forms g c =
    let S = over g.F.Field.field g.O.TermOrder.order c.args.space.now in
    let xs = vectors_of S (λ m. m) in
    let n = length S.weights in
    let gens = c.args.gens.now in
    let l = c.args.limits.now in
    let d = c.loop-below.below in
    let T = xs c.loop-below.taken.members.items in
    let bs = xs c.in_ok-members.members.items in
    let within : monomials_of_degree n (d + 1) ≤ l.max_terms = few_enough (monomials_of_degree n (d + 1)) l.max_terms (λ h. let e = c.basis.ensures.within h in let f = c.in_ok-members.was {u = tt} in cc) in
    let last : IsLast S l.max_basis T (candidates S.field l.tries bs) (xs c.walk.new.taken.members.items) =
    subst (λ m. IsLast S l.max_basis T (candidates S.field l.tries (xs m)) (xs c.walk.new.taken.members.items)) c.as_slice.ensures.value (c.in_ok-walk.ensures.last c.if-branch.true) in
    let end = search_last S gens l d T bs c.loop-below.invariant.passed c.loop-below-test.true within c.in_ok-members.ensures.echelon (xs c.walk.new.taken.members.items) last in
    let first = end_first S gens l c.requires.some (xs c.walk.new.taken.members.items) end in
    first_forms S gens l.tries (xs c.walk.new.taken.members.items) first

pub returns-then-branch-clause-invariant : goal.returns-then-branch-clause-invariant
returns-then-branch-clause-invariant g c =
    let S = over g.F.Field.field g.O.TermOrder.order c.args.space.now in
    let xs = vectors_of S (λ m. m) in
    let n = length S.weights in
    let gens = c.args.gens.now in
    let l = c.args.limits.now in
    let d = c.loop-below.below in
    let T = xs c.loop-below.taken.members.items in
    let bs = xs c.in_ok-members.members.items in
    let within : monomials_of_degree n (d + 1) ≤ l.max_terms = few_enough (monomials_of_degree n (d + 1)) l.max_terms (λ h. let e = c.basis.ensures.within h in let f = c.in_ok-members.was {u = tt} in cc) in
    let last : IsLast S l.max_basis T (candidates S.field l.tries bs) (xs c.walk.new.taken.members.items) =
    subst (λ m. IsLast S l.max_basis T (candidates S.field l.tries (xs m)) (xs c.walk.new.taken.members.items)) c.as_slice.ensures.value (c.in_ok-walk.ensures.last c.if-branch.true) in
    let end = search_last S gens l d T bs c.loop-below.invariant.passed c.loop-below-test.true within c.in_ok-members.ensures.echelon (xs c.walk.new.taken.members.items) last in
    let first = end_first S gens l c.requires.some (xs c.walk.new.taken.members.items) end in
    first_invariant S gens l.tries (xs c.walk.new.taken.members.items) first

pub returns-then-branch-clause-regular : goal.returns-then-branch-clause-regular
returns-then-branch-clause-regular g c =
    let S = over g.F.Field.field g.O.TermOrder.order c.args.space.now in
    let xs = vectors_of S (λ m. m) in
    let n = length S.weights in
    let gens = c.args.gens.now in
    let l = c.args.limits.now in
    let d = c.loop-below.below in
    let T = xs c.loop-below.taken.members.items in
    let bs = xs c.in_ok-members.members.items in
    let within : monomials_of_degree n (d + 1) ≤ l.max_terms = few_enough (monomials_of_degree n (d + 1)) l.max_terms (λ h. let e = c.basis.ensures.within h in let f = c.in_ok-members.was {u = tt} in cc) in
    let last : IsLast S l.max_basis T (candidates S.field l.tries bs) (xs c.walk.new.taken.members.items) =
    subst (λ m. IsLast S l.max_basis T (candidates S.field l.tries (xs m)) (xs c.walk.new.taken.members.items)) c.as_slice.ensures.value (c.in_ok-walk.ensures.last c.if-branch.true) in
    let end = search_last S gens l d T bs c.loop-below.invariant.passed c.loop-below-test.true within c.in_ok-members.ensures.echelon (xs c.walk.new.taken.members.items) last in
    let first = end_first S gens l c.requires.some (xs c.walk.new.taken.members.items) end in
    first_regular S gens l.tries (xs c.walk.new.taken.members.items) first

pub returns-then-branch-clause-ended : goal.returns-then-branch-clause-ended
returns-then-branch-clause-ended g c =
    let S = over g.F.Field.field g.O.TermOrder.order c.args.space.now in
    let xs = vectors_of S (λ m. m) in
    let n = length S.weights in
    let gens = c.args.gens.now in
    let l = c.args.limits.now in
    let d = c.loop-below.below in
    let T = xs c.loop-below.taken.members.items in
    let bs = xs c.in_ok-members.members.items in
    let within : monomials_of_degree n (d + 1) ≤ l.max_terms = few_enough (monomials_of_degree n (d + 1)) l.max_terms (λ h. let e = c.basis.ensures.within h in let f = c.in_ok-members.was {u = tt} in cc) in
    let last : IsLast S l.max_basis T (candidates S.field l.tries bs) (xs c.walk.new.taken.members.items) =
    subst (λ m. IsLast S l.max_basis T (candidates S.field l.tries (xs m)) (xs c.walk.new.taken.members.items)) c.as_slice.ensures.value (c.in_ok-walk.ensures.last c.if-branch.true) in
    let end = search_last S gens l d T bs c.loop-below.invariant.passed c.loop-below-test.true within c.in_ok-members.ensures.echelon (xs c.walk.new.taken.members.items) last in
    end.ended

pub loop-below-preserved : goal.loop-below-preserved
loop-below-preserved g c =
    let S = over g.F.Field.field g.O.TermOrder.order c.args.space.now in
    let xs = vectors_of S (λ m. m) in
    let n = length S.weights in
    let gens = c.args.gens.now in
    let l = c.args.limits.now in
    let d = c.loop-below.below in
    let T = xs c.loop-below.taken.members.items in
    let bs = xs c.in_ok-members.members.items in
    let within : monomials_of_degree n (d + 1) ≤ l.max_terms = few_enough (monomials_of_degree n (d + 1)) l.max_terms (λ h. let e = c.basis.ensures.within h in let f = c.in_ok-members.was {u = tt} in cc) in
    let passes : Passes S l.max_basis T (candidates S.field l.tries bs) (xs c.walk.new.taken.members.items) =
    subst (λ m. Passes S l.max_basis T (candidates S.field l.tries (xs m)) (xs c.walk.new.taken.members.items)) c.as_slice.ensures.value (c.in_ok-walk.ensures.passes c.if-branch.false) in
    record {
      passed = search_more S gens l d T bs c.loop-below.invariant.passed c.loop-below-test.true within c.in_ok-members.ensures.echelon (xs c.walk.new.taken.members.items) passes;
      polys = c.in_ok-walk.ensures.taken;
      kept = c.in_ok-walk.ensures.kept;
      ideal = c.in_ok-walk.ensures.ideal;
      unfinished = c.in_ok-walk.ensures.unfinished c.if-branch.false;
    }

use Rattle.std.proofs.Common.{◌≡◌, ◌∙◌, ◌++◌, ◌∷◌, true, Err, length, sym, ap, refl}
use Rattle.std.proofs.lemmas.List.{length-map}
use Rattle.alg_core.specs.Spaces.{over}
use Rattle.poly_module.specs.SpaceVectors.{IsPoly, vector_of, vectors_of}
use Rattle.groebner_hom.proofs.SecondParts.{not_true}
use Rattle.primary_search.specs.Candidates.{all_candidates}
use Rattle.primary_search.specs.CandidateLists.{Stands, one_then_zeros, to_come}
use Rattle.primary_search.proofs.CandidateLaws.{each_candidate, candidate_polynomial, head_in}
use Rattle.primary_search.proofs.ComingSteps.{two_values, all_come, start_stands}
use Rattle.primary_search.proofs.OfferSteps.{told}
use Rattle.primary_search.proofs.WalkSteps.{along_start, along_more, along_last, along_stop, some_is}
use Rattle.primary_search.proofs.walk.walk.Goals as goal

pub loop-turn-init : goal.loop-turn-init
loop-turn-init g c =
    let S = over g.F.Field.field g.O.TermOrder.order c.args.space.now in
    let xs = vectors_of S (λ m. m) in
    let bs = xs c.args.basis.now in
    let start = c.in_ok-list.ensures in
    let list = c.in_ok-list.list in
    let count : length bs ≡ length c.args.basis.now = length-map c.args.basis.now (vector_of S (λ m. m)) in
    record {
      stands = start_stands S.field.size (length c.args.basis.now) (two_values S.field) list start.members start.digits start.last;
      along = along_start S c.args.limits.now.max_basis (all_candidates S.field bs) (xs c.args.taken.now.members.items) (to_come S.field bs list)
          (all_come S.field bs list start.members (start.digits ∙ ap one_then_zeros (sym count)));
      polys = c.requires.taken;
      kept = c.requires.kept;
      ideal = c.requires.ideal;
      unfinished = c.requires.unfinished;
    }

pub offer-requires-clause-candidate : goal.offer-requires-clause-candidate
offer-requires-clause-candidate g c =
    let S = over g.F.Field.field g.O.TermOrder.order c.args.space.now in
    let xs = vectors_of S (λ m. m) in
    let bs = xs c.args.basis.now in
    let all = all_candidates S.field bs in
    let a = c.loop-turn.invariant.along in
    let v = vector_of S (λ m. m) c.in-Some.candidate in
    let rest = to_come S.field bs c.next.new.self in
    let coming : to_come S.field bs c.loop-turn.list ≡ v ∷ rest =
    some_is (λ p. to_come S.field bs c.loop-turn.list ≡ vector_of S (λ m. m) p ∷ rest) c.in_ok-next.field-0 c.in-Some.candidate c.in-Some.is c.in_ok-next.ensures.some in
    let e = c.requires.echelon in
    let whole : a.seen ++ v ∷ rest ≡ all = ap (λ l. a.seen ++ l) (sym coming) ∙ a.whole in
    let good = each_candidate S e.0 e.1 bs e.3 v (head_in a.seen rest all v whole) in
    let poly = some_is (IsPoly S (λ m. m)) c.in_ok-next.field-0 c.in-Some.candidate c.in-Some.is c.in_ok-next.ensures.polynomial in
    candidate_polynomial S e.0 e.1 bs e.3 c.requires.weights c.requires.shift c.args.limits.now.max_degree e.2 c.in-Some.candidate poly good

pub offer-requires-clause-not_zero : goal.offer-requires-clause-not_zero
offer-requires-clause-not_zero g c =
    let S = over g.F.Field.field g.O.TermOrder.order c.args.space.now in
    let xs = vectors_of S (λ m. m) in
    let bs = xs c.args.basis.now in
    let all = all_candidates S.field bs in
    let a = c.loop-turn.invariant.along in
    let v = vector_of S (λ m. m) c.in-Some.candidate in
    let rest = to_come S.field bs c.next.new.self in
    let coming : to_come S.field bs c.loop-turn.list ≡ v ∷ rest =
    some_is (λ p. to_come S.field bs c.loop-turn.list ≡ vector_of S (λ m. m) p ∷ rest) c.in_ok-next.field-0 c.in-Some.candidate c.in-Some.is c.in_ok-next.ensures.some in
    let e = c.requires.echelon in
    let whole : a.seen ++ v ∷ rest ≡ all = ap (λ l. a.seen ++ l) (sym coming) ∙ a.whole in
    let good = each_candidate S e.0 e.1 bs e.3 v (head_in a.seen rest all v whole) in
    good.1

pub returns-in_err-offer-in-Some-clause-stop : goal.returns-in_err-offer-in-Some-clause-stop
returns-in_err-offer-in-Some-clause-stop g c = λ b e.
    let S = over g.F.Field.field g.O.TermOrder.order c.args.space.now in
    let xs = vectors_of S (λ m. m) in
    let bs = xs c.args.basis.now in
    let all = all_candidates S.field bs in
    let a = c.loop-turn.invariant.along in
    let v = vector_of S (λ m. m) c.in-Some.candidate in
    let rest = to_come S.field bs c.next.new.self in
    let coming : to_come S.field bs c.loop-turn.list ≡ v ∷ rest =
    some_is (λ p. to_come S.field bs c.loop-turn.list ≡ vector_of S (λ m. m) p ∷ rest) c.in_ok-next.field-0 c.in-Some.candidate c.in-Some.is c.in_ok-next.ensures.some in
    let most = c.args.limits.now.max_basis in
    let T = xs c.args.taken.now.members.items in
    let U = xs c.loop-turn.taken.members.items in
    let old = to_come S.field bs c.loop-turn.list in
    let stop = c.in_err-offer-in-Some.ensures.stop b (ap (λ x. Err x) (told c.from_residual-in_err-offer-in-Some.result c.in_err-offer-in-Some.field-0.0 c.from_residual-in_err-offer-in-Some.ensures.1 b e)) in
    along_stop S most all T U old rest v c.loop-turn.turn a coming c.args.limits.now.tries b c.loop-turn-test.true stop

pub returns-then-branch-clause-last : goal.returns-then-branch-clause-last
returns-then-branch-clause-last g c = λ t.
    let S = over g.F.Field.field g.O.TermOrder.order c.args.space.now in
    let xs = vectors_of S (λ m. m) in
    let bs = xs c.args.basis.now in
    let all = all_candidates S.field bs in
    let a = c.loop-turn.invariant.along in
    let v = vector_of S (λ m. m) c.in-Some.candidate in
    let rest = to_come S.field bs c.next.new.self in
    let coming : to_come S.field bs c.loop-turn.list ≡ v ∷ rest =
    some_is (λ p. to_come S.field bs c.loop-turn.list ≡ vector_of S (λ m. m) p ∷ rest) c.in_ok-next.field-0 c.in-Some.candidate c.in-Some.is c.in_ok-next.ensures.some in
    let most = c.args.limits.now.max_basis in
    let T = xs c.args.taken.now.members.items in
    let U = xs c.loop-turn.taken.members.items in
    let old = to_come S.field bs c.loop-turn.list in
    along_last S most all T U old rest v c.loop-turn.turn a coming c.args.limits.now.tries (xs c.offer.new.taken.members.items) c.loop-turn-test.true (c.in_ok-offer-in-Some.ensures.last c.if-branch.true)

pub returns-then-branch-clause-unfinished : goal.returns-then-branch-clause-unfinished
returns-then-branch-clause-unfinished g c = λ e. absurd (not_true true e refl)

pub returns-then-branch-clause-passes : goal.returns-then-branch-clause-passes
returns-then-branch-clause-passes g c = λ e. absurd (not_true true e refl)

pub loop-turn-preserved : goal.loop-turn-preserved
loop-turn-preserved g c =
    let S = over g.F.Field.field g.O.TermOrder.order c.args.space.now in
    let xs = vectors_of S (λ m. m) in
    let bs = xs c.args.basis.now in
    let all = all_candidates S.field bs in
    let a = c.loop-turn.invariant.along in
    let v = vector_of S (λ m. m) c.in-Some.candidate in
    let rest = to_come S.field bs c.next.new.self in
    let coming : to_come S.field bs c.loop-turn.list ≡ v ∷ rest =
    some_is (λ p. to_come S.field bs c.loop-turn.list ≡ vector_of S (λ m. m) p ∷ rest) c.in_ok-next.field-0 c.in-Some.candidate c.in-Some.is c.in_ok-next.ensures.some in
    let most = c.args.limits.now.max_basis in
    let T = xs c.args.taken.now.members.items in
    let U = xs c.loop-turn.taken.members.items in
    let old = to_come S.field bs c.loop-turn.list in
    record {
      stands = some_is (λ p. Stands S.field.size (length c.args.basis.now) c.next.new.self) c.in_ok-next.field-0 c.in-Some.candidate c.in-Some.is c.in_ok-next.ensures.stands;
      along = along_more S most all T U old rest v c.loop-turn.turn a coming (xs c.offer.new.taken.members.items) (c.in_ok-offer-in-Some.ensures.passes c.if-branch.false);
      polys = c.in_ok-offer-in-Some.ensures.taken;
      kept = c.in_ok-offer-in-Some.ensures.kept;
      ideal = c.in_ok-offer-in-Some.ensures.ideal;
      unfinished = c.in_ok-offer-in-Some.ensures.unfinished c.if-branch.false;
    }

use Rattle.std.proofs.Common.{◌≡◌, length, sym, subst, arith}
use Rattle.std.proofs.lemmas.List.{length-map}
use Rattle.alg_core.specs.Keys.{key}
use Rattle.alg_core.specs.Spaces.{place}
use Rattle.secondary_gens.specs.Columns.{turned, mark_order, key_of, keys_of}
use Rattle.secondary_gens.proofs.Sorting.{place_less, place_equal, place_greater, place_end}
use Rattle.secondary_gens.proofs.ProductSteps.{read_key, compared}
use Rattle.secondary_gens.proofs.products.place_of.Goals as goal

pub loop-j-preserved : goal.loop-j-preserved
loop-j-preserved g c =
    let ds = c.args.order.now.weights.items in
    let x = c.index-columns-j.result in
    let n = length-map c.args.columns.now key_of in
    place_less (turned (mark_order ds)) (key (place (λ m. m) c.args.at.now)) (key_of x) (keys_of c.args.columns.now) c.loop-j.j (omega (arith, c.loop-j-test.true)) (read_key c.args.columns.now c.loop-j.j x c.loop-j-test.true c.index-columns-j.is)
    (compared ds (place (λ m. m) x.at) (place (λ m. m) c.args.at.now) _ (subst (λ y. length y.at.mono ≡ length ds) (sym c.index-columns-j.is) (c.requires.columns c.loop-j.j x c.loop-j-test.true)) c.requires.wide c.in-Less.ensures.is) c.loop-j.invariant

pub returns-in-Equal-clause-none : goal.returns-in-Equal-clause-none
returns-in-Equal-clause-none g c =
    let ds = c.args.order.now.weights.items in
    let x = c.index-columns-j.result in
    let n = length-map c.args.columns.now key_of in
    place_equal (turned (mark_order ds)) (key (place (λ m. m) c.args.at.now)) (key_of x) (keys_of c.args.columns.now) c.loop-j.j (omega (arith, c.loop-j-test.true)) (read_key c.args.columns.now c.loop-j.j x c.loop-j-test.true c.index-columns-j.is)
    (compared ds (place (λ m. m) x.at) (place (λ m. m) c.args.at.now) _ (subst (λ y. length y.at.mono ≡ length ds) (sym c.index-columns-j.is) (c.requires.columns c.loop-j.j x c.loop-j-test.true)) c.requires.wide c.in-Equal.ensures.is) c.loop-j.invariant

pub returns-in-Greater-clause-some : goal.returns-in-Greater-clause-some
returns-in-Greater-clause-some g c =
    let ds = c.args.order.now.weights.items in
    let x = c.index-columns-j.result in
    let n = length-map c.args.columns.now key_of in
    place_greater (turned (mark_order ds)) (key (place (λ m. m) c.args.at.now)) (key_of x) (keys_of c.args.columns.now) c.loop-j.j (omega (arith, c.loop-j-test.true)) (read_key c.args.columns.now c.loop-j.j x c.loop-j-test.true c.index-columns-j.is)
    (compared ds (place (λ m. m) x.at) (place (λ m. m) c.args.at.now) _ (subst (λ y. length y.at.mono ≡ length ds) (sym c.index-columns-j.is) (c.requires.columns c.loop-j.j x c.loop-j-test.true)) c.requires.wide c.in-Greater.ensures.is) c.loop-j.invariant

pub returns-clause-some : goal.returns-clause-some
returns-clause-some g c =
    let n = length-map c.args.columns.now key_of in
    place_end (turned (mark_order c.args.order.now.weights.items)) (key (place (λ m. m) c.args.at.now)) (keys_of c.args.columns.now) c.loop-j.j (length c.args.columns.now) (omega (arith, c.loop-j-test.false)) (omega arith) c.loop-j.invariant

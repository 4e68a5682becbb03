use Rattle.invariant_space.proofs.Common.{◌<◌, ◌∙◌, ap, length, refl, sym, subst, arith, All, IsRow, IsSquare, coordinates, Solves, AreImages}
use Rattle.invariant_space.proofs.EquationLaws.{invariant_more, invariant_all}
use Rattle.invariant_space.proofs.ImageLaws.{image_rows}
use Rattle.invariant_space.proofs.Places.{element_at}
use Rattle.invariant_space.proofs.equations.equations.Goals as goal

pub loop-i-init : goal.loop-i-init
loop-i-init g c =
    let n = ap length c.new.ensures.items in
    record { matrix = record { whole = omega arith; has = λ i d h. absurd (omega arith) }; cols = refl; solves = λ d ts f monomials many images keys. (λ z j m low. absurd (omega arith), λ z. tt) }

pub add_equations-requires-clause-rows : goal.add_equations-requires-clause-rows
add_equations-requires-clause-rows g c =
    let k = g.F.Field.field c.args.space.now.field in
    let r = c.requires.images in
    let n = r.4.count in
    let m = element_at c.args.gens.now c.loop-i.i c.loop-i-test.true in
    let low : c.loop-i.i < length c.args.images.now = omega (arith, c.loop-i-test.true) in
    subst (λ l. All (λ v. IsRow k (length l) v.items) l) (sym c.deref.ensures.value) (image_rows k m.0 r.1 c.index-images-i.result.items (r.4.each c.loop-i.i c.index-images-i.result low c.index-images-i.is m.0 (sym m.1)))

pub add_equations-requires-clause-cols : goal.add_equations-requires-clause-cols
add_equations-requires-clause-cols g c =
    let r = c.requires.images in
    let n = r.4.count in
    let m = element_at c.args.gens.now c.loop-i.i c.loop-i-test.true in
    let low : c.loop-i.i < length c.args.images.now = omega (arith, c.loop-i-test.true) in
    c.loop-i.invariant.cols ∙ sym r.3 ∙ sym (r.4.each c.loop-i.i c.index-images-i.result low c.index-images-i.is m.0 (sym m.1)).count ∙ sym (ap length c.deref.ensures.value)

pub loop-i-preserved : goal.loop-i-preserved
loop-i-preserved g c =
    let k = g.F.Field.field c.args.space.now.field in
    let gens = c.args.gens.now in
    let r = c.requires.images in
    let n = r.4.count in
    let m = element_at gens c.loop-i.i c.loop-i-test.true in
    let low : c.loop-i.i < length c.args.images.now = omega (arith, c.loop-i-test.true) in
    let many = (r.4.each c.loop-i.i c.index-images-i.result low c.index-images-i.is m.0 (sym m.1)).count in
    let square = subst (IsSquare k (length c.args.space.now.grading.weights.items)) m.1 (c.requires.square c.loop-i.i m.0 c.loop-i-test.true) in
    record {
      matrix = c.in_ok-add_equations.ensures.matrix;
      cols = c.in_ok-add_equations.ensures.cols ∙ ap length c.deref.ensures.value ∙ many ∙ r.3;
      solves = λ d ts f monomials many images keys.
          let im = subst (AreImages k m.0 ts) (sym c.deref.ensures.value) (images.each c.loop-i.i c.index-images-i.result low c.index-images-i.is m.0 (sym m.1)) in
          invariant_more k gens c.loop-i.i m.0 f (Solves k c.loop-i.system (coordinates k ts f)) (Solves k c.add_equations.new.system (coordinates k ts f)) c.loop-i-test.true (sym m.1) (c.in_ok-add_equations.ensures.fixed d ts m.0 f monomials square im keys)
          (c.loop-i.invariant.solves d ts f monomials many images keys);
    }

pub returns : goal.returns
returns g c =
    let k = g.F.Field.field c.args.space.now.field in
    record {
      equations = λ d ts monomials many images. record {
        matrix = c.loop-i.invariant.matrix;
        cols = c.loop-i.invariant.cols ∙ sym many;
        solves = λ f keys.
            let both = c.loop-i.invariant.solves d ts f monomials many images keys in
            let all = invariant_all k c.args.gens.now c.loop-i.i f c.loop-i-test.false c.loop-i.auto.i-end in
            (λ z. all.0 (both.0 z), λ z. both.1 (all.1 z));
      };
    }

use Rattle.invariant_space.proofs.Common.{◌≡◌, ◌<◌, length, get_or, sym, subst, arith, Matrix, AreImages}
use Rattle.invariant_space.proofs.Places.{at_more, length_more, read_twice}
use Rattle.invariant_space.proofs.images.next_images.Goals as goal

pub loop-i-preserved : goal.loop-i-preserved
loop-i-preserved g c =
    let k = g.F.Field.field c.args.space.now.field in
    let n = c.loop-i.invariant.count in
    let made = c.in_ok-push.ensures.items in
    let x = c.index-gens-i.result in
    let rows = c.in_ok-next_rows.field-0 in
    record {
      count = length_more c.loop-i.next.items c.push.new.self.items c.loop-i.i rows made n;
      is = λ d ts below step many images.
          let all = images.count in
          let low : c.loop-i.i < length c.args.images.now = omega (arith, c.loop-i-test.true) in
          at_more (λ i rows. (m : Matrix g.row.F-Elem.Denot) → m ≡ get_or c.args.gens.now i m → AreImages k m ts rows.items) c.loop-i.next.items c.push.new.self.items c.loop-i.i rows made n (c.loop-i.invariant.is d ts below step many images)
          (λ m e. subst (λ y. AreImages k y ts rows.items) (read_twice c.args.gens.now c.loop-i.i x m c.loop-i-test.true c.index-gens-i.is e)
          (c.in_ok-next_rows.ensures.images d ts below step many (subst (AreImages k x below) (sym c.deref.ensures.value) (images.each c.loop-i.i c.index-images-i.result low c.index-images-i.is x c.index-gens-i.is))));
    }

pub returns : goal.returns
returns g c =
    let n = c.loop-i.invariant.count in
    record { images = λ d ts below step many images. record { count = omega (arith, c.loop-i-test.false, c.loop-i.auto.i-end); each = c.loop-i.invariant.is d ts below step many images } }

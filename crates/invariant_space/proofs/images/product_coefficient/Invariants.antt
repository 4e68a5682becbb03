use Rattle.invariant_space.proofs.Common.{◌≡◌, ◌<◌, List, length, get_or, Has, scalar, Key, In, Vect, coef_at, Supp, product, vector, linear_form, coordinates, IsTable}
use Rattle.invariant_space.proofs.images.product_coefficient.Given as goal

abbrev pub invariant-loop-j : goal.invariant-loop-j
invariant-loop-j g l =
    let k = g.F.Field.field l.field in
    record {
      has : Has k l.sum;
      is : (ts below : List Key) (f : Vect k) (t : Key) → IsTable ts below l.table → l.s < length ts → get_or ts l.s t ≡ t → Supp k (λ v. In v below) f → vector k l.row ≡ coordinates k below f
          → scalar k l.sum ≡ coef_at k (product k (linear_form k l.j (vector k l.form)) f) t;
    }

use Rattle.invariant_space.proofs.Common.{◌≡◌, All, List, length, get_or, Has, scalar, Key, In, Vect, coef_at, Supp, product, vector, linear_form, coordinates, IsTable, EachAt}
use Rattle.invariant_space.proofs.images.product_row.Given as goal

abbrev pub invariant-loop-s : goal.invariant-loop-s
invariant-loop-s g l =
    let k = g.F.Field.field l.field in
    record {
      count : length l.coordinates.items ≡ l.s;
      has : All (Has k) l.coordinates.items;
      is : (ts below : List Key) (f : Vect k) → IsTable ts below l.table → length ts ≡ l.count → Supp k (λ v. In v below) f → vector k l.row ≡ coordinates k below f
          → EachAt (λ s x. (t : Key) → get_or ts s t ≡ t → scalar k x ≡ coef_at k (product k (linear_form k (length l.form) (vector k l.form)) f) t) l.coordinates.items;
    }

-- A problem has one text of its basis of a degree, and one order of its group.
use Rattle.std.proofs.Common.{◌≡◌, ℕ, ◌<◌, List, [], ◌∷◌, length, map, All, refl, sym, ap, ap₂, subst, ◌∙◌}
use Rattle.std.specs.Prelude.{slice_index_or}
use Rattle.std.proofs.lemmas.List.Elements.{All-nil, All-cons, All-head, All-tail}
use Rattle.alg_core.proofs.FittingLists.{fits_unique}
use Rattle.alg_core.specs.Fields.{FieldOn}
use Rattle.alg_core.specs.Keys.{Key}
use Rattle.alg_core.specs.KeyOrders.{OrderOn}
use Rattle.alg_core.specs.Spaces.{SpaceOver, Fits}
use Rattle.alg_core.specs.Vectors.{Entry, Vect, vec}
use Rattle.prime_field.specs.PrimeFields.{gfp_same, IsPrimeField}
use Rattle.poly_module.specs.Echelons.{IsEchelon}
use Rattle.lin_algebra.specs.Matrices.{cut}
use Rattle.lin_algebra.specs.Vectors.{vector}
use Rattle.lin_algebra.specs.declared.matrix.Matrix.{Matrix}
use Rattle.matrix_group.specs.Actions.{act, act_by}
use Rattle.matrix_group.specs.Groups.{IsOrder}
use Rattle.matrix_group.proofs.OrderLaws.{order_unique, over_order}
use Rattle.poly_text.specs.declared.names.Names.{Names}
use Rattle.invariant_space.specs.InvariantSpaces.{IsInvariantForm, IsEchelonBasis}
use Rattle.invariant_space.proofs.EchelonBasis.{echelon_basis_unique}
use Rattle.finvar_text.specs.Problems.{Problem, variable_count}
use Rattle.invring_app.specs.Commands.Bases.{IsSpaceOf, AreMatricesOf, AreNamesOf, IsBasisText}
use Rattle.invring_app.specs.Lines.{polynomial_lines}
use Rattle.invring_app.specs.Commands.Orders.{IsOrderOf, IsOverOrderOf}

pub field-one : (p : ℕ) (k l : FieldOn ℕ) → IsPrimeField p k → IsPrimeField p l → k ≡ l
field-one p k l h g = h.1 ∙ gfp_same p p refl h.0 g.0 ∙ sym g.1

pub space-one : (q : Problem) (S T : SpaceOver ℕ) → IsSpaceOf q S → IsSpaceOf q T → S ≡ T
space-one q S T h g =
    let field = field-one q.characteristic S.field T.field h.field g.field in
    let order = h.order ∙ sym g.order in
    let weights = h.weights ∙ sym g.weights in
    let shifts = h.shifts ∙ sym g.shifts in
    λ i. record { field = field i; order = order i; weights = weights i; shifts = shifts i }

-- matrices with the same cells have the same invariants

abbrev pub Shape : Type 0
Shape = ℕ × ℕ × List ℕ

abbrev pub shape : Matrix ℕ → Shape
shape m = (m.rows, m.cols, m.cells.items)

pub same-action : (k : FieldOn ℕ) (m n : Matrix ℕ) (f : Vect k) → shape m ≡ shape n → act_by k m f ≡ act_by k n f
same-action k m n f e = ap (λ (s : Shape). act k s.0 (λ i. vector k (slice_index_or (cut s.0 s.1 s.2) i [])) f) e

pub same-fixed : (k : FieldOn ℕ) (ms ns : List (Matrix ℕ)) (f : Vect k) → map shape ms ≡ map shape ns → All (λ m. act_by k m f ≡ f) ms → All (λ m. act_by k m f ≡ f) ns
same-fixed k [] [] f e all = All-nil (λ m. act_by k m f ≡ f)
same-fixed k [] (n ∷ ns) f e all = absurd cc
same-fixed k (m ∷ ms) [] f e all = absurd cc
same-fixed k (m ∷ ms) (n ∷ ns) f e all =
    let first : shape m ≡ shape n = cc in
    let rest : map shape ms ≡ map shape ns = cc in
    All-cons (λ m. act_by k m f ≡ f) n ns (sym (same-action k m n f first) ∙ All-head (λ m. act_by k m f ≡ f) m ms all) (same-fixed k ms ns f rest (All-tail (λ m. act_by k m f ≡ f) m ms all))

pub same-form : (k : FieldOn ℕ) (n d : ℕ) (ms ns : List (Matrix ℕ)) (f : Vect k) → map shape ms ≡ map shape ns → IsInvariantForm k n ms d f → IsInvariantForm k n ns d f
same-form k n d ms ns f e h = record { form = h.form; variables = h.variables; invariant = same-fixed k ms ns f e h.invariant }

same-echelon : (k : FieldOn ℕ) (o : OrderOn Key) (U V : Vect k → Type 0) (vs : List (Vect k)) → ((f : Vect k) → U f → V f) → ((f : Vect k) → V f → U f) → IsEchelon k o U vs → IsEchelon k o V vs
same-echelon k o U V vs to from h =
    let r = h.reduced in
    record {
      reduced = record {
        inside = λ v is. to v (r.inside v is);
        lead = r.lead;
        monic = r.monic;
        covers = λ v t is. r.covers v t (from v is);
        apart = r.apart;
        falling = r.falling;
      };
      spans = λ v is. h.spans v (from v is);
    }

pub same-basis : (S : SpaceOver ℕ) (d : ℕ) (ms ns : List (Matrix ℕ)) (vs : List (Vect S.field)) → map shape ms ≡ map shape ns → IsEchelonBasis S ms d vs → IsEchelonBasis S ns d vs
same-basis S d ms ns vs e h = same-echelon S.field _ (IsInvariantForm S.field (length S.weights) ms d) (IsInvariantForm S.field (length S.weights) ns d) vs
    (λ f. same-form S.field (length S.weights) d ms ns f e) (λ f. same-form S.field (length S.weights) d ns ms f (sym e)) h

-- lists that fit are told by their vectors
pub same-members : (S : SpaceOver ℕ) (xs ys : List (List (Entry ℕ))) → All (Fits S) xs → All (Fits S) ys → map (vec S.field) xs ≡ map (vec S.field) ys → xs ≡ ys
same-members S [] [] fit fit' e = refl
same-members S [] (y ∷ ys) fit fit' e = absurd cc
same-members S (x ∷ xs) [] fit fit' e = absurd cc
same-members S (x ∷ xs) (y ∷ ys) fit fit' e =
    let first : vec S.field x ≡ vec S.field y = cc in
    let rest : map (vec S.field) xs ≡ map (vec S.field) ys = cc in
    ap₂ ◌∷◌ (fits_unique S x y (All-head (Fits S) x xs fit) (All-head (Fits S) y ys fit') first) (same-members S xs ys (All-tail (Fits S) x xs fit) (All-tail (Fits S) y ys fit') rest)

-- a problem has one list of names
pub names-one : (q : Problem) (names other : Names) → AreNamesOf q names → AreNamesOf q other → names ≡ other
names-one q names other h g = λ i. record { vars = (h.vars ∙ sym g.vars) i; primaries = (h.primaries ∙ sym g.primaries) i; irreducibles = (h.irreducibles ∙ sym g.irreducibles) i }

record AtSpace (q : Problem) (d : ℕ) (text : List ℕ) (S : SpaceOver ℕ) : Type 0 where
  matrices : List (Matrix ℕ)
  names : Names
  basis : List (List (Entry ℕ))
  are_matrices : AreMatricesOf q matrices
  are_names : AreNamesOf q names
  fit : All (Fits S) basis
  echelon : IsEchelonBasis S matrices d (map (vec S.field) basis)
  is_text : text ≡ polynomial_lines [] S names basis

at-space : (q : Problem) (d : ℕ) (text : List ℕ) (h : IsBasisText q d text) → AtSpace q d text h.space
at-space q d text h = record { matrices = h.matrices; names = h.names; basis = h.basis; are_matrices = h.are_matrices; are_names = h.are_names; fit = h.fit; echelon = h.echelon; is_text = h.is_text }

text-at : (q : Problem) (d : ℕ) (text other : List ℕ) (S : SpaceOver ℕ) → AtSpace q d text S → AtSpace q d other S → text ≡ other
text-at q d text other S h g =
    let shapes : map shape g.matrices ≡ map shape h.matrices = g.are_matrices ∙ sym h.are_matrices in
    let vectors = echelon_basis_unique S h.matrices d _ _ h.echelon (same-basis S d g.matrices h.matrices _ shapes g.echelon) in
    h.is_text ∙ ap (polynomial_lines [] S h.names) (same-members S h.basis g.basis h.fit g.fit vectors) ∙ ap (λ (n : Names). polynomial_lines [] S n g.basis) (names-one q h.names g.names h.are_names g.are_names) ∙ sym g.is_text

pub basis-text-one : (q : Problem) (d : ℕ) (text other : List ℕ) → IsBasisText q d text → IsBasisText q d other → text ≡ other
basis-text-one q d text other h g =
    text-at q d text other g.space (subst (AtSpace q d text) (space-one q h.space g.space h.is_space g.is_space) (at-space q d text h)) (at-space q d other g)

-- a group has one order, over the field of another count of it too

at-field : (q : Problem) (k : FieldOn ℕ) (N : ℕ) → IsPrimeField q.characteristic k → IsOrderOf q N → IsOrder k (variable_count q) q.generators N
at-field q k N field h = subst (λ (l : FieldOn ℕ). IsOrder l (variable_count q) q.generators N) (field-one q.characteristic h.0 k h.1 field) h.2

pub order-one : (q : Problem) (M N : ℕ) → IsOrderOf q M → IsOrderOf q N → M ≡ N
order-one q M N h g = order_unique g.0 (variable_count q) q.generators M N (at-field q g.0 M g.1 h) g.2

pub order-over : (q : Problem) (N m : ℕ) → IsOrderOf q N → IsOverOrderOf q m → m < N
order-over q N m h g = over_order g.0 (variable_count q) q.generators N m (at-field q g.0 N g.1 h) g.2

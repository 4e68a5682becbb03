-- Terms in some variables as terms in more: the vector stays.
use Rattle.std.proofs.Common.{◌≡◌, ◌∙◌, ◌+◌, ◌<◌, ◌≤◌, ℕ, List, [], ◌∷◌, ◌++◌, length, take, get_or, replicate, refl, sym, ap, ap₂, subst, arith}
use Rattle.std.specs.Prelude.{All}
use Rattle.std.proofs.lemmas.Bool.Decides.{nat_tests}
use Rattle.std.proofs.lemmas.List.{length-append, length-replicate, map-append, take_more}
use Rattle.std.proofs.lemmas.List.Elements.{All-append, All-cons, All-nil, All-push}
use Rattle.alg_core.specs.Fields.{Has, scalar, scalars}
use Rattle.alg_core.specs.FreeModules.{single}
use Rattle.alg_core.specs.Keys.{TermPlace, Key, key, key_same}
use Rattle.alg_core.specs.Lists.{In, map_in}
use Rattle.alg_core.specs.PlaceOrders.{FitsAt}
use Rattle.alg_core.specs.BlockOrder.{block_order}
use Rattle.alg_core.specs.Spaces.{SpaceOver, IsPlace, entry, entries}
use Rattle.alg_core.specs.Vectors.{Entry, vec, vectors, plus}
use Rattle.alg_core.specs.declared.term.Term.{Term}
use Rattle.alg_core.proofs.VectorLaws.{vec_append, vec_single}
use Rattle.poly_module.specs.SpaceVectors.{ArePlaced, IsVectorOf, IsPoly, IsPolyOf, ArePolys, vector_of, vectors_of}
use Rattle.poly_module.proofs.ExponentBounds.{vec_supp}
use Rattle.poly_module.proofs.SpaceVectorLaws.{poly_given}
use Rattle.module_groebner.proofs.Families.{all_in, in_get}
use Rattle.finite_certificate.specs.MarkSpaces.{IsMarkSpace}
use Rattle.primary_module.specs.WiderTerms.{IsWiderTerm, IsUnmarked}

-- the terms us are ts in more variables
pub record AreWider {E : Type 0} (S : SpaceOver E) (ts us : List (Term E (List ℕ))) : Type 0 where
  pub placed : ArePlaced S (λ m. m) us
  pub same : vector_of S (λ m. m) us ≡ vector_of S (λ m. m) ts

module _ {E : Type 0} (S : SpaceOver E) where
  abbrev es : List (Term E (List ℕ)) → List (Entry E)
  es ts = entries (λ m. m) ts

  abbrev P : Entry E → Type 0
  P e = Has S.field e.1 × IsPlace S e.0

  pub wider_none : AreWider S [] []
  wider_none = record { placed = All-nil P; same = refl }

  -- one entry
  same_key : (w : ℕ) (t u : Term E (List ℕ)) → IsWiderTerm w t u → key (entry (λ m. m) u).0 ≡ key (entry (λ m. m) t).0
  unfolding key
  same_key w t u h = ap₂ {C = Key} (λ i m. (i, m)) h.position h.same

  pub one_entry : (w : ℕ) (t u : Term E (List ℕ)) → IsWiderTerm w t u → vec S.field (es (u ∷ [])) ≡ vec S.field (es (t ∷ []))
  one_entry w t u h =
      vec_single S.field (entry (λ m. m) u)
      ∙ ap₂ (λ c x. (vectors S.field).◌·◌ (scalar S.field c) (single (scalars S.field) key_same x)) h.coefficient (same_key w t u h)
      ∙ sym (vec_single S.field (entry (λ m. m) t))

  pub more : (xs : List (Term E (List ℕ))) (x : Term E (List ℕ)) → vec S.field (es (xs ++ x ∷ [])) ≡ plus S.field (vec S.field (es xs)) (vec S.field (es (x ∷ [])))
  more xs x = ap (vec S.field) (map-append (entry (λ m. m)) xs (x ∷ [])) ∙ vec_append S.field (es xs) (es (x ∷ []))

  module _ (n : ℕ) (ds : List ℕ) (space : IsMarkSpace S n ds) where
    wide : length S.weights ≡ n + length ds
    wide = ap length space.weights ∙ length-append (replicate n 1) ds ∙ ap (λ m. m + length ds) (length-replicate n 1)

    -- a place with this many exponents
    place_in : (p : TermPlace) → p.0 ≡ 0 → length p.1 ≡ length S.weights → IsPlace S p
    place_in p zero long = record {
      fits = subst (λ o. FitsAt o p) (sym space.order) (fits (long ∙ wide));
      wide = long;
      low = subst (λ i. i < length S.shifts) (sym zero) space.position;
    }
      where
        fits : length p.1 ≡ n + length ds → FitsAt (block_order n ds) p
        fits e = grind (arith, nat_tests)

    pub wider_some : (ts us : List (Term E (List ℕ))) (t u : Term E (List ℕ)) → Has S.field t.coef → t.at.pos ≡ 0 → IsWiderTerm (length S.weights) t u → AreWider S ts us
        → AreWider S (ts ++ t ∷ []) (us ++ u ∷ [])
    wider_some ts us t u has zero h a = record {
      placed = subst (All P) (sym (map-append (entry (λ m. m)) us (u ∷ [])))
          (All-append P (es us) (es (u ∷ [])) a.placed (All-cons P (entry (λ m. m) u) [] (subst (Has S.field) (sym h.coefficient) has, place_in (entry (λ m. m) u).0 (h.position ∙ zero) h.wide) (All-nil P)));
      same = more us u ∙ ap₂ (plus S.field) a.same (one_entry (length S.weights) t u h) ∙ sym (more ts t);
    }

    -- the polynomial that they make
    pub wider_poly : (ts us : List (Term E (List ℕ))) (p : List (Term E (List ℕ))) → IsUnmarked S.field n ts → AreWider S ts us
        → IsVectorOf S (λ m. m) (vector_of S (λ m. m) us) p → IsPolyOf S (λ m. m) (vector_of S (λ m. m) ts) p
    unfolding key
    wider_poly ts us p given a made =
        poly_given S (λ m. m) (vector_of S (λ m. m) ts) p (subst (λ v. IsVectorOf S (λ m. m) v p) a.same made)
        (vec_supp S.field (λ t. t.0 ≡ 0) (es ts) given.position)

  -- what is known of one of the terms
  module _ (n : ℕ) (ts : List (Term E (List ℕ))) (given : IsUnmarked S.field n ts) (i : ℕ) (t : Term E (List ℕ)) (below : i < length ts) (read : t ≡ get_or ts i t) where
    inside : In (entry (λ m. m) t) (es ts)
    inside = map_in (entry (λ m. m)) t ts (subst (λ x. In x ts) (sym read) (in_get t ts i below))

    pub has_value : Has S.field t.coef
    has_value = all_in (λ e. Has S.field e.1) (es ts) given.variables.values (entry (λ m. m) t) inside

    pub has_variables : length t.at.mono ≡ n
    has_variables = all_in (λ e. length e.0.1 ≡ n) (es ts) given.variables.wide (entry (λ m. m) t) inside

    pub has_position : t.at.pos ≡ 0
    has_position = all_in (λ e. e.0.0 ≡ 0) (es ts) given.position (entry (λ m. m) t) inside

  -- a space has as many weights as variables and marks
  pub enough : (n : ℕ) (ds : List ℕ) → IsMarkSpace S n ds → (t : Term E (List ℕ)) → length t.at.mono ≡ n → length t.at.mono ≤ length S.weights
  enough n ds space t e = let w = wide n ds space in omega arith

  -- the front of the terms, and one more
  pub wider_more : (n : ℕ) (ds : List ℕ) → IsMarkSpace S n ds → (ts us now : List (Term E (List ℕ))) → IsUnmarked S.field n ts → (i : ℕ) (t u : Term E (List ℕ)) → i < length ts → t ≡ get_or ts i t
      → IsWiderTerm (length S.weights) t u → now ≡ us ++ u ∷ [] → AreWider S (take i ts) us → AreWider S (take (i + 1) ts) now
  wider_more n ds space ts us now given i t u below read h pushed a =
      subst (AreWider S (take (i + 1) ts)) (sym pushed)
      (subst (λ l. AreWider S l (us ++ u ∷ [])) (sym (take_more ts i t below ∙ ap (λ x. take i ts ++ x ∷ []) (sym read)))
      (wider_some n ds space (take i ts) us t u (has_value n ts given i t below read) (has_position n ts given i t below read) h a))

-- one member of a list of which each is so
pub given_member : {A : Type 0} (P : A → Type 0) (xs : List A) (i : ℕ) (x : A) → i < length xs → x ≡ get_or xs i x → All P xs → P x
given_member P xs i x below read all = subst P (sym read) (all_in P xs all (get_or xs i x) (in_get x xs i below))

module _ {E : Type 0} (S : SpaceOver E) where
  -- the front of the polynomials, and one more
  pub polys_more : (fs made now : List (List (Term E (List ℕ)))) (i : ℕ) (f p : List (Term E (List ℕ))) → i < length fs → f ≡ get_or fs i f → IsPolyOf S (λ m. m) (vector_of S (λ m. m) f) p → now ≡ made ++ p ∷ []
      → ArePolys S (λ m. m) made × (vectors_of S (λ m. m) made ≡ vectors_of S (λ m. m) (take i fs)) → ArePolys S (λ m. m) now × (vectors_of S (λ m. m) now ≡ vectors_of S (λ m. m) (take (i + 1) fs))
  polys_more fs made now i f p below read h pushed a = (
    subst (ArePolys S (λ m. m)) (sym pushed) (All-push (IsPoly S (λ m. m)) made p a.0 (record { fits = h.fits; position = h.position })),
    ap (vectors_of S (λ m. m)) pushed
        ∙ map-append (vector_of S (λ m. m)) made (p ∷ [])
        ∙ ap₂ (λ vs v. vs ++ v ∷ []) a.1 h.is
        ∙ sym (map-append (vector_of S (λ m. m)) (take i fs) (f ∷ []))
        ∙ ap (vectors_of S (λ m. m)) (ap (λ x. take i fs ++ x ∷ []) read ∙ sym (take_more fs i f below)),
  )

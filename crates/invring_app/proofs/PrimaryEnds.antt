-- A problem has one end of `primary`.
use Rattle.std.proofs.Common.{◌≡◌, ℕ, suc, ◌<◌, List, [], ◌∷◌, ◌++◌, length, map, All, inl, inr, refl, sym, ap, ap₂, subst, ◌∙◌, arith}
use Rattle.std.specs.Prelude.{codes, decimal, slice_index_or}
use Rattle.std.proofs.lemmas.List.Elements.{All-map, All-weaker}
use Rattle.alg_core.specs.Fields.{FieldOn}
use Rattle.alg_core.specs.Spaces.{SpaceOver, Fits, entries}
use Rattle.alg_core.specs.Vectors.{Vect, vec}
use Rattle.alg_core.specs.declared.limits.Limits.{Limits}
use Rattle.alg_core.specs.declared.term.Term.{Term}
use Rattle.lin_algebra.specs.declared.matrix.Matrix.{Matrix}
use Rattle.poly_module.specs.SpaceVectors.{IsPoly, ArePolys, vectors_of}
use Rattle.poly_text.specs.declared.names.Names.{Names}
use Rattle.finvar_text.specs.Problems.{Problem}
use Rattle.groebner_hom.specs.Exponents.{AreLeastExponents}
use Rattle.primary_search.specs.Searches.{IsEnd}
use Rattle.invring_app.specs.declared.status.BoundFault.{BoundFault}
use Rattle.invring_app.specs.declared.status.BoundFault.TheVariants.{TermBound, GroupBound, NoPrimary, BasisBound, RankBound, TextBound}
use Rattle.invring_app.specs.Commands.Bases.{AreMatricesOf, AreNamesOf}
use Rattle.invring_app.specs.Commands.Orders.{IsOrderBound}
use Rattle.invring_app.specs.Commands.Primaries.{KeepsOrder, IsSearchStop, IsSearchBound, IsPrimaryBound, IsPrimaryText, IsPrimaryAnswer}
use Rattle.invring_app.specs.Endings.{Ending, StopsAt, Rejects, Answers, AreAlike, AtProblem}
use Rattle.invring_app.specs.ErrorLines.{bound_pieces, which_word}
use Rattle.invring_app.specs.Inputs.{OfScript}
use Rattle.invring_app.specs.Lines.{polynomial_lines, power_lines}
use Rattle.invring_app.proofs.SearchEnds.{Ending as SearchEnding, Found, TookUpTo, TooManyTerms, AboveCap, EndsAs, AreAlike as AreAlikeEnds, ending-one, ends-by}
use Rattle.invring_app.proofs.EndingLaws.{space-one, same-basis, same-members, names-one, order-over}

-- least exponents are one list
exponents-one : (k : FieldOn ℕ) (n : ℕ) (θ : List (Vect k)) (es fs : List ℕ) → AreLeastExponents k n θ es → AreLeastExponents k n θ fs → es ≡ fs
exponents-one k n θ es fs a b = by-places es fs (a.count ∙ sym b.count) (λ i h.
    let x = a.each i (let count = a.count in omega arith) in
    let y = b.each i (let count = a.count in omega arith) in
    let p = x.least _ y.inside in
    let q = y.least _ x.inside in
    omega arith)
  where
    by-places : (xs ys : List ℕ) → length xs ≡ length ys → ((i : ℕ) → i < length xs → slice_index_or xs i 0 ≡ slice_index_or ys i 0) → xs ≡ ys
    by-places [] [] same each = refl
    by-places [] (y ∷ ys) same each = absurd (omega arith)
    by-places (x ∷ xs) [] same each = absurd (omega arith)
    by-places (x ∷ xs) (y ∷ ys) same each = ap₂ ◌∷◌ (each 0 (omega arith)) (by-places xs ys (omega arith) (λ i h. each (suc i) (omega arith)))

-- what is said over one space
record TextAt (q : Problem) (l : Limits) (text : List ℕ) (S : SpaceOver ℕ) : Type 0 where
  matrices : List (Matrix ℕ)
  are_matrices : AreMatricesOf q matrices
  names : Names
  are_names : AreNamesOf q names
  primaries : List (List (Term ℕ (List ℕ)))
  polynomials : ArePolys S (λ m. m) primaries
  end : IsEnd S matrices l (vectors_of S (λ m. m) primaries)
  exponents : List ℕ
  least : AreLeastExponents S.field (length S.weights) (vectors_of S (λ m. m) primaries) exponents
  is_text : text ≡ polynomial_lines (codes "primary ") S names (map (entries (λ m. m)) primaries) ++ power_lines q.variables exponents

pub record StopAt (q : Problem) (l : Limits) (f : BoundFault) (S : SpaceOver ℕ) : Type 0 where
  pub matrices : List (Matrix ℕ)
  pub are_matrices : AreMatricesOf q matrices
  pub stop : IsSearchStop S matrices l f

text-at : (q : Problem) (l : Limits) (text : List ℕ) (T : SpaceOver ℕ) (a : IsPrimaryText q l text) → a.space ≡ T → TextAt q l text T
text-at q l text T a e = subst (TextAt q l text) e (record {
  matrices = a.matrices;
  are_matrices = a.ground.matrices;
  names = a.names;
  are_names = a.are_names;
  primaries = a.primaries;
  polynomials = a.polynomials;
  end = a.end;
  exponents = a.exponents;
  least = a.least;
  is_text = a.is_text;
})

pub stop-at : (q : Problem) (l : Limits) (f : BoundFault) (T : SpaceOver ℕ) (a : IsSearchBound l q f) → a.space ≡ T → StopAt q l f T
stop-at q l f T a e = subst (StopAt q l f) e (record { matrices = a.matrices; are_matrices = a.ground.matrices; stop = a.stop })

module _ (q : Problem) (l : Limits) (S : SpaceOver ℕ) where
  abbrev Terms : Type 0
  Terms = List (Term ℕ (List ℕ))

  -- over the matrices of another
  moved : (ms ns : List (Matrix ℕ)) → AreMatricesOf q ms → AreMatricesOf q ns → (e : SearchEnding S.field) → EndsAs S ms l e → EndsAs S ns l e
  moved ms ns are others = ends-by S ms ns l (λ d bs. same-basis S d ms ns bs (are ∙ sym others))

  lists-one : (ps qs : List (List (Term ℕ (List ℕ)))) → ArePolys S (λ m. m) ps → ArePolys S (λ m. m) qs → vectors_of S (λ m. m) ps ≡ vectors_of S (λ m. m) qs → map (entries (λ m. m)) ps ≡ map (entries (λ m. m)) qs
  lists-one ps qs a b e = same-members S (map (entries (λ m. m)) ps) (map (entries (λ m. m)) qs) (fit ps a) (fit qs b) (twice ps ∙ e ∙ sym (twice qs))
    where
      fit : (rs : List Terms) → ArePolys S (λ m. m) rs → All (Fits S) (map (entries (λ m. m)) rs)
      fit rs c = All-map (Fits S) (entries (λ m. m)) rs (All-weaker (IsPoly S (λ m. m)) (λ r. Fits S (entries (λ m. m) r)) (λ r p. p.fits) rs c)

      twice : (rs : List Terms) → map (vec S.field) (map (entries (λ m. m)) rs) ≡ vectors_of S (λ m. m) rs
      twice [] = refl
      twice (r ∷ rs) = ap (λ v. vec S.field (entries (λ m. m) r) ∷ v) (twice rs)

  pub found-one : (θ η : List (Vect S.field)) (ms ns : List (Matrix ℕ)) → AreMatricesOf q ms → AreMatricesOf q ns → IsEnd S ms l θ → IsEnd S ns l η → θ ≡ η
  found-one θ η ms ns are others a b = ending-one S ns l (Found θ) (Found η) (moved ms ns are others (Found θ) a) b

  texts-one : (text other : List ℕ) → TextAt q l text S → TextAt q l other S → text ≡ other
  texts-one text other a b =
      let θ = vectors_of S (λ m. m) a.primaries in
      let η = vectors_of S (λ m. m) b.primaries in
      let found : θ ≡ η = found-one θ η a.matrices b.matrices a.are_matrices b.are_matrices a.end b.end in
      let exponents = exponents-one S.field (length S.weights) η a.exponents b.exponents (subst (λ x. AreLeastExponents S.field (length S.weights) x a.exponents) found a.least) b.least in
      a.is_text ∙ ap₂ (λ (x y : List ℕ). x ++ y)
      (ap (polynomial_lines (codes "primary ") S a.names) (lists-one a.primaries b.primaries a.polynomials b.polynomials found) ∙ ap (λ (n : Names). polynomial_lines (codes "primary ") S n (map (entries (λ m. m)) b.primaries)) (names-one q a.names b.names a.are_names b.are_names))
      (ap (power_lines q.variables) exponents) ∙ sym b.is_text

  -- the end of the search that a bound names, where it names one
  IsEndOf : BoundFault → SearchEnding S.field → Type 0
  IsEndOf (TermBound d count) e = e ≡ TooManyTerms d count
  IsEndOf (GroupBound counted) e = ⊥
  IsEndOf (NoPrimary found d) e = e ≡ TookUpTo (vectors_of S (λ m. m) found.items) d
  IsEndOf (BasisBound which vector degree) e = e ≡ AboveCap (record { vector = vector; degree = degree; which = which })
  IsEndOf (RankBound counted) e = ⊥
  IsEndOf (TextBound bytes) e = ⊥

  end-of : (f : BoundFault) (ms : List (Matrix ℕ)) → IsSearchStop S ms l f → (e : SearchEnding S.field) × IsEndOf f e × EndsAs S ms l e
  unfolding IsEndOf
  end-of (TermBound d count) ms a = (TooManyTerms d count, refl, a)
  end-of (GroupBound counted) ms a = absurd a
  end-of (NoPrimary found d) ms a = (TookUpTo (vectors_of S (λ m. m) found.items) d, refl, a.1)
  end-of (BasisBound which vector degree) ms a = (AboveCap (record { vector = vector; degree = degree; which = which }), refl, a)
  end-of (RankBound counted) ms a = absurd a
  end-of (TextBound bytes) ms a = absurd a

  -- a search that ends with invariants ends at no bound
  pub found-no-stop : (θ : List (Vect S.field)) (ms : List (Matrix ℕ)) → AreMatricesOf q ms → IsEnd S ms l θ → (f : BoundFault) → StopAt q l f S → ⊥
  unfolding IsEndOf
  found-no-stop θ ms are end f b = at f (end-of f b.matrices b.stop)
    where
      one : (e : SearchEnding S.field) → EndsAs S b.matrices l e → AreAlikeEnds S.field (Found θ) e
      one e h = ending-one S b.matrices l (Found θ) e (moved ms b.matrices are b.are_matrices (Found θ) end) h

      at : (f : BoundFault) → (e : SearchEnding S.field) × IsEndOf f e × EndsAs S b.matrices l e → ⊥
      at (TermBound d count) h = subst (AreAlikeEnds S.field (Found θ)) h.1 (one h.0 h.2)
      at (GroupBound counted) h = h.1
      at (NoPrimary found d) h = subst (AreAlikeEnds S.field (Found θ)) h.1 (one h.0 h.2)
      at (BasisBound which vector degree) h = subst (AreAlikeEnds S.field (Found θ)) h.1 (one h.0 h.2)
      at (RankBound counted) h = h.1
      at (TextBound bytes) h = h.1

  text-no-stop : (text : List ℕ) (f : BoundFault) → TextAt q l text S → StopAt q l f S → ⊥
  text-no-stop text f a b = found-no-stop (vectors_of S (λ m. m) a.primaries) a.matrices a.are_matrices a.end f b

  length_vectors : (ps : List (List (Term ℕ (List ℕ)))) → length (vectors_of S (λ m. m) ps) ≡ length ps
  length_vectors [] = refl
  length_vectors (p ∷ ps) = ap suc (length_vectors ps)

  pub stops-one : (f g : BoundFault) → StopAt q l f S → StopAt q l g S → bound_pieces f ≡ bound_pieces g
  unfolding IsEndOf
  stops-one f g a b =
      let x = end-of f a.matrices a.stop in
      let y = end-of g b.matrices b.stop in
      at f g x.0 y.0 x.1 y.1 (ending-one S b.matrices l x.0 y.0 (moved a.matrices b.matrices a.are_matrices b.are_matrices x.0 x.2) y.2)
    where
      alike : (x y x' y' : SearchEnding S.field) → x ≡ x' → y ≡ y' → AreAlikeEnds S.field x y → AreAlikeEnds S.field x' y'
      alike x y x' y' e d h = subst (AreAlikeEnds S.field x') d (subst (λ z. AreAlikeEnds S.field z y) e h)

      at : (f g : BoundFault) (x y : SearchEnding S.field) → IsEndOf f x → IsEndOf g y → AreAlikeEnds S.field x y → bound_pieces f ≡ bound_pieces g
      at (TermBound d m) (TermBound e n) x y p r h = let s = alike x y _ _ p r h in ap₂ (λ (i j : ℕ). bound_pieces (TermBound i j)) s.0 s.1
      at (TermBound d m) (GroupBound counted) x y p r h = absurd r
      at (TermBound d m) (NoPrimary found e) x y p r h = absurd (alike x y _ _ p r h)
      at (TermBound d m) (BasisBound w v e) x y p r h = absurd (alike x y _ _ p r h)
      at (TermBound d m) (RankBound counted) x y p r h = absurd r
      at (TermBound d m) (TextBound bytes) x y p r h = absurd r
      at (GroupBound counted) g x y p r h = absurd p
      at (NoPrimary found d) (TermBound e n) x y p r h = absurd (alike x y _ _ p r h)
      at (NoPrimary found d) (GroupBound counted) x y p r h = absurd r
      at (NoPrimary found d) (NoPrimary others e) x y p r h =
          let s = alike x y _ _ p r h in
          ap₂ (λ (i j : ℕ). codes "bound primary " ∷ decimal i ∷ codes " " ∷ decimal j ∷ []) (sym (length_vectors found.items) ∙ ap length s.0 ∙ length_vectors others.items) s.1
      at (NoPrimary found d) (BasisBound w v e) x y p r h = absurd (alike x y _ _ p r h)
      at (NoPrimary found d) (RankBound counted) x y p r h = absurd r
      at (NoPrimary found d) (TextBound bytes) x y p r h = absurd r
      at (BasisBound w v d) (TermBound e n) x y p r h = absurd (alike x y _ _ p r h)
      at (BasisBound w v d) (GroupBound counted) x y p r h = absurd r
      at (BasisBound w v d) (NoPrimary found e) x y p r h = absurd (alike x y _ _ p r h)
      at (BasisBound w v d) (BasisBound u t e) x y p r h =
          let s = alike x y _ _ p r h in
          ap₂ (λ (i : _) (j : ℕ). codes "bound basis " ∷ which_word i ∷ decimal j ∷ []) s.0 s.1
      at (BasisBound w v d) (RankBound counted) x y p r h = absurd r
      at (BasisBound w v d) (TextBound bytes) x y p r h = absurd r
      at (RankBound counted) g x y p r h = absurd p
      at (TextBound bytes) g x y p r h = absurd p

-- the group is too large, or it is not
kept-not-over : (q : Problem) (l : Limits) (f : BoundFault) → KeepsOrder l q → IsOrderBound l q f → ⊥
kept-not-over q l f kept bound = let over = order-over q kept.0 l.max_order kept.1 bound.1 in let few = kept.2 in omega arith

pub primary-one : (q : Problem) (l : Limits) (e f : Ending) → AtProblem (IsPrimaryBound l) (IsPrimaryAnswer l) (OfScript q) e → AtProblem (IsPrimaryBound l) (IsPrimaryAnswer l) (OfScript q) f → AreAlike e f
primary-one q l (StopsAt x) (StopsAt y) (inl a) (inl b) = ap bound_pieces (a.0 ∙ sym b.0)
primary-one q l (StopsAt x) (StopsAt y) (inl a) (inr b) = absurd (kept-not-over q l x b.0 a)
primary-one q l (StopsAt x) (StopsAt y) (inr a) (inl b) = absurd (kept-not-over q l y a.0 b)
primary-one q l (StopsAt x) (StopsAt y) (inr a) (inr b) =
    stops-one q l b.1.space x y (stop-at q l x b.1.space a.1 (space-one q a.1.space b.1.space a.1.ground.space b.1.ground.space)) (stop-at q l y b.1.space b.1 refl)
primary-one q l (StopsAt x) (Rejects c i other) a b = absurd b
primary-one q l (Rejects c i text) f a b = absurd a
primary-one q l (StopsAt x) (Answers text) (inl a) b = absurd (kept-not-over q l x b.0 a)
primary-one q l (StopsAt x) (Answers text) (inr a) b =
    text-no-stop q l a.1.space text x (text-at q l text a.1.space b.1 (space-one q b.1.space a.1.space b.1.ground.space a.1.ground.space)) (stop-at q l x a.1.space a.1 refl)
primary-one q l (Answers text) (Rejects c i other) a b = absurd b
primary-one q l (Answers text) (StopsAt y) a (inl b) = absurd (kept-not-over q l y a.0 b)
primary-one q l (Answers text) (StopsAt y) a (inr b) =
    text-no-stop q l b.1.space text y (text-at q l text b.1.space a.1 (space-one q a.1.space b.1.space a.1.ground.space b.1.ground.space)) (stop-at q l y b.1.space b.1 refl)
primary-one q l (Answers text) (Answers other) a b =
    texts-one q l b.1.space text other (text-at q l text b.1.space a.1 (space-one q a.1.space b.1.space a.1.ground.space b.1.ground.space)) (text-at q l other b.1.space b.1 refl)

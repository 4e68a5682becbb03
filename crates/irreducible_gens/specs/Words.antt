-- The word that is printed for a polynomial: a polynomial in marks, whose degrees are ws. θ are primary invariants, Q irreducible
-- generators.
--
--   word_space k ws             the polynomials in these marks, by weighted dp
--   IsMonomialBefore k ws s t   s and t are monomials of one degree in these marks, and s is smaller by weighted dp
--   word_value k θ Q t          the value of the monomial t, where the marks have the values θ and Q
--   IsPrintedWord k ws θ Q f u  u is such a polynomial with the value f, and the value of none of its monomials lies in the span of
--                               the values of the smaller monomials of its degree
--   IsVectorOf o v              v has the terms of the vector of the combination o, where there is one, and else there is none
--   IsWordOf S theta irr f o    o is the word that is printed for f, and None exactly where f is no polynomial in theta and irr
use Rattle.std.specs.Prelude.{◌≡◌, ◌≤◌, ℕ, List, [], ◌∷◌, ◌++◌, Option, Some, None, IfNone, IfSome, length}
use Rattle.std.specs.declared.cmp.Ordering.TheVariants.{Less}
use Rattle.alg_core.specs.DpOrder.{dp_order}
use Rattle.alg_core.specs.Fields.{FieldOn}
use Rattle.alg_core.specs.Keys.{Key}
use Rattle.alg_core.specs.SpaceOrder.{key_order}
use Rattle.alg_core.specs.Spaces.{SpaceOver, entries}
use Rattle.alg_core.specs.Vectors.{Vect}
use Rattle.alg_core.specs.declared.term.Term.{Term}
use Rattle.poly_module.specs.Choices.{IsFirstChoice}
use Rattle.poly_module.specs.Forms.{key_weight}
use Rattle.poly_module.specs.Polynomials.{vector_ring}
use Rattle.poly_module.specs.SpaceVectors.{vector_of, vectors_of, IsPoly}
use Rattle.poly_module.specs.Substitutions.{monomial_value, substitute}
use Rattle.poly_module.specs.declared.vector.Comb.{Comb}
use Rattle.secondary_gens.specs.Forms.{degrees_of}
use Rattle.irreducible_gens.specs.Algebras.{IsWord, InAlgebra}

module _ {E : Type 0} (k : FieldOn E) (ws : List ℕ) where
  -- the polynomials in the marks
  abbrev pub word_space : SpaceOver E
  word_space = record { field = k; order = dp_order ws; weights = ws; shifts = 0 ∷ [] }

  -- monomials of one degree, the first smaller
  pub record IsMonomialBefore (s t : Key) : Type 0 where
    pub position : s.0 ≡ 0
    pub variables : length s.1.0 ≤ length ws
    pub degree : key_weight ws s ≡ key_weight ws t
    pub smaller : (key_order word_space).compare s t ≡ Less

module _ {E : Type 0} (k : FieldOn E) where
  -- the value of a monomial
  abbrev pub word_value : List (Vect k) → List (Vect k) → Key → Vect k
  word_value θ Q t = monomial_value (vector_ring k) (θ ++ Q) t.1.0

  -- the one polynomial with this value that uses first monomials alone
  pub record IsPrintedWord (ws : List ℕ) (θ Q : List (Vect k)) (f u : Vect k) : Type 0 where
    pub word : IsWord k (length (θ ++ Q)) u
    pub value : substitute k (θ ++ Q) u ≡ f
    pub first : IsFirstChoice k (word_value θ Q) (IsMonomialBefore k ws) u

-- copies of the vectors of combinations
abbrev pub IsVectorOf : {E : Type 0} → Option (Comb E) → Option (List (Term E (List ℕ))) → Type 0
IsVectorOf None None = Unit {0}
IsVectorOf None (Some v) = ⊥
IsVectorOf (Some c) None = ⊥
IsVectorOf (Some c) (Some v) = entries (λ m. m) v ≡ entries (λ m. m) c.vector

module _ {E : Type 0} (S : SpaceOver E) (theta irr : List (List (Term E (List ℕ)))) where
  -- the printed word, or that there is none
  pub record IsWordOf (f : List (Term E (List ℕ))) (o : Option (List (Term E (List ℕ)))) : Type 0 where
    pub none : IfNone o (¬ InAlgebra S.field (vectors_of S (λ m. m) theta) (vectors_of S (λ m. m) irr) (vector_of S (λ m. m) f))
    pub polynomial : IfSome o (IsPoly (word_space S.field (degrees_of theta ++ degrees_of irr)) (λ m. m))
    pub printed : IfSome o (λ w. IsPrintedWord S.field (degrees_of theta ++ degrees_of irr) (vectors_of S (λ m. m) theta) (vectors_of S (λ m. m) irr)
        (vector_of S (λ m. m) f) (vector_of S (λ m. m) w))

-- Elimination by rows, each of which has a key of its own: it is 1 there, and each later row is 0 there.
--
--   Line k                   a key and a vector
--   vectors_in k ls          the vectors of these lines
--   IsTriangular k ls        each vector is 1 at its key, and each later one is 0 there
--   IsReducedBy k ls v w fs  w and the sum of the multiples of the vectors by fs are v, and w is 0 at each key
--   IsEchelonOf k vs ls      the lines are triangular, and their vectors span what the vectors vs span
--   IsFirstIn k value L t    t stands in the list L of keys, and its value is not in the span of the values of those before it
--   IsTracked k value L of ls cs   the vectors of the lines are the values `of` the vectors cs, whose keys are all such keys of L
--   line_of S r, lines_of S rs   the line that a row stands for
--   IsRowOver S r            its key is a place of the space S, and its vector a polynomial over S
use Rattle.std.specs.Prelude.{◌≡◌, List, [], ◌∷◌, ◌++◌, length, map}
use Rattle.alg_core.specs.Fields.{FieldOn, Scalar, scalars}
use Rattle.alg_core.specs.Keys.{Key, key}
use Rattle.alg_core.specs.Lists.{In}
use Rattle.alg_core.specs.Spaces.{SpaceOver, IsPlace, place}
use Rattle.alg_core.specs.Spans.{combine}
use Rattle.alg_core.specs.Vectors.{Vect, vectors, coef_at, plus}
use Rattle.poly_module.specs.Echelons.{Spans}
use Rattle.poly_module.specs.Parts.{Supp}
use Rattle.poly_module.specs.SpaceVectors.{vector_of, IsPoly}
use Rattle.secondary_gens.specs.declared.elimination.Row.{Row}

module _ {E : Type 0} (k : FieldOn E) where
  abbrev pub Line : Type 0
  Line = Key × Vect k

  abbrev pub vectors_in : List Line → List (Vect k)
  vectors_in ls = map (λ l. l.1) ls

  -- 1 at its key, where each later one is 0
  abbrev pub IsTriangular : List Line → Type 0
  IsTriangular [] = Unit {0}
  IsTriangular (l ∷ ls) = (coef_at k l.1 l.0 ≡ (scalars k).one) × ((m : Line) → In m ls → coef_at k m.1 l.0 ≡ (scalars k).zero) × IsTriangular ls

  -- what is left of v
  pub record IsReducedBy (ls : List Line) (v w : Vect k) (fs : List (Scalar k)) : Type 0 where
    pub each : length fs ≡ length ls
    pub sum : plus k w (combine (vectors k) fs (vectors_in ls)) ≡ v
    pub zero : (l : Line) → In l ls → coef_at k w l.0 ≡ (scalars k).zero

  -- the same span
  pub record IsEchelonOf (vs : List (Vect k)) (ls : List Line) : Type 0 where
    pub triangular : IsTriangular ls
    pub inside : (l : Line) → In l ls → Spans k vs l.1
    pub outside : (v : Vect k) → In v vs → Spans k (vectors_in ls) v

  module _ (value : Key → Vect k) (L : List Key) where
    -- not in the span of those before it
    abbrev pub IsFirstIn : Key → Type 0
    IsFirstIn t = (front : List Key) × (back : List Key) × (L ≡ front ++ t ∷ back) × (¬ Spans k (map value front) (value t))

    -- values of vectors with such keys alone
    pub record IsTracked (of : Vect k → Vect k) (ls : List Line) (cs : List (Vect k)) : Type 0 where
      pub values : map of cs ≡ vectors_in ls
      pub first : (c : Vect k) → In c cs → Supp k IsFirstIn c

module _ {E : Type 0} (S : SpaceOver E) where
  -- the line of a row
  abbrev pub line_of : Row E → Line S.field
  line_of r = (key (place (λ m. m) r.pivot), vector_of S (λ m. m) r.vector)

  abbrev pub lines_of : List (Row E) → List (Line S.field)
  lines_of rs = map line_of rs

  -- over the space
  pub record IsRowOver (r : Row E) : Type 0 where
    pub place : IsPlace S (place (λ m. m) r.pivot)
    pub polynomial : IsPoly S (λ m. m) r.vector

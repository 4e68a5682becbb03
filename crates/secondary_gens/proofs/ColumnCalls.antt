-- The columns of one more polynomial, for the polynomials of a call.
use Rattle.std.proofs.Common.{◌≡◌, ℕ, ◌+◌, ◌-◌, ◌<◌, ◌≤◌, List, [], ◌++◌, length, map, get_or, sym, subst, ◌∙◌, arith}
use Rattle.std.specs.Prelude.{All}
use Rattle.std.proofs.lemmas.List.{length-map}
use Rattle.alg_core.specs.Spaces.{SpaceOver}
use Rattle.alg_core.specs.declared.term.Term.{Term}
use Rattle.poly_module.specs.Polynomials.{product}
use Rattle.poly_module.specs.Sizes.{HasRoom}
use Rattle.poly_module.specs.SpaceVectors.{vector_of, vectors_of, IsPoly}
use Rattle.secondary_gens.specs.Images.{IsImage}
use Rattle.secondary_gens.specs.Columns.{AreLevels, IsLevel, IsColumnPart, key_of, keys_of}
use Rattle.secondary_gens.specs.Forms.{degree_of, degrees_of, IsSmallForm}
use Rattle.secondary_gens.specs.declared.columns.Column.{Column}
use Rattle.secondary_gens.proofs.FormDegrees.{degree_at, vector_at, form_image}
use Rattle.secondary_gens.proofs.ColumnSteps.{level_polynomials, level_room, level_wide, part_more, part_skip}

module _ {E : Type 0} (S : SpaceOver E) (theta polynomials : List (List (Term E (List ℕ)))) (levels : List (List (Column E))) (are : AreLevels S (vectors_of S (λ m. m) theta) (degrees_of theta) levels) (d : ℕ) (count : d < length levels) (small : d ≤ 12288)
    (j : ℕ) (inside : j < length polynomials) (n : ℕ) (degree : n ≡ get_or (degrees_of polynomials) j 0) where
  module _ (low : n ≤ d) (level : List (Column E)) (is : level ≡ get_or levels (d - n) []) where
    the_level : IsLevel S (vectors_of S (λ m. m) theta) (degrees_of theta) (d - n) level
    the_level = subst (IsLevel S (vectors_of S (λ m. m) theta) (degrees_of theta) (d - n)) (sym is) (are (d - n) (omega arith))

    pub column_polynomials : All (λ c. IsPoly S (λ m. m) c.value) level
    column_polynomials = level_polynomials S (vectors_of S (λ m. m) theta) (degrees_of theta) (d - n) level the_level

    module _ (p : List (Term E (List ℕ))) (read : p ≡ get_or polynomials j p) (g : All (IsSmallForm S) polynomials) where
      own : IsImage S n (vector_of S (λ m. m) p) p
      own = subst (λ e. IsImage S e (vector_of S (λ m. m) p) p) (degree_at S polynomials j p inside read ∙ sym degree) (form_image S p (subst (IsSmallForm S) (sym read) (g j p inside)))

      pub column_room : All (λ c. HasRoom 4294967295 (λ m. m) c.value p) level
      column_room = level_room S (vectors_of S (λ m. m) theta) (degrees_of theta) (d - n) n level (vector_of S (λ m. m) p) p the_level own (omega arith)

      pub column_more : (old new : List (Column E)) → All (λ c. IsPoly S (λ m. m) c.value) new
          → ((k : ℕ) → All (λ c. length c.at.mono ≡ k) level → All (λ c. length c.at.mono ≡ k) old → All (λ c. length c.at.mono ≡ k) new)
          → keys_of new ≡ keys_of old ++ map (λ c. (j, (key_of c).1)) level
          → map (λ c. vector_of S (λ m. m) c.value) new ≡ map (λ c. vector_of S (λ m. m) c.value) old ++ map (λ c. product S.field (vector_of S (λ m. m) c.value) (vector_of S (λ m. m) p)) level
          → IsColumnPart S (vectors_of S (λ m. m) theta) (degrees_of theta) (vectors_of S (λ m. m) polynomials) (degrees_of polynomials) d j old
          → IsColumnPart S (vectors_of S (λ m. m) theta) (degrees_of theta) (vectors_of S (λ m. m) polynomials) (degrees_of polynomials) d (j + 1) new
      column_more old new polys wide names values was = part_more S (vectors_of S (λ m. m) theta) (degrees_of theta) (d - n) j level the_level (vectors_of S (λ m. m) polynomials) (degrees_of polynomials) d old new p
          (let e = degree in omega arith) (let l = length-map polynomials degree_of in omega arith) (vector_at S polynomials j p inside read) polys
          (wide (length (degrees_of theta)) (level_wide S (vectors_of S (λ m. m) theta) (degrees_of theta) (d - n) level the_level) was.wide) names values was

  pub column_skip : d < n → (cs : List (Column E)) → IsColumnPart S (vectors_of S (λ m. m) theta) (degrees_of theta) (vectors_of S (λ m. m) polynomials) (degrees_of polynomials) d j cs
      → IsColumnPart S (vectors_of S (λ m. m) theta) (degrees_of theta) (vectors_of S (λ m. m) polynomials) (degrees_of polynomials) d (j + 1) cs
  column_skip above cs was = part_skip S (vectors_of S (λ m. m) theta) (degrees_of theta) (vectors_of S (λ m. m) polynomials) (degrees_of polynomials) d j cs (let l = length-map polynomials degree_of in omega arith) (let e = degree in omega arith) was

-- The names that the proofs of this crate cite most, passed on from one place. Declares nothing.
pub use Rattle.std.proofs.Common.{⊎_elim, mul-le-mul, ◌≡◌, ℕ, zero, suc, ◌<◌, ◌≤◌, List, replicate, ◌⊎◌, inl, inr, sym, ap, ap₂, ◌∙◌, arith, ◌+◌, ◌*◌, [], ◌∷◌, ◌++◌, length, get_or, slice_set, refl, subst, take, drop, All, take-append-drop, ◌≢◌, Bool, true, false, cond, ◌||◌, map, Contains, true≢false, ◌&&◌, nat_eq, if◌then◌else◌, fold, slice_get, Some, Ok, Err, Result, ◌-◌}
pub use Rattle.std.proofs.lemmas.Bool.{cases_lt}
pub use Rattle.std.proofs.lemmas.List.{map-append, get_or-take, get_or-drop, get_or_default, length-take-le, length-drop, ext_get_or, length-map, length-append, length_push, get_or_append_left, get_or_push, get_or-map, take_all, get_or_past}
pub use Rattle.std.proofs.lemmas.List.Elements.{All-cons, All-take, All-drop, All-from_recursion, Contains-append_left, Contains-append_right, Contains-append_cases, Contains-get_or, Contains-push, Contains-push_cases, All-push, All-contains, All-map, All-append, recursion_from_All, All-nil, All-head, All-tail, All-contains_itself}
pub use Rattle.std.proofs.lemmas.List.Sums.{fold-append, fold_more}
pub use Rattle.std.specs.List.{flat_map, AllByRecursion as Each, list_any}
pub use native.Mathlib.Decide.{ℕ_discrete, dec_le}
pub use Rattle.alg_core.specs.Fields.{FieldOn, Scalar, scalars, scalar, Has, scalar_one, scalar_value, scalar_of_value, Exact}
pub use Rattle.alg_core.specs.Keys.{key_same, Key}
unfoldable pub use Rattle.alg_core.specs.Keys.{key, keys}
pub use Rattle.alg_core.specs.Monomials.{mono, exponent, Mon, monomials, exponent_added, exponent_mul, exponent_mono, exponent_one}
unfoldable pub use Rattle.alg_core.specs.Monomials.{added}
pub use Rattle.alg_core.specs.Rings.{Linear, Homomorphism, Ring, Multiplicative}
pub use Rattle.alg_core.specs.SpaceGrading.{weight_ext}
unfoldable pub use Rattle.alg_core.specs.SpaceGrading.{weight}
pub use Rattle.alg_core.specs.Spaces.{entries, SpaceOver, Fits, over, IsPlace}
pub use Rattle.alg_core.specs.Vectors.{Vect, vectors, vec, Entry}
unfoldable pub use Rattle.alg_core.specs.Vectors.{plus, zero_vector, scale}
pub use Rattle.alg_core.specs.declared.term.Term.{Term}
pub use Rattle.poly_module.specs.Forms.{IsForm, OfDegree, of_degree, form_one, form_product, form_power}
pub use Rattle.poly_module.specs.GreatestExponents.{total, greatest, peak, highest}
unfoldable pub use Rattle.poly_module.specs.MonomialVariables.{variable, after_zeros}
pub use Rattle.poly_module.specs.Parts.{IsPolynomial, InVariables, Supp, supp_single, linear_supp, linear_unique_supp, supp_zero, supp_plus, supp_act}
pub use Rattle.poly_module.specs.Polynomials.{vector_ring, vector_algebra}
unfoldable pub use Rattle.poly_module.specs.Polynomials.{polynomials, polynomial_algebra, product, one_vector, single_vector}
pub use Rattle.poly_module.specs.Substitutions.{image as image_of, substitute, power, power_add, monomial_value, substitute_single, substitution_unique, variables_tell}
unfoldable pub use Rattle.poly_module.specs.Substitutions.{variable_vector, position_vector}
pub use Rattle.poly_module.specs.Values.{homomorphism_after, value_single, value_homomorphism}
pub use Rattle.poly_module.specs.Variables.{substitute_linear, product_polynomial, product_in_variables, length_one, length_mon}
pub use Rattle.lin_algebra.proofs.CutLaws.{cut_at, listing, listing_same, length_listing, get_or-listing, length_cut, cut_flat, length_flat}
pub use Rattle.lin_algebra.proofs.DotLaws.{dot_same, dot_comm, dot_zero, dot_add, dot_act, dot_unit, unit_comm}
pub use Rattle.lin_algebra.specs.Matrices.{cut, HasInverse, IsInverse, IsMatrix}
pub use Rattle.lin_algebra.specs.Vectors.{dot, unit, vector, IsRow}
pub use Rattle.lin_algebra.specs.declared.matrix.Matrix.{Matrix}
pub use Rattle.matrix_group.specs.Actions.{linear_form, image, IsSquare, act_by, Invariant}
unfoldable pub use Rattle.matrix_group.specs.Actions.{act}
pub use Rattle.matrix_group.specs.Families.{power_product}
unfoldable pub use Rattle.matrix_group.specs.Families.{family_value}
pub use Rattle.matrix_group.specs.Groups.{entry, cells_of, made, IsCells, AreApart, is_yes, is_same, is_found, with_new, IsGroup, IsProduct, IsNonsingular, AreElements, IsOrder, IsOverOrder, walk, IsWalk, product_of, size, with_products}
unfoldable pub use Rattle.matrix_group.specs.Groups.{identity, times}
pub use Rattle.matrix_group.specs.Insertions.{are_same}
pub use Rattle.indexmap.specs.IndexSet.{insert_key}
pub use lib.Pointwise.{pointwise_decides, pointwise}

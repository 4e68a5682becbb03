-- The names that the proofs of this crate cite most, passed on from one place. Declares nothing.
pub use Rattle.std.proofs.Common.{◌/◌, ◌^◌, ◌↔◌, slice_index_or, Vec, Global, Option, None, IfNone, IfSome, IsSome, rules, length-set}
pub use borrow.Author.Count.{below_more}
pub use Rattle.std.proofs.lemmas.List.{get_or_read, take_more, length-replicate}
pub use Rattle.std.specs.declared.cmp.Ordering.TheVariants.{Less}
pub use Rattle.alg_core.proofs.Members.{in_contains, contains_in, from_map}
pub use Rattle.alg_core.proofs.VectorLaws.{coef_at_ext, coef_at_plus, vec_nothing, coef_at_zero, vec_append, vec_single, plus_assoc, plus_zero, zero_plus}
pub use Rattle.alg_core.specs.Fields.{is_field, scalar_add, scalar_neg, scalar_zero, scalar_mul}
pub use Rattle.alg_core.specs.KeyLists.{Falls}
pub use Rattle.alg_core.specs.KeyOrders.{OrderOn, less_irreflexive, greater_less, less_asymmetric}
pub use Rattle.alg_core.specs.Keys.{times_key, times_key_product, TermPlace, times_key_cancel, KeyDivides, key_injective}
pub use Rattle.alg_core.specs.Lists.{In}
pub use Rattle.alg_core.specs.Monomials.{mon_ext, Divides, divides_dec}
pub use Rattle.alg_core.specs.SpaceOrder.{key_order, key_compare_places}
pub use Rattle.alg_core.specs.Spaces.{IsAbove, place, entry}
pub use Rattle.alg_core.specs.Spans.{InSpan}
pub use Rattle.alg_core.specs.Vectors.{shift}
unfoldable pub use Rattle.alg_core.specs.Vectors.{coef_at}
pub use Rattle.poly_module.proofs.EchelonLists.{Row, coef_at_act}
unfoldable pub use Rattle.poly_module.proofs.EchelonLists.{AreRows}
pub use Rattle.poly_module.proofs.EntryLists.{entry_at, given_at}
pub use Rattle.poly_module.proofs.ExponentBounds.{vec_supp, fits_keys, within_product}
pub use Rattle.poly_module.proofs.LeadLaws.{coef_shift, coef_shift_outside}
pub use Rattle.poly_module.specs.Modules.{IsSubspace, LeadBy}
pub use Rattle.poly_module.specs.Parts.{supp_outside, coef_at_linear, supp_shift, supp_weaken, coef_at_single}
pub use Rattle.poly_module.specs.Products.{product_single, one_vector_single, shift_product, plus_product, zero_product, product_linear_left}
pub use Rattle.poly_module.specs.SpaceVectors.{IsPoly, IsPolyOf, IsVectorOf, vector_of, ArePolys}
pub use Rattle.lin_algebra.proofs.CutLaws.{cut_more, IsRow_row, listed_more}
pub use Rattle.lin_algebra.proofs.DotLaws.{dot_add_right, dot_act_right, unit_at, unit_other}
pub use Rattle.lin_algebra.proofs.EachLaws.{Each_weaker, Each_of_map, Each_at, Each_append, Each_append_left, Each_append_right, Each_from, Each_map}
pub use Rattle.lin_algebra.proofs.SpanLaws.{span_member}
pub use Rattle.lin_algebra.specs.Echelons.{PivotRow, rows, IsReducedEchelon, IsPivotRow, Precedes}
pub use Rattle.lin_algebra.specs.Matrices.{rows_of, vectors_of, IsKernelVector}
pub use Rattle.lin_algebra.specs.Vectors.{vectors as columns}
pub use Rattle.matrix_group.proofs.ActionLaws.{act_linear, act_product, act_variable, act_one, act_form, act_in_variables}
pub use Rattle.matrix_group.proofs.Common.{◌≡◌, ◌⊎◌, ℕ, zero, suc, ◌+◌, ◌-◌, ◌*◌, ◌<◌, ◌≤◌, inl, inr, refl, sym, ap, ap₂, subst, ◌∙◌, arith, cases_lt, List, [], ◌∷◌, length, map, replicate, length-map, Each, Ring, FieldOn, Scalar, scalars, Key, SpaceOver, Vect, vectors, Supp, supp_zero, supp_plus, supp_act, OfDegree, Matrix, vector, length_cut, Invariant, get_or_default, dec_le, monomials, IsRow, ◌++◌, get_or, All, length-append, All-append, All-from_recursion, recursion_from_All, Linear, Has, scalar, scalar_one, linear_unique_supp, IsMatrix, cut, entries, dot, unit, dot_unit, unit_comm, act_by, IsSquare, Some, IsForm, InVariables, supp_single, product, linear_form, Term, ℕ_discrete, Mon, mono, exponent, exponent_mono, exponent_mul, weight, weight_ext, Entry, vec, Fits, total, greatest, one_vector, get_or_append_left, get_or_push, get_or_past, key_same, take, map-append, take_all, get_or-map, length-take-le, IsPlace, over, All-push, true, All-cons, All-nil}
unfoldable pub use Rattle.matrix_group.proofs.Common.{single_vector, variable, variable_vector, key, plus, zero_vector, after_zeros}
pub use Rattle.matrix_group.proofs.Found.{in_or_not}
pub use Rattle.matrix_group.proofs.LinearForms.{weight_variable, image_inside, length_variable}
pub use Rattle.invariant_space.specs.Equations.{IsMonomialList, row_polynomial, coordinates, AreEquations, Solves}
pub use Rattle.invariant_space.specs.Images.{AreImages, IsQuotient, IsTable, IsStep, IsCoordinates, AllImages, IsLevel, AreQuotients}
pub use Rattle.invariant_space.specs.InvariantSpaces.{IsInvariantForm, IsEchelonBasis, IsOfDegree}
pub use Rattle.invariant_space.specs.Monomials.{EachAt, AreSums, keys_of}
unfoldable pub use Rattle.invariant_space.specs.Monomials.{next_sum, all_monomials}

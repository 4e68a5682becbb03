-- The names that the proofs of this crate cite most, passed on from one place. Declares nothing.
pub use Rattle.std.proofs.Common.{◌↔◌, IsNone}
pub use Rattle.alg_core.proofs.OnesLaws.{has_ones, exactly_divided}
pub use Rattle.alg_core.proofs.VectorLaws.{scale_plus, scale_zero_vector, plus_zero, plus_left_comm, plus_swap, zero_plus, plus_assoc, scale_zero, vec_nothing}
pub use Rattle.alg_core.specs.Fields.{scalar_mul, ones, scalar_add}
pub use Rattle.poly_module.proofs.SpaceVectorLaws.{vector_given, poly_given}
pub use Rattle.poly_module.specs.SpaceVectors.{vector_of, IsVectorOf}
pub use Rattle.matrix_group.proofs.Common.{◌≡◌, ◌≤◌, ℕ, List, [], ◌∷◌, length, map, replicate, All, sym, ap, ◌∙◌, subst, Contains, length-map, FieldOn, Has, scalars, scalar, scalar_one, Vect, vectors, zero_vector, product, IsPolynomial, InVariables, supp_zero, supp_plus, IsForm, Matrix, act, IsSquare, Invariant, size, cells_of, entry, times, IsGroup, AreElements, AreApart, ◌+◌, ◌<◌, ◌++◌, take, get_or, refl, ap₂, map-append, SpaceOver, act_by, arith, identity, ◌⊎◌, inl, inr, Contains-append_left, Contains-append_right, Contains-append_cases, over, entries, Fits, vec}
unfoldable pub use Rattle.matrix_group.proofs.Common.{plus, scale}
pub use Rattle.matrix_group.proofs.Found.{Contains_nil, AreApart_head, AreApart_tail, AreApart_cons, Contains_head, Contains_tail, Contains_cases, Contains_split, Contains_without}
pub use Rattle.matrix_group.proofs.GroupActions.{act_times, fixed_by_cells, fixed_by_matrices, fixed_by_product, turned_apart, turned_in, in_turned, act_cells}
pub use Rattle.reynolds_op.specs.Averages.{sum_of, sum_over, average, reynolds, Averaging, IsAveraging, IsAverage, ActTogether, AveragesOn, IsMatrixGroup}

-- Values and entries with a sign, and differences of vectors.
--
--   with_sign k s c        the value c, or its opposite
--   signed_entry k s e     the entry with that value at the same place
--   signed_entries k s es  each entry of a list so
--   minus k u v            the difference of two vectors: with v added it is u
use Rattle.std.specs.Prelude.{List, map}
use Rattle.alg_core.specs.Fields.{FieldOn}
use Rattle.alg_core.specs.ModuleLaws as modules
use Rattle.alg_core.specs.Vectors.{Entry, Vect, vectors, plus}
use Rattle.poly_module.specs.declared.signs.Sign.{Sign}
use Rattle.poly_module.specs.declared.signs.Sign.TheVariants.{Plus, Minus}

-- the value, or its opposite
abbrev pub with_sign : {E : Type 0} → FieldOn E → Sign → E → E
with_sign k Plus c = c
with_sign k Minus c = k.neg c

-- at the same place
abbrev pub signed_entry : {E : Type 0} → FieldOn E → Sign → Entry E → Entry E
signed_entry k s e = (e.0, with_sign k s e.1)

abbrev pub signed_entries : {E : Type 0} → FieldOn E → Sign → List (Entry E) → List (Entry E)
signed_entries k s es = map (signed_entry k s) es

-- the sum with the opposite
unfoldable pub minus : {E : Type 0} (k : FieldOn E) → Vect k → Vect k → Vect k
minus k u v = plus k u (modules.minus (vectors k) v)

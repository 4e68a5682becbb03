-- Monomials in n variables and marks: the marks are the variables after the first n.
--
--   variable_part n m   the monomial of the first n variables in m
--   mark_part n m       the monomial of the marks in m, where the j-th mark stands as variable j, both from 0
--   as_marks n m        the monomial m, where each variable j stands as the j-th mark
--   key_as_marks n t    the key t, with its monomial in marks
use Rattle.std.specs.Prelude.{ℕ, ◌++◌, replicate}
use Rattle.alg_core.specs.Monomials.{Mon, mono, exponents, beyond}
use Rattle.alg_core.specs.Keys.{Key}

-- the first n variables alone
unfoldable pub variable_part : ℕ → Mon → Mon
variable_part n m = mono (exponents n m.0)

-- the marks alone, counted from 0
unfoldable pub mark_part : ℕ → Mon → Mon
mark_part n m = mono (beyond n m.0)

-- each variable moved by n
unfoldable pub as_marks : ℕ → Mon → Mon
as_marks n m = mono (replicate n 0 ++ m.0)

-- the position stays
abbrev pub key_as_marks : ℕ → Key → Key
key_as_marks n t = (t.0, as_marks n t.1)

-- Where a text is put, piece by piece.
--
--   length_limit   18446744073709551615: a text with more bytes is told to have this many
--   OutputState    the bytes that are kept, None where none are, and how many were put, told up to the limit
--   IsPut o x q    what is kept in q, if anything, is what is kept in o and then x
--   Says s w       the bytes w were put on s, and no others: they are what it keeps, if it does, and their number is told
use Rattle.std.specs.Prelude.{◌≡◌, ℕ, List, ◌++◌, length, min, Option, Some}

abbrev pub length_limit : ℕ
length_limit = 18446744073709551615

pub record OutputState : Type 0 where
  pub kept : Option (List ℕ)
  pub length : ℕ

abbrev pub IsPut : Option (List ℕ) → List ℕ → Option (List ℕ) → Type 0
IsPut o x q = (u : List ℕ) → q ≡ Some u → (v : List ℕ) × (o ≡ Some v) × (u ≡ v ++ x)

pub record Says (s : OutputState) (w : List ℕ) : Type 0 where
  pub kept : (v : List ℕ) → s.kept ≡ Some v → v ≡ w
  pub told : s.length ≡ min (length w) length_limit

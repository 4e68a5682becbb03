-- Lists of exponents of one length, as the monomials of one space have them.
--
--   merged f a b     f of the entries, entry by entry
--   product a b      the sums of the exponents
--   quotient a b     the differences of the exponents
--   lcm a b          the greater of the exponents
--   divides a b      no exponent of a is greater than that of b
--   Within cap a     each exponent is at most cap
use Rattle.std.specs.Prelude.{ℕ, ◌+◌, ◌-◌, ◌≤◌, max, Bool, true, ◌&&◌, nat_le, List, [], ◌∷◌, All}

-- entry by entry, as far as both lists go
abbrev pub merged : (ℕ → ℕ → ℕ) → List ℕ → List ℕ → List ℕ
merged f [] b = []
merged f (x ∷ a) [] = []
merged f (x ∷ a) (y ∷ b) = f x y ∷ merged f a b

abbrev pub product : List ℕ → List ℕ → List ℕ
product = merged (λ x y. x + y)

abbrev pub quotient : List ℕ → List ℕ → List ℕ
quotient = merged (λ x y. x - y)

abbrev pub lcm : List ℕ → List ℕ → List ℕ
lcm = merged (λ x y. max x y)

abbrev pub divides : List ℕ → List ℕ → Bool
divides [] b = true
divides (x ∷ a) [] = true
divides (x ∷ a) (y ∷ b) = nat_le x y && divides a b

abbrev pub Within : ℕ → List ℕ → Type 0
Within cap a = All (λ x. x ≤ cap) a

-- The field and the spaces of the lines of a certificate.
--
--   field_if p b e              GF(p), where p is listed; else GF(2)
--   field_at p                  the same
--   combination_space k ds es   combinations of secondary invariants of the degrees es, in marks @ of the degrees ds, by weighted dp
--   word_space k ws             polynomials in marks of the degrees ws, by weighted dp
--   plain_names, marked_names, word_names   the names of the variables of a polynomial in the variables ns, in these and r marks @,
--                               of a word in r marks @ and q marks $
use Rattle.std.specs.Prelude.{◌≡◌, ℕ, Bool, true, false, List, [], ◌∷◌, Some, None, refl}
use Rattle.alg_core.specs.DpOrder.{dp_order}
use Rattle.alg_core.specs.Fields.{FieldOn}
use Rattle.alg_core.specs.Spaces.{SpaceOver}
use Rattle.poly_text.specs.declared.names.Names.{Names}
use Rattle.prime_field.specs.ListedPrimes.{is_listed}
use Rattle.prime_field.specs.PrimeFields.{gfp}

abbrev pub field_if : (p : ℕ) (b : Bool) → is_listed p ≡ b → FieldOn ℕ
field_if p true listed = gfp p listed
field_if p false other = gfp 2 refl

abbrev pub field_at : ℕ → FieldOn ℕ
field_at p = field_if p (is_listed p) refl

module _ (k : FieldOn ℕ) where
  abbrev pub combination_space : List ℕ → List ℕ → SpaceOver ℕ
  combination_space ds es = record { field = k; order = dp_order ds; weights = ds; shifts = es }

  abbrev pub word_space : List ℕ → SpaceOver ℕ
  word_space ws = record { field = k; order = dp_order ws; weights = ws; shifts = 0 ∷ [] }

abbrev pub plain_names : List (List ℕ) → Names
plain_names ns = record { vars = ns; primaries = None; irreducibles = None }

abbrev pub marked_names : List (List ℕ) → ℕ → Names
marked_names ns r = record { vars = ns; primaries = Some r; irreducibles = None }

abbrev pub word_names : ℕ → ℕ → Names
word_names r q = record { vars = []; primaries = Some r; irreducibles = Some q }

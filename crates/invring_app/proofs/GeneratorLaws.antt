-- The generators of a sound script over its field.
use Rattle.std.proofs.Common.{◌≡◌, ℕ, ◌<◌, List, [], ◌∷◌, length, map, All, refl, sym, ap₂, subst, ◌∙◌, arith}
use Rattle.std.proofs.lemmas.List.Elements.{All-weaker, All-head, All-tail}
use Rattle.alg_core.specs.Fields.{FieldOn}
use Rattle.lin_algebra.specs.declared.matrix.Matrix.{Matrix}
use Rattle.lin_algebra.specs.Matrices.{IsMatrix}
use Rattle.matrix_group.specs.Actions.{IsSquare}
use Rattle.matrix_group.specs.Groups.{size, IsNonsingular}
use Rattle.prime_field.specs.PrimeFields.{gfp, gfp_same, IsPrimeField}
use Rattle.finvar_text.specs.Problems.{IsGenerator, IsSound}
use Rattle.finvar_text.specs.declared.script.Script.{Script}

square : (p n : ℕ) (k : FieldOn ℕ) (m : Matrix ℕ) → IsPrimeField p k → IsGenerator p n m → IsSquare k n m
square p n k m field g =
    let over = g.invertible in
    let same : gfp p over.0 ≡ k = gfp_same p p refl over.0 field.0 ∙ sym field.1 in
    record { matrix = subst (λ (l : FieldOn ℕ). IsMatrix l m) same over.1; rows = g.rows; cols = sym over.2 ∙ g.rows }

inverse : (p n : ℕ) (k : FieldOn ℕ) (m : Matrix ℕ) → IsPrimeField p k → IsGenerator p n m → IsNonsingular k m
inverse p n k m field g =
    let over = g.invertible in
    let same : gfp p over.0 ≡ k = gfp_same p p refl over.0 field.0 ∙ sym field.1 in
    subst (λ (l : FieldOn ℕ). IsNonsingular l m) same (over.3, over.4)

pub squares : (s : Script) (k : FieldOn ℕ) (n : ℕ) (ms : List (Matrix ℕ)) → IsSound s → IsPrimeField s.characteristic k → n ≡ length s.names.items → ms ≡ s.gens.items → All (IsSquare k n) ms
squares s k n ms sound field many same =
    let all = All-weaker (IsGenerator s.characteristic (length s.names.items)) (IsSquare k (length s.names.items)) (λ m g. square s.characteristic (length s.names.items) k m field g) s.gens.items sound.gens in
    subst (λ (gs : List (Matrix ℕ)). All (IsSquare k n) gs) (sym same) (subst (λ (i : ℕ). All (IsSquare k i) s.gens.items) (sym many) all)

pub inverses : (s : Script) (k : FieldOn ℕ) (ms : List (Matrix ℕ)) → IsSound s → IsPrimeField s.characteristic k → ms ≡ s.gens.items → All (IsNonsingular k) ms
inverses s k ms sound field same =
    let all = All-weaker (IsGenerator s.characteristic (length s.names.items)) (IsNonsingular k) (λ m g. inverse s.characteristic (length s.names.items) k m field g) s.gens.items sound.gens in
    subst (λ (gs : List (Matrix ℕ)). All (IsNonsingular k) gs) (sym same) all

-- the first generator has a row for each variable
first-size : (p n : ℕ) (ms : List (Matrix ℕ)) → 0 < length ms → All (IsGenerator p n) ms → size ms ≡ n
first-size p n [] some gens = absurd (omega arith)
first-size p n (m ∷ ms) some gens = (All-head (IsGenerator p n) m ms gens).rows

pub size-is : (s : Script) → IsSound s → size s.gens.items ≡ length s.names.items
size-is s sound = first-size s.characteristic (length s.names.items) s.gens.items sound.generated sound.gens

-- the matrices are square with these cells
shapes : (p n : ℕ) (ms : List (Matrix ℕ)) → All (IsGenerator p n) ms
    → map {B = ℕ × ℕ × List ℕ} (λ (m : Matrix ℕ). (m.rows, m.cols, m.cells.items)) ms ≡ map {B = ℕ × ℕ × List ℕ} (λ (cells : List ℕ). (n, n, cells)) (map (λ (m : Matrix ℕ). m.cells.items) ms)
shapes p n [] gens = refl
shapes p n (m ∷ ms) gens =
    let g = All-head (IsGenerator p n) m ms gens in
    let here : ◌≡◌ {A = ℕ × ℕ × List ℕ} (m.rows, m.cols, m.cells.items) (n, n, m.cells.items) = λ i. (g.rows i, (sym g.invertible.2 ∙ g.rows) i, m.cells.items) in
    ap₂ ◌∷◌ here (shapes p n ms (All-tail (IsGenerator p n) m ms gens))

pub shapes-are : (s : Script) → IsSound s
    → map {B = ℕ × ℕ × List ℕ} (λ (m : Matrix ℕ). (m.rows, m.cols, m.cells.items)) s.gens.items
    ≡ map {B = ℕ × ℕ × List ℕ} (λ (cells : List ℕ). (length s.names.items, length s.names.items, cells)) (map (λ (m : Matrix ℕ). m.cells.items) s.gens.items)
shapes-are s sound = shapes s.characteristic (length s.names.items) s.gens.items sound.gens

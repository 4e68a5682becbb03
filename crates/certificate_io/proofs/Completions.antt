-- Lines in order can be completed to those of a text.
use Rattle.std.proofs.Common.{◌≡◌, ◌∙◌, true, false, List, [], ◌∷◌, ◌++◌, Option, Some, None, map, refl, sym, ap, subst, arith}
use Rattle.std.specs.Prelude.{All, IsTrue, codes}
use Rattle.alg_core.specs.Names.{is_name}
use Rattle.std.specs.List.{Contains}
use Rattle.std.proofs.lemmas.List.{map-append}
use Rattle.std.proofs.lemmas.List.Elements.{All-nil, All-cons, All-append}
use Rattle.certificate_io.specs.Syntax.{LineTree, VersionLine, FieldLine, NamesLine, MatrixLine, OrderLine, PrimaryLine, LiftLine, PowerLine, RankLine, SecondaryLine, ReynoldsLine, ImageLine, MovedLine, WordLine, EndLine, IsCell, IsLine, IsShaped, AreInOrder, kind_of, last_kind, successors}
use Rattle.poly_text.specs.Syntax.{IsTerm, IsFactor}
use Rattle.certificate_io.specs.declared.line_kind.LineKind.{LineKind}
use Rattle.certificate_io.specs.declared.line_kind.LineKind.TheVariants as kinds

pub order_append : (b : Option LineKind) (ks js : List LineKind) → AreInOrder b ks → AreInOrder (last_kind b ks) js → AreInOrder b (ks ++ js)
order_append b [] js h g = g
order_append b (k ∷ ks) js h g = (h.0, order_append (Some k) ks js h.1 g)

pub last_append : (b : Option LineKind) (ks js : List LineKind) → last_kind b (ks ++ js) ≡ last_kind (last_kind b ks) js
last_append b [] js = refl
last_append b (k ∷ ks) js = last_append (Some k) ks js

-- lines that end a text after one of the kind b
pub record IsCompleted (b : Option LineKind) : Type 0 where
  pub lines : List LineTree
  pub are : All IsLine lines
  pub order : AreInOrder b (map kind_of lines)
  pub last : last_kind b (map kind_of lines) ≡ Some kinds.End

before_line : (b : Option LineKind) (l : LineTree) → IsLine l → Contains (successors b) (kind_of l) → IsCompleted (Some (kind_of l)) → IsCompleted b
before_line b l is follows h = record { lines = l ∷ h.lines; are = All-cons IsLine l h.lines is h.are; order = (follows, h.order); last = h.last }

end : IsCompleted (Some kinds.End)
end = record { lines = []; are = All-nil IsLine; order = tt; last = refl }

word : IsCompleted (Some kinds.Word)
word = before_line (Some kinds.Word) EndLine tt (1, omega arith, refl) end

irreducible : IsCompleted (Some kinds.Irreducible)
irreducible = before_line (Some kinds.Irreducible) (WordLine []) (All-nil IsTerm) (1, omega arith, refl) word

image : IsCompleted (Some kinds.Image)
image = before_line (Some kinds.Image) (WordLine []) (All-nil IsTerm) (2, omega arith, refl) word

moved : IsCompleted (Some kinds.Moved)
moved = before_line (Some kinds.Moved) (WordLine []) (All-nil IsTerm) (3, omega arith, refl) word

fixed : IsCompleted (Some kinds.Fixed)
fixed = before_line (Some kinds.Fixed) (WordLine []) (All-nil IsTerm) (3, omega arith, refl) word

reynolds : IsCompleted (Some kinds.Reynolds)
reynolds = before_line (Some kinds.Reynolds) (ImageLine [] []) (All-nil IsFactor, All-nil IsTerm) (0, omega arith, refl) image

kernel : IsCompleted (Some kinds.Kernel)
kernel = before_line (Some kinds.Kernel) (MovedLine []) (All-nil IsTerm) (0, omega arith, refl) moved

secondary : IsCompleted (Some kinds.Secondary)
secondary = before_line (Some kinds.Secondary) ReynoldsLine tt (1, omega arith, refl) reynolds

rank : IsCompleted (Some kinds.Rank)
rank = before_line (Some kinds.Rank) (SecondaryLine []) (All-nil IsTerm) (0, omega arith, refl) secondary

power : IsCompleted (Some kinds.Power)
power = before_line (Some kinds.Power) (RankLine 1) (omega arith, omega arith) (1, omega arith, refl) rank

lift : IsCompleted (Some kinds.Lift)
lift = before_line (Some kinds.Lift) (PowerLine (codes "x") 1 []) (refl, (omega arith, omega arith), All-nil IsTerm) (1, omega arith, refl) power

primary : IsCompleted (Some kinds.Primary)
primary = before_line (Some kinds.Primary) (LiftLine []) (All-nil IsTerm) (1, omega arith, refl) lift

order : IsCompleted (Some kinds.Order)
order = before_line (Some kinds.Order) (PrimaryLine []) (All-nil IsTerm) (0, omega arith, refl) primary

matrix : IsCompleted (Some kinds.Matrix)
matrix = before_line (Some kinds.Matrix) (OrderLine 1) (omega arith, omega arith) (1, omega arith, refl) order

names : IsCompleted (Some kinds.Names)
names =
    let is : IsCell (record { is_negative = false; size = 0 }) = record { size = omega arith; sign = λ (bad : false ≡ true). absurd cc } in
    before_line (Some kinds.Names) (MatrixLine (record { is_negative = false; size = 0 } ∷ [])) (omega arith, All-cons IsCell (record { is_negative = false; size = 0 }) [] is (All-nil IsCell)) (0, omega arith, refl) matrix

field_line : IsCompleted (Some kinds.Field)
field_line =
    before_line (Some kinds.Field) (NamesLine (codes "x" ∷ [])) (omega arith, All-cons (λ w. IsTrue (is_name w)) (codes "x") [] refl (All-nil (λ w. IsTrue (is_name w)))) (0, omega arith, refl) names

version : IsCompleted (Some kinds.Version)
version = before_line (Some kinds.Version) (FieldLine 2) (omega arith, omega arith) (0, omega arith, refl) field_line

pub completed : (b : Option LineKind) → IsCompleted b
completed None = before_line None VersionLine tt (0, omega arith, refl) version
completed (Some kinds.Version) = version
completed (Some kinds.Field) = field_line
completed (Some kinds.Names) = names
completed (Some kinds.Matrix) = matrix
completed (Some kinds.Order) = order
completed (Some kinds.Primary) = primary
completed (Some kinds.Lift) = lift
completed (Some kinds.Power) = power
completed (Some kinds.Rank) = rank
completed (Some kinds.Secondary) = secondary
completed (Some kinds.Reynolds) = reynolds
completed (Some kinds.Kernel) = kernel
completed (Some kinds.Image) = image
completed (Some kinds.Moved) = moved
completed (Some kinds.Fixed) = fixed
completed (Some kinds.Irreducible) = irreducible
completed (Some kinds.Word) = word
completed (Some kinds.End) = end

-- the lines with a completion are those of a text
pub shaped : (ls : List LineTree) → All IsLine ls → AreInOrder None (map kind_of ls) → (h : IsCompleted (last_kind None (map kind_of ls))) → IsShaped (ls ++ h.lines)
shaped ls are order h =
    let kinds_are : map kind_of (ls ++ h.lines) ≡ map kind_of ls ++ map kind_of h.lines = map-append kind_of ls h.lines in
    record {
      lines = All-append IsLine ls h.lines are h.are;
      order = subst (AreInOrder None) (sym kinds_are) (order_append None (map kind_of ls) (map kind_of h.lines) order h.order);
      last = ap (last_kind None) kinds_are ∙ last_append None (map kind_of ls) (map kind_of h.lines) ∙ h.last;
    }

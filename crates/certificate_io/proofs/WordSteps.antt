-- The words of a text, one after another.
use Rattle.std.proofs.Common.{◌≡◌, ◌≢◌, ◌∙◌, ℕ, suc, ◌+◌, ◌<◌, Bool, true, false, List, [], ◌∷◌, ◌++◌, length, take, drop, take-append-drop, drop-cons, get_or, Option, Some, None, IsTrue, refl, sym, ap, ap₂, subst, arith}
use Rattle.std.specs.Prelude.{◌↔◌, ◌&&◌, ◌||◌, ◌==◌, nat_le, not}
use Rattle.std.specs.List.{list_all}
use Rattle.std.proofs.lemmas.Bool.{and_parts}
use Rattle.alg_core.specs.Names.{is_letter, is_name_byte, is_reserved, is_name}
use Rattle.certificate_io.specs.Lines.{IsSplit, IsFound, IsCellText, AreWords}
use Rattle.certificate_io.specs.declared.words.Cell.{Cell}
use Rattle.certificate_io.proofs.LineWords.{name_plain, cell_plain}
use Rattle.certificate_io.proofs.Splits.{Free, AreRest, words_step, words_first}

next : (i : ℕ) → suc i ≡ i + 1
next i = omega arith

pub split_here : (stop : ℕ) (text : List ℕ) (i : ℕ) → i < length text → Free stop (take i text) → get_or text i 0 ≡ stop → IsSplit stop text (take i text) (Some (drop (i + 1) text))
split_here stop text i inside free at = record {
  free = free;
  whole = sym (take-append-drop i text) ∙ ap (λ l. take i text ++ l) (drop-cons text i 0 inside ∙ ap₂ (λ b k. b ∷ drop k text) at (next i));
}

pub name_letter : (w : List ℕ) → is_letter (get_or w 0 0) ≡ false → is_name w ≡ false
name_letter [] e = refl
name_letter (b ∷ bs) e = ap (λ (t : Bool). t && (list_all is_name_byte bs && not (is_reserved (b ∷ bs)))) e

pub name_none : (w : List ℕ) → length w ≡ 0 → is_name w ≡ false
name_none [] e = refl
name_none (b ∷ bs) e = absurd (omega (arith, e))

-- where all bytes may stand in a name
pub name_all : (w : List ℕ) → length w ≢ 0 → is_letter (get_or w 0 0) ≡ true → list_all is_name_byte w ≡ true → is_name w ≡ not (is_reserved w)
name_all [] some letter bytes = absurd (some refl)
name_all (b ∷ bs) some letter bytes =
    ap₂ (λ (t u : Bool). t && (u && not (is_reserved (b ∷ bs)))) letter (and_parts (is_name_byte b) (list_all is_name_byte bs) bytes).1

-- and where one may not
pub name_byte : (w : List ℕ) → is_letter (get_or w 0 0) ≡ true → list_all is_name_byte w ≡ false → is_name w ≡ false
name_byte [] letter bytes = refl
name_byte (b ∷ bs) letter bytes =
    let first : is_name_byte b ≡ true = ap (λ (t : Bool). t || (((nat_le 48 b) && (nat_le b 57)) || (b == 95))) letter in
    let others : list_all is_name_byte bs ≡ false = sym (ap (λ (t : Bool). t && list_all is_name_byte bs) first) ∙ bytes in
    ap (λ (t : Bool). t && (list_all is_name_byte bs && not (is_reserved (b ∷ bs)))) letter
    ∙ ap (λ (t : Bool). t && not (is_reserved (b ∷ bs))) others

abbrev pub AreNames : List ℕ → Type 0
AreNames text = AreWords (λ w. IsTrue (is_name w)) text

abbrev pub AreCells : List ℕ → Type 0
AreCells text = AreWords (λ w. (c : Cell) × IsCellText c w) text

pub name_free : (w : List ℕ) → IsTrue (is_name w) → Free 32 w
name_free w is = (name_plain w is).unspaced

pub cell_free : (w : List ℕ) → ((c : Cell) × IsCellText c w) → Free 32 w
cell_free w is = subst (Free 32) is.1.1 (cell_plain is.0 is.1.0).unspaced

abbrev pub names_left : Option (List ℕ) → Type 0
names_left o = AreRest (λ w. IsTrue (is_name w)) name_free o

abbrev pub cells_left : Option (List ℕ) → Type 0
cells_left o = AreRest (λ w. (c : Cell) × IsCellText c w) cell_free o

-- what is left where something is
pub at_words : (P : List ℕ → Type 0) (free : (w : List ℕ) → P w → Free 32 w) (text : List ℕ) (o : Option (List ℕ)) (now : List ℕ) → AreWords P text ↔ AreRest P free o → o ≡ Some now → AreWords P text ↔ AreRest P free (Some now)
at_words P free text o now so is = subst (λ p. AreWords P text ↔ AreRest P free p) is so

-- one word more
module _ (P : List ℕ → Type 0) (free : (w : List ℕ) → P w → Free 32 w) (text : List ℕ) (now : List ℕ) (w : List ℕ) (o : Option (List ℕ)) (split : IsSplit 32 now w o) (so : AreWords P text ↔ AreRest P free (Some now)) where
  pub more_words : P w → AreWords P text ↔ AreRest P free o
  more_words p = let step = words_step P free now w o split p in (λ a. step.0 (so.0 a), λ r. so.1 (step.1 r))

  pub no_words : ¬ P w → (false ≡ true) ↔ AreWords P text
  no_words none = (λ bad. absurd cc, λ a. absurd (none (words_first P free now w o split (so.0 a)).0))

-- no word is left
pub all_words : (P : List ℕ → Type 0) (free : (w : List ℕ) → P w → Free 32 w) (text : List ℕ) (o : Option (List ℕ)) → o ≡ None → AreWords P text ↔ AreRest P free o → (true ≡ true) ↔ AreWords P text
all_words P free text o none so = (λ _. so.1 (subst (AreRest P free) (sym none) tt), λ _. refl)

pub no_found : {A : Type 0} (P : A → Type 0) (o : Option A) → IsFound P o → (none : o ≡ None) → ¬ ((x : A) × P x)
no_found P None h none = λ found. h found.0 found.1
no_found P (Some x) h none = absurd cc

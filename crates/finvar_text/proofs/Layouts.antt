-- Lists of lexemes that grow at their ends, and what was read by the state of the scanner: each byte that it takes is added to it.
use Rattle.std.proofs.Common.{◌≡◌, ℕ, Bool, true, false, List, [], ◌∷◌, ◌++◌, sym, ap, ap₂, ◌∙◌, refl, subst, arith}
use Rattle.std.specs.Prelude.{not, ◌==◌, ◌&&◌}
use Rattle.std.specs.List.{list_all}
use Rattle.std.proofs.lemmas.Bool.{and_parts}
use Rattle.std.proofs.lemmas.Bool.Decides.{nat_tests}
use mathlib.Core.List.{append_assoc, append-nil}
use Rattle.finvar_text.specs.Syntax.{Token, Lexeme, lexeme_bytes, spelling, tokens_of, tokens_in, Side, Clear, side, IsNext, AreJoined, is_open}
use Rattle.finvar_text.specs.Grammar.{State}
use Rattle.finvar_text.proofs.TokenSteps.{read, IsState, Reads}

-- what stands at the end, after p
abbrev pub last_side : Side → List Lexeme → Side
last_side p [] = p
last_side p (l ∷ ls) = last_side (side l) ls

pub last_more : (p : Side) (ls : List Lexeme) (l : Lexeme) → last_side p (ls ++ l ∷ []) ≡ side l
last_more p [] l = refl
last_more p (m ∷ ls) l = last_more (side m) ls l

pub lexemes_more : (p : Side) (ls : List Lexeme) (l : Lexeme) → AreJoined p ls → IsNext (last_side p ls) l → AreJoined p (ls ++ l ∷ [])
lexemes_more p [] l h n = (n, tt)
lexemes_more p (m ∷ ls) l h n = (h.0, lexemes_more (side m) ls l h.1 n)

pub spelling_more : (ls : List Lexeme) (l : Lexeme) → spelling (ls ++ l ∷ []) ≡ spelling ls ++ lexeme_bytes l
spelling_more [] l = append-nil (lexeme_bytes l)
spelling_more (m ∷ ls) l = ap (λ (bs : List ℕ). lexeme_bytes m ++ bs) (spelling_more ls l) ∙ sym (append_assoc (lexeme_bytes m) (spelling ls) (lexeme_bytes l))

pub tokens_in_more : (ls : List Lexeme) (l : Lexeme) → tokens_in (ls ++ l ∷ []) ≡ tokens_in ls ++ tokens_of l
tokens_in_more [] l = append-nil (tokens_of l)
tokens_in_more (m ∷ ls) l = ap (λ (ts : List Token). tokens_of m ++ ts) (tokens_in_more ls l) ∙ sym (append_assoc (tokens_of m) (tokens_in ls) (tokens_of l))

-- the bytes spell the tokens that lead to the state g, and p stands at their end
pub record Layout (p : Side) (g : State) (bytes : List ℕ) : Type 0 where
  pub lexemes : List Lexeme
  pub joined : AreJoined Clear lexemes
  pub tokens : read g ≡ tokens_in lexemes
  pub state : IsState g
  pub spelled : spelling lexemes ≡ bytes
  pub last : last_side Clear lexemes ≡ p

-- a lexeme more, with its tokens
pub layout_more : (p : Side) (g g' : State) (a : List ℕ) (l : Lexeme) → Layout p g a → IsNext p l → Reads (read g ++ tokens_of l) g' → Layout (side l) g' (a ++ lexeme_bytes l)
layout_more p g g' a l h n r = record {
  lexemes = h.lexemes ++ l ∷ [];
  joined = lexemes_more Clear h.lexemes l h.joined (subst (λ (q : Side). IsNext q l) (sym h.last) n);
  tokens = r.0 ∙ ap (λ (ts : List Token). ts ++ tokens_of l) h.tokens ∙ sym (tokens_in_more h.lexemes l);
  state = r.1;
  spelled = spelling_more h.lexemes l ∙ ap (λ (bs : List ℕ). bs ++ lexeme_bytes l) h.spelled;
  last = last_more Clear h.lexemes l;
}

-- a lexeme more without a token
pub gap_more : (p : Side) (g : State) (a : List ℕ) (l : Lexeme) → Layout p g a → IsNext p l → tokens_of l ≡ [] → Layout (side l) g (a ++ lexeme_bytes l)
gap_more p g a l h n none = layout_more p g g a l h n (sym (append-nil (read g)) ∙ ap (λ (ts : List Token). read g ++ ts) (sym none), h.state)

pub all_more : (P : ℕ → Bool) (bs : List ℕ) (b : ℕ) → list_all P bs ≡ true → P b ≡ true → list_all P (bs ++ b ∷ []) ≡ true
all_more P [] b h e = ap (λ (t : Bool). t && true) e
all_more P (c ∷ bs) b h e =
    let parts = and_parts (P c) (list_all P bs) h in
    ap₂ (λ (t u : Bool). t && u) parts.0 (all_more P bs b parts.1 e)

-- whether the bytes end with a `*`; star says that one stands before them
abbrev pub last_star : Bool → List ℕ → Bool
last_star star [] = star
last_star star (b ∷ bs) = last_star (b == 42) bs

pub last_star_more : (star : Bool) (bs : List ℕ) (b : ℕ) → last_star star (bs ++ b ∷ []) ≡ (b == 42)
last_star_more star [] b = refl
last_star_more star (c ∷ bs) b = last_star_more (c == 42) bs b

pub open_more : (star : Bool) (bs : List ℕ) (b : ℕ) → is_open star bs ≡ true → last_star star bs && b == 47 ≡ false → is_open star (bs ++ b ∷ []) ≡ true
open_more star [] b h e = ap (λ (t : Bool). not t && true) e
open_more star (c ∷ bs) b h e =
    let parts = and_parts (not (star && c == 47)) (is_open (c == 42) bs) h in
    ap₂ (λ (t u : Bool). t && u) parts.0 (open_more (c == 42) bs b parts.1 e)

-- bytes that end with a `*` are others and it
pub record EndsWithStar (star : Bool) (bs : List ℕ) : Type 0 where
  pub others : List ℕ
  pub is : bs ≡ others ++ 42 ∷ []
  pub unclosed : is_open star others ≡ true

pub star_split : (star : Bool) (b : ℕ) (bs : List ℕ) → is_open star (b ∷ bs) ≡ true → last_star star (b ∷ bs) ≡ true → EndsWithStar star (b ∷ bs)
star_split star b [] h e = record { others = []; is = ap (λ (x : ℕ). x ∷ []) (grind (arith, nat_tests)); unclosed = refl }
star_split star b (c ∷ bs) h e =
    let parts = and_parts (not (star && b == 47)) (is_open (b == 42) (c ∷ bs)) h in
    let r = star_split (b == 42) c bs parts.1 e in
    record { others = b ∷ r.others; is = ap (λ (l : List ℕ). b ∷ l) r.is; unclosed = ap₂ (λ (t u : Bool). t && u) parts.0 r.unclosed }

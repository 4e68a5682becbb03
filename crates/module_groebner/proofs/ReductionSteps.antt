-- One step of division: the multiple of a vector that cancels the lead of another, its value, its size and what is left.
use Rattle.std.proofs.Common.{Some, Bool, false, ◌≡◌, ◌⊎◌, inl, inr, ◌≤◌, ◌+◌, ℕ, List, length, sym, ap, ◌∙◌, subst, arith}
use Rattle.std.specs.Prelude.{Option, IfSome, IsTrue}
use Rattle.std.specs.declared.cmp.Ordering.TheVariants.{Less}
use Rattle.alg_core.specs.RingLaws as rings
use Rattle.alg_core.specs.Fields.{FieldOn, Has, scalars, is_field, scalar, scalar_mul, scalar_one}
use Rattle.alg_core.specs.DpOrder.{weighted_degree}
use Rattle.alg_core.specs.Monomials.{mono, exponent_mono}
use Rattle.alg_core.specs.Keys.{Key, key_same, times_key}
use Rattle.alg_core.specs.KeyOrders.{OrderOn, less_transitive}
use Rattle.alg_core.specs.Leads.{has_lead, HasLead, lead_unique}
use Rattle.alg_core.specs.declared.term.Term.{Term}
use Rattle.alg_core.specs.Spaces.{SpaceOver}
use Rattle.alg_core.specs.SpaceOrder.{key_order}
use Rattle.alg_core.specs.SpaceGrading.{AllPositive, weight, weight_ext, degree, degree_times_key}
use Rattle.alg_core.specs.Vectors.{Vect, vectors, coef_at, plus, zero_vector, scale, shift}
use Rattle.alg_core.proofs.PlaceDegrees.{weight_weighted_degree}
use Rattle.alg_core.proofs.VectorLaws.{plus_assoc, plus_zero, coef_at_zero, scale_neg}
use Rattle.poly_module.specs.Degrees.{IsHomogeneous}
use Rattle.poly_module.specs.Modules.{LeadBy}
use Rattle.poly_module.specs.Parts.{Supp}
use Rattle.poly_module.specs.Sizes.{HasRoomAt}
use Rattle.poly_module.specs.SpaceVectors.{vector_of, IsVector, IsUpTo}
use Rattle.poly_module.proofs.EchelonLists.{coef_at_act}
use Rattle.poly_module.proofs.LeadLaws.{coef_shift, lead_act, lead_shift, lead_greatest}
use Rattle.poly_module.proofs.Room.{room_at}
use Rattle.module_groebner.specs.Reductions.{IsReduction}
use Rattle.module_groebner.specs.SVectors.{IsMonicMultiple}
use Rattle.module_groebner.proofs.Remainders.{lead_falls}

pub not_both : (b : Bool) → IsTrue b → b ≡ false → ⊥
not_both b h e = grind arith

-- what is said of the value in an option
pub inverse_of : {E : Type 0} (P : E → Type 0) (r : Option E) (i : E) → IfSome r P → r ≡ Some i → P i
inverse_of P r i h e = subst (λ q. IfSome q P) e h

module _ {E : Type 0} (S : SpaceOver E) where
  abbrev k : FieldOn E
  k = S.field

  abbrev o : OrderOn Key
  o = key_order S

  -- a vector with a lead is not 0, and has one lead
  pub lead_not_zero : (v : Vect S.field) (t : Key) → LeadBy S.field (key_order S) v t → ¬ (v ≡ zero_vector S.field)
  unfolding coef_at
  lead_not_zero v t l z = l.there (ap (λ u. coef_at k u t) z ∙ coef_at_zero k t)

  pub same_lead : (v : Vect S.field) (s t : Key) → LeadBy S.field (key_order S) v s → LeadBy S.field (key_order S) v t → s ≡ t
  same_lead v s t a b = lead_unique (scalars k) (is_field k) key_same o v s t a b

  pub lead_there : (v : Vect S.field) (t : Key) → LeadBy S.field (key_order S) v t → ¬ (coef_at S.field v t ≡ (scalars S.field).zero)
  unfolding coef_at
  lead_there v t l = l.there

  -- a bound of the degrees is one for the lead
  pub bounded_lead : (d : ℕ) (v : Vect S.field) (t : Key) → IsUpTo S d v → LeadBy S.field (key_order S) v t → degree S t ≤ d
  bounded_lead d v t up l = up t (lead_there v t l)

  -- the two values of a quotient, one of them an inverse
  quotient_value : (a b i : E) → Has S.field a → Has S.field b → Has S.field i → S.field.mul b i ≡ S.field.one
      → (scalars S.field).◌*◌ (scalar S.field (S.field.mul a i)) (scalar S.field b) ≡ scalar S.field a
  quotient_value a b i ha hb hi one =
      ap (λ x. (scalars k).◌*◌ x (scalar k b)) (scalar_mul k a i ha hi) ∙ (scalars k).mul_assoc _ _ _
      ∙ ap ((scalars k).◌*◌ (scalar k a)) ((scalars k).mul_comm _ _ ∙ sym (scalar_mul k b i hb hi) ∙ ap (scalar k) one ∙ scalar_one k)
      ∙ (scalars k).mul_one _

  -- a vector all of whose keys are at most its lead
  under : (w : Vect S.field) (t : Key) → ((r : Key) → LeadBy S.field (key_order S) w r → (key_order S).compare r t ≡ Less) → Supp S.field (λ s. (key_order S).compare s t ≡ Less) w
  unfolding coef_at zero_vector
  under w t h s n = go (has_lead (scalars k) (is_field k) key_same o w)
    where
      at : (r : Key) → LeadBy k o w r → (s ≡ r) ⊎ (o.compare s r ≡ Less) → o.compare s t ≡ Less
      at r l (inl e) = subst (λ x. o.compare x t ≡ Less) (sym e) (h r l)
      at r l (inr q) = less_transitive o s r t q (h r l)

      go : HasLead (scalars k) (is_field k) key_same o w → o.compare s t ≡ Less
      go (inl z) = absurd (n (ap (λ u. coef_at k u s) z ∙ coef_at_zero k s))
      go (inr l) = at l.0 l.1 (lead_greatest k o w l.0 s l.1 n)

  -- v plus the multiple of g by the opposite of the quotient of the lead coefficients
  pub reduction : (v g w : Vect S.field) (t s : Key) (a b i : E) (m : List ℕ)
      → LeadBy S.field (key_order S) v t → coef_at S.field v t ≡ scalar S.field a → LeadBy S.field (key_order S) g s → coef_at S.field g s ≡ scalar S.field b
      → Has S.field a → Has S.field b → Has S.field i → S.field.mul b i ≡ S.field.one → times_key (mono m) s ≡ t
      → w ≡ plus S.field v (scale S.field (S.field.neg (S.field.mul a i)) (shift S.field (mono m) g)) → IsReduction S v g w
  unfolding scale coef_at
  reduction v g w t s a b i m lv cv lg cg ha hb hi one e is = record {
    factor = scalar k (S.field.mul a i);
    monomial = mono m;
    lead = s;
    is_lead = lg;
    top = subst (LeadBy k o v) (sym e) lv;
    sum = total;
    below = under w (times_key (mono m) s) (λ x lx. lead_falls S v q w (times_key (mono m) s) x total (subst (LeadBy k o v) (sym e) lv) lead_q same lx);
  }
    where
      c : E
      c = S.field.mul a i

      has_c : Has S.field c
      has_c = S.field.has_mul a i ha hi

      q : Vect S.field
      q = (vectors S.field).◌·◌ (scalar S.field c) (shift S.field (mono m) g)

      total : plus S.field w q ≡ v
      total = ap (λ u. plus k u q) is ∙ plus_assoc k v _ q ∙ ap (plus k v) (scale_neg k c has_c (shift k (mono m) g)) ∙ plus_zero k v

      coef_q : coef_at S.field q (times_key (mono m) s) ≡ scalar S.field a
      coef_q = coef_at_act k (scalar k c) (shift k (mono m) g) (times_key (mono m) s) ∙ ap ((scalars k).◌*◌ (scalar k c)) (coef_shift k (mono m) g s ∙ cg) ∙ quotient_value a b i ha hb hi one

      same : coef_at S.field q (times_key (mono m) s) ≡ coef_at S.field v (times_key (mono m) s)
      same = coef_q ∙ sym (ap (coef_at k v) e ∙ cv)

      not_zero : ¬ (scalar S.field c ≡ (scalars S.field).zero)
      not_zero z = lv.there (cv ∙ sym coef_q ∙ coef_at_act k (scalar k c) (shift k (mono m) g) (times_key (mono m) s) ∙ ap (λ x. (scalars k).◌*◌ x (coef_at k (shift k (mono m) g) (times_key (mono m) s))) z ∙ rings.zero_mul (scalars k) _)

      lead_q : LeadBy S.field (key_order S) q (times_key (mono m) s)
      lead_q = lead_act k o (scalar k c) not_zero (shift k (mono m) g) (times_key (mono m) s) (lead_shift S (mono m) g s lg)

  -- the multiple that has the lead coefficient 1
  pub monic : (v u : Vect S.field) (s l : Key) (b i : E) (m : List ℕ) → LeadBy S.field (key_order S) v s → coef_at S.field v s ≡ scalar S.field b
      → Has S.field b → Has S.field i → S.field.mul b i ≡ S.field.one → times_key (mono m) s ≡ l
      → u ≡ scale S.field i (shift S.field (mono m) v) → IsMonicMultiple S v s l u
  unfolding scale
  monic v u s l b i m lv cv hb hi one e is = record {
    factor = scalar k i;
    monomial = mono m;
    lead = lv;
    monic = ap ((scalars k).◌*◌ (scalar k i)) cv ∙ (scalars k).mul_comm _ _ ∙ sym (scalar_mul k b i hb hi) ∙ ap (scalar k) one ∙ scalar_one k;
    reaches = e;
    is = is;
  }

  -- the weight of a list of exponents is that of its monomial
  pub weight_of : (m : List ℕ) → length m ≡ length S.weights → weighted_degree S.weights m ≡ weight S.weights 0 (mono m).0
  weight_of m wide = sym (weight_weighted_degree S.weights 0 m wide) ∙ sym (weight_ext S.weights 0 (mono m).0 m (exponent_mono m))

  -- a multiple of a homogeneous vector whose lead has a bounded degree has room
  pub room_under : {M : Type 0} (exps : M → List ℕ) → AllPositive S.weights → (cap d : ℕ) (s t : Key) (m : List ℕ) (g : List (Term E M)) → length m ≡ length S.weights → times_key (mono m) s ≡ t
      → degree S t ≤ cap → IsVector S exps g → IsHomogeneous S d (vector_of S exps g) → LeadBy S.field (key_order S) (vector_of S exps g) s → HasRoomAt cap exps m g
  unfolding coef_at
  room_under exps positive cap d s t m g wide e low fits hom lead =
      let here : weighted_degree S.weights m ≡ weight S.weights 0 (mono m).0 = weight_of m wide in
      let sum : degree S t ≡ weight S.weights 0 (mono m).0 + degree S s = ap (degree S) (sym e) ∙ degree_times_key S (mono m) s in
      let at : degree S s ≡ d = hom s lead.there in
      room_at S positive exps cap (weighted_degree S.weights m) d m g (omega arith) wide (omega arith) fits (λ x n. let y = hom x n in omega arith)

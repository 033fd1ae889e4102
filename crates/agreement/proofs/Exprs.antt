-- The code of an expression does what its evaluation does.
use Rattle.std.proofs.Common.{◌≡◌, ℕ, suc, ◌+◌, ◌≤◌, Bool, true, false, ◌&&◌, List, [], ◌∷◌, ◌++◌, get_or, set, ℤ, pos, Some, None, Ok, Err, Option, Result, sym, refl, ap, ◌∙◌, subst, arith, length-set}
use Rattle.std.proofs.lemmas.List.{get_or-set_same, get_or-set_other}
use Rattle.tosca.specs.declared.operators.SimpleType.{SimpleType}
use Rattle.tosca.specs.declared.operators.SimpleType.TheVariants.{Boolean}
use Rattle.tosca.specs.declared.operators.Value.{Value}
use Rattle.tosca.specs.declared.operators.Unary.{Unary}
use Rattle.tosca.specs.declared.operators.Unary.TheVariants.{Negate, Not}
use Rattle.tosca.specs.declared.operators.Binary.{Binary}
use Rattle.tosca.specs.declared.operators.Binary.TheVariants.{Add, Subtract, Multiply, Divide, Round, Less, Greater, Equal, And, Or}
use Rattle.tosca.specs.declared.operators.Cause.{Cause}
use Rattle.tosca.specs.Arithmetic.{unary, binary, bit}
use Rattle.tosca.specs.Trees.{Expr, const, var, uny, bin}
use Rattle.aida.specs.declared.instructions.Instruction.TheVariants.{LoadConst, LoadVar, Store, UnaryOp, BinaryOp}
use Rattle.aida.specs.declared.instructions.Coded.{Coded}
use Rattle.tosca.specs.Types.{value_type, same_type, unary_type, binary_takes, binary_gives}
use Rattle.aida.specs.Values.{number, value_of}
use Rattle.aida.specs.Source.{Variables, Evaluated, value, read, on_value, computed, only_if, eval_unary, eval_binary, eval}
use Rattle.aida.specs.Machine.{Machine, operated, perform, step, Reach, here}
use Rattle.aida.specs.Templates.{coded, expr_length, expr_code}
use Rattle.statics.specs.Temporaries.{need}
use Rattle.agreement.specs.Premises.{ExprNames}
use Rattle.agreement.specs.Simulation.{Sits, cell_of, Agrees, Keeps, placed, ExprRuns, yields, faults, unsaid, ExprSimulation}
use Rattle.aida.proofs.Runs.{then, one}
use Rattle.aida.proofs.Codes.{step_at, length_expr_code}
use Rattle.agreement.proofs.Sits.{sits_left, sits_right}

pub keeps_refl : (c : ℕ) (cs : List ℤ) → Keeps c cs cs
keeps_refl c cs = record { long = refl; keeps = λ k h. refl }

keeps_trans : {c : ℕ} {xs ys zs : List ℤ} → Keeps c xs ys → Keeps c ys zs → Keeps c xs zs
keeps_trans p q = record { long = q.long ∙ p.long; keeps = λ k h. q.keeps k h ∙ p.keeps k h }

keeps_less : {c d : ℕ} {xs ys : List ℤ} → c ≤ d → Keeps d xs ys → Keeps c xs ys
keeps_less le p = record { long = p.long; keeps = λ k h. p.keeps k (omega arith) }

keeps_set : (c : ℕ) (cs : List ℤ) (z : ℤ) → Keeps c cs (set cs c z)
keeps_set c cs z = record { long = length-set cs c z; keeps = λ k h. get_or-set_other cs c k z (pos 0) (omega arith) }

pub agrees_keeps : {s : Variables} {start cs ds : List ℤ} {c : ℕ} → 64 ≤ c → Agrees start s cs → Keeps c cs ds → Agrees start s ds
agrees_keeps le h k = record { long = k.long ∙ h.long; holds = λ x lt. k.keeps x (omega arith) ∙ h.holds x lt }

-- what the arithmetic gives is the number of the value that the source run has
bit_again : (b : Bool) → number (value_of Boolean (bit b)) ≡ bit b
bit_again true = refl
bit_again false = refl

bit_exact : (b : Bool) (z : ℤ) → ◌≡◌ {A = Result ℤ Cause} (Ok (bit b)) (Ok z) → number (value_of Boolean z) ≡ z
bit_exact b z e = let f : bit b ≡ z = cc in subst (λ y. number (value_of Boolean y) ≡ y) f (bit_again b)

unary_exact : (o : Unary) (a z : ℤ) → unary o a ≡ Ok z → number (value_of (unary_type o) z) ≡ z
unary_exact Negate a z e = refl
unary_exact Not a z e = bit_exact _ z e

binary_exact : (o : Binary) (a b z : ℤ) → binary o a b ≡ Ok z → number (value_of (binary_gives o) z) ≡ z
binary_exact Add a b z e = refl
binary_exact Subtract a b z e = refl
binary_exact Multiply a b z e = refl
binary_exact Divide a b z e = refl
binary_exact Round a b z e = refl
binary_exact Less a b z e = bit_exact _ z e
binary_exact Greater a b z e = bit_exact _ z e
binary_exact Equal a b z e = bit_exact _ z e
binary_exact And a b z e = bit_exact _ z e
binary_exact Or a b z e = bit_exact _ z e

module _ (code : List Coded) (limit allowed : ℕ) (m : Machine) where
  -- steps in front
  before : {c : ℕ} {cs xs : List ℤ} {a b : Machine} {q : ℕ} {r : Evaluated} → Reach code limit allowed a b → Keeps c cs xs → ExprRuns code limit allowed m c xs b q r → ExprRuns code limit allowed m c cs a q r
  before w k (yields ds u h) = yields ds (then code limit allowed w u) (keeps_trans k h)
  before w k (faults ds u t h) = faults ds (then code limit allowed w u) t (keeps_trans k h)
  before w k unsaid = unsaid

  -- code after code
  after : {c : ℕ} {cs : List ℤ} {a : Machine} {q₁ q : ℕ} {r : Evaluated} (k : Value → Evaluated) → ExprRuns code limit allowed m c cs a q₁ r
      → ((v : Value) (ds : List ℤ) → Keeps c cs ds → ExprRuns code limit allowed m c ds (placed m q₁ (number v) ds) q (k v)) → ExprRuns code limit allowed m c cs a q (on_value r k)
  unfolding on_value
  after k (yields {v} ds u h) f = before u h (f v ds h)
  after k (faults ds u t h) f = faults ds u t h
  after k unsaid f = unsaid

  lower : {c b q : ℕ} {cs : List ℤ} {a : Machine} {r : Evaluated} → b ≤ c → ExprRuns code limit allowed m c cs a q r → ExprRuns code limit allowed m b cs a q r
  lower le (yields ds u h) = yields ds u (keeps_less le h)
  lower le (faults ds u t h) = faults ds u t (keeps_less le h)
  lower le unsaid = unsaid

  -- one instruction that leaves a value
  loaded : (c p q : ℕ) (a : ℤ) (cs : List ℤ) (v : Value) → q ≡ suc p → step code limit allowed (placed m p a cs) ≡ placed m (suc p) (number v) cs → ExprRuns code limit allowed m c cs (placed m p a cs) q (value v)
  loaded c p q a cs v e s = yields cs (one code limit allowed (s ∙ ap (λ (k : ℕ). placed m k (number v) cs) (sym e)) refl) (keeps_refl c cs)

  loaded_cell : (c p q : ℕ) (a : ℤ) (cs : List ℤ) (o : Option Value) (old z : ℤ) → z ≡ cell_of o old → q ≡ suc p → step code limit allowed (placed m p a cs) ≡ placed m (suc p) z cs → ExprRuns code limit allowed m c cs (placed m p a cs) q (read o)
  loaded_cell c p q a cs None old z e eq s = unsaid
  loaded_cell c p q a cs (Some v) old z e eq s = loaded c p q a cs v eq (s ∙ ap (λ (y : ℤ). placed m (suc p) y cs) e)

  -- one operator
  operates : (c p q : ℕ) (a : ℤ) (cs : List ℤ) (n : ℕ) (b : Bool) (t : SimpleType) (r : Result ℤ Cause) → ((z : ℤ) → r ≡ Ok z → number (value_of t z) ≡ z) → q ≡ suc p → step code limit allowed (placed m p a cs) ≡ operated n (placed m p a cs) r
      → ExprRuns code limit allowed m c cs (placed m p a cs) q (only_if b (computed n t r))
  unfolding operated computed only_if
  operates c p q a cs n false t r f e s = unsaid
  operates c p q a cs n true t (Ok z) f e s = loaded c p q a cs (value_of t z) e (s ∙ ap (λ (y : ℤ). placed m (suc p) y cs) (sym (f z refl)))
  operates c p q a cs n true t (Err k) f e s = faults cs here s (keeps_refl c cs)

  module _ (start : List ℤ) (s : Variables) where
    pub expr_runs : (e : Expr ℕ) (c p q : ℕ) (a : ℤ) (cs : List ℤ) → Sits code p (expr_code c e) → q ≡ p + expr_length e → ExprNames e → 64 ≤ c → c + need e ≤ 96 → Agrees start s cs
        → ExprRuns code limit allowed m c cs (placed m p a cs) q (eval s e)
    unfolding expr_code expr_length need eval perform operated
    expr_runs (const n v) c p q a cs w eq nm lo hi h =
        loaded c p q a cs v (omega arith) (step_at code limit allowed (placed m p a cs) (coded n (LoadConst (number v))) refl w.0)
    expr_runs (var n x) c p q a cs w eq nm lo hi h =
        loaded_cell c p q a cs (s x) (get_or start x (pos 0)) (get_or cs x (pos 0)) (h.holds x nm) (omega arith) (step_at code limit allowed (placed m p a cs) (coded n (LoadVar x)) refl w.0)
    expr_runs (uny n o e) c p q a cs w eq nm lo hi h =
        let p₁ = p + expr_length e in
        after (eval_unary n o) (expr_runs e c p p₁ a cs (sits_left code (expr_code c e) (coded n (UnaryOp o) ∷ []) p w) refl nm lo hi h)
        (λ v ds k. operates c p₁ q (number v) ds n (same_type (value_type v) (unary_type o)) (unary_type o) (unary o (number v)) (unary_exact o (number v)) (omega arith)
        (step_at code limit allowed (placed m p₁ (number v) ds) (coded n (UnaryOp o)) refl (sits_right code (expr_code c e) (coded n (UnaryOp o) ∷ []) p p₁ (omega (arith, length_expr_code c e)) w).0))
    expr_runs (bin n l o r) c p q a cs w eq nm lo hi h =
        let pr = p + expr_length r in
        let pl = suc pr + expr_length l in
        let last = coded n (BinaryOp o c) ∷ [] in
        let w₂ = sits_right code (expr_code c r) (coded n (Store c) ∷ (expr_code (suc c) l ++ last)) p pr (omega (arith, length_expr_code c r)) w in
        after (λ y. on_value (eval s l) (λ x. eval_binary n o x y)) (expr_runs r c p pr a cs (sits_left code (expr_code c r) (coded n (Store c) ∷ (expr_code (suc c) l ++ last)) p w) refl nm.1 lo (omega arith) h)
        (λ y ds k.
        let hd = agrees_keeps lo h k in
        let es = set ds c (number y) in
        let ke = keeps_set c ds (number y) in
        before (one code limit allowed (step_at code limit allowed (placed m pr (number y) ds) (coded n (Store c)) refl w₂.0) refl) ke
        (lower (omega arith)
        (after (λ x. eval_binary n o x y) (expr_runs l (suc c) (suc pr) pl (number y) es (sits_left code (expr_code (suc c) l) last (suc pr) w₂.1) refl nm.0 (omega arith) (omega arith) (agrees_keeps lo hd ke))
        (λ x fs k₂.
        let z : get_or fs c (pos 0) ≡ number y = k₂.keeps c (omega arith) ∙ get_or-set_same ds c (number y) (pos 0) (omega (arith, hd.long)) in
        operates (suc c) pl q (number x) fs n (same_type (value_type x) (binary_takes o) && same_type (value_type y) (binary_takes o)) (binary_gives o) (binary o (number x) (number y)) (binary_exact o (number x) (number y)) (omega arith)
        (step_at code limit allowed (placed m pl (number x) fs) (coded n (BinaryOp o c)) refl (sits_right code (expr_code (suc c) l) last (suc pr) pl (omega (arith, length_expr_code (suc c) l)) w₂.1).0
        ∙ ap (λ (u : ℤ). operated n (placed m pl (number x) fs) (binary o (number x) u)) z)))))

pub expr_simulation : ExprSimulation
expr_simulation code limit allowed m start s e c p a cells w nm lo hi h = expr_runs code limit allowed m start s e c p (p + expr_length e) a cells w refl nm lo hi h
